-- The heads of functions: what is read stands there.
use Rattle.std.proofs.Common.{◌≡◌, ℕ, ◌≤◌, Bool, true, false, not, ◌&&◌, [], ◌∷◌, drop, codes, Option, Some, None, if◌then◌else◌, refl, arith, ap, inl, inr, max}
use Rattle.std.proofs.lemmas.Bool.{and_from}
use Rattle.lay_token.specs.Operators.{is_op}
use Rattle.lay_form.proofs.FormLaws.{deeper as raise}
use Rattle.lay_form.specs.Form.{Blank, Done, Fixed, Form, Operator, Part, Piece, keyword}
use Rattle.lay_form.specs.Notation.{when}
use Rattle.lay_form.specs.Spelled.{IsOperator, Spells}
use Rattle.lay_node.specs.Ahead.{Tokens, first, is_keyword, tail}
use Rattle.lay_node.specs.Words.{is_name}
use Rattle.lay_node.specs.nodes.Functions as functions
use Rattle.lay_node.specs.nodes.Functions.{about_fn_head, are_fn_params, fn_params_form, is_fn_head, may_be_type, may_say, output_follows, safety_form, signature_form}
use Rattle.lay_node.specs.nodes.Generics.{generics_form, is_generics}
use Rattle.lay_node.specs.nodes.Types.{abi_form, is_abi}
use Rattle.lay_node.specs.reader.Exact.{InText}
use Rattle.lay_node.specs.reader.Functions as reader
use Rattle.lay_node.specs.reader.Functions.{const_flag, async_flag, fn_head, fn_params, safety_behind}
use Rattle.lay_node.specs.reader.Generics.{generics}
use Rattle.lay_node.specs.reader.Loops.{passed}
use Rattle.lay_node.specs.reader.Types.{Within, abi, if_there}
use Rattle.lay_node.specs.reader.Words.{name}
use Rattle.lay_node.specs.declared.functions.FnHead.{FnHead}
use Rattle.lay_node.specs.declared.functions.Safety.TheVariants as safety
use Rattle.lay_node.specs.declared.functions.Safety.{Safety}
use Rattle.lay_node.specs.declared.heads.Site.{Site}
use Rattle.lay_node.specs.declared.types.Ty.{Ty}
use Rattle.lay_node.specs.declared.types.TypePlace.TheVariants.{Bounds}
use Rattle.lay_node.proofs.Fronts.{keyword_one}
use Rattle.lay_node.proofs.Parts.{leaf_spelled, word_kind}
use Rattle.lay_node.proofs.Steps.{bind_some, chosen, same_some}
use Rattle.lay_node.proofs.reader.FunctionsSoundParams.{fn_params_sound, word_bits}
use Rattle.lay_node.proofs.reader.HeadParts.{generics_held}
use Rattle.lay_node.proofs.reader.HeadsLevel.{SoundHead, Stood}
use Rattle.lay_node.proofs.reader.Loops.{SoundStep}
use Rattle.lay_node.proofs.reader.TypesSoundFuncs.{abi_if_sound}
use Rattle.lay_node.proofs.reader.TypesSoundLevel.{SoundWithin}
use Rattle.lay_node.proofs.reader.TypesSoundParts.{Leads, Out, bit_texts, flag_leads, flag_texts, if_read_sound, keyword_passed_is}
use Rattle.lay_node.proofs.reader.Words.{name_sound}

-- ---- what stands before `fn`

-- what it says of its safety, by the two tests
abbrev safety_by : Bool → Bool → Tokens → Option Safety × Tokens
safety_by b c ts = if b then (Some safety.Unsafe, tail ts) else (if c then (Some safety.Safe, tail ts) else (None, ts))

abbrev SafetyLeads : Option Safety × Tokens → Tokens → Type 0
SafetyLeads x ts = Leads (safety_form x.0) ts x.1 × (InText ts → InText x.1)

safety_leads : (b c : Bool) (ts : Tokens) → first (is_keyword (codes "unsafe")) ts ≡ b → first (is_keyword (codes "safe")) ts ≡ c
    → SafetyLeads (safety_by b c ts) ts
safety_leads true c ts e d =
    let bits = word_bits (codes "unsafe") ts e in
    ((λ f depth end s. (tail ts, bits, s)), λ t. bit_texts (keyword (codes "unsafe")) ts (tail ts) (keyword_one (codes "unsafe") ts e) t)
safety_leads false true ts e d =
    let bits = word_bits (codes "safe") ts d in
    ((λ f depth end s. (tail ts, bits, s)), λ t. bit_texts (keyword (codes "safe")) ts (tail ts) (keyword_one (codes "safe") ts d) t)
safety_leads false false ts e d = ((λ f depth end s. s), λ t. t)

-- ---- what follows the parameters

module _ (budget : ℕ) (inner : Within) (sound : SoundWithin budget inner) where
  abbrev OutputHeld : Option Ty × ℕ → Tokens → Tokens → Type 0
  OutputHeld x ts rest =
      (x.1 ≤ budget) × Spells (functions.head_output x.0) x.1 ts rest × (may_be_type x.0 ≡ true) × (output_follows x.0 rest ≡ true)

  output_held : SoundStep (reader.head_output inner) OutputHeld
  output_held ts x rest t h =
      if_read_sound OutputHeld (λ us. inner.types Bounds (drop 2 us)) (is_op (codes "->") ts) ts
      (λ b y mid e.
      let at = drop 2 ts in
      let o : IsOperator (codes "->") ts at = (b, refl) in
      let s = sound.types Bounds at y mid (bit_texts (Operator (codes "->")) ts at o t) e in
      ((s.0.0, (at, (ts, refl, (at, o, (at, refl, refl))), (mid, s.0.1, refl)), s.0.2, s.0.3), s.1))
      (λ b. (omega arith, refl, refl, ap not b)) t x rest h

-- ---- all of it

none_read : {A : Type 0} (x : A) → ◌≡◌ {A = Option A} None (Some x) → ⊥
none_read x h = cc

module _ (site : Site) where
  -- what is read stands there, wherever what is within it is
  pub fn_head_sound : SoundHead (about_fn_head site) (fn_head site)
  unfolding fn_head
  fn_head_sound budget inner sound ts x rest t h =
      let before = safety_behind ts in
      let a = bind_some (if_there (first (is_keyword (codes "extern")) before.1) abi before.1) _ _ h in
      let k = bind_some (passed (is_keyword (codes "fn")) a.0.1) _ _ a.2 in
      let n = bind_some (name k.0) _ _ k.2 in
      let g = bind_some (generics inner.kinds n.0.1) _ _ n.2 in
      let ps = bind_some (fn_params inner g.0.1) _ _ g.2 in
      let o = bind_some (reader.head_output inner.kinds ps.0.1) _ _ ps.2 in
      let end = o.0.1 in
      let is_const = (const_flag ts).0 in
      let behind_const = (const_flag ts).1 in
      let is_async = (async_flag behind_const).0 in
      let behind_async = (async_flag behind_const).1 in
      let const_bits = keyword (codes "const") ∷ Blank ∷ [] in
      let async_bits = keyword (codes "async") ∷ Blank ∷ [] in
      let const_are = word_bits (codes "const") ts in
      let async_are = word_bits (codes "async") behind_const in
      let safety = safety_leads (first (is_keyword (codes "unsafe")) behind_async) (first (is_keyword (codes "safe")) behind_async) behind_async refl refl in
      let const_left = flag_texts (is_keyword (codes "const")) const_bits ts const_are t in
      let async_left = flag_texts (is_keyword (codes "async")) async_bits behind_const async_are const_left in
      let extern = abi_if_sound before.1 a.0.0 a.0.1 (safety.1 async_left) a.1 in
      let word = keyword_passed_is (codes "fn") a.0.1 k.0 k.1 in
      let i = name_sound k.0 n.0.0 n.0.1 n.1 in
      let raw = n.0.0.raw in
      let text = n.0.0.text in
      let named = bit_texts (Fixed (word_kind raw) text) k.0 n.0.1 i.0 (bit_texts (keyword (codes "fn")) a.0.1 k.0 word extern.1) in
      let generic = generics_held budget inner.kinds sound.kinds n.0.1 g.0.0 g.0.1 named g.1 in
      let params = fn_params_sound budget inner sound g.0.1 ps.0.0 ps.0.1 generic.1 ps.1 in
      let output = output_held budget inner.kinds sound.kinds ps.0.1 o.0.0 end params.1 o.1 in
      let gs = g.0.0.0.0 in
      let qs = ps.0.0.0 in
      let y = o.0.0.0 in
      let most = max g.0.0.1 (max ps.0.0.1 o.0.0.1) in
      let head : FnHead = record {
        is_const = is_const;
        is_async = is_async;
        safety = before.0;
        abi = a.0.0;
        name = n.0.0;
        generics = gs;
        params = qs;
        output = y;
      } in
      let parts : Form = Part (generics_form gs) (Part (fn_params_form qs) (Part (functions.head_output y) Done)) in
      let signature : Spells (signature_form head) most k.0 end =
      leaf_spelled raw text parts most k.0 n.0.1 end i.0 (
        g.0.1,
        raise (generics_form gs) g.0.0.1 most n.0.1 g.0.1 (omega arith) generic.0.1,
        (
          ps.0.1,
          raise (fn_params_form qs) ps.0.0.1 most g.0.1 ps.0.1 (omega arith) params.0.1,
          (end, raise (functions.head_output y) o.0.0.1 most ps.0.1 end (omega arith) output.0.1, refl),
        ),
      ) in
      let F : Form = Piece (keyword (codes "fn") ∷ Blank ∷ []) (signature_form head) in
      let G : Form = abi_form a.0.0 F in
      let H : Form = safety_form before.0 G in
      let inside = extern.0.0 F most end (k.0, (k.0, word, (k.0, refl, refl)), signature) in
      let safe = safety.0 G most end inside in
      let spelled = flag_leads (is_keyword (codes "const")) const_bits ts const_are (when is_async async_bits H) most end
      (flag_leads (is_keyword (codes "async")) async_bits behind_const async_are H most end safe) in
      elim (chosen (may_say site before.0) _ _ _ o.2) [
        | inl m ↦
            let say = may_say site before.0 in
            let first_two = and_from say (is_abi a.0.0) m.0 extern.0.1 in
            let three = and_from (say && is_abi a.0.0) (is_name raw text) first_two i.1 in
            let four = and_from (say && is_abi a.0.0 && is_name raw text) (is_generics gs) three generic.0.2 in
            let five = and_from (say && is_abi a.0.0 && is_name raw text && is_generics gs) (are_fn_params qs) four params.0.2 in
            let good : is_fn_head site head ≡ true =
            and_from (say && is_abi a.0.0 && is_name raw text && is_generics gs && are_fn_params qs) (may_be_type y) five output.0.2 in
            same_some (Out (Stood (about_fn_head site) budget) ts) ((head, most), end) (x, rest) m.1
            ((omega (arith, generic.0.0, params.0.0, output.0.0), spelled, good, output.0.3), output.1)
        | inr m ↦ absurd (none_read (x, rest) m.1)
      ]
