-- Parameters of functions: what is read stands there, where what is one level deeper is read so.
use Rattle.std.proofs.Common.{◌≡◌, ℕ, ◌≤◌, Bool, true, false, not, ◌&&◌, [], ◌∷◌, drop, codes, Option, Some, refl, sym, subst, arith, List, inl, inr, map, max}
use Rattle.std.specs.List.{list_all}
use Rattle.std.proofs.lemmas.Bool.{and_from, and_parts}
use Rattle.lay_piece.specs.declared.kind.Delim.TheVariants.{Paren}
use Rattle.lay_piece.specs.declared.kind.Kind.TheVariants as kind
use Rattle.lay_token.specs.Operators.{is_op}
use Rattle.lay_form.proofs.FormLaws.{deeper as raise}
use Rattle.lay_form.specs.Form.{Blank, Done, Fixed, Form, Operator, Part, Piece, closer, keyword, opener}
use Rattle.lay_form.specs.Notation.{comma_list, piece, when}
use Rattle.lay_form.specs.Spelled.{AreBits, IsBit, IsOperator, Spells}
use Rattle.lay_node.specs.Ahead.{Tokens, closes, first, is_keyword, is_lifetime, is_mark, opens, tail}
use Rattle.lay_node.specs.nodes.Attr.{are_attrs}
use Rattle.lay_node.specs.nodes.Functions.{are_fn_params, ends_variadic, fn_param_form, fn_params_form, is_fn_param, is_param_kind, may_be_type, mut_word, param_kind_form, receives_first, self_type, self_word, varies_last}
use Rattle.lay_node.specs.nodes.Patterns.{about_pat, pat_form, pat_good}
use Rattle.lay_node.specs.nodes.Types.{about_type, good_at, ref_lifetime}
use Rattle.lay_node.specs.reader.Attr.{attributes}
use Rattle.lay_node.specs.reader.Exact.{InText}
use Rattle.lay_node.specs.reader.Functions.{are_in_order, begins_fn_param, begins_own_self, begins_ref_self, behind_lifetime, ends_param, fn_param, fn_params, is_self_by_ref, mut_flag, own_self, param_kind, ref_self, typed}
use Rattle.lay_node.specs.reader.Loops.{deepest, nodes, open_elements, passed}
use Rattle.lay_node.specs.reader.Patterns.{PatWithin}
use Rattle.lay_node.specs.reader.Types.{if_read, if_there, lifetime, operator}
use Rattle.lay_node.specs.declared.functions.Param.{Param}
use Rattle.lay_node.specs.declared.functions.ParamKind.TheVariants as param
use Rattle.lay_node.specs.declared.functions.ParamKind.{ParamKind}
use Rattle.lay_node.specs.declared.patterns.PatPlace.TheVariants.{Single}
use Rattle.lay_node.specs.declared.token.Lifetime.{Lifetime}
use Rattle.lay_node.specs.declared.types.Ty.{Ty}
use Rattle.lay_node.specs.declared.types.TypePlace.TheVariants.{Bounds}
use Rattle.lay_node.proofs.Fronts.{closer_passed_is, keyword_one, mark_one, opener_passed_is}
use Rattle.lay_node.proofs.Parts.{Further, SpelledAt, rows_map}
use Rattle.lay_node.proofs.Steps.{bind_some, chosen, same_some}
use Rattle.lay_node.proofs.reader.Attr.{attributes_sound}
use Rattle.lay_node.proofs.reader.Loops.{SoundStep}
use Rattle.lay_node.proofs.reader.PatternsSoundLevel.{SoundPatWithin}
use Rattle.lay_node.proofs.reader.TypesCompleteParts.{one_left}
use Rattle.lay_node.proofs.reader.TypesSoundNeeds.{list_held}
use Rattle.lay_node.proofs.reader.TypesSoundOpen.{OpenBy, open_held, open_shut, open_sound, shut_list}
use Rattle.lay_node.proofs.reader.TypesSoundParts.{Leads, Out, attrs_good, bit_texts, flag_leads, flag_texts, if_read_sound, if_there_sound, lifetime_sound, operator_is, param_attrs_leads}

-- ---- what is held of those that are read

-- What a parameter is, or a parameter, is spelled at the depth that stands with it, which is within the budget.
abbrev pub KindHeld : ℕ → ParamKind × ℕ → Tokens → Tokens → Type 0
KindHeld budget x ts rest = (x.1 ≤ budget) × Spells (param_kind_form x.0) x.1 ts rest × (is_param_kind x.0 ≡ true)

abbrev pub ParamHeld : ℕ → Param × ℕ → Tokens → Tokens → Type 0
ParamHeld budget x ts rest = (x.1 ≤ budget) × Spells (fn_param_form x.0) x.1 ts rest × (is_fn_param x.0 ≡ true)

-- ---- receivers

-- a lifetime after a `&`
abbrev LifetimeLeads : Option Lifetime → Tokens → Tokens → Type 0
LifetimeLeads l ts rest = Leads (ref_lifetime l) ts rest × (behind_lifetime ts ≡ rest)

lifetime_if_sound : (ts : Tokens) (x : Option Lifetime) (rest : Tokens) → InText ts
    → if_there (first is_lifetime ts) lifetime ts ≡ Some (x, rest) → Out LifetimeLeads ts (x, rest)
lifetime_if_sound ts x rest t h =
    if_there_sound LifetimeLeads lifetime (first is_lifetime ts) ts
    (λ b y mid e.
    let s = lifetime_sound ts y mid t e in
    let left : behind_lifetime ts ≡ mid = rw (b, behind_lifetime) (one_left kind.Lifetime y.text ts mid s.0) in
    (((λ f depth end r. (mid, (mid, s.0, refl), (mid, (mid, refl, refl), r))), left), s.1))
    (λ b. ((λ f depth end r. r), rw (b, behind_lifetime) refl)) t x rest h

-- a word with a blank after it
pub word_bits : (word : List ℕ) (ts : Tokens) → first (is_keyword word) ts ≡ true → AreBits (keyword word ∷ Blank ∷ []) ts (tail ts)
word_bits word ts e = (tail ts, keyword_one word ts e, (tail ts, refl, refl))

mut_leads : (ts : Tokens) → Leads (when (mut_flag ts).0 mut_word) ts (mut_flag ts).1
mut_leads ts = flag_leads (is_keyword (codes "mut")) mut_word ts (word_bits (codes "mut") ts)

mut_texts : (ts : Tokens) → InText ts → InText (mut_flag ts).1
mut_texts ts t = flag_texts (is_keyword (codes "mut")) mut_word ts (word_bits (codes "mut") ts) t

ref_self_sound : (budget : ℕ) (ts : Tokens) (k : ParamKind) (rest : Tokens) → InText ts → begins_ref_self ts ≡ true
    → ref_self (tail ts) ≡ Some (k, rest) → Out (KindHeld budget) ts ((k, 0), rest)
unfolding ref_self
ref_self_sound budget ts k rest t g h =
    let behind = tail ts in
    let l = bind_some (if_there (first is_lifetime behind) lifetime behind) _ _ h in
    let b = and_parts (first (is_mark (codes "&")) ts) (is_self_by_ref (mut_flag (behind_lifetime behind)).1) g in
    let mark = mark_one (codes "&") ts b.0 in
    let s = lifetime_if_sound behind l.0.0 l.0.1 (bit_texts (Fixed kind.Punct (codes "&")) ts behind mark t) l.1 in
    let mutable = (mut_flag l.0.1).0 in
    let at = (mut_flag l.0.1).1 in
    let end = tail at in
    let there : is_self_by_ref at ≡ true = subst (λ us. is_self_by_ref (mut_flag us).1 ≡ true) s.0.1 b.1 in
    let word = keyword_one (codes "self") at (and_parts (first (is_keyword (codes "self")) at) (ends_param end) there).0 in
    let F : Form = piece self_word in
    let spelled : Spells (param_kind_form (param.RefSelf l.0.0 mutable)) 0 ts end = (
      behind,
      (behind, mark, refl),
      s.0.0 (when mutable mut_word F) 0 end (mut_leads l.0.1 F 0 end (end, (end, word, refl), refl)),
    ) in
    same_some (λ (r : ParamKind × Tokens). Out (KindHeld budget) ts ((r.0, 0), r.1)) (param.RefSelf l.0.0 mutable, end) (k, rest) l.2
    ((omega arith, spelled, refl), bit_texts (keyword (codes "self")) at end word (mut_texts l.0.1 s.1))

module _ (budget : ℕ) (within : PatWithin) (sound : SoundPatWithin budget within) where
  -- the type of a receiver, if it has one
  abbrev TypeIf : Option Ty × ℕ → Tokens → Tokens → Type 0
  TypeIf x ts rest = (x.1 ≤ budget) × Spells (self_type x.0) x.1 ts rest × (may_be_type x.0 ≡ true)

  type_if_sound : (ts : Tokens) (x : Option Ty × ℕ) (rest : Tokens) → InText ts
      → if_read (is_op (codes ":") ts) (λ us. within.kinds.types Bounds (drop 1 us)) ts ≡ Some (x, rest) → Out TypeIf ts (x, rest)
  type_if_sound ts x rest t h =
      if_read_sound TypeIf (λ us. within.kinds.types Bounds (drop 1 us)) (is_op (codes ":") ts) ts
      (λ b y mid e.
      let at = drop 1 ts in
      let o : IsOperator (codes ":") ts at = (b, refl) in
      let s = sound.kinds.types Bounds at y mid (bit_texts (Operator (codes ":")) ts at o t) e in
      ((s.0.0, (at, (at, o, (at, refl, refl)), (mid, s.0.1, refl)), s.0.2), s.1))
      (λ b. (omega arith, refl, refl)) t x rest h

  own_self_sound : (ts : Tokens) (x : ParamKind × ℕ) (rest : Tokens) → InText ts → begins_own_self ts ≡ true
      → own_self within.kinds ts ≡ Some (x, rest) → Out (KindHeld budget) ts (x, rest)
  unfolding own_self
  own_self_sound ts x rest t g h =
      let mutable = (mut_flag ts).0 in
      let at = (mut_flag ts).1 in
      let end = tail at in
      let y = bind_some (if_read (is_op (codes ":") end) (λ us. within.kinds.types Bounds (drop 1 us)) end) _ _ h in
      let word = keyword_one (codes "self") at (and_parts (first (is_keyword (codes "self")) at) _ g).0 in
      let s = type_if_sound end y.0.0 y.0.1 (bit_texts (keyword (codes "self")) at end word (mut_texts ts t)) y.1 in
      let F : Form = Piece self_word (self_type y.0.0.0) in
      let spelled = mut_leads ts F y.0.0.1 y.0.1 (end, (end, word, refl), s.0.1) in
      same_some (Out (KindHeld budget) ts) ((param.OwnSelf mutable y.0.0.0, y.0.0.1), y.0.1) (x, rest) y.2
      ((s.0.0, spelled, s.0.2), s.1)

  -- ---- other kinds

  typed_sound : SoundStep (typed within) (KindHeld budget)
  unfolding typed
  typed_sound ts x rest t h =
      let p = bind_some (within.pats Single ts) _ _ h in
      let c = bind_some (operator (codes ":") p.0.1) _ _ p.2 in
      let at = c.0 in
      let s = sound.pats Single ts p.0.0 p.0.1 t p.1 in
      let need = p.0.0.1 in
      let told = about_pat p.0.0.0 in
      let o = operator_is (codes ":") p.0.1 at c.1 in
      let behind = bit_texts (Operator (codes ":")) p.0.1 at o s.1 in
      elim (chosen (is_op (codes "...") at) _ _ _ c.2) [
        | inl g ↦
            let end = drop 3 at in
            let d : IsOperator (codes "...") at end = (g.0, refl) in
            let bits : AreBits (Operator (codes ":") ∷ Blank ∷ Operator (codes "...") ∷ []) p.0.1 end =
            (at, o, (at, refl, (end, d, refl))) in
            same_some (Out (KindHeld budget) ts) ((param.NamedVariadic p.0.0.0, need), end) (x, rest) g.1
            ((s.0.0, (p.0.1, s.0.1, (end, bits, refl)), s.0.2), bit_texts (Operator (codes "...")) at end d behind)
        | inr g ↦
            let y = bind_some (within.kinds.types Bounds at) _ _ g.1 in
            let r = sound.kinds.types Bounds at y.0.0 y.0.1 behind y.1 in
            let most = max need y.0.0.1 in
            let shape = about_type y.0.0.0 in
            let spelled : Spells (param_kind_form (param.Typed p.0.0.0 y.0.0.0)) most ts y.0.1 = (
              p.0.1,
              raise (pat_form Single told) need most ts p.0.1 (omega arith) s.0.1,
              (
                at,
                (at, o, (at, refl, refl)),
                (y.0.1, raise shape.told.form y.0.0.1 most at y.0.1 (omega arith) r.0.1, refl),
              ),
            ) in
            same_some (Out (KindHeld budget) ts) ((param.Typed p.0.0.0 y.0.0.0, most), y.0.1) (x, rest) y.2
            ((omega (arith, s.0.0, r.0.0), spelled, and_from (pat_good Single told) (good_at Bounds shape) s.0.2 r.0.2), r.1)
      ]

  param_kind_sound : SoundStep (param_kind within) (KindHeld budget)
  unfolding param_kind
  param_kind_sound ts x rest t h = elim (chosen (begins_ref_self ts) _ _ _ h) [
    | inl g ↦
        let k = bind_some (ref_self (tail ts)) _ _ g.1 in
        same_some (Out (KindHeld budget) ts) ((k.0.0, 0), k.0.1) (x, rest) k.2 (ref_self_sound budget ts k.0.0 k.0.1 t g.0 k.1)
    | inr g ↦ elim (chosen (begins_own_self ts) _ _ _ g.1) [
      | inl f ↦ own_self_sound ts x rest t f.0 f.1
      | inr f ↦ elim (chosen (is_op (codes "...") ts) _ _ _ f.1) [
        | inl d ↦
            let end = drop 3 ts in
            let o : IsOperator (codes "...") ts end = (d.0, refl) in
            same_some (Out (KindHeld budget) ts) ((param.Variadic, 0), end) (x, rest) d.1
            ((omega arith, (end, (end, o, refl), refl), refl), bit_texts (Operator (codes "...")) ts end o t)
        | inr d ↦ typed_sound ts x rest t d.1
      ]
    ]
  ]

  fn_param_sound : SoundStep (fn_param within) (ParamHeld budget)
  unfolding fn_param
  fn_param_sound ts x rest t h =
      let a = bind_some (attributes false ts) _ _ h in
      let k = bind_some (param_kind within a.0.1) _ _ a.2 in
      let need = k.0.0.1 in
      let r = attributes_sound false need ts a.0.0 a.0.1 t a.1 in
      let s = param_kind_sound a.0.1 k.0.0 k.0.1 r.1 k.1 in
      let p : Param = record { attrs = a.0.0; kind = k.0.0.0 } in
      let F : Form = Part (param_kind_form p.kind) Done in
      let spelled = param_attrs_leads need a.0.0 ts a.0.1 r.0 F k.0.1 (k.0.1, s.0.1, refl) in
      let good = and_from (are_attrs false p.attrs) (is_param_kind p.kind) (attrs_good need a.0.0 ts a.0.1 r.0) s.0.2 in
      same_some (Out (ParamHeld budget) ts) ((p, need), k.0.1) (x, rest) k.2 ((s.0.0, spelled, good), s.1)

  -- ---- all of them

  abbrev ParamRows : List (Param × ℕ) → Bool → Tokens → Tokens → Type 0
  ParamRows ps last = OpenBy begins_fn_param (ParamHeld budget) ps last

  abbrev AreSpelled : Bool → List (Param × ℕ) → Tokens → Tokens → Type 0
  AreSpelled may ps ts rest =
      (deepest ps ≤ budget) × Spells (comma_list may (opener Paren) (closer Paren) (map fn_param_form (nodes ps))) (deepest ps) ts rest
      × (list_all is_fn_param (nodes ps) ≡ true)

  -- by whether the last of them takes further arguments
  listed_params : (ps : List (Param × ℕ)) (last : Bool) (ts inside end rest : Tokens) → IsBit (opener Paren) ts inside
      → ParamRows ps last inside end → IsBit (closer Paren) end rest → not (ends_variadic (nodes ps) && last) ≡ true
      → (variadic : Bool) → ends_variadic (nodes ps) ≡ variadic → AreSpelled (not variadic) ps ts rest
  listed_params ps last ts inside end rest o r c n false e =
      list_held budget fn_param_form is_fn_param (ParamHeld budget) (λ p us mid s. s) (opener Paren) (closer Paren) ps ts inside rest o
      (open_shut begins_fn_param (ParamHeld budget) (closer Paren) ps last inside end rest r c)
  listed_params [] last ts inside end rest o r c n true e = absurd (cc)
  listed_params (p ∷ ps) true ts inside end rest o r c n true e = let m : not (true && true) ≡ true = rw e at n in absurd (cc)
  listed_params (p ∷ ps) false ts inside end rest o r c n true e =
      let k =
      open_held begins_fn_param budget fn_param_form is_fn_param (ParamHeld budget) (λ q us mid s. s) (p ∷ ps) false inside end r in
      let most = deepest (p ∷ ps) in
      let one = k.0 in
      let behind = one.2 in
      let rows = rows_map fn_param_form (Further (SpelledAt most)) (nodes ps) one.0 behind.0 behind.1 in
      let close : IsBit (closer Paren) behind.0 rest = subst (λ us. IsBit (closer Paren) us rest) (sym behind.2.0) c in
      (k.1, shut_list (opener Paren) (closer Paren) (fn_param_form p.0) (map fn_param_form (nodes ps)) most ts inside one.0 behind.0 rest o one.1 rows close, k.2)

  abbrev pub ParamsHeld : List Param × ℕ → Tokens → Tokens → Type 0
  ParamsHeld x ts rest = (x.1 ≤ budget) × Spells (fn_params_form x.0) x.1 ts rest × (are_fn_params x.0 ≡ true)

  pub fn_params_sound : SoundStep (fn_params within) ParamsHeld
  unfolding fn_params
  fn_params_sound ts x rest t h =
      let o = bind_some (passed (opens Paren) ts) _ _ h in
      let ps = bind_some (open_elements begins_fn_param (fn_param within) o.0) _ _ o.2 in
      let c = bind_some (passed (closes Paren) ps.0.1) _ _ ps.2 in
      let mark = opener_passed_is Paren ts o.0 t o.1 in
      let r = open_sound begins_fn_param (fn_param within) (ParamHeld budget) (λ us p end i b e. fn_param_sound us p end i e)
      o.0 ps.0.0.0 ps.0.0.1 ps.0.1 (bit_texts (opener Paren) ts o.0 mark t) ps.1 in
      let read = ps.0.0.0 in
      let qs = nodes read in
      let last = ps.0.0.1 in
      let close = closer_passed_is Paren ps.0.1 c.0 r.1 c.1 in
      elim (chosen (are_in_order qs last) _ _ _ c.2) [
        | inl g ↦
            let order = and_parts (receives_first qs && varies_last qs) (not (ends_variadic qs && last)) g.0 in
            let two = and_parts (receives_first qs) (varies_last qs) order.0 in
            let l = listed_params read last ts o.0 ps.0.1 c.0 mark r.0 close order.1 (ends_variadic qs) refl in
            let good = and_from (list_all is_fn_param qs && receives_first qs) (varies_last qs)
            (and_from (list_all is_fn_param qs) (receives_first qs) l.2 two.0) two.1 in
            same_some (Out ParamsHeld ts) ((qs, deepest read), c.0) (x, rest) g.1
            ((l.0, l.1, good), bit_texts (closer Paren) ps.0.1 c.0 close r.1)
        | inr g ↦ absurd (cc g.1)
      ]
