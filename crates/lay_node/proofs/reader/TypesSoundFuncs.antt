-- Function types: what is read stands there, where what is one level deeper is read so.
use Rattle.std.proofs.Common.{◌≡◌, ℕ, suc, ◌≤◌, max, Bool, true, false, ◌&&◌, List, [], ◌∷◌, ◌++◌, map, drop, codes, Option, Some, None, is_some, if◌then◌else◌, refl, sym, subst, ◌∙◌, append-nil, arith}
use Rattle.std.proofs.lemmas.Bool.{and_parts, and_from}
use Rattle.lay_piece.specs.declared.kind.Delim.TheVariants.{Paren}
use Rattle.lay_piece.specs.declared.kind.Kind.TheVariants as kind
use Rattle.lay_token.specs.Operators.{is_op}
use Rattle.lay_form.specs.Form.{Blank, Fixed, Operator, Form, Done, Piece, Part, keyword, opener, closer}
use Rattle.lay_form.specs.Notation.{piece, when, comma_list}
use Rattle.lay_form.specs.Spelled.{IsOperator, IsBit, AreBits, Spells}
use Rattle.lay_form.proofs.FormLaws.{deeper as raise, is_end}
use Rattle.lay_node.specs.Ahead.{Tokens, first, tail, is_keyword, opens, closes}
use Rattle.lay_node.specs.nodes.Attr.{are_attrs}
use Rattle.lay_node.specs.nodes.Facts.{forms, all_good}
use Rattle.lay_node.specs.nodes.Types as types
use Rattle.lay_node.specs.nodes.Types.{good_at, is_param_name, func_param_facts, params_form, binder_form, is_binder, abi_form, is_abi, about_type, about_func_param}
use Rattle.lay_node.specs.reader.Attr.{attributes}
use Rattle.lay_node.specs.reader.Exact.{InText}
use Rattle.lay_node.specs.reader.Loops.{passed, nodes, deepest, open_elements}
use Rattle.lay_node.specs.reader.Types as reader
use Rattle.lay_node.specs.reader.Types.{Within, flag, if_there, abi, begins_given, func_param, begins_param, func_params, binder_if, output, func_type}
use Rattle.lay_node.specs.reader.Words.{given_name}
use Rattle.lay_node.specs.declared.token.GivenName.{GivenName}
use Rattle.lay_node.specs.declared.token.GivenName.TheVariants as given
use Rattle.lay_node.specs.declared.types.Abi.{Abi}
use Rattle.lay_node.specs.declared.types.FuncParam.{FuncParam}
use Rattle.lay_node.specs.declared.types.Ty.TheVariants as ty
use Rattle.lay_node.specs.declared.types.TypePlace.{TypePlace}
use Rattle.lay_node.specs.declared.types.TypePlace.TheVariants.{Bounds}
use Rattle.lay_node.proofs.Fronts.{texts_behind, keyword_one, opener_passed_is, closer_passed_is}
use Rattle.lay_node.proofs.Parts.{bit_piece, Rows, rows_map, rows_joined, SpelledAt, Further, leaf_spelled}
use Rattle.lay_node.proofs.Steps.{same_some, bind_some}
use Rattle.lay_node.proofs.nodes.TypesLaws.{type_func_is, func_param_is}
use Rattle.lay_node.proofs.reader.Attr.{attributes_sound}
use Rattle.lay_node.proofs.reader.Exact.{Stands}
use Rattle.lay_node.proofs.reader.Loops.{SoundStep}
use Rattle.lay_node.proofs.reader.TypesSoundOpen.{OpenBy, open_sound, open_held, open_shut, shut_list}
use Rattle.lay_node.proofs.reader.TypesSoundNeeds.{Held, held, forms_of, goods_of, list_held}
use Rattle.lay_node.proofs.reader.TypesSoundParts.{Out, Leads, bit_texts, keyword_passed_is, flag_leads, flag_texts, if_there_sound, param_attrs_leads, attrs_good, binder_if_sound, AbiLeads, abi_sound}
use Rattle.lay_node.proofs.reader.TypesSoundLevel.{type_held, TypeHeld, SoundWithin, bounds_refused}
use Rattle.lay_node.proofs.reader.TypesSoundPaths.{output_told, output_sound}
use Rattle.lay_node.proofs.reader.Use.{RenameIs, given_name_is}

-- ---- the name of a parameter

abbrev NameLeads : Option GivenName → Tokens → Tokens → Type 0
NameLeads n ts rest = Leads (types.param_name n) ts rest × (is_param_name n ≡ true)

given_leads : (g : GivenName) (ts mid rest : Tokens) → RenameIs g ts mid → IsOperator (codes ":") mid rest
    → NameLeads (Some g) ts rest
given_leads (given.Name n) ts mid rest i o = (
  (λ f depth end s. leaf_spelled n.raw n.text (Piece types.colon f) depth ts mid end i.0
      (rest, (rest, o, (rest, refl, refl)), s)),
  i.1,
)
given_leads given.Underscore ts mid rest i o =
    ((λ f depth end s. (mid, i, (rest, (rest, o, (rest, refl, refl)), s))), refl)

pub given_texts : (g : GivenName) (ts mid : Tokens) → RenameIs g ts mid → InText ts → InText mid
given_texts (given.Name n) ts mid i t =
    texts_behind ts mid (is_end (types.given_form (given.Name n) Done) 0 ts mid
    (leaf_spelled n.raw n.text Done 0 ts mid mid i.0 refl)) t
given_texts given.Underscore ts mid i t = bit_texts (Fixed kind.Underscore (codes "_")) ts mid i t

given_colon : (ts : Tokens) (g : GivenName × Tokens) → given_name ts ≡ Some g → begins_given ts ≡ true
    → is_op (codes ":") g.1 ≡ true
given_colon ts g e h =
    subst (λ (o : Option (GivenName × Tokens)). elim o [ None ↦ false | Some x ↦ is_op (codes ":") x.1 ] ≡ true) e h

param_name_sound : (ts : Tokens) (x : Option GivenName) (rest : Tokens) → InText ts
    → if_there (begins_given ts) reader.param_name ts ≡ Some (x, rest)
    → Out NameLeads ts (x, rest)
param_name_sound ts x rest t h =
    if_there_sound NameLeads reader.param_name (begins_given ts) ts
    (λ b y mid e.
    let g = bind_some (given_name ts) _ _ e in
    let i = given_name_is ts g.0.0 g.0.1 t g.1 in
    let at = drop 1 g.0.1 in
    let o : IsOperator (codes ":") g.0.1 at = (given_colon ts g.0 g.1 b, refl) in
    let left = bit_texts (Operator (codes ":")) g.0.1 at o (given_texts g.0.0 ts g.0.1 i t) in
    same_some (λ (r : GivenName × Tokens). Out NameLeads ts (Some r.0, r.1)) (g.0.0, at) (y, mid) g.2
    (given_leads g.0.0 ts g.0.1 at i o, left))
    (λ b. ((λ f depth end s. s), refl)) t x rest h

-- ---- what it is extern for

pub abi_if_sound : (ts : Tokens) (x : Option Abi) (rest : Tokens) → InText ts
    → if_there (first (is_keyword (codes "extern")) ts) abi ts ≡ Some (x, rest)
    → Out AbiLeads ts (x, rest)
abi_if_sound ts x rest t h =
    if_there_sound AbiLeads abi (first (is_keyword (codes "extern")) ts) ts (λ g y mid e. abi_sound ts y mid t e)
    (λ g. ((λ f depth end s. s), refl)) t x rest h

-- ---- parameters, and the type

abbrev dots_form : Form
dots_form = piece (Operator (codes "...") ∷ [])

abbrev form_of_param : FuncParam → Form
form_of_param p = (about_func_param p).form

-- parameters with `...` after them
variadic_list : (depth : ℕ) (ps : List FuncParam) (last : Bool) (ts inside end rest : Tokens)
    → IsBit (opener Paren) ts inside → OpenBy begins_param (λ p. SpelledAt depth (form_of_param p)) ps last inside end → last ≡ true
    → IsOperator (codes "...") end (drop 3 end) → IsBit (closer Paren) (drop 3 end) rest
    → Spells (comma_list false (opener Paren) (closer Paren) (map form_of_param ps ++ dots_form ∷ [])) depth ts rest
variadic_list depth [] last ts inside end rest o r e d c =
    let at = drop 3 end in
    let behind : Spells dots_form depth inside at =
    subst (λ us. Spells dots_form depth us at) (sym r.1) (bit_piece (Operator (codes "...")) depth end at d) in
    shut_list (opener Paren) (closer Paren) dots_form [] depth ts inside at at rest o behind refl c
variadic_list depth (p ∷ ps) false ts inside end rest o r e d c = absurd (cc)
variadic_list depth (p ∷ ps) true ts inside end rest o r e d c =
    let at = drop 3 end in
    let behind = r.2 in
    let P = Further (SpelledAt depth) in
    let params = rows_map form_of_param P ps r.0 behind.0 behind.1 in
    let dots : Rows P (dots_form ∷ []) behind.0 at =
    (at, (end, behind.2.0, bit_piece (Operator (codes "...")) depth end at d), refl) in
    let all = rows_joined P (map form_of_param ps) (dots_form ∷ []) r.0 behind.0 at params dots in
    shut_list (opener Paren) (closer Paren) (form_of_param p) (map form_of_param ps ++ dots_form ∷ []) depth ts inside
    r.0 at rest o r.1 all c

module _ (budget : ℕ) (within : Within) (sound : SoundWithin budget within) where
  param_sound : SoundStep (func_param within) (Held about_func_param budget)
  unfolding func_param
  param_sound ts x rest t h =
      let a = bind_some (attributes false ts) _ _ h in
      let n = bind_some (if_there (begins_given a.0.1) reader.param_name a.0.1) _ _ a.2 in
      let y = bind_some (within.types Bounds n.0.1) _ _ n.2 in
      let need = y.0.0.1 in
      let r = attributes_sound false need ts a.0.0 a.0.1 t a.1 in
      let g = param_name_sound a.0.1 n.0.0 n.0.1 r.1 n.1 in
      let s = sound.types Bounds n.0.1 y.0.0 y.0.1 g.1 y.1 in
      let p : FuncParam = record { attrs = a.0.0; name = n.0.0; ty = y.0.0.0 } in
      let told = about_type y.0.0.0 in
      let F : Form = Part told.told.form Done in
      let spelled = param_attrs_leads need a.0.0 ts a.0.1 r.0 (types.param_name n.0.0 F) y.0.1
      (g.0.0 F need y.0.1 (y.0.1, s.0.1, refl)) in
      let good = and_from (are_attrs false a.0.0 && is_param_name n.0.0) (good_at Bounds told)
      (and_from (are_attrs false a.0.0) (is_param_name n.0.0) (attrs_good need a.0.0 ts a.0.1 r.0) g.0.1) s.0.2 in
      let G = func_param_facts (record { attrs = a.0.0; name = n.0.0; ty = told }) in
      let there : Stands G need ts y.0.1 = (spelled, good, bounds_refused told y.0.1 s.0.3) in
      same_some (Out (Held about_func_param budget) ts) ((p, need), y.0.1) (x, rest) y.2
      (held (about_func_param p) G budget need ts y.0.1 (func_param_is p) s.0.0 there, s.1)

  abbrev AreParams : (List FuncParam × Bool) × ℕ → Tokens → Tokens → Type 0
  AreParams x ts rest =
      (x.1 ≤ budget) × Spells (params_form (map about_func_param x.0.0) x.0.1) x.1 ts rest
      × (all_good (map about_func_param x.0.0) ≡ true)

  -- by whether `...` stands there
  params_held : (ps : List (FuncParam × ℕ)) (last : Bool) (ts inside end : Tokens) → IsBit (opener Paren) ts inside
      → OpenBy begins_param (Held about_func_param budget) ps last inside end → InText end
      → (variadic : Bool) → (last && is_op (codes "...") end) ≡ variadic → (rest : Tokens)
      → passed (closes Paren) (if variadic then drop 3 end else end) ≡ Some rest
      → AreParams ((nodes ps, variadic), deepest ps) ts rest × InText rest
  params_held ps last ts inside end o r t true e rest h =
      let both = and_parts last (is_op (codes "...") end) e in
      let at = drop 3 end in
      let d : IsOperator (codes "...") end at = (both.1, refl) in
      let left = bit_texts (Operator (codes "...")) end at d t in
      let c = closer_passed_is Paren at rest left h in
      let k = open_held begins_param budget form_of_param (λ p. (about_func_param p).good)
      (Held about_func_param budget)
      (λ p us mid s. (s.0, s.1.0, s.1.1)) ps last inside end r in
      let qs = nodes ps in
      let list = variadic_list (deepest ps) (nodes ps) last ts inside end rest o k.0 both.0 d c in (
        (
          k.1,
          subst (λ fs. Spells (comma_list false (opener Paren) (closer Paren) (fs ++ dots_form ∷ [])) (deepest ps)
              ts rest) (sym (forms_of about_func_param qs)) list,
          goods_of about_func_param qs ∙ k.2,
        ),
        bit_texts (closer Paren) at rest c left,
      )
  params_held ps last ts inside end o r t false e rest h =
      let c = closer_passed_is Paren end rest t h in
      let P = Held about_func_param budget in
      let k = list_held budget form_of_param (λ p. (about_func_param p).good) P (λ p us mid s. (s.0, s.1.0, s.1.1))
      (opener Paren) (closer Paren) ps ts inside rest o
      (open_shut begins_param P (closer Paren) ps last inside end rest r c) in
      let qs = nodes ps in
      let same : map form_of_param qs ≡ forms (map about_func_param qs) ++ [] =
      sym (forms_of about_func_param qs) ∙ sym (append-nil (forms (map about_func_param qs))) in (
        (
          k.0,
          subst (λ fs. Spells (comma_list true (opener Paren) (closer Paren) fs) (deepest ps) ts rest) same k.1,
          goods_of about_func_param qs ∙ k.2,
        ),
        bit_texts (closer Paren) end rest c t,
      )

  params_sound : SoundStep (func_params within) AreParams
  unfolding func_params
  params_sound ts x rest t h =
      let o = bind_some (passed (opens Paren) ts) _ _ h in
      let ps = bind_some (open_elements begins_param (func_param within) o.0) _ _ o.2 in
      let variadic = ps.0.0.1 && is_op (codes "...") ps.0.1 in
      let c = bind_some (passed (closes Paren) (if variadic then drop 3 ps.0.1 else ps.0.1)) _ _ ps.2 in
      let mark = opener_passed_is Paren ts o.0 t o.1 in
      let r = open_sound begins_param (func_param within) (Held about_func_param budget)
      (λ us p end i b e. param_sound us p end i e)
      o.0 ps.0.0.0 ps.0.0.1 ps.0.1 (bit_texts (opener Paren) ts o.0 mark t) ps.1 in
      same_some (Out AreParams ts) (((nodes ps.0.0.0, variadic), deepest ps.0.0.0), c.0) (x, rest) c.2
      (params_held ps.0.0.0 ps.0.0.1 ts o.0 ps.0.1 mark r.0 r.1 variadic refl c.0 c.1)

  pub func_sound : (place : TypePlace) → SoundStep (func_type within) (TypeHeld place (suc budget))
  unfolding func_type
  func_sound place ts x rest t h =
      let b = bind_some (binder_if ts) _ _ h in
      let mark = is_keyword (codes "unsafe") in
      let bits = keyword (codes "unsafe") ∷ Blank ∷ [] in
      let at = (flag mark b.0.1).1 in
      let is_unsafe = (flag mark b.0.1).0 in
      let a = bind_some (if_there (first (is_keyword (codes "extern")) at) abi at) _ _ b.2 in
      let k = bind_some (passed (is_keyword (codes "fn")) a.0.1) _ _ a.2 in
      let ps = bind_some (func_params within k.0) _ _ k.2 in
      let o = bind_some (output within ps.0.1) _ _ ps.2 in
      let are : first mark b.0.1 ≡ true → AreBits bits b.0.1 (tail b.0.1) =
      λ e. (tail b.0.1, keyword_one (codes "unsafe") b.0.1 e, (tail b.0.1, refl, refl)) in
      let bound = binder_if_sound ts b.0.0 b.0.1 t b.1 in
      let extern = abi_if_sound at a.0.0 a.0.1 (flag_texts mark bits b.0.1 are bound.1) a.1 in
      let word = keyword_passed_is (codes "fn") a.0.1 k.0 k.1 in
      let params = params_sound k.0 ps.0.0 ps.0.1 (bit_texts (keyword (codes "fn")) a.0.1 k.0 word extern.1) ps.1 in
      let out = output_sound budget within sound ps.0.1 o.0.0 o.0.1 params.1 o.1 in
      let most = max ps.0.0.1 o.0.0.1 in
      let qs = map about_func_param ps.0.0.0.0 in
      let variadic = ps.0.0.0.1 in
      let told = output_told o.0.0.0 in
      let F : Form = Piece (keyword (codes "fn") ∷ []) (Part (params_form qs variadic) told.form) in
      let G : Form = binder_form b.0.0 (when is_unsafe bits (abi_form a.0.0 F)) in
      let inner : Spells F most a.0.1 o.0.1 = (
        k.0,
        (k.0, word, refl),
        (
          ps.0.1,
          raise (params_form qs variadic) ps.0.0.1 most k.0 ps.0.1 (omega arith) params.0.1,
          raise told.form o.0.0.1 most ps.0.1 o.0.1 (omega arith) out.0.1.0,
        ),
      ) in
      let spelled = bound.0.0 (when is_unsafe bits (abi_form a.0.0 F)) most o.0.1
      (flag_leads mark bits b.0.1 are (abi_form a.0.0 F) most o.0.1 (extern.0.0 F most o.0.1 inner)) in
      let good = and_from (is_binder b.0.0 && is_abi a.0.0 && all_good qs) told.good
      (and_from (is_binder b.0.0 && is_abi a.0.0) (all_good qs)
      (and_from (is_binder b.0.0) (is_abi a.0.0) bound.0.1 extern.0.1) params.0.2) out.0.1.1 in
      let X = ty.Func b.0.0 is_unsafe a.0.0 ps.0.0.0.0 variadic o.0.0.0 in
      same_some (Out (TypeHeld place (suc budget)) ts) ((X, suc most), o.0.1) (x, rest) o.2 (
        type_held place budget (about_type X) G (is_binder b.0.0 && is_abi a.0.0 && all_good qs && told.good)
            told.refuses (is_some b.0.0) most ts o.0.1
            (type_func_is b.0.0 is_unsafe a.0.0 ps.0.0.0.0 variadic o.0.0.0) (omega (arith, params.0.0, out.0.0))
            spelled good out.0.1.2,
        out.1,
      )
