-- Generic parameters: what is read within a budget stands there, at the depth that it needs.
use Rattle.std.proofs.Common.{◌≡◌, ℕ, ◌≤◌, max, Bool, true, false, not, ◌&&◌, ◌||◌, List, [], ◌∷◌, inl, inr, map, drop, codes, Option, Some, refl, ap, arith}
use Rattle.std.proofs.lemmas.Bool.{and_from}
use Rattle.lay_piece.specs.declared.kind.Kind.TheVariants as kind
use Rattle.lay_token.specs.Operators.{is_op}
use Rattle.lay_form.specs.Form.{Blank, Fixed, Operator, Form, Done, Piece, Part, keyword}
use Rattle.lay_form.specs.Spelled.{IsOne, IsOperator, Spells}
use Rattle.lay_form.proofs.FormLaws.{deeper as raise}
use Rattle.lay_node.specs.Ahead.{Tokens, first, tail, is_keyword, is_lifetime, is_mark}
use Rattle.lay_node.specs.Begins.{begins_bound}
use Rattle.lay_node.specs.Follow.{may_follow}
use Rattle.lay_node.specs.Words.{is_name, leaf_of}
use Rattle.lay_node.specs.nodes.Attr.{are_attrs, about_attr}
use Rattle.lay_node.specs.nodes.Generics.{GenericsAt, bounded_form, are_bounds, default_form, is_default, const_default_form, is_const_default, param_form, is_param, is_generics, generics_spelled, generics_follow}
use Rattle.lay_node.specs.nodes.Types as types
use Rattle.lay_node.specs.nodes.Types.{about_bound, about_type, bounds_form, colon, good_at, is_there, last_refuses, less, greater}
use Rattle.lay_node.specs.nodes.Where.{meets_follow}
use Rattle.lay_node.specs.reader.Attr.{attributes}
use Rattle.lay_node.specs.reader.Exact.{InText}
use Rattle.lay_node.specs.reader.Generics.{met, met_if, type_param, const_default_at, const_param, param_by, one_param, generics, generics_at}
use Rattle.lay_node.specs.reader.Loops.{passed, nodes, deepest}
use Rattle.lay_node.specs.reader.Types.{Within, angled, begins_const, const, if_read, if_there, lifetime_behind, operator}
use Rattle.lay_node.specs.reader.Words.{name}
use Rattle.lay_node.specs.declared.attr.Attr.{Attr}
use Rattle.lay_node.specs.declared.generics.ConstDefault.{ConstDefault}
use Rattle.lay_node.specs.declared.generics.ConstDefault.TheVariants as const_default
use Rattle.lay_node.specs.declared.generics.GenericParam.{GenericParam}
use Rattle.lay_node.specs.declared.generics.GenericParam.TheVariants as param
use Rattle.lay_node.specs.declared.generics.Generics.{Generics}
use Rattle.lay_node.specs.declared.types.Bound.{Bound}
use Rattle.lay_node.specs.declared.types.Ty.{Ty}
use Rattle.lay_node.specs.declared.types.TypePlace.TheVariants.{Bounds}
use Rattle.lay_node.proofs.Fronts.{keyword_one, mark_passed_is}
use Rattle.lay_node.proofs.Parts.{Rows, GoodAt, word_kind, leaf_spelled}
use Rattle.lay_node.proofs.Steps.{same_some, chosen, bind_some}
use Rattle.lay_node.proofs.reader.Attr.{attributes_sound}
use Rattle.lay_node.proofs.reader.Loops.{SoundStep}
use Rattle.lay_node.proofs.reader.TypesSound.{counted_sound, Deep, alone_sound}
use Rattle.lay_node.proofs.reader.TypesSoundBounds.{BoundsHeld, bounds_sound}
use Rattle.lay_node.proofs.reader.TypesSoundNeeds.{listed}
use Rattle.lay_node.proofs.reader.TypesSoundParts.{Out, bit_texts, operator_is, if_there_sound, if_read_sound, param_attrs_leads, attrs_good, lifetime_behind_sound, lifetime_param_is, greater_shuts, const_sound}
use Rattle.lay_node.proofs.reader.TypesSoundLevel.{SoundWithin}
use Rattle.lay_node.proofs.reader.Words.{name_sound}

-- ---- bounds after a `:`

abbrev pub met_form : List Bound → Form
met_form [] = Done
met_form (b ∷ bs) = bounds_form (map about_bound (b ∷ bs))

-- Bounds stand there, or none, and no more of them follow.
abbrev pub MetHeld : ℕ → List Bound × ℕ → Tokens → Tokens → Type 0
MetHeld budget x ts rest =
    (x.1 ≤ budget) × Spells (met_form x.0) x.1 ts rest × (are_bounds x.0 ≡ true) × (meets_follow x.0 rest ≡ true)

met_held : (budget : ℕ) (bs : List Bound) (n : ℕ) (ts rest : Tokens) → BoundsHeld budget (bs, n) ts rest
    → is_op (codes "+") rest ≡ false
    → MetHeld budget (bs, n) ts rest
met_held budget [] n ts rest k e = absurd (cc k.2)
met_held budget (b ∷ bs) n ts rest k e = (
  k.0,
  k.1,
  k.2,
  and_from (not (is_op (codes "+") rest)) (may_follow (last_refuses (map about_bound (b ∷ bs))) rest) (ap not e)
      k.3,
)

abbrev pub IsBounded : ℕ → List Bound × ℕ → Tokens → Tokens → Type 0
IsBounded budget x ts rest = (x.1 ≤ budget) × Spells (bounded_form x.0) x.1 ts rest × (are_bounds x.0 ≡ true)

bounded_held : (budget : ℕ) (bs : List Bound) (n : ℕ) (ts at rest : Tokens) → IsOperator (codes ":") ts at
    → MetHeld budget (bs, n) at rest
    → IsBounded budget (bs, n) ts rest
bounded_held budget [] n ts at rest o k = (k.0, (at, inr (at, o, refl), k.1), refl)
bounded_held budget (b ∷ bs) n ts at rest o k = (k.0, (at, (at, o, (at, refl, refl)), (rest, k.1, refl)), k.2)

-- a parameter within the budget
abbrev ParamHeld : ℕ → GenericParam × ℕ → Tokens → Tokens → Type 0
ParamHeld budget x ts rest = (x.1 ≤ budget) × Spells (param_form x.0) x.1 ts rest × (is_param x.0 ≡ true)

-- ---- defaults

abbrev IsConstDefault : Option ConstDefault → Tokens → Tokens → Type 0
IsConstDefault d ts rest = Spells (const_default_form d) 0 ts rest × (is_const_default d ≡ true)

const_default_sound : (ts at : Tokens) → IsOperator (codes "=") ts at → InText at → (x : ConstDefault) (rest : Tokens)
    → const_default_at at ≡ Some (x, rest)
    → Out IsConstDefault ts (Some x, rest)
const_default_sound ts at o t x rest h = elim (chosen (begins_const at) _ _ _ h) [
  | inl g ↦
      let c = bind_some (const at) _ _ g.1 in
      let s = const_sound at c.0.0 c.0.1 t c.1 in
      same_some (λ (r : ConstDefault × Tokens). Out IsConstDefault ts (Some r.0, r.1)) (const_default.Arg c.0.0, c.0.1)
      (x, rest) c.2
      (((at, (ts, refl, (at, o, (at, refl, refl))), (c.0.1, s.0.0, refl)), s.0.1), s.1)
  | inr g ↦
      let n = bind_some (name at) _ _ g.1 in
      let s = name_sound at n.0.0 n.0.1 n.1 in
      let leaf = leaf_spelled n.0.0.raw n.0.0.text Done 0 at n.0.1 n.0.1 s.0 refl in
      same_some (λ (r : ConstDefault × Tokens). Out IsConstDefault ts (Some r.0, r.1)) (const_default.Name n.0.0, n.0.1)
      (x, rest) n.2 (
        ((at, (ts, refl, (at, o, (at, refl, refl))), leaf), s.1),
        bit_texts (Fixed (word_kind n.0.0.raw) n.0.0.text) at n.0.1 s.0 t,
      )
]

const_default_if : (ts : Tokens) (x : Option ConstDefault) (rest : Tokens) → InText ts
    → if_there (is_op (codes "=") ts) (λ us. const_default_at (drop 1 us)) ts ≡ Some (x, rest)
    → Out IsConstDefault ts (x, rest)
const_default_if ts x rest t h =
    if_there_sound IsConstDefault (λ us. const_default_at (drop 1 us)) (is_op (codes "=") ts) ts
    (λ g y mid e.
    let o : IsOperator (codes "=") ts (drop 1 ts) = (g, refl) in
    const_default_sound ts (drop 1 ts) o (bit_texts (Operator (codes "=")) ts (drop 1 ts) o t) y mid e)
    (λ g. (refl, refl)) t x rest h

-- What holds of parameters that are spelled with `<` and `>`, or as nothing, and of what follows them.
abbrev pub GoodGenerics : Generics × Bool → Tokens → Type 0
GoodGenerics x rest =
    (((x.1 || not (is_there x.0.params)) && is_generics x.0) ≡ true) × (generics_follow x.1 rest ≡ true)

module _ (budget : ℕ) (within : Within) (sound : SoundWithin budget within) where
  pub met_sound : SoundStep (met within) (MetHeld budget)
  met_sound ts x rest t h = elim (chosen (begins_bound ts) _ _ _ h) [
    | inl g ↦
        let s = bounds_sound budget within sound ts x rest t g.1 in (met_held budget x.0 x.1 ts rest s.0.0 s.0.1, s.1)
    | inr g ↦ same_some (Out (MetHeld budget) ts) (([], 0), ts) (x, rest) g.1 ((omega arith, refl, refl, ap not g.0), t)
  ]

  pub met_if_sound : SoundStep (met_if within) (IsBounded budget)
  met_if_sound ts x rest t h = elim (chosen (is_op (codes ":") ts) _ _ _ h) [
    | inl g ↦
        let at = drop 1 ts in
        let o : IsOperator (codes ":") ts at = (g.0, refl) in
        let s = met_sound at x rest (bit_texts (Operator (codes ":")) ts at o t) g.1 in
        (bounded_held budget x.0 x.1 ts at rest o s.0, s.1)
    | inr g ↦
        same_some (Out (IsBounded budget) ts) (([], 0), ts) (x, rest) g.1 ((omega arith, (ts, inl refl, refl), refl), t)
  ]

  -- ---- parameters

  abbrev pub IsTypeDefault : Option Ty × ℕ → Tokens → Tokens → Type 0
  IsTypeDefault x ts rest = (x.1 ≤ budget) × Spells (default_form x.0) x.1 ts rest × (is_default x.0 ≡ true)

  pub default_sound : (ts : Tokens) (x : Option Ty × ℕ) (rest : Tokens) → InText ts
      → if_read (is_op (codes "=") ts) (λ us. within.types Bounds (drop 1 us)) ts ≡ Some (x, rest)
      → Out IsTypeDefault ts (x, rest)
  default_sound ts x rest t h =
      if_read_sound IsTypeDefault (λ us. within.types Bounds (drop 1 us)) (is_op (codes "=") ts) ts
      (λ g y mid e.
      let at = drop 1 ts in
      let o : IsOperator (codes "=") ts at = (g, refl) in
      let s = sound.types Bounds at y mid (bit_texts (Operator (codes "=")) ts at o t) e in
      ((s.0.0, (at, (ts, refl, (at, o, (at, refl, refl))), (mid, s.0.1, refl)), s.0.2), s.1))
      (λ g. (omega arith, refl, refl)) t x rest h

  module _ (ts : Tokens) (attrs : List Attr) (at : Tokens)
      (rows : (depth : ℕ) → Rows (GoodAt (about_attr false) depth) attrs ts at) (t : InText at) where
    type_param_sound : (x : GenericParam × ℕ) (rest : Tokens) → type_param within attrs at ≡ Some (x, rest)
        → Out (ParamHeld budget) ts (x, rest)
    unfolding type_param
    type_param_sound x rest h =
        let n = bind_some (name at) _ _ h in
        let b = bind_some (met_if within n.0.1) _ _ n.2 in
        let d = bind_some (if_read (is_op (codes "=") b.0.1) (λ us. within.types Bounds (drop 1 us)) b.0.1) _ _ b.2 in
        let i = name_sound at n.0.0 n.0.1 n.1 in
        let raw = n.0.0.raw in
        let text = n.0.0.text in
        let k = met_if_sound n.0.1 b.0.0 b.0.1 (bit_texts (Fixed (word_kind raw) text) at n.0.1 i.0 t) b.1 in
        let s = default_sound b.0.1 d.0.0 d.0.1 k.1 d.1 in
        let bounds = b.0.0.0 in
        let default = d.0.0.0 in
        let most = max b.0.0.1 d.0.0.1 in
        let inner : Form = Part (bounded_form bounds) (Part (default_form default) Done) in
        let leaf = leaf_spelled raw text inner most at n.0.1 d.0.1 i.0 (
          b.0.1,
          raise (bounded_form bounds) b.0.0.1 most n.0.1 b.0.1 (omega arith) k.0.1,
          (d.0.1, raise (default_form default) d.0.0.1 most b.0.1 d.0.1 (omega arith) s.0.1, refl),
        ) in
        let spelled = param_attrs_leads most attrs ts at (rows most) (leaf_of raw text inner) d.0.1 leaf in
        let good = and_from (are_attrs false attrs && is_name raw text && are_bounds bounds) (is_default default)
        (and_from (are_attrs false attrs && is_name raw text) (are_bounds bounds)
        (and_from (are_attrs false attrs) (is_name raw text) (attrs_good most attrs ts at (rows most)) i.1) k.0.2)
        s.0.2 in
        same_some (Out (ParamHeld budget) ts) ((param.Named attrs n.0.0 bounds default, most), d.0.1) (x, rest) d.2
        ((omega (arith, k.0.0, s.0.0), spelled, good), s.1)

    const_param_sound : IsOne kind.Ident (codes "const") at (tail at) → (x : GenericParam × ℕ) (rest : Tokens)
        → const_param within attrs (tail at) ≡ Some (x, rest) → Out (ParamHeld budget) ts (x, rest)
    unfolding const_param
    const_param_sound word x rest h =
        let start = tail at in
        let n = bind_some (name start) _ _ h in
        let c = bind_some (operator (codes ":") n.0.1) _ _ n.2 in
        let y = bind_some (within.types Bounds c.0) _ _ c.2 in
        let d = bind_some (if_there (is_op (codes "=") y.0.1) (λ us. const_default_at (drop 1 us)) y.0.1) _ _ y.2 in
        let i = name_sound start n.0.0 n.0.1 n.1 in
        let raw = n.0.0.raw in
        let text = n.0.0.text in
        let named = bit_texts (Fixed (word_kind raw) text) start n.0.1 i.0
        (bit_texts (keyword (codes "const")) at start word t) in
        let o = operator_is (codes ":") n.0.1 c.0 c.1 in
        let s = sound.types Bounds c.0 y.0.0 y.0.1 (bit_texts (Operator (codes ":")) n.0.1 c.0 o named) y.1 in
        let k = const_default_if y.0.1 d.0.0 d.0.1 s.1 d.1 in
        let told = about_type y.0.0.0 in
        let need = y.0.0.1 in
        let default = d.0.0 in
        let inner : Form = Piece colon (Part told.told.form (Part (const_default_form default) Done)) in
        let F : Form = Piece (keyword (codes "const") ∷ Blank ∷ []) (leaf_of raw text inner) in
        let leaf = leaf_spelled raw text inner need start n.0.1 d.0.1 i.0 (
          c.0,
          (c.0, o, (c.0, refl, refl)),
          (y.0.1, s.0.1, (d.0.1, raise (const_default_form default) 0 need y.0.1 d.0.1 (omega arith) k.0.0, refl)),
        ) in
        let spelled = param_attrs_leads need attrs ts at (rows need) F d.0.1
        (start, (start, word, (start, refl, refl)), leaf) in
        let good = and_from (are_attrs false attrs && is_name raw text && good_at Bounds told)
        (is_const_default default)
        (and_from (are_attrs false attrs && is_name raw text) (good_at Bounds told)
        (and_from (are_attrs false attrs) (is_name raw text) (attrs_good need attrs ts at (rows need)) i.1) s.0.2)
        k.0.1 in
        same_some (Out (ParamHeld budget) ts) ((param.Const attrs n.0.0 y.0.0.0 default, need), d.0.1) (x, rest) d.2
        ((s.0.0, spelled, good), k.1)

    param_by_sound : (x : GenericParam × ℕ) (rest : Tokens) → param_by within attrs at ≡ Some (x, rest)
        → Out (ParamHeld budget) ts (x, rest)
    param_by_sound x rest h = elim (chosen (first is_lifetime at) _ _ _ h) [
      | inl g ↦
          let l = bind_some (lifetime_behind attrs at) _ _ g.1 in
          let s = lifetime_behind_sound attrs at l.0.0 l.0.1 t l.1 in
          let p = lifetime_param_is l.0.0 attrs ts at l.0.1 (rows 0) s.0 in
          same_some (Out (ParamHeld budget) ts) ((param.Region l.0.0, 0), l.0.1) (x, rest) l.2
          ((omega arith, p.0, p.1), s.1)
      | inr g ↦ elim (chosen (first (is_keyword (codes "const")) at) _ _ _ g.1) [
        | inl f ↦ const_param_sound (keyword_one (codes "const") at f.0) x rest f.1
        | inr f ↦ type_param_sound x rest f.1
      ]
    ]

  param_sound : SoundStep (one_param within) (ParamHeld budget)
  unfolding one_param
  param_sound ts x rest t h =
      let a = bind_some (attributes false ts) _ _ h in
      let r = attributes_sound false 0 ts a.0.0 a.0.1 t a.1 in
      param_by_sound ts a.0.0 a.0.1 (λ depth. (attributes_sound false depth ts a.0.0 a.0.1 t a.1).0) r.1 x rest a.2

  pub generics_sound : SoundStep (generics within) (Deep (λ x. generics_spelled x.1 x.0) GoodGenerics budget)
  unfolding generics
  generics_sound ts x rest t h =
      let P = Deep (λ (y : Generics × Bool). generics_spelled y.1 y.0) GoodGenerics budget in
      elim (chosen (first (is_mark (codes "<")) ts) _ _ _ h) [
        | inl g ↦
            let ps = bind_some (angled (one_param within) ts) _ _ g.1 in
            let o = bind_some (passed (is_mark (codes "<")) ts) _ _ ps.1 in
            let mark = mark_passed_is (codes "<") ts o.0 o.1 in
            let l = listed budget param_form is_param (ParamHeld budget) (λ y us mid s. s)
            (is_mark (codes ">")) less greater greater_shuts (one_param within) param_sound ts o.0 ps.0.0 ps.0.1 mark
            (bit_texts less ts o.0 mark t) o.2 in
            same_some (Out P ts) (((record { params = nodes ps.0.0 }, true), deepest ps.0.0), ps.0.1) (x, rest) ps.2
            ((l.0, l.1, (l.2, refl)), l.3)
        | inr g ↦
            same_some (Out P ts) (((record { params = [] }, false), 0), ts) (x, rest) g.1
            ((omega arith, refl, (refl, ap not g.0)), t)
      ]

-- Generic parameters that are read stand there, spelled as the flag says.
abbrev pub GenericsAlone : ℕ → (Generics × Bool) × ℕ → Tokens → Tokens → Type 0
GenericsAlone budget x ts rest =
    (x.1 ≤ budget) × Spells (types.deeper (generics_spelled x.0.1 x.0.0)) x.1 ts rest
    × (((x.0.1 || not (is_there x.0.0.params)) && is_generics x.0.0) ≡ true) × (generics_follow x.0.1 rest ≡ true)

pub generics_at_sound : (budget : ℕ) → SoundStep (generics_at budget) (GenericsAlone budget)
generics_at_sound budget ts x rest t h =
    let s = alone_sound (λ (y : Generics × Bool). generics_spelled y.1 y.0)
    GoodGenerics generics generics_sound budget ts x rest t h in
    let k = s.0 in ((k.0, k.1, k.2.0, k.2.1), s.1)

pub generics_stand : (budget : ℕ) (ts : Tokens) (x : Generics × Bool) (need : ℕ) (rest : Tokens) → InText ts
    → generics_at budget ts ≡ Some ((x, need), rest)
    → (n : ℕ) × (drop n ts ≡ rest) × (need ≤ budget) × GenericsAt x.1 x.0 ts n need
generics_stand =
    counted_sound (λ (x : Generics × Bool). types.deeper (generics_spelled x.1 x.0))
    (λ x. (x.1 || not (is_there x.0.params)) && is_generics x.0)
    (λ x. generics_follow x.1) generics_at generics_at_sound
