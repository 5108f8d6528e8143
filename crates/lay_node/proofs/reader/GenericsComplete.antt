-- Generic parameters: what is spelled is read, and handed back with the way in which it is spelled.
use Rattle.std.proofs.Common.{◌≡◌, ℕ, ◌<◌, ◌≤◌, max, Bool, true, false, not, ◌&&◌, ◌||◌, List, [], ◌∷◌, map, length, drop, codes, Option, Some, None, inl, inr, refl, ◌∙◌, arith}
use Rattle.std.proofs.lemmas.Bool.{and_parts, not-true}
use Rattle.lay_piece.specs.declared.kind.Kind.TheVariants.{Ident, Punct}
use Rattle.lay_token.specs.Operators.{is_op}
use Rattle.lay_form.specs.Form.{Blank, Operator, Form, Done, Piece, Part, keyword}
use Rattle.lay_form.specs.Spelled.{IsOne, IsOperator, AreBits, Spells}
use Rattle.lay_form.proofs.FormLaws.{shorter}
use Rattle.lay_node.specs.Ahead.{Tokens, first, tail, is_lifetime, is_mark}
use Rattle.lay_node.specs.Begins.{OfPath, begins_bound}
use Rattle.lay_node.specs.Words.{is_name, leaf_of}
use Rattle.lay_node.specs.nodes.Attr.{are_attrs, about_attr}
use Rattle.lay_node.specs.nodes.Generics.{bounded_form, are_bounds, default_form, is_default, const_default_form, is_const_default, param_form, is_param, is_generics, generics_spelled, generics_follow}
use Rattle.lay_node.specs.nodes.Types as types
use Rattle.lay_node.specs.nodes.Types.{about_bound, about_type, bounds_form, const_form, deeper, equals, good_at, greater, is_there, last_refuses, less, param_attrs}
use Rattle.lay_node.specs.reader.Attr.{begins_attr}
use Rattle.lay_node.specs.reader.Generics.{met_if, type_param, const_default_at, const_param, one_param, generics, generics_at}
use Rattle.lay_node.specs.reader.Loops.{Read, nodes, deepest, elements}
use Rattle.lay_node.specs.reader.Types.{Within, if_there, if_read}
use Rattle.lay_node.specs.declared.attr.Attr.{Attr}
use Rattle.lay_node.specs.declared.generics.ConstDefault.{ConstDefault}
use Rattle.lay_node.specs.declared.generics.ConstDefault.TheVariants as const_default
use Rattle.lay_node.specs.declared.generics.GenericParam.{GenericParam}
use Rattle.lay_node.specs.declared.generics.GenericParam.TheVariants as param
use Rattle.lay_node.specs.declared.generics.Generics.{Generics}
use Rattle.lay_node.specs.declared.token.Name.{Name}
use Rattle.lay_node.specs.declared.types.Bound.{Bound}
use Rattle.lay_node.specs.declared.types.LifetimeParam.{LifetimeParam}
use Rattle.lay_node.specs.declared.types.Ty.{Ty}
use Rattle.lay_node.specs.declared.types.TypePlace.TheVariants.{Bounds}
use Rattle.lay_node.proofs.Fronts.{one_front, other_op, one_shorter}
use Rattle.lay_node.proofs.Parts.{Rows, GoodAt, bit_alone, behind_blank, before_blank, part_alone, word_kind, leaf_parts, leaf_alone}
use Rattle.lay_node.proofs.reader.AttrRead.{attributes_complete}
use Rattle.lay_node.proofs.reader.Exact.{IsRead}
use Rattle.lay_node.proofs.reader.TypesComplete.{Reads, quiet_read, operator_read, name_is_word}
use Rattle.lay_node.proofs.reader.TypesCompleteAlone.{alone_read}
use Rattle.lay_node.proofs.reader.TypesCompleteParts.{one_left, colon_operator, const_complete, lifetime_param_complete, lifetime_param_starts, param_attrs_rows, attrs_front, keyword_there}
use Rattle.lay_node.proofs.reader.TypesCompletePaths.{all_bounds_read}
use Rattle.lay_node.proofs.reader.TypesFronts.{lead_no_lifetime, lead_no_keyword, lead_no_const, lead_no_attr, lead_no_greater, word_lead, Quiet, Ends, free_clear, equals_quiet, equals_no_bound}
use Rattle.lay_node.proofs.reader.TypesLists.{greater_closes, list_read}
use Rattle.lay_node.proofs.reader.Words.{name_complete}

-- What may follow bounds: what ends a parameter, or a default.
pub record BehindBounds (ts : Tokens) : Type 0 where
  pub quiet : Quiet ts
  pub colon : is_op (codes ":") ts ≡ false
  pub bound : begins_bound ts ≡ false

ends_behind : (ts : Tokens) → Ends ts → BehindBounds ts
ends_behind ts e = record { quiet = e.quiet; colon = e.colon; bound = e.bound }

pub equals_operator : (ts rest : Tokens) → AreBits equals ts rest → IsOperator (codes "=") ts rest
equals_operator ts rest s = before_blank (Operator (codes "=")) ts rest (behind_blank (Operator (codes "=") ∷ Blank ∷ []) ts rest s)

pub equals_behind : (ts : Tokens) → is_op (codes "=") ts ≡ true → BehindBounds ts
equals_behind ts h = record { quiet = equals_quiet ts h; colon = other_op (codes "=") (codes ":") refl ts h; bound = equals_no_bound ts h }

pub default_behind : (d : Option Ty) (depth : ℕ) (ts rest : Tokens) → Spells (default_form d) depth ts rest → Ends rest → BehindBounds ts
default_behind None depth ts rest s e = rw s (ends_behind rest e)
default_behind (Some x) depth ts rest s e = equals_behind ts (equals_operator ts s.0 s.1).0

const_default_behind : (d : Option ConstDefault) (depth : ℕ) (ts rest : Tokens) → Spells (const_default_form d) depth ts rest → Ends rest → BehindBounds ts
const_default_behind None depth ts rest s e = rw s (ends_behind rest e)
const_default_behind (Some (const_default.Arg value)) depth ts rest s e = equals_behind ts (equals_operator ts s.0 s.1).0
const_default_behind (Some (const_default.Name n)) depth ts rest s e = equals_behind ts (equals_operator ts s.0 s.1).0

const_default_complete : (d : Option ConstDefault) (depth : ℕ) (ts rest : Tokens) → Spells (const_default_form d) depth ts rest
    → is_const_default d ≡ true → Ends rest
    → if_there (is_op (codes "=") ts) (λ us. const_default_at (drop 1 us)) ts ≡ Some (d, rest)
const_default_complete None depth ts rest s g e = rw s (rw e.equals refl)
const_default_complete (Some (const_default.Arg value)) depth ts rest s g e =
    let o = equals_operator ts s.0 s.1 in
    let c = const_complete value depth s.0 rest (part_alone (const_form value) depth s.0 rest s.2) g in
    rw (o.0, o.1, c.begins, c.read) refl
const_default_complete (Some (const_default.Name n)) depth ts rest s g e =
    let o = equals_operator ts s.0 s.1 in
    let word = leaf_alone n.raw n.text depth s.0 rest s.2 in
    let l = word_lead n.raw n.text s.0 rest word (name_is_word n.raw n.text g) in
    rw (o.0, o.1, lead_no_const s.0 OfPath l, name_complete n s.0 rest (word, g)) refl

-- what follows the attributes of a parameter
record Front (ts : Tokens) : Type 0 where
  pub attr : begins_attr false ts ≡ false
  pub greater : first (is_mark (codes ">")) ts ≡ false

name_front : (n : Name) (ts rest : Tokens) → IsOne (word_kind n.raw) n.text ts rest → is_name n.raw n.text ≡ true → Front ts
name_front n ts rest o g =
    let l = word_lead n.raw n.text ts rest o (name_is_word n.raw n.text g) in
    record { attr = lead_no_attr ts OfPath l; greater = lead_no_greater ts OfPath l }

const_front : (ts rest : Tokens) → IsOne Ident (codes "const") ts rest → Front ts
const_front ts rest o = let f = (one_front Ident (codes "const") ts rest o).1 in record { attr = rw f refl; greater = rw f refl }

const_no_lifetime : (ts rest : Tokens) → IsOne Ident (codes "const") ts rest → first is_lifetime ts ≡ false
const_no_lifetime ts rest o = rw (one_front Ident (codes "const") ts rest o).1 refl

module _ (depth : ℕ) (inner : Within) (reads : Reads depth inner) where
  abbrev Has : {A : Type 0} → (Tokens → Read A) → A → Tokens → Tokens → Type 0
  Has one x ts rest = IsRead depth one x ts rest

  -- bounds after a `:`, or none
  pub met_read : (bs : List Bound) (ts rest : Tokens) → Spells (bounded_form bs) depth ts rest → are_bounds bs ≡ true → BehindBounds rest
      → Has (met_if inner) bs ts rest
  met_read [] ts rest s g b = elim s.1 [
    | inl e ↦ let all : ts ≡ rest = e ∙ s.2 in (0, omega arith, rw all (rw b.colon refl))
    | inr c ↦
        let o : IsOperator (codes ":") ts s.0 = bit_alone (Operator (codes ":")) ts s.0 c in
        let all : drop 1 ts ≡ rest = o.1 ∙ s.2 in
        (0, omega arith, rw (o.0, all, b.bound) refl)
  ]
  met_read (x ∷ bs) ts rest s g b =
      let o = colon_operator ts s.0 s.1 in
      let spelled = part_alone (bounds_form (map about_bound (x ∷ bs))) depth s.0 rest s.2 in
      let r = all_bounds_read depth inner reads x bs s.0 rest spelled g (free_clear (last_refuses (map about_bound (x ∷ bs))) rest b.quiet.free) b.quiet.plus in
      let n = r.0 in
      (n.0, n.1, rw (o.0, o.1, r.1, n.2) refl)

  pub default_read : (d : Option Ty) (ts rest : Tokens) → Spells (default_form d) depth ts rest → is_default d ≡ true → Ends rest
      → Has (λ us. if_read (is_op (codes "=") us) (λ vs. inner.types Bounds (drop 1 vs)) us) d ts rest
  default_read None ts rest s g e = (0, omega arith, rw s (rw e.equals refl))
  default_read (Some x) ts rest s g e =
      let o = equals_operator ts s.0 s.1 in
      let r = quiet_read depth inner reads Bounds x s.0 rest (part_alone (about_type x).told.form depth s.0 rest s.2) g e.quiet in
      (r.0, r.1, rw (o.0, o.1, r.2) refl)

  named_read : (attrs : List Attr) (n : Name) (bs : List Bound) (d : Option Ty) (ts rest : Tokens)
      → Spells (param_form (param.Named attrs n bs d)) depth ts rest
      → is_param (param.Named attrs n bs d) ≡ true → Ends rest → Has (one_param inner) (param.Named attrs n bs d) ts rest
  unfolding one_param type_param
  named_read attrs n bs d ts rest s g e =
      let behind : Form = Part (bounded_form bs) (Part (default_form d) Done) in
      let goods = and_parts (are_attrs false attrs && is_name n.raw n.text && are_bounds bs) (is_default d) g in
      let g2 = and_parts (are_attrs false attrs && is_name n.raw n.text) (are_bounds bs) goods.0 in
      let g1 = and_parts (are_attrs false attrs) (is_name n.raw n.text) g2.0 in
      let rows = param_attrs_rows attrs (leaf_of n.raw n.text behind) depth ts rest s g1.0 in
      let mid = rows.0 in
      let l = leaf_parts n.raw n.text behind depth mid rest rows.2 in
      let front = name_front n mid l.0 l.1 g1.1 in
      let lead = word_lead n.raw n.text mid l.0 l.1 (name_is_word n.raw n.text g1.1) in
      let part = l.2 in
      let default = part_alone (default_form d) depth part.0 rest part.2 in
      let b = met_read bs l.0 part.0 part.1 g2.1 (default_behind d depth part.0 rest default e) in
      let r = default_read d part.0 rest default goods.1 e in
      let listed = attributes_complete false attrs depth ts mid rows.1 front.attr in (
        max b.0 r.0,
        omega (arith, b.1, r.1),
        rw (listed, lead_no_lifetime mid OfPath lead, lead_no_keyword (codes "const") refl mid OfPath lead, name_complete n mid l.0 (l.1, g1.1), b.2, r.2) refl,
      )

  named_starts : (attrs : List Attr) (n : Name) (bs : List Bound) (d : Option Ty) (ts rest : Tokens)
      → Spells (param_form (param.Named attrs n bs d)) depth ts rest
      → is_param (param.Named attrs n bs d) ≡ true → (first (is_mark (codes ">")) ts ≡ false) × (length rest < length ts)
  named_starts attrs n bs d ts rest s g =
      let behind : Form = Part (bounded_form bs) (Part (default_form d) Done) in
      let goods = and_parts (are_attrs false attrs && is_name n.raw n.text && are_bounds bs) (is_default d) g in
      let g2 = and_parts (are_attrs false attrs && is_name n.raw n.text) (are_bounds bs) goods.0 in
      let g1 = and_parts (are_attrs false attrs) (is_name n.raw n.text) g2.0 in
      let rows = param_attrs_rows attrs (leaf_of n.raw n.text behind) depth ts rest s g1.0 in
      let l = leaf_parts n.raw n.text behind depth rows.0 rest rows.2 in
      let before = attrs_front attrs depth ts rows.0 rows.1 in (
        before.greater (name_front n rows.0 l.0 l.1 g1.1).greater,
        omega (arith, before.shorter, one_shorter (word_kind n.raw) n.text rows.0 l.0 l.1, shorter behind depth l.0 rest l.2),
      )

  -- a constant, by its parts
  record ConstParts (attrs : List Attr) (n : Name) (x : Ty) (d : Option ConstDefault) (ts rest : Tokens) : Type 0 where
    pub mid : Tokens
    pub at : Tokens
    pub behind_name : Tokens
    pub behind_colon : Tokens
    pub behind_type : Tokens
    pub rows : Rows (GoodAt (about_attr false) depth) attrs ts mid
    pub word : IsOne Ident (codes "const") mid at
    pub called : IsOne (word_kind n.raw) n.text at behind_name
    pub good_name : is_name n.raw n.text ≡ true
    pub colon : IsOperator (codes ":") behind_name behind_colon
    pub spelled : Spells (about_type x).told.form depth behind_colon behind_type
    pub good : good_at Bounds (about_type x) ≡ true
    pub default : Spells (const_default_form d) depth behind_type rest
    pub good_default : is_const_default d ≡ true
    pub less : length rest < length mid

  const_parts : (attrs : List Attr) (n : Name) (x : Ty) (d : Option ConstDefault) (ts rest : Tokens)
      → Spells (param_form (param.Const attrs n x d)) depth ts rest
      → is_param (param.Const attrs n x d) ≡ true → ConstParts attrs n x d ts rest
  const_parts attrs n x d ts rest s g =
      let behind_colon : Form = Part (about_type x).told.form (Part (const_default_form d) Done) in
      let behind_word : Form = leaf_of n.raw n.text (Piece types.colon behind_colon) in
      let goods = and_parts (are_attrs false attrs && is_name n.raw n.text && good_at Bounds (about_type x)) (is_const_default d) g in
      let g2 = and_parts (are_attrs false attrs && is_name n.raw n.text) (good_at Bounds (about_type x)) goods.0 in
      let g1 = and_parts (are_attrs false attrs) (is_name n.raw n.text) g2.0 in
      let rows = param_attrs_rows attrs (Piece (keyword (codes "const") ∷ Blank ∷ []) behind_word) depth ts rest s g1.0 in
      let mid = rows.0 in
      let w = rows.2 in
      let o : IsOne Ident (codes "const") mid w.0 = before_blank (keyword (codes "const")) mid w.0 w.1 in
      let l = leaf_parts n.raw n.text (Piece types.colon behind_colon) depth w.0 rest w.2 in
      let c = l.2 in
      let t = c.2 in
      record {
        mid = mid;
        at = w.0;
        behind_name = l.0;
        behind_colon = c.0;
        behind_type = t.0;
        rows = rows.1;
        word = o;
        called = l.1;
        good_name = g1.1;
        colon = colon_operator l.0 c.0 c.1;
        spelled = t.1;
        good = g2.1;
        default = part_alone (const_default_form d) depth t.0 rest t.2;
        good_default = goods.1;
        less = omega (arith, one_shorter Ident (codes "const") mid w.0 o, shorter behind_word depth w.0 rest w.2);
      }

  const_read : (attrs : List Attr) (n : Name) (x : Ty) (d : Option ConstDefault) (ts rest : Tokens)
      → Spells (param_form (param.Const attrs n x d)) depth ts rest
      → is_param (param.Const attrs n x d) ≡ true → Ends rest → Has (one_param inner) (param.Const attrs n x d) ts rest
  unfolding one_param const_param
  const_read attrs n x d ts rest s g e =
      let p = const_parts attrs n x d ts rest s g in
      let front = const_front p.mid p.at p.word in
      let listed = attributes_complete false attrs depth ts p.mid p.rows front.attr in
      let behind = const_default_behind d depth p.behind_type rest p.default e in
      let r = quiet_read depth inner reads Bounds x p.behind_colon p.behind_type p.spelled p.good behind.quiet in
      let default = const_default_complete d depth p.behind_type rest p.default p.good_default e in
      let there = keyword_there (codes "const") p.mid p.at p.word in
      let left = one_left Ident (codes "const") p.mid p.at p.word in (
        r.0,
        r.1,
        rw (
          listed,
          const_no_lifetime p.mid p.at p.word,
          there,
          left,
          name_complete n p.at p.behind_name (p.called, p.good_name),
          operator_read (codes ":") p.behind_name p.behind_colon p.colon,
          r.2,
          default,
        ) refl,
      )

  lifetime_read : (l : LifetimeParam) (ts rest : Tokens) → Spells (param_form (param.Region l)) depth ts rest → is_param (param.Region l) ≡ true → Ends rest
      → Has (one_param inner) (param.Region l) ts rest
  unfolding one_param
  lifetime_read l ts rest s g e =
      let r = lifetime_param_complete l depth ts rest s g e in
      (0, omega arith, rw (r.attrs, r.there, r.read) refl)

  param_read : (p : GenericParam) (ts rest : Tokens) → Spells (param_form p) depth ts rest → is_param p ≡ true → Ends rest → Has (one_param inner) p ts rest
  param_read (param.Region l) ts rest s g e = lifetime_read l ts rest s g e
  param_read (param.Named attrs n bs d) ts rest s g e = named_read attrs n bs d ts rest s g e
  param_read (param.Const attrs n x d) ts rest s g e = const_read attrs n x d ts rest s g e

  param_starts : (p : GenericParam) (ts rest : Tokens) → Spells (param_form p) depth ts rest → is_param p ≡ true
      → (first (is_mark (codes ">")) ts ≡ false) × (length rest < length ts)
  param_starts (param.Region l) ts rest s g = lifetime_param_starts l depth ts rest s g
  param_starts (param.Named attrs n bs d) ts rest s g = named_starts attrs n bs d ts rest s g
  param_starts (param.Const attrs n x d) ts rest s g =
      let p = const_parts attrs n x d ts rest s g in
      let before = attrs_front attrs depth ts p.mid p.rows in
      (before.greater (const_front p.mid p.at p.word).greater, omega (arith, before.shorter, p.less))

  pub generics_read : (is_spelled : Bool) (g : Generics) (ts rest : Tokens) → Spells (generics_spelled is_spelled g) depth ts rest
      → ((is_spelled || not (is_there g.params)) && is_generics g) ≡ true → generics_follow is_spelled rest ≡ true
      → Has (generics inner) (g, is_spelled) ts rest
  unfolding generics
  generics_read true g ts rest s good f =
      let l =
      list_read greater (is_mark (codes ">")) greater_closes (one_param inner) param_form is_param depth param_read param_starts less g.params ts rest good s in
      let there : first (is_mark (codes "<")) ts ≡ true = rw (one_front Punct (codes "<") ts l.0 l.1).1 refl in
      let ys = l.2 in
      (deepest ys.0, ys.2, made ys.0 ys.1 l.0 there (one_left Punct (codes "<") ts l.0 l.1) ys.3)
    where
      made : (ys : List (GenericParam × ℕ)) → nodes ys ≡ g.params → (inside : Tokens) → first (is_mark (codes "<")) ts ≡ true → tail ts ≡ inside
          → elements (is_mark (codes ">")) (one_param inner) inside ≡ Some (ys, rest)
          → generics inner ts ≡ Some (((g, true), deepest ys), rest)
      made ys same inside there left e = rw (there, left, e, same) refl
  generics_read false g ts rest s good f = by g.params (and_parts (not (is_there g.params)) (is_generics g) good).0
    where
      by : (ps : List GenericParam) → not (is_there ps) ≡ true → Has (generics inner) (record { params = ps }, false) ts rest
      by [] h =
          let none = not-true (first (is_mark (codes "<")) rest) f in (0, omega arith, rw s (rw none refl))
      by (p ∷ ps) h = absurd (cc)

-- Generic parameters by themselves.
pub generics_complete : (is_spelled : Bool) (g : Generics) (depth budget : ℕ) (ts rest : Tokens) → depth ≤ budget
    → Spells (deeper (generics_spelled is_spelled g)) depth ts rest
    → ((is_spelled || not (is_there g.params)) && is_generics g) ≡ true → generics_follow is_spelled rest ≡ true
    → IsRead depth (generics_at budget) (g, is_spelled) ts rest
generics_complete is_spelled g depth budget ts rest h s good f =
    alone_read generics (g, is_spelled) (generics_spelled is_spelled g) depth budget h ts rest s (λ least inner reads t.
    generics_read least inner reads is_spelled g ts rest t good f)
