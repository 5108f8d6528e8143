-- Types with a name: what is spelled is read.
use Rattle.std.proofs.Common.{Bool, List, None, Option, Some, [], arith, codes, false, inl, inr, map, max, refl, true, ℕ, ◌&&◌, ◌∙◌, ◌∷◌, ◌≡◌}
use Rattle.std.proofs.lemmas.Bool.{and_parts}
use Rattle.lay_piece.specs.declared.kind.Kind.TheVariants.{Ident, Punct}
use Rattle.lay_form.specs.Form.{Done, Fixed, Form, Operator, Part, keyword}
use Rattle.lay_form.specs.Spelled.{IsOne, IsOperator, Spells}
use Rattle.lay_node.specs.Ahead.{Tokens, first, is_mark}
use Rattle.lay_node.specs.Words.{is_name}
use Rattle.lay_node.specs.nodes.Facts.{ToldFront, by_itself}
use Rattle.lay_node.specs.nodes.Generics.{are_bounds, bounded_form, default_form, is_default, is_generics}
use Rattle.lay_node.specs.nodes.Heads.{about_alias, headed, may_be_given}
use Rattle.lay_node.specs.nodes.Where.{are_predicates, predicate_form}
use Rattle.lay_node.specs.reader.Exact.{Exact}
use Rattle.lay_node.specs.reader.Functions.{head_at}
use Rattle.lay_node.specs.reader.Generics.{met_if}
use Rattle.lay_node.specs.reader.Heads.{alias, called, given, semicolon}
use Rattle.lay_node.specs.reader.Types.{Within}
use Rattle.lay_node.specs.reader.Where.{wheres}
use Rattle.lay_node.specs.declared.heads.Alias.{Alias}
use Rattle.lay_node.specs.declared.heads.Site.{Site}
use Rattle.lay_node.specs.declared.types.Bound.{Bound}
use Rattle.lay_node.specs.declared.types.Ty.{Ty}
use Rattle.lay_node.proofs.Fronts.{mark_passed}
use Rattle.lay_node.proofs.Parts.{before_blank, bit_alone, part_alone, piece_bit}
use Rattle.lay_node.proofs.reader.AliasSound.{alias_told, aliases_sound}
use Rattle.lay_node.proofs.reader.Exact.{IsRead}
use Rattle.lay_node.proofs.reader.GenericsComplete.{default_behind, default_read, equals_operator, met_read}
use Rattle.lay_node.proofs.reader.HeadEnds.{tail_ends}
use Rattle.lay_node.proofs.reader.HeadParts.{body_wheres, called_there, semicolon_ends_wheres, wheres_there}
use Rattle.lay_node.proofs.reader.HeadsLevel.{CompleteHead, head_exact}
use Rattle.lay_node.proofs.reader.TypesComplete.{Reads}
use Rattle.lay_node.proofs.reader.TypesCompleteParts.{colon_operator}
use Rattle.lay_node.proofs.reader.TypesFronts.{op_first}

-- ---- no `<` begins what follows a name and its generic parameters

default_no_less : (d : Option Ty) (depth : ℕ) (ts rest : Tokens) → Spells (default_form d) depth ts rest → first (is_mark (codes "<")) rest ≡ false
    → first (is_mark (codes "<")) ts ≡ false
default_no_less None depth ts rest s h = rw s h
default_no_less (Some x) depth ts rest s h = rw (op_first 61 [] ts (equals_operator ts s.0 s.1).0).3 refl

pub bounded_no_less : (bs : List Bound) (depth : ℕ) (ts rest : Tokens) → Spells (bounded_form bs) depth ts rest → first (is_mark (codes "<")) rest ≡ false
    → first (is_mark (codes "<")) ts ≡ false
bounded_no_less [] depth ts rest s h = elim s.1 [
  | inl e ↦ let all : ts ≡ rest = e ∙ s.2 in rw all h
  | inr c ↦
      let o : IsOperator (codes ":") ts s.0 = bit_alone (Operator (codes ":")) ts s.0 c in
      rw (op_first 58 [] ts o.0).3 refl
]
bounded_no_less (b ∷ bs) depth ts rest s h = rw (op_first 58 [] ts (colon_operator ts s.0 s.1).0).3 refl

module _ (site : Site) (depth : ℕ) (inner : Within) (reads : Reads depth inner) where
  all_read : (x : Alias) (ts a b c d rest : Tokens) (l m n o : ℕ) (last : Bool) → called inner (codes "type") ts ≡ Some (((x.name, x.generics), l), a)
      → met_if inner a ≡ Some ((x.bounds, m), b) → given inner b ≡ Some ((x.ty, n), c) → wheres inner c ≡ Some (((x.wheres, last), o), d)
      → semicolon d ≡ Some rest → may_be_given site x.ty ≡ true → alias site inner ts ≡ Some ((x, max l (max m (max n o))), rest)
  unfolding alias
  all_read x ts a b c d rest l m n o last e f g h i j = rw (e, f, g, h, i, j) refl

  pub alias_read : (x : Alias) (ts rest : Tokens) → Spells (alias_told site x).form depth ts rest → (alias_told site x).good ≡ true
      → IsRead depth (alias site inner) x ts rest
  alias_read x ts rest s g =
      let g5 = and_parts (is_name x.name.raw x.name.text && is_generics x.generics && are_bounds x.bounds && is_default x.ty && are_predicates x.wheres)
      (may_be_given site x.ty) g in
      let g4 = and_parts (is_name x.name.raw x.name.text && is_generics x.generics && are_bounds x.bounds && is_default x.ty) (are_predicates x.wheres) g5.0 in
      let g3 = and_parts (is_name x.name.raw x.name.text && is_generics x.generics && are_bounds x.bounds) (is_default x.ty) g4.0 in
      let g2 = and_parts (is_name x.name.raw x.name.text && is_generics x.generics) (are_bounds x.bounds) g3.0 in
      let g1 = and_parts (is_name x.name.raw x.name.text) (is_generics x.generics) g2.0 in
      let mid = s.0 in
      let clause = s.2 in
      let mark : IsOne Punct (codes ";") clause.0 rest = piece_bit (Fixed Punct (codes ";")) depth clause.0 rest clause.2 in
      let ends = tail_ends x.wheres depth mid clause.0 rest clause.1 mark in
      let behind : Form = Part (bounded_form x.bounds) (Part (default_form x.ty) Done) in
      let c = called_there depth inner reads (codes "type") x.name x.generics behind ts mid s.1 g1.0 g1.1
      (λ us t.
      let d = t.2 in
      let default = part_alone (default_form x.ty) depth t.0 mid d in
      bounded_no_less x.bounds depth us t.0 t.1 (default_no_less x.ty depth t.0 mid default ends.1)) in
      let called_read = c.1 in
      let bounds = c.2 in
      let default = part_alone (default_form x.ty) depth bounds.0 mid bounds.2 in
      let b = met_read depth inner reads x.bounds c.0 bounds.0 bounds.1 g2.1 (default_behind x.ty depth bounds.0 mid default ends.0) in
      let d = default_read depth inner reads x.ty bounds.0 mid default g3.1 ends.0 in
      let body = body_wheres (map predicate_form x.wheres.predicates) depth mid clause.0 clause.1 in
      let w = wheres_there depth inner reads x.wheres mid clause.0 body g4.1 (semicolon_ends_wheres clause.0 rest mark) in
      let clause_read = w.1 in (
        max called_read.0 (max b.0 (max d.0 clause_read.0)),
        omega (arith, called_read.1, b.1, d.1, clause_read.1),
        all_read x ts c.0 bounds.0 mid clause.0 rest called_read.0 b.0 d.0 clause_read.0 w.0 called_read.2 b.2 d.2 clause_read.2
            (mark_passed (codes ";") clause.0 rest mark) g5.1,
      )

pub aliases_complete : (site : Site) → CompleteHead (alias_told site) (λ w ts. alias site w.kinds ts)
aliases_complete site depth inner reads x ts rest s g f = alias_read site depth inner.kinds reads.kinds x ts rest s g

pub aliases_exact : (site : Site) → Exact (head_at (λ w ts. alias site w.kinds ts)) (λ (x : Alias). ToldFront (by_itself (headed (about_alias site x))))
aliases_exact site = head_exact (alias_told site) (λ w ts. alias site w.kinds ts) (aliases_sound site) (aliases_complete site)

-- A type with a name begins with its word.
pub alias_begins : (site : Site) (x : Alias) (depth : ℕ) (ts rest : Tokens) → Spells (headed (about_alias site x)).form depth ts rest
    → (at : Tokens) × IsOne Ident (codes "type") ts at
alias_begins site x depth ts rest s =
    let head = s.1 in (head.0, before_blank (keyword (codes "type")) ts head.0 head.1)
