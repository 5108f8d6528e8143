-- The heads of items pass, and so do the items that are heads alone, after a visibility.
use Rattle.std.proofs.Common.{◌≡◌, inl, inr, List, [], ◌∷◌, Bool, true, false, not, ◌&&◌, ◌||◌, refl, codes, Option, Some, None}
use Rattle.std.specs.List.{list_all}
use Rattle.std.proofs.lemmas.Bool.{and_parts}
use Rattle.lay_form.specs.Form as form
use Rattle.lay_form.specs.Form.{Bit, Blank, Form, Done, Piece, keyword, opener, closer, semicolon}
use Rattle.lay_form.specs.Notation.{piece}
use Rattle.lay_form.specs.Pieces.{are_pieces}
use Rattle.lay_node.specs.Words.{is_name, leaf_of}
use Rattle.lay_node.specs.nodes.Fields.{are_fields, blank_if, is_field, is_variant}
use Rattle.lay_node.specs.nodes.Functions.{mut_word}
use Rattle.lay_node.specs.nodes.Generics.{are_bounds, bounded_form, default_form, generics_form, is_default, is_generics}
use Rattle.lay_node.specs.nodes.Heads.{HeadFacts, seen, leads, about_extern_crate, may_be_given, about_alias, head_fields, struct_tail, about_struct, about_union, about_enum, of_type, value_head_form, is_value_head, trait_head_form, is_trait_head, trait_ref_form, is_trait_ref, impl_head_form, is_impl_head, opens_less}
use Rattle.lay_node.specs.nodes.Types.{about_path, about_type, good_at, is_given, is_there}
use Rattle.lay_node.specs.nodes.Use.{rename_form}
use Rattle.lay_node.specs.nodes.Vis.{vis_form}
use Rattle.lay_node.specs.nodes.Where.{are_predicates, wheres_before_body, wheres_before_semicolon}
use Rattle.lay_node.specs.declared.fields.Fields.{Fields}
use Rattle.lay_node.specs.declared.fields.Fields.TheVariants as fields
use Rattle.lay_node.specs.declared.generics.Wheres.{Wheres}
use Rattle.lay_node.specs.declared.heads.Alias.{Alias}
use Rattle.lay_node.specs.declared.heads.Enum.{Enum}
use Rattle.lay_node.specs.declared.heads.ExternCrate.{ExternCrate}
use Rattle.lay_node.specs.declared.heads.ImplHead.{ImplHead}
use Rattle.lay_node.specs.declared.heads.Site.{Site}
use Rattle.lay_node.specs.declared.heads.Struct.{Struct}
use Rattle.lay_node.specs.declared.heads.TraitHead.{TraitHead}
use Rattle.lay_node.specs.declared.heads.TraitRef.{TraitRef}
use Rattle.lay_node.specs.declared.heads.Union.{Union}
use Rattle.lay_node.specs.declared.heads.ValueHead.{ValueHead}
use Rattle.lay_node.specs.declared.heads.ValueHead.TheVariants as value
use Rattle.lay_node.specs.declared.token.GivenName.TheVariants as given
use Rattle.lay_node.specs.declared.types.PathStyle.TheVariants.{Kind}
use Rattle.lay_node.specs.declared.types.TypePlace.TheVariants.{Bounds}
use Rattle.lay_node.specs.declared.vis.Vis.{Vis}
use Rattle.lay_reparse.proofs.borders.Border.{Border}
use Rattle.lay_reparse.proofs.forms.Passes.{plain}
use Rattle.lay_reparse.proofs.forms.Rules.{same_whenever, tables, From, ends, fixed, within, part, body_fits, where_fits, under-refl}
use Rattle.lay_reparse.proofs.file.Nodes.{ends_name, ends_line, ends_use, word, rest_pieces, when_pieces, rename_passes}
use Rattle.lay_reparse.proofs.file.TypeParts.{ends_type, param_name_passes, param_name_pieces}
use Rattle.lay_reparse.proofs.file.Types.{path_passes}
use Rattle.lay_reparse.proofs.file.Generics.{bounded_passes, default_passes, generics_pass, ends_predicate, body_wheres_pass, semicolon_wheres_pass, behind_generics, behind_type}
use Rattle.lay_reparse.proofs.forms.Fields.{type_ends, tuple_fits, tuple_passes, named_passes, variants_pass}
use Rattle.lay_reparse.proofs.forms.Functions.{behind_name}
use Rattle.lay_reparse.proofs.forms.Vis.{behind_vis}

-- ---- a head, and what follows it

-- Each of the two passes, with the same border between them.
pub record HeadPasses (x : HeadFacts) : Type 0 where
  pub between : Border
  pub head : x.good ≡ true → are_pieces x.head ≡ true → From plain x.head between
  pub tail : x.good ≡ true → are_pieces x.tail ≡ true → From between x.tail plain

-- a group of a visibility and the head, and what follows it
pub seen_passes : (v : Vis) (x : HeadFacts) → HeadPasses x → x.good ≡ true → are_pieces (seen v x) ≡ true
    → From plain (seen v x) plain
seen_passes v x k g w =
    let p = and_parts (are_pieces (form.Part (vis_form v) x.head)) (are_pieces x.tail) w in
    within plain k.between refl (behind_vis v p.0 (k.head g)) (k.tail g p.1)

-- of four conditions, each
pub four_parts : (a b c d : Bool) → a && b && c && d ≡ true → (a ≡ true) × (b ≡ true) × (c ≡ true) × (d ≡ true)
four_parts a b c d g =
    let n1 = and_parts (a && b && c) d g in
    let n2 = and_parts (a && b) c n1.0 in
    let n3 = and_parts a b n2.0 in (n3.0, n3.1, n2.1, n1.1)

-- a where clause and a `;`
pub semicolon_tail : {b : Border} (wheres : Wheres) → where_fits b plain ends_predicate ends_predicate ≡ true
    → are_predicates wheres ≡ true
    → are_pieces (form.Part (wheres_before_semicolon wheres) (piece semicolon)) ≡ true
    → From b (form.Part (wheres_before_semicolon wheres) (piece semicolon)) plain
unfolding tables
semicolon_tail {b} wheres fit g w =
    let p = (and_parts (are_pieces (wheres_before_semicolon wheres)) true w).0 in
    part b ends_predicate (under-refl b) (semicolon_wheres_pass wheres fit g p) (fixed refl (ends refl))

-- a where clause, and a body
pub body_tail : {b c : Border} (wheres : Wheres) {f : Form} → where_fits b plain ends_predicate ends_predicate ≡ true
    → are_predicates wheres ≡ true
    → are_pieces (form.Part (wheres_before_body wheres) f) ≡ true
    → (are_pieces f ≡ true → From ends_predicate f c) → From b (form.Part (wheres_before_body wheres) f) c
body_tail {b} wheres {f} fit g w k =
    let p = and_parts (are_pieces (wheres_before_body wheres)) (are_pieces f) w in
    part b ends_predicate (under-refl b) (body_wheres_pass wheres fit g p.0) (k p.1)

-- fields or variants in braces after a where clause, with a leading blank and without one
pub braces_fit : (lead : Bool) → body_fits (blank_if lead) [] ends_predicate plain plain plain ≡ true
unfolding tables
braces_fit true = refl
braces_fit false = refl

-- items in braces there
pub items_fit : (lead : Bool) → body_fits (blank_if lead) [] ends_predicate plain ends_line plain ≡ true
unfolding tables
items_fit true = refl
items_fit false = refl

-- ---- what is outside

pub extern_crate_passes : (x : ExternCrate) → HeadPasses (about_extern_crate x)
unfolding tables
extern_crate_passes x = record {
  between = ends_use;
  head = λ g w.
      let q = rest_pieces x.word.raw x.word.text (rename_form x.renamed) w in
      fixed refl (word x.word.raw x.word.text refl w (rename_passes x.renamed (inl refl) q)
      (rename_passes x.renamed (inr refl) q));
  tail = λ g w. fixed refl (ends refl);
}

-- ---- types with a name

pub alias_passes : (site : Site) (x : Alias) → HeadPasses (about_alias site x)
unfolding tables
alias_passes site x = record {
  between = ends_type;
  head = λ g w.
      let n = parts g in
      fixed refl (behind_name x.name.raw x.name.text x.generics n.0 w (λ p.
      let q = and_parts (are_pieces (bounded_form x.bounds)) _ p in
      let r = (and_parts (are_pieces (default_form x.ty)) true q.1).0 in
      part ends_name ends_type refl (bounded_passes x.bounds n.1 q.0)
      (part ends_type ends_type refl (default_passes x.ty n.2 r) (ends refl))));
  tail = λ g w. semicolon_tail x.wheres behind_type (parts g).3 w;
}
  where
    parts : (about_alias site x).good ≡ true
        → (is_generics x.generics ≡ true) × (are_bounds x.bounds ≡ true) × (is_default x.ty ≡ true)
        × (are_predicates x.wheres ≡ true)
    parts g =
        let n1 = and_parts
        (is_name x.name.raw x.name.text && is_generics x.generics && are_bounds x.bounds && is_default x.ty
        && are_predicates x.wheres) (may_be_given site x.ty) g in
        let n2 = and_parts
        (is_name x.name.raw x.name.text && is_generics x.generics && are_bounds x.bounds && is_default x.ty)
        (are_predicates x.wheres) n1.0 in
        let n3 = and_parts (is_name x.name.raw x.name.text && is_generics x.generics && are_bounds x.bounds)
        (is_default x.ty) n2.0 in
        let n4 = and_parts (is_name x.name.raw x.name.text && is_generics x.generics) (are_bounds x.bounds) n3.0 in
        ((and_parts (is_name x.name.raw x.name.text) (is_generics x.generics) n4.0).1, n4.1, n3.1, n2.1)

-- ---- structs, unions and enumerations

head_fields_pass : (fs : Fields) → are_fields fs ≡ true → are_pieces (head_fields fs) ≡ true
    → From ends_name (head_fields fs) ends_name
head_fields_pass fields.Unit g w = ends refl
head_fields_pass (fields.Tuple fs) g w = tuple_passes fs tuple_fits g w
head_fields_pass (fields.Named fs) g w = ends refl

struct_tail_passes : (wheres : Wheres) (fs : Fields) → are_predicates wheres ≡ true → are_fields fs ≡ true
    → are_pieces (struct_tail wheres fs) ≡ true → From ends_name (struct_tail wheres fs) plain
struct_tail_passes wheres fields.Unit g k w = semicolon_tail wheres behind_generics g w
struct_tail_passes wheres (fields.Tuple fs) g k w = semicolon_tail wheres behind_generics g w
struct_tail_passes wheres (fields.Named fs) g k w =
    body_tail wheres behind_generics g w (named_passes (leads wheres) fs (braces_fit (leads wheres)) k)

pub struct_passes : (x : Struct) → HeadPasses (about_struct x)
unfolding tables
struct_passes x = record {
  between = ends_name;
  head = λ g w.
      let n = parts g in
      fixed refl (behind_name x.name.raw x.name.text x.generics n.1 w (λ p.
      let q = (and_parts (are_pieces (head_fields x.fields)) true p).0 in
      part ends_name ends_name refl (head_fields_pass x.fields n.2 q) (ends refl)));
  tail = λ g w. let n = parts g in struct_tail_passes x.wheres x.fields n.3 n.2 w;
}
  where
    parts : (about_struct x).good ≡ true
        → (is_name x.name.raw x.name.text ≡ true) × (is_generics x.generics ≡ true) × (are_fields x.fields ≡ true)
        × (are_predicates x.wheres ≡ true)
    parts g = four_parts (is_name x.name.raw x.name.text) (is_generics x.generics) (are_fields x.fields)
        (are_predicates x.wheres) g

pub union_passes : (x : Union) → HeadPasses (about_union x)
unfolding tables
union_passes x = record {
  between = ends_name;
  head = λ g w. let n = parts g in
      fixed refl (behind_name x.name.raw x.name.text x.generics n.1 w (λ p. ends refl));
  tail = λ g w. let n = parts g in
      body_tail x.wheres behind_generics n.2 w
      (named_passes (leads x.wheres) x.fields (braces_fit (leads x.wheres)) n.3);
}
  where
    parts : (about_union x).good ≡ true
        → (is_name x.name.raw x.name.text ≡ true) × (is_generics x.generics ≡ true)
        × (are_predicates x.wheres ≡ true) × (list_all is_field x.fields ≡ true)
    parts g = four_parts (is_name x.name.raw x.name.text) (is_generics x.generics) (are_predicates x.wheres)
        (list_all is_field x.fields) g

pub enum_passes : (x : Enum) → HeadPasses (about_enum x)
unfolding tables
enum_passes x = record {
  between = ends_name;
  head = λ g w. let n = parts g in
      fixed refl (behind_name x.name.raw x.name.text x.generics n.1 w (λ p. ends refl));
  tail = λ g w. let n = parts g in
      body_tail x.wheres behind_generics n.2 w
      (variants_pass (leads x.wheres) x.variants (braces_fit (leads x.wheres)) n.3);
}
  where
    parts : (about_enum x).good ≡ true
        → (is_name x.name.raw x.name.text ≡ true) × (is_generics x.generics ≡ true)
        × (are_predicates x.wheres ≡ true) × (list_all is_variant x.variants ≡ true)
    parts g = four_parts (is_name x.name.raw x.name.text) (is_generics x.generics) (are_predicates x.wheres)
        (list_all is_variant x.variants) g

-- ---- constants and statics

pub value_head_passes : (x : ValueHead) → is_value_head x ≡ true → are_pieces (value_head_form x) ≡ true
    → From plain (value_head_form x) ends_type
unfolding tables
value_head_passes (value.Const (given.Name n) x) g w =
    let k = (and_parts (is_given (given.Name n)) (good_at Bounds (about_type x)) g).1 in
    let f = form.Part (about_type x).told.form Done in
    fixed refl (param_name_passes (Some (given.Name n)) w (type_ends x k (param_name_pieces (Some (given.Name n)) f w)))
value_head_passes (value.Const given.Underscore x) g w =
    let f = form.Part (about_type x).told.form Done in
    fixed refl (param_name_passes (Some given.Underscore) w (type_ends x g (param_name_pieces (Some given.Underscore) f w)))
value_head_passes (value.Static mutable name x) g w =
    let k = (and_parts (is_name name.raw name.text) (good_at Bounds (about_type x)) g).1 in
    let e = of_type x in
    let p = when_pieces mutable mut_word (leaf_of name.raw name.text e) w in
    let z = type_ends x k (rest_pieces name.raw name.text e p) in
    fixed refl (same_whenever mutable mut_word refl refl refl (word name.raw name.text refl p (fixed refl z) (fixed refl z)))

-- ---- traits

abbrev unsafe_word : List Bit
unsafe_word = keyword (codes "unsafe") ∷ Blank ∷ []

pub trait_head_passes : (x : TraitHead) → is_trait_head x ≡ true → are_pieces (trait_head_form x) ≡ true
    → From plain (trait_head_form x) ends_type
unfolding tables
trait_head_passes x g w =
    let n1 = and_parts (is_name x.name.raw x.name.text && is_generics x.generics) (are_bounds x.bounds) g in
    let n2 = and_parts (is_name x.name.raw x.name.text) (is_generics x.generics) n1.0 in
    let p = when_pieces x.is_unsafe unsafe_word _ w in
    same_whenever x.is_unsafe unsafe_word refl refl refl (fixed refl (behind_name x.name.raw x.name.text x.generics n2.1 p (λ q.
    let r = (and_parts (are_pieces (bounded_form x.bounds)) true q).0 in
    part ends_name ends_type refl (bounded_passes x.bounds n1.1 r) (ends refl))))

-- ---- implementations

trait_ref_passes : (of : Option TraitRef) {f : Form} {c : Border} → is_trait_ref of ≡ true
    → are_pieces (trait_ref_form of f) ≡ true → (are_pieces f ≡ true → From plain f c)
    → From plain (trait_ref_form of f) c
unfolding tables
trait_ref_passes None g w k = k w
trait_ref_passes (Some r) {f} {c} g w k = by r.negative w
  where
    by : (negative : Bool) → are_pieces (trait_ref_form (Some (record { negative = negative; path = r.path })) f) ≡ true
        → From plain (trait_ref_form (Some (record { negative = negative; path = r.path })) f) c
    by true w =
        let p = and_parts (are_pieces (about_path r.path Kind).form) (are_pieces f) w in
        fixed refl (part plain ends_type refl (((path_passes r.path).go Kind).go g p.0) (fixed refl (k p.1)))
    by false w =
        let p = and_parts (are_pieces (about_path r.path Kind).form) (are_pieces f) w in
        part plain ends_type refl (((path_passes r.path).go Kind).go g p.0) (fixed refl (k p.1))

pub impl_head_passes : (x : ImplHead) → is_impl_head x ≡ true → are_pieces (impl_head_form x) ≡ true
    → From plain (impl_head_form x) ends_type
unfolding tables
impl_head_passes x g w =
    let n1 = and_parts (is_generics x.generics && is_trait_ref x.of && good_at Bounds (about_type x.ty))
    (is_there x.generics.params || not (opens_less x.of x.ty)) g in
    let n2 = and_parts (is_generics x.generics && is_trait_ref x.of) (good_at Bounds (about_type x.ty)) n1.0 in
    let n3 = and_parts (is_generics x.generics) (is_trait_ref x.of) n2.0 in
    let e = form.Part (about_type x.ty).told.form Done in
    let p = when_pieces x.is_unsafe unsafe_word _ w in
    let q = and_parts (are_pieces (generics_form x.generics)) (are_pieces (trait_ref_form x.of e)) p in
    same_whenever x.is_unsafe unsafe_word refl refl refl (fixed refl (part ends_name ends_name refl (generics_pass x.generics n3.0 q.0)
    (fixed refl (trait_ref_passes x.of n3.1 q.1 (type_ends x.ty n2.1)))))
