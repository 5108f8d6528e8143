-- The heads of items, and the items that are heads alone, tell their units.
use Rattle.std.proofs.Common.{◌≡◌, ℕ, Bool, true, false, not, ◌&&◌, ◌||◌, List, [], ◌∷◌, ◌++◌, codes, map, refl, sym, subst, append_assoc, Option, Some, None}
use Rattle.std.specs.List.{list_all}
use Rattle.std.proofs.lemmas.Bool.{and_parts, not-true}
use Rattle.lay_piece.specs.declared.kind.Delim.TheVariants.{Paren}
use Rattle.lay_piece.specs.declared.kind.Kind.TheVariants as kind
use Rattle.lay_form.specs.Form.{Blank, Fixed, Form, Done, Piece, Part, keyword, opener, closer, semicolon}
use Rattle.lay_form.specs.Notation.{I0, comma_list, fields, piece, when}
use Rattle.lay_node.specs.Words.{is_name}
use Rattle.lay_node.specs.nodes.Fields.{are_fields, blank_if, field_form, is_field, is_variant, tuple_field_form, variant_form}
use Rattle.lay_node.specs.nodes.Functions.{mut_word}
use Rattle.lay_node.specs.nodes.Generics.{are_bounds, bounded_form, default_form, generics_form, is_default, is_generics, is_param}
use Rattle.lay_node.specs.nodes.Heads.{HeadFacts, about_alias, about_enum, about_extern_crate, about_struct, about_union, called, head_fields, impl_head_form, is_impl_head, is_trait_head, is_trait_ref, is_value_head, leads, may_be_given, of_type, opens_less, path_opens_less, struct_tail, trait_head_form, trait_ref_form, value_head_form}
use Rattle.lay_node.specs.nodes.Types.{about_path, about_type, colon, good_at, is_given, is_there}
use Rattle.lay_node.specs.nodes.Vis.{is_vis, vis_form}
use Rattle.lay_node.specs.nodes.Where.{are_predicates, wheres_before_body, wheres_before_semicolon}
use Rattle.lay_node.specs.declared.fields.Fields.{Fields}
use Rattle.lay_node.specs.declared.fields.Fields.TheVariants as kinds
use Rattle.lay_node.specs.declared.generics.GenericParam.{GenericParam}
use Rattle.lay_node.specs.declared.generics.Generics.{Generics}
use Rattle.lay_node.specs.declared.generics.Wheres.{Wheres}
use Rattle.lay_node.specs.declared.heads.Alias.{Alias}
use Rattle.lay_node.specs.declared.heads.Enum.{Enum}
use Rattle.lay_node.specs.declared.heads.ExternCrate.{ExternCrate}
use Rattle.lay_node.specs.declared.heads.ImplHead.{ImplHead}
use Rattle.lay_node.specs.declared.heads.Site.{Site}
use Rattle.lay_node.specs.declared.heads.Struct.{Struct}
use Rattle.lay_node.specs.declared.heads.TraitHead.{TraitHead}
use Rattle.lay_node.specs.declared.heads.TraitRef.{TraitRef}
use Rattle.lay_node.specs.declared.heads.Union.{Union}
use Rattle.lay_node.specs.declared.heads.ValueHead.{ValueHead}
use Rattle.lay_node.specs.declared.heads.ValueHead.TheVariants as value
use Rattle.lay_node.specs.declared.types.Bound.{Bound}
use Rattle.lay_node.specs.declared.types.PathStyle.TheVariants.{Kind}
use Rattle.lay_node.specs.declared.types.Ty.{Ty}
use Rattle.lay_node.specs.declared.types.TypePlace.TheVariants.{Bounds}
use Rattle.lay_node.specs.declared.vis.Vis.{Vis}
use Rattle.lay_map.specs.spelling.Units.{Word, words}
use Rattle.lay_map.proofs.FrontRules.{Apart, angles, leads_fixed, leads_part}
use Rattle.lay_map.proofs.Rules.{Firm, Plain, Tells, anywhere, ends, firm_fixed, firm_group, fixed, group_to, part, part_before, part_to, tame}
use Rattle.lay_map.proofs.nodes.Attrs.{firm_when, whenever, word}
use Rattle.lay_map.proofs.nodes.Fields.{named_tells, tuple_tells, variants_tell}
use Rattle.lay_map.proofs.nodes.Generics.{NoAngles, bounded_tells, default_tells, generics_tell, no_colon, some_generics_tell}
use Rattle.lay_map.proofs.nodes.PathFronts.{open_path_apart, type_apart}
use Rattle.lay_map.proofs.nodes.TypeParts.{given_tells}
use Rattle.lay_map.proofs.nodes.Types.{path_tells, type_tells}
use Rattle.lay_map.proofs.nodes.Use.{rename_tells}
use Rattle.lay_map.proofs.nodes.Vis.{vis_firm_then, vis_tells}
use Rattle.lay_map.proofs.nodes.Where.{AfterHead, BehindWheres, after_head_body, after_head_semicolon, head_angles, head_colon, wheres_body_tell, wheres_semicolon_tell}

-- ---- a head and what follows it

pub record HeadTells (x : HeadFacts) : Type 0 where
  pub head : Tells AfterHead x.head
  pub tail : Plain x.tail
  pub follows : (ws : List Word) → AfterHead (words x.tail ++ ws)
  pub firm_is : Firm x.head

pub seen_tells : {Next : List Word → Type 0} (v : Vis) (x : HeadFacts) → is_vis v ≡ true → HeadTells x → Tells Next (I0 (Part (vis_form v) x.head) x.tail)
seen_tells v x h t = group_to false 0 (λ ws n. t.follows ws) (part (vis_tells v h) t.head) (anywhere t.tail)

pub seen_firm : (v : Vis) (x : HeadFacts) → HeadTells x → Firm (I0 (Part (vis_form v) x.head) x.tail)
seen_firm v x t = firm_group false 0 (vis_firm_then v t.firm_is)

-- a word, a name and generic parameters, before what follows them
called_tells : {Next : List Word → Type 0} {f : Form} (bits : List ℕ) (raw : Bool) (text : List ℕ) (generics : Generics) → tame (keyword bits ∷ Blank ∷ []) ≡ true
    → is_generics generics ≡ true → ((ws : List Word) → Next ws → NoAngles (words f ++ ws)) → Tells Next f → Tells Next (called bits raw text generics f)
called_tells bits raw text generics h g k t = fixed (keyword bits ∷ Blank ∷ []) h (word raw text (part_to k (generics_tell generics g) t))

-- ---- where clauses before a `;` and before fields

before_semicolon : (w : Wheres) → are_predicates w ≡ true → Plain (Part (wheres_before_semicolon w) (piece semicolon))
before_semicolon w g = part_to (λ ws n. refl) (wheres_semicolon_tell w g) (fixed semicolon refl ends)

semicolon_follows : (w : Wheres) (ws : List Word) → AfterHead (words (Part (wheres_before_semicolon w) (piece semicolon)) ++ ws)
semicolon_follows w ws =
    subst AfterHead (sym (append_assoc (words (wheres_before_semicolon w)) (words (piece semicolon)) ws))
    (after_head_semicolon w (words (piece semicolon) ++ ws) refl)

-- Fields begin with their brace.
fields_wheres : (lead : Bool) (es : List Form) (ws : List Word) → BehindWheres (words (fields (blank_if lead) es) ++ ws)
fields_wheres true [] ws = refl
fields_wheres false [] ws = refl
fields_wheres true (e ∷ []) ws = refl
fields_wheres false (e ∷ []) ws = refl
fields_wheres true (e ∷ f ∷ es) ws = refl
fields_wheres false (e ∷ f ∷ es) ws = refl

fields_head : (lead : Bool) (es : List Form) (ws : List Word) → AfterHead (words (fields (blank_if lead) es) ++ ws)
fields_head true [] ws = refl
fields_head false [] ws = refl
fields_head true (e ∷ []) ws = refl
fields_head false (e ∷ []) ws = refl
fields_head true (e ∷ f ∷ es) ws = refl
fields_head false (e ∷ f ∷ es) ws = refl

before_fields : (w : Wheres) (es : List Form) → are_predicates w ≡ true → Plain (fields (blank_if (leads w)) es)
    → Plain (Part (wheres_before_body w) (fields (blank_if (leads w)) es))
before_fields w es g t = part_to (λ ws n. fields_wheres (leads w) es ws) (wheres_body_tell w g) t

fields_follow : (w : Wheres) (es : List Form) (ws : List Word) → AfterHead (words (Part (wheres_before_body w) (fields (blank_if (leads w)) es)) ++ ws)
fields_follow w es ws =
    let f = fields (blank_if (leads w)) es in
    subst AfterHead (sym (append_assoc (words (wheres_before_body w)) (words f) ws)) (after_head_body w (words f ++ ws) (fields_head (leads w) es ws))

-- ---- what is outside

pub extern_crate_tells : (x : ExternCrate) → HeadTells (about_extern_crate x)
extern_crate_tells x = record {
  head = fixed (keyword (codes "extern") ∷ Blank ∷ keyword (codes "crate") ∷ Blank ∷ []) refl (word x.word.raw x.word.text (rename_tells x.renamed));
  tail = fixed semicolon refl ends;
  follows = λ ws. refl;
  firm_is = firm_fixed (keyword (codes "extern") ∷ Blank ∷ keyword (codes "crate") ∷ Blank ∷ []) refl;
}

-- ---- types with a name

-- Bounds, and else what follows them, begin with neither `<` nor `>`, and a default doesn't either.
bounded_angles : (bs : List Bound) (f : Form) (ws : List Word) → NoAngles (words f ++ ws) → NoAngles (words (Part (bounded_form bs) f) ++ ws)
bounded_angles [] f ws n = n
bounded_angles (b ∷ bs) f ws n = refl

default_angles : (x : Option Ty) (ws : List Word) → NoAngles ws → NoAngles (words (Part (default_form x) Done) ++ ws)
default_angles None ws n = n
default_angles (Some x) ws n = refl

pub alias_tells : (site : Site) (x : Alias) → (about_alias site x).good ≡ true → HeadTells (about_alias site x)
alias_tells site x g =
    let n1 = and_parts (is_name x.name.raw x.name.text && is_generics x.generics && are_bounds x.bounds && is_default x.ty && are_predicates x.wheres)
    (may_be_given site x.ty) g in
    let n2 = and_parts (is_name x.name.raw x.name.text && is_generics x.generics && are_bounds x.bounds && is_default x.ty) (are_predicates x.wheres) n1.0 in
    let n3 = and_parts (is_name x.name.raw x.name.text && is_generics x.generics && are_bounds x.bounds) (is_default x.ty) n2.0 in
    let n4 = and_parts (is_name x.name.raw x.name.text && is_generics x.generics) (are_bounds x.bounds) n3.0 in
    let n5 = and_parts (is_name x.name.raw x.name.text) (is_generics x.generics) n4.0 in
    record {
      head = called_tells (codes "type") x.name.raw x.name.text x.generics refl n5.1
          (λ ws n. bounded_angles x.bounds (Part (default_form x.ty) Done) ws (default_angles x.ty ws (head_angles ws n)))
          (part_to (λ ws n. no_colon x.ty ws (head_colon ws n)) (bounded_tells x.bounds n4.1) (part (default_tells x.ty n3.1) ends));
      tail = before_semicolon x.wheres n2.1;
      follows = semicolon_follows x.wheres;
      firm_is = firm_fixed (keyword (codes "type") ∷ Blank ∷ []) refl;
    }

-- ---- structs, unions and enumerations

head_fields_tell : {Next : List Word → Type 0} (fs : Fields) → are_fields fs ≡ true → Tells Next (head_fields fs)
head_fields_tell kinds.Unit g = ends
head_fields_tell (kinds.Tuple fs) g = tuple_tells fs g
head_fields_tell (kinds.Named fs) g = ends

-- A list in parentheses begins with `(`.
paren_angles : (es : List Form) (f : Form) (ws : List Word) → NoAngles (words (Part (comma_list true (opener Paren) (closer Paren) es) f) ++ ws)
paren_angles [] f ws = refl
paren_angles (e ∷ es) f ws = refl

head_fields_angles : (fs : Fields) (ws : List Word) → NoAngles ws → NoAngles (words (Part (head_fields fs) Done) ++ ws)
head_fields_angles kinds.Unit ws n = n
head_fields_angles (kinds.Tuple fs) ws n = paren_angles (map tuple_field_form fs) Done ws
head_fields_angles (kinds.Named fs) ws n = n

struct_tail_tells : (w : Wheres) (fs : Fields) → are_predicates w ≡ true → are_fields fs ≡ true → Plain (struct_tail w fs)
struct_tail_tells w kinds.Unit g h = before_semicolon w g
struct_tail_tells w (kinds.Tuple fs) g h = before_semicolon w g
struct_tail_tells w (kinds.Named fs) g h = before_fields w (map field_form fs) g (named_tells (leads w) fs h)

struct_follows : (w : Wheres) (fs : Fields) (ws : List Word) → AfterHead (words (struct_tail w fs) ++ ws)
struct_follows w kinds.Unit ws = semicolon_follows w ws
struct_follows w (kinds.Tuple fs) ws = semicolon_follows w ws
struct_follows w (kinds.Named fs) ws = fields_follow w (map field_form fs) ws

pub struct_tells : (x : Struct) → (about_struct x).good ≡ true → HeadTells (about_struct x)
struct_tells x g =
    let n1 = and_parts (is_name x.name.raw x.name.text && is_generics x.generics && are_fields x.fields) (are_predicates x.wheres) g in
    let n2 = and_parts (is_name x.name.raw x.name.text && is_generics x.generics) (are_fields x.fields) n1.0 in
    let n3 = and_parts (is_name x.name.raw x.name.text) (is_generics x.generics) n2.0 in
    record {
      head = called_tells (codes "struct") x.name.raw x.name.text x.generics refl n3.1
          (λ ws n. head_fields_angles x.fields ws (head_angles ws n)) (part (head_fields_tell x.fields n2.1) ends);
      tail = struct_tail_tells x.wheres x.fields n1.1 n2.1;
      follows = struct_follows x.wheres x.fields;
      firm_is = firm_fixed (keyword (codes "struct") ∷ Blank ∷ []) refl;
    }

pub union_tells : (x : Union) → (about_union x).good ≡ true → HeadTells (about_union x)
union_tells x g =
    let n1 = and_parts (is_name x.name.raw x.name.text && is_generics x.generics && are_predicates x.wheres) (list_all is_field x.fields) g in
    let n2 = and_parts (is_name x.name.raw x.name.text && is_generics x.generics) (are_predicates x.wheres) n1.0 in
    let n3 = and_parts (is_name x.name.raw x.name.text) (is_generics x.generics) n2.0 in
    record {
      head = called_tells (codes "union") x.name.raw x.name.text x.generics refl n3.1 head_angles ends;
      tail = before_fields x.wheres (map field_form x.fields) n2.1 (named_tells (leads x.wheres) x.fields n1.1);
      follows = fields_follow x.wheres (map field_form x.fields);
      firm_is = firm_fixed (keyword (codes "union") ∷ Blank ∷ []) refl;
    }

pub enum_tells : (x : Enum) → (about_enum x).good ≡ true → HeadTells (about_enum x)
enum_tells x g =
    let n1 = and_parts (is_name x.name.raw x.name.text && is_generics x.generics && are_predicates x.wheres) (list_all is_variant x.variants) g in
    let n2 = and_parts (is_name x.name.raw x.name.text && is_generics x.generics) (are_predicates x.wheres) n1.0 in
    let n3 = and_parts (is_name x.name.raw x.name.text) (is_generics x.generics) n2.0 in
    let es = map variant_form x.variants in
    record {
      head = called_tells (codes "enum") x.name.raw x.name.text x.generics refl n3.1 head_angles ends;
      tail = before_fields x.wheres es n2.1 (variants_tell (leads x.wheres) x.variants n1.1);
      follows = fields_follow x.wheres es;
      firm_is = firm_fixed (keyword (codes "enum") ∷ Blank ∷ []) refl;
    }

-- ---- constants and statics

of_type_tells : {Next : List Word → Type 0} (x : Ty) → good_at Bounds (about_type x) ≡ true → Tells Next (of_type x)
of_type_tells x g = fixed colon refl (part (type_tells x g) ends)

pub value_head_tells : {Next : List Word → Type 0} (x : ValueHead) → is_value_head x ≡ true → Tells Next (value_head_form x)
value_head_tells (value.Const name x) g =
    fixed (keyword (codes "const") ∷ Blank ∷ []) refl (given_tells name (of_type_tells x (and_parts (is_given name) (good_at Bounds (about_type x)) g).1))
value_head_tells (value.Static mutable name x) g =
    fixed (keyword (codes "static") ∷ Blank ∷ []) refl (whenever mutable mut_word refl
    (word name.raw name.text (of_type_tells x (and_parts (is_name name.raw name.text) (good_at Bounds (about_type x)) g).1)))

pub value_head_firm : (x : ValueHead) → Firm (value_head_form x)
value_head_firm (value.Const name x) = firm_fixed (keyword (codes "const") ∷ Blank ∷ []) refl
value_head_firm (value.Static mutable name x) = firm_fixed (keyword (codes "static") ∷ Blank ∷ []) refl

-- ---- traits

pub trait_head_tells : (x : TraitHead) → is_trait_head x ≡ true → Tells AfterHead (trait_head_form x)
trait_head_tells x g =
    let n1 = and_parts (is_name x.name.raw x.name.text && is_generics x.generics) (are_bounds x.bounds) g in
    let n2 = and_parts (is_name x.name.raw x.name.text) (is_generics x.generics) n1.0 in
    whenever x.is_unsafe (keyword (codes "unsafe") ∷ Blank ∷ []) refl
    (called_tells (codes "trait") x.name.raw x.name.text x.generics refl n2.1 (λ ws n. bounded_angles x.bounds Done ws (head_angles ws n))
    (part_to (λ ws n. head_colon ws n) (bounded_tells x.bounds n1.1) ends))

pub trait_head_firm : (x : TraitHead) → Firm (trait_head_form x)
trait_head_firm x = firm_when x.is_unsafe (keyword (codes "unsafe") ∷ Blank ∷ []) refl (firm_fixed (keyword (codes "trait") ∷ Blank ∷ []) refl)

-- ---- implementations

-- the trait, if there is one, and the type
of_tells : {Next : List Word → Type 0} (of : Option TraitRef) (x : Ty) → is_trait_ref of ≡ true → good_at Bounds (about_type x) ≡ true
    → Tells Next (trait_ref_form of (Part (about_type x).told.form Done))
of_tells None x g h = part (type_tells x h) ends
of_tells (Some r) x g h =
    whenever r.negative (Fixed kind.Punct (codes "!") ∷ []) refl
    (part (path_tells Kind r.path g) (fixed (Blank ∷ keyword (codes "for") ∷ Blank ∷ []) refl (part (type_tells x h) ends)))

of_apart : (of : Option TraitRef) (x : Ty) → opens_less of x ≡ false → is_trait_ref of ≡ true → good_at Bounds (about_type x) ≡ true
    → Apart angles (trait_ref_form of (Part (about_type x).told.form Done))
of_apart None x h g k = leads_part (type_apart x h k)
of_apart (Some r) x h g k = by r.negative h
  where
    by : (negative : Bool) → (not negative && path_opens_less r.path) ≡ false
        → Apart angles (when negative (Fixed kind.Punct (codes "!") ∷ [])
        (Part (about_path r.path Kind).form (Piece (Blank ∷ keyword (codes "for") ∷ Blank ∷ []) (Part (about_type x).told.form Done))))
    by true e = leads_fixed (Fixed kind.Punct (codes "!") ∷ []) (λ ws. refl)
    by false e = leads_part (open_path_apart Kind r.path e g)

pub impl_head_tells : {Next : List Word → Type 0} (x : ImplHead) → is_impl_head x ≡ true → Tells Next (impl_head_form x)
impl_head_tells {Next} x g =
    let n1 = and_parts (is_generics x.generics && is_trait_ref x.of && good_at Bounds (about_type x.ty))
    (is_there x.generics.params || not (opens_less x.of x.ty)) g in
    let n2 = and_parts (is_generics x.generics && is_trait_ref x.of) (good_at Bounds (about_type x.ty)) n1.0 in
    let n3 = and_parts (is_generics x.generics) (is_trait_ref x.of) n2.0 in
    whenever x.is_unsafe (keyword (codes "unsafe") ∷ Blank ∷ []) refl
    (fixed (keyword (codes "impl") ∷ []) refl (by n3.1 n2.1 x.generics.params n3.0 n1.1))
  where
    rest : Form
    rest = Piece (Blank ∷ []) (trait_ref_form x.of (Part (about_type x.ty).told.form Done))

    by : is_trait_ref x.of ≡ true → good_at Bounds (about_type x.ty) ≡ true → (ps : List GenericParam) → list_all is_param ps ≡ true
        → (is_there ps || not (opens_less x.of x.ty)) ≡ true → Tells Next (Part (generics_form (record { params = ps })) rest)
    by of ty [] h k =
        part_before (λ w ws n. (of_apart x.of x.ty (not-true (opens_less x.of x.ty) k) of ty).go w ws) (generics_tell (record { params = [] }) refl)
        (fixed (Blank ∷ []) refl (of_tells x.of x.ty of ty))
    by of ty (p ∷ ps) h k = part (some_generics_tell p ps h) (fixed (Blank ∷ []) refl (of_tells x.of x.ty of ty))

pub impl_head_firm : (x : ImplHead) → Firm (impl_head_form x)
impl_head_firm x = firm_when x.is_unsafe (keyword (codes "unsafe") ∷ Blank ∷ []) refl (firm_fixed (keyword (codes "impl") ∷ []) refl)
