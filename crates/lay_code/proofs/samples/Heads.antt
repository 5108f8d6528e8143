-- Samples of the heads of items: how they are laid out.
use Rattle.std.proofs.Common.{◌≡◌, ℕ, true, false, List, [], ◌∷◌, Option, Some, None, map, codes, ap, ◌∙◌, refl}
use Rattle.lay_piece.specs.declared.kind.Delim.TheVariants.{Paren}
use Rattle.lay_piece.specs.declared.kind.Kind.TheVariants as kind
use Rattle.lay_layout.specs.Document.{text_of}
use Rattle.lay_form.specs.Form.{Blank, Operator, Form, Done, Piece, Part, Deeper, keyword, opener, closer, semicolon}
use Rattle.lay_form.specs.Layout.{document}
use Rattle.lay_form.specs.Notation as notation
use Rattle.lay_form.specs.Notation.{body, comma_list, I0, piece, where_body}
use Rattle.lay_node.specs.Words.{leaf_of}
use Rattle.lay_node.specs.nodes.Functions.{mut_word}
use Rattle.lay_node.specs.nodes.Generics.{generics_form}
use Rattle.lay_node.specs.nodes.Heads.{called}
use Rattle.lay_node.specs.nodes.Patterns.{pat_facts}
use Rattle.lay_node.specs.nodes.Types.{about_path, arg_facts, args_facts, bound_facts, bounds_form, colon, equals, idle_colon, literal_form, path_facts, PathFacts, start_facts, ty_facts}
use Rattle.lay_node.specs.nodes.Vis.{pub_word}
use Rattle.lay_node.specs.nodes.Where.{wheres_before_body, wheres_before_semicolon}
use Rattle.lay_node.specs.tokens.Lists.{token_list}
use Rattle.lay_node.specs.declared.fields.Field.{Field}
use Rattle.lay_node.specs.declared.fields.Fields.TheVariants as fields
use Rattle.lay_node.specs.declared.fields.Fields.{Fields}
use Rattle.lay_node.specs.declared.fields.TupleField.{TupleField}
use Rattle.lay_node.specs.declared.fields.Variant.{Variant}
use Rattle.lay_node.specs.declared.functions.FnHead.{FnHead}
use Rattle.lay_node.specs.declared.functions.Param.{Param}
use Rattle.lay_node.specs.declared.functions.ParamKind.TheVariants as fn_param
use Rattle.lay_node.specs.declared.functions.ParamKind.{ParamKind}
use Rattle.lay_node.specs.declared.functions.Safety.{Safety}
use Rattle.lay_node.specs.declared.generics.GenericParam.TheVariants as param
use Rattle.lay_node.specs.declared.generics.Generics.{Generics}
use Rattle.lay_node.specs.declared.generics.Predicate.TheVariants as predicate
use Rattle.lay_node.specs.declared.generics.Wheres.{Wheres}
use Rattle.lay_node.specs.declared.heads.Alias.{Alias}
use Rattle.lay_node.specs.declared.heads.Enum.{Enum}
use Rattle.lay_node.specs.declared.heads.ExternCrate.{ExternCrate}
use Rattle.lay_node.specs.declared.heads.ImplHead.{ImplHead}
use Rattle.lay_node.specs.declared.heads.Struct.{Struct}
use Rattle.lay_node.specs.declared.heads.TraitHead.{TraitHead}
use Rattle.lay_node.specs.declared.heads.Union.{Union}
use Rattle.lay_node.specs.declared.heads.ValueHead.TheVariants as value
use Rattle.lay_node.specs.declared.heads.ValueHead.{ValueHead}
use Rattle.lay_node.specs.declared.patterns.FieldPat.TheOpen.{Pat-F}
use Rattle.lay_node.specs.declared.patterns.Pat.TheVariants as pat
use Rattle.lay_node.specs.declared.patterns.Pat.{Pat}
use Rattle.lay_node.specs.declared.token.GivenName.TheVariants as given
use Rattle.lay_node.specs.declared.token.Listed.{Listed}
use Rattle.lay_node.specs.declared.token.Literal.{Literal}
use Rattle.lay_node.specs.declared.types.Arg.TheOpen.{Arg-F, Args-F, Bound-F, PathStart-F, Ty-F}
use Rattle.lay_node.specs.declared.types.Arg.TheVariants as arg
use Rattle.lay_node.specs.declared.types.Args.TheVariants as args
use Rattle.lay_node.specs.declared.types.Path.{Path}
use Rattle.lay_node.specs.declared.types.PathStart.TheVariants as start
use Rattle.lay_node.specs.declared.types.PathStyle.TheVariants.{Kind}
use Rattle.lay_node.specs.declared.types.Ty.TheVariants as ty
use Rattle.lay_node.specs.declared.types.Ty.{Ty}
use Rattle.lay_node.specs.declared.vis.Vis.TheVariants as vis
use Rattle.lay_node.specs.declared.vis.Vis.{Vis}
use Rattle.lay_node.proofs.nodes.PatternsLaws as pats
use Rattle.lay_node.proofs.nodes.TypesLaws as types
use Rattle.lay_node.proofs.samples.Tokens as list
use Rattle.lay_node.proofs.samples.Trees.{named, plain, a, b, c, laid}
use Rattle.lay_node.proofs.samples.Types.{local, local_facts, local_is, B, B_is, named_is, meeting, meeting_is}
use Rattle.lay_code.specs.nodes.Code.{told_of_item, told_of_kind}
use Rattle.lay_code.specs.nodes.CodeFacts.{KindFacts}
use Rattle.lay_code.specs.nodes.Item.{item_facts}
use Rattle.lay_code.specs.declared.item.Item.{Item}
use Rattle.lay_code.specs.declared.item.ItemKind.TheVariants as item
use Rattle.lay_code.specs.declared.item.ItemKind.{ItemKind}
use Rattle.lay_code.proofs.nodes.ItemLaws as items
use Rattle.lay_code.proofs.samples.ItemTrees.{A, no_generics, no_wheres, about}

-- ---- trees

-- a type that is one word
abbrev pub ty_of : List ℕ → Ty
ty_of text = ty.Path (local text)

abbrev u8 : Ty
u8 = ty_of (codes "u8")

abbrev pub seen : Vis → ItemKind → Item
seen v kind = record { attrs = []; vis = v; kind = kind }

abbrev pub unseen : ItemKind → Item
unseen kind = seen vis.Inherited kind

-- `where B: C`
abbrev pub where_B_is_C : Wheres
where_B_is_C = record { predicates = predicate.Bounded None B (meeting false false (codes "C") ∷ []) ∷ [] }

-- `<T>`
abbrev pub of_T : Generics
of_T = record { params = param.Named [] (named (codes "T")) [] None ∷ [] }

abbrev pub tuple_field_of : Vis → Ty → TupleField
tuple_field_of v x = record { attrs = []; vis = v; ty = x }

abbrev field_of : List ℕ → Ty → Field
field_of text x = record { attrs = []; vis = vis.Inherited; name = named text; ty = x }

abbrev pub variant_of : List ℕ → Fields → Option (List Listed) → Variant
variant_of text fs discriminant = record {
  attrs = [];
  vis = vis.Inherited;
  name = named text;
  fields = fs;
  discriminant = discriminant;
}

abbrev pub struct_of : Fields → Struct
struct_of fs = record { name = A; generics = no_generics; fields = fs; wheres = no_wheres }

abbrev pub param_of : ParamKind → Param
param_of kind = record { attrs = []; kind = kind }

-- a function that is only safe or unsafe, if that is said
abbrev pub fn_of : Option Safety → List ℕ → List ParamKind → Option Ty → FnHead
fn_of said text kinds output = record {
  is_const = false;
  is_async = false;
  safety = said;
  abi = None;
  name = named text;
  generics = no_generics;
  params = map param_of kinds;
  output = output;
}

abbrev pub name_pat : List ℕ → Pat
name_pat text = pat.Bind false false (named text) None

abbrev pub string_C : Literal
string_C = record { kind = kind.Str; text = codes "\"C\"" }

-- ---- layouts

-- the form of a type that is one word, and of an item without attributes and visibility
abbrev type_form : List ℕ → Form
type_form text = (ty_facts (Ty-F.Path (local_facts text))).told.form

abbrev headed : Form → Form → Form
headed head tail = Deeper (Part (I0 (Part Done head) tail) Done) Done

told_is : (v : Vis) (kind : ItemKind) (F : KindFacts) → told_of_kind kind ≡ F
    → told_of_item (seen v kind) ≡ item_facts (record { attrs = []; vis = v; kind = F })
told_is v kind F e = items.item_is (seen v kind) ∙ ap (λ (k : KindFacts). item_facts (record { attrs = []; vis = v; kind = k })) e

-- `pub(crate) struct A(pub u8, B);`
abbrev pub two_fields : Struct
two_fields = struct_of (fields.Tuple (tuple_field_of vis.Public u8 ∷ tuple_field_of vis.Inherited B ∷ []))

laid_tuple_struct : laid (about (seen vis.Crate (item.Struct two_fields))) ≡ codes "pub(crate) struct A(pub u8, B);"
laid_tuple_struct = rw (told_is vis.Crate _ _ (items.struct_is two_fields), named_is (codes "u8"), B_is) refl

laid_no_fields : laid (about (unseen (item.Struct (struct_of (fields.Named []))))) ≡ codes "struct A {}"
laid_no_fields = rw (told_is vis.Inherited _ _ (items.struct_is (struct_of (fields.Named [])))) refl

-- `union A { b: u8 }`
abbrev one_field : Union
one_field = record { name = A; generics = no_generics; wheres = no_wheres; fields = field_of b u8 ∷ [] }

laid_union : laid (about (unseen (item.Union one_field))) ≡ codes "union A {\n    b: u8,\n}"
laid_union = rw (told_is vis.Inherited _ _ (items.union_is one_field), named_is (codes "u8")) refl

-- `enum E<T> where T: C { F(T), G { h: u8 }, I = -1 }`
abbrev pub three_variants : Enum
three_variants = record {
  name = named (codes "E");
  generics = of_T;
  wheres = record { predicates = predicate.Bounded None (ty_of (codes "T")) (meeting false false (codes "C") ∷ []) ∷ [] };
  variants = variant_of (codes "F") (fields.Tuple (tuple_field_of vis.Inherited (ty_of (codes "T")) ∷ [])) None
      ∷ variant_of (codes "G") (fields.Named (field_of (codes "h") u8 ∷ [])) None
      ∷ variant_of (codes "I") fields.Unit (Some (list.mark (codes "-") ∷ list.number (codes "1") ∷ [])) ∷ [];
}

-- `T: C`
abbrev T_is_C : Form
T_is_C = Part (type_form (codes "T")) (Piece colon (Part (bounds_form (bound_facts (Bound-F.Meets false false None (local_facts (codes "C"))) ∷ [])) Done))

abbrev variant_with : List ℕ → Form → Form → Form
variant_with text fs discriminant = Part Done (leaf_of false text (Part fs (Part discriminant Done)))

abbrev variant_forms : List Form
variant_forms =
    variant_with (codes "F") (comma_list true (opener Paren) (closer Paren) (Part Done (Part (type_form (codes "T")) Done) ∷ [])) Done
    ∷ variant_with (codes "G") (notation.fields (Blank ∷ []) (Part Done (leaf_of false (codes "h") (Piece colon (Part (type_form (codes "u8")) Done))) ∷ [])) Done
    ∷ variant_with (codes "I") Done (Piece equals (Part (token_list (list.mark (codes "-") ∷ list.number (codes "1") ∷ [])) Done)) ∷ []

enum_is : (about (unseen (item.Enum three_variants))).form
    ≡ headed (called (codes "enum") false (codes "E") of_T Done) (Part (where_body (T_is_C ∷ [])) (notation.fields [] variant_forms))
enum_is =
    rw (told_is vis.Inherited _ _ (items.enum_is three_variants), named_is (codes "u8"), named_is (codes "T"), meeting_is false false (codes "C"))
    refl

laid_enum : laid (about (unseen (item.Enum three_variants)))
    ≡ codes "enum E<T> where T: C {\n    F(T),\n    G {\n        h: u8,\n    },\n    I = -1,\n}"
laid_enum = ap (λ (f : Form). text_of (document f)) enum_is

laid_file_module : laid (about (unseen (item.FileModule (named a)))) ≡ codes "mod a;"
laid_file_module = rw (told_is vis.Inherited _ _ (items.file_module_is (named a))) refl

abbrev self_as_a : ExternCrate
self_as_a = record { word = plain (codes "self"); renamed = Some (given.Name (named a)) }

laid_extern_crate : laid (about (unseen (item.ExternCrate self_as_a))) ≡ codes "extern crate self as a;"
laid_extern_crate = rw (told_is vis.Inherited _ _ (items.extern_crate_is self_as_a)) refl

laid_unsafe_extern : laid (about (unseen (item.Foreign true None [] []))) ≡ codes "unsafe extern {}"
laid_unsafe_extern = rw (told_is vis.Inherited _ _ (items.foreign_is true None [] [])) refl

-- `pub fn a(b: u8, ...) -> u8;` and `static mut C: u8;`
abbrev pub varying : FnHead
varying = fn_of None a (fn_param.Typed (name_pat b) u8 ∷ fn_param.Variadic ∷ []) (Some u8)

abbrev pub foreign_function : Item
foreign_function = seen vis.Public (item.Function varying no_wheres None)

abbrev pub static_C : ValueHead
static_C = value.Static true (named (codes "C")) u8

abbrev pub foreign_static : Item
foreign_static = unseen (item.Value static_C None)

abbrev varying_params : List Form
varying_params = Part (Part (pat_facts (Pat-F.Bind false false (named b) None)).told.form (Piece colon (Part (type_form (codes "u8")) Done))) Done
    ∷ Part (piece (Operator (codes "...") ∷ [])) Done ∷ []

abbrev varying_form : Form
varying_form = Deeper (Part (I0 (Part (piece pub_word) (Piece (keyword (codes "fn") ∷ Blank ∷ []) (leaf_of false a
    (Part (generics_form no_generics) (Part (comma_list false (opener Paren) (closer Paren) varying_params)
    (Part (Piece (Blank ∷ Operator (codes "->") ∷ Blank ∷ []) (Part (type_form (codes "u8")) Done)) Done))))))
    (Part (wheres_before_semicolon no_wheres) (piece semicolon))) Done) Done

varying_is : (about foreign_function).form ≡ varying_form
varying_is =
    rw (told_is vis.Public _ _ (items.function_is varying no_wheres None), named_is (codes "u8"), pats.pat_bind_is false false (named b) None) refl

abbrev static_form : Form
static_form = headed (Part (Piece (keyword (codes "static") ∷ Blank ∷ []) (Piece mut_word (leaf_of false (codes "C") (Piece colon (Part (type_form (codes "u8")) Done))))) Done)
    (piece semicolon)

static_is : (about foreign_static).form ≡ static_form
static_is = rw (told_is vis.Inherited _ _ (items.value_is static_C None), named_is (codes "u8")) refl

foreign_is : (about (unseen (item.Foreign false (Some string_C) [] (foreign_function ∷ foreign_static ∷ [])))).form
    ≡ headed (Piece (keyword (codes "extern") ∷ []) (Piece (Blank ∷ []) (literal_form string_C Done))) (body (Blank ∷ []) [] (varying_form ∷ static_form ∷ []))
foreign_is =
    rw (
      told_is vis.Inherited _ _ (items.foreign_is false (Some string_C) [] (foreign_function ∷ foreign_static ∷ [])),
      varying_is,
      static_is,
    )
    refl

laid_foreign : laid (about (unseen (item.Foreign false (Some string_C) [] (foreign_function ∷ foreign_static ∷ []))))
    ≡ codes "extern \"C\" {\n    pub fn a(b: u8, ...) -> u8;\n    static mut C: u8;\n}"
laid_foreign = ap (λ (f : Form). text_of (document f)) foreign_is

abbrev pub trait_A : TraitHead
trait_A = record { is_unsafe = false; name = A; generics = no_generics; bounds = [] }

laid_trait : laid (about (unseen (item.Trait trait_A where_B_is_C [] []))) ≡ codes "trait A where B: C {}"
laid_trait =
    rw (told_is vis.Inherited _ _ (items.trait_is trait_A where_B_is_C [] []), B_is, meeting_is false false (codes "C")) refl

-- `pub(in a::b) fn c(&self);`
abbrev method : FnHead
method = fn_of None c (fn_param.RefSelf None false ∷ []) None

abbrev in_a_b : Vis
in_a_b = vis.In (record { global = false; words = plain a ∷ plain b ∷ [] })

laid_members : laid (about (unseen (item.Trait trait_A no_wheres [] (seen in_a_b (item.Function method no_wheres None) ∷ []))))
    ≡ codes "trait A {\n    pub(in a::b) fn c(&self);\n}"
laid_members =
    rw (
      told_is vis.Inherited _ _ (items.trait_is trait_A no_wheres [] (seen in_a_b (item.Function method no_wheres None) ∷ [])),
      told_is in_a_b _ _ (items.function_is method no_wheres None),
    )
    refl

-- `B<T>`
abbrev B_of_T : Path
B_of_T = record { start = start.Local; segments = (plain (codes "B"), args.Angle (arg.Plain (ty_of (codes "T")) ∷ [])) ∷ [] }

-- `type C = D;`
abbrev pub C_is_D : Alias
C_is_D = record { name = named (codes "C"); generics = no_generics; bounds = []; ty = Some (ty_of (codes "D")); wheres = no_wheres }

abbrev pub impl_A_for : ImplHead
impl_A_for = record {
  is_unsafe = false;
  generics = of_T;
  of = Some (record { negative = false; path = local (codes "A") });
  ty = ty.Path B_of_T;
}

abbrev B_of_T_facts : PathFacts
B_of_T_facts = path_facts (record {
  start = start_facts PathStart-F.Local;
  segments = (plain (codes "B"), args_facts (Args-F.Angle (arg_facts (Arg-F.Plain (ty_facts (Ty-F.Path (local_facts (codes "T"))))) ∷ []))) ∷ [];
})

B_of_T_is : about_path B_of_T ≡ B_of_T_facts
B_of_T_is =
    rw (
      types.path_is B_of_T,
      types.start_local_is,
      types.args_angle_is (arg.Plain (ty_of (codes "T")) ∷ []),
      types.arg_plain_is (ty_of (codes "T")),
      named_is (codes "T"),
    )
    refl

abbrev alias_form : Form
alias_form = headed (called (codes "type") false (codes "C") no_generics
    (Part idle_colon (Part (Piece equals (Part (type_form (codes "D")) Done)) Done)))
    (Part (wheres_before_semicolon no_wheres) (piece semicolon))

alias_is : (about (unseen (item.Alias C_is_D))).form ≡ alias_form
alias_is = rw (told_is vis.Inherited _ _ (items.alias_is C_is_D), named_is (codes "D")) refl

abbrev impl_form : Form
impl_form = Piece (keyword (codes "impl") ∷ []) (Part (generics_form of_T) (Piece (Blank ∷ []) (Part (local_facts (codes "A") Kind).form
    (Piece (Blank ∷ keyword (codes "for") ∷ Blank ∷ []) (Part (ty_facts (Ty-F.Path B_of_T_facts)).told.form Done)))))

impl_is : (about (unseen (item.Impl impl_A_for no_wheres [] (unseen (item.Alias C_is_D) ∷ [])))).form
    ≡ headed impl_form (Part (wheres_before_body no_wheres) (body (Blank ∷ []) [] (alias_form ∷ [])))
impl_is =
    rw (
      told_is vis.Inherited _ _ (items.impl_is impl_A_for no_wheres [] (unseen (item.Alias C_is_D) ∷ [])),
      alias_is,
      local_is (codes "A"),
      types.type_path_is B_of_T,
      B_of_T_is,
    )
    refl

laid_impl : laid (about (unseen (item.Impl impl_A_for no_wheres [] (unseen (item.Alias C_is_D) ∷ []))))
    ≡ codes "impl<T> A for B<T> {\n    type C = D;\n}"
laid_impl = ap (λ (f : Form). text_of (document f)) impl_is
