-- What fields and the heads of functions and of other items need.
use Rattle.std.proofs.Common.{◌≡◌, ◌∙◌, ◌⊎◌, inl, inr, ℕ, Bool, true, not, List, [], ◌∷◌, map, codes, max, refl, ap, arith, Option, Some, None}
use Rattle.lay_piece.specs.declared.kind.Delim.TheVariants.{Paren}
use Rattle.lay_form.specs.Depth.{least_depth}
use Rattle.lay_form.specs.Form.{Blank, Form, Done, Part, Piece, keyword, opener, closer}
use Rattle.lay_form.specs.Notation.{piece, when}
use Rattle.lay_node.specs.Words.{leaf_of}
use Rattle.lay_node.specs.nodes.Facts.{forms}
use Rattle.lay_node.specs.nodes.Fields.{blank_if, discriminant_form, field_form, fields_form, tuple_field_form, variant_form}
use Rattle.lay_node.specs.nodes.Functions.{fn_head_form, fn_param_form, fn_params_form, ends_variadic, head_output, mut_word, param_kind_form, safety_form, self_type, self_word, signature_form}
use Rattle.lay_node.specs.nodes.Generics.{bounded_form, default_form, generics_form}
use Rattle.lay_node.specs.nodes.Heads.{about_alias, about_enum, about_struct, about_union, called, head_fields, leads, struct_tail, trait_head_form}
use Rattle.lay_node.specs.nodes.Patterns.{about_pat}
use Rattle.lay_node.specs.nodes.Types.{abi_form, about_bound, about_type, colon}
use Rattle.lay_node.specs.nodes.Vis.{vis_form}
use Rattle.lay_node.specs.nodes.Where.{predicate_form}
use Rattle.lay_node.specs.declared.fields.Field.{Field}
use Rattle.lay_node.specs.declared.fields.Fields.{Fields}
use Rattle.lay_node.specs.declared.fields.Fields.TheVariants as fields
use Rattle.lay_node.specs.declared.fields.TupleField.{TupleField}
use Rattle.lay_node.specs.declared.fields.Variant.{Variant}
use Rattle.lay_node.specs.declared.functions.FnHead.{FnHead}
use Rattle.lay_node.specs.declared.functions.Param.{Param}
use Rattle.lay_node.specs.declared.functions.ParamKind.{ParamKind}
use Rattle.lay_node.specs.declared.functions.ParamKind.TheVariants as param
use Rattle.lay_node.specs.declared.functions.Safety.{Safety}
use Rattle.lay_node.specs.declared.generics.Generics.{Generics}
use Rattle.lay_node.specs.declared.generics.Wheres.{Wheres}
use Rattle.lay_node.specs.declared.heads.Alias.{Alias}
use Rattle.lay_node.specs.declared.heads.Enum.{Enum}
use Rattle.lay_node.specs.declared.heads.Site.TheVariants.{Module}
use Rattle.lay_node.specs.declared.heads.Struct.{Struct}
use Rattle.lay_node.specs.declared.heads.TraitHead.{TraitHead}
use Rattle.lay_node.specs.declared.heads.Union.{Union}
use Rattle.lay_node.specs.declared.patterns.Pat.{Pat}
use Rattle.lay_node.specs.declared.token.Lifetime.{Lifetime}
use Rattle.lay_node.specs.declared.token.Listed.{Listed}
use Rattle.lay_node.specs.declared.types.Ty.{Ty}
use Rattle.lay_node.specs.declared.vis.Vis.{Vis}
use Rattle.lay_node.specs.declared.vis.Vis.TheVariants as vis
use Rattle.lay_depth.specs.nodes.Depths.{counted, greatest, head_depth, type_if}
use Rattle.lay_depth.proofs.nodes_lemmas.Forms.{behind_attrs_is, fields_are, leaf_is, list_is, param_attrs_are, simple_path_is, tokens_are, when_is}
use Rattle.lay_depth.proofs.nodes_lemmas.GenericLemmas.{before_body_is, before_semicolon_is, bounded_is, default_is}
use Rattle.lay_depth.proofs.nodes_lemmas.TypeLemmas.{abi_is, ref_lifetime_is}

-- ---- fields and variants

vis_is : (v : Vis) → least_depth (vis_form v) ≡ 0
vis_is vis.Inherited = refl
vis_is vis.Public = refl
vis_is vis.Crate = refl
vis_is vis.Own = refl
vis_is vis.Super = refl
vis_is (vis.In path) = let m = simple_path_is path in omega (arith, m)

pub tuple_field_is : (f : TupleField) → least_depth (tuple_field_form f) ≡ least_depth (about_type f.ty).told.form
tuple_field_is f =
    behind_attrs_is f.attrs (Part (vis_form f.vis) (Part (about_type f.ty).told.form Done))
    ∙ (let m = vis_is f.vis in omega (arith, m))

pub field_is : (f : Field) → least_depth (field_form f) ≡ least_depth (about_type f.ty).told.form
field_is f =
    let rest = Piece colon (Part (about_type f.ty).told.form Done) in
    behind_attrs_is f.attrs (Part (vis_form f.vis) (leaf_of f.name.raw f.name.text rest))
    ∙ (let m = vis_is f.vis in
    let n = leaf_is f.name.raw f.name.text rest in omega (arith, m, n))

pub tuple_is : (x : Fields) (fs : List TupleField) → x ≡ fields.Tuple fs → least_depth (fields_form true x) ≡ greatest (map tuple_field_form fs)
tuple_is x fs is =
    ap (λ (z : Fields). least_depth (fields_form true z)) is ∙ list_is true (opener Paren) (closer Paren) (map tuple_field_form fs)

pub named_is : (x : Fields) (fs : List Field) → x ≡ fields.Named fs → least_depth (fields_form true x) ≡ greatest (map field_form fs)
named_is x fs is =
    ap (λ (z : Fields). least_depth (fields_form true z)) is ∙ fields_are (blank_if true) (map field_form fs)

discriminant_is : (d : Option (List Listed)) → least_depth (discriminant_form d) ≡ 0
discriminant_is None = refl
discriminant_is (Some tokens) = let m = tokens_are tokens in omega (arith, m)

pub variant_is : (v : Variant) → least_depth (variant_form v) ≡ least_depth (fields_form true v.fields)
variant_is v =
    let rest = Part (fields_form true v.fields) (Part (discriminant_form v.discriminant) Done) in
    behind_attrs_is v.attrs (Part (vis_form v.vis) (leaf_of v.name.raw v.name.text rest))
    ∙ (let m = vis_is v.vis in
    let n = leaf_is v.name.raw v.name.text rest in
    let o = discriminant_is v.discriminant in omega (arith, m, n, o))

-- ---- parameters of functions

param_is : (p : Param) → least_depth (fn_param_form p) ≡ least_depth (param_kind_form p.kind)
param_is p = param_attrs_are p.attrs (Part (param_kind_form p.kind) Done) ∙ omega arith

self_type_is : (ty : Option Ty) → least_depth (self_type ty) ≡ type_if ty
self_type_is None = refl
self_type_is (Some x) = omega arith

-- what a parameter is
of_kind : (p : Param) (k : ParamKind) → p.kind ≡ k → least_depth (fn_param_form p) ≡ least_depth (param_kind_form k)
of_kind p k is = param_is p ∙ ap (λ (z : ParamKind). least_depth (param_kind_form z)) is

ref_self_is : (p : Param) (lifetime : Option Lifetime) (mutable : Bool) → p.kind ≡ param.RefSelf lifetime mutable → least_depth (fn_param_form p) ≡ 0
ref_self_is p lifetime mutable is =
    of_kind p (param.RefSelf lifetime mutable) is ∙ ref_lifetime_is lifetime (when mutable mut_word (piece self_word))
    ∙ when_is mutable mut_word (piece self_word)

pub leaf_param_is : (p : Param)
    → ((lifetime : Option Lifetime) × (mutable : Bool) × (p.kind ≡ param.RefSelf lifetime mutable)) ⊎ (p.kind ≡ param.Variadic)
    → 0 ≡ counted (least_depth (fn_param_form p))
leaf_param_is p (inl r) = let m = ref_self_is p r.0 r.1 r.2 in omega (arith, m)
leaf_param_is p (inr is) = let m = of_kind p param.Variadic is in omega (arith, m)

pub own_self_is : (p : Param) (mutable : Bool) (ty : Option Ty) → p.kind ≡ param.OwnSelf mutable ty → least_depth (fn_param_form p) ≡ type_if ty
own_self_is p mutable ty is =
    of_kind p (param.OwnSelf mutable ty) is ∙ when_is mutable mut_word (Piece self_word (self_type ty)) ∙ self_type_is ty

pub typed_is : (p : Param) (pat : Pat) (ty : Ty) → p.kind ≡ param.Typed pat ty
    → least_depth (fn_param_form p) ≡ max (least_depth (about_pat pat).told.form) (least_depth (about_type ty).told.form)
typed_is p pat ty is = of_kind p (param.Typed pat ty) is ∙ omega arith

pub named_variadic_is : (p : Param) (pat : Pat) → p.kind ≡ param.NamedVariadic pat
    → least_depth (fn_param_form p) ≡ least_depth (about_pat pat).told.form
named_variadic_is p pat is = of_kind p (param.NamedVariadic pat) is ∙ omega arith

-- ---- heads of functions

safety_is : (s : Option Safety) (f : Form) → least_depth (safety_form s f) ≡ least_depth f
safety_is None f = refl
safety_is (Some s) f = refl

output_is : (output : Option Ty) → least_depth (head_output output) ≡ type_if output
output_is None = refl
output_is (Some x) = omega arith

signature_is : (h : FnHead)
    → least_depth (signature_form h) ≡ max (max (least_depth (generics_form h.generics)) (greatest (map fn_param_form h.params))) (type_if h.output)
signature_is h =
    leaf_is h.name.raw h.name.text (Part (generics_form h.generics) (Part (fn_params_form h.params) (Part (head_output h.output) Done)))
    ∙ (let m = list_is (not (ends_variadic h.params)) (opener Paren) (closer Paren) (map fn_param_form h.params) in
    let n = output_is h.output in omega (arith, m, n))

pub fn_head_is : (h : FnHead)
    → least_depth (fn_head_form h) ≡ max (max (least_depth (generics_form h.generics)) (greatest (map fn_param_form h.params))) (type_if h.output)
fn_head_is h =
    let signed = Piece (keyword (codes "fn") ∷ Blank ∷ []) (signature_form h) in
    let said = safety_form h.safety (abi_form h.abi signed) in
    when_is h.is_const (keyword (codes "const") ∷ Blank ∷ []) (when h.is_async (keyword (codes "async") ∷ Blank ∷ []) said)
    ∙ when_is h.is_async (keyword (codes "async") ∷ Blank ∷ []) said ∙ safety_is h.safety (abi_form h.abi signed) ∙ abi_is h.abi signed
    ∙ signature_is h

-- ---- heads of other items

called_is : (word : List ℕ) (raw : Bool) (text : List ℕ) (generics : Generics) (f : Form)
    → least_depth (called word raw text generics f) ≡ max (least_depth (generics_form generics)) (least_depth f)
called_is word raw text generics f = leaf_is raw text (Part (generics_form generics) f)

pub alias_is : (x : Alias)
    → head_depth (about_alias Module x)
    ≡ max (max (max (least_depth (generics_form x.generics)) (greatest (forms (map about_bound x.bounds)))) (type_if x.ty))
    (greatest (map predicate_form x.wheres.predicates))
alias_is x =
    let m = called_is (codes "type") x.name.raw x.name.text x.generics (Part (bounded_form x.bounds) (Part (default_form x.ty) Done)) in
    let n = bounded_is x.bounds in
    let o = default_is x.ty in
    let p = before_semicolon_is x.wheres in omega (arith, m, n, o, p)

-- the fields of a struct: before its where clause or after it
struct_fields_are : (wheres : Wheres) (fs : Fields)
    → max (least_depth (head_fields fs)) (least_depth (struct_tail wheres fs))
    ≡ max (least_depth (fields_form true fs)) (greatest (map predicate_form wheres.predicates))
struct_fields_are wheres fields.Unit = let m = before_semicolon_is wheres in omega (arith, m)
struct_fields_are wheres (fields.Tuple fs) = let m = before_semicolon_is wheres in omega (arith, m)
struct_fields_are wheres (fields.Named fs) =
    let m = before_body_is wheres in
    let n = fields_are (blank_if (leads wheres)) (map field_form fs) in
    let o = fields_are (blank_if true) (map field_form fs) in omega (arith, m, n, o)

pub struct_is : (x : Struct)
    → head_depth (about_struct x)
    ≡ max (max (least_depth (generics_form x.generics)) (least_depth (fields_form true x.fields))) (greatest (map predicate_form x.wheres.predicates))
struct_is x =
    let m = called_is (codes "struct") x.name.raw x.name.text x.generics (Part (head_fields x.fields) Done) in
    let n = struct_fields_are x.wheres x.fields in omega (arith, m, n)

pub union_is : (x : Union)
    → head_depth (about_union x)
    ≡ max (max (least_depth (generics_form x.generics)) (greatest (map predicate_form x.wheres.predicates))) (greatest (map field_form x.fields))
union_is x =
    let m = called_is (codes "union") x.name.raw x.name.text x.generics Done in
    let n = before_body_is x.wheres in
    let o = fields_are (blank_if (leads x.wheres)) (map field_form x.fields) in omega (arith, m, n, o)

pub enum_is : (x : Enum)
    → head_depth (about_enum x)
    ≡ max (max (least_depth (generics_form x.generics)) (greatest (map predicate_form x.wheres.predicates))) (greatest (map variant_form x.variants))
enum_is x =
    let m = called_is (codes "enum") x.name.raw x.name.text x.generics Done in
    let n = before_body_is x.wheres in
    let o = fields_are (blank_if (leads x.wheres)) (map variant_form x.variants) in omega (arith, m, n, o)

pub trait_head_is : (x : TraitHead)
    → least_depth (trait_head_form x) ≡ max (least_depth (generics_form x.generics)) (greatest (forms (map about_bound x.bounds)))
trait_head_is x =
    let f = Part (bounded_form x.bounds) Done in
    when_is x.is_unsafe (keyword (codes "unsafe") ∷ Blank ∷ []) (called (codes "trait") x.name.raw x.name.text x.generics f)
    ∙ called_is (codes "trait") x.name.raw x.name.text x.generics f ∙ (let m = bounded_is x.bounds in omega (arith, m))
