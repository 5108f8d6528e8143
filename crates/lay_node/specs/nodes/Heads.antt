-- The heads of items, and the items that are heads alone: when they are well formed, and their
-- forms (Rust Reference, "Items").
use Rattle.std.specs.Prelude.{ℕ, ◌&&◌, ◌||◌, not, Bool, true, false, List, [], ◌∷◌, map, codes, Option, Some, None, is_some}
use Rattle.std.specs.List.{list_all}
use Rattle.lay_piece.specs.declared.kind.Delim.TheVariants.{Brace}
use Rattle.lay_piece.specs.declared.kind.Kind.TheVariants as kind
use Rattle.lay_token.specs.Operators.{is_op}
use Rattle.lay_form.specs.Form.{Blank, Fixed, Operator, Form, Done, Piece, Part, keyword, semicolon}
use Rattle.lay_form.specs.Notation as notation
use Rattle.lay_form.specs.Notation.{piece, when}
use Rattle.lay_node.specs.Ahead.{Tokens, first, is_keyword, opens}
use Rattle.lay_node.specs.Begins.{begins_bound}
use Rattle.lay_node.specs.Words.{is_name, leaf_of}
use Rattle.lay_node.specs.nodes.Facts.{Told, ToldFront, by_itself}
use Rattle.lay_node.specs.nodes.Fields.{are_fields, blank_if, is_field, is_variant, named_form, tuple_form, variant_form}
use Rattle.lay_node.specs.nodes.Functions.{mut_word}
use Rattle.lay_node.specs.nodes.Generics.{are_bounds, bounded_form, default_form, generics_follow, generics_form, generics_spelled, is_default, is_generics}
use Rattle.lay_node.specs.nodes.Patterns.{is_self}
use Rattle.lay_node.specs.nodes.Types.{about_path, about_type, bounds_follow, colon, given_form, good_at, is_given, is_there, type_follows}
use Rattle.lay_node.specs.nodes.Use.{is_rename, rename_form}
use Rattle.lay_node.specs.nodes.Vis.{vis_form}
use Rattle.lay_node.specs.nodes.Where.{are_predicates, wheres_before_body, wheres_before_semicolon}
use Rattle.lay_node.specs.declared.fields.Fields.{Fields}
use Rattle.lay_node.specs.declared.fields.Fields.TheVariants as fields
use Rattle.lay_node.specs.declared.generics.Generics.{Generics}
use Rattle.lay_node.specs.declared.generics.Wheres.{Wheres}
use Rattle.lay_node.specs.declared.heads.Alias.{Alias}
use Rattle.lay_node.specs.declared.heads.Enum.{Enum}
use Rattle.lay_node.specs.declared.heads.ExternCrate.{ExternCrate}
use Rattle.lay_node.specs.declared.heads.ImplHead.{ImplHead}
use Rattle.lay_node.specs.declared.heads.Site.{Site}
use Rattle.lay_node.specs.declared.heads.Site.TheVariants as site
use Rattle.lay_node.specs.declared.heads.Struct.{Struct}
use Rattle.lay_node.specs.declared.heads.TraitHead.{TraitHead}
use Rattle.lay_node.specs.declared.heads.TraitRef.{TraitRef}
use Rattle.lay_node.specs.declared.heads.Union.{Union}
use Rattle.lay_node.specs.declared.heads.ValueHead.{ValueHead}
use Rattle.lay_node.specs.declared.heads.ValueHead.TheVariants as value
use Rattle.lay_node.specs.declared.token.Word.{Word}
use Rattle.lay_node.specs.declared.types.Arg.{Arg}
use Rattle.lay_node.specs.declared.types.Arg.TheOpen.{PathStart-F, Ty-F}
use Rattle.lay_node.specs.declared.types.Arg.TheViews.{out-PathStart, out-Ty}
use Rattle.lay_node.specs.declared.types.Args.{Args}
use Rattle.lay_node.specs.declared.types.Bound.{Bound}
use Rattle.lay_node.specs.declared.types.Constraint.{Constraint}
use Rattle.lay_node.specs.declared.types.FuncParam.{FuncParam}
use Rattle.lay_node.specs.declared.types.Path.{Path}
use Rattle.lay_node.specs.declared.types.PathStart.{PathStart}
use Rattle.lay_node.specs.declared.types.PathStyle.TheVariants.{Kind}
use Rattle.lay_node.specs.declared.types.Ty.{Ty}
use Rattle.lay_node.specs.declared.types.TypePlace.TheVariants.{Bounds}
use Rattle.lay_node.specs.declared.vis.Vis.{Vis}

-- The facts about an item: its head, which is a group of its own in the layout, and the rest.
pub record HeadFacts : Type 0 where
  pub head : Form
  pub tail : Form
  pub good : Bool

-- The item by itself. It ends in a `;` or a `}`, so anything may follow it.
abbrev pub headed : HeadFacts → Told
headed x = record { form = notation.I0 x.head x.tail; good = x.good; follows = λ ts. true }

-- a head with a visibility before it
abbrev pub seen : Vis → HeadFacts → Form
seen v x = notation.I0 (Part (vis_form v) x.head) x.tail

-- Braces have a leading blank only where no predicates of a where clause stand before them.
abbrev pub leads : Wheres → Bool
leads wheres = not (is_there wheres.predicates)

-- a keyword, a name and its generic parameters, and then the form `f`
abbrev pub called : List ℕ → Bool → List ℕ → Generics → Form → Form
called word raw text generics f = Piece (keyword word ∷ Blank ∷ []) (leaf_of raw text (Part (generics_form generics) f))

-- ---- what is outside

-- a name, or `self`
abbrev pub is_crate_word : Word → Bool
is_crate_word w = is_name w.raw w.text || is_self w

abbrev pub about_extern_crate : ExternCrate → HeadFacts
about_extern_crate x = record {
  head = Piece (keyword (codes "extern") ∷ Blank ∷ keyword (codes "crate") ∷ Blank ∷ []) (leaf_of x.word.raw x.word.text (rename_form x.renamed));
  tail = piece semicolon;
  good = is_crate_word x.word && is_rename x.renamed;
}

-- ---- types with a name

-- An alias has a type. In a trait it may have none, and in a foreign block it has none.
abbrev pub may_be_given : Site → Option Ty → Bool
may_be_given site.Module x = is_some x
may_be_given site.Member x = is_some x
may_be_given site.TraitMember x = true
may_be_given site.Foreign x = not (is_some x)

abbrev pub about_alias : Site → Alias → HeadFacts
about_alias site x = record {
  head = called (codes "type") x.name.raw x.name.text x.generics (Part (bounded_form x.bounds) (Part (default_form x.ty) Done));
  tail = Part (wheres_before_semicolon x.wheres) (piece semicolon);
  good = is_name x.name.raw x.name.text && is_generics x.generics && are_bounds x.bounds && is_default x.ty && are_predicates x.wheres && may_be_given site x.ty;
}

-- ---- structs, unions and enumerations

-- Tuple fields belong to the head.
abbrev pub head_fields : Fields → Form
head_fields (fields.Tuple fs) = tuple_form fs
head_fields _ = Done

abbrev pub struct_tail : Wheres → Fields → Form
struct_tail wheres (fields.Named fs) = Part (wheres_before_body wheres) (named_form (leads wheres) fs)
struct_tail wheres _ = Part (wheres_before_semicolon wheres) (piece semicolon)

abbrev pub about_struct : Struct → HeadFacts
about_struct x = record {
  head = called (codes "struct") x.name.raw x.name.text x.generics (Part (head_fields x.fields) Done);
  tail = struct_tail x.wheres x.fields;
  good = is_name x.name.raw x.name.text && is_generics x.generics && are_fields x.fields && are_predicates x.wheres;
}

abbrev pub about_union : Union → HeadFacts
about_union x = record {
  head = called (codes "union") x.name.raw x.name.text x.generics Done;
  tail = Part (wheres_before_body x.wheres) (named_form (leads x.wheres) x.fields);
  good = is_name x.name.raw x.name.text && is_generics x.generics && are_predicates x.wheres && list_all is_field x.fields;
}

abbrev pub about_enum : Enum → HeadFacts
about_enum x = record {
  head = called (codes "enum") x.name.raw x.name.text x.generics Done;
  tail = Part (wheres_before_body x.wheres) (notation.fields (blank_if (leads x.wheres)) (map variant_form x.variants));
  good = is_name x.name.raw x.name.text && is_generics x.generics && are_predicates x.wheres && list_all is_variant x.variants;
}

-- ---- constants and statics

-- `: ` and a type
abbrev pub of_type : Ty → Form
of_type x = Piece colon (Part (about_type x).told.form Done)

abbrev pub value_head_form : ValueHead → Form
value_head_form (value.Const name x) = Piece (keyword (codes "const") ∷ Blank ∷ []) (given_form name (of_type x))
value_head_form (value.Static mutable name x) =
    Piece (keyword (codes "static") ∷ Blank ∷ []) (when mutable mut_word (leaf_of name.raw name.text (of_type x)))

abbrev pub is_value_head : ValueHead → Bool
is_value_head (value.Const name x) = is_given name && good_at Bounds (about_type x)
is_value_head (value.Static mutable name x) = is_name name.raw name.text && good_at Bounds (about_type x)

abbrev pub value_follows : ValueHead → Tokens → Bool
value_follows (value.Const name x) ts = type_follows Bounds (about_type x) ts
value_follows (value.Static mutable name x) ts = type_follows Bounds (about_type x) ts

abbrev pub about_value_head : ValueHead → Told
about_value_head x = record { form = value_head_form x; good = is_value_head x; follows = value_follows x }

-- ---- traits

abbrev pub unsafe_form : Bool → Form → Form
unsafe_form is_unsafe f = when is_unsafe (keyword (codes "unsafe") ∷ Blank ∷ []) f

abbrev pub trait_head_form : TraitHead → Form
trait_head_form x = unsafe_form x.is_unsafe (called (codes "trait") x.name.raw x.name.text x.generics (Part (bounded_form x.bounds) Done))

abbrev pub is_trait_head : TraitHead → Bool
is_trait_head x = is_name x.name.raw x.name.text && is_generics x.generics && are_bounds x.bounds

-- By itself the spelling of a head says what it ends in. Generic parameters without elements may be
-- spelled or not, and so may a `:` without bounds.
abbrev pub bounds_spelled : Bool → List Bound → Form
bounds_spelled with_colon [] = when with_colon (Operator (codes ":") ∷ []) Done
bounds_spelled with_colon (b ∷ bs) = bounded_form (b ∷ bs)

abbrev pub trait_head_spelled : Bool → Bool → TraitHead → Form
trait_head_spelled with_generics with_colon x = unsafe_form x.is_unsafe
    (Piece (keyword (codes "trait") ∷ Blank ∷ []) (leaf_of x.name.raw x.name.text
    (Part (generics_spelled with_generics x.generics) (Part (bounds_spelled with_colon x.bounds) Done))))

-- What is there is spelled; what isn't may be.
abbrev pub tells : {A : Type 0} → Bool → List A → Bool
tells is_spelled xs = is_spelled || not (is_there xs)

abbrev pub bounds_end : Bool → Bool → List Bound → Tokens → Bool
bounds_end with_generics with_colon (b ∷ bs) ts = bounds_follow (b ∷ bs) ts
bounds_end with_generics true [] ts = not (begins_bound ts)
bounds_end with_generics false [] ts = not (is_op (codes ":") ts) && generics_follow with_generics ts

-- a head, with whether `<` and `>` are spelled, and whether a `:` is
abbrev pub about_trait_head : TraitHead × (Bool × Bool) → Told
about_trait_head x = record {
  form = trait_head_spelled x.1.0 x.1.1 x.0;
  good = tells x.1.0 x.0.generics.params && tells x.1.1 x.0.bounds && is_trait_head x.0;
  follows = bounds_end x.1.0 x.1.1 x.0.bounds;
}

abbrev pub TraitHeadAt : Bool → Bool → TraitHead → Tokens → ℕ → ℕ → Type 0
TraitHeadAt with_generics with_colon x ts n depth = ToldFront (by_itself (about_trait_head (x, (with_generics, with_colon)))) ts n depth

abbrev pub TraitHeadFront : TraitHead → Tokens → ℕ → ℕ → Type 0
TraitHeadFront x ts n depth = (with_generics : Bool) × (with_colon : Bool) × TraitHeadAt with_generics with_colon x ts n depth

-- ---- implementations

abbrev pub trait_ref_form : Option TraitRef → Form → Form
trait_ref_form None f = f
trait_ref_form (Some r) f =
    when r.negative (Fixed kind.Punct (codes "!") ∷ []) (Part (about_path r.path Kind).form (Piece (Blank ∷ keyword (codes "for") ∷ Blank ∷ []) f))

abbrev pub is_trait_ref : Option TraitRef → Bool
is_trait_ref None = true
is_trait_ref (Some r) = (about_path r.path Kind).good

abbrev pub begins_qualified : PathStart-F Arg Args Bound Constraint PathStart Ty FuncParam Path → Bool
begins_qualified (PathStart-F.Qualified x of) = true
begins_qualified _ = false

abbrev pub path_opens_less : Path → Bool
path_opens_less p = begins_qualified (out-PathStart p.start)

abbrev pub type_opens_less : Ty-F Arg Args Bound Constraint PathStart Ty FuncParam Path → Bool
type_opens_less (Ty-F.Path p) = path_opens_less p
type_opens_less _ = false

-- What follows the generic parameters begins with `<`.
abbrev pub opens_less : Option TraitRef → Ty → Bool
opens_less None x = type_opens_less (out-Ty x)
opens_less (Some r) x = not r.negative && path_opens_less r.path

abbrev pub impl_head_form : ImplHead → Form
impl_head_form x = unsafe_form x.is_unsafe
    (Piece (keyword (codes "impl") ∷ []) (Part (generics_form x.generics) (Piece (Blank ∷ []) (trait_ref_form x.of (Part (about_type x.ty).told.form Done)))))

-- After `impl` a `<` always opens generic parameters.
abbrev pub is_impl_head : ImplHead → Bool
is_impl_head x = is_generics x.generics && is_trait_ref x.of && good_at Bounds (about_type x.ty)
    && (is_there x.generics.params || not (opens_less x.of x.ty))

abbrev pub ends_head : Tokens → Bool
ends_head ts = first (is_keyword (codes "where")) ts || first (opens Brace) ts

abbrev pub about_impl_head : ImplHead → Told
about_impl_head x = record { form = impl_head_form x; good = is_impl_head x; follows = ends_head }
