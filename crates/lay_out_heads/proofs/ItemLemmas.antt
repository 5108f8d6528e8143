-- The streams of the items that are heads alone.
use Rattle.std.proofs.Common.{◌≡◌, Bool, true, false, List, [], ◌∷◌, ◌++◌, map, length, ◌==◌, codes, pos, refl, ap, ◌∙◌}
use Rattle.std.proofs.Math.Dec.{eqb-suc-zero}
use Rattle.lay_layout.specs.declared.layout.Tok.{Tok}
use Rattle.lay_layout.specs.declared.layout.Tok.TheVariants as tok
use Rattle.lay_form.specs.Form.{Form, Done, Part, semicolon}
use Rattle.lay_form.specs.Notation.{fields, piece}
use Rattle.lay_form.specs.Stream.{stream_of}
use Rattle.lay_node.specs.Words.{leaf_of}
use Rattle.lay_node.specs.nodes.Fields.{blank_if, field_form, named_form, tuple_form, variant_form}
use Rattle.lay_node.specs.nodes.Generics.{bounded_form, default_form}
use Rattle.lay_node.specs.nodes.Heads.{about_alias, about_enum, about_extern_crate, about_struct, about_union, head_fields, leads, seen, struct_tail}
use Rattle.lay_node.specs.nodes.Use.{rename_form}
use Rattle.lay_node.specs.nodes.Vis.{vis_form}
use Rattle.lay_node.specs.nodes.Where.{wheres_before_body, wheres_before_semicolon}
use Rattle.lay_node.specs.declared.fields.Field.{Field}
use Rattle.lay_node.specs.declared.fields.Fields.{Fields}
use Rattle.lay_node.specs.declared.fields.Fields.TheVariants as variant
use Rattle.lay_node.specs.declared.fields.TupleField.{TupleField}
use Rattle.lay_node.specs.declared.fields.Variant.{Variant}
use Rattle.lay_node.specs.declared.generics.Predicate.{Predicate}
use Rattle.lay_node.specs.declared.generics.Wheres.{Wheres}
use Rattle.lay_node.specs.declared.heads.Alias.{Alias}
use Rattle.lay_node.specs.declared.heads.Enum.{Enum}
use Rattle.lay_node.specs.declared.heads.ExternCrate.{ExternCrate}
use Rattle.lay_node.specs.declared.heads.Site.{Site}
use Rattle.lay_node.specs.declared.heads.Site.TheVariants as place
use Rattle.lay_node.specs.declared.heads.Struct.{Struct}
use Rattle.lay_node.specs.declared.heads.Union.{Union}
use Rattle.lay_node.specs.declared.types.Bound.{Bound}
use Rattle.lay_node.specs.declared.vis.Vis.{Vis}
use Rattle.lay_out_tokens.proofs.StreamParts.{leaf_more}
use Rattle.lay_out_types.proofs.ClauseLemmas.{default_any}
use Rattle.lay_out_types.proofs.FormRows.{part_more}
use Rattle.lay_out_heads.specs.HeadRows.{called_row}
use Rattle.lay_out_heads.proofs.HeadLemmas.{called_is}
use Rattle.lay_out_heads.proofs.Rows.{seen_is}
use Rattle.lay_out_heads.proofs.Steady.{Steady, steady_bounds, steady_braces, steady_parens, steady_part, steady_semicolon, steady_wheres_body, steady_wheres_semicolon}

-- ---- structs

steady_head_fields : (x : Fields) → Steady (head_fields x)
steady_head_fields variant.Unit q = refl
steady_head_fields (variant.Named fs) q = refl
steady_head_fields (variant.Tuple fs) q = steady_parens true _ q

pub struct_head_is : (x : Struct)
    → called_row (codes "struct ") x.name x.generics ++ stream_of (head_fields x.fields)
    ≡ stream_of (about_struct x).head
struct_head_is x =
    called_is (codes "struct") (codes "struct ") x.name x.generics (Part (head_fields x.fields) Done) (λ g. refl)
    (steady_head_fields x.fields)

pub tuple_head : (x : Fields) (fs put : List TupleField) → x ≡ variant.Tuple fs → put ≡ fs
    → stream_of (tuple_form put) ≡ stream_of (head_fields x)
tuple_head x fs put is e = rw (is, e) refl

pub no_tuple_head : (x : Fields) → ((fs : List TupleField) → x ≡ variant.Tuple fs → ⊥) → [] ≡ stream_of (head_fields x)
no_tuple_head variant.Unit never = refl
no_tuple_head (variant.Named fs) never = refl
no_tuple_head (variant.Tuple fs) never = absurd (never fs refl)

-- ---- where clauses, and what follows them

pub leads_is : (wheres : Wheres) (put : List Predicate) (b : Bool) → put ≡ wheres.predicates → b ≡ (length put == 0)
    → b ≡ leads wheres
leads_is wheres put b same e = by wheres.predicates b (e ∙ ap (λ (ps : List Predicate). length ps == 0) same)
  where
    by : (ps : List Predicate) (b : Bool) → b ≡ (length ps == 0) → b ≡ leads (record { predicates = ps })
    by [] b e = e
    by (p ∷ ps) b e = e ∙ eqb-suc-zero (length ps)

pub body_tail : (wheres : Wheres) (es : List Form) (lead : Bool) → lead ≡ leads wheres
    → stream_of (wheres_before_body wheres) ++ stream_of (fields (blank_if lead) es)
    ≡ stream_of (Part (wheres_before_body wheres) (fields (blank_if (leads wheres)) es))
body_tail wheres es lead is =
    rw is (part_more (wheres_before_body wheres) (fields (blank_if (leads wheres)) es) (steady_braces (leads wheres) es))

pub semicolon_tail : (wheres : Wheres)
    → stream_of (wheres_before_semicolon wheres) ++ (tok.Text (codes ";") ∷ [])
    ≡ stream_of (Part (wheres_before_semicolon wheres) (piece semicolon))
semicolon_tail wheres = part_more (wheres_before_semicolon wheres) (piece semicolon) steady_semicolon

pub named_tail : (wheres : Wheres) (x : Fields) (fs put : List Field) → x ≡ variant.Named fs → put ≡ fs
    → stream_of (Part (wheres_before_body wheres) (named_form (leads wheres) put)) ≡ stream_of (struct_tail wheres x)
named_tail wheres x fs put is e = rw (is, e) refl

pub other_tail : (wheres : Wheres) (x : Fields) → ((fs : List Field) → x ≡ variant.Named fs → ⊥)
    → stream_of (Part (wheres_before_semicolon wheres) (piece semicolon)) ≡ stream_of (struct_tail wheres x)
other_tail wheres variant.Unit never = refl
other_tail wheres (variant.Tuple fs) never = refl
other_tail wheres (variant.Named fs) never = absurd (never fs refl)

steady_body : (wheres : Wheres) (es : List Form)
    → Steady (Part (wheres_before_body wheres) (fields (blank_if (leads wheres)) es))
steady_body wheres es =
    steady_part (wheres_before_body wheres) (fields (blank_if (leads wheres)) es) (steady_wheres_body wheres)
    (steady_braces (leads wheres) es)

pub steady_end : (wheres : Wheres) → Steady (Part (wheres_before_semicolon wheres) (piece semicolon))
steady_end wheres =
    steady_part (wheres_before_semicolon wheres) (piece semicolon) (steady_wheres_semicolon wheres) steady_semicolon

steady_struct_tail : (wheres : Wheres) (x : Fields) → Steady (struct_tail wheres x)
steady_struct_tail wheres variant.Unit = steady_end wheres
steady_struct_tail wheres (variant.Tuple fs) = steady_end wheres
steady_struct_tail wheres (variant.Named fs) = steady_body wheres (map field_form fs)

-- ---- items

pub struct_is : (v : Vis) (x : Struct)
    → (tok.Begin false (pos 0) ∷ stream_of (vis_form v))
    ++ (stream_of (about_struct x).head ++ (tok.End ∷ stream_of (struct_tail x.wheres x.fields)))
    ≡ stream_of (seen v (about_struct x))
struct_is v x = seen_is v (about_struct x) (steady_struct_tail x.wheres x.fields)

pub union_is : (v : Vis) (x : Union) (put : List Field) → put ≡ x.fields
    → (tok.Begin false (pos 0) ∷ stream_of (vis_form v)) ++ (stream_of (about_union x).head
    ++ (tok.End ∷ stream_of (Part (wheres_before_body x.wheres) (named_form (leads x.wheres) put))))
    ≡ stream_of (seen v (about_union x))
union_is v x put e = rw e (seen_is v (about_union x) (steady_body x.wheres (map field_form x.fields)))

pub enum_is : (v : Vis) (x : Enum) (put : List Variant) → put ≡ x.variants
    → (tok.Begin false (pos 0) ∷ stream_of (vis_form v)) ++ (stream_of (about_enum x).head
    ++ (tok.End ∷ stream_of (Part (wheres_before_body x.wheres) (fields (blank_if (leads x.wheres)) (map variant_form put)))))
    ≡ stream_of (seen v (about_enum x))
enum_is v x put e = rw e (seen_is v (about_enum x) (steady_body x.wheres (map variant_form x.variants)))

-- the head of an alias, of which the place decides nothing
pub alias_head : (x : Alias) (put : List Bound) → put ≡ x.bounds
    → called_row (codes "type ") x.name x.generics ++ (stream_of (bounded_form put) ++ stream_of (default_form x.ty))
    ≡ stream_of (about_alias place.Module x).head
alias_head x put e =
    let given = Part (default_form x.ty) Done in
    rw e (ap (λ (s : List Tok). called_row (codes "type ") x.name x.generics ++ s)
    (part_more (bounded_form x.bounds) given (default_any x.ty))
    ∙ called_is (codes "type") (codes "type ") x.name x.generics (Part (bounded_form x.bounds) given) (λ g. refl)
    (steady_part (bounded_form x.bounds) given (steady_bounds x.bounds) (default_any x.ty)))

pub alias_is : (v : Vis) (site : Site) (x : Alias)
    → (tok.Begin false (pos 0) ∷ stream_of (vis_form v)) ++ (stream_of (about_alias place.Module x).head
    ++ (tok.End ∷ stream_of (Part (wheres_before_semicolon x.wheres) (piece semicolon))))
    ≡ stream_of (seen v (about_alias site x))
alias_is v site x = seen_is v (about_alias site x) (steady_end x.wheres)

pub extern_crate_head : (x : ExternCrate)
    → tok.Text (codes "extern crate ") ∷
    (stream_of (leaf_of x.word.raw x.word.text Done) ++ stream_of (rename_form x.renamed))
    ≡ stream_of (about_extern_crate x).head
extern_crate_head x = ap (λ (s : List Tok). tok.Text (codes "extern crate ") ∷ s)
    (leaf_more x.word.raw x.word.text (rename_form x.renamed))

pub extern_crate_is : (v : Vis) (x : ExternCrate)
    → (tok.Begin false (pos 0) ∷ stream_of (vis_form v)) ++ (stream_of (about_extern_crate x).head
    ++ (tok.End ∷ tok.Text (codes ";") ∷ [])) ≡ stream_of (seen v (about_extern_crate x))
extern_crate_is v x = seen_is v (about_extern_crate x) steady_semicolon
