-- Forms that are fed alike after a point and elsewhere.
use Rattle.std.proofs.Common.{◌≡◌, Bool, true, false, List, [], ◌∷◌, ◌++◌, map, Option, Some, None, refl, ap, ◌∙◌}
use Rattle.lay_layout.specs.declared.layout.Tok.{Tok}
use Rattle.lay_piece.specs.declared.kind.Delim.TheVariants.{Paren}
use Rattle.lay_form.specs.Form.{Form, Part, closer, opener, semicolon}
use Rattle.lay_form.specs.Layout.{ends_behind_point}
use Rattle.lay_form.specs.Notation.{comma_list, fields, piece, where_body, where_semicolon}
use Rattle.lay_form.specs.Stream.{fed, stream_of}
use Rattle.lay_node.specs.nodes.Fields.{blank_if, discriminant_form}
use Rattle.lay_node.specs.nodes.Functions.{head_output}
use Rattle.lay_node.specs.nodes.Generics.{bounded_form}
use Rattle.lay_node.specs.nodes.Where.{predicate_form, wheres_before_body, wheres_before_semicolon}
use Rattle.lay_node.specs.declared.generics.Wheres.{Wheres}
use Rattle.lay_node.specs.declared.token.Listed.{Listed}
use Rattle.lay_node.specs.declared.types.Bound.{Bound}
use Rattle.lay_node.specs.declared.types.Ty.{Ty}
use Rattle.lay_out_tokens.proofs.StreamParts.{fed_more}
use Rattle.lay_out_types.proofs.FormRows.{part_more}

abbrev pub Steady : Form → Type 0
Steady f = (q : Bool) → fed q f [] ≡ stream_of f

pub steady_part : (e f : Form) → Steady e → Steady f → Steady (Part e f)
steady_part e f any more q =
    fed_more q e (fed (ends_behind_point q e) f [])
    ∙ ap (λ (s : List Tok). s ++ fed (ends_behind_point q e) f []) (any q)
    ∙ ap (λ (s : List Tok). stream_of e ++ s) (more (ends_behind_point q e))
    ∙ part_more e f more

pub steady_bounds : (bounds : List Bound) → Steady (bounded_form bounds)
steady_bounds [] q = refl
steady_bounds (b ∷ bs) true = refl
steady_bounds (b ∷ bs) false = refl

pub steady_output : (output : Option Ty) → Steady (head_output output)
steady_output None q = refl
steady_output (Some x) true = refl
steady_output (Some x) false = refl

pub steady_parens : (may : Bool) (es : List Form) → Steady (comma_list may (opener Paren) (closer Paren) es)
steady_parens may [] true = refl
steady_parens may [] false = refl
steady_parens may (e ∷ es) true = refl
steady_parens may (e ∷ es) false = refl

pub steady_braces : (lead : Bool) (es : List Form) → Steady (fields (blank_if lead) es)
steady_braces true [] true = refl
steady_braces false [] true = refl
steady_braces true (e ∷ []) true = refl
steady_braces false (e ∷ []) true = refl
steady_braces true (e ∷ f ∷ es) true = refl
steady_braces false (e ∷ f ∷ es) true = refl
steady_braces lead es false = refl

pub steady_discriminant : (x : Option (List Listed)) → Steady (discriminant_form x)
steady_discriminant None q = refl
steady_discriminant (Some tokens) true = refl
steady_discriminant (Some tokens) false = refl

where_body_by : (es : List Form) → Steady (where_body es)
where_body_by [] q = refl
where_body_by (e ∷ es) true = refl
where_body_by (e ∷ es) false = refl

where_semicolon_by : (es : List Form) → Steady (where_semicolon es)
where_semicolon_by [] q = refl
where_semicolon_by (e ∷ es) true = refl
where_semicolon_by (e ∷ es) false = refl

pub steady_wheres_body : (wheres : Wheres) → Steady (wheres_before_body wheres)
steady_wheres_body wheres = where_body_by (map predicate_form wheres.predicates)

pub steady_wheres_semicolon : (wheres : Wheres) → Steady (wheres_before_semicolon wheres)
steady_wheres_semicolon wheres = where_semicolon_by (map predicate_form wheres.predicates)

pub steady_semicolon : Steady (piece semicolon)
steady_semicolon true = refl
steady_semicolon false = refl
