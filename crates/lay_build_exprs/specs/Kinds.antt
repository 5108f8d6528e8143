-- A named expression, which is a name, a `:` and an expression one level deeper: its form, and what
-- holds of it.
use Rattle.lay_form.specs.Depth.{alone}
use Rattle.lay_form.specs.Form.{Form, Done, Part, Piece}
use Rattle.lay_node.specs.Words.{leaf_of}
use Rattle.lay_node.specs.nodes.Types.{colon}
use Rattle.lay_build_types.specs.Kinds.{IsExpr, IsName, form_of_expr}
use Rattle.lay_build_exprs.specs.declared.kinds.NamedExpr.{NamedExpr}

abbrev pub form_of_field : NamedExpr → Form
form_of_field x = alone (leaf_of x.name.raw x.name.text (Piece colon (Part (form_of_expr x.value) Done)))

abbrev pub IsField : NamedExpr → Type 0
IsField x = IsName x.name × IsExpr x.value
