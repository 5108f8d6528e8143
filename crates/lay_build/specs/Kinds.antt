-- A named type, which is a name, a `:` and a type one level deeper: its form, and what holds of it.
use Rattle.lay_form.specs.Depth.{alone}
use Rattle.lay_form.specs.Form.{Form, Done, Part, Piece}
use Rattle.lay_node.specs.Words.{leaf_of}
use Rattle.lay_node.specs.nodes.Types.{colon}
use Rattle.lay_build_types.specs.Kinds.{IsName, IsType, form_of_type}
use Rattle.lay_build.specs.declared.kinds.NamedType.{NamedType}

abbrev pub form_of_param : NamedType → Form
form_of_param x = alone (leaf_of x.name.raw x.name.text (Piece colon (Part (form_of_type x.ty) Done)))

abbrev pub IsParam : NamedType → Type 0
IsParam x = IsName x.name × IsType x.ty
