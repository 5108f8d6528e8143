-- The forms, facts and streams of parts of expressions, as the contracts use them.
use Rattle.std.specs.Prelude.{Bool, true, not, cond, List, [], ◌∷◌, ◌++◌, map, is_some, Option, option_map}
use Rattle.lay_layout.specs.declared.layout.Tok.{Tok}
use Rattle.lay_layout.specs.declared.layout.Tok.TheVariants as tok
use Rattle.lay_form.specs.Form.{Form, Done}
use Rattle.lay_form.specs.Layout.{text_of_bits}
use Rattle.lay_form.specs.Notation.{braces}
use Rattle.lay_form.specs.Stream.{fed}
use Rattle.lay_code.specs.nodes.Code.{about_expr, about_field_expr}
use Rattle.lay_code.specs.nodes.Exprs.{ExprFacts, base_form, end_form, prefix_bits}
use Rattle.lay_code.specs.declared.exprs.Expr.{Expr}
use Rattle.lay_code.specs.declared.exprs.FieldExpr.{FieldExpr}
use Rattle.lay_code.specs.declared.operators.Op.{Op}
use Rattle.lay_code.specs.declared.operators.Prefix.{Prefix}

-- the forms of an expression and of a field
abbrev pub expr_told : Expr → Form
expr_told x = (about_expr x).form

abbrev pub field_told : FieldExpr → Form
field_told x = (about_field_expr x).form

-- the facts about an operand after its operator, and about a target before its own
abbrev pub behind_op : Op × Expr → Op × ExprFacts
behind_op x = (x.0, about_expr x.1)

abbrev pub before_op : Expr × Op → ExprFacts × Op
before_op x = (about_expr x.0, x.1)

-- the operators before an operand, each as one text
abbrev pub prefix_texts : List Prefix → List Tok
prefix_texts ps = map (λ (p : Prefix). tok.Text (text_of_bits (prefix_bits p))) ps

-- the facts about the base of a struct literal, if it has one
abbrev pub base_facts : Option (Option Expr) → Option (Option ExprFacts)
base_facts base = option_map (option_map about_expr) base

abbrev pub fields_form : List FieldExpr → Option (Option Expr) → Form
fields_form fields base = braces (not (is_some (base_facts base))) (map field_told fields ++ base_form (base_facts base))

-- the stream of the base of a struct literal after its `..`, if there is one
abbrev pub base_told : Option Expr → List Tok
base_told base = fed true (end_form (option_map about_expr base) Done) []

-- what closes the group of steps with several method calls, if they have one
abbrev pub steps_closed : Bool → List Tok
steps_closed several = cond several (tok.End ∷ []) []
