-- The edges of expressions in code: what begins and ends them, and struct literals outside
-- delimiters.
use Rattle.std.specs.Prelude.{Bool, List, map}
use Rattle.std.specs.List.{list_all}
use Rattle.lay_code.specs.nodes.Code.{about_expr, about_step}
use Rattle.lay_code.specs.nodes.Exprs.{begins_part, first_step, is_brace_lead, is_dotted}
use Rattle.lay_code.specs.declared.exprs.Expr.{Expr}
use Rattle.lay_code.specs.declared.exprs.Step.{Step}
use Rattle.lay_code.specs.declared.operators.Op.{Op}
use Rattle.lay_ops.specs.declared.edges.Edge.{Edge}
use Rattle.lay_ops.specs.declared.edges.Edge.TheVariants as edge

-- An expression with this left edge may begin a statement, and so may each expression at the edge.
abbrev pub starts_at : Edge → Bool
starts_at (edge.Told answer) = answer
starts_at (edge.In x) = begins_part (about_expr x.now)

-- No closure at this right edge has a body that keeps its braces only because no struct literal may
-- stand there.
abbrev pub tight_at : Edge → Bool
tight_at (edge.Told answer) = answer
tight_at (edge.In x) = (about_expr x.now).tight

-- The expression begins with a `{`.
abbrev pub braced_at : Edge → Bool
braced_at (edge.Told answer) = answer
braced_at (edge.In x) = is_brace_lead (about_expr x.now).lead

abbrev pub IfPart : Edge → (Expr → Type 0) → Type 0
IfPart (edge.In x) p = p x.now
IfPart _ p = Unit {0}

-- The first step begins with `.` or is `?`.
abbrev pub dotted_first : List Step → Bool
dotted_first steps = first_step is_dotted (map about_step steps)

-- An operand after its operator, or a target of an assignment, that holds no struct literal outside
-- delimiters.
abbrev pub is_structless_operand : Op × Expr → Bool
is_structless_operand x = (about_expr x.1).structless

abbrev pub structless_operands : List (Op × Expr) → Bool
structless_operands operands = list_all is_structless_operand operands

abbrev pub is_structless_target : Expr × Op → Bool
is_structless_target x = (about_expr x.0).structless

abbrev pub structless_targets : List (Expr × Op) → Bool
structless_targets targets = list_all is_structless_target targets
