-- What a node begins with in code, once its parts have their parentheses.
use Rattle.std.specs.Prelude.{Bool, true, false}
use Rattle.lay_code.specs.Operands as operands
use Rattle.lay_code.specs.nodes.Code.{about_expr}
use Rattle.lay_code.specs.declared.exprs.Expr.{Expr}
use Rattle.lay_paren_defs.specs.loose.Slots.{Any, BeforeIndex, Slot}
use Rattle.lay_ops.specs.Leads.{told}
use Rattle.lay_paren.specs.InPlace.{least_in}
use Rattle.lay_paren.specs.declared.leads.Edge.{Edge}
use Rattle.lay_paren.specs.declared.leads.Edge.TheVariants as edge

-- the slot of a part at the left edge; the flag says that it stands directly before a tuple index
abbrev pub left_slot : Bool → Slot
left_slot false = Any
left_slot true = BeforeIndex

-- what a node with this edge begins with
abbrev pub begun : Edge → operands.ExprLead
begun (edge.Own lead) = told lead
begun (edge.In x place before_index) = (about_expr (least_in x.now place (left_slot before_index))).lead

abbrev pub IfPart : Edge → (Expr → Type 0) → Type 0
IfPart (edge.In x place before_index) p = p x.now
IfPart _ p = Unit {0}
