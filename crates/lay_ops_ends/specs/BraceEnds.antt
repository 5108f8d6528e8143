-- In code: whether a type or an expression ends in a `}`, and whether an expression ends in a
-- closure.
use Rattle.std.specs.Prelude.{Bool, true, false, List, [], ◌∷◌, Option, is_some}
use Rattle.lay_node.specs.nodes.Types.{about_type}
use Rattle.lay_node.specs.declared.types.Ty.{Ty}
use Rattle.lay_code.specs.nodes.Code.{about_expr}
use Rattle.lay_code.specs.nodes.Ends.{ends_in_brace}
use Rattle.lay_code.specs.declared.blocks.Block.{Block}
use Rattle.lay_code.specs.declared.blocks.Branch.{Branch}
use Rattle.lay_code.specs.declared.exprs.Expr.{Expr}
use Rattle.lay_ops_ends.specs.declared.brace_ends.ClosureEdge.{ClosureEdge}
use Rattle.lay_ops_ends.specs.declared.brace_ends.ClosureEdge.TheVariants as closure_edge
use Rattle.lay_ops_ends.specs.declared.brace_ends.Edge.{Edge}
use Rattle.lay_ops_ends.specs.declared.brace_ends.Edge.TheVariants as edge
use Rattle.lay_ops_ends.specs.declared.brace_ends.TypeEdge.{TypeEdge}
use Rattle.lay_ops_ends.specs.declared.brace_ends.TypeEdge.TheVariants as type_edge

-- A type with this right edge ends in a `}`.
abbrev pub ends_type : TypeEdge → Bool
ends_type (type_edge.Token brace) = brace
ends_type (type_edge.In ty) = ends_in_brace (about_type ty.now).told.form

abbrev pub IfType : TypeEdge → (Ty → Type 0) → Type 0
IfType (type_edge.In ty) p = p ty.now
IfType _ p = Unit {0}

abbrev pub braces : Edge → Bool
braces (edge.Token brace) = brace
braces (edge.Ty ty) = ends_in_brace (about_type ty.now).told.form
braces (edge.In x) = ends_in_brace (about_expr x.now).form

abbrev pub IfPart : Edge → (Expr → Type 0) → Type 0
IfPart (edge.In x) p = p x.now
IfPart _ p = Unit {0}

-- An expression with this right edge ends in a closure.
abbrev pub closes : ClosureEdge → Bool
closes closure_edge.Shut = false
closes closure_edge.Closure = true
closes (closure_edge.In x) = (about_expr x.now).tail.closure

abbrev pub IfOperand : ClosureEdge → (Expr → Type 0) → Type 0
IfOperand (closure_edge.In x) p = p x.now
IfOperand _ p = Unit {0}

-- There is a branch or an `else`, and so a block.
abbrev pub has_block : List Branch → Option Block → Bool
has_block [] otherwise = is_some otherwise
has_block (b ∷ more) otherwise = true
