-- An expression with one of its pairs of parentheses left out.
use Rattle.std.specs.Prelude.{List}
use Rattle.lay_code.specs.nodes.Places.{FREE}
use Rattle.lay_code.specs.declared.blocks.Arm.{Arm}
use Rattle.lay_code.specs.declared.blocks.Block.{Block}
use Rattle.lay_code.specs.declared.blocks.Branch.{Branch}
use Rattle.lay_code.specs.declared.blocks.Stmt.{Stmt}
use Rattle.lay_code.specs.declared.blocks.Stmt.TheFolds as fold
use Rattle.lay_code.specs.declared.blocks.Stmt.TheOpen.{Expr-F}
use Rattle.lay_code.specs.declared.conditions.Condition.{Condition}
use Rattle.lay_code.specs.declared.exprs.Expr.{Expr}
use Rattle.lay_code.specs.declared.exprs.FieldExpr.{FieldExpr}
use Rattle.lay_code.specs.declared.exprs.Step.{Step}
use Rattle.lay_code.specs.declared.item.Item.{Item}
use Rattle.lay_code.specs.declared.item.ItemKind.{ItemKind}
use Rattle.lay_paren_defs.specs.loose.Slots.{Any}
use Rattle.lay_paren.specs.Least.{wrapped}
use Rattle.lay_paren.specs.Made.{Made}
use Rattle.lay_paren.specs.Parts.{Linked, Parts, Placed, arm_made, block_made, branch_made, condition_made, expr_made, field_made, item_made, kind_made, link_made, step_made, stmt_made}

-- The node as it is, in any place. Its cuts leave out a pair within a part, or the node's own pair
-- if it is one.
abbrev pub own_made : Parts Expr-F → Placed
own_made (Expr-F.Paren x) = λ place slot. wrapped (x FREE Any)
own_made x = λ place slot. expr_made FREE x

unfoldable pub own : Expr → Placed
own = fold.fold-Expr (Made Stmt) Linked Placed (Made FieldExpr) (Made Step) (Made ItemKind) (Made Arm) (Made Block) (Made Branch) (Made Condition) (Made Item) stmt_made link_made own_made field_made step_made kind_made arm_made block_made branch_made condition_made item_made

-- the expression with one of its pairs left out: a list with one result for each pair
abbrev pub left_out : Expr → List Expr
left_out x = (own x FREE Any).cuts
