-- An expression without its parentheses.
use Rattle.lay_code.specs.nodes.Layers.{ExprNode}
use Rattle.lay_code.specs.declared.blocks.Arm.{Arm}
use Rattle.lay_code.specs.declared.blocks.Block.{Block}
use Rattle.lay_code.specs.declared.blocks.Branch.{Branch}
use Rattle.lay_code.specs.declared.blocks.Stmt.{Stmt}
use Rattle.lay_code.specs.declared.blocks.Stmt.TheFolds as fold
use Rattle.lay_code.specs.declared.blocks.Stmt.TheOpen.{Expr-F}
use Rattle.lay_code.specs.declared.blocks.Stmt.TheViews as views
use Rattle.lay_code.specs.declared.conditions.Condition.{Condition}
use Rattle.lay_code.specs.declared.conditions.Link.{Link}
use Rattle.lay_code.specs.declared.exprs.Expr.{Expr}
use Rattle.lay_code.specs.declared.exprs.FieldExpr.{FieldExpr}
use Rattle.lay_code.specs.declared.exprs.Step.{Step}
use Rattle.lay_code.specs.declared.item.Item.{Item}
use Rattle.lay_code.specs.declared.item.ItemKind.{ItemKind}

-- a node whose parts have lost their parentheses, without its own
abbrev pub without_parens : ExprNode → Expr
without_parens (Expr-F.Paren x) = x
without_parens x = views.roll-Expr x

-- the expression with each pair of parentheses replaced by what it holds
unfoldable pub erase : Expr → Expr
erase = fold.fold-Expr Stmt Link Expr FieldExpr Step ItemKind Arm Block Branch Condition Item views.roll-Stmt views.roll-Link without_parens views.roll-FieldExpr views.roll-Step views.roll-ItemKind views.roll-Arm views.roll-Block views.roll-Branch views.roll-Condition views.roll-Item
