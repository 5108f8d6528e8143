-- What a node holds, if it is of a given kind.
use Rattle.std.specs.Prelude.{Option, Some, None}
use Rattle.lay_code.specs.declared.blocks.Block.{Block}
use Rattle.lay_code.specs.declared.blocks.Stmt.{Stmt}
use Rattle.lay_code.specs.declared.blocks.Stmt.TheOpen.{Expr-F, Stmt-F}
use Rattle.lay_code.specs.declared.blocks.Stmt.TheViews.{out-Expr, out-Stmt}
use Rattle.lay_code.specs.declared.exprs.Expr.{Expr}
use Rattle.lay_code.specs.nodes.Layers.{ExprNode, StmtNode}

abbrev pub block_in : ExprNode → Option Block
block_in (Expr-F.Block label b) = Some b
block_in _ = None

-- the block that an expression is, if it is one
abbrev pub block_of : Expr → Option Block
block_of x = block_in (out-Expr x)

abbrev pub expr_in : StmtNode → Option Expr
expr_in (Stmt-F.Stmt::Expr attrs x ended) = Some x
expr_in _ = None

-- the expression that a statement is, if it is one
abbrev pub expr_of : Stmt → Option Expr
expr_of s = expr_in (out-Stmt s)
