-- What stands at the beginning at a depth, an expression or what stands by itself, stands there at each greater one.
use Rattle.std.proofs.Common.{ℕ, ◌≤◌, drop}
use Rattle.lay_form.specs.Form.{Deeper, Done}
use Rattle.lay_form.proofs.FormLaws.{deeper}
use Rattle.lay_node.specs.Ahead.{Tokens}
use Rattle.lay_node.specs.nodes.Facts.{by_itself}
use Rattle.lay_code.specs.nodes.Code.{about_arm, about_expr}
use Rattle.lay_code.specs.nodes.Exprs.{ExprFront}
use Rattle.lay_code.specs.declared.blocks.Arm.{Arm}
use Rattle.lay_code.specs.declared.blocks.Block.{Block}
use Rattle.lay_code.specs.declared.blocks.Stmt.{Stmt}
use Rattle.lay_code.specs.declared.exprs.Expr.{Expr}
use Rattle.lay_code.specs.declared.exprs.Place.{Place}
use Rattle.lay_code.proofs.reader.Followed.{followed_deeper}
use Rattle.lay_read_shared.specs.alone.ArmFronts.{ArmFront, arm_follows, arm_shape}
use Rattle.lay_read_shared.specs.alone.Fronts.{BlockFront, StmtFront, block_told, stmt_told}
use Rattle.lay_read_parts.proofs.AtFront.{front_deeper}

pub expr_lifts : (place : Place) (x : Expr) (ts : Tokens) (n m depth : ℕ) → m ≤ depth → ExprFront place (about_expr x) ts n m
    → ExprFront place (about_expr x) ts n depth
expr_lifts place x ts n m depth le f =
    (f.0, deeper (about_expr x).form m depth ts (drop n ts) le f.1, f.2, followed_deeper (about_expr x) place m depth ts (drop n ts) le f.3)

pub block_lifts : (x : Block) (ts : Tokens) (n m depth : ℕ) → m ≤ depth → BlockFront x ts n m → BlockFront x ts n depth
block_lifts x = let told = by_itself (block_told x) in front_deeper told.form told.good told.follows

pub stmt_lifts : (x : Stmt) (ts : Tokens) (n m depth : ℕ) → m ≤ depth → StmtFront x ts n m → StmtFront x ts n depth
stmt_lifts x = let told = by_itself (stmt_told x) in front_deeper told.form told.good told.follows

pub arm_lifts : (x : Arm) (ts : Tokens) (n m depth : ℕ) → m ≤ depth → ArmFront x ts n m → ArmFront x ts n depth
arm_lifts x ts n m depth le f = (
  f.0,
  f.1,
  f.2,
  front_deeper (Deeper (arm_shape f.0 f.1 x) Done) (about_arm x).good (arm_follows f.0 f.1 (about_expr x.body)) ts n m depth le f.3,
)
