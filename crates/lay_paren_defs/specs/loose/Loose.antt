-- Syntax trees that can be written once they have parentheses where their places ask for them.
use Rattle.std.specs.Prelude.{◌≤◌, Bool, false, IsTrue}
use Rattle.lay_form.specs.Depth.{least_depth}
use Rattle.lay_form.specs.Pieces.{are_pieces}
use Rattle.lay_node.specs.nodes.Facts.{Facts}
use Rattle.lay_code.specs.nodes.Blocks.{arm_facts, block_facts, branch_facts, stmt_facts}
use Rattle.lay_code.specs.nodes.Code.{about_expr}
use Rattle.lay_code.specs.nodes.CodeFacts.{ArmFacts, BlockFacts, BranchFacts, ConditionFacts, ItemFacts, KindFacts, LinkFacts, StmtFacts}
use Rattle.lay_code.specs.nodes.Conditions.{condition_facts, link_facts}
use Rattle.lay_code.specs.nodes.Exprs.{ExprFacts, ExprLayer, StepFacts, expr_facts, field_facts, step_facts}
use Rattle.lay_code.specs.nodes.Item.{item_facts, kind_facts}
use Rattle.lay_code.specs.declared.blocks.Stmt.TheFolds as fold
use Rattle.lay_code.specs.declared.blocks.Stmt.TheOpen.{Expr-F}
use Rattle.lay_code.specs.declared.exprs.Expr.{Expr}

-- The facts about an expression in parentheses, but with the two facts that statements, arms and
-- closures ask of the expression as a whole.
abbrev pub shielded : ExprFacts → ExprFacts
shielded x = record (expr_facts (Expr-F.Paren x)) { block_like = x.block_like; kind = x.kind }

abbrev pub shielded_facts : ExprLayer → ExprFacts
shielded_facts x = shielded (expr_facts x)

-- the facts about a tree, where each part is taken as if it were in parentheses
unfoldable pub loose_about : Expr → ExprFacts
loose_about = fold.fold-Expr StmtFacts LinkFacts ExprFacts Facts StepFacts KindFacts ArmFacts BlockFacts BranchFacts ConditionFacts ItemFacts stmt_facts link_facts shielded_facts field_facts step_facts kind_facts arm_facts block_facts branch_facts condition_facts item_facts

-- The tree meets every rule except those of places and slots.
abbrev pub meets_rules : Expr → Bool
meets_rules x = (loose_about x).within false false

-- A tree that may be given parentheses. It meets every rule except those of places and slots. Its
-- names, words and literals are pieces of their kinds. It is no deeper than a file may be.
pub record Loose (x : Expr) : Type 0 where
  pub rules : IsTrue (meets_rules x)
  pub pieces : IsTrue (are_pieces (about_expr x).form)
  pub depth : least_depth (about_expr x).form ≤ 256
