-- A node enclosed, by its layer.
use Rattle.std.proofs.Common.{◌≡◌, true, sym, ap, ◌∙◌}
use Rattle.lay_code.specs.nodes.Layers.{ArmNode, BlockNode, BranchNode, ConditionNode, ExprNode, FieldNode, ItemNode, KindNode, LinkNode, StepNode, StmtNode}
use Rattle.lay_code.specs.declared.blocks.Stmt.TheViews as views
use Rattle.lay_paren_defs.specs.Enclosed.{arm_shell, block_shell, branch_shell, condition_shell, enclosed, enclosed_arm, enclosed_block, enclosed_branch, enclosed_condition, enclosed_field, enclosed_item, enclosed_kind, enclosed_link, enclosed_step, enclosed_stmt, expr_shell, field_shell, item_shell, kind_shell, link_shell, step_shell, stmt_shell}
use Rattle.lay_paren_defs.proofs.ShellLemmas as shell

pub stmt_closed : (y : StmtNode) → enclosed_stmt (views.roll-Stmt y) ≡ stmt_shell true y
stmt_closed y = sym (shell.shell_stmt_is true (views.roll-Stmt y)) ∙ ap (stmt_shell true) (views.out-roll-Stmt y)

pub link_closed : (y : LinkNode) → enclosed_link (views.roll-Link y) ≡ link_shell true y
link_closed y = sym (shell.shell_link_is true (views.roll-Link y)) ∙ ap (link_shell true) (views.out-roll-Link y)

pub expr_closed : (y : ExprNode) → enclosed (views.roll-Expr y) ≡ expr_shell true y
expr_closed y = sym (shell.shell_is true (views.roll-Expr y)) ∙ ap (expr_shell true) (views.out-roll-Expr y)

pub field_closed : (y : FieldNode) → enclosed_field (views.roll-FieldExpr y) ≡ field_shell true y
field_closed y = sym (shell.shell_field_is true (views.roll-FieldExpr y)) ∙ ap (field_shell true) (views.out-roll-FieldExpr y)

pub step_closed : (y : StepNode) → enclosed_step (views.roll-Step y) ≡ step_shell true y
step_closed y = sym (shell.shell_step_is true (views.roll-Step y)) ∙ ap (step_shell true) (views.out-roll-Step y)

pub kind_closed : (y : KindNode) → enclosed_kind (views.roll-ItemKind y) ≡ kind_shell true y
kind_closed y = sym (shell.shell_kind_is true (views.roll-ItemKind y)) ∙ ap (kind_shell true) (views.out-roll-ItemKind y)

pub arm_closed : (y : ArmNode) → enclosed_arm (views.roll-Arm y) ≡ arm_shell true y
arm_closed y = sym (shell.shell_arm_is true (views.roll-Arm y)) ∙ ap (arm_shell true) (views.out-roll-Arm y)

pub block_closed : (y : BlockNode) → enclosed_block (views.roll-Block y) ≡ block_shell true y
block_closed y = sym (shell.shell_block_is true (views.roll-Block y)) ∙ ap (block_shell true) (views.out-roll-Block y)

pub branch_closed : (y : BranchNode) → enclosed_branch (views.roll-Branch y) ≡ branch_shell true y
branch_closed y = sym (shell.shell_branch_is true (views.roll-Branch y)) ∙ ap (branch_shell true) (views.out-roll-Branch y)

pub condition_closed : (y : ConditionNode) → enclosed_condition (views.roll-Condition y) ≡ condition_shell true y
condition_closed y = sym (shell.shell_condition_is true (views.roll-Condition y)) ∙ ap (condition_shell true) (views.out-roll-Condition y)

pub item_closed : (y : ItemNode) → enclosed_item (views.roll-Item y) ≡ item_shell true y
item_closed y = sym (shell.shell_item_is true (views.roll-Item y)) ∙ ap (item_shell true) (views.out-roll-Item y)
