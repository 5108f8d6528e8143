-- The facts about expressions, blocks and items. These nodes hold each other, so the facts are one
-- fold over the syntax tree.
use Rattle.lay_node.specs.nodes.Facts.{Facts}
use Rattle.lay_node.specs.declared.heads.Site.{Site}
use Rattle.lay_form.specs.Form.{Form}
use Rattle.lay_code.specs.nodes.CodeFacts.{ArmFacts, BlockFacts, BranchFacts, ConditionFacts, ItemFacts, KindFacts, LinkFacts, StmtFacts}
use Rattle.lay_code.specs.nodes.Conditions.{condition_facts, link_facts}
use Rattle.lay_code.specs.nodes.Exprs.{ExprFacts, StepFacts, expr_facts, field_facts, step_facts}
use Rattle.lay_code.specs.nodes.Blocks.{arm_facts, block_facts, branch_facts, stmt_facts}
use Rattle.lay_code.specs.nodes.Item.{item_facts, kind_facts}
use Rattle.lay_code.specs.declared.blocks.Arm.{Arm}
use Rattle.lay_code.specs.declared.blocks.Block.{Block}
use Rattle.lay_code.specs.declared.blocks.Branch.{Branch}
use Rattle.lay_code.specs.declared.blocks.Stmt.{Stmt}
use Rattle.lay_code.specs.declared.blocks.Stmt.TheFolds as fold
use Rattle.lay_code.specs.declared.conditions.Condition.{Condition}
use Rattle.lay_code.specs.declared.conditions.Link.{Link}
use Rattle.lay_code.specs.declared.exprs.Expr.{Expr}
use Rattle.lay_code.specs.declared.exprs.FieldExpr.{FieldExpr}
use Rattle.lay_code.specs.declared.exprs.Step.{Step}
use Rattle.lay_code.specs.declared.item.Item.{Item}
use Rattle.lay_code.specs.declared.item.ItemKind.{ItemKind}
use Rattle.std.specs.Prelude.{[]}

unfoldable pub about_expr : Expr → ExprFacts
about_expr = fold.fold-Expr StmtFacts LinkFacts ExprFacts Facts StepFacts KindFacts ArmFacts BlockFacts BranchFacts ConditionFacts ItemFacts stmt_facts link_facts expr_facts field_facts step_facts kind_facts arm_facts block_facts branch_facts condition_facts item_facts

unfoldable pub about_field_expr : FieldExpr → Facts
about_field_expr = fold.fold-FieldExpr StmtFacts LinkFacts ExprFacts Facts StepFacts KindFacts ArmFacts BlockFacts BranchFacts ConditionFacts ItemFacts stmt_facts link_facts expr_facts field_facts step_facts kind_facts arm_facts block_facts branch_facts condition_facts item_facts

unfoldable pub about_step : Step → StepFacts
about_step = fold.fold-Step StmtFacts LinkFacts ExprFacts Facts StepFacts KindFacts ArmFacts BlockFacts BranchFacts ConditionFacts ItemFacts stmt_facts link_facts expr_facts field_facts step_facts kind_facts arm_facts block_facts branch_facts condition_facts item_facts

unfoldable pub about_stmt : Stmt → StmtFacts
about_stmt = fold.fold-Stmt StmtFacts LinkFacts ExprFacts Facts StepFacts KindFacts ArmFacts BlockFacts BranchFacts ConditionFacts ItemFacts stmt_facts link_facts expr_facts field_facts step_facts kind_facts arm_facts block_facts branch_facts condition_facts item_facts

unfoldable pub about_block : Block → BlockFacts
about_block = fold.fold-Block StmtFacts LinkFacts ExprFacts Facts StepFacts KindFacts ArmFacts BlockFacts BranchFacts ConditionFacts ItemFacts stmt_facts link_facts expr_facts field_facts step_facts kind_facts arm_facts block_facts branch_facts condition_facts item_facts

unfoldable pub about_branch : Branch → BranchFacts
about_branch = fold.fold-Branch StmtFacts LinkFacts ExprFacts Facts StepFacts KindFacts ArmFacts BlockFacts BranchFacts ConditionFacts ItemFacts stmt_facts link_facts expr_facts field_facts step_facts kind_facts arm_facts block_facts branch_facts condition_facts item_facts

unfoldable pub about_condition : Condition → ConditionFacts
about_condition = fold.fold-Condition StmtFacts LinkFacts ExprFacts Facts StepFacts KindFacts ArmFacts BlockFacts BranchFacts ConditionFacts ItemFacts stmt_facts link_facts expr_facts field_facts step_facts kind_facts arm_facts block_facts branch_facts condition_facts item_facts

unfoldable pub about_link : Link → LinkFacts
about_link = fold.fold-Link StmtFacts LinkFacts ExprFacts Facts StepFacts KindFacts ArmFacts BlockFacts BranchFacts ConditionFacts ItemFacts stmt_facts link_facts expr_facts field_facts step_facts kind_facts arm_facts block_facts branch_facts condition_facts item_facts

unfoldable pub about_arm : Arm → ArmFacts
about_arm = fold.fold-Arm StmtFacts LinkFacts ExprFacts Facts StepFacts KindFacts ArmFacts BlockFacts BranchFacts ConditionFacts ItemFacts stmt_facts link_facts expr_facts field_facts step_facts kind_facts arm_facts block_facts branch_facts condition_facts item_facts

unfoldable pub told_of_item : Item → ItemFacts
told_of_item = fold.fold-Item StmtFacts LinkFacts ExprFacts Facts StepFacts KindFacts ArmFacts BlockFacts BranchFacts ConditionFacts ItemFacts stmt_facts link_facts expr_facts field_facts step_facts kind_facts arm_facts block_facts branch_facts condition_facts item_facts

unfoldable pub told_of_kind : ItemKind → KindFacts
told_of_kind = fold.fold-ItemKind StmtFacts LinkFacts ExprFacts Facts StepFacts KindFacts ArmFacts BlockFacts BranchFacts ConditionFacts ItemFacts stmt_facts link_facts expr_facts field_facts step_facts kind_facts arm_facts block_facts branch_facts condition_facts item_facts

-- the facts about an item at its site
abbrev pub about_item : Site → Item → Facts
about_item site item = record { form = (told_of_item item).form; good = (told_of_item item).good site; refuses = [] }

abbrev pub form_of_item : Item → Form
form_of_item item = (told_of_item item).form
