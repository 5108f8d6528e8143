-- The forms and needs of parts of code that the definitions give no form of their own.
use Rattle.std.specs.Prelude.{ℕ, max, true, Option, Some, None}
use Rattle.lay_form.specs.Depth.{least_depth}
use Rattle.lay_form.specs.Form.{Form, Part}
use Rattle.lay_code.specs.nodes.Code.{about_arm, about_block, about_branch, about_expr, about_link, about_step, told_of_kind}
use Rattle.lay_code.specs.declared.blocks.Arm.{Arm}
use Rattle.lay_code.specs.declared.blocks.Block.{Block}
use Rattle.lay_code.specs.declared.blocks.Branch.{Branch}
use Rattle.lay_code.specs.declared.conditions.Link.{Link}
use Rattle.lay_code.specs.declared.exprs.Expr.{Expr}
use Rattle.lay_code.specs.declared.exprs.Step.{Step}
use Rattle.lay_code.specs.declared.item.ItemKind.{ItemKind}
use Rattle.lay_code.specs.declared.operators.Op.{Op}

-- The forms of an operand after its operator, of a target before its operator, and of a step.
abbrev pub operand_form : Op × Expr → Form
operand_form x = (about_expr x.1).form

abbrev pub target_form : Expr × Op → Form
target_form x = (about_expr x.0).form

abbrev pub step_form : Step → Form
step_form s = (about_step s).form

-- the form of an arm as the last one
abbrev pub arm_form : Arm → Form
arm_form a = (about_arm a).form true

-- the depth that an optional expression or block needs
abbrev pub expr_if : Option Expr → ℕ
expr_if None = 0
expr_if (Some x) = least_depth (about_expr x).form

abbrev pub block_if : Option Block → ℕ
block_if None = 0
block_if (Some b) = least_depth ((about_block b).form true)

abbrev pub link_form : Link → Form
link_form l = (about_link l).form

-- the condition of a branch and its block, as one form
abbrev pub branch_form : Branch → Form
branch_form b = Part (about_branch b).condition (about_branch b).soft

-- the depths that the head of an item, if it has one, and the rest of the item need
abbrev pub head_if : Option Form → ℕ
head_if None = 0
head_if (Some head) = least_depth head

abbrev pub kind_need : ItemKind → ℕ
kind_need kind = max (head_if (told_of_kind kind).head) (least_depth (told_of_kind kind).tail)
