-- What reading of code leaves, within a depth.
use Rattle.std.proofs.Common.{◌≡◌, ℕ, zero, suc, Bool, drop, refl, subst}
use Rattle.lay_node.specs.Ahead.{Tokens}
use Rattle.lay_node.specs.declared.heads.Site.{Site}
use Rattle.lay_code.specs.reader.Blocks as blocks
use Rattle.lay_code.specs.reader.Code.{code_in, expr_at, item_at}
use Rattle.lay_code.specs.reader.Conditions as conditions
use Rattle.lay_code.specs.reader.Exprs as exprs
use Rattle.lay_code.specs.declared.exprs.Place.{Place}
use Rattle.lay_read_tokens.proofs.Left.{Leaves}
use Rattle.lay_read_types.proofs.Left.{left_within}
use Rattle.lay_read_pats.proofs.Left.{pats_leave}
use Rattle.lay_read_shared.specs.Code.{code_within}
use Rattle.lay_read_shared.proofs.BlocksLeft.{LeftCode, arm_left, closure_param_left, deeper_left, else_if_left, further_link_left, in_block_left}
use Rattle.lay_read_shared.proofs.ExprsLeft.{climbed_on_left, expr_by_left, one_field_left, operand_left, step_left, type_left}
use Rattle.lay_read_shared.proofs.ItemsLeft.{item_by_left}

-- How code is read within a depth computes at each depth.
pub code_is : (depth : ℕ) → code_in depth ≡ code_within depth
unfolding code_in
code_is zero = refl
code_is (suc depth) = refl

pub in_left : (depth : ℕ) → LeftCode (code_in depth)
unfolding code_in
in_left zero = record {
  exprs = λ place ts. tt;
  kinds = left_within zero;
  pats = λ place ts. pats_leave zero place ts;
  blocks = λ ts. tt;
  items = λ at ts. tt;
  goes_on = λ x ts. tt;
}
in_left (suc depth) = record {
  exprs = λ place ts. expr_by_left (code_in depth) (in_left depth) (suc depth) place ts;
  kinds = left_within (suc depth);
  pats = λ place ts. pats_leave (suc depth) place ts;
  blocks = λ ts. deeper_left (code_in depth) (in_left depth) ts;
  items = λ at ts. item_by_left depth (in_left depth) at ts;
  goes_on = λ x ts. climbed_on_left (code_in depth) (in_left depth) (suc depth) x ts;
}

all_leave : (depth : ℕ) → LeftCode (code_within depth)
all_leave depth = subst LeftCode (code_is depth) (in_left depth)

pub exprs_leave : (depth : ℕ) (place : Place) (ts : Tokens) → Leaves 1 ts (expr_at place depth ts)
exprs_leave depth place ts = (in_left depth).exprs place ts

pub item_left : (depth : ℕ) (at : Site) (ts : Tokens) → Leaves 1 ts (item_at at depth ts)
item_left depth at ts = (in_left depth).items at ts

pub field_leaves : (depth : ℕ) (ts : Tokens) → Leaves 1 ts (exprs.one_field (code_within depth) ts)
field_leaves depth ts = one_field_left (code_within depth) (all_leave depth) ts

pub step_leaves : (depth : ℕ) (ts : Tokens) → Leaves 1 ts (exprs.one_step (code_within depth) ts)
step_leaves depth ts = step_left (code_within depth) (all_leave depth) ts

pub operand_leaves : (depth level : ℕ) (no_struct : Bool) (ts : Tokens)
    → Leaves 1 ts (exprs.operand (code_within depth) level no_struct ts)
operand_leaves depth level no_struct ts = operand_left (code_within depth) (all_leave depth) level no_struct ts

pub type_leaves : (depth : ℕ) (ts : Tokens) → Leaves 1 ts (exprs.one_type (code_within depth) ts)
type_leaves depth ts = type_left (code_within depth) (all_leave depth) ts

pub stmt_leaves : (depth : ℕ) (ts : Tokens) → Leaves 1 ts (blocks.stmt_in_block (code_within depth) ts)
stmt_leaves depth ts = in_block_left (code_within depth) (all_leave depth) ts

pub branch_leaves : (depth : ℕ) (ts : Tokens) → Leaves 1 ts (blocks.branch_by (code_within depth) (drop 2 ts))
branch_leaves depth ts = else_if_left (code_within depth) (all_leave depth) ts

pub link_leaves : (depth : ℕ) (ts : Tokens) → Leaves 1 ts (conditions.one_link (code_within depth) (drop 2 ts))
link_leaves depth ts = further_link_left (code_within depth) (all_leave depth) ts

pub arm_leaves : (depth : ℕ) (ts : Tokens) → Leaves 1 ts (blocks.arm_by (code_within depth) ts)
arm_leaves depth ts = arm_left (code_within depth) (all_leave depth) ts

pub param_leaves : (depth : ℕ) (ts : Tokens) → Leaves 1 ts (exprs.closure_param (code_within depth) ts)
param_leaves depth ts = closure_param_left (code_within depth) (all_leave depth) ts
