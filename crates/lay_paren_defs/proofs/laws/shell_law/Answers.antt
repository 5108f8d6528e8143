use Rattle.lay_paren_defs.proofs.ShellLemmas.{shell_arm_is, shell_block_is, shell_branch_is, shell_condition_is, shell_field_is, shell_is, shell_item_is, shell_kind_is, shell_link_is, shell_step_is, shell_stmt_is}
use Rattle.lay_paren_defs.proofs.laws.shell_law.Goals as goal

pub returns : goal.returns
returns c = record {
  expr = shell_is;
  field = shell_field_is;
  step = shell_step_is;
  link = shell_link_is;
  condition = shell_condition_is;
  stmt = shell_stmt_is;
  block = shell_block_is;
  branch = shell_branch_is;
  arm = shell_arm_is;
  kind = shell_kind_is;
  item = shell_item_is;
}
