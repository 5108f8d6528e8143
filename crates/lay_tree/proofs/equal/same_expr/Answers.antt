use Rattle.std.proofs.Common.{false}
use Rattle.lay_paren_defs.proofs.ShellLemmas.{shell_is}
use Rattle.lay_tree.proofs.PartLemmas.{told}
use Rattle.lay_tree.proofs.equal.same_expr.Goals as goal

pub returns : goal.returns
returns c = told (shell_is false c.args.expr.now) c.same_whole.ensures
