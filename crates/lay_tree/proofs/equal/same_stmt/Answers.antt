use Rattle.std.proofs.Common.{false}
use Rattle.lay_paren_defs.proofs.ShellLemmas.{shell_stmt_is}
use Rattle.lay_tree.proofs.PartLemmas.{told}
use Rattle.lay_tree.proofs.equal.same_stmt.Goals as goal

pub returns : goal.returns
returns c = told (shell_stmt_is false c.args.stmt.now) c.same_stmt.ensures
