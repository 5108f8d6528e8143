use Rattle.std.proofs.Common.{sym, ◌∙◌}
use Rattle.lay_read_tokens.proofs.Lists.{no_group}
use Rattle.lay_read_tokens.proofs.tokens.read_group.Goals as goal

pub returns-in-None : goal.returns-in-None
returns-in-None c = no_group c.args.at.now (sym c.opener.ensures ∙ c.in-None.is)
