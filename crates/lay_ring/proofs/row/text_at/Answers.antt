use Rattle.std.proofs.Common.{sym, ◌∙◌}
use Rattle.lay_ring.proofs.Rows.{text_is}
use Rattle.lay_ring.proofs.row.text_at.Goals as goal

pub returns-in-Text : goal.returns-in-Text
returns-in-Text c = text_is c.args.entries.now.items c.args.place c.in-Text.len c.in_ok-small.small (sym c.in_ok-small.was ∙ c.get.ensures) c.in-Text.is
