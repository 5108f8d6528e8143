use Rattle.std.proofs.Common.{length, sym, ap, ◌∙◌}
use Rattle.lay_ring.specs.Held.{Held}
use Rattle.lay_ring.proofs.Rows.{length_entries}
use Rattle.lay_ring.proofs.row.Row.len.Goals as goal

pub returns-clause-value : goal.returns-clause-value
returns-clause-value c = c.len.ensures.value ∙ sym (length_entries c.self.inside.entries.items c.self.inside.bytes.items) ∙ ap (λ (h : Held). length h.entries) c.self.view_is
