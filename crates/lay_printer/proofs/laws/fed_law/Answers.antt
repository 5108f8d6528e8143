use Rattle.lay_printer.proofs.Lockstep.{in_step}
use Rattle.lay_printer.proofs.Measures.{measured}
use Rattle.lay_printer.proofs.laws.fed_law.Goals as goal

pub returns-clause-lockstep : goal.returns-clause-lockstep
returns-clause-lockstep c = λ p written content s r h. in_step p.entries p.line p.frames written content s (h.running) r

pub returns-clause-sizes : goal.returns-clause-sizes
returns-clause-sizes c = λ p written content s h. measured p.entries (h.running.holds.waits) (h.running.holds.are_sized)

pub returns-clause-work : goal.returns-clause-work
returns-clause-work c = λ p written content s h. (h.counted)
