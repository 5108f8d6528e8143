use Rattle.lay_printer.proofs.Lockstep.{in_step}
use Rattle.lay_printer.proofs.printer.Core.len.Goals as goal

pub returns-clause-lockstep : goal.returns-clause-lockstep
returns-clause-lockstep c = λ written content s h r. in_step _ _ _ written content s h.running r
