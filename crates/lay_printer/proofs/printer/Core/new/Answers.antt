use Rattle.std.proofs.Common.{refl}
use Rattle.lay_printer.proofs.Calling.{runs_new}
use Rattle.lay_printer.proofs.printer.Core.new.Goals as goal

pub returns-clause-runs : goal.returns-clause-runs
returns-clause-runs c = λ written content wrote.
    let q = c.in_ok-queue.ensures in
    runs_new _ written content q.entries q.first q.groups refl refl refl c.new-frames.ensures wrote
