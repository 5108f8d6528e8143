use Rattle.std.proofs.Common.{true}
use Rattle.lay_printer.proofs.Running.{prints_now}
use Rattle.lay_printer.proofs.engine.Engine.print_break.Goals as goal

pub returns-clause-feeds : goal.returns-clause-feeds
returns-clause-feeds g c = prints_now _ _ _ _ _ _ _ _ _ true _ c.requires.idle c.pass.ensures.entries c.requires.clear c.print_break.ensures.prints
