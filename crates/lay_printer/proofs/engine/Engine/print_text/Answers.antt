use Rattle.std.proofs.Common.{true}
use Rattle.lay_printer.proofs.Clearing.{clear_text}
use Rattle.lay_printer.proofs.Running.{prints_now}
use Rattle.lay_printer.proofs.engine.Engine.print_text.Goals as goal

pub returns-clause-feeds : goal.returns-clause-feeds
returns-clause-feeds g c = prints_now _ _ _ _ _ _ _ _ _ true _ c.requires.idle c.pass.ensures.entries (clear_text _ _ c.args.text.now) c.print_text.ensures.prints
