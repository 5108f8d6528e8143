-- The status of a run, by what ended it.
use Rattle.std.specs.Prelude.{Result, Ok, Err}
use Rattle.lay_front.specs.declared.stop.Stop.{Stop}
use Rattle.lay_front.specs.declared.stop.Stop.TheVariants as stop
use Rattle.lay_front.specs.declared.command.Status.{Status}
use Rattle.lay_front.specs.declared.command.Status.TheVariants as status

abbrev pub status_of : Result (Unit {0}) Stop → Status
status_of (Ok done) = status.Done
status_of (Err stop.Usage) = status.Usage
status_of (Err stop.ReadFailed) = status.ReadFailed
status_of (Err stop.TooLong) = status.TooLong
status_of (Err (stop.Refused refusal place)) = status.Refused refusal
status_of (Err stop.WriteFailed) = status.WriteFailed
status_of (Err stop.Differs) = status.Differs
status_of (Err stop.NoMemory) = status.NoMemory
