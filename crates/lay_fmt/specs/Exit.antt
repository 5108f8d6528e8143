-- The exit status of each outcome.
use Rattle.std.specs.Prelude.{ℕ}
use Rattle.lay_front.specs.declared.command.Status.{Status}
use Rattle.lay_front.specs.declared.command.Status.TheVariants.{Done, Differs, Usage, ReadFailed, Refused, WriteFailed, TooLong, NoMemory}

abbrev pub number_of : Status → ℕ
number_of Done = 0
number_of Differs = 1
number_of Usage = 2
number_of ReadFailed = 3
number_of (Refused refusal) = 4
number_of WriteFailed = 5
number_of TooLong = 6
number_of NoMemory = 7
