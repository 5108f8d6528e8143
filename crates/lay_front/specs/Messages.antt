-- The line that a run writes to `err`, by its status.
use Rattle.std.specs.Prelude.{ℕ, List, [], ◌++◌, codes, Option, Result, Err}
use Rattle.std.specs.Fmt.{decimal}
use Rattle.lay_io.specs.Faults.{Rose}
use Rattle.lay_io.specs.Told.{TellsAs, GrewBy, GrewByPrefix}
use Rattle.lay_text.specs.declared.refusal.Refusal.{Refusal}
use Rattle.lay_text.specs.declared.refusal.Refusal.TheVariants.{NotUtf8, NoToken, Unbalanced, NoItem}
use Rattle.lay_token.specs.declared.place.Place2.{Place2}
use Rattle.lay_code.specs.Reading.{IsRefused}
use Rattle.lay_files.specs.Places.{place_in}
use Rattle.lay_front.specs.declared.stop.Stop.{Stop}
use Rattle.lay_front.specs.declared.stop.Stop.TheVariants as stop
use Rattle.lay_front.specs.Stops.{status_of}
use Rattle.lay_front.specs.declared.command.Status.{Status}
use Rattle.lay_front.specs.declared.command.Status.TheVariants.{Done, Differs, Usage, ReadFailed, Refused, WriteFailed, TooLong, NoMemory}

-- the reason why an input is refused, as it stands after the place
abbrev pub reason : Refusal → List ℕ
reason (NotUtf8 at) = codes ": not UTF-8\n"
reason (NoToken at) = codes ": no token\n"
reason (Unbalanced at) = codes ": unbalanced delimiter\n"
reason (NoItem at) = codes ": no item\n"

-- the line of a refusal: its line and column in decimal digits, and the reason
abbrev pub refusal_line : Refusal → Place2 → List ℕ
refusal_line refusal place = decimal place.line ++ codes ":" ++ (decimal place.column ++ reason refusal)

-- the line of a status, for a run that was given these bytes
abbrev pub message : List ℕ → Status → List ℕ
message bytes Done = []
message bytes Differs = codes "differs\n"
message bytes Usage = codes "usage: lay_fmt [--check | --map] [FILE] or lay_fmt --sample SEED --items N\n"
message bytes ReadFailed = codes "read failed\n"
message bytes (Refused refusal) = refusal_line refusal (place_in bytes refusal)
message bytes WriteFailed = codes "write failed\n"
message bytes TooLong = codes "input is longer than 16777216 bytes\n"
message bytes NoMemory = codes "no memory\n"

-- If the status is a refusal, the bytes are refused so.
abbrev pub RefusedIn : List ℕ → Status → Type 0
RefusedIn bytes (Refused refusal) = IsRefused bytes refusal
RefusedIn bytes status = Unit {0}

-- A run wrote the line of its status to `err`: a prefix of it, and all of it if no write failed. If
-- the status is a refusal, the bytes of the run are refused so.
pub record Says (told : Option (List ℕ)) (status : Status) (before now : Option (List ℕ)) (faults later : ℕ)
    : Type 0 where
  pub bytes : List ℕ
  pub given : TellsAs told bytes
  pub refused : RefusedIn bytes status
  pub part : GrewByPrefix before now (message bytes status)
  pub whole : (Rose faults later → ⊥) → GrewBy before now (message bytes status)

-- The line of what ended a run. A refusal comes with its place, so the bytes aren't needed.
abbrev pub line_of_end : Result (Unit {0}) Stop → List ℕ
line_of_end (Err (stop.Refused refusal place)) = refusal_line refusal place
line_of_end ended = message [] (status_of ended)
