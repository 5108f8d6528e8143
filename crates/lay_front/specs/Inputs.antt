-- Which bytes a run is given, and what it reads of its input before it writes anything.
use Rattle.std.specs.Prelude.{ℕ, ◌≡◌, ◌≢◌, ◌<◌, List, length, Option, None, Some, IfSome, Result, Ok, Err}
use Rattle.lay_io.specs.Faults.{Rose}
use Rattle.lay_io.specs.Told.{IsEnd, TellsAs}
use Rattle.lay_io.specs.declared.outside.Which.{Which}
use Rattle.lay_args.specs.declared.lines.Line.{Line}
use Rattle.lay_args.specs.declared.lines.Line.TheVariants as line
use Rattle.lay_sample.specs.Sample.{sample_text}
use Rattle.lay_code.specs.Reading.{IsRefused}
use Rattle.lay_code.specs.declared.file.File.{File}
use Rattle.lay_files.specs.Places.{place_in}
use Rattle.lay_front.specs.Outcome.{WasRead}
use Rattle.lay_files.specs.Readings.{ReadsOnlyTo}
use Rattle.lay_front.specs.declared.stop.Stop.{Stop}
use Rattle.lay_front.specs.declared.stop.Stop.TheVariants.{ReadFailed, TooLong, Refused, NoMemory}

-- the input that a command line names, if it names one
abbrev pub input_of : Line → Option Which
input_of line.Usage = None
input_of (line.Format which) = Some which
input_of (line.Check which) = Some which
input_of (line.Map which) = Some which
input_of (line.Sample seed items) = None

-- The named input was read on, so that an end of what was left is left. All other inputs are as
-- they were.
pub record TookFrom (named : Option Which) (before now : Which → Option (List ℕ)) : Type 0 where
  pub others : (which : Which) → named ≢ Some which → now which ≡ before which
  pub rest : (which : Which) → named ≡ Some which → IsEnd (before which) (now which)

-- The bytes that a command line formats, as far as they are known: those of the input that it
-- names, or the sample that it asks for.
abbrev pub given_to : Line → (Which → Option (List ℕ)) → Option (List ℕ)
given_to line.Usage left = None
given_to (line.Format which) left = left which
given_to (line.Check which) left = left which
given_to (line.Map which) left = left which
given_to (line.Sample seed items) left = Some (sample_text seed items)

-- What reading an input gives: its bytes and the one file that they parse to, or why there is none.
-- The input goes from `before` to `now`, and the count of its faults from `f` to `g`.
abbrev pub InputAs : Option (List ℕ) → Option (List ℕ) → ℕ → ℕ → Result (List ℕ × File) Stop → Type 0
InputAs before now f g (Ok given) = WasRead before now (λ bytes. (given.0 ≡ bytes) × ReadsOnlyTo bytes given.1)
InputAs before now f g (Err ReadFailed) = Rose f g
InputAs before now f g (Err TooLong) = IfSome before (λ all. 16777216 < length all)
InputAs before now f g (Err (Refused refusal place)) =
    WasRead before now (λ bytes. IsRefused bytes refusal × (place ≡ place_in bytes refusal))
InputAs before now f g (Err NoMemory) = Unit {0}
InputAs before now f g (Err stop) = ⊥

-- If a run ended because bytes were refused, the bytes have this refusal at this place.
abbrev pub IsPlaced : Option (List ℕ) → Result (Unit {0}) Stop → Type 0
IsPlaced told (Err (Refused refusal place)) =
    (bytes : List ℕ) × TellsAs told bytes × IsRefused bytes refusal × (place ≡ place_in bytes refusal)
IsPlaced told ended = Unit {0}
