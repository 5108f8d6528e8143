-- What the calls that parse or format bytes answer.
use Rattle.std.specs.Prelude.{ℕ, ◌≡◌, List, Option, Result, Ok, Err}
use Rattle.lay_text.specs.declared.refusal.FormatError.{FormatError}
use Rattle.lay_text.specs.declared.refusal.FormatError.TheVariants as format
use Rattle.lay_io.specs.Told.{GrewBy}
use Rattle.lay_token.specs.Place.{place_of}
use Rattle.lay_token.specs.Source.{Source, source}
use Rattle.lay_code.specs.Out.{out}
use Rattle.lay_code.specs.Reading.{IsRefusedAt, ReadsAt, top}
use Rattle.lay_code.specs.declared.file.File.{File}
use Rattle.lay_files.specs.windows.Bodies.{FileAs}
use Rattle.lay_files.specs.Places.{number_of, place_in}
use Rattle.lay_files.specs.declared.reading.FileError.{FileError}
use Rattle.lay_files.specs.declared.reading.FileError.TheVariants.{Refused, NoMemory}

-- At this depth the bytes parse to this file and to no other.
pub record ReadsOnlyAt (depth : ℕ) (bytes : List ℕ) (file : File) : Type 0 where
  pub reads : ReadsAt depth bytes file
  pub only : (other : File) → ReadsAt depth bytes other → other ≡ file

-- The same at the depth of files.
abbrev pub ReadsOnlyTo : List ℕ → File → Type 0
ReadsOnlyTo bytes file = ReadsOnlyAt top bytes file

-- The answer is the one file that the bytes parse to, or why and where they are refused. Memory may
-- run out.
abbrev pub ReadAs : ℕ → List ℕ → Result File FileError → Type 0
ReadAs depth bytes (Ok file) = ReadsOnlyAt depth bytes file
ReadAs depth bytes (Err (Refused refusal place)) = IsRefusedAt depth bytes refusal × (place ≡ place_in bytes refusal)
ReadAs depth bytes (Err NoMemory) = Unit {0}

-- the error with its place, counted in this text
abbrev pub placed_in : List ℕ → FormatError → FileError
placed_in text (format.Refused refusal) = Refused refusal (place_of text (number_of refusal))
placed_in text format.NoMemory = NoMemory

-- The answer holds for all bytes that have this source.
abbrev pub ReadsAs : ℕ → Source → Result File FileError → Type 0
ReadsAs depth from result = (bytes : List ℕ) → source bytes ≡ Ok from → ReadAs depth bytes result

-- ---- from bytes to a text

-- The answer is the text of the one file that the bytes parse to, or why and where they are
-- refused. Memory may run out.
abbrev pub FormattedAs : ℕ → List ℕ → Result (List ℕ) FileError → Type 0
FormattedAs depth bytes (Ok text) = (file : File) × ReadsOnlyAt depth bytes file × (text ≡ out file)
FormattedAs depth bytes (Err (Refused refusal place)) = IsRefusedAt depth bytes refusal × (place ≡ place_in bytes refusal)
FormattedAs depth bytes (Err NoMemory) = Unit {0}

-- The answer holds for all bytes that have this source.
abbrev pub FormatsAs : ℕ → Source → Result (List ℕ) FileError → Type 0
FormatsAs depth from result = (bytes : List ℕ) → source bytes ≡ Ok from → FormattedAs depth bytes result

-- the file, with this shebang
abbrev pub behind_line : Option (List ℕ) → File → File
behind_line first file = record { shebang = first; attrs = file.attrs; items = file.items }

-- The tokens of the source spell a file, and the text is that of the file with the source's
-- shebang.
pub record FormatsSource (depth : ℕ) (from : Source) (text : List ℕ) : Type 0 where
  pub file : File
  pub reads : FileAs depth from.text from.start (Ok file)
  pub same : text ≡ out (behind_line from.shebang file)

-- The same, where the text was written to a sink.
pub record WritesSource (depth : ℕ) (from : Source) (before now : Option (List ℕ)) : Type 0 where
  pub file : File
  pub reads : FileAs depth from.text from.start (Ok file)
  pub grew : GrewBy before now (out (behind_line from.shebang file))
