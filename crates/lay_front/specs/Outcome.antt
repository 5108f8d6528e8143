-- What a run of the formatter leaves behind, for each status that it ends with.
use Rattle.std.specs.Prelude.{ℕ, ◌≡◌, ◌≢◌, ◌<◌, ◌≤◌, ◌⊎◌, List, [], length, Option, IfSome, Result, Ok, Err}
use Rattle.lay_io.specs.Told.{TellsAs, GrewBy, GrewByPrefix}
use Rattle.lay_io.specs.Faults.{Rose}
use Rattle.lay_io.specs.declared.outside.Which.{Which}
use Rattle.lay_args.specs.declared.lines.Line.{Line}
use Rattle.lay_args.specs.declared.lines.Line.TheVariants as line
use Rattle.lay_text.specs.declared.refusal.FormatError.{FormatError}
use Rattle.lay_text.specs.declared.refusal.FormatError.TheVariants as error
use Rattle.lay_sample.specs.Sample.{sample_text}
use Rattle.lay_code.specs.Reading.{IsRefused}
use Rattle.lay_files.specs.Readings.{ReadsOnlyTo}
use Rattle.lay_map_lines.specs.Maps.{WroteMap, WroteMapPart}
use Rattle.lay_front.specs.Summary.{summary}
use Rattle.lay_code.specs.Out.{out}
use Rattle.lay_code.specs.declared.file.File.{File}
use Rattle.lay_front.specs.declared.formatting.IntoError.{IntoError}
use Rattle.lay_front.specs.declared.formatting.IntoError.TheVariants as into
use Rattle.lay_front.specs.declared.command.Status.{Status}
use Rattle.lay_front.specs.declared.command.Status.TheVariants.{Done, Differs, Usage, ReadFailed, Refused, WriteFailed, TooLong, NoMemory}

-- The bytes parse to one file, and the whole text of the file was written. It parses to the same
-- file.
pub record Wrote (bytes : List ℕ) (before now : Option (List ℕ)) : Type 0 where
  pub file : File
  pub reads : ReadsOnlyTo bytes file
  pub grew : GrewBy before now (out file)
  pub back : ReadsOnlyTo (out file) file

-- The bytes parse to one file, and a prefix of its text was written.
pub record WrotePart (bytes : List ℕ) (before now : Option (List ℕ)) : Type 0 where
  pub file : File
  pub reads : ReadsOnlyTo bytes file
  pub grew : GrewByPrefix before now (out file)

-- The bytes parse to one file, and this is its text. It parses to the same file.
pub record IsTextFor (bytes text : List ℕ) : Type 0 where
  pub file : File
  pub reads : ReadsOnlyTo bytes file
  pub is : text ≡ out file
  pub back : ReadsOnlyTo text file

-- What a call that gives the text answers. Memory may run out.
abbrev pub FormatsTo : List ℕ → Result (List ℕ) FormatError → Type 0
FormatsTo bytes (Ok text) = IsTextFor bytes text
FormatsTo bytes (Err (error.Refused refusal)) = IsRefused bytes refusal
FormatsTo bytes (Err error.NoMemory) = Unit {0}

-- An input was read to its end. These are all of its bytes, at most 16 MiB, and P holds of them.
pub record WasRead (before now : Option (List ℕ)) (P : List ℕ → Type 0) : Type 0 where
  pub bytes : List ℕ
  pub all : TellsAs before bytes
  pub at_end : TellsAs now []
  pub within : length bytes ≤ 16777216
  pub holds : P bytes

-- Nothing was written, or only a prefix of what should be.
abbrev pub WroteNoMore : {K : Type 0} → K → K → Type 0 → Type 0
WroteNoMore before now Part = (now ≡ before) ⊎ Part

module _ {K : Type 0} (written : K → Option (List ℕ)) (writes : K → ℕ) where
  -- A call that formats the bytes into a sink. The sink goes from `before` to `now`.
  abbrev pub Formats : {T : Type 0} → List ℕ → K → K → Result T IntoError → Type 0
  Formats bytes before now (Ok done) = Wrote bytes (written before) (written now)
  Formats bytes before now (Err (into.Refused refusal)) = IsRefused bytes refusal × (now ≡ before)
  Formats bytes before now (Err into.WriteFailed) = Rose (writes before) (writes now) × WrotePart bytes (written before) (written now)
  Formats bytes before now (Err into.NoMemory) = WroteNoMore before now (WrotePart bytes (written before) (written now))

  module _ {I : Type 0} (left : I → Which → Option (List ℕ)) (reads : I → ℕ) where
    -- A run that formats an input, for each status. The inputs go from i to j, and the sink from k
    -- to l.
    abbrev pub FormatRun : Which → I → I → K → K → Status → Type 0
    FormatRun which i j k l Done = WasRead (left i which) (left j which) (λ bytes. Wrote bytes (written k) (written l))
    FormatRun which i j k l Differs = ⊥
    FormatRun which i j k l Usage = ⊥
    FormatRun which i j k l ReadFailed = Rose (reads i) (reads j) × (l ≡ k)
    FormatRun which i j k l TooLong = IfSome (left i which) (λ all. 16777216 < length all) × (l ≡ k)
    FormatRun which i j k l (Refused refusal) = WasRead (left i which) (left j which) (λ bytes. IsRefused bytes refusal) × (l ≡ k)
    FormatRun which i j k l WriteFailed = Rose (writes k) (writes l) × WasRead (left i which) (left j which) (λ bytes. WrotePart bytes (written k) (written l))
    FormatRun which i j k l NoMemory = WroteNoMore k l (WasRead (left i which) (left j which) (λ bytes. WrotePart bytes (written k) (written l)))

-- The bytes parse to one file, and its map was written.
pub record Mapped (bytes : List ℕ) (before now : Option (List ℕ)) : Type 0 where
  pub file : File
  pub reads : ReadsOnlyTo bytes file
  pub wrote : WroteMap bytes file before now

-- The bytes parse to one file, and a prefix of its map was written.
pub record MappedInPart (bytes : List ℕ) (before now : Option (List ℕ)) : Type 0 where
  pub file : File
  pub reads : ReadsOnlyTo bytes file
  pub wrote : WroteMapPart bytes file before now

module _ {K I : Type 0} (written : K → Option (List ℕ)) (writes : K → ℕ) (left : I → Which → Option (List ℕ)) (reads : I → ℕ) where
  -- A run that maps an input, for each status. The inputs go from i to j, and the sink from k to l.
  abbrev pub MapRun : Which → I → I → K → K → Status → Type 0
  MapRun which i j k l Done = WasRead (left i which) (left j which) (λ bytes. Mapped bytes (written k) (written l))
  MapRun which i j k l Differs = ⊥
  MapRun which i j k l Usage = ⊥
  MapRun which i j k l ReadFailed = Rose (reads i) (reads j) × (l ≡ k)
  MapRun which i j k l TooLong = IfSome (left i which) (λ all. 16777216 < length all) × (l ≡ k)
  MapRun which i j k l (Refused refusal) = WasRead (left i which) (left j which) (λ bytes. IsRefused bytes refusal) × (l ≡ k)
  MapRun which i j k l WriteFailed = Rose (writes k) (writes l) × WasRead (left i which) (left j which) (λ bytes. MappedInPart bytes (written k) (written l))
  MapRun which i j k l NoMemory = WroteNoMore k l (WasRead (left i which) (left j which) (λ bytes. MappedInPart bytes (written k) (written l)))

-- The bytes parse to one file and are its text, so they are formatted.
pub record IsItsText (bytes : List ℕ) : Type 0 where
  pub file : File
  pub reads : ReadsOnlyTo bytes file
  pub same : bytes ≡ out file

-- The bytes parse to one file but aren't its text, so they aren't formatted.
pub record IsNotItsText (bytes : List ℕ) : Type 0 where
  pub file : File
  pub reads : ReadsOnlyTo bytes file
  pub other : bytes ≢ out file

module _ {I : Type 0} (left : I → Which → Option (List ℕ)) (reads : I → ℕ) where
  -- A run that checks an input, for each status. The inputs go from i to j, and nothing is written.
  abbrev pub CheckRun : Which → I → I → Status → Type 0
  CheckRun which i j Done = WasRead (left i which) (left j which) IsItsText
  CheckRun which i j Differs = WasRead (left i which) (left j which) IsNotItsText
  CheckRun which i j Usage = ⊥
  CheckRun which i j ReadFailed = Rose (reads i) (reads j)
  CheckRun which i j TooLong = IfSome (left i which) (λ all. 16777216 < length all)
  CheckRun which i j (Refused refusal) = WasRead (left i which) (left j which) (λ bytes. IsRefused bytes refusal)
  CheckRun which i j WriteFailed = ⊥
  CheckRun which i j NoMemory = Unit {0}

-- The sample parses to one file, and the line that sums up its text was written.
pub record SummedUp (items : ℕ) (bytes : List ℕ) (before now : Option (List ℕ)) : Type 0 where
  pub file : File
  pub reads : ReadsOnlyTo bytes file
  pub grew : GrewBy before now (summary items bytes (out file))

-- The same, but only a prefix of the line was written.
pub record SummedUpInPart (items : ℕ) (bytes : List ℕ) (before now : Option (List ℕ)) : Type 0 where
  pub file : File
  pub reads : ReadsOnlyTo bytes file
  pub grew : GrewByPrefix before now (summary items bytes (out file))

module _ {K : Type 0} (written : K → Option (List ℕ)) (writes : K → ℕ) where
  -- A run that sums up the sample of a seed with this many items, for each status. These bytes are
  -- the sample. The sink goes from k to l.
  abbrev pub SampleRun : ℕ → List ℕ → K → K → Status → Type 0
  SampleRun items bytes k l Done = SummedUp items bytes (written k) (written l)
  SampleRun items bytes k l Differs = ⊥
  SampleRun items bytes k l Usage = ⊥
  SampleRun items bytes k l ReadFailed = ⊥
  SampleRun items bytes k l TooLong = ⊥
  SampleRun items bytes k l (Refused refusal) = IsRefused bytes refusal × (l ≡ k)
  SampleRun items bytes k l WriteFailed = Rose (writes k) (writes l) × SummedUpInPart items bytes (written k) (written l)
  SampleRun items bytes k l NoMemory = l ≡ k

-- A run of a command line. The inputs go from i to j, and the sink from k to l. Memory may run out
-- before anything is read.
module _ {K I : Type 0} (written : K → Option (List ℕ)) (writes : K → ℕ) (left : I → Which → Option (List ℕ))
    (reads : I → ℕ) where
  abbrev pub LineRun : Line → I → I → K → K → Status → Type 0
  LineRun line.Usage i j k l status = (j ≡ i) × (l ≡ k) × ((status ≡ Usage) ⊎ (status ≡ NoMemory))
  LineRun (line.Format which) i j k l status = FormatRun written writes left reads which i j k l status
  LineRun (line.Check which) i j k l status = CheckRun left reads which i j status × (l ≡ k)
  LineRun (line.Map which) i j k l status = MapRun written writes left reads which i j k l status
  LineRun (line.Sample seed items) i j k l status = (j ≡ i) × SampleRun written writes items (sample_text seed items) k l status
