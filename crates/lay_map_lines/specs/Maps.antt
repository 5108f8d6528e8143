-- The map of bytes that parse to a file, and what it means that the map was written.
use Rattle.std.specs.Prelude.{ℕ, ◌≡◌, List, [], map, Option}
use Rattle.lay_io.specs.Told.{GrewBy, GrewByPrefix}
use Rattle.lay_map.specs.spelling.Units.{units}
use Rattle.lay_code.specs.Out.{out}
use Rattle.lay_code.specs.Reading.{Reads, top}
use Rattle.lay_code.specs.nodes.File.{form_of_file}
use Rattle.lay_code.specs.declared.file.File.{File}
use Rattle.lay_map.specs.Pairs.{paired}
use Rattle.lay_map.specs.Places.{place_of}
use Rattle.lay_map.specs.declared.unit.Unit.{Unit}
use Rattle.lay_map_lines.specs.Lines.{map_text}

-- the places of the units of bytes that parse to the file
abbrev pub units_read : {bytes : List ℕ} {file : File} → Reads bytes file → List Unit
units_read {bytes} {file} reads = map place_of (units (form_of_file file) top reads.tokens [] reads.spells.1)

-- The bytes parse to the file, and so does the file's text. The lines tell where the units of both
-- stand, the first with the first and so on.
pub record IsMap (bytes : List ℕ) (file : File) (lines : List ℕ) : Type 0 where
  pub source : Reads bytes file
  pub output : Reads (out file) file
  pub are : lines ≡ map_text (paired (units_read source) (units_read output))

-- The map was written.
pub record WroteMap (bytes : List ℕ) (file : File) (before now : Option (List ℕ)) : Type 0 where
  pub lines : List ℕ
  pub is : IsMap bytes file lines
  pub grew : GrewBy before now lines

-- A prefix of the map was written.
pub record WroteMapPart (bytes : List ℕ) (file : File) (before now : Option (List ℕ)) : Type 0 where
  pub lines : List ℕ
  pub is : IsMap bytes file lines
  pub grew : GrewByPrefix before now lines
