-- The lines of a map, as bytes.
use Rattle.std.specs.Prelude.{ℕ, List, ◌++◌, codes, flat_map}
use Rattle.std.specs.Fmt.{decimal}
use Rattle.lay_map.specs.declared.unit.Pair.{Pair}
use Rattle.lay_map.specs.declared.unit.Unit.{Unit}

-- the place of a unit: its start, a `+`, and its length in bytes
abbrev pub unit_text : Unit → List ℕ
unit_text unit = decimal unit.at ++ (codes "+" ++ decimal unit.len)

-- the line of a pair: the place of the unit in the source and then in the output
abbrev pub line_of : Pair → List ℕ
line_of pair = unit_text pair.source ++ (codes " " ++ (unit_text pair.output ++ codes "\n"))

-- a line for each pair
abbrev pub map_text : List Pair → List ℕ
map_text pairs = flat_map line_of pairs
