-- The units of a source and of an output in pairs. A unit is one token or one documentation.
use Rattle.std.specs.Prelude.{List, [], ◌∷◌}
use Rattle.lay_map.specs.declared.unit.Pair.{Pair}
use Rattle.lay_map.specs.declared.unit.Unit.{Unit}

-- the first with the first, the second with the second, and so on
abbrev pub paired : List Unit → List Unit → List Pair
paired [] others = []
paired (unit ∷ units) [] = []
paired (unit ∷ units) (other ∷ others) = record { source = unit; output = other } ∷ paired units others
