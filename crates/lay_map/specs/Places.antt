-- Where a unit stands in its text: its offset and its length.
use Rattle.std.specs.Prelude.{◌≡◌, List, [], ◌∷◌, map}
use Rattle.lay_form.specs.Spelled.{Spells}
use Rattle.lay_token.specs.declared.token.Token.{Token}
use Rattle.lay_code.specs.Reading.{top}
use Rattle.lay_code.specs.nodes.File.{form_of_file}
use Rattle.lay_code.specs.declared.file.File.{File}
use Rattle.lay_map.specs.spelling.Units as units
use Rattle.lay_map.specs.Walks.{unit_from}
use Rattle.lay_map.specs.declared.unit.Unit.{Unit}

abbrev pub end_of : Token → List Token → Token
end_of t [] = t
end_of t (u ∷ us) = end_of u us

abbrev pub place_of_tokens : List Token → Unit
place_of_tokens [] = record { at = 0; len = 0 }
place_of_tokens (t ∷ ts) = unit_from t (end_of t ts)

-- from the start of its first token to the end of its last one
abbrev pub place_of : units.Unit → Unit
place_of u = place_of_tokens u.tokens

-- The units of the tokens stand at these places, for every way in which the tokens spell the file.
abbrev pub ArePlaces : File → List Token → List Unit → Type 0
ArePlaces file ts places = (s : Spells (form_of_file file) top ts []) → places ≡ map place_of (units.units (form_of_file file) top ts [] s)
