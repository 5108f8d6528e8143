-- The string literal that stands for a text.
use Rattle.std.specs.Prelude.{ℕ, cond, ◌==◌, List, [], ◌∷◌, ◌++◌, codes, flat_map}
use Rattle.lay_piece.specs.Characters as char

-- One character of the literal. A quote and a backslash get a backslash before them, an LF becomes
-- `\n`, a CR becomes `\r`, and every other character stays.
abbrev pub escaped : ℕ → List ℕ
escaped c =
    cond (c == char.quote) (codes "\\\"") (cond (c == char.backslash) (codes "\\\\")
    (cond (c == char.line_feed) (codes "\\n") (cond (c == char.carriage_return) (codes "\\r") (c ∷ []))))

abbrev pub string_text : List ℕ → List ℕ
string_text text = codes "\"" ++ (flat_map escaped text ++ codes "\"")
