-- The result of `normalise`: a source, or an error.
use Rattle.std.specs.Prelude.{◌≡◌, Result, Ok, Err, IsOk}
use Rattle.lay_token.specs.Source as definition
use Rattle.lay_text.specs.declared.refusal.FormatError.{FormatError}
use Rattle.lay_text.specs.declared.refusal.FormatError.TheVariants.{Refused, NoMemory}
use Rattle.lay_text.specs.declared.refusal.Refusal.{Refusal}
use Rattle.lay_lex.specs.declared.source.Source.{Source}

-- the source of the code, as a source of the definition
abbrev pub seen : Source → definition.Source
seen s = record { text = s.text; shebang = s.shebang; start = s.start }

-- The source, or the refusal where the definition refuses. Memory may run out where there is a
-- source.
abbrev pub Answers : Result definition.Source Refusal → Result Source FormatError → Type 0
Answers wanted (Ok s) = wanted ≡ Ok (seen s)
Answers wanted (Err (Refused r)) = wanted ≡ Err r
Answers wanted (Err NoMemory) = IsOk wanted
