-- The place in a text at which bytes are refused.
use Rattle.std.specs.Prelude.{ℕ, List, Result, Ok, Err}
use Rattle.lay_text.specs.declared.refusal.Refusal.{Refusal}
use Rattle.lay_text.specs.declared.refusal.Refusal.TheVariants.{NotUtf8, NoToken, Unbalanced, NoItem}
use Rattle.lay_token.specs.Place.{place_of}
use Rattle.lay_token.specs.Source.{Source, source}
use Rattle.lay_token.specs.declared.place.Place2.{Place2}

-- the offset of the byte at which an input is refused
abbrev pub number_of : Refusal → ℕ
number_of (NotUtf8 at) = at
number_of (NoToken at) = at
number_of (Unbalanced at) = at
number_of (NoItem at) = at

-- the text that these bytes lex as, or the bytes themselves if they are not UTF-8
abbrev pub text_or : List ℕ → Result Source Refusal → List ℕ
text_or bytes (Ok from) = from.text
text_or bytes (Err refusal) = bytes

-- The place of a refusal. It is counted in the text that the bytes lex as, or in the bytes if they
-- are not UTF-8.
abbrev pub place_in : List ℕ → Refusal → Place2
place_in bytes refusal = place_of (text_or bytes (source bytes)) (number_of refusal)
