-- What is passed of a path.
use Rattle.std.proofs.Common.{◌≡◌, true, false, is_some, [], ◌∷◌, Option, Some, None, slice_get, refl, sym, ap, ◌∙◌}
use Rattle.std.proofs.lemmas.Bool.{false≢true}
use Rattle.lay_token.specs.declared.token.Token.{Token}
use Rattle.lay_node.specs.Ahead.{Tokens, tail}
use Rattle.lay_node.specs.reader.Loops.{Got, ◌>>=◌}
use Rattle.lay_node.specs.reader.Words.{word, word_by}
use Rattle.lay_node.specs.declared.token.Word.{Word}

-- a word, and these tokens after it
abbrev worded : Option Word → Tokens → Got Word
worded o ts = do w ← o; Some (w, ts)

is_worded : (o : Option Word) (ts : Tokens) → is_some o ≡ is_some (worded o ts)
is_worded None ts = refl
is_worded (Some w) ts = refl

pub word_at_front : (ts : Tokens) (t : Token) → Some t ≡ slice_get ts 0
    → is_some (word_by t.kind t.text) ≡ is_some (word ts)
unfolding word
word_at_front [] t e = absurd (cc)
word_at_front (u ∷ ts) t e =
    let same : t ≡ u = cc in
    ap (λ (v : Token). is_some (word_by v.kind v.text)) same ∙ is_worded (word_by u.kind u.text) ts

pub no_word : (got : Got Word) → is_some got ≡ false → got ≡ None
no_word None h = refl
no_word (Some w) h = absurd (false≢true (sym h))

of_word : (o : Option Word) (ts : Tokens) → is_some (worded o ts) ≡ true → (x : Word) × (worded o ts ≡ Some (x, ts))
of_word None ts h = absurd (false≢true h)
of_word (Some w) ts h = (w, refl)

pub word_passed : (ts : Tokens) → is_some (word ts) ≡ true → (x : Word) × (word ts ≡ Some (x, tail ts))
unfolding word
word_passed [] h = absurd (false≢true h)
word_passed (t ∷ ts) h = of_word (word_by t.kind t.text) ts h
