-- Lookahead: tests of the tokens ahead.
use Rattle.std.specs.Prelude.{ℕ, ◌&&◌, ◌||◌, not, Bool, true, false, List, [], ◌∷◌, drop, codes}
use Rattle.std.specs.Str.{bytes_eq}
use Rattle.lay_token.specs.Lexes.{is_punct}
use Rattle.lay_piece.specs.declared.kind.Delim.{Delim}
use Rattle.lay_piece.specs.declared.kind.Delim.TheVariants.{Paren, Bracket, Brace}
use Rattle.lay_piece.specs.declared.kind.Kind.{Kind}
use Rattle.lay_piece.specs.declared.kind.Kind.TheVariants.{Ident, Lifetime, Opener, Closer}
use Rattle.lay_token.specs.Operators.{is_op}
use Rattle.lay_token.specs.declared.token.Token.{Token}

abbrev pub Tokens : Type 0
Tokens = List Token

abbrev pub at_end : Tokens → Bool
at_end [] = true
at_end (t ∷ ts) = false

abbrev pub first : (Token → Bool) → Tokens → Bool
first p [] = false
first p (t ∷ ts) = p t

abbrev pub tail : Tokens → Tokens
tail [] = []
tail (t ∷ ts) = ts

abbrev pub is_ident : Kind → Bool
is_ident Ident = true
is_ident _ = false

abbrev pub is_keyword : List ℕ → Token → Bool
is_keyword word t = is_ident t.kind && bytes_eq t.text word

abbrev pub is_mark : List ℕ → Token → Bool
is_mark character t = is_punct t.kind && bytes_eq t.text character

abbrev pub same_delim : Delim → Delim → Bool
same_delim Paren Paren = true
same_delim Bracket Bracket = true
same_delim Brace Brace = true
same_delim _ _ = false

abbrev pub is_opener : Delim → Kind → Bool
is_opener d (Opener e) = same_delim d e
is_opener d _ = false

abbrev pub is_closer : Delim → Kind → Bool
is_closer d (Closer e) = same_delim d e
is_closer d _ = false

abbrev pub opens : Delim → Token → Bool
opens d t = is_opener d t.kind

abbrev pub closes : Delim → Token → Bool
closes d t = is_closer d t.kind

abbrev pub is_lifetime_kind : Kind → Bool
is_lifetime_kind Lifetime = true
is_lifetime_kind _ = false

abbrev pub is_lifetime : Token → Bool
is_lifetime t = is_lifetime_kind t.kind

-- Generic arguments are opened by a `<` that is an operator by itself, or the first character of `<<` or `<-`.
abbrev pub opens_args : Tokens → Bool
opens_args ts = is_op (codes "<") ts || (is_op (codes "<<") ts || is_op (codes "<-") ts)

-- the same after a `::`
abbrev pub opens_args_late : Tokens → Bool
opens_args_late ts = is_op (codes "::") ts && opens_args (drop 2 ts)

-- Items end at the end of the tokens, and before a `}`.
abbrev pub ends_items : Tokens → Bool
ends_items [] = true
ends_items (t ∷ ts) = closes Brace t

abbrev pub more_items : Tokens → Bool
more_items ts = not (ends_items ts)
