use Rattle.std.proofs.Common.{◌≡◌, false, length, refl, sym, ap, ◌∙◌, ℕ, List}
use Rattle.std.specs.Str.{chars, encode_utf8_all}
use Rattle.std.proofs.lemmas.Str.{encodes-chars}
use Rattle.lay_token.specs.Lexes.{size, text_of_piece}
use Rattle.lay_token.specs.declared.token.Token.{Token}
use Rattle.lay_piece.specs.declared.kind.Kind.{Kind}
use Rattle.lay_lex.specs.Added.{token_of}
use Rattle.lay_lex.proofs.tokens.token_of.Goals as goal

token_is : (at len : ℕ) (kind : Kind) (piece text : List ℕ) → text ≡ encode_utf8_all (text_of_piece kind piece)
    → len ≡ size piece
    → ◌≡◌ {A = Token} (record { kind = kind; text = text; joint = false; at = at; len = len }) (token_of at kind piece)
token_is at len kind piece text e h = rw (e, h) refl

pub returns : goal.returns
returns c =
    token_is c.args.at (length c.args.piece.now) c.args.kind (chars c.args.piece.now) c.in_ok-text.text
    (c.in_ok-text.ensures.ok ∙ c.text_of_piece.ensures) (ap length (sym (encodes-chars c.args.piece.now c.utf8.piece)))
