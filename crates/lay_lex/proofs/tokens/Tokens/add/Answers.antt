use Rattle.std.proofs.Common.{sym, ap, ◌∙◌}
use Rattle.std.specs.Str.{chars, encode_utf8_all}
use Rattle.std.proofs.lemmas.Str.{encodes-chars}
use Rattle.lay_token.specs.Lexes.{text_of_piece}
use Rattle.lay_token.specs.declared.token.Token.{Token}
use Rattle.lay_piece.specs.declared.kind.Kind.{Kind}
use Rattle.lay_lex.proofs.tokens.Tokens.add.Goals as goal

pub push_punct-requires-clause-text : goal.push_punct-requires-clause-text
push_punct-requires-clause-text c =
    ap (λ (t : Token). t.text) c.in_ok-token.ensures
    ∙ ap (λ (k : Kind). encode_utf8_all (text_of_piece k (chars c.args.piece.now))) c.in-Punct.is
    ∙ encodes-chars c.args.piece.now c.utf8.piece ∙ sym c.as_bytes.ensures.value
