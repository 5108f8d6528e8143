-- The next tokens, of a list or of a text.
use Rattle.std.specs.Prelude.{List}
use Rattle.lay_token.specs.declared.token.Token.{Token}
use Rattle.lay_lex.specs.one_by_one.Ahead.{tokens_ahead}
use Rattle.lay_map.specs.declared.ahead.Ahead.{Ahead}
use Rattle.lay_map.specs.declared.ahead.Ahead.TheVariants.{Tokens, Text}

abbrev pub tokens_of : Ahead → List Token
tokens_of (Tokens tokens) = tokens.now
tokens_of (Text cursor) = tokens_ahead cursor
