-- Tokens that are pieces of their kinds.
use Rattle.std.specs.Prelude.{Bool, List}
use Rattle.std.specs.List.{list_all}
use Rattle.lay_token.specs.declared.token.Token.{Token}
use Rattle.lay_form.specs.Pieces.{is_text_of}

-- Each token is a piece of its kind.
abbrev pub are_texts : List Token → Bool
are_texts ts = list_all (λ (t : Token). is_text_of t.kind t.text) ts
