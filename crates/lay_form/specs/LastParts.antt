-- What may follow a node whose last part is optional. The spelling says whether that part is there.
use Rattle.std.specs.Prelude.{Bool, not, List, if◌then◌else◌}
use Rattle.lay_token.specs.declared.token.Token.{Token}

-- Where the last part is left out, the rest may not begin as that part does. Where it is spelled,
-- the rest may not begin as one more element does: after the last comma of a list without a closing
-- delimiter, and after a `where`.
abbrev pub last_follows : Bool → (List Token → Bool) → (List Token → Bool) → List Token → Bool
last_follows spelled begins more ts = not (if spelled then more ts else begins ts)
