use Rattle.std.proofs.Common.{sym, ◌∙◌}
use Rattle.lay_read_tokens.proofs.Steps.{doc_closed}
use Rattle.lay_read_tokens.proofs.attributes.read_value.Goals as goal

pub returns-in-Some : goal.returns-in-Some
returns-in-Some c =
    rw c.pass_two.ensures (doc_closed c.args.inner c.args.path c.args.at.now c.in-Some.text
    (sym c.in_ok-text.ensures ∙ c.in-Some.is))
