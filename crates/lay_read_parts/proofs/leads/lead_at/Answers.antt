use Rattle.std.proofs.Common.{sym, ap, ◌∙◌}
use Rattle.lay_node.specs.Begins.{lead_of_word}
use Rattle.lay_read_parts.proofs.Steps.{word_lead}
use Rattle.lay_read_parts.proofs.leads.lead_at.Goals as goal

pub returns-in-Ident : goal.returns-in-Ident
returns-in-Ident c =
    c.lead_of_word.ensures ∙ ap lead_of_word c.as_bytes.ensures
    ∙ sym (word_lead c.args.at.now c.in-Some.token.now c.in-Some.ensures.token c.in-Ident.is)
