use Rattle.std.proofs.Common.{sym, ap, ◌∙◌}
use Rattle.lay_read_begun.specs.Leads.{lead_of_word}
use Rattle.lay_read_begun.proofs.ByWord.{end_found, other_found, word_found}
use Rattle.lay_read_begun.proofs.leads.item_lead.Goals as goal

pub returns-in-Ident : goal.returns-in-Ident
returns-in-Ident c =
    c.lead_of_word.ensures ∙ ap (λ word. lead_of_word word c.args.at.now) c.as_bytes.ensures
    ∙ sym (word_found c.args.at.now c.in-Some.token.now (sym c.in-Some.ensures.token) c.in-Ident.is)

pub returns-in_default : goal.returns-in_default
returns-in_default c = sym (other_found c.args.at.now c.in-Some.token.now (sym c.in-Some.ensures.token) c.in_default.not-Ident)

pub returns-in-None : goal.returns-in-None
returns-in-None c = sym (end_found c.args.at.now (sym c.in-None.ensures.token))
