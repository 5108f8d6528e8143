use Rattle.std.proofs.Common.{sym, subst}
use Rattle.lay_read_tokens.specs.Answers.{IsFound}
use Rattle.lay_read_begun.specs.Begun.{deeper}
use Rattle.lay_read_begun.specs.Leads.{told}
use Rattle.lay_read_begun.proofs.ItemBodies.{begun_nowhere, begun_there}
use Rattle.lay_read_begun.proofs.begun.read_begun.Goals as goal

pub returns-then-may_stand-clause-read : goal.returns-then-may_stand-clause-read
returns-then-may_stand-clause-read c =
    subst (λ read. IsFound read c.begun_by.result c.begun_by.new.at)
    (sym (begun_there c.args.site (deeper c.args.depth) c.args.at.now (told c.item_lead-lead.result) c.item_lead-lead.ensures (sym c.if-may_stand.ensures)))
    c.begun_by.ensures.read

pub returns-else-may_stand-clause-read : goal.returns-else-may_stand-clause-read
returns-else-may_stand-clause-read c =
    begun_nowhere c.args.site (deeper c.args.depth) c.args.at.now (told c.item_lead-lead.result) c.item_lead-lead.ensures (sym c.if-may_stand.ensures)
