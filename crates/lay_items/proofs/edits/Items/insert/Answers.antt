-- The item that is put in is the one that the text reads to.
use Rattle.std.proofs.Common.{ap}
use Rattle.lay_items.proofs.KeptLemmas.{kept_with, of_items}
use Rattle.lay_items.proofs.edits.Items.insert.Goals as goal

pub invariant_of-self : goal.invariant_of-self
invariant_of-self c =
    let self = c.args.self.now in
    let laid = c.in_ok-item.field-0 in
    record {
      keeps =
          kept_with c.insert_both.result self.file self.head self.outputs _ _ c.args.index laid.item laid.output self.keeps
          c.insert_both.ensures.ok c.insert_both.ensures.err c.in_ok-item.ensures.1;
    }

pub returns-in-Ok : goal.returns-in-Ok
returns-in-Ok c =
    (c.in_ok-item.field-0.item, c.in_ok-item.ensures.0, ap (of_items c.args.self.now.file) c.in-Ok.ensures.ok.0)
