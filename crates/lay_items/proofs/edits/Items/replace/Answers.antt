-- The item that is put in is the one that the text reads to.
use Rattle.std.proofs.Common.{ap}
use Rattle.lay_items.proofs.KeptLemmas.{kept_other, of_items}
use Rattle.lay_items.proofs.edits.Items.replace.Goals as goal

pub invariant_of-self : goal.invariant_of-self
invariant_of-self c =
    let self = c.args.self.now in
    let laid = c.in_ok-item.field-0 in
    record {
      keeps =
          kept_other self.file self.head self.outputs _ _ c.args.index laid.item laid.output self.keeps
          c.replace_both.ensures.one c.replace_both.ensures.other c.in_ok-item.ensures.1;
    }

pub returns : goal.returns
returns c = (c.in_ok-item.field-0.item, c.in_ok-item.ensures.0, ap (of_items c.args.self.now.file) c.replace_both.ensures.one)
