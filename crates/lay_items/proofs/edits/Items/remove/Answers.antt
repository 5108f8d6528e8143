use Rattle.lay_items.proofs.KeptLemmas.{kept_without}
use Rattle.lay_items.proofs.edits.Items.remove.Goals as goal

pub invariant_of-self : goal.invariant_of-self
invariant_of-self c =
    let self = c.args.self.now in
    record {
      keeps =
          kept_without self.file self.head self.outputs _ _ c.args.index self.keeps
          c.remove_both.ensures.one c.remove_both.ensures.other;
    }
