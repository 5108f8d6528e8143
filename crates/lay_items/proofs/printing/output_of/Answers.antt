use Rattle.std.proofs.Common.{◌∙◌}
use Rattle.lay_files.proofs.KeepingLemmas.{kept}
use Rattle.lay_items.proofs.alone_lemmas.OutputLemmas.{alone_text}
use Rattle.lay_items.proofs.PrintingLemmas.{told}
use Rattle.lay_items.proofs.printing.output_of.Goals as goal

pub returns-in-Ok : goal.returns-in-Ok
returns-in-Ok c =
    told c.from_bytes.result _ _ c.from_bytes.ensures.ok
    (c.as_slice-in-Ok.ensures
    ∙ kept _ _ _ _ c.new-keeper.ensures c.in-Ok.ensures c.into_list.ensures
    ∙ alone_text c.args.item.now)
