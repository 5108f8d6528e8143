use Rattle.lay_files.proofs.KeepingLemmas.{kept}
use Rattle.lay_files.proofs.through.format_source.Goals as goal

pub returns-in-Ok : goal.returns-in-Ok
returns-in-Ok c =
    let w = c.in-Ok.ensures in
    record { file = w.file; reads = w.reads; same = kept _ _ _ _ c.new-keeper.ensures w.grew c.into_list.ensures }
