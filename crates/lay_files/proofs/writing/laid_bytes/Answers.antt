use Rattle.lay_files.proofs.KeepingLemmas.{kept}
use Rattle.lay_files.proofs.writing.laid_bytes.Goals as goal

pub returns-in-Ok : goal.returns-in-Ok
returns-in-Ok g c = kept _ _ _ _ c.new-keeper.ensures c.in-Ok.ensures.whole c.into_list.ensures
