use Rattle.lay_front.proofs.OutcomeLemmas.{wrote}
use Rattle.lay_front.proofs.formatting.format_bytes.Goals as goal

pub returns-in-Ok-write_file-clause-formats : goal.returns-in-Ok-write_file-clause-formats
returns-in-Ok-write_file-clause-formats g c =
    wrote c.args.bytes.now _ _ c.in-Ok.file c.in-Ok.ensures c.in-Ok-write_file.ensures.whole
