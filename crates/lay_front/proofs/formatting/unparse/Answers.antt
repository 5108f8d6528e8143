use Rattle.lay_front.proofs.FormatLemmas.{reads_back}
use Rattle.lay_front.proofs.formatting.unparse.Goals as goal

pub returns-clause-reads : goal.returns-clause-reads
returns-clause-reads c = reads_back c.args.file.now c.text_of.result c.requires.written c.requires.depth c.text_of.ensures
