use Rattle.lay_lex.specs.Source.{seen}
use Rattle.lay_code.proofs.GoodShebang.{source_good}
use Rattle.lay_files.proofs.ReadingLemmas.{read_by_windows, unread}
use Rattle.lay_files.proofs.reading.read_within.Goals as goal

pub read_tokens-requires-clause-good : goal.read_tokens-requires-clause-good
read_tokens-requires-clause-good c = source_good c.args.bytes.now (seen c.in-Ok.source) c.in-Ok.ensures.answer

pub returns-in-Err : goal.returns-in-Err
returns-in-Err c = unread c.args.depth c.args.bytes.now c.in-Err.error c.placed.result c.in-Err.ensures.answer c.placed.ensures

pub returns-in-Ok-read_source : goal.returns-in-Ok-read_source
returns-in-Ok-read_source c =
    read_by_windows c.args.depth c.args.bytes.now (seen c.in-Ok.source) c.in-Ok-read_source.file c.in-Ok.ensures.answer
    (source_good c.args.bytes.now (seen c.in-Ok.source) c.in-Ok.ensures.answer) c.in-Ok-read_source.ensures

pub returns : goal.returns
returns c = c.read_tokens.ensures c.args.bytes.now c.in-Ok.ensures.answer
