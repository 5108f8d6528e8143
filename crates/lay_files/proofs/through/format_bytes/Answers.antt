use Rattle.lay_lex.specs.Source.{seen}
use Rattle.lay_code.proofs.GoodShebang.{source_good}
use Rattle.lay_code.specs.Reading.{top}
use Rattle.lay_files.specs.Readings.{behind_line}
use Rattle.lay_files.proofs.ReadingLemmas.{read_by_windows, refused_as, unread}
use Rattle.lay_files.proofs.through.format_bytes.Goals as goal

pub format_tokens-requires-clause-good : goal.format_tokens-requires-clause-good
format_tokens-requires-clause-good c = source_good c.args.bytes.now (seen c.in-Ok.source) c.in-Ok.ensures.answer

pub returns-in-Err : goal.returns-in-Err
returns-in-Err c =
    refused_as top c.args.bytes.now c.placed.result
    (unread top c.args.bytes.now c.in-Err.error c.placed.result c.in-Err.ensures.answer c.placed.ensures)

pub returns-in-Ok-format_source : goal.returns-in-Ok-format_source
returns-in-Ok-format_source c =
    let from = seen c.in-Ok.source in
    let f = c.in-Ok-format_source.ensures in (
      behind_line from.shebang f.file,
      read_by_windows top c.args.bytes.now from f.file c.in-Ok.ensures.answer (source_good c.args.bytes.now from c.in-Ok.ensures.answer) f.reads,
      f.same,
    )

pub returns-in-Err-NoReading : goal.returns-in-Err-NoReading
returns-in-Err-NoReading c = c.format_tokens.ensures c.args.bytes.now c.in-Ok.ensures.answer
