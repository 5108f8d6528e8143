use Rattle.std.proofs.Common.{List, [], sym, ◌∙◌, subst, append-nil}
use Rattle.std.proofs.lemmas.Str.{IsUtf8-drop}
use Rattle.lay_token.specs.Lexes.{Lexes}
use Rattle.lay_token.specs.declared.token.Token.{Token}
use Rattle.lay_lex.specs.Source.{seen}
use Rattle.lay_files.proofs.ReadingLemmas.{placed, read_as, read_no_file, unlexed, unnested}
use Rattle.lay_files.proofs.reading.read_tokens.Goals as goal

pub read_file-requires-clause-lexed : goal.read_file-requires-clause-lexed
read_file-requires-clause-lexed c =
    let nested = c.in-Ok-nest.ensures.answer.0 in
    let text = c.args.source.text in
    let start = c.args.source.start in
    record {
      bytes = text;
      start = start;
      before = [];
      after = [];
      utf8 = IsUtf8-drop text start c.requires.text c.requires.border;
      lexes =
          subst (λ (ts : List Token). Lexes text start ts)
          (sym nested ∙ sym (append-nil c.in-Ok-nest.nested)) c.in-Ok.ensures.answer;
    }

pub returns-in-Err : goal.returns-in-Err
returns-in-Err c = λ bytes e.
    placed c.args.depth bytes (seen c.args.source) c.in-Err.error c.placed.result e
    (unlexed c.args.depth bytes (seen c.args.source) c.in-Err.error e c.in-Err.ensures.answer)
    (rw c.as_slice.ensures at c.placed.ensures)

pub returns-in-Err-nest : goal.returns-in-Err-nest
returns-in-Err-nest c = λ bytes e.
    placed c.args.depth bytes (seen c.args.source) c.in-Err-nest.error c.placed-in-Err-nest.result e
    (unnested c.args.depth bytes (seen c.args.source) c.in-Ok.tokens c.in-Err-nest.error e
    c.in-Ok.ensures.answer c.in-Err-nest.ensures.answer)
    (rw c.as_slice-in-Err-nest.ensures at c.placed-in-Err-nest.ensures)

pub returns-in-Ok-read_file : goal.returns-in-Ok-read_file
returns-in-Ok-read_file c = λ bytes e.
    read_as c.args.depth bytes (seen c.args.source) c.in-Ok.tokens c.in-Ok-nest.nested c.in-Ok-read_file.file
    e c.in-Ok.ensures.answer c.in-Ok-nest.ensures.answer.0 c.in-Ok-nest.ensures.answer.1 c.in-Ok-read_file.ensures

pub returns : goal.returns
returns c = λ bytes e.
    placed c.args.depth bytes (seen c.args.source) c.in-Err-read_file.error c.placed-in-Err-read_file.result e
    (read_no_file c.args.depth bytes (seen c.args.source) c.in-Ok.tokens c.in-Ok-nest.nested c.in-Err-read_file.error
    e c.in-Ok.ensures.answer c.in-Ok-nest.ensures.answer.0 c.in-Ok-nest.ensures.answer.1 c.in-Err-read_file.ensures)
    (rw c.as_slice-in-Err-read_file.ensures at c.placed-in-Err-read_file.ensures)
