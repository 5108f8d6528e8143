use Rattle.lay_code.specs.Reading.{top}
use Rattle.lay_files.proofs.ReadingLemmas.{refused_as}
use Rattle.lay_files.proofs.through.format_tokens.Goals as goal

pub returns-in-Err : goal.returns-in-Err
returns-in-Err c = λ bytes e. refused_as top bytes c.in-Err.error (c.in-Err.ensures bytes e)

pub returns-in-Ok-bytes_of : goal.returns-in-Ok-bytes_of
returns-in-Ok-bytes_of c = λ bytes e. (c.in-Ok.file, c.in-Ok.ensures bytes e, c.in-Ok-bytes_of.ensures)
