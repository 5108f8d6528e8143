-- The test for UTF-8 and its definition agree.
use Rattle.std.proofs.Common.{◌∙◌}
use Rattle.std.specs.Str.{is_utf8}
use Rattle.std.proofs.lemmas.Bool.{false_from_ne_true}
use Rattle.std.proofs.lemmas.Str.{IsUtf8-from_is_utf8, is_utf8-from_IsUtf8}
use Rattle.lay_args.proofs.texts.text.Goals as goal

pub returns-in-Ok : goal.returns-in-Ok
returns-in-Ok c = (
  rw c.as_bytes.ensures at (is_utf8-from_IsUtf8 c.as_bytes.result.now c.in-Ok.ensures.cases.1),
  c.in-Ok.ensures.cases.0 ∙ c.as_bytes.ensures,
)

pub returns-in-Err : goal.returns-in-Err
returns-in-Err c = false_from_ne_true (is_utf8 c.args.word.now)
    (λ e. c.in-Err.ensures.cases.0 (rw c.as_bytes.ensures (IsUtf8-from_is_utf8 c.args.word.now e)))
