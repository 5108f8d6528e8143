use Rattle.std.proofs.Common.{◌∙◌}
use Rattle.lay_laws.proofs.WrittenLemmas.{by_depth, by_reading, by_refusal}
use Rattle.lay_laws.proofs.written.is_written.Goals as goal

pub returns-then-depth-gt-DEPTH : goal.returns-then-depth-gt-DEPTH
returns-then-depth-gt-DEPTH c = by_depth c.args.file.now c.file_depth-depth.result c.file_depth-depth.ensures c.if-depth-gt-DEPTH.true

pub returns-in-Ok : goal.returns-in-Ok
returns-in-Ok c =
    by_reading c.args.file.now c.file_depth-depth.result c.as_bytes.result.now c.file_depth-depth.ensures c.if-depth-gt-DEPTH.false
    (c.as_bytes.ensures ∙ c.in_ok-text.ensures) c.in-Ok.read c.same.result c.in-Ok.ensures c.same.ensures

pub returns-in-Err-Refused : goal.returns-in-Err-Refused
returns-in-Err-Refused c =
    by_refusal c.args.file.now c.file_depth-depth.result c.as_bytes.result.now c.file_depth-depth.ensures c.if-depth-gt-DEPTH.false
    (c.as_bytes.ensures ∙ c.in_ok-text.ensures) _ (rw c.in-Err-Refused.field-0-is at c.in-Err-Refused.ensures).0
