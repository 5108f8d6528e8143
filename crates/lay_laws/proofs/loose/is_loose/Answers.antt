use Rattle.std.proofs.Common.{refl, ◌∙◌}
use Rattle.lay_laws.proofs.WrittenLemmas.{loose_by_depth, loose_by_reading, loose_by_refusal}
use Rattle.lay_laws.proofs.loose.is_loose.Goals as goal

pub returns-then-depth-gt-DEPTH : goal.returns-then-depth-gt-DEPTH
returns-then-depth-gt-DEPTH c = loose_by_depth c.args.expr.now c.expr_depth-depth.result c.expr_depth-depth.ensures c.if-depth-gt-DEPTH.true

pub returns-in-Ok : goal.returns-in-Ok
returns-in-Ok c =
    loose_by_reading c.args.expr.now c.expr_depth-depth.result _ c.as_bytes.result.now c.expr_depth-depth.ensures
    c.if-depth-gt-DEPTH.false refl (c.as_bytes.ensures ∙ c.in_ok-text.ensures) c.in-Ok.read c.same_enclosed.result c.in-Ok.ensures
    c.same_enclosed.ensures

pub returns-in-Err-Refused : goal.returns-in-Err-Refused
returns-in-Err-Refused c =
    loose_by_refusal c.args.expr.now c.expr_depth-depth.result _ c.as_bytes.result.now c.expr_depth-depth.ensures
    c.if-depth-gt-DEPTH.false refl (c.as_bytes.ensures ∙ c.in_ok-text.ensures) _
    (rw c.in-Err-Refused.field-0-is at c.in-Err-Refused.ensures).0
