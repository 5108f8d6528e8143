use Rattle.std.proofs.Common.{◌∙◌}
use Rattle.std.proofs.lemmas.Result.{err_from_is_err_and}
use Rattle.lay_read_shared.specs.alone.ArmFronts.{ArmFront, alone_arm}
use Rattle.lay_read_shared.proofs.alone_lemmas.ArmFronts.{arms_exact}
use Rattle.lay_read_parts.proofs.AtFront.{node_read, none_read}
use Rattle.lay_read_code.proofs.Alone.{arm_lifts}
use Rattle.lay_read_code.proofs.reads.read_arm.Goals as goal

pub returns-in_err-found : goal.returns-in_err-found
returns-in_err-found c =
    let p = err_from_is_err_and c.from_residual.result c.from_residual.ensures.1 in
    rw (p.1, p.2) (none_read alone_arm ArmFront arms_exact arm_lifts c.args.depth c.args.at.now c.requires
    c.new-ahead.result (c.new-ahead.ensures ∙ c.fork.ensures) c.in_err-found.field-0.0 c.in_err-found.ensures)

pub returns : goal.returns
returns c =
    let found = c.in_ok-found.found in
    rw c.into_cursor.ensures (node_read alone_arm ArmFront arms_exact arm_lifts c.args.depth c.args.at.now c.requires
    c.new-ahead.result (c.new-ahead.ensures ∙ c.fork.ensures) found.node found.need c.arm_ahead.new.at c.in_ok-found.ensures)
