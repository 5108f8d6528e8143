use Rattle.std.proofs.Common.{◌≡◌, ◌-◌, ap, arith}
use Rattle.lay_read_shared.specs.alone.ArmFronts.{alone_arm}
use Rattle.lay_read_types.proofs.Steps.{found_by}
use Rattle.lay_read_shared.specs.Code.{code_within}
use Rattle.lay_read_blocks.specs.Answers.{deeper_arm}
use Rattle.lay_read_code.proofs.Steps.{arm_alone_is}
use Rattle.lay_read_code.proofs.reads.arm_ahead.Goals as goal

pub returns-then-depth-eq0 : goal.returns-then-depth-eq0
returns-then-depth-eq0 c =
    let zero : c.args.depth ≡ 0 = omega arith in
    ap (λ d. alone_arm d c.args.at.now) zero

pub returns : goal.returns
returns c =
    let ts = c.args.at.now in
    let depth = c.args.depth in
    found_by (alone_arm depth ts) (deeper_arm (code_within (c.args.depth - 1)) (c.args.depth - 1) ts) c.deeper_arm.result
    c.deeper_arm.new.at (arm_alone_is depth ts (omega arith)) c.deeper_arm.ensures.read
