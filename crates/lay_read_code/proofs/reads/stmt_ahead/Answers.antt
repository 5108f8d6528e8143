use Rattle.std.proofs.Common.{◌≡◌, ◌-◌, ap, arith}
use Rattle.lay_read_shared.specs.alone.Fronts.{alone, stmt_alone}
use Rattle.lay_read_types.proofs.Steps.{found_by}
use Rattle.lay_read_shared.specs.Code.{code_within}
use Rattle.lay_read_blocks.specs.Answers.{deeper_stmt}
use Rattle.lay_read_code.proofs.Steps.{stmt_alone_is}
use Rattle.lay_read_code.proofs.reads.stmt_ahead.Goals as goal

pub returns-then-depth-eq0 : goal.returns-then-depth-eq0
returns-then-depth-eq0 c =
    let zero : c.args.depth ≡ 0 = omega arith in
    ap (λ d. alone stmt_alone d c.args.at.now) zero

pub returns : goal.returns
returns c =
    let ts = c.args.at.now in
    let depth = c.args.depth in
    found_by (alone stmt_alone depth ts) (deeper_stmt (code_within (c.args.depth - 1)) ts) c.deeper_stmt.result
    c.deeper_stmt.new.at (stmt_alone_is depth ts (omega arith)) c.deeper_stmt.ensures.read
