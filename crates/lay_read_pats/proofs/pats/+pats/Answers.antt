use Rattle.std.proofs.Common.{◌-◌, arith}
use Rattle.lay_node.specs.reader.Patterns.{single_at, single_by}
use Rattle.lay_read_pats.specs.Answers.{pats_within}
use Rattle.lay_read_types.proofs.Steps.{found_by}
use Rattle.lay_read_pats.proofs.Steps.{single_deeper}
use Rattle.lay_read_pats.proofs.pats.+pats.Goals as goal

pub single_ahead-returns-clause-read : goal.single_ahead-returns-clause-read
single_ahead-returns-clause-read t c =
    let ts = c.args.at.now in
    found_by (single_at c.args.depth ts) (single_by (pats_within (c.args.depth - 1)) ts) c.single_by.result
    c.single_by.new.at (single_deeper c.args.depth ts (omega arith)) c.single_by.ensures.read
