use Rattle.std.proofs.Common.{◌-◌, arith}
use Rattle.lay_node.specs.Begins.{lead_at}
use Rattle.lay_node.specs.reader.Types.{within, type_at, type_by, constraint_by}
use Rattle.lay_read_types.proofs.Steps.{type_none, asked_none, type_deeper, asked_deeper, found_by}
use Rattle.lay_read_types.proofs.knot.+types.Goals as goal

pub constraint_ahead-returns-then-depth-eq0-clause-read :
    goal.constraint_ahead-returns-then-depth-eq0-clause-read
constraint_ahead-returns-then-depth-eq0-clause-read t c = asked_none c.args.depth c.args.at.now (omega arith)

pub constraint_ahead-returns-clause-read : goal.constraint_ahead-returns-clause-read
constraint_ahead-returns-clause-read t c =
    let ts = c.args.at.now in
    found_by ((within c.args.depth).constraints ts) (constraint_by (within (c.args.depth - 1)) ts)
    c.constraint.result c.constraint.new.at (asked_deeper c.args.depth ts (omega arith)) c.constraint.ensures.read

pub type_ahead-returns-then-depth-eq0-clause-read : goal.type_ahead-returns-then-depth-eq0-clause-read
type_ahead-returns-then-depth-eq0-clause-read t c = type_none c.args.place c.args.depth c.args.at.now (omega arith)

pub type_ahead-returns-clause-read : goal.type_ahead-returns-clause-read
type_ahead-returns-clause-read t c =
    let ts = c.args.at.now in
    found_by (type_at c.args.place c.args.depth ts)
    (type_by (within (c.args.depth - 1)) c.args.place (lead_at ts) ts) c.type_by.result c.type_by.new.at
    (type_deeper c.args.place c.args.depth ts (omega arith)) c.type_by.ensures.read
