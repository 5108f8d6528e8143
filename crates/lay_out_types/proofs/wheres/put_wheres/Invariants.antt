use Rattle.std.proofs.Common.{map, take, Ok}
use Rattle.lay_node.specs.nodes.Where.{predicate_form}
use Rattle.lay_out_types.specs.Calls.{Adds}
use Rattle.lay_out_types.specs.Rows.{comma_between, row, wheres_opened}
use Rattle.lay_out_types.proofs.wheres.put_wheres.Given as goal

-- the predicates so far are put
abbrev pub invariant-loop-index : goal.invariant-loop-index
invariant-loop-index g l =
    Adds g.E.Emit.meanings (Ok tt) l.fn.out
    (row wheres_opened comma_between (map predicate_form (take l.index l.predicates))) l.done l.out
