use Rattle.std.proofs.Common.{map, codes, take}
use Rattle.lay_node.specs.nodes.Types.{capture_form}
use Rattle.lay_out_types.specs.Calls.{Adds}
use Rattle.lay_out_types.specs.Rows.{comma_between, list_opened, row}
use Rattle.lay_out_types.proofs.parts.add_captures.Given as goal

-- what is captured so far is put
abbrev pub invariant-loop-index : goal.invariant-loop-index
invariant-loop-index g l =
    Adds g.E.Emit.meanings l.fn.before l.fn.out
    (row (list_opened (codes "<")) comma_between (map capture_form (take l.index l.captured))) l.done l.out
