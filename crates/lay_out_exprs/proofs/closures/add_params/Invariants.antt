use Rattle.std.proofs.Common.{map, codes, take}
use Rattle.lay_code.specs.nodes.Exprs.{closure_param}
use Rattle.lay_out_types.specs.Calls.{Adds}
use Rattle.lay_out_types.specs.Rows.{comma_between, list_opened, row}
use Rattle.lay_out_exprs.proofs.closures.add_params.Given as goal

-- the parameters so far are put
abbrev pub invariant-loop-index : goal.invariant-loop-index
invariant-loop-index g l =
    Adds g.E.Emit.meanings l.fn.before l.fn.out
    (row (list_opened (codes "|")) comma_between (map closure_param (take l.index l.params))) l.done l.out
