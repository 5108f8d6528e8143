use Rattle.std.proofs.Common.{map, codes, take}
use Rattle.lay_out_types.specs.Calls.{Adds}
use Rattle.lay_out_types.specs.Rows.{comma_between, list_opened, row}
use Rattle.lay_out_heads.proofs.UseLemmas.{tree_form}
use Rattle.lay_out_heads.proofs.uses.+add_use.Given as goal

-- the use trees so far are put
abbrev pub invariant-add_trees-loop-index : goal.invariant-add_trees-loop-index
invariant-add_trees-loop-index g l =
    Adds g.E.Emit.meanings l.fn.before l.fn.out
    (row (list_opened (codes "{")) comma_between (map tree_form (take l.index l.trees))) l.done l.out
