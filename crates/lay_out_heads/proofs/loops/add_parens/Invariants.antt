use Rattle.std.proofs.Common.{map, codes, take}
use Rattle.lay_out_types.specs.Calls.{Adds}
use Rattle.lay_out_types.specs.Rows.{comma_between, list_opened, row}
use Rattle.lay_out_heads.proofs.loops.add_parens.Given as goal

-- the parts so far are put
abbrev pub invariant-loop-index : goal.invariant-loop-index
invariant-loop-index g l =
    Adds g.E.Emit.meanings l.fn.before l.fn.out
    (row (list_opened (codes "(")) comma_between (map g.P.Part.form (take l.index l.parts))) l.done l.out
