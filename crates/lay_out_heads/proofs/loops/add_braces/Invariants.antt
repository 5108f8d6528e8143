use Rattle.std.proofs.Common.{map, take}
use Rattle.lay_out_types.specs.Calls.{Adds}
use Rattle.lay_out_types.specs.Rows.{row}
use Rattle.lay_out_heads.specs.FieldRows.{fields_between, fields_opened}
use Rattle.lay_out_heads.proofs.loops.add_braces.Given as goal

-- the parts so far are put
abbrev pub invariant-loop-index : goal.invariant-loop-index
invariant-loop-index g l =
    Adds g.E.Emit.meanings l.fn.before l.fn.out
    (row (fields_opened l.lead) fields_between (map g.P.Part.form (take l.index l.parts))) l.done l.out
