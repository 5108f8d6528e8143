use Rattle.std.proofs.Common.{[], map, take}
use Rattle.lay_out_types.specs.Calls.{Adds}
use Rattle.lay_out_pats.specs.PatternRows.{attr_line}
use Rattle.lay_out_types.specs.Rows.{row}
use Rattle.lay_out_pats.proofs.patterns.add_attrs.Given as goal

-- the attributes so far are put
abbrev pub invariant-loop-attr : goal.invariant-loop-attr
invariant-loop-attr g l =
    Adds g.E.Emit.meanings l.fn.before l.fn.out (row [] [] (map attr_line (take l.attr-index l.attrs))) l.done l.out
