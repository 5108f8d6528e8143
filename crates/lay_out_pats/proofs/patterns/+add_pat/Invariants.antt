use Rattle.std.proofs.Common.{[], ◌∷◌, false, map, pos, take}
use Rattle.lay_layout.specs.declared.layout.Tok.TheVariants as tok
use Rattle.lay_out_types.specs.Calls.{Adds}
use Rattle.lay_out_pats.specs.PatternRows.{bar_between, braces_opened, field_told, pat_told}
use Rattle.lay_out_types.specs.Rows.{comma_between, list_opened, row}
use Rattle.lay_out_pats.proofs.patterns.+add_pat.Given as goal

-- the elements so far are put
abbrev pub invariant-add_alternatives-loop-index : goal.invariant-add_alternatives-loop-index
invariant-add_alternatives-loop-index g l =
    Adds g.E.Emit.meanings l.fn.before l.fn.out
    (tok.Begin false (pos 0) ∷ row [] bar_between (map pat_told (take l.index l.alternatives))) l.done l.out

abbrev pub invariant-add_fields-loop-index : goal.invariant-add_fields-loop-index
invariant-add_fields-loop-index g l =
    Adds g.E.Emit.meanings l.fn.before l.fn.out
    (row braces_opened comma_between (map field_told (take l.index l.fields))) l.done l.out

abbrev pub invariant-add_pats-loop-index : goal.invariant-add_pats-loop-index
invariant-add_pats-loop-index g l =
    Adds g.E.Emit.meanings l.fn.before l.fn.out
    (row (list_opened l.opener) comma_between (map pat_told (take l.index l.pats))) l.done l.out
