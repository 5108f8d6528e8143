use Rattle.std.proofs.Common.{[], ◌∷◌, map, codes, take}
use Rattle.lay_layout.specs.declared.layout.Tok.TheVariants as tok
use Rattle.lay_node.specs.nodes.Types.{lifetime_form}
use Rattle.lay_out_types.specs.Calls.{Adds}
use Rattle.lay_out_types.specs.Rows.{row}
use Rattle.lay_out_types.proofs.parts.add_outlived.Given as goal

-- the lifetimes so far are put
abbrev pub invariant-loop-index : goal.invariant-loop-index
invariant-loop-index g l =
    Adds g.E.Emit.meanings l.fn.before l.fn.out
    (row (tok.Text (codes ": ") ∷ []) (tok.Text (codes " + ") ∷ []) (map lifetime_form (take l.index l.lifetimes)))
    l.done l.out
