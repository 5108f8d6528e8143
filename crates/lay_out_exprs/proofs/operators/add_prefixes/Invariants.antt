use Rattle.std.proofs.Common.{drop}
use Rattle.lay_out_exprs.specs.Parts.{prefix_texts}
use Rattle.lay_out_exprs.proofs.Turns.{SoFar}
use Rattle.lay_out_exprs.proofs.operators.add_prefixes.Given as goal

abbrev pub invariant-loop-prefix : goal.invariant-loop-prefix
invariant-loop-prefix g l =
    SoFar g.E.Emit.meanings l.fn.before l.fn.out (prefix_texts (drop l.prefix-index l.prefixes)) (prefix_texts l.prefixes)
    l.done l.out
