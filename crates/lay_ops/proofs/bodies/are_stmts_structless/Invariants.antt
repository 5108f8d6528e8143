use Rattle.std.proofs.Common.{◌≡◌, drop}
use Rattle.lay_ops.specs.RootFacts.{structless_in}
use Rattle.lay_ops.proofs.bodies.are_stmts_structless.Given as goal

-- whether the rest hold none says whether all do
abbrev pub invariant-loop-stmt : goal.invariant-loop-stmt
invariant-loop-stmt l = structless_in (drop l.stmt-index l.stmts) ≡ structless_in l.stmts
