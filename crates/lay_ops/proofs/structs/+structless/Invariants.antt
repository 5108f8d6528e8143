use Rattle.std.proofs.Common.{◌≡◌, drop}
use Rattle.lay_ops.specs.Edges.{structless_operands, structless_targets}
use Rattle.lay_ops.proofs.structs.+structless.Given as goal

-- whether the rest hold none says whether all do
abbrev pub invariant-are_operands_structless-loop-operand : goal.invariant-are_operands_structless-loop-operand
invariant-are_operands_structless-loop-operand l = structless_operands (drop l.operand-index l.operands) ≡ structless_operands l.operands

abbrev pub invariant-are_targets_structless-loop-target : goal.invariant-are_targets_structless-loop-target
invariant-are_targets_structless-loop-target l = structless_targets (drop l.target-index l.targets) ≡ structless_targets l.targets
