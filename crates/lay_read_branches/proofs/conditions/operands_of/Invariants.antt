use Rattle.std.proofs.Common.{◌≡◌, map}
use Rattle.lay_read_branches.specs.Answers.{and_operand}
use Rattle.lay_read_branches.proofs.conditions.operands_of.Given as goal

-- the operands of the links that are passed
abbrev pub invariant-loop-expr : goal.invariant-loop-expr
invariant-loop-expr l = l.operands ≡ map and_operand l.yielded
