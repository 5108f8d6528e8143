use Rattle.std.proofs.Common.{◌≡◌, ◌≤◌, ◌+◌}
use Rattle.lay_read_shared.specs.Code.{code_within}
use Rattle.lay_read_operators.specs.Answers.{climbed}
use Rattle.lay_read_operators.proofs.rules.ExprRules.climb.Given as goal

-- what the operators that are left make of what is read
abbrev pub invariant-loop-reached : goal.invariant-loop-reached
invariant-loop-reached g l = record {
  same : climbed (code_within l.self.depth) (l.self.depth + 1) l.place l.fn.from (l.fn.head.node, l.fn.head.need) l.fn.at
      ≡ climbed (code_within l.self.depth) (l.self.depth + 1) l.place l.reached (l.lhs.node, l.lhs.need) l.at;
  small : l.reached ≤ 14;
}

abbrev pub decreases-loop-reached : goal.decreases-loop-reached
decreases-loop-reached g l = l.reached
