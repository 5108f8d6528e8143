use Rattle.std.proofs.Common.{◌≡◌, drop}
use Rattle.lay_read_operators.proofs.operands.pass_tokens.Given as goal

-- this many tokens are passed
abbrev pub invariant-loop-passed : goal.invariant-loop-passed
invariant-loop-passed l = l.at ≡ drop l._passed l.fn.at
