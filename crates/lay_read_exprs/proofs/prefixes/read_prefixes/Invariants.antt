use Rattle.std.proofs.Common.{length, is_some}
use Rattle.lay_node.specs.reader.Loops.{repeat_from, repeat}
use Rattle.lay_code.specs.Operators.{prefix}
use Rattle.lay_code.specs.reader.Exprs.{one_prefix}
use Rattle.lay_read_tokens.proofs.Turns.{Turn}
use Rattle.lay_read_exprs.proofs.prefixes.read_prefixes.Given as goal

abbrev pub invariant-loop-one : goal.invariant-loop-one
invariant-loop-one l = Turn (repeat_from (λ us. is_some (prefix us)) one_prefix)
    (repeat (λ us. is_some (prefix us)) one_prefix l.fn.at) l.prefixes l.at

abbrev pub decreases-loop-one : goal.decreases-loop-one
decreases-loop-one l = length l.at
