use Rattle.std.proofs.Common.{◌≡◌, length, take}
use Rattle.lay_code.proofs.+drops.Given as goal

-- What is left of a list is a prefix of it.
abbrev pub invariant-drops::discard_arms-loop-node : goal.invariant-drops::discard_arms-loop-node
invariant-drops::discard_arms-loop-node l = l.left.items ≡ take (length l.left.items) l.fn.nodes

abbrev pub invariant-drops::discard_branches-loop-node : goal.invariant-drops::discard_branches-loop-node
invariant-drops::discard_branches-loop-node l = l.left.items ≡ take (length l.left.items) l.fn.nodes

abbrev pub invariant-drops::discard_exprs-loop-node : goal.invariant-drops::discard_exprs-loop-node
invariant-drops::discard_exprs-loop-node l = l.left.items ≡ take (length l.left.items) l.fn.nodes

abbrev pub invariant-drops::discard_fields-loop-node : goal.invariant-drops::discard_fields-loop-node
invariant-drops::discard_fields-loop-node l = l.left.items ≡ take (length l.left.items) l.fn.nodes

abbrev pub invariant-drops::discard_items-loop-node : goal.invariant-drops::discard_items-loop-node
invariant-drops::discard_items-loop-node l = l.left.items ≡ take (length l.left.items) l.fn.nodes

abbrev pub invariant-drops::discard_links-loop-node : goal.invariant-drops::discard_links-loop-node
invariant-drops::discard_links-loop-node l = l.left.items ≡ take (length l.left.items) l.fn.nodes

abbrev pub invariant-drops::discard_operands-loop-node : goal.invariant-drops::discard_operands-loop-node
invariant-drops::discard_operands-loop-node l = l.left.items ≡ take (length l.left.items) l.fn.nodes

abbrev pub invariant-drops::discard_steps-loop-node : goal.invariant-drops::discard_steps-loop-node
invariant-drops::discard_steps-loop-node l = l.left.items ≡ take (length l.left.items) l.fn.nodes

abbrev pub invariant-drops::discard_stmts-loop-node : goal.invariant-drops::discard_stmts-loop-node
invariant-drops::discard_stmts-loop-node l = l.left.items ≡ take (length l.left.items) l.fn.nodes

abbrev pub invariant-drops::discard_targets-loop-node : goal.invariant-drops::discard_targets-loop-node
invariant-drops::discard_targets-loop-node l = l.left.items ≡ take (length l.left.items) l.fn.nodes

-- Each turn takes one node out.
abbrev pub decreases-drops::discard_arms-loop-node : goal.decreases-drops::discard_arms-loop-node
decreases-drops::discard_arms-loop-node l = goal.left-drops::discard_arms-loop-node l

abbrev pub decreases-drops::discard_branches-loop-node : goal.decreases-drops::discard_branches-loop-node
decreases-drops::discard_branches-loop-node l = goal.left-drops::discard_branches-loop-node l

abbrev pub decreases-drops::discard_exprs-loop-node : goal.decreases-drops::discard_exprs-loop-node
decreases-drops::discard_exprs-loop-node l = goal.left-drops::discard_exprs-loop-node l

abbrev pub decreases-drops::discard_fields-loop-node : goal.decreases-drops::discard_fields-loop-node
decreases-drops::discard_fields-loop-node l = goal.left-drops::discard_fields-loop-node l

abbrev pub decreases-drops::discard_items-loop-node : goal.decreases-drops::discard_items-loop-node
decreases-drops::discard_items-loop-node l = goal.left-drops::discard_items-loop-node l

abbrev pub decreases-drops::discard_links-loop-node : goal.decreases-drops::discard_links-loop-node
decreases-drops::discard_links-loop-node l = goal.left-drops::discard_links-loop-node l

abbrev pub decreases-drops::discard_operands-loop-node : goal.decreases-drops::discard_operands-loop-node
decreases-drops::discard_operands-loop-node l = goal.left-drops::discard_operands-loop-node l

abbrev pub decreases-drops::discard_steps-loop-node : goal.decreases-drops::discard_steps-loop-node
decreases-drops::discard_steps-loop-node l = goal.left-drops::discard_steps-loop-node l

abbrev pub decreases-drops::discard_stmts-loop-node : goal.decreases-drops::discard_stmts-loop-node
decreases-drops::discard_stmts-loop-node l = goal.left-drops::discard_stmts-loop-node l

abbrev pub decreases-drops::discard_targets-loop-node : goal.decreases-drops::discard_targets-loop-node
decreases-drops::discard_targets-loop-node l = goal.left-drops::discard_targets-loop-node l
