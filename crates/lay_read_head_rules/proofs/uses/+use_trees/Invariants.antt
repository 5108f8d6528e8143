use Rattle.std.proofs.Common.{◌+◌, ◌*◌, ◌≤◌, length}
use Rattle.lay_piece.specs.declared.kind.Delim.TheVariants.{Brace}
use Rattle.lay_node.specs.Ahead.{closes}
use Rattle.lay_node.specs.reader.Loops.{elements_from, elements}
use Rattle.lay_node.specs.reader.Use.{use_at}
use Rattle.lay_read_tokens.proofs.Turns.{Turn, Held}
use Rattle.lay_read_tokens.proofs.Holding.{Holding}
use Rattle.lay_read_head_rules.proofs.uses.+use_trees.Given as goal

abbrev pub decreases-read_group : goal.decreases-read_group
decreases-read_group l = 3 * l.depth + 1

abbrev pub decreases-use_ahead : goal.decreases-use_ahead
decreases-use_ahead l = 3 * l.depth

abbrev pub decreases-read_use_end : goal.decreases-read_use_end
decreases-read_use_end l = 3 * l.depth + 2

abbrev pub invariant-read_group-loop-alloc : goal.invariant-read_group-loop-alloc
invariant-read_group-loop-alloc l = record {
  held : Held (λ read. Turn (elements_from (closes Brace) (use_at l.depth))
      (elements (closes Brace) (use_at l.depth) l.fn.at) read l.at)
      (Holding l.trees l.need);
  within : l.need ≤ l.depth;
}

abbrev pub decreases-read_group-loop-alloc : goal.decreases-read_group-loop-alloc
decreases-read_group-loop-alloc l = length l.at
