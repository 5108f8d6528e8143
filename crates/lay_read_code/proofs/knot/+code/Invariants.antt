use Rattle.std.proofs.Common.{◌+◌, ◌*◌, ◌≤◌, length}
use Rattle.lay_node.specs.Ahead.{more_items}
use Rattle.lay_node.specs.reader.Loops.{repeat_from}
use Rattle.lay_code.specs.reader.Code.{item_at}
use Rattle.lay_code.specs.reader.Item.{items_by}
use Rattle.lay_read_tokens.proofs.Turns.{Turn, Held}
use Rattle.lay_read_tokens.proofs.Holding.{Holding}
use Rattle.lay_read_code.proofs.knot.+code.Given as goal

abbrev pub decreases-expr_ahead : goal.decreases-expr_ahead
decreases-expr_ahead l = 4 * l.depth

abbrev pub decreases-block_ahead : goal.decreases-block_ahead
decreases-block_ahead l = 4 * l.depth

abbrev pub decreases-read_block_if : goal.decreases-read_block_if
decreases-read_block_if l = 4 * l.depth + 2

abbrev pub decreases-read_value_if : goal.decreases-read_value_if
decreases-read_value_if l = 4 * l.depth + 2

abbrev pub decreases-item_ahead : goal.decreases-item_ahead
decreases-item_ahead l = 4 * l.depth

abbrev pub decreases-read_items : goal.decreases-read_items
decreases-read_items l = 4 * l.depth + 1

abbrev pub decreases-read_body : goal.decreases-read_body
decreases-read_body l = 4 * l.depth + 2

abbrev pub decreases-read_kind : goal.decreases-read_kind
decreases-read_kind l = 4 * l.depth + 3

abbrev pub invariant-read_items-loop-alloc : goal.invariant-read_items-loop-alloc
invariant-read_items-loop-alloc l = record {
  held : Held (λ read. Turn (repeat_from more_items (item_at l.site l.depth)) (items_by (item_at l.site l.depth) l.fn.at) read
      l.at) (Holding l.items l.need);
  within : l.need ≤ l.depth;
}

abbrev pub decreases-read_items-loop-alloc : goal.decreases-read_items-loop-alloc
decreases-read_items-loop-alloc l = length l.at
