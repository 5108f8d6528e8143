-- The texts so far are those of the items so far.
use Rattle.std.proofs.Common.{◌≡◌, map, take}
use Rattle.lay_items.specs.alone.Outputs.{item_text}
use Rattle.lay_items.proofs.printing.outputs_of.Given as goal

abbrev pub invariant-loop-item : goal.invariant-loop-item
invariant-loop-item l = l.outputs.items ≡ map item_text (take l.item-index l.items)
