use Rattle.std.proofs.Common.{length}
use Rattle.lay_node.specs.reader.Attr.{begins_attr, attribute, attributes}
use Rattle.lay_node.specs.reader.Loops.{repeat_from}
use Rattle.lay_read_tokens.proofs.Turns.{Turn}
use Rattle.lay_read_tokens.proofs.attributes.attrs_ahead.Given as goal

abbrev pub invariant-loop-alloc : goal.invariant-loop-alloc
invariant-loop-alloc l =
    Turn (repeat_from (begins_attr l.inner) (attribute l.inner)) (attributes l.inner l.fn.at) l.attrs l.at

abbrev pub decreases-loop-alloc : goal.decreases-loop-alloc
decreases-loop-alloc l = length l.at
