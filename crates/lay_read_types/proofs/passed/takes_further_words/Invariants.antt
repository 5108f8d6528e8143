use Rattle.std.proofs.Common.{List, length}
use Rattle.lay_node.specs.reader.Loops.{repeat_from, repeat}
use Rattle.lay_node.specs.reader.SimplePath.{begins_colons, further_word}
use Rattle.lay_node.specs.declared.token.Word.{Word}
use Rattle.lay_read_tokens.proofs.Turns.{Turn}
use Rattle.lay_read_types.proofs.passed.takes_further_words.Given as goal

abbrev pub invariant-loop-at : goal.invariant-loop-at
invariant-loop-at l = (more : List Word) × Turn (repeat_from begins_colons further_word) (repeat begins_colons further_word l.fn.at) more l.at

abbrev pub decreases-loop-at : goal.decreases-loop-at
decreases-loop-at l = length l.at
