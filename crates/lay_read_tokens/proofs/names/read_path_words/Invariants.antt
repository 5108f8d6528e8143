use Rattle.std.proofs.Common.{length}
use Rattle.lay_node.specs.reader.Loops.{repeat_from}
use Rattle.lay_node.specs.reader.Words.{begins_path_word, path_word, path_words}
use Rattle.lay_read_tokens.proofs.Turns.{Turn}
use Rattle.lay_read_tokens.proofs.names.read_path_words.Given as goal

abbrev pub invariant-loop-alloc : goal.invariant-loop-alloc
invariant-loop-alloc l = Turn (repeat_from begins_path_word path_word) (path_words l.fn.at) l.words l.at

abbrev pub decreases-loop-alloc : goal.decreases-loop-alloc
decreases-loop-alloc l = length l.at
