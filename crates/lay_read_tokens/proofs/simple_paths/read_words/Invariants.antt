use Rattle.std.proofs.Common.{length}
use Rattle.lay_node.specs.reader.Loops.{repeat_from, repeat}
use Rattle.lay_node.specs.reader.SimplePath.{begins_colons, further_word}
use Rattle.lay_read_tokens.specs.Answers.{BeginWith}
use Rattle.lay_read_tokens.proofs.Turns.{Turn, Held}
use Rattle.lay_read_tokens.proofs.simple_paths.read_words.Given as goal

abbrev pub invariant-loop-alloc : goal.invariant-loop-alloc
invariant-loop-alloc l =
    Held (λ more. Turn (repeat_from begins_colons further_word) (repeat begins_colons further_word l.fn.at)
    more l.at) (λ more. BeginWith l.fn.first more l.words)

abbrev pub decreases-loop-alloc : goal.decreases-loop-alloc
decreases-loop-alloc l = length l.at
