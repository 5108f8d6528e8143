-- Those so far and those of the rest are all.
use Rattle.std.proofs.Common.{◌≡◌, ◌+◌, length}
use Rattle.lay_map.specs.spelling.Choice.{openers}
use Rattle.lay_map.specs.Ahead.{tokens_of}
use Rattle.lay_map.proofs.walk.count_openers.Given as goal

abbrev pub invariant-loop-lexeme : goal.invariant-loop-lexeme
invariant-loop-lexeme l = openers l.fn.loose (tokens_of l.fn.ahead) ≡ l.count + openers l.fn.loose (tokens_of l.rest)

abbrev pub decreases-loop-lexeme : goal.decreases-loop-lexeme
decreases-loop-lexeme l = length (tokens_of l.rest)
