-- Looking from here on is looking from the start.
use Rattle.std.proofs.Common.{◌≡◌, List, length}
use Rattle.lay_map.specs.Ahead.{tokens_of}
use Rattle.lay_map.specs.Walks.{sought_in}
use Rattle.lay_map.specs.declared.unit.Unit.{Unit}
use Rattle.lay_map.proofs.walk.find.Given as goal

abbrev pub invariant-loop-lexeme : goal.invariant-loop-lexeme
invariant-loop-lexeme l = (units : List Unit)
    → sought_in l.fn.sought (tokens_of l.fn.ahead) l.fn.braces units ≡ sought_in l.fn.sought (tokens_of l.ahead) l.braces units

abbrev pub decreases-loop-lexeme : goal.decreases-loop-lexeme
decreases-loop-lexeme l = length (tokens_of l.ahead)
