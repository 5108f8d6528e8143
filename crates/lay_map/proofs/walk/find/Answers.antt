use Rattle.lay_map.specs.Ahead.{tokens_of}
use Rattle.lay_map.proofs.WalkLemmas.{found}
use Rattle.lay_map.proofs.walk.find.Goals as goal

pub returns-then-is_sought : goal.returns-then-is_sought
returns-then-is_sought c =
    found c.args.sought (tokens_of c.args.ahead.now) (tokens_of c.loop-lexeme.ahead) (tokens_of c.next.new.self) c.args.braces.now c.loop-lexeme.braces
    c.in-Some.lexeme c.loop-lexeme.invariant c.in-Some.ensures c.if-is_sought.ensures
