-- The last one from here on is that from the start.
use Rattle.std.proofs.Common.{◌≡◌, drop}
use Rattle.lay_token.specs.declared.token.Token.{Token}
use Rattle.lay_lex.specs.one_by_one.Ahead.{Tells}
use Rattle.lay_map.specs.Ahead.{tokens_of}
use Rattle.lay_map.specs.Walks.{last_of}
use Rattle.lay_map.proofs.tokens.last_of.Given as goal

abbrev pub invariant-loop-left : goal.invariant-loop-left
invariant-loop-left l = record {
  last : (t : Token) → Tells l.fn.first t
      → (u : Token) × Tells l.last u × (last_of l.fn.more t (tokens_of l.fn.ahead) ≡ last_of l.left u (tokens_of l.ahead));
  behind : drop l.fn.more (tokens_of l.fn.ahead) ≡ drop l.left (tokens_of l.ahead);
}

abbrev pub decreases-loop-left : goal.decreases-loop-left
decreases-loop-left l = l.left
