use Rattle.std.proofs.Common.{◌≡◌, true, ◌++◌, map, take}
use Rattle.lay_node.specs.tokens.Listing.{as_listed}
use Rattle.lay_read_tokens.specs.Answers.{are_laid}
use Rattle.lay_read_tokens.proofs.tokens.add_tokens.Given as goal

abbrev pub invariant-loop-token : goal.invariant-loop-token
invariant-loop-token l = record {
  list : l.list ≡ l.fn.list ++ map as_listed (take l.token-index l.tokens);
  laid : are_laid (take l.token-index l.tokens) ≡ true;
}
