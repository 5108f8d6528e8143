use Rattle.std.proofs.Common.{◌≡◌, reverse, drop}
use Rattle.lay_node.specs.tokens.Listing.{balances, is_balanced}
use Rattle.lay_node.proofs.tokens.are_balanced.Given as goal

-- The rest is balanced after what is open, where the whole is.
abbrev pub invariant-loop-token : goal.invariant-loop-token
invariant-loop-token l = balances (reverse l.open.items) (drop l.token-index l.tokens) ≡ is_balanced l.tokens
