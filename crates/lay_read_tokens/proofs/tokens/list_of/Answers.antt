use Rattle.std.proofs.Common.{List, ◌++◌, map, ap, ◌∙◌}
use Rattle.lay_node.specs.tokens.Listing.{as_listed, is_balanced}
use Rattle.lay_node.specs.declared.token.Listed.{Listed}
use Rattle.lay_node.proofs.token_lists.Balance.{balanced_listed}
use Rattle.lay_read_tokens.proofs.tokens.list_of.Goals as goal

pub new-requires : goal.new-requires
new-requires c =
    ap is_balanced (c.in_ok-add_tokens.ensures.0 ∙ ap (λ (us : List Listed). us ++ map as_listed c.args.tokens.now)
    c.in_ok-list.ensures.ok)
    ∙ balanced_listed c.args.tokens.now c.requires
