use Rattle.std.proofs.Common.{◌≡◌, ◌==◌, Bool, false, List, [], ◌∷◌, length, arith}
use Rattle.lay_stream.proofs.Calls.{last}
use Rattle.lay_node.specs.declared.token.Listed.{Listed}
use Rattle.lay_out_tokens.proofs.TokenFeeds.{full_group}
use Rattle.lay_out_tokens.proofs.tokens.put_enclosed.Goals as goal

not_empty : (ts : List Listed) (empty : Bool) → empty ≡ (length ts == 0) → empty ≡ false → length ts ≡ 0 → ⊥
not_empty [] empty e h k = let no : ⊥ = cc in no
not_empty (t ∷ ts) empty e h k = omega arith

pub returns : goal.returns
returns g c =
    last c.put_full_group.ensures
    (full_group (record { delim = c.args.delim; tokens = c.args.tokens.now }) _ c.as_slice-tokens.ensures.tokens
    c.as_slice-tokens.ensures.balanced
    (not_empty _ _ c.is_empty.ensures c.if-is_empty.false))
