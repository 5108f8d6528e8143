-- What follows the first token, by how many tokens stand before it.
use Rattle.std.proofs.Common.{◌≡◌, ◌&&◌, ◌||◌, [], ◌∷◌, codes, drop, refl}
use Rattle.lay_node.specs.Ahead.{Tokens, first, is_keyword, is_mark, tail}
use Rattle.lay_code.specs.Operands.{begins_closure}

pub closure_behind : (ts : Tokens)
    → (first (is_mark (codes "|")) (drop 1 ts) || (first (is_keyword (codes "move")) (drop 1 ts) && first (is_mark (codes "|")) (drop 2 ts)))
    ≡ begins_closure (tail ts)
closure_behind [] = refl
closure_behind (t ∷ []) = refl
closure_behind (t ∷ u ∷ ts) = refl
