-- One item more.
use Rattle.std.proofs.Common.{◌≡◌, ℕ, zero, suc, ◌+◌, List, ◌++◌, flat_map, ap, sym, ◌∙◌, append_assoc, append-nil, add-one, arith}
use Rattle.std.specs.List.{range_with_len}
use Rattle.lay_sample.specs.Sample.{item_at, line_of, sample_text, state_before, state_behind}

-- what is made of a range, and of the number after it
range_more : (f : ℕ → List ℕ) (a n j : ℕ) → a + n ≡ j
    → flat_map f (range_with_len a (suc n)) ≡ flat_map f (range_with_len a n) ++ f j
range_more f a zero j e = append-nil (f a) ∙ ap f (omega arith)
range_more f a (suc n) j e =
    ap (λ text. f a ++ text) (range_more f (a + 1) n j (omega arith))
    ∙ sym (append_assoc (f a) (flat_map f (range_with_len (a + 1) n)) (f j))

-- a sample of one item more ends in its line
pub sample_more : (seed i : ℕ)
    → sample_text seed (i + 1) ≡ sample_text seed i ++ line_of i (item_at (state_before seed i))
sample_more seed i =
    rw add-one (range_more (λ k. line_of k (item_at (state_before seed k))) 0 i i (omega arith))

-- the state before the item after is the one after the item
pub state_more : (seed i : ℕ) → state_before seed (i + 1) ≡ state_behind (state_before seed i)
state_more seed i = ap (state_before seed) (add-one i)
