-- What is taken from the end of a list is no deeper than the list.
use Rattle.std.proofs.Common.{◌≡◌, ℕ, zero, suc, ◌≤◌, List, [], ◌∷◌, ◌++◌, take, Option, Some, ap, subst, sym, ◌∙◌, arith}
use Rattle.std.specs.Option.{option_to_list}
use denote.Param.Weighed.{most}

module _ {X : Type 0} (weight : X → ℕ) where
  last_most : (before : List X) (x : X) → weight x ≤ most weight (before ++ x ∷ [])
  last_most [] x = omega arith
  last_most (y ∷ before) x = let h : weight x ≤ most weight (before ++ x ∷ []) = last_most before x in omega (arith, h)

  take_most : (n : ℕ) (xs : List X) → most weight (take n xs) ≤ most weight xs
  take_most zero xs = omega arith
  take_most (suc n) [] = omega arith
  take_most (suc n) (x ∷ xs) = let h : most weight (take n xs) ≤ most weight xs = take_most n xs in omega (arith, h)

  -- The list is what is left of the nodes, and this is the last of them.
  pub popped_under : (nodes left rest : List X) (n : ℕ) (popped : Option X) (x : X)
      → left ≡ take n nodes → left ≡ rest ++ option_to_list popped → popped ≡ Some x → weight x ≤ most weight nodes
  popped_under nodes left rest n popped x front last is =
      let here : left ≡ rest ++ x ∷ [] = last ∙ ap (λ o. rest ++ option_to_list o) is in
      let a : weight x ≤ most weight left = subst (λ xs. weight x ≤ most weight xs) (sym here) (last_most rest x) in
      let b : most weight left ≤ most weight nodes = subst (λ xs. most weight xs ≤ most weight nodes) (sym front) (take_most n nodes) in
      omega (arith, a, b)
