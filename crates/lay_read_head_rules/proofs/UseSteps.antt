-- One step of a reader of use trees, from what the readers within it give.
use Rattle.std.proofs.Common.{◌≡◌, ℕ, suc, ◌+◌, ◌-◌, ◌<◌, add-one, Bool, true, false, List, drop, codes, Some, None, refl, ◌∙◌, ap, if◌then◌else◌, arith}
use Rattle.lay_token.specs.Operators.{is_op}
use Rattle.lay_piece.specs.declared.kind.Delim.TheVariants.{Brace}
use Rattle.lay_node.specs.Ahead.{Tokens, closes}
use Rattle.lay_node.specs.reader.Loops.{Read, ◌>>=◌, nodes, deepest, elements}
use Rattle.lay_node.specs.reader.Use.{use_group, use_end_by, ended, use_at}
use Rattle.lay_node.specs.reader.Words.{path_words}
use Rattle.lay_node.specs.declared.token.Word.{Word}
use Rattle.lay_node.specs.declared.use_tree.UseEnd.{UseEnd}
use Rattle.lay_node.specs.declared.use_tree.UseEnd.TheVariants as use_end
use Rattle.lay_node.specs.declared.use_tree.UseTree.{UseTree}

-- ---- the beginning

-- what is read after the `::`, if one comes next
behind_colons : {A : Type 0} (f : Bool → Tokens → A) (b : Bool) (ts : Tokens) (flag : Bool) (mid : Tokens)
    → flag ≡ b → mid ≡ (if flag then drop 2 ts else ts)
    → (let pair : Bool × Tokens = if b then (true, drop 2 ts) else (false, ts) in f pair.0 pair.1) ≡ f flag mid
behind_colons f true ts flag mid e g = let h : mid ≡ drop 2 ts = g ∙ rw e refl in rw (e, h) refl
behind_colons f false ts flag mid e g = let h : mid ≡ ts = g ∙ rw e refl in rw (e, h) refl

-- ---- use trees

module _ (within : Tokens → Read UseTree) (ts : Tokens) where
  pub group_none : elements (closes Brace) within ts ≡ None → use_group within ts ≡ None
  group_none h = rw h refl

  pub group_some : (read : List (UseTree × ℕ)) (trees : List UseTree) (need : ℕ) (rest : Tokens)
      → elements (closes Brace) within ts ≡ Some (read, rest)
      → nodes read ≡ trees → deepest read ≡ need → use_group within ts ≡ Some ((use_end.Group trees, need), rest)
  group_some read trees need rest h e d = rw (h, e, d) refl

-- ---- depths

pub deeper : {X : Type 0} (f : ℕ → X) (n : ℕ) → 0 < n → f n ≡ f (suc (n - 1))
deeper f n some = let e : n ≡ suc (n - 1) = omega arith in ap f e

-- what a use tree is, after the `::` that it may begin with
abbrev use_behind : (Tokens → Read UseTree) → Bool → Tokens → Read UseTree
use_behind within flag mid =
    path_words mid >>= (λ p. use_end_by within p.1 >>= (λ end. ended
    (record { global = flag; path = p.0; end = end.0.0 }, suc end.0.1) end.1))

module _ (depth : ℕ) (ts : Tokens) (flag : Bool) (mid : Tokens) (some : 0 < depth) (e : flag ≡ is_op (codes "::") ts)
    (g : mid ≡ (if flag then drop 2 ts else ts)) where
  use_step : use_at depth ts ≡ use_behind (use_at (depth - 1)) flag mid
  unfolding use_at
  use_step =
      deeper (λ n. use_at n ts) depth some ∙ behind_colons (use_behind (use_at (depth - 1))) (is_op (codes "::") ts)
      ts flag mid e g

  module _ (words : List Word) (behind : Tokens) (p : path_words mid ≡ Some (words, behind)) where
    pub use_none : use_end_by (use_at (depth - 1)) behind ≡ None → use_at depth ts ≡ None
    use_none h = use_step ∙ rw (p, h) refl

    pub use_goes_on : (end : UseEnd) (need : ℕ) (rest : Tokens)
        → use_end_by (use_at (depth - 1)) behind ≡ Some ((end, need), rest) → is_op (codes "::") rest ≡ true
        → use_at depth ts ≡ None
    use_goes_on end need rest h c = use_step ∙ rw (p, h, c) refl

    pub use_some : (end : UseEnd) (need : ℕ) (rest : Tokens)
        → use_end_by (use_at (depth - 1)) behind ≡ Some ((end, need), rest) → is_op (codes "::") rest ≡ false
        → use_at depth ts ≡ Some ((record { global = flag; path = words; end = end }, need + 1), rest)
    use_some end need rest h c = use_step ∙ rw (p, h, c, add-one) refl
