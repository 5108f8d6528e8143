-- Branches are parsed where they are spelled, if that holds one level deeper.
use Rattle.std.proofs.Common.{◌≡◌, ℕ, max, true, ◌∷◌, [], Some, inl, refl, subst, arith}
use Rattle.std.proofs.lemmas.Bool.{and_parts}
use Rattle.lay_piece.specs.Forms.{opening}
use Rattle.lay_piece.specs.declared.kind.Delim.TheVariants.{Brace}
use Rattle.lay_piece.specs.declared.kind.Kind.TheVariants.{Opener}
use Rattle.lay_form.specs.Spelled.{IsOne, Spells}
use Rattle.lay_node.specs.Ahead.{Tokens}
use Rattle.lay_node.proofs.reader.Exact.{IsRead}
use Rattle.lay_code.specs.nodes.Code.{about_block, about_branch, about_condition, about_expr}
use Rattle.lay_code.specs.nodes.CodeFacts.{BranchFacts}
use Rattle.lay_code.specs.nodes.Exprs.{placed}
use Rattle.lay_code.specs.nodes.Places.{plain}
use Rattle.lay_code.specs.reader.Blocks.{block_by, branch_by}
use Rattle.lay_code.specs.reader.Conditions.{condition_by}
use Rattle.lay_code.specs.reader.Within.{ExprWithin}
use Rattle.lay_code.specs.declared.blocks.Branch.{Branch}
use Rattle.lay_code.specs.declared.exprs.Expr.{Expr}
use Rattle.lay_code.proofs.nodes.BlocksLaws.{branch_is}
use Rattle.lay_code.proofs.reader.BlockReads.{Fronts}
use Rattle.lay_code.proofs.reader.BlocksComplete.{soft_at, block_read}
use Rattle.lay_code.proofs.reader.ConditionsComplete.{condition_read}
use Rattle.lay_code.proofs.reader.ExprQuiet.{ends_follow, brace_ends_expr}
use Rattle.lay_code.proofs.reader.ExprReads.{ExprReads}

module _ (fronts : Fronts) (depth : ℕ) (within : ExprWithin) (reads : ExprReads depth within) where
  -- an expression before a `{`, where no struct literal may stand
  pub before_block : (level : ℕ) (x : Expr) (ts rest inside : Tokens) → Spells (about_expr x).form depth ts rest → placed (about_expr x) (plain level true) ≡ true
      → IsOne (Opener Brace) (opening Brace ∷ []) rest inside → IsRead depth (within.exprs (plain level true)) x ts rest
  before_block level x ts rest inside s g o =
      reads.exprs (plain level true) x ts rest s g (inl (ends_follow (about_expr x) (plain level true) rest (brace_ends_expr rest inside o)))

  -- ---- a branch, after its `if`

  branch_made : (b : Branch) (m n : ℕ) (ts mid rest : Tokens) → condition_by within ts ≡ Some ((b.condition, m), mid)
      → block_by within mid ≡ Some ((b.body, n), rest) → branch_by within ts ≡ Some ((b, max m n), rest)
  unfolding branch_by
  branch_made b m n ts mid rest c h = rw (c, h) refl

  pub branch_read : (b : Branch) (ts mid rest : Tokens) → Spells (about_branch b).condition depth ts mid → Spells (about_branch b).soft depth mid rest
      → (about_branch b).good ≡ true → IsRead depth (branch_by within) b ts rest
  branch_read b ts mid rest s t g =
      let condition = subst (λ (F : BranchFacts). Spells F.condition depth ts mid) (branch_is b) s in
      let soft = subst (λ (F : BranchFacts). Spells F.soft depth mid rest) (branch_is b) t in
      let good = subst (λ (F : BranchFacts). F.good ≡ true) (branch_is b) g in
      let goods = and_parts (about_condition b.condition).good (about_block b.body).good good in
      let body = soft_at b.body depth mid rest soft in
      let c = condition_read depth within reads b.condition ts mid body.inside condition goods.0 body.opened in
      let r = block_read fronts depth within reads b.body mid rest body goods.1 in
      (max c.0 r.0, omega (arith, c.1, r.1), branch_made b c.0 r.0 ts mid rest c.2 r.2)
