-- Heads by themselves at the beginning at a depth, from what is read of them one level deeper.
use Rattle.std.proofs.Common.{◌≡◌, ℕ, suc, ◌-◌, ◌<◌, ◌≤◌, Bool, Some, None, Ok, Err, refl, ap, ◌∙◌, arith}
use Rattle.lay_node.specs.Ahead.{Tokens}
use Rattle.lay_node.specs.nodes.Facts.{Told, ToldFront, by_itself}
use Rattle.lay_node.specs.nodes.Heads.{TraitHeadFront, about_trait_head}
use Rattle.lay_node.specs.reader.Exact.{Exact}
use Rattle.lay_node.specs.reader.Functions.{head_at, insides}
use Rattle.lay_node.specs.reader.Loops.{Read}
use Rattle.lay_node.specs.reader.Patterns.{PatWithin}
use Rattle.lay_node.specs.declared.heads.TraitHead.{TraitHead}
use Rattle.lay_read_tokens.specs.Answers.{AreLexed, Stopped}
use Rattle.lay_read_tokens.specs.declared.stop.ReadNone.{ReadNone}
use Rattle.lay_read_tokens.specs.declared.stop.ReadNone.TheVariants.{NoReading, NoMemory}
use Rattle.lay_read_parts.specs.Answers.{IsReadAt}
use Rattle.lay_read_parts.proofs.AtFront.{front_deeper, node_read, none_read}

-- ---- over what is one level deeper

module _ {A : Type 0} (one : PatWithin → Tokens → Read A) (depth : ℕ) (ts : Tokens) where
  nowhere : depth ≡ 0 → head_at one depth ts ≡ None
  nowhere e = ap (λ d. head_at one d ts) e

  deeper_one : 0 < depth → head_at one depth ts ≡ head_at one (suc (depth - 1)) ts
  deeper_one some = let e : depth ≡ suc (depth - 1) = omega arith in ap (λ d. head_at one d ts) e

  stopped : 0 < depth → (none : ReadNone) → Stopped (one (insides (depth - 1)) ts) none → Stopped (head_at one depth ts) none
  stopped some NoReading h = deeper_one some ∙ rw h refl
  stopped some NoMemory h = tt

  found : 0 < depth → (x : A) (need : ℕ) (rest : Tokens) → one (insides (depth - 1)) ts ≡ Some ((x, need), rest)
      → head_at one depth ts ≡ Some ((x, suc need), rest)
  found some x need rest h = deeper_one some ∙ rw h refl

-- ---- at the beginning

module _ {A : Type 0} (about : A → Told) (one : PatWithin → Tokens → Read A)
    (exact : Exact (head_at one) (λ x. ToldFront (by_itself (about x)))) (depth : ℕ) (ts : Tokens) (l : AreLexed ts) where
  abbrev At : A → Tokens → ℕ → ℕ → Type 0
  At x = ToldFront (by_itself (about x))

  lift : (x : A) (us : Tokens) (n m d : ℕ) → m ≤ d → At x us n m → At x us n d
  lift x = front_deeper (by_itself (about x)).form (about x).good (about x).follows

  pub head_nowhere : depth ≡ 0 → IsReadAt depth At ts (Err NoReading) ts
  head_nowhere e = none_read (head_at one) At exact lift depth ts l ts refl NoReading (nowhere one depth ts e)

  module _ (some : 0 < depth) (fork : Tokens) (e : fork ≡ ts) where
    pub head_none : (none : ReadNone) → Stopped (one (insides (depth - 1)) fork) none → IsReadAt depth At ts (Err none) ts
    head_none none h = none_read (head_at one) At exact lift depth ts l fork e none (stopped one depth fork some none h)

    pub head_found : (x : A) (need : ℕ) (left : Tokens) → one (insides (depth - 1)) fork ≡ Some ((x, need), left)
        → IsReadAt depth At ts (Ok x) left
    head_found x need left h =
        node_read (head_at one) At exact lift depth ts l fork e x (suc need) left (found one depth fork some x need left h)

-- ---- heads that tell what they end in

module _ (depth : ℕ) (ts : Tokens) where
  abbrev Flagged : TraitHead × (Bool × Bool) → Tokens → ℕ → ℕ → Type 0
  Flagged x = ToldFront (by_itself (about_trait_head x))

  pub trait_found : (x : TraitHead × (Bool × Bool)) (left : Tokens) → IsReadAt depth Flagged ts (Ok x) left
      → IsReadAt depth TraitHeadFront ts (Ok x.0) left
  trait_found x left h = (
    (h.0.0, h.0.1, (x.1.0, x.1.1, h.0.2)),
    λ other rest o.
        let s = h.1 (other, (o.2.0, o.2.1)) rest (o.0, o.1, o.2.2) in (ap (λ (y : TraitHead × (Bool × Bool)). y.0) s.0, s.1),
  )

  pub trait_none : (none : ReadNone) (left : Tokens) → IsReadAt depth Flagged ts (Err none) left
      → IsReadAt depth TraitHeadFront ts (Err none) left
  trait_none NoReading left h = (h.0, λ node n f. h.1 (node, (f.0, f.1)) n f.2)
  trait_none NoMemory left h = h
