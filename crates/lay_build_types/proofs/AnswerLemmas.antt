-- From what an inner call gives to what a call answers.
use Rattle.std.proofs.Common.{◌≡◌, ◌∙◌, ℕ, ◌≤◌, Result, Ok, Err, IfOk, sym, ap, subst}
use Rattle.lay_form.specs.Depth.{least_depth}
use Rattle.lay_form.specs.Form.{Form}
use Rattle.lay_build_types.specs.Answers.{Answers, Gives, IsMade, IsPart, Makes}
use Rattle.lay_build_types.specs.declared.built.BuildError.{BuildError}
use Rattle.lay_build_types.specs.declared.built.BuildError.TheVariants as error

-- what is given is this part
abbrev pub Is : {N : Type 0} → N → ℕ → Result (N × ℕ) BuildError → Type 0
Is node need made = Gives made (λ part. part ≡ (node, need))

module _ {N : Type 0} (form : N → Form) (Holds : N → Type 0) (node : N) (need : ℕ) where
  -- it is a node with its need
  pub part_of : (made : Result (N × ℕ) BuildError) → Is node need made → need ≡ least_depth (form node) → IsMade form Holds node
      → IfOk made (IsPart form Holds)
  part_of (Ok part) is needed made = record {
    made = subst (IsMade form Holds) (sym (ap (λ (p : N × ℕ). p.0) is)) made;
    need = ap (λ (p : N × ℕ). p.1) is ∙ needed ∙ ap (λ (x : N). least_depth (form x)) (sym (ap (λ (p : N × ℕ). p.0) is));
  }
  part_of (Err why) is needed made = tt

  -- what is answered of it is answered of the node
  pub makes : (made : Result (N × ℕ) BuildError) (result : Result N BuildError) → Is node need made → Answers form made result
      → Makes form node result
  makes (Ok part) result is answers = subst (λ (x : N). Makes form x result) (ap (λ (p : N × ℕ). p.0) is) answers
  makes (Err why) (Ok built) is answers = cc
  makes (Err why) (Err e) is answers =
      let same : e ≡ why = cc in subst (λ (w : BuildError). Makes form node (Err w)) (sym (same ∙ is)) tt

-- Memory is wanting.
pub wants : {N : Type 0} (form : N → Form) (node : N) (why : BuildError) → why ≡ error.NoMemory → Makes form node (Err why)
wants {N} form node why is = subst (λ (w : BuildError). Makes form node (Err w)) (sym is) tt
