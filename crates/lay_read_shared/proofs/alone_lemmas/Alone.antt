-- Nodes with code within them, by themselves: they are read exactly where they stand.
use Rattle.std.proofs.Common.{◌≡◌, ℕ, zero, suc, ◌≤◌, true, drop, refl, arith}
use Rattle.lay_form.specs.Spelled.{Spells}
use Rattle.lay_node.specs.Ahead.{Tokens}
use Rattle.lay_node.specs.nodes.Facts.{Told, ToldFront, by_itself}
use Rattle.lay_node.specs.reader.Exact.{Exact}
use Rattle.lay_node.specs.reader.Loops.{Read}
use Rattle.lay_node.proofs.Steps.{bind_some, same_some}
use Rattle.lay_node.proofs.reader.Exact.{IsRead}
use Rattle.lay_node.proofs.reader.HeadsLevel.{Stood}
use Rattle.lay_node.proofs.reader.Loops.{SoundStep}
use Rattle.lay_node.proofs.reader.TypesCompleteKinds.{inner_of}
use Rattle.lay_node.proofs.reader.TypesSound.{counted_sound}
use Rattle.lay_node.proofs.reader.TypesSoundParts.{Out}
use Rattle.lay_code.specs.reader.Code.{code_in}
use Rattle.lay_code.specs.reader.Within.{ExprWithin}
use Rattle.lay_code.proofs.reader.CodeComplete.{code_reads}
use Rattle.lay_code.proofs.reader.CodeSound.{code_sound}
use Rattle.lay_code.proofs.reader.ExprReads.{ExprReads}
use Rattle.lay_code.proofs.reader.ExprSoundLevel.{SoundExprWithin}
use Rattle.lay_code.proofs.reader.FrontsHeld.{fronts}
use Rattle.lay_read_shared.specs.alone.Fronts.{alone}

-- What is read stands there, wherever what is within it is.
abbrev pub SoundNode : {A : Type 0} → (A → Told) → (ExprWithin → Tokens → Read A) → Type 0
SoundNode about one = (budget : ℕ) (within : ExprWithin) → SoundExprWithin budget within → SoundStep (one within) (Stood about budget)

-- What stands there is read, wherever what is within it is.
abbrev pub CompleteNode : {A : Type 0} → (A → Told) → (ExprWithin → Tokens → Read A) → Type 0
CompleteNode {A} about one = (depth : ℕ) (within : ExprWithin) → ExprReads depth within → (x : A) (ts rest : Tokens)
    → Spells (about x).form depth ts rest → (about x).good ≡ true → (about x).follows rest ≡ true → IsRead depth (one within) x ts rest

module _ {A : Type 0} (about : A → Told) (one : ExprWithin → Tokens → Read A) where
  alone_sound : SoundNode about one → (budget : ℕ) → SoundStep (alone one budget) (Stood (λ x. by_itself (about x)) budget)
  alone_sound sound zero ts x rest t h = absurd (cc)
  alone_sound sound (suc budget) ts x rest t h =
      let y = bind_some (one (code_in budget) ts) _ _ h in
      let s = sound budget (code_in budget) (code_sound budget) ts y.0.0 y.0.1 t y.1 in
      let k = s.0 in
      same_some (Out (Stood (λ x. by_itself (about x)) (suc budget)) ts) ((y.0.0.0, suc y.0.0.1), y.0.1) (x, rest) y.2
      ((omega (arith, k.0), (y.0.1, k.1, refl), k.2, k.3), s.1)

  alone_read : CompleteNode about one → (x : A) (depth budget : ℕ) → depth ≤ budget → (ts rest : Tokens)
      → Spells (by_itself (about x)).form depth ts rest → (about x).good ≡ true → (about x).follows rest ≡ true → IsRead depth (alone one budget) x ts rest
  alone_read complete x zero budget h ts rest s g f = absurd s
  alone_read complete x (suc depth) zero h ts rest s g f = absurd (omega arith)
  alone_read complete x (suc depth) (suc budget) h ts rest s g f =
      let reads = code_reads fronts budget depth (omega arith) in
      let r = complete depth (code_in budget) reads x ts rest (inner_of (about x).form depth ts rest s) g f in
      (suc r.0, omega (arith, r.1), rw r.2 refl)

  pub alone_exact : SoundNode about one → CompleteNode about one → Exact (alone one) (λ x. ToldFront (by_itself (about x)))
  alone_exact sound complete = record {
    sound = counted_sound (λ x. (by_itself (about x)).form) (λ x. (by_itself (about x)).good) (λ x. (by_itself (about x)).follows)
        (alone one) (alone_sound sound);
    complete = λ x ts n depth f budget h. alone_read complete x depth budget h ts (drop n ts) f.1 f.2 f.3;
  }
