-- How a run that sums up a sample comes out: from the sample's bytes to the status.
use Rattle.std.proofs.Common.{◌≡◌, ◌⊎◌, inl, inr, ℕ, List, [], ◌++◌, Option, refl, ap, sym, ◌∙◌, subst, append_assoc}
use Rattle.std.specs.Fmt.{decimal}
use Rattle.lay_io.specs.Faults.{Rose}
use Rattle.lay_io.specs.Told.{GrewBy}
use Rattle.lay_text.specs.declared.refusal.Refusal.{Refusal}
use Rattle.lay_code.specs.Out.{out}
use Rattle.lay_code.specs.Reading.{Reads, IsRefused, top}
use Rattle.lay_code.specs.declared.file.File.{File}
use Rattle.lay_reparse.proofs.file.OneAnswer.{one_refusal, never_both}
use Rattle.lay_front.specs.Outcome.{SampleRun}
use Rattle.lay_front.specs.Summary.{summary}
use Rattle.lay_front.specs.declared.command.Status.{Status}
use Rattle.lay_front.specs.declared.command.Status.TheVariants.{Done, Differs, Usage, ReadFailed, Refused, WriteFailed, TooLong, NoMemory}

module _ {K : Type 0} (written : K → Option (List ℕ)) (writes : K → ℕ) (items : ℕ) (bytes : List ℕ) (k l : K) where
  pub sample_done : (status : Status) (file : File) → SampleRun written writes items bytes k l status
      → (Rose (writes k) (writes l) → ⊥) → Reads bytes file
      → ((status ≡ Done) × GrewBy (written k) (written l) (summary items bytes (out file))) ⊎ (status ≡ NoMemory)
  sample_done Done file h no_write r =
      inl (refl, subst (λ (f : File). GrewBy (written k) (written l) (summary items bytes (out f))) (sym (h.reads.only file r)) h.grew)
  sample_done Differs file h no_write r = absurd h
  sample_done Usage file h no_write r = absurd h
  sample_done ReadFailed file h no_write r = absurd h
  sample_done (Refused refusal) file h no_write r = absurd (never_both bytes file refusal r h.0)
  sample_done WriteFailed file h no_write r = absurd (no_write h.0)
  sample_done TooLong file h no_write r = absurd h
  sample_done NoMemory file h no_write r = inr refl

  pub sample_refused : (status : Status) (refusal : Refusal) → SampleRun written writes items bytes k l status
      → IsRefused bytes refusal → (status ≡ Refused refusal) ⊎ (status ≡ NoMemory)
  sample_refused Done refusal h r = absurd (never_both bytes h.file refusal h.reads.reads r)
  sample_refused Differs refusal h r = absurd h
  sample_refused Usage refusal h r = absurd h
  sample_refused ReadFailed refusal h r = absurd h
  sample_refused (Refused other) refusal h r = inl (ap Refused (one_refusal top bytes other refusal h.0 r))
  sample_refused WriteFailed refusal h r = absurd (never_both bytes h.1.file refusal h.1.reads.reads r)
  sample_refused TooLong refusal h r = absurd h
  sample_refused NoMemory refusal h r = inr refl

-- ---- the line

-- pieces that are added after a text are added one after the other
behind : (x p d y : List ℕ) → (x ++ (p ++ d)) ++ y ≡ x ++ (p ++ (d ++ y))
behind x p d y = append_assoc x (p ++ d) y ∙ ap (λ (z : List ℕ). x ++ z) (append_assoc p d y)

-- A text to which one more piece was added, with a number after it, before what follows.
added : (x now p y : List ℕ) (n m : ℕ) → now ≡ x ++ (p ++ decimal n) → n ≡ m → now ++ y ≡ x ++ (p ++ (decimal m ++ y))
added x now p y n m e same =
    ap (λ (z : List ℕ). z ++ y) (e ∙ ap (λ (k : ℕ). x ++ (p ++ decimal k)) same) ∙ behind x p (decimal m) y

-- A line of five pieces, each with a number after it, and an end.
pub five : (x a b c d f now p q r s t y : List ℕ) (i j k l m u v w g h : ℕ) → x ≡ []
    → a ≡ x ++ (p ++ decimal i) → i ≡ u → b ≡ a ++ (q ++ decimal j) → j ≡ v → c ≡ b ++ (r ++ decimal k) → k ≡ w
    → d ≡ c ++ (s ++ decimal l) → l ≡ g → f ≡ d ++ (t ++ decimal m) → m ≡ h → now ≡ f ++ y
    → now ≡ p ++ (decimal u ++ (q ++ (decimal v ++ (r ++ (decimal w ++ (s ++ (decimal g ++ (t ++ (decimal h ++ y)))))))))
five x a b c d f now p q r s t y i j k l m u v w g h none e1 s1 e2 s2 e3 s3 e4 s4 e5 s5 e =
    e ∙ added d f t y m h e5 s5 ∙ added c d s _ l g e4 s4 ∙ added b c r _ k w e3 s3 ∙ added a b q _ j v e2 s2
    ∙ added x a p _ i u e1 s1 ∙ ap (λ (z : List ℕ). z ++ (p ++ (decimal u ++ (q ++ (decimal v ++ (r ++ (decimal w ++ (s ++ (decimal g ++ (t ++ (decimal h ++ y))))))))))) none
