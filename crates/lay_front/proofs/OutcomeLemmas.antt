-- With no fault the outcome is the one that the bytes have.
use Rattle.std.proofs.Common.{◌≡◌, ◌<◌, ◌≤◌, ◌⊎◌, inl, inr, ℕ, List, length, Option, Some, Result, Ok, Err, refl, sym, ap, subst, IfSome, IsOk, arith}
use Rattle.lay_io.specs.Told.{TellsAs, GrewBy}
use Rattle.lay_io.specs.Faults.{Rose}
use Rattle.lay_io.specs.declared.outside.Which.{Which}
use Rattle.lay_text.specs.declared.refusal.Refusal.{Refusal}
use Rattle.lay_code.specs.Out.{out}
use Rattle.lay_code.specs.Reading.{Reads, IsRefused, top}
use Rattle.lay_code.specs.declared.file.File.{File}
use Rattle.lay_reparse.proofs.file.OneAnswer.{one_file, one_refusal, never_both}
use Rattle.lay_reparse.proofs.file.Reparse.{again}
use Rattle.lay_files.specs.Readings.{ReadsOnlyTo}
use Rattle.lay_front.specs.Outcome.{Wrote, Formats, FormatRun}
use Rattle.lay_front.specs.declared.formatting.IntoError.{IntoError}
use Rattle.lay_front.specs.declared.formatting.IntoError.TheVariants as into
use Rattle.lay_front.specs.declared.command.Status.{Status}
use Rattle.lay_front.specs.declared.command.Status.TheVariants.{Done, Differs, Usage, ReadFailed, Refused, WriteFailed, TooLong, NoMemory}

-- What bytes read to is laid out as a text that reads to it, and to no other file.
pub wrote : (bytes : List ℕ) (before now : Option (List ℕ)) (file : File) → ReadsOnlyTo bytes file → GrewBy before now (out file) → Wrote bytes before now
wrote bytes before now file reads grew =
    let back = again bytes file reads.reads in
    record { file = file; reads = reads; grew = grew; back = record { reads = back; only = λ other. one_file (out file) file other back } }

-- ---- a call that formats bytes

module _ {K T : Type 0} (written : K → Option (List ℕ)) (writes : K → ℕ) (bytes : List ℕ) (k l : K) where
  pub into_whole : (result : Result T IntoError) (file : File) → Formats written writes bytes k l result
      → (Rose (writes k) (writes l) → ⊥) → Reads bytes file
      → (IsOk result × GrewBy (written k) (written l) (out file)) ⊎ (result ≡ Err into.NoMemory)
  into_whole (Ok done) file h no_write r =
      inl (refl, subst (λ (f : File). GrewBy (written k) (written l) (out f)) (sym (h.reads.only file r)) h.grew)
  into_whole (Err (into.Refused refusal)) file h no_write r = absurd (never_both bytes file refusal r h.0)
  into_whole (Err into.WriteFailed) file h no_write r = absurd (no_write h.0)
  into_whole (Err into.NoMemory) file h no_write r = inr refl

  pub into_again : (result : Result T IntoError) (given : List ℕ) (file : File) → Formats written writes bytes k l result
      → Reads given file → bytes ≡ out file → (Rose (writes k) (writes l) → ⊥)
      → (IsOk result × GrewBy (written k) (written l) bytes) ⊎ (result ≡ Err into.NoMemory)
  into_again result given file h r e no_write =
      subst (λ (b : List ℕ). (IsOk result × GrewBy (written k) (written l) b) ⊎ (result ≡ Err into.NoMemory)) (sym e)
      (into_whole result file h no_write (subst (λ (b : List ℕ). Reads b file) (sym e) (again given file r)))

  pub into_refused : (result : Result T IntoError) (refusal : Refusal) → Formats written writes bytes k l result → IsRefused bytes refusal
      → (result ≡ Err (into.Refused refusal)) ⊎ (result ≡ Err into.NoMemory)
  into_refused (Ok done) refusal h r = absurd (never_both bytes h.file refusal h.reads.reads r)
  into_refused (Err (into.Refused other)) refusal h r =
      inl (ap (λ (x : Refusal). Err (into.Refused x)) (one_refusal top bytes other refusal h.0 r))
  into_refused (Err into.WriteFailed) refusal h r = absurd (never_both bytes h.1.file refusal h.1.reads.reads r)
  into_refused (Err into.NoMemory) refusal h r = inr refl

-- ---- a run

pub told_as : (told : Option (List ℕ)) (bytes all : List ℕ) → told ≡ Some bytes → TellsAs told all → bytes ≡ all
told_as told bytes all e h = let same : TellsAs (Some bytes) all = subst (λ (t : Option (List ℕ)). TellsAs t all) e h in same

module _ {K I : Type 0} (written : K → Option (List ℕ)) (writes : K → ℕ) (left : I → Which → Option (List ℕ)) (reads : I → ℕ)
    (which : Which) (i j : I) (k l : K) (bytes : List ℕ) where
  not_too_long : left i which ≡ Some bytes → length bytes ≤ 16777216 → IfSome (left i which) (λ all. 16777216 < length all) → ⊥
  not_too_long e within h =
      let long : 16777216 < length bytes = subst (λ (t : Option (List ℕ)). IfSome t (λ all. 16777216 < length all)) e h in omega arith

  pub complete : (status : Status) (file : File) → FormatRun written writes left reads which i j k l status
      → (Rose (reads i) (reads j) → ⊥) → (Rose (writes k) (writes l) → ⊥) → left i which ≡ Some bytes → length bytes ≤ 16777216 → Reads bytes file
      → ((status ≡ Done) × GrewBy (written k) (written l) (out file)) ⊎ (status ≡ NoMemory)
  complete Done file h no_read no_write e within r =
      let same : bytes ≡ h.bytes = told_as _ bytes h.bytes e h.all in
      let is : file ≡ h.holds.file = h.holds.reads.only file (subst (λ (b : List ℕ). Reads b file) same r) in
      inl (refl, subst (λ (f : File). GrewBy (written k) (written l) (out f)) (sym is) h.holds.grew)
  complete Differs file h no_read no_write e within r = absurd h
  complete Usage file h no_read no_write e within r = absurd h
  complete ReadFailed file h no_read no_write e within r = absurd (no_read h.0)
  complete (Refused refusal) file h no_read no_write e within r =
      absurd (never_both h.0.bytes file refusal (subst (λ (b : List ℕ). Reads b file) (told_as _ bytes h.0.bytes e h.0.all) r) h.0.holds)
  complete WriteFailed file h no_read no_write e within r = absurd (no_write h.0)
  complete TooLong file h no_read no_write e within r = absurd (not_too_long e within h.0)
  complete NoMemory file h no_read no_write e within r = inr refl

  refused_as : (all : List ℕ) (r : Refusal) → left i which ≡ Some bytes → TellsAs (left i which) all → IsRefused bytes r → IsRefused all r
  refused_as all r e h k = subst (λ (b : List ℕ). IsRefused b r) (told_as _ bytes all e h) k

  pub complete_refused : (status : Status) (refusal : Refusal) → FormatRun written writes left reads which i j k l status
      → (Rose (reads i) (reads j) → ⊥) → left i which ≡ Some bytes → length bytes ≤ 16777216 → IsRefused bytes refusal
      → (status ≡ Refused refusal) ⊎ (status ≡ NoMemory)
  complete_refused Done refusal h no_read e within k =
      absurd (never_both h.bytes h.holds.file refusal h.holds.reads.reads (refused_as h.bytes refusal e h.all k))
  complete_refused Differs refusal h no_read e within k = absurd h
  complete_refused Usage refusal h no_read e within k = absurd h
  complete_refused ReadFailed refusal h no_read e within k = absurd (no_read h.0)
  complete_refused (Refused other) refusal h no_read e within k =
      inl (ap Refused (one_refusal top h.0.bytes other refusal h.0.holds (refused_as h.0.bytes refusal e h.0.all k)))
  complete_refused WriteFailed refusal h no_read e within k =
      absurd (never_both h.1.bytes h.1.holds.file refusal h.1.holds.reads.reads (refused_as h.1.bytes refusal e h.1.all k))
  complete_refused TooLong refusal h no_read e within k = absurd (not_too_long e within h.0)
  complete_refused NoMemory refusal h no_read e within k = inr refl
