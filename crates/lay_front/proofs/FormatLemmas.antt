-- A text that is given is the one that the bytes have.
use Rattle.std.proofs.Common.{◌≡◌, ◌≤◌, ◌⊎◌, inl, inr, ℕ, List, Result, Ok, Err, IfOk, refl, sym, ap, ◌∙◌, subst}
use Rattle.lay_text.specs.declared.refusal.FormatError.{FormatError}
use Rattle.lay_text.specs.declared.refusal.FormatError.TheVariants as error
use Rattle.lay_text.specs.declared.refusal.Refusal.{Refusal}
use Rattle.lay_code.specs.Out.{out}
use Rattle.lay_code.specs.Reading.{IsRefused, Reads, top}
use Rattle.lay_code.specs.Written.{Written}
use Rattle.lay_code.specs.declared.file.File.{File}
use Rattle.lay_reparse.proofs.file.OneAnswer.{one_file, one_refusal, never_both}
use Rattle.lay_reparse.proofs.file.Reparse.{again, out_reads}
use Rattle.lay_code.specs.nodes.File.{form_of_file}
use Rattle.lay_form.specs.Depth.{least_depth}
use Rattle.lay_files.specs.Readings.{ReadsOnlyTo}
use Rattle.lay_front.specs.Outcome.{FormatsTo, IsTextFor}

-- The text of the file that the bytes read to is the one that they have.
pub text_whole_of : (bytes text : List ℕ) (file : File) → ReadsOnlyTo bytes file → text ≡ out file → IsTextFor bytes text
text_whole_of bytes text file reads is =
    let back = again bytes file reads.reads in
    let only : ReadsOnlyTo (out file) file = record { reads = back; only = λ other. one_file (out file) file other back } in
    record { file = file; reads = reads; is = is; back = subst (λ (t : List ℕ). ReadsOnlyTo t file) (sym is) only }

module _ (bytes : List ℕ) where
  pub text_whole : (file : File) (result : Result (List ℕ) FormatError) → FormatsTo bytes result → Reads bytes file
      → (result ≡ Ok (out file)) ⊎ (result ≡ Err error.NoMemory)
  text_whole file (Ok text) h r = inl (ap Ok (h.is ∙ ap out (sym (h.reads.only file r))))
  text_whole file (Err (error.Refused refusal)) h r = absurd (never_both bytes file refusal r h)
  text_whole file (Err error.NoMemory) h r = inr refl

  pub text_refused : (refusal : Refusal) (result : Result (List ℕ) FormatError) → FormatsTo bytes result → IsRefused bytes refusal
      → (result ≡ Err (error.Refused refusal)) ⊎ (result ≡ Err error.NoMemory)
  text_refused refusal (Ok text) h r = absurd (never_both bytes h.file refusal h.reads.reads r)
  text_refused refusal (Err (error.Refused other)) h r = inl (ap (λ (x : Refusal). Err (error.Refused x)) (one_refusal top bytes other refusal h r))
  text_refused refusal (Err error.NoMemory) h r = inr refl

  pub text_again : (given : List ℕ) (file : File) (result : Result (List ℕ) FormatError) → FormatsTo bytes result → Reads given file
      → bytes ≡ out file → (result ≡ Ok bytes) ⊎ (result ≡ Err error.NoMemory)
  text_again given file result h r e =
      subst (λ (b : List ℕ). (result ≡ Ok b) ⊎ (result ≡ Err error.NoMemory)) (sym e)
      (text_whole file result h (subst (λ (b : List ℕ). Reads b file) (sym e) (again given file r)))

-- The text of a file that can be written reads to the file.
pub reads_back : {E : Type 0} (file : File) (result : Result (List ℕ) E) → Written file → least_depth (form_of_file file) ≤ top → IfOk result (λ text. text ≡ out file)
    → IfOk result (λ text. Reads text file)
reads_back file (Ok text) w n is = subst (λ (t : List ℕ). Reads t file) (sym is) (out_reads file w n)
reads_back file (Err error) w n is = tt
