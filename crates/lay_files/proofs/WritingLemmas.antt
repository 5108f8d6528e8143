-- A file whose stream was printed on a sink that was lent to a press.
use Rattle.std.proofs.Common.{◌≡◌, ℕ, ◌≤◌, List, ◌++◌, get_or, Option, Some, None, refl, Result, Ok, Err, OnOk, OnErr, IfErr, IsErrOf}
use Rattle.std.proofs.Common.{sym, ap, ◌∙◌, subst}
use Rattle.lay_layout.specs.Document.{Document, Empty, stream}
use Rattle.lay_layout.proofs.Render.{text_stream}
use Rattle.lay_io.specs.Faults.{Rose, SameLoan}
use Rattle.lay_io.specs.Told.{GrewBy, GrewByPrefix}
use Rattle.lay_code.specs.Out.{behind_shebang, layout_of_file, out}
use Rattle.lay_code.specs.declared.file.File.{File}
use Rattle.lay_printer.proofs.Through.{Printed, printed_along}
use Rattle.lay_printer.specs.Printers.{lent_sink, press_loans}
use Rattle.lay_printer.specs.declared.engine.PrintError.{PrintError}
use Rattle.lay_printer.specs.declared.engine.PrintError.TheVariants.{WriteFailed}
use Rattle.lay_printer.specs.declared.press.Press.{Press}
use Rattle.lay_files.specs.Readings.{behind_line}

-- what is said of the sink
pub record Written {K T : Type 0} (written : K → Option (List ℕ)) (faults loan : K → ℕ) (before now : K) (file : File)
    (result : Result T PrintError) : Type 0 where
  pub later : faults before ≤ faults now
  pub same_loan : SameLoan (loan before) (loan now)
  pub whole : OnOk result (GrewBy (written before) (written now) (out file))
  pub part : OnErr result (GrewByPrefix (written before) (written now) (out file))
  pub cause : IsErrOf result WriteFailed → Rose (faults before) (faults now)

cause_of : {T : Type 0} (a b : ℕ) (result : Result T PrintError) → IfErr result (λ e. e ≡ WriteFailed → Rose a b)
    → IsErrOf result WriteFailed → Rose a b
cause_of a b (Ok x) h e = cc
cause_of a b (Err x) h e = let same : x ≡ WriteFailed = cc in h same

-- The sink that was lent is the one that comes back, and holds the loan that it held.
pub file_written : {K T : Type 0} (written : K → Option (List ℕ)) (faults loan : K → ℕ) (x y : Press K)
    (before now : K) (file : File) (result : Result T PrintError)
    → lent_sink x ≡ before → lent_sink y ≡ now → press_loans loan y ≡ press_loans loan x
    → Printed (written (lent_sink x)) (written (lent_sink y)) (faults (lent_sink x)) (faults (lent_sink y)) result
    (stream (layout_of_file file))
    → Written written faults loan before now file result
file_written written faults loan x y before now file result first last same h =
    let k = printed_along written faults _ _ _ _ result (stream (layout_of_file file)) first last h in
    let text_is = text_stream (layout_of_file file) in
    record {
      later = k.cause.later;
      same_loan = ap loan (sym last) ∙ ap (λ (loans : List ℕ). get_or loans 1 0) same ∙ ap loan first;
      whole = subst (λ (t : List ℕ). OnOk result (GrewBy (written before) (written now) t)) text_is k.ok;
      part = subst (λ (t : List ℕ). OnErr result (GrewByPrefix (written before) (written now) t)) text_is k.err;
      cause = cause_of (faults before) (faults now) result k.cause.failed;
    }

-- ---- a file that was fed after its first line

shebang_more : (first : Option (List ℕ)) (d : Document) → stream (behind_shebang first Empty) ++ stream d ≡ stream (behind_shebang first d)
shebang_more None d = refl
shebang_more (Some line) d = refl

pub behind_first : (first : Option (List ℕ)) (file : File) → file.shebang ≡ None
    → stream (behind_shebang first Empty) ++ stream (layout_of_file file) ≡ stream (layout_of_file (behind_line first file))
behind_first first file none =
    ap (λ (line : Option (List ℕ)). stream (behind_shebang first Empty) ++ stream (layout_of_file (behind_line line file))) none
    ∙ shebang_more first (layout_of_file (behind_line None file))

-- What was told of it all is what is told of its end.
pub told_all : {U F G : Type 0} (fed : Result (Unit {0}) F) (result : Result U G) (P Q : Type 0) → OnOk result (fed ≡ Ok tt)
    → OnOk fed P → (P → Q) → OnOk result Q
told_all fed (Ok u) P Q e p f = f (subst (λ (r : Result (Unit {0}) _). OnOk r P) e p)
told_all fed (Err g) P Q e p f = tt
