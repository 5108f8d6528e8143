-- The meaning of a printer and of a press: which tokens they were fed, and how a call changes or
-- fails them.
use Rattle.std.specs.Prelude.{◌≡◌, ◌≢◌, ℕ, ◌+◌, ◌-◌, ◌%◌, ◌^◌, ◌<◌, ◌≤◌, ◌⊎◌, false}
use Rattle.std.specs.Prelude.{List, [], ◌∷◌, ◌++◌, length, Option, Some, None, Result, Err, OnOk, IfErr}
use Rattle.lay_layout.specs.declared.layout.Tok.{Tok}
use Rattle.lay_layout.specs.Machine.{opened, text, IsNested, IsClosed}
use Rattle.lay_ring.specs.declared.entry.Entry.{Entry}
use Rattle.lay_io.specs.Faults.{Rose}
use Rattle.lay_stream.specs.Fed.{Meanings}
use Rattle.lay_printer.specs.Queued.{Running, Broken}
use Rattle.lay_queue.specs.Entries.{next_of}
use Rattle.lay_stream.specs.Pages.{Wrote, Cut}
use Rattle.lay_printer.specs.Printing.{Printing, Owning}
use Rattle.lay_printer.specs.declared.engine.PrintError.{PrintError}
use Rattle.lay_printer.specs.declared.engine.PrintError.TheVariants.{WriteFailed, NoMemory}
use Rattle.lay_printer.specs.declared.press.Press.{Press}

-- how many tokens are printed
abbrev pub at : List Tok → List Entry → ℕ
at s es = length s - length es

-- The printer was fed the tokens s and hasn't failed. Its sink had this content before them. The
-- number of the first entry counts the printed tokens. Each End of s closes a group, and the open
-- groups are those of s.
pub record Runs (c : Printing) (written : Option (List ℕ)) (content : List ℕ) (s : List Tok) : Type 0 where
  pub running : Running false c.entries c.line c.frames written content s
  pub counted : c.first ≡ at s c.entries % 2 ^ 64
  pub nested : IsNested 0 s
  pub level : c.groups ≡ opened s 0

-- A printer that failed: what was written is a prefix of the text of s and of whatever tokens
-- follow.
pub record Fails (written : Option (List ℕ)) (content : List ℕ) (s : List Tok) : Type 0 where
  pub nested : IsNested 0 s
  pub cut : Broken false written content s

-- The printer was fed the tokens s, and may have failed.
abbrev pub FedBy : Option PrintError → Printing → Option (List ℕ) → List ℕ → List Tok → Type 0
FedBy None c written content s = Runs c written content s
FedBy (Some e) c written content s = Fails written content s

-- The cause of a failed call.
abbrev pub CauseOf : PrintError → ℕ → ℕ → Option PrintError → Type 0
CauseOf WriteFailed before now failed = Rose before now ⊎ (failed ≡ Some WriteFailed)
CauseOf NoMemory before now failed = Unit {0}

-- The count of faults never falls, and a write failed only where it rose.
pub record Blames {T : Type 0} (before now : ℕ) (result : Result T PrintError) : Type 0 where
  pub later : before ≤ now
  pub failed : IfErr result (λ e. e ≡ WriteFailed → Rose before now)

-- The effect of a call that fails. If an earlier call failed, the sink isn't written to.
abbrev pub LostBy : Option PrintError → Printing → Option (List ℕ) → Option (List ℕ) → Tok → Type 0
LostBy None c was now t = (content : List ℕ) (s : List Tok) → Runs c was content s → Fails now content (s ++ t ∷ [])
LostBy (Some e) c was now t = now ≡ was

pub record Went (c : Printing) (was : Option (List ℕ)) (c' : Printing) (now : Option (List ℕ)) (t : Tok) : Type 0 where
  pub hadnt_failed : c.failed ≡ None
  pub hasnt_failed : c'.failed ≡ None
  pub runs : (content : List ℕ) (s : List Tok) → Runs c was content s → Runs c' now content (s ++ t ∷ [])
  pub level : c'.groups ≡ opened (t ∷ []) c.groups
  pub number : next_of c'.first c'.entries ≡ (next_of c.first c.entries + 1) % 2 ^ 64

pub record Lost (c : Printing) (before : Option (List ℕ)) (faults : ℕ) (c' : Printing)
    (now : Option (List ℕ)) (faults' : ℕ) (t : Tok) (e : PrintError) : Type 0 where
  pub has_failed : c'.failed ≡ Some e
  pub writes : LostBy c.failed c before now t
  pub because : CauseOf e faults faults' c.failed

-- A call that should feed a token.
pub record Calls {T : Type 0} (c : Printing) (before : Option (List ℕ)) (faults : ℕ) (result : Result T PrintError)
    (c' : Printing) (now : Option (List ℕ)) (faults' : ℕ) (t : Tok) : Type 0 where
  pub later : faults ≤ faults'
  pub ok : OnOk result (Went c before c' now t)
  pub err : IfErr result (λ e. Lost c before faults c' now faults' t e)

-- After a failed call, each call returns the same error.
abbrev pub Repeats : {T : Type 0} → Printing → Result T PrintError → Type 0
Repeats c result = (e : PrintError) → c.failed ≡ Some e → result ≡ Err e

-- With room for more tokens a call needs no memory. It takes room for at most one token.
pub record TakesRoom {T : Type 0} (c : Printing) (result : Result T PrintError) (c' : Printing) : Type 0 where
  pub sure : c.failed ≡ None → 0 < c.spare → IfErr result (λ e. e ≡ WriteFailed)
  pub lowers : c.spare ≤ c'.spare + 1

-- If the printer hasn't failed, it was fed a whole stream.
abbrev pub IsWhole : Printing → Option (List ℕ) → Type 0
IsWhole c written = (content : List ℕ) (s : List Tok) → c.failed ≡ None → Runs c written content s → IsClosed 0 s

-- The call that ends a stream.
pub record Finishes {T : Type 0} (c : Printing) (before : Option (List ℕ)) (faults : ℕ) (result : Result T PrintError)
    (c' : Printing) (now : Option (List ℕ)) (faults' : ℕ) : Type 0 where
  pub later : faults ≤ faults'
  pub ok : OnOk result ((c.failed ≡ None) × ((content : List ℕ) (s : List Tok)
      → FedBy c.failed c before content s → Wrote now content (text s)))
  pub err : IfErr result (λ e. (c'.failed ≡ Some e) × CauseOf e faults faults' c.failed
      × ((content : List ℕ) (s : List Tok) → FedBy c.failed c before content s → Cut now content (text s)))

-- The meaning of a printer as an Emit.
abbrev pub printer_meanings : {S : Type 0}
    → (S → Printing) → (S → Option (List ℕ)) → (S → ℕ) → (S → List ℕ) → Meanings S PrintError
printer_meanings core written faults loans = record {
  fed = λ x start s. FedBy (core x).failed (core x) (written x) start.content s × (start.faults ≤ faults x);
  groups = λ x. (core x).groups;
  faults = faults;
  failed = λ x. (core x).failed ≢ None;
  cause = λ x e y. CauseOf e (faults x) (faults y) (core x).failed;
  loans = loans;
}

-- What contracts see of a press: the printer that was lent to it, its sink, and which loan that is.
-- It has no model, because a model couldn't show how a loan ends.
abbrev pub lent_core : {K : Type 0} → Press K → Printing
lent_core p = p.core.now

abbrev pub lent_sink : {K : Type 0} → Press K → K
lent_sink p = p.sink.now

abbrev pub lent_as : {K : Type 0} → Press K → ℕ
lent_as p = p.sink.ghost_name

-- the loan that a press holds, and the loan that its sink holds
abbrev pub press_loans : {K : Type 0} → (K → ℕ) → Press K → List ℕ
press_loans loan p = lent_as p ∷ loan (lent_sink p) ∷ []

-- the meaning as an Emit of a press, and of a printer that owns its sink, by what the sink shows
abbrev pub press_meanings : {K : Type 0} → (K → Option (List ℕ)) → (K → ℕ) → (K → ℕ) → Meanings (Press K) PrintError
press_meanings written faults loan =
    printer_meanings lent_core (λ p. written (lent_sink p)) (λ p. faults (lent_sink p)) (press_loans loan)

abbrev pub owner_meanings : {K : Type 0} → (K → Option (List ℕ)) → (K → ℕ) → (K → ℕ) → Meanings (Owning K) PrintError
owner_meanings written faults loan =
    printer_meanings (λ p. p.core) (λ p. written p.sink) (λ p. faults p.sink) (λ p. loan p.sink ∷ [])
