-- Calls of a printer.
use Rattle.std.proofs.Common.{pos, negsuc, ◌≡◌, ◌≢◌, ℕ, ◌+◌, ◌-◌, ◌<◌, ◌≤◌, inl, inr, false, List, [], ◌∷◌, ◌++◌, Option, Some, None, Result, Ok, Err, refl, sym, ap, ◌∙◌, subst, append-nil, le_trans, le_refl, ◌%◌, ◌^◌, length, length-append, arith}
use Rattle.lay_layout.specs.declared.layout.Frame.{Frame}
use Rattle.lay_layout.specs.declared.layout.Tok.{Tok}
use Rattle.lay_layout.specs.Margins.{margin}
use Rattle.lay_layout.specs.Machine.{begun, opened, text, IsNested, IsClosed}
use Rattle.lay_io.specs.Faults.{HasCause, Rose}
use Rattle.lay_ring.specs.declared.entry.Entry.{Entry}
use Rattle.lay_ring.specs.declared.entry.Size.{Size}
use Rattle.lay_ring.specs.declared.entry.Size.TheVariants.{Unknown, Known, Forced}
use Rattle.lay_stream.specs.Fed.{Start, Puts, Stops, FedFront, Did}
use Rattle.lay_stream.specs.declared.line.Line.{Line}
use Rattle.lay_printer.specs.declared.engine.PrintError.{PrintError}
use Rattle.lay_printer.specs.declared.engine.PrintError.TheVariants.{WriteFailed, NoMemory}
use Rattle.lay_printer.specs.Printing.{Printing}
use Rattle.lay_printer.specs.Queued.{Holds}
use Rattle.lay_queue.specs.Scan.{waiting}
use Rattle.lay_stream.specs.Pages.{Wrote, Cut}
use Rattle.lay_queue.specs.Entries.{least_width, next_of}
use Rattle.lay_printer.specs.Queued.{Advances, Says, Decided}
use Rattle.lay_printer.specs.Printers.{at, Runs, Fails, FedBy, CauseOf, Blames, LostBy, Went, Lost, Calls, Finishes, printer_meanings}
use Rattle.lay_stream.proofs.Calls.{opened_append}
use Rattle.lay_stream.proofs.ListedLemmas.{nested_append}
use Rattle.lay_printer.proofs.Running.{running_broken}
use Rattle.lay_printer.proofs.Lockstep.{held_le}

pub runs_new : (c : Printing) (w : Option (List ℕ)) (content : List ℕ) → c.entries ≡ [] → c.first ≡ 0 → c.groups ≡ 0 → c.line.pending ≡ 0 → c.line.room ≡ margin → c.line.used ≡ 0 → c.frames ≡ [] →
    Wrote w content [] → Runs c w content []
runs_new c w content e z g a b d f h = record {
  running = record {
    layout = begun;
    holds = subst (λ (x : List Entry). Holds false [] x begun) (sym e) (record { printed = []; waits = []; all = refl; are_sized = refl; small = omega arith; shown = λ r f. refl });
    at = record { frames_are = f; is = record { pending = a; room = b; small = omega arith; used = d } };
    wrote = h;
  };
  counted = z ∙ ap (λ (x : List Entry). at [] x % 2 ^ 64) (sym e);
  nested = tt;
  level = g;
}

-- what was fed before is nested, and so is one token more
fed_nested : (c : Printing) (w : Option (List ℕ)) (content : List ℕ) (s : List Tok) (t : Tok) → IsNested c.groups (t ∷ []) → Runs c w content s → IsNested 0 (s ++ t ∷ [])
fed_nested c w content s t h r = nested_append s (t ∷ []) 0 r.nested (subst (λ (g : ℕ). IsNested g (t ∷ [])) r.level h)

-- where no group is open, what was fed is whole
pub fed_whole : (c : Printing) (w : Option (List ℕ)) → (c.failed ≡ None → c.groups ≡ 0) → (content : List ℕ) (s : List Tok) → c.failed ≡ None → Runs c w content s → IsClosed 0 s
fed_whole c w g content s u r = (r.nested, sym r.level ∙ g u)

counted_next : (n l first first' k k' : ℕ) → l ≡ n + 1 → k ≤ n → k' ≤ l → first' < 2 ^ 64 → first ≡ (n - k) % 2 ^ 64 → (first' + k') % 2 ^ 64 ≡ ((first + k) % 2 ^ 64 + 1) % 2 ^ 64 → first' ≡ (l - k') % 2 ^ 64
counted_next n l first first' k k' e a b f g h = omega arith

pub calls_ok : {T : Type 0} (c c' : Printing) (b n : Option (List ℕ)) (f f' : ℕ) (v : T) (t : Tok) →
    c.failed ≡ None → c'.failed ≡ None → IsNested c.groups (t ∷ []) → Advances {E = PrintError} false c.entries c.line c.frames b (Ok v) c'.entries c'.line c'.frames n (λ s. s ++ t ∷ []) → Blames {T = T} f f' (Ok v) →
    c'.groups ≡ opened (t ∷ []) c.groups → next_of c'.first c'.entries ≡ (next_of c.first c.entries + 1) % 2 ^ 64 → c'.first < 2 ^ 64 → Calls {T = T} c b f (Ok v) c' n f' t
calls_ok c c' b n f f' v t u w o k h g m z = record {
  later = h.later;
  ok = record {
    hadnt_failed = u;
    hasnt_failed = w;
    runs = λ content s r.
        let q = k.ok content s r.running in
        record {
          running = q;
          counted = counted_next (length s) (length (s ++ t ∷ [])) c.first c'.first (length c.entries) (length c'.entries)
              (length-append s (t ∷ [])) (held_le s c.entries r.running.layout r.running.holds) (held_le (s ++ t ∷ []) c'.entries q.layout q.holds) z r.counted m;
          nested = fed_nested c b content s t o r;
          level = g ∙ ap (opened (t ∷ [])) r.level ∙ sym (opened_append s (t ∷ []) 0);
        };
    level = g;
    number = m;
  };
  err = tt;
}

cause_now : (e : PrintError) (f f' : ℕ) (x : Option PrintError) → (e ≡ WriteFailed → Rose f f') → CauseOf e f f' x
cause_now WriteFailed f f' x h = inl (h refl)
cause_now NoMemory f f' x h = tt

cause_before : (e : PrintError) (f : ℕ) (x : Option PrintError) → x ≡ Some e → CauseOf e f f x
cause_before WriteFailed f x h = inr h
cause_before NoMemory f x h = tt

pub calls_err : {T : Type 0} (c c' : Printing) (b n : Option (List ℕ)) (f f' : ℕ) (e : PrintError) (es' : List Entry) (p' : Line) (fs' : List Frame) (t : Tok) →
    c.failed ≡ None → c'.failed ≡ Some e → IsNested c.groups (t ∷ []) → Advances {T = T} false c.entries c.line c.frames b (Err e) es' p' fs' n (λ s. s ++ t ∷ []) → Blames {T = T} f f' (Err e) → Calls {T = T} c b f (Err e) c' n f' t
calls_err c c' b n f f' e es' p' fs' t u v o k h = record {
  later = h.later;
  ok = tt;
  err = record {
    has_failed = v;
    writes = subst (λ (x : Option PrintError). LostBy x c b n t) (sym u) (λ content s r. record { nested = fed_nested c b content s t o r; cut = k.err content s r.running });
    because = cause_now e f f' c.failed h.failed;
  };
}

-- a token was printed at once
pub calls_now_ok : {T E : Type 0} (c c' : Printing) (b n : Option (List ℕ)) (f f' : ℕ) (v : T) (t : Tok) →
    c.failed ≡ None → c'.failed ≡ None → IsNested c.groups (t ∷ []) → Advances {T = T} {E = E} false c.entries c.line c.frames b (Ok v) c'.entries c'.line c'.frames n (λ s. s ++ t ∷ []) → HasCause {T = T} {E = E} f f' (Ok v) →
    c'.groups ≡ opened (t ∷ []) c.groups → next_of c'.first c'.entries ≡ (next_of c.first c.entries + 1) % 2 ^ 64 → c'.first < 2 ^ 64 → Calls {T = T} c b f (Ok v) c' n f' t
calls_now_ok c c' b n f f' v t u w o k h g m z = calls_ok c c' b n f f' v t u w o (record { ok = k.ok; err = tt }) (record { later = h.later; failed = tt }) g m z

pub calls_now_err : {T E : Type 0} (c c' : Printing) (b n : Option (List ℕ)) (f f' : ℕ) (e : E) (es' : List Entry) (p' : Line) (fs' : List Frame) (t : Tok) →
    c.failed ≡ None → c'.failed ≡ Some WriteFailed → IsNested c.groups (t ∷ []) → Advances {T = T} {E = E} false c.entries c.line c.frames b (Err e) es' p' fs' n (λ s. s ++ t ∷ []) → HasCause {T = T} {E = E} f f' (Err e) → Calls {T = T} c b f (Err WriteFailed) c' n f' t
calls_now_err c c' b n f f' e es' p' fs' t u v o k h = calls_err c c' b n f f' WriteFailed es' p' fs' t u v o (record { ok = tt; err = k.err }) (record { later = h.later; failed = λ q. h.failed })

pub calls_no_memory : {T : Type 0} (c c' : Printing) (b : Option (List ℕ)) (f : ℕ) (t : Tok) → c.failed ≡ None → c'.failed ≡ Some NoMemory → IsNested c.groups (t ∷ []) → Calls {T = T} c b f (Err NoMemory) c' b f t
calls_no_memory c c' b f t u v o = record {
  later = le_refl f;
  ok = tt;
  err = record {
    has_failed = v;
    writes = subst (λ (x : Option PrintError). LostBy x c b b t) (sym u)
        (λ content s r. record { nested = fed_nested c b content s t o r; cut = running_broken c.entries c.line c.frames b content s (t ∷ []) r.running });
    because = tt;
  };
}

-- after a call that failed
pub calls_again : {T : Type 0} (c : Printing) (b : Option (List ℕ)) (f : ℕ) (e : PrintError) (t : Tok) → c.failed ≡ Some e → Calls {T = T} c b f (Err e) c b f t
calls_again c b f e t u = record {
  later = le_refl f;
  ok = tt;
  err = record { has_failed = u; writes = subst (λ (x : Option PrintError). LostBy x c b b t) (sym u) refl; because = cause_before e f c.failed u };
}

pub finish_failed : {T : Type 0} (c : Printing) (b : Option (List ℕ)) (f : ℕ) (e : PrintError) → c.failed ≡ Some e → Finishes {T = T} c b f (Err e) c b f
finish_failed c b f e u = record {
  later = le_refl f;
  ok = tt;
  err = (
    u,
    cause_before e f c.failed u,
    λ content s h.
        let k : Fails b content s = subst (λ (x : Option PrintError). FedBy x c b content s) u h in
        subst (λ (x : List Tok). Cut b content (text x)) (append-nil s) (k.cut [] tt),
  );
}

rose_more : (a b c : ℕ) → a ≤ b → Rose b c → Rose a c
rose_more a b c l h = omega arith

cause_passes : (e : PrintError) (a b c : ℕ) (x y : Option PrintError) → a ≤ b → y ≡ None → CauseOf e b c y → CauseOf e a c x
cause_passes WriteFailed a b c x y l u (inl h) = inl (rose_more a b c l h)
cause_passes WriteFailed a b c x y l u (inr h) = cc
cause_passes NoMemory a b c x y l u h = tt

went_puts : {S : Type 0} (core : S → Printing) (written : S → Option (List ℕ)) (faults : S → ℕ) (loans : S → List ℕ) (x y : S) (t : Tok) →
    Went (core x) (written x) (core y) (written y) t → faults x ≤ faults y → loans y ≡ loans x → Puts (printer_meanings core written faults loans) x (t ∷ []) y
went_puts core written faults loans x y t w l o = record {
  appends = λ start s h.
      let r : Runs (core x) (written x) start.content s = subst (λ (z : Option PrintError). FedBy z (core x) (written x) start.content s) w.hadnt_failed h.0 in
      (subst (λ (z : Option PrintError). FedBy z (core y) (written y) start.content (s ++ t ∷ [])) (sym w.hasnt_failed) (w.runs start.content s r), le_trans h.1 l);
  level = w.level;
  later = l;
  passes = λ e c k. cause_passes e (faults x) (faults y) (faults c) (core x).failed (core y).failed l w.hasnt_failed k;
  failed_before = λ h. absurd (h w.hasnt_failed);
  failed_after = λ h. absurd (h w.hadnt_failed);
  same_loans = o;
}

lost_front : {S : Type 0} (core : S → Printing) (written : S → Option (List ℕ)) (faults : S → ℕ) (loans : S → List ℕ) (x y : S) (t : Tok) (e : PrintError) (z : Option PrintError) →
    (core y).failed ≡ Some e → LostBy z (core x) (written x) (written y) t → faults x ≤ faults y → (start : Start) (s : List Tok) → FedBy z (core x) (written x) start.content s → start.faults ≤ faults x →
    FedFront (printer_meanings core written faults loans) y start s (t ∷ [])
lost_front core written faults loans x y t e None v k l start s h m = record {
  front = t ∷ [];
  back = [];
  both = refl;
  is_fed = (subst (λ (q : Option PrintError). FedBy q (core y) (written y) start.content (s ++ t ∷ [])) (sym v) (k start.content s h), le_trans m l);
}
lost_front core written faults loans x y t e (Some d) v k l start s h m =
    let b : Fails (written y) start.content (s ++ []) = subst (λ (q : List Tok). Fails (written y) start.content q) (sym (append-nil s)) (subst (λ (q : Option (List ℕ)). Fails q start.content s) (sym k) h) in
    record {
      front = [];
      back = t ∷ [];
      both = refl;
      is_fed = (subst (λ (q : Option PrintError). FedBy q (core y) (written y) start.content (s ++ [])) (sym v) b, le_trans m l);
    }

some_is : (z : Option PrintError) (e : PrintError) → z ≡ Some e → z ≢ None
some_is z e h k = cc

lost_stops : {S : Type 0} (core : S → Printing) (written : S → Option (List ℕ)) (faults : S → ℕ) (loans : S → List ℕ) (x y : S) (t : Tok) (e : PrintError) →
    Lost (core x) (written x) (faults x) (core y) (written y) (faults y) t e → faults x ≤ faults y → loans y ≡ loans x → Stops (printer_meanings core written faults loans) x (t ∷ []) e y
lost_stops core written faults loans x y t e w l o = record {
  appends = λ start s h. lost_front core written faults loans x y t e (core x).failed w.has_failed w.writes l start s h.0 h.1;
  later = l;
  because = w.because;
  has_failed = some_is (core y).failed e w.has_failed;
  same_loans = o;
}

err_is : {T F : Type 0} (r : Result T F) (f g : F) → r ≡ Err f → r ≡ Err g → f ≡ g
err_is r f g e h = cc

pub did_calls : {S T : Type 0} (core : S → Printing) (written : S → Option (List ℕ)) (faults : S → ℕ) (loans : S → List ℕ) (x y : S) (t : Tok) (r : Result T PrintError) →
    Calls (core x) (written x) (faults x) r (core y) (written y) (faults y) t → loans y ≡ loans x → Did (printer_meanings core written faults loans) x (t ∷ []) r y
did_calls core written faults loans x y t (Ok v) k o = record {
  puts = λ u e. went_puts core written faults loans x y t k.ok k.later o;
  stops = λ f e. cc;
}
did_calls core written faults loans x y t (Err v) k o = record {
  puts = λ u e. cc;
  stops = λ f e. subst (λ (z : PrintError). Stops (printer_meanings core written faults loans) x (t ∷ []) z y) (err_is _ v f refl e) (lost_stops core written faults loans x y t v k.err k.later o);
}

lag_at : (z : Size) (least wait : ℕ) (p : Line) → Says z least wait p None → wait ≤ p.room - p.used
lag_at Unknown least wait p h = omega arith
lag_at (Known (pos k)) least wait p h = cc
lag_at (Known (negsuc k)) least wait p h = cc
lag_at Forced least wait p h = cc

-- nothing more is decided: no more text waits than fits
pub lag_of : (es : List Entry) (wait : ℕ) (p : Line) → wait ≡ waiting es → Decided es wait p None → wait ≤ p.room - p.used
lag_of [] wait p w d = omega arith
lag_of (e ∷ es) wait p w d = lag_at e.size (least_width e.tok) wait p d

-- where no call has failed, nothing is said of the sink
pub alone_live : {K : Type 0} {sink sink' : K} (failed : Option PrintError) → failed ≡ None → (e : PrintError) → failed ≡ Some e → sink' ≡ sink
alone_live None u e h = cc
alone_live (Some x) u e h = cc
