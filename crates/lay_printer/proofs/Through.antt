-- A whole stream through a printer.
use Rattle.std.proofs.Common.{◌≡◌, ◌≢◌, ℕ, zero, suc, ◌+◌, inl, inr, List, [], ◌∷◌, ◌++◌, length, take, replicate, Option, Some, None, Result, Ok, Err, OnOk, OnErr, IsErrAnd, refl, sym, ap, ◌∙◌, subst, append-nil, le_trans, le_refl, length-append, arith}
use Rattle.std.proofs.Math.Seq.{take-append_seam}
use Rattle.lay_layout.specs.declared.layout.Tok.{Tok}
use Rattle.lay_layout.specs.Machine.{opened, text}
use Rattle.lay_io.specs.Faults.{Rose}
use Rattle.lay_io.specs.Told.{GrewBy, GrewByPrefix}
use Rattle.lay_stream.specs.Fed.{Did}
use Rattle.lay_printer.specs.declared.engine.PrintError.{PrintError}
use Rattle.lay_printer.specs.declared.engine.PrintError.TheVariants.{WriteFailed, NoMemory}
use Rattle.lay_printer.specs.Printing.{Printing}
use Rattle.lay_stream.specs.Pages.{Wrote, Cut}
use Rattle.lay_printer.specs.Printers.{Runs, FedBy, CauseOf, Blames, Finishes, printer_meanings}

length-replicate : (n x : ℕ) → length (replicate n x) ≡ n
length-replicate zero x = refl
length-replicate (suc n) x = ap suc (length-replicate n x)

-- what is written after whatever stood there
pub grew : (before now : Option (List ℕ)) (t : List ℕ) → ((content : List ℕ) → Wrote before content [] → Wrote now content t) → GrewBy before now t
grew before None t h = tt
grew None (Some a) t h =
    let x : a ≡ [] ++ t = h [] tt in
    let y : a ≡ (0 ∷ []) ++ t = h (0 ∷ []) tt in
    absurd (omega (arith, ap length x, ap length y))
grew (Some b) (Some a) t h = ap (λ (z : List ℕ). Some z) (sym (h b (sym (append-nil b))))

pub grew_cut : (before now : Option (List ℕ)) (t : List ℕ) → ((content : List ℕ) → Wrote before content [] → Cut now content t) → GrewByPrefix before now t
grew_cut before None t h = (0, tt)
grew_cut None (Some a) t h =
    let o : ℕ = 0 in
    let k : List ℕ = replicate (length a + 1) o in
    let x = h k tt in
    let y : a ≡ k ++ x.0 = x.2 in
    absurd (omega (arith, ap length y, length-append k x.0, length-replicate (length a + 1) o))
grew_cut (Some b) (Some a) t h =
    let x = h b (sym (append-nil b)) in
    let y : take (length x.0) t ≡ x.0 = ap (λ (z : List ℕ). take (length x.0) z) (sym x.3) ∙ take-append_seam x.0 x.1 in
    (length x.0, ap (λ (z : List ℕ). Some (b ++ z)) y ∙ ap (λ (z : List ℕ). Some z) (sym x.2))

fed_cut : (z : Option PrintError) (c : Printing) (w : Option (List ℕ)) (content : List ℕ) (s : List Tok) → z ≢ None → FedBy z c w content s → (r : List Tok) → Cut w content (text (s ++ r))
fed_cut None c w content s n h r = absurd (n refl)
fed_cut (Some e) c w content s n h r = h.cut r tt

-- a printer that hasn't been fed anything
pub record Begins (c : Printing) (written : Option (List ℕ)) : Type 0 where
  pub fresh : c.failed ≡ None
  pub runs : (content : List ℕ) → Wrote written content [] → Runs c written content []

begins_fed : (c : Printing) (w : Option (List ℕ)) → Begins c w → (content : List ℕ) → Wrote w content [] → FedBy c.failed c w content []
begins_fed c w b content h = subst (λ (z : Option PrintError). FedBy z c w content []) (sym b.fresh) (b.runs content h)

-- a call failed
pub stopped : {S T : Type 0} (core : S → Printing) (written : S → Option (List ℕ)) (faults : S → ℕ) (loans : S → List ℕ) (x y : S) (ts : List Tok) (e : PrintError) →
    Begins (core x) (written x) → Did {T = T} (printer_meanings core written faults loans) x ts (Err e) y → (content : List ℕ) → Wrote (written x) content [] → Cut (written y) content (text ts)
stopped core written faults loans x y ts e b d content h =
    let s = d.stops e refl in
    let f = s.appends (record { content = content; faults = faults x }) [] (begins_fed (core x) (written x) b content h, le_refl (faults x)) in
    subst (λ (z : List Tok). Cut (written y) content (text z)) f.both (fed_cut (core y).failed (core y) (written y) content f.front s.has_failed f.is_fed.0 f.back)

-- all calls answered Ok
pub went : {S T : Type 0} (core : S → Printing) (written : S → Option (List ℕ)) (faults : S → ℕ) (loans : S → List ℕ) (x y : S) (ts : List Tok) (v : T) →
    Begins (core x) (written x) → Did (printer_meanings core written faults loans) x ts (Ok v) y → (content : List ℕ) → Wrote (written x) content [] → FedBy (core y).failed (core y) (written y) content ts
went core written faults loans x y ts v b d content h =
    ((d.puts v refl).appends (record { content = content; faults = faults x }) [] (begins_fed (core x) (written x) b content h, le_refl (faults x))).0

pub blame_of : (e : PrintError) (a b : ℕ) (z : Option PrintError) → z ≡ None → CauseOf e a b z → e ≡ WriteFailed → Rose a b
blame_of WriteFailed a b z u (inl h) w = h
blame_of WriteFailed a b z u (inr h) w = cc
blame_of NoMemory a b z u h w = cc

cause_at : (e : PrintError) (a b : ℕ) (z : Option PrintError) → CauseOf e a b z → CauseOf e a b z
cause_at e a b z h = h

-- A stream was printed on a sink.
pub record Printed {T : Type 0} (before now : Option (List ℕ)) (faults faults' : ℕ) (result : Result T PrintError) (ts : List Tok) : Type 0 where
  pub ok : OnOk result (GrewBy before now (text ts))
  pub err : OnErr result (GrewByPrefix before now (text ts))
  pub cause : Blames faults faults' result

pub printed_stopped : {S T U : Type 0} (core : S → Printing) (written : S → Option (List ℕ)) (faults : S → ℕ) (loans : S → List ℕ) (x y : S) (ts : List Tok) (e : PrintError) (r : Result U PrintError) →
    Begins (core x) (written x) → Did {T = T} (printer_meanings core written faults loans) x ts (Err e) y → IsErrAnd r (λ z. z ≡ e) → Printed (written x) (written y) (faults x) (faults y) r ts
printed_stopped core written faults loans x y ts e (Ok v) b d i = absurd i
printed_stopped core written faults loans x y ts e (Err v) b d i = record {
  ok = tt;
  err = grew_cut (written x) (written y) (text ts) (stopped core written faults loans x y ts e b d);
  cause = record {
    later = (d.stops e refl).later;
    failed = subst (λ (z : PrintError). z ≡ WriteFailed → Rose (faults x) (faults y)) (sym i) (blame_of e (faults x) (faults y) (core x).failed b.fresh (d.stops e refl).because);
  };
}

pub printed_finish : {S T U : Type 0} (core : S → Printing) (written : S → Option (List ℕ)) (faults : S → ℕ) (loans : S → List ℕ) (x y z : S) (ts : List Tok) (v : T) (r : Result U PrintError) →
    Begins (core x) (written x) → Did (printer_meanings core written faults loans) x ts (Ok v) y → Finishes (core y) (written y) (faults y) r (core z) (written z) (faults z) →
    Printed (written x) (written z) (faults x) (faults z) r ts
printed_finish core written faults loans x y z ts v (Ok u) b d f = record {
  ok = grew (written x) (written z) (text ts) (λ content h. f.ok.1 content ts (went core written faults loans x y ts v b d content h));
  err = tt;
  cause = record { later = le_trans (d.puts v refl).later f.later; failed = tt };
}
printed_finish core written faults loans x y z ts v (Err e) b d f = record {
  ok = tt;
  err = grew_cut (written x) (written z) (text ts) (λ content h. f.err.2 content ts (went core written faults loans x y ts v b d content h));
  cause = record {
    later = le_trans (d.puts v refl).later f.later;
    failed = blame_of e (faults x) (faults z) (core x).failed b.fresh ((d.puts v refl).passes e z (cause_at e (faults y) (faults z) (core y).failed f.err.1));
  };
}

-- of the sinks themselves
pub printed_along : {K T : Type 0} (written : K → Option (List ℕ)) (faults : K → ℕ) (a a' b b' : K) (r : Result T PrintError) (ts : List Tok) → a ≡ a' → b ≡ b' →
    Printed (written a) (written b) (faults a) (faults b) r ts → Printed (written a') (written b') (faults a') (faults b') r ts
printed_along written faults a a' b b' r ts e f h =
    subst (λ (z : _). Printed (written z) (written b') (faults z) (faults b') r ts) e (subst (λ (z : _). Printed (written a) (written z) (faults a) (faults z) r ts) f h)

pub level_zero : {S T : Type 0} (core : S → Printing) (written : S → Option (List ℕ)) (faults : S → ℕ) (loans : S → List ℕ) (x y : S) (ts : List Tok) (v : T) →
    (core x).groups ≡ 0 → Did (printer_meanings core written faults loans) x ts (Ok v) y → opened ts 0 ≡ 0 → (core y).groups ≡ 0
level_zero core written faults loans x y ts v g d o = (d.puts v refl).level ∙ ap (opened ts) g ∙ o
