-- What sizes say of measures.
use Rattle.std.proofs.Common.{pos, ◌≡◌, ◌≢◌, ℕ, zero, suc, min, Bool, true, false, List, [], ◌∷◌, ℤ, length, refl, sym, ap, ◌∙◌, subst}
use Rattle.lay_layout.specs.declared.layout.Tok.{Tok}
use Rattle.lay_layout.specs.declared.layout.Tok.TheVariants as tok
use Rattle.lay_layout.specs.Document.{width_of_break}
use Rattle.lay_layout.specs.Machine.{outer}
use Rattle.lay_ring.specs.declared.entry.Size.TheVariants.{Unknown, Known, Forced}
use Rattle.lay_ring.specs.declared.entry.Entry.{Entry}
use Rattle.lay_queue.specs.Scan.{Scan, Stopped, Going, widen, scan, scan_of, size_of_scan, sized, cap}
use Rattle.lay_printer.specs.Promises.{has_end, IsOpen, IsMeasured, AreMeasured}
use Rattle.lay_printer.proofs.Lockstep.{toks_sized}
use Rattle.lay_printer.proofs.Steps.{with_rest, size_of, measure_scan}

abbrev has_stopped : Scan → Bool
has_stopped (Stopped n) = true
has_stopped (Going n d) = false

stopped_widen : (w : ℕ) (c : Scan) → has_stopped (widen w c) ≡ has_stopped c
stopped_widen w (Stopped n) = refl
stopped_widen w (Going n d) = refl

stopped_end : (d : ℕ) (ts : List Tok) → has_stopped (scan d ts) ≡ has_end d ts
stopped_end d [] = refl
stopped_end d (tok.Text t ∷ ts) = stopped_widen (length t) (scan d ts) ∙ stopped_end d ts
stopped_end zero (tok.Break b ∷ ts) = refl
stopped_end (suc d) (tok.Break b ∷ ts) = stopped_widen (width_of_break b) (scan (suc d) ts) ∙ stopped_end (suc d) ts
stopped_end d (tok.Begin c o ∷ ts) = stopped_end (suc d) ts
stopped_end d (tok.End ∷ ts) = stopped_end (outer d) ts

unknown_going : (c : Scan) → size_of_scan c ≡ Unknown → has_stopped c ≡ false
unknown_going (Stopped n) h = cc
unknown_going (Going n d) h = refl

unknown_open : (t : Tok) (ts : List Tok) → size_of false t ts ≡ Unknown → IsOpen t ts
unknown_open (tok.Text t) ts h = cc
unknown_open (tok.Break b) ts h = sym (stopped_end 0 ts) ∙ sym (stopped_widen (width_of_break b) (scan 0 ts)) ∙ unknown_going (scan_of (tok.Break b) ts) h
unknown_open (tok.Begin c o) ts h = sym (stopped_end 1 ts) ∙ unknown_going (scan 1 ts) h
unknown_open tok.End ts h = cc

known_scan : (c : Scan) (k : ℤ) → size_of_scan c ≡ Known k → (r : List Tok) → k ≡ pos (min (with_rest c r) cap)
known_scan (Stopped n) k h r = cc
known_scan (Going n d) k h r = cc

forced_scan : (c : Scan) → size_of_scan c ≢ Forced
forced_scan (Stopped n) h = cc
forced_scan (Going n d) h = cc

measured_one : (t : Tok) (ts : List Tok) → IsMeasured (record { tok = t; size = size_of false t ts }) ts
measured_one t ts = record {
  known = λ k h r. known_scan (scan_of t ts) k h r ∙ ap (λ (n : ℕ). pos (min n cap)) (sym (measure_scan t ts r));
  unknown = unknown_open t ts;
  never_forced = forced_scan (scan_of t ts);
}

measured_sized : (w : List Tok) → AreMeasured (sized false w)
measured_sized [] = tt
measured_sized (t ∷ w) = (subst (λ (x : List Tok). IsMeasured (record { tok = t; size = size_of false t w }) x) (sym (toks_sized false w)) (measured_one t w), measured_sized w)

pub measured : (es : List Entry) (w : List Tok) → es ≡ sized false w → AreMeasured es
measured es w e = subst (λ (x : List Entry). AreMeasured x) (sym e) (measured_sized w)
