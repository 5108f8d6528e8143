-- What has been written is what is shown at token j, whatever follows; and each size is a measure.
use Rattle.std.proofs.Common.{◌≡◌, ℕ, suc, ◌≤◌, Bool, false, List, [], ◌∷◌, ◌++◌, length, drop, Option, refl, sym, ap, ◌∙◌, subst, append_assoc, length-append, arith}
use Rattle.std.proofs.Math.Seq.{take-append_seam, drop-append_seam}
use Rattle.lay_layout.specs.declared.layout.Frame.{Frame}
use Rattle.lay_layout.specs.declared.layout.Tok.{Tok}
use Rattle.lay_layout.specs.Machine.{Layout, play, layout_after, begun}
use Rattle.lay_ring.specs.declared.entry.Entry.{Entry}
use Rattle.lay_stream.specs.declared.line.Line.{Line}
use Rattle.lay_queue.specs.Scan.{sized}
use Rattle.lay_printer.specs.Queued.{Holds}
use Rattle.lay_stream.specs.Pages.{Is, Wrote}
use Rattle.lay_queue.specs.Closed.{toks_of}
use Rattle.lay_printer.specs.Queued.{Running}
use Rattle.lay_printer.specs.Printers.{at}
use Rattle.lay_printer.specs.Promises.{InStep}

length_sized : (w : List Tok) → length (sized false w) ≡ length w
length_sized [] = refl
length_sized (t ∷ w) = ap suc (length_sized w)

pub toks_sized : (e : Bool) (w : List Tok) → toks_of (sized e w) ≡ w
toks_sized e [] = refl
toks_sized e (t ∷ w) = ap (λ (x : List Tok). t ∷ x) (toks_sized e w)

pub held_le : (s : List Tok) (es : List Entry) (m : Layout) → Holds false s es m → length es ≤ length s
held_le s es m h = omega (arith, ap length h.all, length-append h.printed h.waits, ap length h.are_sized, length_sized h.waits)

pub after_at : (s : List Tok) (es : List Entry) (m : Layout) → Holds false s es m → (r : List Tok) → layout_after (s ++ r) (at s es) ≡ m
after_at s es m h r =
    let j : at s es ≡ length h.printed = omega (arith, ap length h.all, length-append h.printed h.waits, ap length h.are_sized, length_sized h.waits) in
    let e : s ++ r ≡ h.printed ++ (h.waits ++ r) = ap (λ (x : List Tok). x ++ r) (sym h.all) ∙ append_assoc h.printed h.waits r in
    ap (λ (k : ℕ). layout_after (s ++ r) k) j ∙ ap (λ (x : List Tok). layout_after x (length h.printed)) e
    ∙ ap (λ (x : List Tok). play x (drop (length h.printed) (h.printed ++ (h.waits ++ r))) begun) (take-append_seam h.printed (h.waits ++ r))
    ∙ ap (λ (x : List Tok). play h.printed x begun) (drop-append_seam h.printed (h.waits ++ r)) ∙ h.shown r tt

pub in_step : (es : List Entry) (p : Line) (fs : List Frame) (w : Option (List ℕ)) (content : List ℕ) (s : List Tok) → Running false es p fs w content s → (r : List Tok) → InStep es p w content s r
in_step es p fs w content s h r =
    let e = after_at s es h.layout h.holds r in
    let k = h.holds in
    let j : at s es ≡ length k.printed = omega (arith, ap length k.all, length-append k.printed k.waits, ap length k.are_sized, length_sized k.waits) in
    record {
      grown = subst (λ (m : Layout). Wrote w content m.state.text) (sym e) h.wrote;
      line = subst (λ (m : Layout). Is p m.state) (sym e) h.at.is;
      waits = ap toks_of k.are_sized ∙ toks_sized false k.waits ∙ sym (drop-append_seam k.printed k.waits) ∙ ap (λ (x : List Tok). drop (length k.printed) x) k.all ∙ ap (λ (i : ℕ). drop i s) (sym j);
    }
