-- Tokens that are printed as ones that don't fit, whatever follows them.
use Rattle.std.proofs.Common.{◌≡◌, ℕ, ◌+◌, ◌<◌, Bool, true, List, [], ◌∷◌, length, refl, ap, subst, arith, lt-ltb}
use Rattle.lay_layout.specs.declared.layout.Break.{Break}
use Rattle.lay_layout.specs.declared.layout.Frame.{Frame}
use Rattle.lay_layout.specs.declared.layout.Tok.TheVariants as tok
use Rattle.lay_layout.specs.Document.{State, break_in, over, width_of_break}
use Rattle.lay_layout.specs.Machine.{act, measure, reach, top}
use Rattle.lay_stream.specs.declared.line.Line.{Line}
use Rattle.lay_printer.specs.Queued.{IsClear}

pub clear_text : (p : Line) (fs : List Frame) (t : List ℕ) → IsClear p fs (tok.Text t)
clear_text p fs t m a r = refl

-- the frame decides
pub clear_unasked : (p : Line) (fs : List Frame) (b : Break) → ((big : Bool) (s : State) → break_in (top fs) b big s ≡ break_in (top fs) b true s) → IsClear p fs (tok.Break b)
clear_unasked p fs b h m a r =
    let n = over (measure (tok.Break b) r) m.state in
    let k : break_in (top m.frames) b n m.state ≡ break_in (top m.frames) b true m.state =
    subst (λ (x : List Frame). break_in (top x) b n m.state ≡ break_in (top x) b true m.state) a.frames_are (h n m.state) in
    ap (λ (x : State). record { frames = m.frames; state = x }) k

-- the break alone is wider than the space
pub clear_wide : (p : Line) (fs : List Frame) (b : Break) → p.room < p.used + width_of_break b → IsClear p fs (tok.Break b)
clear_wide p fs b h m a r =
    let k : over (width_of_break b + reach 0 r) m.state ≡ true =
    lt-ltb m.state.room (m.state.used + (width_of_break b + reach 0 r)) (omega (arith, h, a.is.room, a.is.used)) in
    ap (λ (x : Bool). act (tok.Break b) x m) k

pub no_entries : {X : Type 0} (xs : List X) → length xs ≡ 0 → xs ≡ []
no_entries [] h = refl
no_entries (x ∷ xs) h = absurd (omega (arith, h))
