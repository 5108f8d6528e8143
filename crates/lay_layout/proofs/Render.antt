-- The layout of a stream, token by token, is the layout of its document.
use Rattle.std.proofs.Common.{◌≡◌, ℕ, ℤ, Bool, suc, ◌+◌, List, [], ◌∷◌, ◌++◌, length, refl, ap, ap₂, subst, ◌∙◌, append_assoc, append-nil, arith}
use Rattle.lay_layout.specs.declared.layout.Break.{Break}
use Rattle.lay_layout.specs.declared.layout.Frame.{Frame}
use Rattle.lay_layout.specs.declared.layout.Tok.{Tok}
use Rattle.lay_layout.specs.declared.layout.Tok.TheVariants as tok
use Rattle.lay_layout.specs.Document.{Document, Empty, AddText, AddBreak, AddGroup, State, flat, stream, ahead, render, width_of_break, over, write, enter, break_in, outside, start, text_of, space_of}
use Rattle.lay_layout.specs.Machine.{measure, reach, play, Layout, layout_after, top, begun, text, shown, space}
use Rattle.std.proofs.Math.Seq.{take-append_seam, drop-append_seam}

pub reach_flat : (d : Document) (k : ℕ) (more : List Tok) → reach (suc k) (stream d ++ more) ≡ flat d + reach (suc k) more
reach_flat Empty k more = omega arith
reach_flat (AddText t rest) k more = omega (arith, reach_flat rest k more)
reach_flat (AddBreak b rest) k more = omega (arith, reach_flat rest k more)
reach_flat (AddGroup c o inner rest) k more =
    rw append_assoc (omega (arith, reach_flat inner (suc k) (tok.End ∷ (stream rest ++ more)), reach_flat rest k more))

pub reach_ahead : (d : Document) (more : List Tok) → reach 0 (stream d ++ more) ≡ ahead d (reach 0 more)
reach_ahead Empty more = refl
reach_ahead (AddText t rest) more = omega (arith, reach_ahead rest more)
reach_ahead (AddBreak b rest) more = refl
reach_ahead (AddGroup c o inner rest) more =
    rw append_assoc (omega (arith, reach_flat inner 0 (tok.End ∷ (stream rest ++ more)), reach_ahead rest more))

-- what the machine measures of a group and of a break
pub measured_group : (c : Bool) (o : ℤ) (inner rest : Document) (more : List Tok)
    → measure (tok.Begin c o) (stream inner ++ tok.End ∷ (stream rest ++ more)) ≡ flat inner + ahead rest (reach 0 more)
measured_group c o inner rest more =
    omega (arith, reach_flat inner 0 (tok.End ∷ (stream rest ++ more)), reach_ahead rest more)

pub measured_break : (b : Break) (rest : Document) (more : List Tok)
    → measure (tok.Break b) (stream rest ++ more) ≡ width_of_break b + ahead rest (reach 0 more)
measured_break b rest more = omega (arith, reach_ahead rest more)

reach_ahead_two : (d : Document) (more rest : List Tok) → reach 0 ((stream d ++ more) ++ rest) ≡ ahead d (reach 0 (more ++ rest))
reach_ahead_two d more rest = rw append_assoc (reach_ahead d (more ++ rest))

pub play_render : (d : Document) (fs : List Frame) (s : State) (more rest : List Tok) →
    play (stream d ++ more) rest (record { frames = fs; state = s })
    ≡ play more rest (record { frames = fs; state = render d (top fs) s (reach 0 (more ++ rest)) })
play_render Empty fs s more rest = refl
play_render (AddText t d) fs s more rest = play_render d fs (write t s) more rest
play_render (AddBreak b d) fs s more rest =
    ap (λ (n : ℕ). play (stream d ++ more) rest (record { frames = fs; state = break_in (top fs) b (over (width_of_break b + n) s) s })) (reach_ahead_two d more rest)
    ∙ play_render d fs (break_in (top fs) b (over (width_of_break b + ahead d (reach 0 (more ++ rest))) s) s) more rest
play_render (AddGroup c o inner d) fs s more rest =
    let tail : List Tok = tok.End ∷ (stream d ++ more) in
    let e1 = append_assoc (stream inner) (tok.End ∷ stream d) more in
    let e2 = reach_ahead_two d more rest in
    let follow = ahead d (reach 0 (more ++ rest)) in
    let e3 : reach 1 ((stream inner ++ tail) ++ rest) ≡ flat inner + follow =
    rw append_assoc (omega (arith, reach_flat inner 0 (tail ++ rest), e2)) in
    let f = enter (top fs) c o (over (flat inner + follow) s) in
    ap (λ (ts : List Tok). play ts rest (record { frames = enter (top fs) c o (over (reach 1 (ts ++ rest)) s) ∷ fs; state = s })) e1
    ∙ ap (λ (n : ℕ). play (stream inner ++ tail) rest (record { frames = enter (top fs) c o (over n s) ∷ fs; state = s })) e3
    ∙ play_render inner (f ∷ fs) s tail rest
    ∙ ap (λ (n : ℕ). play (stream d ++ more) rest (record { frames = fs; state = render inner f s n })) e2
    ∙ play_render d fs (render inner f s follow) more rest

-- the text of a document's stream is the document's
pub text_stream : (d : Document) → text (stream d) ≡ text_of d
text_stream d =
    let e = append-nil (stream d) in
    let h : play (stream d ++ []) [] begun ≡ play [] [] (record { frames = []; state = render d outside start 0 }) = play_render d [] start [] [] in
    let k : play (stream d) [] begun ≡ record { frames = []; state = render d outside start 0 } = rw e at h in
    ap (λ (m : Layout). m.state.text) k

-- where the tokens of a document come next, they are laid out as the document before what follows it
layout_front : (d : Document) (more : List Tok)
    → layout_after (stream d ++ more) (length (stream d)) ≡ record { frames = []; state = render d outside start (reach 0 more) }
layout_front d more =
    let P : List Tok → Type 0 = λ front. play front more begun ≡ record { frames = []; state = render d outside start (reach 0 more) } in
    let k : P (stream d) = subst P (append-nil (stream d)) (play_render d [] start [] more) in
    ap₂ (λ (front behind : List Tok). play front behind begun) (take-append_seam (stream d) more) (drop-append_seam (stream d) more) ∙ k

pub shown_front : (d : Document) (more : List Tok)
    → shown (stream d ++ more) (length (stream d)) ≡ (render d outside start (reach 0 more)).text
shown_front d more = ap (λ (m : Layout). m.state.text) (layout_front d more)

pub space_front : (d : Document) (more : List Tok)
    → space (stream d ++ more) (length (stream d)) ≡ space_of (render d outside start (reach 0 more))
space_front d more = ap (λ (m : Layout). space_of m.state) (layout_front d more)
