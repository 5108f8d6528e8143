-- No gap begins with a piece, and no piece with a gap. So a text has just one gap at its start.
use Rattle.std.proofs.Common.{◌≡◌, ◌≢◌, inl, inr, ℕ, ◌≤◌, List, [], ◌∷◌, ◌++◌, Bool, true, false, cond, not, ◌&&◌, ◌||◌, Some, None, sym, refl, ap, ◌∙◌, subst, arith}
use Rattle.std.specs.Prelude.{IsTrue, ◌==◌, nat_le}
use Rattle.std.specs.Char.{is_ascii_digit}
use Rattle.std.proofs.lemmas.Bool.{cases_Bool, and_parts, or_cases, eqb-true, eqb-false, leb-true, not-true}
use Rattle.unicode_ident.proofs.Computing.{unicode_ident}
use Rattle.lay_piece.specs.Chars.{begins, is_white, is_between, starts_word}
use Rattle.lay_piece.specs.Forms.{Had, is_punct_char}
use Rattle.lay_piece.specs.Found.{found, front_of, line_comment, block_comment, slash, is_star_or_slash}
use Rattle.lay_piece.specs.Gap.{InGap, Outside, Opening, Two, Three, Line, Block, BlockStar, Within, Spoilt, gap_step, gap_end, is_closed, is_closed_or_line, is_gap, is_last_gap}
use Rattle.lay_piece.specs.Quoted.{Star}
use Rattle.lay_piece.specs.Begins.{BeginsNoGap, BeginsNoPiece}
use Rattle.lay_piece.specs.declared.kind.Kind.{Kind}
use Rattle.lay_piece.specs.declared.kind.Kind.TheVariants.{Punct}
use Rattle.lay_piece.proofs.Complete.{no_starts}
use Rattle.lay_piece.proofs.Exact.{front_complete}
use Rattle.lay_piece.proofs.Booleans.{last_two}

-- No token begins with white space.
abbrev is_silent : ℕ → Bool
is_silent c = not (starts_word c) && not (is_ascii_digit c) && not (c == 34) && not (c == 39) && not (c == 47)
    && not (c == 40) && not (c == 41)
    && not (c == 91) && not (c == 93) && not (c == 123) && not (c == 125) && not (is_punct_char c)

at_number : (c n : ℕ) → c == n ≡ true → is_silent n ≡ true → is_silent c ≡ true
at_number c n e h = let P : ℕ → Type 0 = λ m. is_silent m ≡ true in subst P (sym (eqb-true c n e)) h

whites : (is_silent 9 ≡ true) × (is_silent 10 ≡ true) × (is_silent 11 ≡ true) × (is_silent 12 ≡ true)
    × (is_silent 13 ≡ true) × (is_silent 32 ≡ true)
    × (is_silent 133 ≡ true) × (is_silent 8206 ≡ true) × (is_silent 8207 ≡ true) × (is_silent 8232 ≡ true)
    × (is_silent 8233 ≡ true)
unfolding unicode_ident starts_word
whites = (refl, refl, refl, refl, refl, refl, refl, refl, refl, refl, refl)

within : (c : ℕ) → 9 ≤ c → c ≤ 13 → is_silent c ≡ true
within c low high =
    elim (cases_Bool (c == 9)) [
      | inl e ↦ at_number c 9 e whites.0
      | inr e9 ↦
          elim (cases_Bool (c == 10)) [
            | inl e ↦ at_number c 10 e whites.1
            | inr e10 ↦
                elim (cases_Bool (c == 11)) [
                  | inl e ↦ at_number c 11 e whites.2
                  | inr e11 ↦
                      elim (cases_Bool (c == 12)) [
                        | inl e ↦ at_number c 12 e whites.3
                        | inr e12 ↦
                            elim (cases_Bool (c == 13)) [
                              | inl e ↦ at_number c 13 e whites.4
                              | inr e13 ↦
                                  let n9 : c ≢ 9 =
                                  eqb-false c 9 e9 in let n10 : c ≢ 10 = eqb-false c 10 e10 in let n11 : c ≢ 11 =
                                  eqb-false c 11 e11 in
                                  let n12 : c ≢ 12 =
                                  eqb-false c 12 e12 in let n13 : c ≢ 13 = eqb-false c 13 e13 in
                                  absurd (omega arith)
                            ]
                      ]
                ]
          ]
    ]

white_silent : (c : ℕ) → is_white c ≡ true → is_silent c ≡ true
white_silent c h = elim (or_cases _ (c == 8233) h) [
  | inr e ↦ at_number c 8233 e whites.10
  | inl h ↦
      elim (or_cases _ (c == 8232) h) [
        | inr e ↦ at_number c 8232 e whites.9
        | inl h ↦
            elim (or_cases _ (c == 8207) h) [
              | inr e ↦ at_number c 8207 e whites.8
              | inl h ↦
                  elim (or_cases _ (c == 8206) h) [
                    | inr e ↦ at_number c 8206 e whites.7
                    | inl h ↦
                        elim (or_cases _ (c == 133) h) [
                          | inr e ↦ at_number c 133 e whites.6
                          | inl h ↦
                              elim (or_cases (is_between 9 13 c) (c == 32) h) [
                                | inr e ↦ at_number c 32 e whites.5
                                | inl h ↦
                                    let parts = and_parts (nat_le 9 c) _ h in
                                    within c (leb-true 9 c parts.0) (leb-true c 13 parts.1)
                              ]
                        ]
                  ]
            ]
      ]
]

white_none : (i : Bool) (c : ℕ) (cs : List ℕ) → is_white c ≡ true → front_of i (c ∷ cs) ≡ None
unfolding front_of
white_none i c cs h =
    let b = last_two _ (is_punct_char c) (white_silent c h) in
    let a10 = last_two _ (c == 125) b.0 in
    let a9 = last_two _ (c == 123) a10.0 in
    let a8 = last_two _ (c == 93) a9.0 in
    let a7 = last_two _ (c == 91) a8.0 in
    let a6 = last_two _ (c == 41) a7.0 in
    let a5 = last_two _ (c == 40) a6.0 in
    let a4 = last_two _ (c == 47) a5.0 in
    let a3 = last_two _ (c == 39) a4.0 in
    let a2 = last_two _ (c == 34) a3.0 in
    let a1 = last_two _ (is_ascii_digit c) a2.0 in
    let a0 = not-true (starts_word c) a1.0 in
    rw (a0, a1.1, a2.1, a3.1, a4.1, a5.1, a6.1, a7.1, a8.1, a9.1, a10.1, b.1) refl

-- From this state on no gap ends in the text, nor with it.
record IsDead (s : InGap) (cs : List ℕ) : Type 0 where
  closed : (h y : List ℕ) → cs ≡ h ++ y → is_closed (gap_end s h) ≡ false
  ended : is_closed_or_line (gap_end s cs) ≡ false

pub spoilt : (cs : List ℕ) → gap_end Spoilt cs ≡ Spoilt
unfolding gap_step
spoilt [] = refl
spoilt (c ∷ cs) = spoilt cs

dead_spoilt : (cs : List ℕ) → IsDead Spoilt cs
dead_spoilt cs = record { closed = λ h y e. ap is_closed (spoilt h); ended = ap is_closed_or_line (spoilt cs) }

dead_step : (s t : InGap) (c : ℕ) (cs : List ℕ) → is_closed s ≡ false → gap_step s c ≡ t → IsDead t cs
    → IsDead s (c ∷ cs)
dead_step s t c cs n e d = record {
  closed = λ h y w. go h y w;
  ended = ap (λ v. is_closed_or_line (gap_end v cs)) e ∙ d.ended;
}
  where
    go : (h y : List ℕ) → c ∷ cs ≡ h ++ y → is_closed (gap_end s h) ≡ false
    go [] y w = n
    go (x ∷ h) y w =
        let heads : x ≡ c = let f : c ≡ x = cc in sym f in
        let tails : cs ≡ h ++ y = cc in
        ap (λ v. is_closed (gap_end (gap_step s v) h)) heads ∙ ap (λ v. is_closed (gap_end v h)) e
        ∙ d.closed h y tails

dead_nil : (s : InGap) → is_closed s ≡ false → is_closed_or_line s ≡ false → IsDead s []
dead_nil s n m = record { closed = λ h y w. go h y w; ended = m }
  where
    go : (h y : List ℕ) → [] ≡ h ++ y → is_closed (gap_end s h) ≡ false
    go [] y w = n
    go (x ∷ h) y w = cc

-- A doc comment spoils a gap.
three_step : (c : ℕ) → c == 47 ≡ false → gap_step Three c ≡ Spoilt
unfolding gap_step
three_step c e = rw e refl

two_three : (c : ℕ) → c == 47 ≡ true → gap_step Two c ≡ Three
unfolding gap_step
two_three c e = let P : ℕ → Type 0 = λ v. gap_step Two v ≡ Three in subst P (sym (eqb-true c 47 e)) refl

two_inner : (c : ℕ) → c == 33 ≡ true → gap_step Two c ≡ Spoilt
unfolding gap_step
two_inner c e = let P : ℕ → Type 0 = λ v. gap_step Two v ≡ Spoilt in subst P (sym (eqb-true c 33 e)) refl

star_step : (c : ℕ) → c == 42 || c == 47 ≡ false → gap_step BlockStar c ≡ Spoilt
unfolding gap_step
star_step c e = by_case (c == 42) (c == 47) e
  where
    by_case : (a b : Bool) → a || b ≡ false → cond a (Within (Star 0)) (cond b Outside Spoilt) ≡ Spoilt
    by_case true b h = cc
    by_case false true h = cc
    by_case false false h = refl

block_star : (c : ℕ) → c == 42 ≡ true → gap_step Block c ≡ BlockStar
unfolding gap_step
block_star c e = let P : ℕ → Type 0 = λ v. gap_step Block v ≡ BlockStar in subst P (sym (eqb-true c 42 e)) refl

block_inner : (c : ℕ) → c == 33 ≡ true → gap_step Block c ≡ Spoilt
unfolding gap_step
block_inner c e = let P : ℕ → Type 0 = λ v. gap_step Block v ≡ Spoilt in subst P (sym (eqb-true c 33 e)) refl

dead_three : (cs : List ℕ) → begins (λ d. d == 47) cs ≡ false → IsDead Three cs
dead_three [] h = dead_nil Three refl refl
dead_three (c ∷ cs) h = dead_step Three Spoilt c cs refl (three_step c h) (dead_spoilt cs)

dead_two : (cs : List ℕ) (f : Kind × List ℕ) → line_comment cs ≡ Some f → IsDead Two cs
dead_two [] f h = cc
dead_two (c ∷ cs) f h = elim (cases_Bool (c == 33)) [
  | inl e ↦ dead_step Two Spoilt c cs refl (two_inner c e) (dead_spoilt cs)
  | inr n ↦ elim (cases_Bool (c == 47 && not (begins (λ d. d == 47) cs))) [
    | inl e ↦ let parts = and_parts (c == 47) _ e in
        dead_step Two Three c cs refl (two_three c parts.0) (dead_three cs (not-true _ parts.1))
    | inr e ↦ let g : line_comment (c ∷ cs) ≡ None = rw (n, e) refl in cc
  ]
]

dead_star : (cs : List ℕ) → begins is_star_or_slash cs ≡ false → IsDead BlockStar cs
dead_star [] h = dead_nil BlockStar refl refl
dead_star (c ∷ cs) h = dead_step BlockStar Spoilt c cs refl (star_step c h) (dead_spoilt cs)

dead_block : (cs : List ℕ) (f : Kind × List ℕ) → block_comment cs ≡ Some f → IsDead Block cs
dead_block [] f h = cc
dead_block (c ∷ cs) f h = elim (cases_Bool (c == 33)) [
  | inl e ↦ dead_step Block Spoilt c cs refl (block_inner c e) (dead_spoilt cs)
  | inr n ↦ elim (cases_Bool (c == 42 && not (begins is_star_or_slash cs))) [
    | inl e ↦ let parts = and_parts (c == 42) _ e in
        dead_step Block BlockStar c cs refl (block_star c parts.0) (dead_star cs (not-true _ parts.1))
    | inr e ↦ let g : block_comment (c ∷ cs) ≡ None = rw (n, e) refl in cc
  ]
]

opening_step : (c : ℕ) (a b : Bool) → c == 47 ≡ a → c == 42 ≡ b
    → gap_step Opening c ≡ cond a Two (cond b Block Spoilt)
unfolding gap_step
opening_step c a b e f = rw (e, f) refl

dead_opening : (cs : List ℕ) (f : Kind × List ℕ) → slash cs ≡ Some f → IsDead Opening cs
dead_opening [] f h = dead_nil Opening refl refl
dead_opening (c ∷ cs) f h = by_case (c == 47) (c == 42) refl refl (sym (slash_is c cs) ∙ h)
  where
    slash_is : (c : ℕ) (cs : List ℕ)
        → slash (c ∷ cs) ≡ cond (c == 47) (line_comment cs)
        (cond (c == 42) (block_comment cs) (found Punct (c ∷ cs)))
    slash_is c cs = refl

    by_case : (a b : Bool) → c == 47 ≡ a → c == 42 ≡ b
        → cond a (line_comment cs) (cond b (block_comment cs) (found Punct (c ∷ cs))) ≡ Some f
        → IsDead Opening (c ∷ cs)
    by_case true b e g h = dead_step Opening Two c cs refl (opening_step c true b e g) (dead_two cs f h)
    by_case false true e g h = dead_step Opening Block c cs refl (opening_step c false true e g) (dead_block cs f h)
    by_case false false e g h = dead_step Opening Spoilt c cs refl (opening_step c false false e g) (dead_spoilt cs)

slash_front : (i : Bool) (c : ℕ) (cs : List ℕ) → c == 47 ≡ true → front_of i (c ∷ cs) ≡ slash cs
unfolding front_of
slash_front i c cs e =
    let P : ℕ → Type 0 = λ v. front_of i (v ∷ cs) ≡ slash cs in
    subst P (sym (eqb-true c 47 e)) (rw no_starts.5 refl)

outside_step : (c : ℕ) (a b : Bool) → is_white c ≡ a → c == 47 ≡ b
    → gap_step Outside c ≡ cond a Outside (cond b Opening Spoilt)
unfolding gap_step
outside_step c a b e f = rw (e, f) refl

-- after the first character of a piece
behind_first : (i : Bool) (c : ℕ) (cs : List ℕ) (f : Kind × List ℕ) → front_of i (c ∷ cs) ≡ Some f
    → IsDead (gap_step Outside c) cs
behind_first i c cs f h = by_case (is_white c) (c == 47) refl refl
  where
    by_case : (a b : Bool) → is_white c ≡ a → c == 47 ≡ b → IsDead (gap_step Outside c) cs
    by_case true b e g = let n = white_none i c cs e in cc
    by_case false true e g =
        subst (λ (s : InGap). IsDead s cs) (sym (outside_step c false true e g))
        (dead_opening cs f (sym (slash_front i c cs g) ∙ h))
    by_case false false e g =
        subst (λ (s : InGap). IsDead s cs) (sym (outside_step c false false e g)) (dead_spoilt cs)

pub found_no_gap : (i : Bool) (cs : List ℕ) (f : Kind × List ℕ) → front_of i cs ≡ Some f → BeginsNoGap cs
unfolding front_of
found_no_gap i [] f h = cc
found_no_gap i (c ∷ cs) f h = record { none = λ g y w d. go g y w d; unended = dead.ended }
  where
    dead : IsDead (gap_step Outside c) cs
    dead = behind_first i c cs f h

    go : (g y : List ℕ) → c ∷ cs ≡ g ++ y → IsTrue (is_gap g) → g ≡ []
    go [] y w d = refl
    go (x ∷ g) y w d =
        let heads : x ≡ c = let e : c ≡ x = cc in sym e in
        let tails : cs ≡ g ++ y = cc in
        let n : is_closed (gap_end (gap_step Outside x) g) ≡ false =
        ap (λ v. is_closed (gap_end (gap_step Outside v) g)) heads ∙ dead.closed g y tails in
        cc

pub piece_no_gap : (k : Kind) (p r : List ℕ) (i : Bool) → Had k p r i → BeginsNoGap (p ++ r)
piece_no_gap k p r i h = found_no_gap i (p ++ r) (k, r) (front_complete k p r i h)

pub gap_no_piece : (g r : List ℕ) (i : Bool) → IsTrue (is_gap g) → g ≢ [] → BeginsNoPiece (g ++ r) i
gap_no_piece g r i h n = λ k p t w had. n ((piece_no_gap k p t i had).none g r (sym w) h)

-- gaps
pub gap_end-append : (s : InGap) (x y : List ℕ) → gap_end s (x ++ y) ≡ gap_end (gap_end s x) y
gap_end-append s [] y = refl
gap_end-append s (c ∷ x) y = gap_end-append (gap_step s c) x y

pub closed_is_outside : (s : InGap) → IsTrue (is_closed s) → s ≡ Outside
closed_is_outside Outside h = refl
closed_is_outside Opening h = cc
closed_is_outside Two h = cc
closed_is_outside Three h = cc
closed_is_outside Line h = cc
closed_is_outside Block h = cc
closed_is_outside BlockStar h = cc
closed_is_outside (Within b) h = cc
closed_is_outside Spoilt h = cc

-- what follows a gap of a last gap is one too
pub last_gap_rest : (g x : List ℕ) → IsTrue (is_gap g) → IsTrue (is_last_gap (g ++ x)) → IsTrue (is_last_gap x)
last_gap_rest g x h e =
    ap is_closed_or_line (sym (gap_end-append Outside g x ∙ ap (λ s. gap_end s x) (closed_is_outside _ h))) ∙ e

abbrev NoGap : List ℕ → Type 0
NoGap x = (h y : List ℕ) → x ≡ h ++ y → IsTrue (is_gap h) → h ≡ []

more_gap : (s : InGap) (g x x2 : List ℕ) (c : ℕ) → IsTrue (is_closed s) → IsTrue (is_closed (gap_end s (c ∷ g)))
    → x ≡ c ∷ g ++ x2 → NoGap x → c ∷ g ≡ []
more_gap s g x x2 c h e f n =
    n (c ∷ g) x2 f (let P : InGap → Type 0 = λ t. IsTrue (is_closed (gap_end t (c ∷ g))) in
    subst P (closed_is_outside s h) e)

gaps_same : (s : InGap) (g g2 x x2 : List ℕ) → g ++ x ≡ g2 ++ x2 → IsTrue (is_closed (gap_end s g))
    → IsTrue (is_closed (gap_end s g2)) → NoGap x → NoGap x2 → g ≡ g2
gaps_same s [] [] x x2 e h h2 n n2 = refl
gaps_same s [] (c ∷ g2) x x2 e h h2 n n2 = sym (more_gap s g2 x x2 c h h2 e n)
gaps_same s (c ∷ g) [] x x2 e h h2 n n2 = more_gap s g x2 x c h2 h (sym e) n2
gaps_same s (c ∷ g) (d ∷ g2) x x2 e h h2 n n2 =
    let heads : c ≡ d = cc in
    let tails : g ++ x ≡ g2 ++ x2 = cc in
    let P : ℕ → Type 0 = λ m. IsTrue (is_closed (gap_end (gap_step s m) g2)) in
    ap (λ v. v ∷ g) heads
    ∙ ap (λ v. d ∷ v) (gaps_same (gap_step s c) g g2 x x2 tails h (subst P (sym heads) h2) n n2)

pub gap_unique : (g g2 x x2 : List ℕ) → g ++ x ≡ g2 ++ x2 → IsTrue (is_gap g) → IsTrue (is_gap g2) → BeginsNoGap x
    → BeginsNoGap x2 → g ≡ g2
gap_unique g g2 x x2 e h h2 n n2 = gaps_same Outside g g2 x x2 e h h2 n.none n2.none
