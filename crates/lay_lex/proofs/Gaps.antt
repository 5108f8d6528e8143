-- The scanner of gaps finds what the definitions say.
use Rattle.std.proofs.Common.{◌≡◌, ◌≢◌, ◌⊎◌, inl, inr, ℕ, List, [], ◌∷◌, ◌++◌, Bool, true, false, cond, ◌&&◌, ◌≤◌, nat_le, leb-true, arith, Some, None, sym, refl, ap, ◌∙◌, subst}
use Rattle.std.specs.Prelude.{IsTrue, IsFalse}
use Rattle.std.proofs.lemmas.Bool.{agree_below, agree_below_at, and_parts, cases_Bool, ne_eqb}
use Rattle.std.specs.Char.{is_ascii_graphic}
use Rattle.lay_piece.specs.Chars.{is_white}
use Rattle.lay_piece.specs.Gap.{InGap, Outside, Spoilt, gap_step, gap_end, is_closed, is_closed_or_line, is_gap, is_last_gap}
use Rattle.lay_piece.specs.Begins.{BeginsNoGap}
use Rattle.lay_piece.proofs.GapLaws.{closed_is_outside}
use Rattle.lay_lex.specs.Gap.{rest_of}

graphic_table : agree_below (λ c. is_ascii_graphic c && is_white c) (λ _. false) 128 ≡ true
graphic_table = refl

pub graphic_stays : (c : ℕ) → is_ascii_graphic c ≡ true → is_white c ≡ false
graphic_stays c h =
    let most : c ≤ 126 = leb-true c 126 (and_parts (nat_le 33 c) (nat_le c 126) h).1 in
    sym (ap (λ b. b && is_white c) h)
    ∙ agree_below_at (λ d. is_ascii_graphic d && is_white d) (λ _. false) 128 c graphic_table (omega (arith, most))

pub rest_of-spoilt : (closed cs : List ℕ) → rest_of Spoilt closed cs ≡ Some closed
unfolding gap_step
rest_of-spoilt closed [] = refl
rest_of-spoilt closed (c ∷ cs) = rest_of-spoilt closed cs

-- a character of the gap
pub rest_of-step : (s t : InGap) (closed text cs : List ℕ) (c : ℕ) (b : Bool) → text ≡ c ∷ cs → t ≡ gap_step s c
    → is_closed t ≡ b
    → rest_of t (cond b cs closed) cs ≡ rest_of s closed text
rest_of-step s t closed text cs c b w e h = sym (
    ap (rest_of s closed) w
    ∙ ap (λ u. rest_of u (cond (is_closed u) cs closed) cs) (sym e)
    ∙ ap (λ v. rest_of t (cond v cs closed) cs) h)

white_stays : (c : ℕ) → is_white c ≡ true → Outside ≡ gap_step Outside c
unfolding gap_step
white_stays c h = rw h refl

other_spoils : (c : ℕ) → is_white c ≡ false → c ≢ 47 → Spoilt ≡ gap_step Outside c
unfolding gap_step
other_spoils c h n = rw (h, ne_eqb c 47 n) refl

-- white space at the beginning
pub rest_of-white : (text cs : List ℕ) (c : ℕ) → text ≡ c ∷ cs → is_white c ≡ true
    → rest_of Outside cs cs ≡ rest_of Outside text text
rest_of-white text cs c e h = rest_of-step Outside Outside text text cs c true e (white_stays c h) refl

-- a character at the beginning that no gap begins with
pub rest_of-other : (text cs : List ℕ) (c : ℕ) → text ≡ c ∷ cs → is_white c ≡ false → c ≢ 47
    → rest_of Outside text text ≡ Some text
rest_of-other text cs c e h n =
    sym (rest_of-step Outside Spoilt text text cs c false e (other_spoils c h n) refl) ∙ rest_of-spoilt text cs

-- no prefix of the text closes the gap, and the text may not end in it
pub record Held (s : InGap) (cs : List ℕ) : Type 0 where
  pub none : (gap rest : List ℕ) → cs ≡ gap ++ rest → IsTrue (is_closed (gap_end s gap)) → gap ≡ []
  pub unended : IsFalse (is_closed_or_line (gap_end s cs))

-- a prefix of the text closes the gap, and no longer one does
pub record Passed (s : InGap) (cs r : List ℕ) : Type 0 where
  pub gap : List ℕ
  pub whole : cs ≡ gap ++ r
  pub ended : gap_end s gap ≡ Outside
  pub held : Held Outside r

held_nil : (s : InGap) → is_closed_or_line s ≡ false → Held s []
held_nil s h = record {
  none = λ gap rest e g. empty gap rest e;
  unended = h;
}
  where
    empty : (gap rest : List ℕ) → [] ≡ gap ++ rest → gap ≡ []
    empty [] rest e = refl
    empty (c ∷ gap) rest e = cc

held_cons : (s : InGap) (c : ℕ) (cs : List ℕ) → is_closed (gap_step s c) ≡ false → Held (gap_step s c) cs → Held s (c ∷ cs)
held_cons s c cs h g = record { none = none; unended = g.unended }
  where
    none : (gap rest : List ℕ) → c ∷ cs ≡ gap ++ rest → IsTrue (is_closed (gap_end s gap)) → gap ≡ []
    none [] rest e k = refl
    none (d ∷ gap) rest e k =
        let head : d ≡ c = cc in
        let tail : cs ≡ gap ++ rest = cc in
        let P : ℕ → Type 0 = λ x. IsTrue (is_closed (gap_end (gap_step s x) gap)) in
        let nil = g.none gap rest tail (subst P head k) in
        let Q : List ℕ → Type 0 = λ x. IsTrue (is_closed (gap_end (gap_step s c) x)) in
        let closed : is_closed (gap_step s c) ≡ true = subst Q nil (subst P head k) in
        cc

longer : (s : InGap) (c : ℕ) (cs r : List ℕ) → Passed (gap_step s c) cs r → Passed s (c ∷ cs) r
longer s c cs r p = record { gap = c ∷ p.gap; whole = ap (λ l. c ∷ l) p.whole; ended = p.ended; held = p.held }

abbrev Finds : InGap → List ℕ → List ℕ → List ℕ → Type 0
Finds s closed cs r = ((closed ≡ r) × Held s cs) ⊎ Passed s cs r

finds : (s : InGap) (closed cs r : List ℕ) → rest_of s closed cs ≡ Some r → Finds s closed cs r
finds s closed [] r h = elim (cases_Bool (is_closed_or_line s)) [
  | inl e ↦ absurd (let f : None ≡ Some r = sym (ap (λ b. cond b None (Some closed)) e) ∙ h in cc)
  | inr e ↦ (let f : Some closed ≡ Some r = sym (ap (λ b. cond b None (Some closed)) e) ∙ h in inl (cc, held_nil s e))
]
finds s closed (c ∷ cs) r h = elim (cases_Bool (is_closed (gap_step s c))) [
  | inl e ↦
      let out : gap_step s c ≡ Outside = closed_is_outside (gap_step s c) e in
      let next : rest_of (gap_step s c) cs cs ≡ Some r = sym (ap (λ b. rest_of (gap_step s c) (cond b cs closed) cs) e) ∙ h in
      at_close out (finds (gap_step s c) cs cs r next)
  | inr e ↦
      let next : rest_of (gap_step s c) closed cs ≡ Some r = sym (ap (λ b. rest_of (gap_step s c) (cond b cs closed) cs) e) ∙ h in
      further e (finds (gap_step s c) closed cs r next)
]
  where
    at_close : gap_step s c ≡ Outside → Finds (gap_step s c) cs cs r → Finds s closed (c ∷ cs) r
    at_close out (inl p) =
        let P : InGap → Type 0 = λ t. Held t cs in
        let Q : List ℕ → Type 0 = λ l. Held Outside l in
        inr (record { gap = c ∷ []; whole = ap (λ l. c ∷ l) p.0; ended = out; held = subst Q p.0 (subst P out p.1) })
    at_close out (inr p) = inr (longer s c cs r p)

    further : is_closed (gap_step s c) ≡ false → Finds (gap_step s c) closed cs r → Finds s closed (c ∷ cs) r
    further e (inl p) = inl (p.0, held_cons s c cs e p.1)
    further e (inr p) = inr (longer s c cs r p)

none_left : (s : InGap) (closed cs : List ℕ) → rest_of s closed cs ≡ None → is_closed_or_line (gap_end s cs) ≡ true
none_left s closed [] h = elim (cases_Bool (is_closed_or_line s)) [
  | inl e ↦ e
  | inr e ↦ absurd (let f : Some closed ≡ None = sym (ap (λ b. cond b None (Some closed)) e) ∙ h in cc)
]
none_left s closed (c ∷ cs) h = none_left (gap_step s c) (cond (is_closed (gap_step s c)) cs closed) cs h

-- where nothing is left, the gap ends the whole text
pub last_gap : (text : List ℕ) → rest_of Outside text text ≡ None → IsTrue (is_last_gap text)
last_gap text h = none_left Outside text text h

-- the longest gap at the beginning
pub record Longest (text rest : List ℕ) : Type 0 where
  pub gap : List ℕ
  pub whole : text ≡ gap ++ rest
  pub closed : IsTrue (is_gap gap)
  pub no_more : BeginsNoGap rest

no_gap : (r : List ℕ) → Held Outside r → BeginsNoGap r
no_gap r h = record { none = h.none; unended = h.unended }

pub longest : (text rest : List ℕ) → rest_of Outside text text ≡ Some rest → Longest text rest
longest text rest h = from (finds Outside text text rest h)
  where
    from : Finds Outside text text rest → Longest text rest
    from (inl p) =
        let P : List ℕ → Type 0 = λ l. Held Outside l in
        record { gap = []; whole = p.0; closed = refl; no_more = no_gap rest (subst P p.0 p.1) }
    from (inr p) = record { gap = p.gap; whole = p.whole; closed = ap is_closed p.ended; no_more = no_gap rest p.held }
