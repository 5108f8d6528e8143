-- A machine that reads tokens with a stack of the openers that are still open, the last one first.
use Rattle.std.proofs.Common.{◌≡◌, inl, inr, ℕ, Bool, true, false, cond, List, [], ◌∷◌, ◌++◌, Option, Some, None, IsTrue, IsFalse, refl, sym, ap, ◌∙◌, subst}
use Rattle.std.proofs.lemmas.Bool.{false≢true}
use Rattle.lay_token.specs.Delimiters as delimiters
use Rattle.lay_token.specs.Delimiters.{Trees, Paired, Balanced, LeaveOpen, Stray, Unclosed, UnbalancedAt, tokens_of, is_opener, is_closer, is_pair, is_stray}
use Rattle.lay_token.specs.declared.token.Token.{Token}
use Rattle.lay_nest.proofs.Delimiters.{closer_not_opener, pair_opener, pair_closer, pair_not_stray, plain_not_stray, stray_closer}

-- the openers still open, or the place of a closer that is no partner of the last of them
pub data Run : Type 0 where
  Open : List Token → Run
  Stopped : ℕ → Run

abbrev pub behind : List Token → List Token
behind [] = []
behind (t ∷ ts) = ts

abbrev pub step_open : List Token → Token → Run
step_open os t =
    cond (is_opener t.kind) (Open (t ∷ os))
    (cond (is_stray os t.kind) (Stopped t.at) (cond (is_closer t.kind) (Open (behind os)) (Open os)))

abbrev pub step : Run → Token → Run
step (Open os) t = step_open os t
step (Stopped at) t = Stopped at

abbrev pub run : Run → List Token → Run
run r [] = r
run r (t ∷ ts) = run (step r t) ts

-- where the tokens read are unbalanced, if no more follow
abbrev pub place : Run → Option ℕ
place (Stopped at) = Some at
place (Open []) = None
place (Open (t ∷ ts)) = Some t.at

abbrev pub is_open : Run → Bool
is_open (Open os) = true
is_open (Stopped at) = false

pub run-append : (r : Run) (ts us : List Token) → run r (ts ++ us) ≡ run (run r ts) us
run-append r [] us = refl
run-append r (t ∷ ts) us = run-append (step r t) ts us

pub run-stopped : (at : ℕ) (ts : List Token) → run (Stopped at) ts ≡ Stopped at
run-stopped at [] = refl
run-stopped at (t ∷ ts) = run-stopped at ts

step-opener : (os : List Token) (t : Token) → IsTrue (is_opener t.kind) → step_open os t ≡ Open (t ∷ os)
step-opener os t h = rw h refl

step-plain : (os : List Token) (t : Token) → IsFalse (is_opener t.kind) → IsFalse (is_closer t.kind)
    → step_open os t ≡ Open os
step-plain os t h g = let s = plain_not_stray os t.kind g in rw (h, s, g) refl

step-partner : (os : List Token) (o t : Token) → IsTrue (is_pair o.kind t.kind) → step_open (o ∷ os) t ≡ Open os
step-partner os o t h =
    let c = pair_closer o.kind t.kind h in
    let n = closer_not_opener t.kind c in
    let s = pair_not_stray o os t.kind h in
    rw (n, s, c) refl

step-stray : (os : List Token) (t : Token) → IsTrue (is_stray os t.kind) → step_open os t ≡ Stopped t.at
step-stray os t h = let n = closer_not_opener t.kind (stray_closer os t.kind h) in rw (n, h) refl

-- Token trees leave the stack as it was.
pub run-trees : (os : List Token) (trees : Trees) → Paired trees → run (Open os) (tokens_of trees) ≡ Open os
run-trees os delimiters.NoTree p = refl
run-trees os (delimiters.One t more) p =
    ap (λ r. run r (tokens_of more)) (step-plain os t p.0 p.1) ∙ run-trees os more p.2
run-trees os (delimiters.Nest o inside c more) p =
    ap (λ r. run r (tokens_of inside ++ c ∷ tokens_of more)) (step-opener os o (pair_opener o.kind c.kind p.0))
    ∙ run-append (Open (o ∷ os)) (tokens_of inside) (c ∷ tokens_of more)
    ∙ ap (λ r. run r (c ∷ tokens_of more)) (run-trees (o ∷ os) inside p.1)
    ∙ ap (λ r. run r (tokens_of more)) (step-partner os o c p.0)
    ∙ run-trees os more p.2

pub run-balanced : (os ts : List Token) → Balanced ts → run (Open os) ts ≡ Open os
run-balanced os ts b = ap (run (Open os)) b.2 ∙ run-trees os b.0 b.1

-- Tokens that leave openers open leave these on the stack.
pub run-left : (os ts : List Token) → LeaveOpen os ts → run (Open []) ts ≡ Open os
run-left [] ts l = run-balanced [] ts l
run-left (o ∷ os) ts l =
    ap (run (Open [])) l.2 ∙ run-append (Open []) l.0 (o ∷ l.1)
    ∙ ap (λ r. run r (o ∷ l.1)) (run-left os l.0 l.4)
    ∙ ap (λ r. run r l.1) (step-opener os o l.3)
    ∙ run-balanced (o ∷ os) l.1 l.5

place-stray : (ts : List Token) (at : ℕ) → Stray ts at → place (run (Open []) ts) ≡ Some at
place-stray ts at s =
    ap place (ap (run (Open [])) s.whole ∙ run-append (Open []) s.before (s.closer ∷ s.after)
    ∙ ap (λ r. run r (s.closer ∷ s.after)) (run-left s.open_ones s.before s.left)
    ∙ ap (λ r. run r s.after) (step-stray s.open_ones s.closer s.stray)
    ∙ run-stopped s.closer.at s.after)
    ∙ ap (λ n. Some n) (sym s.place)

place-unclosed : (ts : List Token) (at : ℕ) → Unclosed ts at → place (run (Open []) ts) ≡ Some at
place-unclosed ts at u = ap place (run-left (u.last ∷ u.others) ts u.left) ∙ ap (λ n. Some n) (sym u.place)

pub place-unbalanced : (ts : List Token) (at : ℕ) → UnbalancedAt ts at → place (run (Open []) ts) ≡ Some at
place-unbalanced ts at u = elim u [ inl s ↦ place-stray ts at s | inr c ↦ place-unclosed ts at c ]

-- Tokens are unbalanced at one place at most, and never balanced too.
pub once_unbalanced : (ts : List Token) (at other : ℕ) → UnbalancedAt ts at → UnbalancedAt ts other → at ≡ other
once_unbalanced ts at other u v =
    let same : Some at ≡ Some other = sym (place-unbalanced ts at u) ∙ place-unbalanced ts other v in cc

pub unbalanced_or_balanced : (ts : List Token) (at : ℕ) → UnbalancedAt ts at → Balanced ts → ⊥
unbalanced_or_balanced ts at u b =
    let both : Some at ≡ None = sym (place-unbalanced ts at u) ∙ ap place (run-balanced [] ts b) in cc

-- A run that has stopped does not go on.
open_before : (r : Run) (ts : List Token) → is_open (run r ts) ≡ true → is_open r ≡ true
open_before (Open os) ts h = refl
open_before (Stopped at) ts h = ap is_open (sym (run-stopped at ts)) ∙ h

-- Two runs that both go on to the first token that stops them go on over the same tokens.
pub one_stop : (r : Run) (ts us : List Token) (c d : Token) (x y : List Token) → is_open (run r ts) ≡ true
    → is_open (run r us) ≡ true
    → is_open (step (run r ts) c) ≡ false
    → is_open (step (run r us) d) ≡ false
    → ts ++ c ∷ x ≡ us ++ d ∷ y
    → (ts ≡ us) × (c ≡ d) × (x ≡ y)
one_stop r [] [] c d x y ot ou st su e = (refl, cc, cc)
one_stop r [] (u ∷ us) c d x y ot ou st su e =
    let same : c ≡ u = cc in
    absurd (false≢true (sym st ∙ ap (λ v. is_open (step r v)) same ∙ open_before (step r u) us ou))
one_stop r (t ∷ ts) [] c d x y ot ou st su e =
    let same : d ≡ t = cc in
    absurd (false≢true (sym su ∙ ap (λ v. is_open (step r v)) same ∙ open_before (step r t) ts ot))
one_stop r (t ∷ ts) (u ∷ us) c d x y ot ou st su e =
    let same : u ≡ t = cc in
    let rest : ts ++ c ∷ x ≡ us ++ d ∷ y = cc in
    let P : Token → Type 0 = λ v. is_open (run (step r v) us) ≡ true in
    let Q : Token → Type 0 = λ v. is_open (step (run (step r v) us) d) ≡ false in
    let parts = one_stop (step r t) ts us c d x y ot (subst P same ou) st (subst Q same su) rest in
    let head : ts ≡ us = parts.0 in
    (cc, parts.1, parts.2)

-- A closer stops a run with an empty stack.
pub stops : (ts : List Token) (c : Token) → Balanced ts → IsTrue (is_closer c.kind)
    → is_open (step (run (Open []) ts) c) ≡ false
stops ts c b h =
    ap (λ r. is_open (step r c)) (run-balanced [] ts b) ∙ ap is_open (step-stray [] c h)

pub goes_on : (ts : List Token) → Balanced ts → is_open (run (Open []) ts) ≡ true
goes_on ts b = ap is_open (run-balanced [] ts b)
