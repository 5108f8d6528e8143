-- The longest run of characters at the start of a text, and what follows it.
use Rattle.std.proofs.Common.{◌≡◌, inl, inr, ℕ, List, [], ◌∷◌, ◌++◌, Bool, true, false, cond, not, refl, ap}
use Rattle.std.specs.List.{list_all}
use Rattle.std.proofs.lemmas.Bool.{cases_Bool, and_parts}
use Rattle.lay_piece.specs.Chars.{begins, front, after, is_nil}

pub front-after : (p : ℕ → Bool) (cs : List ℕ) → cs ≡ front p cs ++ after p cs
front-after p [] = refl
front-after p (c ∷ cs) = elim (cases_Bool (p c)) [
  | inl e ↦ rw e (ap (λ l. c ∷ l) (front-after p cs))
  | inr e ↦ rw e refl
]

pub each-front : (p : ℕ → Bool) (cs : List ℕ) → list_all p (front p cs) ≡ true
each-front p [] = refl
each-front p (c ∷ cs) = elim (cases_Bool (p c)) [
  | inl e ↦ rw (e, e) (each-front p cs)
  | inr e ↦ rw e refl
]

pub after-stops : (p : ℕ → Bool) (cs : List ℕ) → begins p (after p cs) ≡ false
after-stops p [] = refl
after-stops p (c ∷ cs) = elim (cases_Bool (p c)) [
  | inl e ↦ rw e (after-stops p cs)
  | inr e ↦ rw e e
]

pub after-append : (p : ℕ → Bool) (ds r : List ℕ) → list_all p ds ≡ true → begins p r ≡ false
    → after p (ds ++ r) ≡ r
after-append p [] [] h g = refl
after-append p [] (c ∷ r) h g = rw g refl
after-append p (d ∷ ds) r h g = let a = and_parts (p d) (list_all p ds) h in rw a.0 (after-append p ds r a.1 g)

pub front-append : (p : ℕ → Bool) (ds r : List ℕ) → list_all p ds ≡ true → begins p r ≡ false
    → front p (ds ++ r) ≡ ds
front-append p [] [] h g = refl
front-append p [] (c ∷ r) h g = rw g refl
front-append p (d ∷ ds) r h g =
    let a = and_parts (p d) (list_all p ds) h in rw a.0 (ap (λ l. d ∷ l) (front-append p ds r a.1 g))

pub begins-append : (p : ℕ → Bool) (ds r : List ℕ) → list_all p ds ≡ true → begins p r ≡ false
    → begins p (ds ++ r) ≡ not (is_nil ds)
begins-append p [] r h g = g
begins-append p (d ∷ ds) r h g = (and_parts (p d) (list_all p ds) h).0

pub nil_front : (p : ℕ → Bool) (cs : List ℕ) → is_nil (front p cs) ≡ not (begins p cs)
nil_front p [] = refl
nil_front p (c ∷ cs) = elim (cases_Bool (p c)) [ inl e ↦ rw e refl | inr e ↦ rw e refl ]

-- a run before a rest that doesn't go on with it
pub after-more : (p : ℕ → Bool) (x r : List ℕ) → begins p r ≡ false → after p (x ++ r) ≡ after p x ++ r
after-more p [] [] h = refl
after-more p [] (c ∷ r) h = rw h refl
after-more p (c ∷ x) r h = by_case (p c) (after-more p x r h)
  where
    by_case : (b : Bool) → after p (x ++ r) ≡ after p x ++ r
        → cond b (after p (x ++ r)) (c ∷ (x ++ r)) ≡ cond b (after p x) (c ∷ x) ++ r
    by_case true e = e
    by_case false e = refl

pub front-more : (p : ℕ → Bool) (x r : List ℕ) → begins p r ≡ false → front p (x ++ r) ≡ front p x
front-more p [] [] h = refl
front-more p [] (c ∷ r) h = rw h refl
front-more p (c ∷ x) r h = by_case (p c) (front-more p x r h)
  where
    by_case : (b : Bool) → front p (x ++ r) ≡ front p x
        → cond b (c ∷ front p (x ++ r)) [] ≡ cond b (c ∷ front p x) []
    by_case true e = ap (λ l. c ∷ l) e
    by_case false e = refl

-- a run of fewer characters, and then one of more
pub after-within : (p q : ℕ → Bool) (cs : List ℕ) → ((c : ℕ) → p c ≡ true → q c ≡ true)
    → after q (after p cs) ≡ after q cs
after-within p q [] h = refl
after-within p q (c ∷ cs) h = elim (cases_Bool (p c)) [
  | inl e ↦ let f = h c e in rw (e, f) (after-within p q cs h)
  | inr e ↦ rw e refl
]

pub begins_left : (p : ℕ → Bool) (x y : List ℕ) → begins p (x ++ y) ≡ false → begins p x ≡ false
begins_left p [] y h = refl
begins_left p (c ∷ x) y h = h
