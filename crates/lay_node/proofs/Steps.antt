-- Steps that may fail, what they found, and what is found after it.
use Rattle.std.proofs.Common.{◌≡◌, ℕ, Bool, true, false, List, [], ◌∷◌, ◌++◌, ◌⊎◌, inl, inr, Option, Some, None, refl, sym, ap, subst, ◌∙◌, cond, append_assoc, append-nil}
use Rattle.std.specs.Prelude.{option_and_then}

abbrev pub or_else : {A : Type 0} → A → Option A → A
or_else d None = d
or_else d (Some x) = x

pub got_same : {A B : Type 0} (a c : A) (b d : B) → ◌≡◌ {A = Option (A × B)} (Some (a, b)) (Some (c, d)) → (a ≡ c) × (b ≡ d)
got_same {A} {B} a c b d h =
    let e : ◌≡◌ {A = A × B} (a, b) (c, d) = ap (or_else (a, b)) h in (ap (λ (p : A × B). p.0) e, ap (λ (p : A × B). p.1) e)

-- a node that was read, its need, and what is left
pub read_same : {A B : Type 0} (a c : A) (m n : ℕ) (b d : B) → ◌≡◌ {A = Option ((A × ℕ) × B)} (Some ((a, m), b)) (Some ((c, n), d))
    → (a ≡ c) × (m ≡ n) × (b ≡ d)
read_same {A} {B} a c m n b d h =
    let e = got_same {A = A × ℕ} (a, m) (c, n) b d h in (ap (λ (p : A × ℕ). p.0) e.0, ap (λ (p : A × ℕ). p.1) e.0, e.1)

-- what holds of what was found holds of what it is
pub same_some : {R : Type 0} (P : R → Type 0) (a b : R) → Some a ≡ Some b → P a → P b
same_some P a b h p = subst P (ap (or_else a) h) p

pub chosen : {A : Type 0} (b : Bool) (x y z : A) → cond b x y ≡ z → ((b ≡ true) × (x ≡ z)) ⊎ ((b ≡ false) × (y ≡ z))
chosen true x y z h = inl (refl, h)
chosen false x y z h = inr (refl, h)

pub bind_some : {A B : Type 0} (o : Option A) (f : A → Option B) (y : B) → option_and_then f o ≡ Some y
    → (x : A) × (o ≡ Some x) × (f x ≡ Some y)
bind_some None f y h = absurd (cc)
bind_some (Some x) f y h = (x, refl, h)

pub one_more : {A : Type 0} (found : List A) (x : A) (more all : List A) → all ≡ (found ++ x ∷ []) ++ more → all ≡ found ++ x ∷ more
one_more found x more all e = e ∙ append_assoc found (x ∷ []) more

pub no_more : {A : Type 0} (found all : List A) → found ≡ all → all ≡ found ++ []
no_more found all e = sym e ∙ sym (append-nil found)
