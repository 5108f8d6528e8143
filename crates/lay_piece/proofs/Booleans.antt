-- Tests, joined and taken apart.
use Rattle.std.proofs.Common.{◌≡◌, inl, inr, ℕ, Bool, true, false, cond, not, ◌&&◌, ◌||◌, refl, subst}
use Rattle.std.specs.Prelude.{◌==◌}
use Rattle.std.proofs.lemmas.Bool.{cases_Bool, eqb-true, eq-eqb, not-true}

pub not_not : (b : Bool) → not (not b) ≡ b
not_not true = refl
not_not false = refl

pub or_left : (a b : Bool) → a ≡ true → a || b ≡ true
or_left true b h = refl
or_left false b h = cc

pub or_right : (a b : Bool) → b ≡ true → a || b ≡ true
or_right true b h = refl
or_right false b h = h

pub neither : (a b : Bool) → a ≡ false → b ≡ false → a || b ≡ false
neither true b e f = cc
neither false b e f = f

pub last_two : (a b : Bool) → a && not b ≡ true → (a ≡ true) × (b ≡ false)
last_two false b h = cc
last_two true b h = (refl, not-true b h)

pub cond_true : (b x : Bool) → cond b x false ≡ true → (b ≡ true) × (x ≡ true)
cond_true true x h = (refl, h)
cond_true false x h = cc

pub equal_both : (a b : ℕ) → a == b ≡ true → b == a ≡ true
equal_both a b e = let P : ℕ → Type 0 = λ v. v == a ≡ true in subst P (eqb-true a b e) (eq-eqb a a refl)

pub apart_both : (a b : ℕ) → a == b ≡ false → b == a ≡ false
apart_both a b h = elim (cases_Bool (b == a)) [ inl e ↦ let g : a == b ≡ true = equal_both b a e in cc | inr e ↦ e ]
