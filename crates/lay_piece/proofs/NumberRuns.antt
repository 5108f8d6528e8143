-- Runs of digits: the scan takes a run of the base.
use Rattle.std.proofs.Common.{◌≡◌, inl, inr, ℕ, List, [], ◌∷◌, Bool, true, false, cond, not, ◌&&◌, ◌||◌, Some, None, sym, refl, ap, ◌∙◌}
use Rattle.std.specs.Prelude.{◌==◌}
use Rattle.std.specs.List.{list_all, list_any}
use Rattle.std.proofs.lemmas.Bool.{cases_Bool, and_parts, or_cases, and_right, not-false}
use Rattle.lay_piece.specs.Chars.{begins, front, after}
use Rattle.lay_piece.specs.Number.{in_base, in_run, is_run_in}
use Rattle.lay_piece.specs.Found.{after_run, is_underscore}
use Rattle.lay_piece.specs.declared.piece.numbers.Base.{Base}
use Rattle.lay_piece.proofs.Fronts.{after-stops}
use Rattle.lay_piece.proofs.Characters.{base_in_run, underscore_in_run, underscore_no_digit}

abbrev ok : Base → ℕ → Bool
ok b c = in_base b c || c == 95

ok_in_run : (b : Base) (c : ℕ) → ok b c ≡ true → in_run b c ≡ true
ok_in_run b c h = elim (or_cases _ _ h) [ inl e ↦ base_in_run b c e | inr e ↦ underscore_in_run b c e ]

outside : (b : Base) (p : ℕ → Bool) (c : ℕ) → (p c ≡ true → in_run b c ≡ true) → in_run b c ≡ false → p c ≡ false
outside b p c h e = elim (cases_Bool (p c)) [ inl f ↦ let g = h f in cc | inr f ↦ f ]

all_is : (b : Base) (cs : List ℕ)
    → list_all (ok b) (front (in_run b) cs) ≡ not (begins (in_run b) (after (ok b) cs))
all_is b [] = refl
all_is b (c ∷ cs) = elim (cases_Bool (in_run b c)) [
  | inr e ↦ let f : ok b c ≡ false = outside b (ok b) c (ok_in_run b c) e in rw (e, f, e) refl
  | inl e ↦ elim (cases_Bool (ok b c)) [ inl f ↦ rw (e, f) (all_is b cs) | inr f ↦ rw (e, f, e) refl ]
]

after_is : (b : Base) (cs : List ℕ) → list_all (ok b) (front (in_run b) cs) ≡ true
    → after (ok b) cs ≡ after (in_run b) cs
after_is b [] h = refl
after_is b (c ∷ cs) h = elim (cases_Bool (in_run b c)) [
  | inr e ↦ let f : ok b c ≡ false = outside b (ok b) c (ok_in_run b c) e in rw (e, f) refl
  | inl e ↦
      let parts = and_parts (ok b c) (list_all (ok b) (front (in_run b) cs))
      (sym (ap (λ v. list_all (ok b) (cond v (c ∷ front (in_run b) cs) [])) e) ∙ h) in
      rw (e, parts.0) (after_is b cs parts.1)
]

any_is : (b : Base) (cs : List ℕ) → list_all (ok b) (front (in_run b) cs) ≡ true
    → list_any (in_base b) (front (in_run b) cs) ≡ begins (in_base b) (after is_underscore cs)
any_is b [] h = refl
any_is b (c ∷ cs) h = elim (cases_Bool (in_run b c)) [
  | inr e ↦
      let f : in_base b c ≡ false = outside b (in_base b) c (base_in_run b c) e in
      let g : c == 95 ≡ false = outside b is_underscore c (underscore_in_run b c) e in
      rw (e, g, f) refl
  | inl e ↦
      let parts = and_parts (ok b c) (list_all (ok b) (front (in_run b) cs))
      (sym (ap (λ v. list_all (ok b) (cond v (c ∷ front (in_run b) cs) [])) e) ∙ h) in
      elim (cases_Bool (c == 95)) [
        | inl g ↦ let f = underscore_no_digit b c g in rw (e, g, f) (any_is b cs parts.1)
        | inr g ↦ let f : in_base b c ≡ true = left (in_base b c) (c == 95) parts.0 g in rw (e, g, f) refl
      ]
]
  where
    left : (x y : Bool) → x || y ≡ true → y ≡ false → x ≡ true
    left true y h g = refl
    left false y h g = cc

pub run_is : (b : Base) (cs : List ℕ)
    → after_run b cs ≡ cond (is_run_in b (front (in_run b) cs)) (Some (after (in_run b) cs)) None
run_is b cs = elim (cases_Bool (list_all (ok b) (front (in_run b) cs))) [
  | inl e ↦ rw (after_is b cs e, after-stops (in_run b) cs, e, any_is b cs e) refl
  | inr e ↦
      let more : begins (in_run b) (after (ok b) cs) ≡ true = not-false _ (sym (all_is b cs) ∙ e) in
      let no : begins (in_base b) (after is_underscore cs) && not (begins (in_run b) (after (ok b) cs)) ≡ false =
      and_right _ _ (ap not more) in
      let none : is_run_in b (front (in_run b) cs) ≡ false = and_right _ _ e in
      rw (no, none) refl
]
