-- Texts of documentation: what they hold, and where a comment's end closes them.
use Rattle.std.proofs.Common.{◌≡◌, ℕ, List, [], ◌∷◌, ◌++◌, Bool, true, false, ◌||◌, ◌==◌, ◌-◌, length, suc, get_or, arith, Some, None, refl, ap, ◌∙◌}
use Rattle.std.proofs.lemmas.Option.{get_or_from_slice_get}
use Rattle.std.specs.List.{list_any, slice_get}
use Rattle.lay_piece.specs.Chars.{is_nil}
use Rattle.lay_piece.specs.Scan.{Next, Go, End, Bad, run}
use Rattle.lay_piece.specs.Forms.{is_whole}
use Rattle.lay_piece.specs.Docs.{ends_in_blank, goes}
use Rattle.lay_piece.proofs.Runs.{next, run-cons}

-- A state with which the form goes on reads what follows.
pub run_goes : {S : Type 0} (step : S → ℕ → Next S) (s t : S) (c : ℕ) (cs : List ℕ) → goes (step s c) ≡ Some t
    → run step s (c ∷ cs) ≡ run step t cs
run_goes {S = S} step s t c cs e = run-cons step s c cs ∙ by_step (step s c) e
  where
    by_step : (n : Next S) → goes n ≡ Some t → next step cs n ≡ run step t cs
    by_step (Go u) h = ap (λ v. run step v cs) (cc)
    by_step End h = cc
    by_step Bad h = cc

-- A form that ends or is spoilt before more isn't whole.
pub run_stops : {S : Type 0} (step : S → ℕ → Next S) (s : S) (c d : ℕ) (cs ds : List ℕ) → goes (step s c) ≡ None
    → is_whole (run step s (c ∷ (cs ++ d ∷ ds))) ≡ false
run_stops {S = S} step s c d cs ds e = ap is_whole (run-cons step s c (cs ++ d ∷ ds)) ∙ by_step (step s c) e
  where
    more : (xs : List ℕ) → is_nil (xs ++ d ∷ ds) ≡ false
    more [] = refl
    more (x ∷ xs) = refl

    by_step : (n : Next S) → goes n ≡ None → is_whole (next step (cs ++ d ∷ ds) n) ≡ false
    by_step (Go u) h = cc
    by_step End h = more cs
    by_step Bad h = refl

-- A text without an LF holds a line end where it holds a CR.
pub line_ends : (cs : List ℕ) → list_any (λ c. c == 10) cs ≡ false
    → list_any (λ c. c == 13) cs ≡ list_any (λ c. c == 10 || c == 13) cs
line_ends [] e = refl
line_ends (c ∷ cs) e = by_first (c == 10) (c == 13) e (line_ends cs)
  where
    by_first : (lf cr : Bool) → lf || list_any (λ c. c == 10) cs ≡ false
        → (list_any (λ c. c == 10) cs ≡ false → list_any (λ c. c == 13) cs ≡ list_any (λ c. c == 10 || c == 13) cs)
        → cr || list_any (λ c. c == 13) cs ≡ (lf || cr) || list_any (λ c. c == 10 || c == 13) cs
    by_first true cr h more = cc
    by_first false cr h more = ap (λ v. cr || v) (more h)

-- the last of some characters
pub ends_last : (cs : List ℕ) (d : ℕ) → slice_get cs (length cs - 1) ≡ Some d → ends_in_blank cs ≡ (d == 32)
ends_last [] d e = cc
ends_last (c ∷ cs) d e =
    last_is c cs
    ∙ ap (λ v. v == 32) (ap (λ n. get_or (c ∷ cs) n d) (one_less (length cs)) ∙ get_or_from_slice_get (c ∷ cs) (length (c ∷ cs) - 1) d d e)
  where
    last_is : (b : ℕ) (bs : List ℕ) → ends_in_blank (b ∷ bs) ≡ (get_or (b ∷ bs) (length bs) d == 32)
    last_is b [] = refl
    last_is b (a ∷ bs) = last_is a bs

    one_less : (n : ℕ) → n ≡ suc n - 1
    one_less n = omega arith
