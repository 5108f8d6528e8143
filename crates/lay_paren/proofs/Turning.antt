-- Loops that put one item after the other: those before are put, and those after are as they were.
use Rattle.std.proofs.Common.{◌≡◌, ℕ, zero, suc, ◌+◌, ◌<◌, ◌≤◌, ◌⊎◌, inl, inr, Bool, true, false, Some, None, List, [], ◌∷◌, ◌++◌, map, length, take, drop, slice_set, slice_index_or, refl, sym, ap, ap₂, ◌∙◌, arith}
use Rattle.std.proofs.lemmas.Bool.{cases_lt, eq-eqb, le-ltb, lt-ltb, ne_eqb}
use Rattle.std.specs.Prelude.{eqb, ltb}
use Rattle.lay_node.specs.nodes.Types.{is_there}
use Rattle.lay_code.specs.nodes.Places.{before_op}
use Rattle.lay_code.specs.declared.conditions.Link.{Link}
use Rattle.lay_code.specs.declared.exprs.Expr.{Expr}
use Rattle.lay_code.specs.declared.exprs.Place.{Place}
use Rattle.lay_code.specs.declared.operators.Op.{Op}
use Rattle.lay_paren_defs.specs.loose.Slots.{Any}
use Rattle.lay_paren.specs.InPlace.{is_single, least_in, link_least, links_from, links_least, operand_before, operands_least, targets_least}
use Rattle.lay_paren_defs.specs.Traversal.{operand_at}

next : (i : ℕ) → i + 1 ≡ suc i
next i = omega arith

-- a list whose items were lent is what they became
pub refill : {A : Type 0} (xs ys : List A) → length ys ≡ length xs → take (length xs) (ys ++ drop (length ys) xs) ≡ ys
refill xs ys same = ap (λ (n : ℕ). take n (ys ++ drop (length ys) xs)) (sym same) ∙ front ys (drop (length ys) xs)
  where
    front : {A : Type 0} (ys zs : List A) → take (length ys) (ys ++ zs) ≡ ys
    front [] zs = refl
    front (y ∷ ys) zs = ap (λ us. y ∷ us) (front ys zs)

-- ---- each item by itself

module _ {A : Type 0} (f : A → A) where
  kept_before : (xs : List A) (i : ℕ) (d : A) → i < length xs → slice_index_or (map f (take i xs) ++ drop i xs) i d ≡ slice_index_or xs i d
  kept_before [] i d h = absurd (omega (arith, h))
  kept_before (x ∷ xs) zero d h = refl
  kept_before (x ∷ xs) (suc i) d h = kept_before xs i d (omega (arith, h))

  put : (xs : List A) (i : ℕ) (d : A) → i < length xs
      → slice_set (map f (take i xs) ++ drop i xs) i (f (slice_index_or xs i d)) ≡ map f (take (suc i) xs) ++ drop (suc i) xs
  put [] i d h = absurd (omega (arith, h))
  put (x ∷ xs) zero d h = refl
  put (x ∷ xs) (suc i) d h = ap (λ ys. f x ∷ ys) (put xs i d (omega (arith, h)))

  pub turn : (xs ys : List A) (i : ℕ) (new d : A) → ys ≡ map f (take i xs) ++ drop i xs → i < length xs
      → new ≡ f (slice_index_or ys i d) → slice_set ys i new ≡ map f (take (i + 1) xs) ++ drop (i + 1) xs
  turn xs ys i new d so_far within is =
      rw (is, so_far, next i) (ap (λ (x : A). slice_set (map f (take i xs) ++ drop i xs) i (f x)) (kept_before xs i d within) ∙ put xs i d within)

-- ---- each item by its place

-- the first of the items are put, each by its index
abbrev pub turned : {A : Type 0} → (ℕ → A → A) → ℕ → List A → List A
turned f zero xs = xs
turned f (suc n) [] = []
turned f (suc n) (x ∷ xs) = f zero x ∷ turned (λ i. f (suc i)) n xs

index_kept : {A : Type 0} (f : ℕ → A → A) (n : ℕ) (xs : List A) (d : A) → slice_index_or (turned f n xs) n d ≡ slice_index_or xs n d
index_kept f zero xs d = refl
index_kept f (suc n) [] d = refl
index_kept f (suc n) (x ∷ xs) d = index_kept (λ i. f (suc i)) n xs d

set_turned : {A : Type 0} (f : ℕ → A → A) (n : ℕ) (xs : List A) (d : A) → n < length xs
    → slice_set (turned f n xs) n (f n (slice_index_or xs n d)) ≡ turned f (suc n) xs
set_turned f n [] d h = absurd (omega (arith, h))
set_turned f zero (x ∷ xs) d h = refl
set_turned f (suc n) (x ∷ xs) d h = ap (λ ys. f zero x ∷ ys) (set_turned (λ i. f (suc i)) n xs d (omega (arith, h)))

pub turn_at : {A : Type 0} (f : ℕ → A → A) (xs ys : List A) (i : ℕ) (new d : A) → ys ≡ turned f i xs → i < length xs
    → new ≡ f i (slice_index_or ys i d) → slice_set ys i new ≡ turned f (i + 1) xs
turn_at f xs ys i new d so_far within is =
    rw (is, so_far, next i) (ap (λ x. slice_set (turned f i xs) i (f i x)) (index_kept f i xs d) ∙ set_turned f i xs d within)

-- all are put after the last
past : {A : Type 0} (f : ℕ → A → A) (i : ℕ) (xs : List A) → length xs ≤ i → turned f i xs ≡ turned f (length xs) xs
past f zero [] h = refl
past f (suc i) [] h = refl
past f zero (x ∷ xs) h = absurd (omega (arith, h))
past f (suc i) (x ∷ xs) h = ap (λ ys. f zero x ∷ ys) (past (λ j. f (suc j)) i xs (omega (arith, h)))

-- ---- operands

abbrev pub operand_put : Place → ℕ → List (Op × Expr) → ℕ → Op × Expr → Op × Expr
operand_put p level xs i x = (x.0, least_in x.1 (operand_at p level (drop (suc i) xs)) Any)

abbrev pub operand_with : Op → Expr → Op × Expr
operand_with op x = (op, x)

pub operands_put : (p : Place) (level : ℕ) (xs : List (Op × Expr)) → turned (operand_put p level xs) (length xs) xs ≡ operands_least p level xs
operands_put p level [] = refl
operands_put p level (x ∷ more) =
    ap (λ (ys : List (Op × Expr)). (x.0, least_in x.1 (operand_at p level more) Any) ∷ ys) (operands_put p level more)

pub operands_done : (p : Place) (level : ℕ) (xs ys : List (Op × Expr)) (i : ℕ) → ys ≡ turned (operand_put p level xs) i xs → length xs ≤ i
    → ys ≡ operands_least p level xs
operands_done p level xs ys i so_far end = so_far ∙ past (operand_put p level xs) i xs end ∙ operands_put p level xs

-- what stands at the next place is as it was
next_kept : {A : Type 0} (f : ℕ → A → A) (n : ℕ) (xs : List A) (d : A) → slice_index_or (turned f n xs) (suc n) d ≡ slice_index_or xs (suc n) d
next_kept f zero xs d = refl
next_kept f (suc n) [] d = refl
next_kept f (suc n) (x ∷ xs) d = next_kept (λ i. f (suc i)) n xs d

at_operator : (p : Place) (level : ℕ) (xs : List (Op × Expr)) (n : ℕ) (d : Op × Expr) → n < length xs
    → operand_before p level (Some (slice_index_or xs n d).0) ≡ operand_at p level (drop n xs)
at_operator p level [] n d h = absurd (omega (arith, h))
at_operator p level (x ∷ xs) zero d h = refl
at_operator p level (x ∷ xs) (suc n) d h = at_operator p level xs n d (omega (arith, h))

at_end : (p : Place) (level : ℕ) (xs : List (Op × Expr)) (n : ℕ) → length xs ≤ n → operand_before p level None ≡ operand_at p level (drop n xs)
at_end p level [] zero h = refl
at_end p level [] (suc n) h = refl
at_end p level (x ∷ xs) zero h = absurd (omega (arith, h))
at_end p level (x ∷ xs) (suc n) h = at_end p level xs n (omega (arith, h))

-- the place of an operand before the next of those that aren't put yet, or at the end
pub before_next : (p : Place) (level : ℕ) (f : ℕ → Op × Expr → Op × Expr) (xs ys : List (Op × Expr)) (i : ℕ) (d : Op × Expr) → ys ≡ turned f i xs
    → i + 1 < length xs → operand_before p level (Some (slice_index_or ys (i + 1) d).0) ≡ operand_at p level (drop (suc i) xs)
before_next p level f xs ys i d so_far within =
    ap (λ (zs : List (Op × Expr)). operand_before p level (Some (slice_index_or zs (i + 1) d).0)) so_far
    ∙ ap (λ (j : ℕ). operand_before p level (Some (slice_index_or (turned f i xs) j d).0)) (next i)
    ∙ ap (λ (x : Op × Expr). operand_before p level (Some x.0)) (next_kept f i xs d) ∙ at_operator p level xs (suc i) d (omega (arith, within))

pub before_end : (p : Place) (level : ℕ) (xs : List (Op × Expr)) (i : ℕ) → length xs ≤ i + 1
    → operand_before p level None ≡ operand_at p level (drop (suc i) xs)
before_end p level xs i last = at_end p level xs (suc i) (omega (arith, last))

-- an operand of the list that got what it lacks, in its place
pub operand_told : (p : Place) (level : ℕ) (xs : List (Op × Expr)) (i : ℕ) (x : Op × Expr) (old new : Expr) (at : Place) → old ≡ x.1
    → at ≡ operand_at p level (drop (suc i) xs) → new ≡ least_in old at Any → operand_with x.0 new ≡ operand_put p level xs i x
operand_told p level xs i x old new at old_is at_is is =
    ap (operand_with x.0) (is ∙ ap₂ (λ (e : Expr) (q : Place). least_in e q Any) old_is at_is)

-- ---- targets

-- The flag holds of the first alone.
abbrev pub first_at : Bool → ℕ → Bool
first_at first zero = first
first_at first (suc i) = false

abbrev pub target_put : Place → Bool → ℕ → Expr × Op → Expr × Op
target_put p first i x = (least_in x.0 (before_op 1 p.no_struct (first_at first i) false) Any, x.1)

abbrev pub target_with : Expr → Op → Expr × Op
target_with x op = (x, op)

-- after any target the flag doesn't hold
pub later_at : (first : Bool) (i : ℕ) → false ≡ first_at first (i + 1)
later_at first i = sym (ap (first_at first) (next i))

-- a target of the list that got what it lacks, in its place
pub target_told : (p : Place) (first : Bool) (i : ℕ) (x : Expr × Op) (old new : Expr) (at : Place) (now : Bool) → old ≡ x.0
    → at ≡ before_op 1 p.no_struct now false → now ≡ first_at first i → new ≡ least_in old at Any → target_with new x.1 ≡ target_put p first i x
target_told p first i x old new at now old_is at_is now_is is =
    ap (λ (e : Expr). target_with e x.1)
    (is ∙ ap₂ (λ (e : Expr) (q : Place). least_in e q Any) old_is (at_is ∙ ap (λ (b : Bool). before_op 1 p.no_struct b false) now_is))

later_put : (p : Place) (xs : List (Expr × Op)) → turned (λ i x. target_put p false (suc i) x) (length xs) xs ≡ targets_least p false xs
later_put p [] = refl
later_put p (x ∷ more) =
    ap (λ (ys : List (Expr × Op)). (least_in x.0 (before_op 1 p.no_struct false false) Any, x.1) ∷ ys) (later_put p more)

pub targets_put : (p : Place) (first : Bool) (xs : List (Expr × Op)) → turned (target_put p first) (length xs) xs ≡ targets_least p first xs
targets_put p first [] = refl
targets_put p first (x ∷ more) =
    ap (λ (ys : List (Expr × Op)). (least_in x.0 (before_op 1 p.no_struct first false) Any, x.1) ∷ ys) (later_put p more)

pub targets_done : (p : Place) (first : Bool) (xs ys : List (Expr × Op)) (i : ℕ) → ys ≡ turned (target_put p first) i xs → length xs ≤ i
    → ys ≡ targets_least p first xs
targets_done p first xs ys i so_far end = so_far ∙ past (target_put p first) i xs end ∙ targets_put p first xs

-- ---- links

abbrev pub link_put : Bool → List Link → ℕ → Link → Link
link_put alone xs i x = link_least alone (is_there (drop (suc i) xs)) x

-- a further link follows
pub more_behind : (xs : List Link) (i : ℕ) → ltb (i + 1) (length xs) ≡ is_there (drop (suc i) xs)
more_behind xs i = by (cases_lt (i + 1) (length xs))
  where
    there : (xs : List Link) (n : ℕ) → n < length xs → is_there (drop n xs) ≡ true
    there [] n h = absurd (omega (arith, h))
    there (x ∷ xs) zero h = refl
    there (x ∷ xs) (suc n) h = there xs n (omega (arith, h))

    not_there : (xs : List Link) (n : ℕ) → length xs ≤ n → is_there (drop n xs) ≡ false
    not_there [] zero h = refl
    not_there [] (suc n) h = refl
    not_there (x ∷ xs) zero h = absurd (omega (arith, h))
    not_there (x ∷ xs) (suc n) h = not_there xs n (omega (arith, h))

    by : (i + 1 < length xs) ⊎ (length xs ≤ i + 1) → ltb (i + 1) (length xs) ≡ is_there (drop (suc i) xs)
    by (inl h) = lt-ltb (i + 1) (length xs) h ∙ sym (there xs (suc i) (omega (arith, h)))
    by (inr h) = le-ltb (i + 1) (length xs) h ∙ sym (not_there xs (suc i) (omega (arith, h)))

pub one_alone : (xs : List Link) → eqb (length xs) 1 ≡ is_single xs
one_alone [] = ne_eqb (length {A = Link} []) 1 (λ h. omega (arith, h))
one_alone (x ∷ []) = eq-eqb (length (x ∷ [])) 1 (omega arith)
one_alone (x ∷ y ∷ more) = ne_eqb (length (x ∷ y ∷ more)) 1 (λ h. omega (arith, h))

-- a link of the list that got what it lacks, with what the list says of it
pub link_told : (xs : List Link) (i : ℕ) (x new : Link) → new ≡ link_least (eqb (length xs) 1) (ltb (i + 1) (length xs)) x
    → new ≡ link_put (is_single xs) xs i x
link_told xs i x new is = is ∙ ap₂ (λ (alone more : Bool). link_least alone more x) (one_alone xs) (more_behind xs i)

pub links_put : (alone : Bool) (xs : List Link) → turned (link_put alone xs) (length xs) xs ≡ links_from alone xs
links_put alone [] = refl
links_put alone (x ∷ more) = ap (λ (ys : List Link). link_least alone (is_there more) x ∷ ys) (links_put alone more)

pub links_done : (xs ys : List Link) (i : ℕ) → ys ≡ turned (link_put (is_single xs) xs) i xs → length xs ≤ i → ys ≡ links_least xs
links_done xs ys i so_far end = so_far ∙ past (link_put (is_single xs) xs) i xs end ∙ links_put (is_single xs) xs
