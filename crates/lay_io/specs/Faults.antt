-- Counts of faults, and that each error has a fault as its cause.
use Rattle.std.specs.Prelude.{ℕ, ◌≡◌, ◌+◌, ◌-◌, ◌^◌, ◌≤◌, min, OnOk, OnErr, Result}

-- the count plus one; a count of 64 bits stays at its greatest value
abbrev pub one_more : ℕ → ℕ
one_more count = min (count + 1) (2 ^ 64 - 1)

-- A count of 64 bits rose, or is at its greatest value.
abbrev pub Rose : ℕ → ℕ → Type 0
Rose before now = one_more before ≤ now

-- The count never falls. A call returns an error only where the count rose.
pub record HasCause {T E : Type 0} (before now : ℕ) (result : Result T E) : Type 0 where
  pub later : before ≤ now
  pub failed : OnErr result (Rose before now)

-- An error counts as one fault. Nothing else is counted.
pub record CountsOnce {T E : Type 0} (before now : ℕ) (result : Result T E) : Type 0 where
  pub uncounted : OnOk result (now ≡ before)
  pub once : OnErr result (now ≡ one_more before)

-- The call doesn't change the loan that an object holds.
abbrev pub SameLoan : ℕ → ℕ → Type 0
SameLoan before now = now ≡ before
