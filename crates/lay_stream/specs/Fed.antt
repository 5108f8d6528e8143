-- The meaning of calls on an Emit: which tokens of layout they append, and how they fail.
use Rattle.std.specs.Prelude.{◌≡◌, ℕ, ◌≤◌, List, ◌++◌, Result, Ok, Err}
use Rattle.lay_layout.specs.declared.layout.Tok.{Tok}
use Rattle.lay_layout.specs.Machine.{opened}

-- Where an Emit begins: the content of what it writes to, and the count of faults.
pub record Start : Type 0 where
  pub content : List ℕ
  pub faults : ℕ

-- What the contracts can say of an Emit S whose calls fail with F. `fed x start s`: x began at this
-- start, and was fed the tokens s since. It is a relation, because a printer doesn't keep what it
-- has written. `groups x`: how many groups are open. `faults x`: a count that never falls. `failed
-- x`: a call has failed. `cause x e y`: some calls lead from x to y, and the last one returned e.
-- `loans x`: the loans that x holds: that of what it writes to, and those that this holds in turn.
pub record Meanings (S F : Type 0) : Type 1 where
  pub fed : S → Start → List Tok → Type 0
  pub groups : S → ℕ
  pub faults : S → ℕ
  pub failed : S → Type 0
  pub cause : S → F → S → Type 0
  pub loans : S → List ℕ

-- Ok: the tokens ts were appended, whatever was fed before. If a later call fails, its cause is
-- also a cause of the whole run that begins with these calls.
pub record Puts {S F : Type 0} (m : Meanings S F) (old : S) (ts : List Tok) (new : S) : Type 0 where
  pub appends : (start : Start) (s : List Tok) → m.fed old start s → m.fed new start (s ++ ts)
  pub level : m.groups new ≡ opened ts (m.groups old)
  pub later : m.faults old ≤ m.faults new
  pub passes : (fault : F) (end : S) → m.cause new fault end → m.cause old fault end
  pub failed_before : m.failed new → m.failed old
  pub failed_after : m.failed old → m.failed new
  pub same_loans : m.loans new ≡ m.loans old

-- a prefix of ts was appended
pub record FedFront {S F : Type 0} (m : Meanings S F) (new : S) (start : Start) (s ts : List Tok) : Type 0 where
  pub front : List Tok
  pub back : List Tok
  pub both : front ++ back ≡ ts
  pub is_fed : m.fed new start (s ++ front)

-- Err: a prefix of the tokens ts was appended, the fault has a cause, and a call has failed.
pub record Stops {S F : Type 0} (m : Meanings S F) (old : S) (ts : List Tok) (fault : F) (new : S) : Type 0 where
  pub appends : (start : Start) (s : List Tok) → m.fed old start s → FedFront m new start s ts
  pub later : m.faults old ≤ m.faults new
  pub because : m.cause old fault new
  pub has_failed : m.failed new
  pub same_loans : m.loans new ≡ m.loans old

-- Calls that should append the tokens ts lead from old to new, and the last one returned r.
pub record Did {S F T : Type 0} (m : Meanings S F) (old : S) (ts : List Tok) (r : Result T F) (new : S) : Type 0 where
  pub puts : (x : T) → r ≡ Ok x → Puts m old ts new
  pub stops : (fault : F) → r ≡ Err fault → Stops m old ts fault new
