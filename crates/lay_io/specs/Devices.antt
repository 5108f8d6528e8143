-- Test objects in memory, of which given calls fail, and what one call of such an object does.
use Rattle.std.specs.Prelude.{ℕ, ◌≡◌, ◌<◌, ◌≤◌, ◌↔◌, List, length, take, min, Contains, Result, IsOk, IsErr, OnOk, OnErr}
use Rattle.lay_io.specs.Faults.{one_more, CountsOnce}
use Rattle.lay_io.specs.Kept.{Kept, kept_behind, untold}
use Rattle.lay_io.specs.declared.outside.Failed.{Failed}
use Rattle.lay_io.specs.declared.inputs.MemoryInputs.{MemoryInputs}

-- A write of a sink that never fails. A piece that fits is kept. After one that doesn't fit, the
-- content is unknown.
pub record QuietWrite (before : Kept) (piece : List ℕ) (result : Result (Unit {0}) Failed) (now : Kept) : Type 0 where
  pub never : IsOk result
  pub fits : length piece ≤ before.spare → now ≡ kept_behind before piece
  pub too_much : before.spare < length piece → now ≡ untold before

-- A sink with faults: what it keeps, the numbers of the writes that fail, how much a failing write
-- keeps, and the counts of writes and of faults so far.
pub record Device : Type 0 where
  pub kept : Kept
  pub fail : List ℕ
  pub keep : ℕ
  pub writes : ℕ
  pub faults : ℕ

-- A write of a sink with faults.
pub record DeviceWrite (before : Device) (piece : List ℕ) (result : Result (Unit {0}) Failed) (now : Device) : Type 0 where
  -- It fails exactly where its number is one of those that fail.
  pub failed : IsErr result ↔ Contains before.fail before.writes
  -- Otherwise a piece that fits is kept. After one that doesn't fit, the content is unknown.
  pub fits : OnOk result (length piece ≤ before.kept.spare → now.kept ≡ kept_behind before.kept piece)
  pub too_much : OnOk result (before.kept.spare < length piece → now.kept ≡ untold before.kept)
  -- Where it fails, it keeps a prefix of the piece: no more than a failing write keeps, and no more
  -- than fits.
  pub cut : OnErr result (now.kept ≡ kept_behind before.kept (take (min before.keep before.kept.spare) piece))
  -- The faults and the writes are counted. Which writes fail, and how much they keep, stays the
  -- same.
  pub once : CountsOnce before.faults now.faults result
  pub numbered : now.writes ≡ one_more before.writes
  pub same_fail : now.fail ≡ before.fail
  pub same_keep : now.keep ≡ before.keep

-- how many reads of inputs in memory there were
abbrev pub reads_of : MemoryInputs → ℕ
reads_of inputs = inputs.reads

-- the numbers of the reads that fail
abbrev pub failing_reads : MemoryInputs → List ℕ
failing_reads inputs = inputs.fail
