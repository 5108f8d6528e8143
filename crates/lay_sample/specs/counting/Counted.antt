-- What callers see of a counter of written bytes, and how a write changes it.
use Rattle.std.specs.Prelude.{ℕ, ◌≡◌, ◌+◌, ◌<◌, ◌^◌, ◌++◌, ◌↔◌, List, length, Result, IsOk, OnOk, OnErr}
use Rattle.lay_io.specs.Faults.{one_more}
use Rattle.lay_io.specs.declared.outside.Failed.{Failed}

-- the text that was written, and how often a write has failed
pub record Counted : Type 0 where
  pub text : List ℕ
  pub faults : ℕ

-- A write adds its piece, or it fails. A failed write adds nothing and is counted as a fault. A
-- write fails exactly if the text would reach 2^64 bytes.
pub record CountedWrite (before : Counted) (piece : List ℕ) (result : Result (Unit {0}) Failed) (now : Counted) : Type 0 where
  pub fits : IsOk result ↔ (length before.text + length piece < 2 ^ 64)
  pub ok : OnOk result (now ≡ record { text = before.text ++ piece; faults = before.faults })
  pub err : OnErr result (now ≡ record { text = before.text; faults = one_more before.faults })
