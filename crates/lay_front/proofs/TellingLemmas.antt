-- Pieces that are written one after another.
use Rattle.std.proofs.Common.{◌≡◌, ℕ, List, ◌++◌, length, Option, Result, Ok, Err, subst, sym}
use Rattle.std.proofs.Math.Seq.{take-length}
use Rattle.lay_io.proofs.Growth.{grew_by-more, grew_by_prefix-more, grew_by_prefix-longer}
use Rattle.lay_io.specs.Calls.{Writes}
use Rattle.lay_io.specs.Told.{GrewBy, GrewByPrefix}

-- a piece that was written, and what is written after it
pub then_writes : {T E : Type 0} (before middle now : Option (List ℕ)) (x y z : List ℕ) (result : Result T E) → x ≡ z → GrewBy before middle x
    → Writes middle now result y → Writes before now result (z ++ y)
then_writes before middle now x y z (Ok done) e first second =
    grew_by-more before middle now z y (subst (GrewBy before middle) e first) second
then_writes before middle now x y z (Err error) e first second =
    grew_by_prefix-more before middle now z y (subst (GrewBy before middle) e first) second

-- a piece that wasn't written whole, after which nothing more is written
pub stops_writing : (before now : Option (List ℕ)) (x y z : List ℕ) → x ≡ z → GrewByPrefix before now x → GrewByPrefix before now (z ++ y)
stops_writing before now x y z e first = grew_by_prefix-longer before now z y (subst (GrewByPrefix before now) e first)

-- a write leaves a prefix of its piece at least
pub writes_part : {T E : Type 0} (before now : Option (List ℕ)) (x : List ℕ) (result : Result T E) → Writes before now result x → GrewByPrefix before now x
writes_part before now x (Ok done) h = (length x, subst (GrewBy before now) (sym (take-length x)) h)
writes_part before now x (Err error) h = h
