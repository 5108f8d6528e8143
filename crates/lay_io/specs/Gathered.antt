-- A buffering sink of the system: the bytes that wait in it, and the effect of a write.
use Rattle.std.specs.Prelude.{ℕ, ◌≡◌, ◌<◌, ◌≤◌, ◌⊎◌, List, [], length, Option, Some, OnOk, OnErr, Result}
use Rattle.lay_io.specs.Faults.{CountsOnce}
use Rattle.lay_io.specs.Kept.{Kept, kept_in}
use Rattle.lay_io.specs.Told.{put_behind}
use Rattle.lay_io.specs.declared.outside.Failed.{Failed}
use Rattle.lay_io.specs.declared.host.Stream.{Stream}
use Rattle.lay_io.specs.declared.host.Stream.TheVariants.{Stdout, Stderr}
use Rattle.lay_io.specs.declared.host.HostSink.{HostSink}

-- the bytes that wait to be handed to the system
abbrev pub waiting_in : Stream → Option (List ℕ)
waiting_in (Stdout room) = (kept_in room).bytes
waiting_in Stderr = Some []

-- Nothing waits in the sink.
abbrev pub IsHandedOver : {R : Type 0} → HostSink R → Type 0
IsHandedOver sink = waiting_in sink.stream ≡ Some []

-- What waits after a piece was taken. A piece that fits waits after what waited before. After one
-- that doesn't fit, that piece alone waits, or nothing does.
pub record Waits (before : Kept) (piece : List ℕ) (now : Option (List ℕ)) : Type 0 where
  pub fits : length piece ≤ before.spare → now ≡ put_behind before.bytes piece
  pub too_much : before.spare < length piece → (now ≡ Some piece) ⊎ (now ≡ Some [])

-- what waits after a stream took a piece; standard error buffers nothing
abbrev pub GathersAs : Stream → List ℕ → Option (List ℕ) → Type 0
GathersAs (Stdout room) piece now = Waits (kept_in room) piece now
GathersAs Stderr piece now = now ≡ Some []

-- A write of such a sink. A piece that it took waits as its stream buffers it. A failure is counted
-- once, and nothing else is counted. After a failure nothing waits.
pub record HostWrite {R : Type 0} (before : HostSink R) (piece : List ℕ) (result : Result (Unit {0}) Failed) (now : HostSink R)
    : Type 0 where
  pub kept : OnOk result (GathersAs before.stream piece (waiting_in now.stream))
  pub once : CountsOnce before.faults now.faults result
  pub dropped : OnErr result (IsHandedOver now)
