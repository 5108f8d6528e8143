-- what was read, and what is left, are what was left at first
use Rattle.std.proofs.Common.{ℕ, ◌≡◌, ◌≢◌, ◌≤◌, length, List, Option, Some}
use Rattle.lay_io.specs.Told.{put_before}
use Rattle.lay_io.specs.Calls.{left_of}
use Rattle.lay_io.specs.declared.outside.Which.{Which}
use Rattle.lay_io.proofs.read.read_all.Given as goal

pub record IsReading (chosen chosen_now : Option Which) (left left_now : Which → Option (List ℕ)) (faults faults_now : ℕ) (bytes : List ℕ) (turn limit : ℕ) : Type 0 where
  pub same : chosen_now ≡ chosen
  pub bytes_taken : left_of chosen left ≡ put_before bytes (left_of chosen left_now)
  pub others : (w : Which) → chosen ≢ Some w → left_now w ≡ left w
  pub later : faults ≤ faults_now
  pub turns : turn ≤ length bytes
  pub within : length bytes ≤ limit

abbrev pub invariant-loop-turn : goal.invariant-loop-turn
invariant-loop-turn g l = IsReading (g.I.Inputs.chosen l.fn.inputs) (g.I.Inputs.chosen l.inputs) (g.I.Inputs.left l.fn.inputs) (g.I.Inputs.left l.inputs)
    (g.I.Inputs.faults l.fn.inputs) (g.I.Inputs.faults l.inputs) l.bytes.items l.turn l.limit
