-- The lines so far are written, and the draws stand where the next item begins.
use Rattle.std.proofs.Common.{◌≡◌}
use Rattle.lay_sample.specs.Sample.{sample_text, state_before}
use Rattle.lay_sample.proofs.samples.sample.Given as goal

abbrev pub invariant-loop-i : goal.invariant-loop-i
invariant-loop-i l = record {
  lines : l.text ≡ sample_text l.seed l.i;
  state : l.draws.state ≡ state_before l.seed l.i;
}
