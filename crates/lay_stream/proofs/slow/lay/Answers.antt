use Rattle.std.proofs.Common.{refl, arith}
use Rattle.lay_layout.specs.Machine.{begun}
use Rattle.lay_stream.proofs.slow.lay.Goals as goal

pub loop-tok-init : goal.loop-tok-init
loop-tok-init c = (
  begun,
  record { at = record { frames_are = c.new-frames.ensures; is = record { pending = refl; room = refl; small = omega arith; used = refl } }; text = c.new-sink.ensures },
  refl,
)
