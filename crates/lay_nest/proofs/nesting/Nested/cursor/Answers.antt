use Rattle.lay_nest.proofs.Steps.{all_ahead}
use Rattle.lay_nest.proofs.nesting.Nested.cursor.Goals as goal

pub new-requires : goal.new-requires
new-requires c = rw (c.as_slice.ensures, c.as_slice-2.ensures) (all_ahead c.self.invariant)
