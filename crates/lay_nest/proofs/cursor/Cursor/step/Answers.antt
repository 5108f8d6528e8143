use Rattle.std.proofs.Common.{◌<◌, length, ap, arith}
use Rattle.lay_nest.proofs.Steps.{same_length, stepped}
use Rattle.lay_nest.proofs.cursor.Cursor.step.Goals as goal

pub behind_first-self-inside-requires-2 : goal.behind_first-self-inside-requires-2
behind_first-self-inside-requires-2 c = omega (arith, same_length c.self.invariant, ap length c.self.view_is)

pub invariant_of-self : goal.invariant_of-self
invariant_of-self c =
    let some : 0 < length c.self.inside.tokens.now = omega (arith, ap length c.self.view_is) in
    rw (c.behind_first-self-inside.ensures, c.behind_first-self-inside-2.ensures) (stepped c.self.invariant some)
