use Rattle.std.proofs.Common.{rules}
use Rattle.lay_printer.proofs.press.Printer.space.Goals as goal

pub returns : goal.returns
returns g c =
    rw (← c.self.view_is) (λ written content s h r. let e = c.space.ensures written content s h r in search (rules, e))
