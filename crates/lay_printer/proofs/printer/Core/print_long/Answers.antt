use Rattle.std.proofs.Common.{◌≡◌, None, refl, ap, ◌∙◌}
use Rattle.lay_printer.specs.Printing.{Printing}
use Rattle.lay_printer.proofs.Calling.{calls_now_ok, calls_now_err}
use Rattle.lay_printer.proofs.printer.Core.print_long.Goals as goal

pub returns-in-Ok-clause-calls : goal.returns-in-Ok-clause-calls
returns-in-Ok-clause-calls g c =
    let u : c.self.inside.failed ≡ None = ap (λ (v : Printing). v.failed) c.self.view_is ∙ c.requires.live in
    let k = c.in-Ok.ensures in
    rw (← c.self.view_is) (calls_now_ok _ _ _ _ _ _ _ _ u u tt k.feeds k.cause k.passes.groups k.passes.number c.print_long.new.self.queue.number)

pub returns-in-Err-clause-calls : goal.returns-in-Err-clause-calls
returns-in-Err-clause-calls g c =
    let u : c.self.inside.failed ≡ None = ap (λ (v : Printing). v.failed) c.self.view_is ∙ c.requires.live in
    let k = c.in-Err.ensures in
    rw (← c.self.view_is) (calls_now_err _ _ _ _ _ _ _ _ _ _ _ u refl tt k.feeds k.cause)
