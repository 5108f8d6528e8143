use Rattle.std.proofs.Common.{rules, ◌≡◌, Some}
use Rattle.lay_printer.proofs.Calling.{finish_failed}
use Rattle.lay_printer.proofs.printer.Core.finish.Goals as goal

pub returns-in-Some-clause-finishes : goal.returns-in-Some-clause-finishes
returns-in-Some-clause-finishes g c =
    let e : c.args.self.now.failed ≡ Some c.in-Some.fault = search rules in
    finish_failed _ _ _ _ e
