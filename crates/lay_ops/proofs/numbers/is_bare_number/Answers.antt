use Rattle.std.proofs.Common.{◌∙◌}
use Rattle.lay_ops.proofs.BareNumbers.{of_float, of_int}
use Rattle.lay_ops.proofs.numbers.is_bare_number.Goals as goal

pub returns-in-Int : goal.returns-in-Int
returns-in-Int c = c.reads.ensures ∙ of_int c.args.kind c.args.text.now c.in-Int.is

pub returns-in-Float : goal.returns-in-Float
returns-in-Float c = c.reads-in-Float.ensures ∙ of_float c.args.kind c.args.text.now c.in-Float.is
