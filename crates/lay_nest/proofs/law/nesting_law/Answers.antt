use Rattle.std.proofs.Common.{[]}
use Rattle.lay_nest.proofs.Machine.{Open, once_unbalanced, unbalanced_or_balanced, one_stop, stops, goes_on}
use Rattle.lay_nest.proofs.law.nesting_law.Goals as goal

pub returns-clause-one_place : goal.returns-clause-one_place
returns-clause-one_place c = once_unbalanced

pub returns-clause-never_both : goal.returns-clause-never_both
returns-clause-never_both c = unbalanced_or_balanced

pub returns-clause-one_group : goal.returns-clause-one_group
returns-clause-one_group c inside others rest more closer last h g e b d =
    one_stop (Open []) inside others closer last rest more (goes_on inside b) (goes_on others d)
    (stops inside closer b h) (stops others last d g) e
