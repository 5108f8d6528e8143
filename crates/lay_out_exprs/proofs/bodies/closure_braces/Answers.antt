use Rattle.std.proofs.Common.{◌∙◌}
use Rattle.lay_out_exprs.proofs.BlockLemmas.{bare_braces, worn_braces}
use Rattle.lay_out_exprs.proofs.bodies.closure_braces.Goals as goal

pub returns-then-may_wear_braces : goal.returns-then-may_wear_braces
returns-then-may_wear_braces c =
    c.arm_braces.ensures ∙ worn_braces c.args.body.now _ c.may_wear_braces.ensures c.if-may_wear_braces.true

pub returns-else-may_wear_braces : goal.returns-else-may_wear_braces
returns-else-may_wear_braces c =
    bare_braces c.args.body.now _ c.may_wear_braces.ensures c.if-may_wear_braces.false
