use Rattle.lay_out_exprs.proofs.BlockLemmas.{block_braces, call_braces, labelled_braces, other_braces}
use Rattle.lay_out_exprs.proofs.bodies.arm_braces.Goals as goal

pub returns-in-Call : goal.returns-in-Call
returns-in-Call c = call_braces c.args.body.now _ c.in-Call.is

pub returns-in-None : goal.returns-in-None
returns-in-None c = block_braces c.args.body.now _ _ c.in-Block.is c.in-None.is

pub returns-in-Some : goal.returns-in-Some
returns-in-Some c = labelled_braces c.args.body.now _ _ _ c.in-Block.is c.in-Some.is

pub returns-in_default : goal.returns-in_default
returns-in_default c = other_braces c.args.body.now c.in_default.not-Call c.in_default.not-Block
