use Rattle.lay_code.specs.nodes.Exprs.{closure_param}
use Rattle.lay_depth.proofs.nodes_lemmas.Loops.{all_turns, turn}
use Rattle.lay_depth.proofs.exprs.params_depth.Goals as goal

pub loop-param-preserved : goal.loop-param-preserved
loop-param-preserved c =
    turn closure_param c.args.params.now _ _ _ _ _ c.loop-param-test.true c.param-item.is c.loop-param.invariant
    c.param_depth.ensures c.max-most.ensures

pub returns : goal.returns
returns c = all_turns closure_param c.args.params.now _ _ c.loop-param-test.false c.loop-param.invariant
