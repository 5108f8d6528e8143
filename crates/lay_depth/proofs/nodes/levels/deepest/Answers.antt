use Rattle.lay_depth.proofs.nodes_lemmas.Loops.{all_turns, turn}
use Rattle.lay_depth.proofs.nodes.levels.deepest.Goals as goal

pub loop-node-preserved : goal.loop-node-preserved
loop-node-preserved g c =
    turn g.T.Deep.form c.args.nodes.now _ _ _ _ _ c.loop-node-test.true c.node-item.is c.loop-node.invariant
    c.depth.ensures c.max-most.ensures

pub returns : goal.returns
returns g c = all_turns g.T.Deep.form c.args.nodes.now _ _ c.loop-node-test.false c.loop-node.invariant
