use Rattle.lay_out_exprs.proofs.Feeds.{prefix_turn}
use Rattle.lay_out_exprs.proofs.Turns.{one_turn}
use Rattle.lay_out_exprs.proofs.operators.add_prefixes.Goals as goal

pub loop-prefix-preserved : goal.loop-prefix-preserved
loop-prefix-preserved g c =
    one_turn c.loop-prefix.invariant c.add_text-done.ensures
    (prefix_turn c.args.prefixes.now _ _ _ c.loop-prefix-test.true c.prefix_text.ensures)
