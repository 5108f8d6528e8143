use Rattle.lay_out_types.proofs.Adding.{adds, adds_on}
use Rattle.lay_out_exprs.proofs.BlockLemmas.{closure_head_is}
use Rattle.lay_out_exprs.proofs.closures.add_closure_head.Goals as goal

pub returns : goal.returns
returns g c =
    adds (adds_on c.add_if-word.ensures (adds_on c.add_if-words.ensures c.add_params.ensures))
    (closure_head_is c.args.is_async c.args.moves c.args.params.now)
