use Rattle.lay_out_types.proofs.Adding.{adds, adds_on}
use Rattle.lay_out_exprs.proofs.BlockLemmas.{closure_param_is}
use Rattle.lay_out_exprs.proofs.closures.add_param.Goals as goal

pub returns : goal.returns
returns g c =
    adds (adds_on c.add_param_attrs-attrs.ensures (adds_on c.add_pat-pat.ensures c.add_self_type.ensures))
    (closure_param_is c.args.param.now _ c.as_slice.ensures)
