use Rattle.lay_out_types.proofs.Adding.{adds, adds_on}
use Rattle.lay_out_types.proofs.PartLemmas.{lifetime_param_is}
use Rattle.lay_out_types.proofs.parts.add_lifetime_param.Goals as goal

pub returns : goal.returns
returns g c =
    adds (adds_on c.add_param_attrs-attrs.ensures (adds_on c.add_text-lifetime.ensures c.add_outlived.ensures))
    (lifetime_param_is c.args.param.now _ _ _ c.as_slice.ensures c.as_bytes.ensures c.as_slice-2.ensures)
