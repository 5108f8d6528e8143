use Rattle.lay_out_types.proofs.Adding.{adds, adds_on}
use Rattle.lay_out_heads.proofs.FunctionLemmas.{param_is}
use Rattle.lay_out_heads.proofs.functions.ParamPart.add.Goals as goal

pub returns : goal.returns
returns g c =
    adds (adds_on c.add_param_attrs-attrs.ensures c.add_param_kind.ensures)
    (param_is c.args.self.now _ c.as_slice.ensures)
