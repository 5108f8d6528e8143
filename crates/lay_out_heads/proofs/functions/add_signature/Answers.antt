use Rattle.lay_out_types.proofs.Adding.{adds, adds_on}
use Rattle.lay_out_heads.proofs.FunctionLemmas.{signature_is}
use Rattle.lay_out_heads.proofs.functions.add_signature.Goals as goal

pub returns : goal.returns
returns g c =
    adds (adds_on c.add_word-name.ensures
    (adds_on c.add_generics-generics.ensures (adds_on c.add_params-params.ensures c.add_output.ensures)))
    (signature_is c.args.head.now _ c.as_slice.ensures)
