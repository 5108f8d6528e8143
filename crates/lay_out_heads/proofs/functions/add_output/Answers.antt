use Rattle.lay_out_types.proofs.Adding.{adds, adds_on}
use Rattle.lay_out_heads.proofs.FunctionLemmas.{some_output}
use Rattle.lay_out_heads.proofs.functions.add_output.Goals as goal

pub returns-in-Some : goal.returns-in-Some
returns-in-Some g c =
    adds (adds_on c.add_text-arrow.ensures c.add_type.ensures) (some_output _ c.in-Some.ty c.in-Some.is)
