use Rattle.lay_out_types.proofs.Adding.{adds, adds_on}
use Rattle.lay_out_heads.proofs.FunctionLemmas.{some_self_type}
use Rattle.lay_out_heads.proofs.functions.add_self_type.Goals as goal

pub returns-in-Some : goal.returns-in-Some
returns-in-Some g c =
    adds (adds_on c.add_text-colon.ensures c.add_type.ensures) (some_self_type _ c.in-Some.ty c.in-Some.is)
