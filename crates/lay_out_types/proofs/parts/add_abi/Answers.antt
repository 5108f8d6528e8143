use Rattle.std.proofs.Common.{refl}
use Rattle.lay_out_types.proofs.Adding.{adds, adds_on}
use Rattle.lay_out_types.proofs.PartLemmas.{abi_is}
use Rattle.lay_out_types.proofs.parts.add_abi.Goals as goal

pub returns-in-Some-name : goal.returns-in-Some-name
returns-in-Some-name g c =
    adds (adds_on c.add_text-word.ensures (adds_on c.add_literal-name.ensures c.add_text.ensures))
    (abi_is _ c.in-Some.abi _ c.in-Some-name.name c.in-Some.is refl c.in-Some-name.is)
