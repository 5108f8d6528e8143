use Rattle.lay_out_types.proofs.Adding.{adds, adds_on}
use Rattle.lay_out_heads.proofs.HeadLemmas.{trait_ref_is}
use Rattle.lay_out_heads.proofs.heads.add_trait_ref.Goals as goal

pub returns-in-Some : goal.returns-in-Some
returns-in-Some g c =
    adds (adds_on c.add_if-not.ensures (adds_on c.add_path-path.ensures c.add_text.ensures))
    (trait_ref_is _ c.in-Some.of c.in-Some.is)
