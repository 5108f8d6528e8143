use Rattle.lay_out_types.proofs.Adding.{adds, adds_on}
use Rattle.lay_out_heads.proofs.FieldLemmas.{in_path}
use Rattle.lay_out_heads.proofs.vis.add_vis.Goals as goal

pub returns-in-In : goal.returns-in-In
returns-in-In g c =
    adds (adds_on c.add_text-word.ensures (adds_on c.add_simple_path-path.ensures c.add_text-in-In.ensures))
    (in_path _ _ c.in-In.is)
