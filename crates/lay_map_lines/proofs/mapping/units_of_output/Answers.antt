use Rattle.std.proofs.Common.{ℕ, List, IfOk, ◌∙◌, subst}
use Rattle.lay_map_lines.proofs.MapLemmas.{AreUnits}
use Rattle.lay_map_lines.proofs.mapping.units_of_output.Goals as goal

pub returns : goal.returns
returns c =
    subst (λ (text : List ℕ). IfOk c.units_in.result (AreUnits text c.args.file.now)) (c.as_bytes.ensures ∙ c.in_ok-text.ensures) c.units_in.ensures
