-- Visibilities pass: each is nothing, or ends in a blank.
use Rattle.std.proofs.Common.{◌≡◌, true, refl}
use Rattle.std.proofs.lemmas.Bool.{and_parts}
use Rattle.lay_form.specs.Form as form
use Rattle.lay_form.specs.Form.{Form}
use Rattle.lay_form.specs.Pieces.{are_pieces}
use Rattle.lay_node.specs.nodes.SimplePath.{simple_path_form}
use Rattle.lay_node.specs.nodes.Vis.{vis_form}
use Rattle.lay_node.specs.declared.vis.Vis.{Vis}
use Rattle.lay_node.specs.declared.vis.Vis.TheVariants as vis
use Rattle.lay_reparse.proofs.borders.Border.{Border}
use Rattle.lay_reparse.proofs.forms.Passes.{plain}
use Rattle.lay_reparse.proofs.forms.Rules.{tables, From, ends, fixed, part}
use Rattle.lay_reparse.proofs.file.Nodes.{start_path, ends_path_name, simple_path_passes}

pub vis_passes : (v : Vis) → are_pieces (vis_form v) ≡ true → From plain (vis_form v) plain
unfolding tables
vis_passes vis.Inherited w = ends refl
vis_passes vis.Public w = fixed refl (ends refl)
vis_passes vis.Crate w = fixed refl (ends refl)
vis_passes vis.Own w = fixed refl (ends refl)
vis_passes vis.Super w = fixed refl (ends refl)
vis_passes (vis.In path) w =
    let p = (and_parts (are_pieces (simple_path_form path)) true w).0 in
    fixed refl (part start_path ends_path_name refl (simple_path_passes path p) (fixed refl (ends refl)))

-- a visibility, and what follows it
pub behind_vis : (v : Vis) {f : Form} {c : Border} → are_pieces (form.Part (vis_form v) f) ≡ true
    → (are_pieces f ≡ true → From plain f c) → From plain (form.Part (vis_form v) f) c
behind_vis v {f} w k =
    let p = and_parts (are_pieces (vis_form v)) (are_pieces f) w in part plain plain refl (vis_passes v p.0) (k p.1)
