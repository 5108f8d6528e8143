-- Visibilities tell their units.
use Rattle.std.proofs.Common.{◌≡◌, true, List, [], ◌∷◌, codes, refl}
use Rattle.lay_piece.specs.declared.kind.Delim.TheVariants.{Paren}
use Rattle.lay_form.specs.Form.{Blank, Form, Part, closer}
use Rattle.lay_node.specs.nodes.Vis.{is_vis, pub_in, pub_word, restricted, vis_form}
use Rattle.lay_node.specs.declared.vis.Vis.{Vis}
use Rattle.lay_node.specs.declared.vis.Vis.TheVariants as vis
use Rattle.lay_map.specs.spelling.Units.{Word}
use Rattle.lay_map.proofs.Rules.{Firm, Tells, ends, firm_behind, firm_fixed, firm_part, fixed, part}
use Rattle.lay_map.proofs.nodes.Attrs.{simple_path_tells}

pub vis_tells : {Next : List Word → Type 0} (v : Vis) → is_vis v ≡ true → Tells Next (vis_form v)
vis_tells vis.Inherited h = ends
vis_tells vis.Public h = fixed pub_word refl ends
vis_tells vis.Crate h = fixed (restricted (codes "crate")) refl ends
vis_tells vis.Own h = fixed (restricted (codes "self")) refl ends
vis_tells vis.Super h = fixed (restricted (codes "super")) refl ends
vis_tells (vis.In path) h = fixed pub_in refl (part (simple_path_tells path) (fixed (closer Paren ∷ Blank ∷ []) refl ends))

-- what follows a visibility, or after none
pub vis_firm_then : {f : Form} (v : Vis) → Firm f → Firm (Part (vis_form v) f)
vis_firm_then vis.Inherited t = firm_behind t
vis_firm_then vis.Public t = firm_part (firm_fixed pub_word refl)
vis_firm_then vis.Crate t = firm_part (firm_fixed (restricted (codes "crate")) refl)
vis_firm_then vis.Own t = firm_part (firm_fixed (restricted (codes "self")) refl)
vis_firm_then vis.Super t = firm_part (firm_fixed (restricted (codes "super")) refl)
vis_firm_then (vis.In path) t = firm_part (firm_fixed pub_in refl)
