use Rattle.std.proofs.Common.{ℕ, ◌+◌, sym, subst}
use Rattle.lay_form.specs.Depth.{least_depth}
use Rattle.lay_node.specs.declared.types.Ty.{Ty}
use Rattle.lay_build_types.specs.Kinds.{IsType, form_of_type}
use Rattle.lay_build_types.specs.Nodes as node
use Rattle.lay_build_types.proofs.AnswerLemmas.{Is, part_of}
use Rattle.lay_build_types.proofs.TypeLemmas.{ref_made, ref_need}
use Rattle.lay_build_types.proofs.types.type_ref.Goals as goal

pub kept-requires : goal.kept-requires
kept-requires c =
    let writable = c.args.writable in
    let t = c.args.of in
    part_of form_of_type IsType (node.type_ref writable t) (least_depth (form_of_type t) + 1) c.reference.result
    (subst (λ (p : Ty × ℕ). Is (node.type_ref writable p.0) (p.1 + 1) c.reference.result) c.into_parts-inner.ensures.parts c.reference.ensures)
    (sym (ref_need writable t)) (ref_made writable t c.into_parts-inner.ensures.kept)
