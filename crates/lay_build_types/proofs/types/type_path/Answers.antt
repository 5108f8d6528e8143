use Rattle.std.proofs.Common.{◌∙◌, ℕ, ◌+◌, List, sym, ap, subst}
use Rattle.lay_node.specs.declared.token.Name.{Name}
use Rattle.lay_node.specs.declared.types.Ty.{Ty}
use Rattle.lay_build_types.specs.Kinds.{IsType, form_of_type}
use Rattle.lay_build_types.specs.Nodes as node
use Rattle.lay_build_types.proofs.AnswerLemmas.{Is, part_of}
use Rattle.lay_build_types.proofs.TypeLemmas.{path_type_made, path_type_need}
use Rattle.lay_build_types.proofs.types.type_path.Goals as goal

pub kept-requires : goal.kept-requires
kept-requires c =
    let first = c.args.first in
    let rest = c.args.rest in
    let ts = c.args.args in
    let names = c.in_ok-rest.ensures in
    let types = c.in_ok-args.ensures in
    let need = c.in_ok-args.need in
    let same =
    ap (λ (p : Name × ℕ). node.type_path p.0 c.in_ok-rest.rest c.in_ok-args.args) c.into_parts-first.ensures.parts
    ∙ ap (λ (ns : List Name). node.type_path first ns c.in_ok-args.args) names.same ∙ ap (node.type_path first rest) types.same in
    part_of form_of_type IsType (node.type_path first rest ts) (need + 1) c.path_type.result
    (subst (λ (t : Ty). Is t (need + 1) c.path_type.result) same c.path_type.ensures)
    (ap (λ (n : ℕ). n + 1) types.need ∙ sym (path_type_need first rest ts))
    (path_type_made first rest ts c.into_parts-first.ensures.kept names.kept types.kept)
