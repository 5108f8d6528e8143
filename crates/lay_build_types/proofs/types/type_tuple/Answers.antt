use Rattle.std.proofs.Common.{◌∙◌, ℕ, ◌+◌, List, sym, ap, subst}
use Rattle.lay_form.specs.Depth.{least_depth}
use Rattle.lay_node.specs.declared.types.Ty.{Ty}
use Rattle.lay_build_types.specs.Answers.{IsMade}
use Rattle.lay_build_types.specs.Kinds.{IsType, form_of_type}
use Rattle.lay_build_types.specs.Nodes as node
use Rattle.lay_build_types.proofs.TypeLemmas.{tuple_made, tuple_need}
use Rattle.lay_build_types.proofs.types.type_tuple.Goals as goal

pub kept-requires : goal.kept-requires
kept-requires c =
    let parts = c.in_ok-elements.ensures in
    let same = sym parts.same in
    record {
      made = subst (λ (ts : List Ty). IsMade form_of_type IsType (node.type_tuple ts)) same (tuple_made c.args.parts parts.kept);
      need =
          ap (λ (n : ℕ). n + 1) parts.need ∙ sym (tuple_need c.args.parts)
          ∙ ap (λ (ts : List Ty). least_depth (form_of_type (node.type_tuple ts))) same;
    }
