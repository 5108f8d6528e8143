use Rattle.std.proofs.Common.{ℕ, sym, subst}
use Rattle.lay_node.specs.declared.token.Name.{Name}
use Rattle.lay_node.specs.declared.types.Ty.{Ty}
use Rattle.lay_build_types.specs.Answers.{IsPart}
use Rattle.lay_build.specs.Kinds.{IsParam, form_of_param}
use Rattle.lay_build.proofs.PartLemmas.{param_is, param_part}
use Rattle.lay_build.proofs.items.param.Goals as goal

pub kept-requires : goal.kept-requires
kept-requires c =
    let names = c.into_parts-name.ensures in
    let types = c.into_parts-ty.ensures in
    subst (λ (p : Name × ℕ). IsPart form_of_param IsParam (param_part p.0 c.into_parts-ty.result)) (sym names.parts)
    (subst (λ (p : Ty × ℕ). IsPart form_of_param IsParam (param_part c.args.name p)) (sym types.parts)
    (param_is c.args.name c.args.ty names.kept types.kept))
