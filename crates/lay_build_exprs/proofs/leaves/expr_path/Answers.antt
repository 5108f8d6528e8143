use Rattle.std.proofs.Common.{◌∙◌, ℕ, List, ap}
use Rattle.lay_node.specs.declared.token.Name.{Name}
use Rattle.lay_node.specs.declared.types.Args.TheVariants as args
use Rattle.lay_build_types.specs.Nodes as names
use Rattle.lay_build_exprs.proofs.LeafLemmas.{path_part}
use Rattle.lay_build_exprs.proofs.leaves.expr_path.Goals as goal

pub kept_with-requires : goal.kept_with-requires
kept_with-requires c =
    let first = c.args.first in
    let rest = c.in_ok-rest.ensures in
    let same =
    c.in_ok-path.ensures ∙ ap (λ (p : Name × ℕ). names.path p.0 c.in_ok-rest.rest args.None) c.into_parts-first.ensures.parts
    ∙ ap (λ (ns : List Name). names.path first ns args.None) rest.same in
    path_part first c.args.rest c.into_parts-first.ensures.kept rest.kept c.in_ok-path.path same
