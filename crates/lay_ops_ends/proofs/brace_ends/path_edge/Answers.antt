use Rattle.std.proofs.Common.{◌∙◌}
use Rattle.lay_node.specs.declared.types.PathStyle.TheVariants.{Kind}
use Rattle.lay_ops_ends.proofs.TypeBraces.{no_path, path_ends}
use Rattle.lay_ops_ends.proofs.brace_ends.path_edge.Goals as goal

pub returns-in-Some-clause-told : goal.returns-in-Some-clause-told
returns-in-Some-clause-told c =
    c.args_edge.ensures.kind
    ∙ path_ends Kind c.args.path.now c.as_slice.result.now c.in-Some.field-0.now c.as_slice.ensures c.in-Some.ensures.value

pub returns-in-None-clause-told : goal.returns-in-None-clause-told
returns-in-None-clause-told c = no_path Kind c.args.path.now c.as_slice.result.now c.as_slice.ensures c.in-None.ensures.value
