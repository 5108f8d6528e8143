use Rattle.std.proofs.Common.{◌∙◌}
use Rattle.lay_node.specs.declared.types.PathStyle.TheVariants.{Code}
use Rattle.lay_ops.proofs.TypeEnds.{no_path, path_ends}
use Rattle.lay_ops.proofs.type_ends.path_lacks_args.Goals as goal

pub returns-in-Some : goal.returns-in-Some
returns-in-Some c =
    c.code_args_lack.ensures
    ∙ path_ends Code c.args.path.now c.as_slice.result.now c.in-Some.field-0.now c.as_slice.ensures c.in-Some.ensures.value

pub returns-in-None : goal.returns-in-None
returns-in-None c = no_path Code c.args.path.now c.as_slice.result.now c.as_slice.ensures c.in-None.ensures.value
