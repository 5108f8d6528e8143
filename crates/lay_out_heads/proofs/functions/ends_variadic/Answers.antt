use Rattle.std.proofs.Common.{◌∙◌}
use Rattle.lay_node.specs.nodes.Functions.{ends_variadic}
use Rattle.lay_out_types.proofs.RowLemmas.{all_turns}
use Rattle.lay_out_heads.proofs.FunctionLemmas.{ends_next}
use Rattle.lay_out_heads.proofs.functions.ends_variadic.Goals as goal

pub loop-param-preserved : goal.loop-param-preserved
loop-param-preserved c =
    c.is_variadic-ends.ensures ∙ ends_next c.args.params.now _ _ c.loop-param-test.true c.param-item.is

pub returns : goal.returns
returns c = c.loop-param.invariant ∙ all_turns ends_variadic c.args.params.now _ c.loop-param-test.false
