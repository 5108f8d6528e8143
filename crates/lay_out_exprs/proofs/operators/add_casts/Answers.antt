use Rattle.std.proofs.Common.{List, map}
use Rattle.lay_form.specs.Stream.{stream_of}
use Rattle.lay_node.specs.nodes.Types.{about_type}
use Rattle.lay_node.specs.declared.types.Ty.{Ty}
use Rattle.lay_code.specs.nodes.Exprs.{types_form}
use Rattle.lay_out_tokens.proofs.StreamParts.{loop_step}
use Rattle.lay_out_types.proofs.Adding.{adds_on}
use Rattle.lay_out_exprs.proofs.StepLemmas.{cast_turn}
use Rattle.lay_out_exprs.proofs.Turns.{one_turn}
use Rattle.lay_out_exprs.proofs.operators.add_casts.Goals as goal

pub loop-ty-preserved : goal.loop-ty-preserved
loop-ty-preserved g c =
    one_turn c.loop-ty.invariant (adds_on c.add_text-done.ensures c.add_type-done.ensures)
    (loop_step (λ (xs : List Ty). stream_of (types_form (map about_type xs))) c.args.types.now _ _ _ c.loop-ty-test.true
    c.ty-item.is (cast_turn _ _))
