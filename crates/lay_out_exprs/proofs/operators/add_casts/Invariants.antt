use Rattle.std.proofs.Common.{drop, map}
use Rattle.lay_form.specs.Stream.{stream_of}
use Rattle.lay_node.specs.nodes.Types.{about_type}
use Rattle.lay_code.specs.nodes.Exprs.{types_form}
use Rattle.lay_out_exprs.proofs.Turns.{SoFar}
use Rattle.lay_out_exprs.proofs.operators.add_casts.Given as goal

abbrev pub invariant-loop-ty : goal.invariant-loop-ty
invariant-loop-ty g l =
    SoFar g.E.Emit.meanings l.fn.before l.fn.out (stream_of (types_form (map about_type (drop l.ty-index l.types))))
    (stream_of (types_form (map about_type l.types))) l.done l.out
