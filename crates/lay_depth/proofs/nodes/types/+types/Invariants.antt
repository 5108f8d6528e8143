use Rattle.std.proofs.Common.{◌≡◌, map, take}
use Rattle.lay_node.specs.nodes.Types.{about_arg, about_bound}
use Rattle.lay_depth.specs.nodes.Depths.{counted, greatest, segment_args}
use Rattle.lay_depth.proofs.nodes_lemmas.Loops.{form_of}
use Rattle.lay_depth.proofs.nodes_lemmas.TypeLemmas.{param_type, told_form}
use Rattle.lay_depth.proofs.nodes.types.+types.Given as goal

-- The depth so far is that of the deepest node so far.
abbrev pub invariant-types_depth-loop-ty : goal.invariant-types_depth-loop-ty
invariant-types_depth-loop-ty l = l.most ≡ counted (greatest (map told_form (take l.ty-index l.types)))

abbrev pub invariant-params_depth-loop-param : goal.invariant-params_depth-loop-param
invariant-params_depth-loop-param l = l.most ≡ counted (greatest (map param_type (take l.param-index l.params)))

abbrev pub invariant-segments_depth-loop-args : goal.invariant-segments_depth-loop-args
invariant-segments_depth-loop-args l = l.most ≡ counted (greatest (map segment_args (take l.args-index l.segments)))

abbrev pub invariant-arguments_depth-loop-arg : goal.invariant-arguments_depth-loop-arg
invariant-arguments_depth-loop-arg l = l.most ≡ counted (greatest (map (form_of about_arg) (take l.arg-index l.args)))

abbrev pub invariant-bounds_depth-loop-bound : goal.invariant-bounds_depth-loop-bound
invariant-bounds_depth-loop-bound l = l.most ≡ counted (greatest (map (form_of about_bound) (take l.bound-index l.bounds)))
