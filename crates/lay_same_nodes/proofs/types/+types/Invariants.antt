use Rattle.std.proofs.Common.{◌≡◌, length, take}
use Rattle.lay_same_nodes.proofs.types.+types.Given as goal

abbrev pub invariant-same_types-loop-element : goal.invariant-same_types-loop-element
invariant-same_types-loop-element l = take (length l.yielded) l.elements ≡ take (length l.yielded) l.others

abbrev pub invariant-same_params-loop-param : goal.invariant-same_params-loop-param
invariant-same_params-loop-param l = take (length l.yielded) l.params ≡ take (length l.yielded) l.others

abbrev pub invariant-same_bounds-loop-bound : goal.invariant-same_bounds-loop-bound
invariant-same_bounds-loop-bound l = take (length l.yielded) l.bounds ≡ take (length l.yielded) l.others

abbrev pub invariant-same_arguments-loop-argument : goal.invariant-same_arguments-loop-argument
invariant-same_arguments-loop-argument l = take (length l.yielded) l.arguments ≡ take (length l.yielded) l.others

abbrev pub invariant-same_segments-loop-word : goal.invariant-same_segments-loop-word
invariant-same_segments-loop-word l = take (length l.yielded) l.segments ≡ take (length l.yielded) l.others
