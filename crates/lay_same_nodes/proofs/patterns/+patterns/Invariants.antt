use Rattle.std.proofs.Common.{◌≡◌, length, take}
use Rattle.lay_same_nodes.proofs.patterns.+patterns.Given as goal

abbrev pub invariant-same_patterns-loop-element : goal.invariant-same_patterns-loop-element
invariant-same_patterns-loop-element l = take (length l.yielded) l.elements ≡ take (length l.yielded) l.others

abbrev pub invariant-same_fields-loop-field : goal.invariant-same_fields-loop-field
invariant-same_fields-loop-field l = take (length l.yielded) l.fields ≡ take (length l.yielded) l.others
