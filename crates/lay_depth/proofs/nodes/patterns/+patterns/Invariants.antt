use Rattle.std.proofs.Common.{◌≡◌, map, take}
use Rattle.lay_node.specs.nodes.Patterns.{about_field_pat}
use Rattle.lay_depth.specs.nodes.Depths.{counted, greatest}
use Rattle.lay_depth.proofs.nodes_lemmas.Loops.{form_of}
use Rattle.lay_depth.proofs.nodes_lemmas.PatternLemmas.{form_of_pat}
use Rattle.lay_depth.proofs.nodes.patterns.+patterns.Given as goal

abbrev pub invariant-fields_depth-loop-field : goal.invariant-fields_depth-loop-field
invariant-fields_depth-loop-field l = l.most ≡ counted (greatest (map (form_of about_field_pat) (take l.field-index l.fields)))

abbrev pub invariant-pats_depth-loop-pat : goal.invariant-pats_depth-loop-pat
invariant-pats_depth-loop-pat l = l.most ≡ counted (greatest (map form_of_pat (take l.pat-index l.pats)))
