use Rattle.std.proofs.Common.{true, length}
use Rattle.lay_node.specs.reader.Attr.{attribute}
use Rattle.lay_code.specs.reader.File.{longest}
use Rattle.lay_read_tokens.specs.Answers.{AreLexed}
use Rattle.lay_read_code.proofs.Longest.{Turn}
use Rattle.lay_read_code.proofs.file.inner_attrs.Given as goal

abbrev pub invariant-loop-attrs : goal.invariant-loop-attrs
invariant-loop-attrs l = record {
  turn : Turn (attribute true) (longest (attribute true) l.fn.at) l.attrs l.at;
  lexed : AreLexed l.at;
}

abbrev pub decreases-loop-attrs : goal.decreases-loop-attrs
decreases-loop-attrs l = length l.at
