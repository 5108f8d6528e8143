use Rattle.std.proofs.Common.{◌≡◌, ◌++◌, length, reverse}
use Rattle.lay_code.specs.reader.Exprs.{targets_of, value_of}
use Rattle.lay_read_operators.proofs.assigns.split.Given as goal

-- what is left tells the other targets and the value
abbrev pub invariant-loop-op : goal.invariant-loop-op
invariant-loop-op l = record {
  targets : targets_of l.fn.first l.fn.rest ≡ l.targets ++ targets_of l.value (reverse l.rest.items);
  value : value_of l.fn.first l.fn.rest ≡ value_of l.value (reverse l.rest.items);
}

abbrev pub decreases-loop-op : goal.decreases-loop-op
decreases-loop-op l = length l.rest.items
