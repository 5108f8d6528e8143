-- What is left of the parts stands after what was added.
use Rattle.std.proofs.Common.{◌≡◌, ◌++◌, drop}
use Rattle.std.specs.List.{concat}
use Rattle.lay_items.proofs.printing.push_all.Given as goal

abbrev pub invariant-loop-part : goal.invariant-loop-part
invariant-loop-part l = l.text ++ concat (drop l.part-index l.parts) ≡ l.fn.text ++ concat l.parts
