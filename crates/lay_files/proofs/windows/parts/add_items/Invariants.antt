use Rattle.lay_files.specs.windows.Parts.{AddsItems}
use Rattle.lay_files.proofs.windows.parts.add_items.Given as goal

abbrev pub invariant-loop : goal.invariant-loop
invariant-loop l = AddsItems l.depth l.fn.items l.items l.fn.at l.at
