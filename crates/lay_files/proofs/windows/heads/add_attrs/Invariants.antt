use Rattle.lay_files.specs.windows.Parts.{AddsAttrs}
use Rattle.lay_files.proofs.windows.heads.add_attrs.Given as goal

abbrev pub invariant-loop : goal.invariant-loop
invariant-loop l = AddsAttrs l.inner l.fn.attrs l.attrs l.fn.at l.at
