use Rattle.std.proofs.Common.{◌≡◌, false, take}
use Rattle.std.specs.List.{list_any}
use Rattle.lay_code.specs.reader.Conditions.{is_let}
use Rattle.lay_read_branches.proofs.conditions.has_let.Given as goal

-- none of the links that are passed is a `let`
abbrev pub invariant-loop-pat : goal.invariant-loop-pat
invariant-loop-pat l = list_any is_let (take l.pat-index l.links) ≡ false
