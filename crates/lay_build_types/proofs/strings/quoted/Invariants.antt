use Rattle.std.proofs.Common.{◌≡◌, ◌++◌, take}
use Rattle.std.specs.Prelude.{codes, flat_map}
use Rattle.lay_build_types.specs.Strings.{escaped}
use Rattle.lay_build_types.proofs.strings.quoted.Given as goal

abbrev pub invariant-loop-byte : goal.invariant-loop-byte
invariant-loop-byte l = l.literal ≡ codes "\"" ++ flat_map escaped (take l.byte-index l.text)
