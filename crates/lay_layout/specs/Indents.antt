-- An invariant of frames: no indent is greater than the greatest indent.
use Rattle.std.specs.Prelude.{◌≤◌, List, [], ◌∷◌}
use Rattle.lay_layout.specs.declared.layout.Frame.{Frame}
use Rattle.lay_layout.specs.declared.layout.Frame.TheVariants.{Flat, Broken}
use Rattle.lay_layout.specs.Margins.{greatest_indent}

abbrev pub IsKept : Frame → Type 0
IsKept Flat = Unit {0}
IsKept (Broken consistent indent) = indent ≤ greatest_indent

abbrev pub AreKept : List Frame → Type 0
AreKept [] = Unit {0}
AreKept (f ∷ fs) = IsKept f × AreKept fs
