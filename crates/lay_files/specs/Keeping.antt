-- The bytes that a sink in memory keeps.
use Rattle.std.specs.Prelude.{ℕ, List}
use Rattle.lay_files.specs.declared.keep.Keeper.{Keeper}

-- the bytes that were written to it
abbrev pub kept_by : Keeper → List ℕ
kept_by keeper = keeper.bytes.items
