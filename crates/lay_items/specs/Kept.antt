-- The texts that are kept with the syntax tree of a file.
use Rattle.std.specs.Prelude.{ℕ, ◌≡◌, ◌++◌, List, map}
use Rattle.std.specs.List.{concat}
use Rattle.lay_code.specs.Out.{out}
use Rattle.lay_code.specs.declared.file.File.{File}
use Rattle.lay_items.specs.alone.Outputs.{head_text, item_text}

-- One text is kept for what stands before the items of the file, and one for each item. In a row
-- they are the text of the file.
pub record Keeps (file : File) (head : List ℕ) (outputs : List (List ℕ)) : Type 0 where
  pub before : head ≡ head_text file
  pub each : outputs ≡ map item_text file.items
  pub whole : head ++ concat outputs ≡ out file
