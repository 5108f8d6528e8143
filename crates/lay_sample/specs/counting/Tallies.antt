-- What it means that a tally has the counts of a text.
use Rattle.std.specs.Prelude.{ℕ, ◌≡◌, List, length}
use Rattle.lay_sample.specs.counting.Counting.{lines_of, longest_line, last_line}
use Rattle.lay_sample.specs.declared.counting.tally.Tally.{Tally}

-- The counts are those of the text.
pub record IsTallyOf (tally : Tally) (text : List ℕ) : Type 0 where
  pub bytes : tally.bytes ≡ length text
  pub lines : tally.lines ≡ lines_of text
  pub longest : tally.longest ≡ longest_line text
  pub last : tally.last ≡ last_line text
