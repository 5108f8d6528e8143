-- The line that sums up a sample and its text.
use Rattle.std.specs.Prelude.{ℕ, List, ◌++◌, length, codes}
use Rattle.std.specs.Fmt.{decimal}
use Rattle.lay_sample.specs.counting.Counting.{lines_of, longest_line}

-- The line for this many items, the bytes of the sample, and the text that it is formatted to.
abbrev pub summary : ℕ → List ℕ → List ℕ → List ℕ
summary items bytes text =
    codes "items " ++ (decimal items
    ++ (codes ", bytes in " ++ (decimal (length bytes)
    ++ (codes ", bytes out " ++ (decimal (length text)
    ++ (codes ", lines " ++ (decimal (lines_of text)
    ++ (codes ", longest " ++ (decimal (longest_line text) ++ codes "\n")))))))))
