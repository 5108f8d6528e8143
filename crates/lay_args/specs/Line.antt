-- What the words of a command line ask for.
use Rattle.std.specs.Prelude.{ℕ, ◌≤◌, ◌&&◌, ⊤, Bool, true, false, List, Option, None, Some, if◌then◌else◌, codes}
use Rattle.std.specs.List.{list_all}
use Rattle.std.specs.Option.{option_map_or}
use Rattle.std.specs.Str.{bytes_eq, is_utf8}
use Rattle.clap.specs.Walk.{is_empty}
use Rattle.clap.specs.Words.{Row, fault_of, first_of, matches_of}
use Rattle.lay_io.specs.declared.outside.Which.{Which}
use Rattle.lay_io.specs.declared.outside.Which.TheVariants.{Stdin, File}
use Rattle.lay_args.specs.Command.{command}
use Rattle.lay_args.specs.Number.{item_count_of, most_items, seed_of}
use Rattle.lay_args.specs.declared.lines.Line.{Line}
use Rattle.lay_args.specs.declared.lines.Line.TheVariants.{Usage, Format, Check, Map, Sample}

-- A flag is set if its value is `true`. `clap` gives it that value if it stands in the words.
abbrev pub is_set : Option (List ℕ) → Bool
is_set flag = option_map_or (λ value. bytes_eq value (codes "true")) flag false

-- the file of this name, or standard input where there is no name
abbrev pub input_of : Option (List ℕ) → Which
input_of None = Stdin
input_of (Some name) = File name

-- A sample needs both a seed and a number of items.
abbrev pub sample_for : Option ℕ → Option ℕ → Line
sample_for (Some seed) (Some items) = Sample seed items
sample_for _ _ = Usage

-- What the flags `--check` and `--map`, the options `--sample` and `--items`, and FILE ask for.
-- Without options an input is checked or mapped if that flag is set, and formatted if none is. The
-- two flags exclude each other. The two options need each other, and exclude the flags and FILE.
abbrev pub line_for : (check map : Bool) (sample items file : Option (List ℕ)) → Line
line_for false false None None file = Format (input_of file)
line_for true false None None file = Check (input_of file)
line_for false true None None file = Map (input_of file)
line_for false false (Some sample) (Some items) None = sample_for (seed_of sample) (item_count_of items)
line_for _ _ _ _ _ = Usage

-- what the matches of the flags, the options and FILE say
abbrev pub line_of_matches : List Row → Line
line_of_matches matches = line_for (is_set (first_of (codes "check") matches)) (is_set (first_of (codes "map") matches))
    (first_of (codes "sample") matches) (first_of (codes "items") matches) (first_of (codes "file") matches)

-- The words are UTF-8, and `clap` finds no fault in them.
abbrev pub have_matches : List (List ℕ) → Bool
have_matches words = list_all is_utf8 words && is_empty (fault_of command words)

-- What the words ask for: what their matches say, or Usage if they have none.
abbrev pub line_of : List (List ℕ) → Line
line_of words = if have_matches words then line_of_matches (matches_of command words) else Usage

-- A sample has no more items than may be asked for.
abbrev pub IsBounded : Line → Type 0
IsBounded (Sample seed items) = items ≤ most_items
IsBounded _ = ⊤
