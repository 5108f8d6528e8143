-- The command line of `lay_fmt` as `clap` describes it, and what `clap` makes of words.
use Rattle.std.specs.Prelude.{ℕ, ◌≡◌, ◌≢◌, true, List, [], Option, Some, None, codes}
use Rattle.clap.specs.Words.{App, Rule, new_app, new_rule, with_rule, fault_of, found_of, matches_of, rows_of}
use Rattle.clap.specs.Simple.{on_top}
use Rattle.clap.specs.declared.builder.action.ArgAction.TheVariants.{Set, SetTrue}
use Rattle.clap.specs.declared.parser.matches.ArgMatches.{ArgMatches}

-- a flag with this long name
abbrev pub flag_rule : List ℕ → Rule
flag_rule name = record (new_rule name) { long = Some name; action = Some SetTrue }

-- `--check`
abbrev pub check_rule : Rule
check_rule = flag_rule (codes "check")

-- `--map`
abbrev pub map_rule : Rule
map_rule = flag_rule (codes "map")

-- an option with this long name and one value
abbrev pub option_rule : List ℕ → Rule
option_rule name = record (new_rule name) { long = Some name; action = Some Set }

-- `--sample SEED`
abbrev pub sample_rule : Rule
sample_rule = option_rule (codes "sample")

-- `--items N`
abbrev pub items_rule : Rule
items_rule = option_rule (codes "items")

-- one FILE, which may be left out
abbrev pub file_rule : Rule
file_rule = new_rule (codes "file")

-- a command whose words don't begin with the name of the program
abbrev pub bare : App
bare = on_top (λ top. record top { no_binary_name = true }) (new_app (codes "lay_fmt"))

-- `[--check] [--map] [--sample SEED] [--items N] [FILE]`, and the help that `clap` adds
abbrev pub command : App
command = with_rule (with_rule (with_rule (with_rule (with_rule bare check_rule) map_rule) sample_rule) items_rule) file_rule

-- The matches are what `clap` finds in the words. There are none if the words have a fault.
abbrev pub Matched : List (List ℕ) → Option ArgMatches → Type 0
Matched words (Some matches) =
    (fault_of command words ≡ []) × (rows_of (found_of matches) ≡ matches_of command words)
Matched words None = fault_of command words ≢ []
