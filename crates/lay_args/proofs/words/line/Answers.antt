-- The line of the matches has no more items than may be asked for.
use Rattle.std.proofs.Common.{◌≤◌, ℕ, Bool, true, false, List, Option, Some, None, IfSome, codes, subst, sym, nat_le}
use Rattle.std.proofs.lemmas.Bool.{and_parts, cond_both, leb-true}
use Rattle.std.proofs.lemmas.Result.{IfOk-weaker}
use Rattle.clap.specs.Words.{Row, first_of, found_of, rows_of}
use Rattle.lay_args.specs.Line.{IsBounded, is_set, line_for, line_of_matches, sample_for}
use Rattle.lay_args.specs.Number.{is_numeral, item_count_of, most_items, number, number_within, seed_of}
use Rattle.lay_args.proofs.words.line.Goals as goal

-- a number within a limit is at most the limit
number_within-bounded : (digits limit : ℕ) (text : List ℕ) → IfSome (number_within digits limit text) (λ value. value ≤ limit)
number_within-bounded digits limit text =
    cond_both _ (Some (number text)) None (λ o. IfSome o (λ value. value ≤ limit))
    (λ passes. leb-true (number text) limit (and_parts (is_numeral digits text) (nat_le (number text) limit) passes).1)
    (λ fails. tt)

-- a sample of few items is bounded, and so is the usage
sample_for-bounded : (seed items : Option ℕ) → IfSome items (λ count. count ≤ most_items) → IsBounded (sample_for seed items)
sample_for-bounded (Some seed) (Some items) few = few
sample_for-bounded (Some seed) None few = tt
sample_for-bounded None items few = tt

-- whatever the values are
line_for-bounded : (check map : Bool) (sample items file : Option (List ℕ)) → IsBounded (line_for check map sample items file)
line_for-bounded true true sample items file = tt
line_for-bounded true false None None file = tt
line_for-bounded true false None (Some items) file = tt
line_for-bounded true false (Some sample) items file = tt
line_for-bounded false true None None file = tt
line_for-bounded false true None (Some items) file = tt
line_for-bounded false true (Some sample) items file = tt
line_for-bounded false false None None file = tt
line_for-bounded false false None (Some items) file = tt
line_for-bounded false false (Some sample) None file = tt
line_for-bounded false false (Some sample) (Some items) (Some file) = tt
line_for-bounded false false (Some sample) (Some items) None =
    sample_for-bounded (seed_of sample) (item_count_of items) (number_within-bounded 6 most_items items)

-- and whatever the matches are
line_of_matches-bounded : (matches : List Row) → IsBounded (line_of_matches matches)
line_of_matches-bounded matches = line_for-bounded (is_set (first_of (codes "check") matches)) (is_set (first_of (codes "map") matches))
    (first_of (codes "sample") matches) (first_of (codes "items") matches) (first_of (codes "file") matches)

pub returns-in-Some-2-clause-few : goal.returns-in-Some-2-clause-few
returns-in-Some-2-clause-few c =
    let bounded = line_of_matches-bounded (rows_of (found_of c.in-Some-2.matches)) in
    IfOk-weaker c.from_matches.result _ _ (λ line says. subst IsBounded (sym says) bounded) c.from_matches.ensures
