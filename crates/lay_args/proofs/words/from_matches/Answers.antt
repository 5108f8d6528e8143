-- What is read of the matches is what their rows hold.
use Rattle.std.proofs.Common.{◌≡◌, ◌∙◌, ℕ, Bool, List, Option, ap, codes}
use Rattle.std.proofs.lemmas.Result.{IfOk-weaker}
use Rattle.clap.specs.Words.{found_of, first_value, rows_of}
use Rattle.clap.specs.declared.parser.matches.Found.{Found}
use Rattle.clap.proofs.WalkLemmas.{first_value-rows}
use Rattle.lay_args.specs.Line.{is_set, line_for, line_of_matches}
use Rattle.lay_args.proofs.words.from_matches.Goals as goal

-- equal values say the same
line_for-same : {a b m n : Bool} {s t i j f g : Option (List ℕ)} → a ≡ b → m ≡ n → s ≡ t → i ≡ j → f ≡ g
    → line_for a m s i f ≡ line_for b n t j g
line_for-same check map sample items file k = line_for (check k) (map k) (sample k) (items k) (file k)

-- the first values of the entries are those of the rows
of_rows : (found : Found) (check map : Bool) (sample items file : Option (List ℕ))
    → check ≡ is_set (first_value found (codes "check")) → map ≡ is_set (first_value found (codes "map"))
    → sample ≡ first_value found (codes "sample")
    → items ≡ first_value found (codes "items") → file ≡ first_value found (codes "file")
    → line_for check map sample items file ≡ line_of_matches (rows_of found)
of_rows found check map sample items file checked mapped sampled counted named =
    let rows = first_value-rows found in
    line_for-same (checked ∙ ap is_set (rows (codes "check"))) (mapped ∙ ap is_set (rows (codes "map"))) (sampled ∙ rows (codes "sample"))
    (counted ∙ rows (codes "items")) (named ∙ rows (codes "file"))

pub returns : goal.returns
returns c =
    let same = of_rows (found_of c.args.matches.now) _ _ _ _ _ (c.is_set-check.ensures ∙ ap is_set c.get_str.ensures)
    (c.is_set-map.ensures ∙ ap is_set c.get_str-2.ensures) c.get_str-sample.ensures c.get_str-items.ensures c.get_str-3.ensures in
    IfOk-weaker c.from_values.result _ _ (λ line says. says ∙ same) c.from_values.ensures
