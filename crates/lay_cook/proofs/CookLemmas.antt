-- From a literal to the text within its quotes.
use Rattle.std.proofs.Common.{◌≡◌, ℕ, List, [], ◌∷◌, Bool, true, false, cond, not, Option, Some, None, sym, refl, ap, ◌∙◌, subst}
use Rattle.std.specs.Prelude.{◌==◌, encode_utf8_all}
use Rattle.std.specs.Str.{chars}
use Rattle.std.proofs.lemmas.Bool.{and_parts, not-true, not-false}
use Rattle.std.proofs.lemmas.Str.{chars_from_encodes}
use Rattle.lay_piece.specs.Scan.{run}
use Rattle.lay_piece.specs.Quoted.{Plain, Hashes, string_step, raw_step}
use Rattle.lay_piece.specs.Forms.{after_literal, is_whole}
use Rattle.lay_piece.specs.declared.piece.quoted.Contents.TheVariants as of
use Rattle.lay_piece.specs.declared.kind.Kind.{Kind}
use Rattle.lay_piece.specs.declared.kind.Kind.TheVariants.{Str, RawStr}
use Rattle.lay_text.specs.declared.text.Text.{Text}
use Rattle.lay_piece.proofs.Literals.{is_literal, had-literal}
use Rattle.lay_cook.specs.declared.cooking.Cooked.TheVariants as cooked
use Rattle.lay_cook.specs.Cooking.{CookedAs, IsPiece}
use Rattle.lay_cook.specs.Steps.{IsLiteral, Closes, ClosesRaw, ends, ends_in_mark}
use Rattle.lay_cook.proofs.EndLemmas.{is_mark, ends-both, whole_ends, string_mark, raw_mark, behind_one}

-- a piece is a literal, with a suffix or without
pub literal : (k : Kind) (text piece : List ℕ) → is_literal k ≡ true → IsPiece k text → piece ≡ text
    → IsLiteral k (chars piece)
literal k text piece l p e =
    let same : p.piece ≡ chars piece = chars_from_encodes p.piece text p.utf8 (sym p.spelt) ∙ ap chars (sym e) in
    subst (IsLiteral k) same (and_parts _ _ (sym (had-literal k p.piece p.rest p.index l) ∙ p.had)).0

-- whether it has a suffix
suffix_is : (k : Kind) (cs : List ℕ) (r : Bool)
    → ((s : List ℕ) → after_literal k s ≡ Some [] → ends is_mark s ≡ true)
    → IsLiteral k cs → r ≡ not (ends_in_mark cs)
    → r ≡ not (is_whole (after_literal k cs))
suffix_is k cs r marks h e =
    e ∙ ap (λ b. not b) (sym (whole_ends k cs marks h ∙ ends-both (λ c. c == 34) (λ c. c == 35) cs))

pub string_suffix : (cs : List ℕ) (r : Bool) → IsLiteral Str cs → r ≡ not (ends_in_mark cs)
    → r ≡ not (is_whole (after_literal Str cs))
string_suffix cs r h e = suffix_is Str cs r string_mark h e

pub raw_suffix : (cs : List ℕ) (r : Bool) → IsLiteral RawStr cs → r ≡ not (ends_in_mark cs)
    → r ≡ not (is_whole (after_literal RawStr cs))
raw_suffix cs r h e = suffix_is RawStr cs r raw_mark h e

-- what is said of either
pub no_text : (b r : Bool) (value : List ℕ) → r ≡ not b → r ≡ true → CookedAs (cond b (Some value) None) cooked.NotText
no_text b r value e h =
    let f : b ≡ false = not-true b (sym e ∙ h) in
    subst (λ v. CookedAs (cond v (Some value) None) cooked.NotText) (sym f) tt

pub is_text : (b r : Bool) (value : List ℕ) (text : Text) → r ≡ not b → r ≡ false → text ≡ encode_utf8_all value
    → CookedAs (cond b (Some value) None) (cooked.Str text)
is_text b r value text e h w =
    let f : b ≡ true = not-false b (sym e ∙ h) in
    subst (λ v. CookedAs (cond v (Some value) None) (cooked.Str text)) (sym f) w

whole_some : (o : Option (List ℕ)) → is_whole o ≡ true → o ≡ Some []
whole_some None h = cc
whole_some (Some []) h = refl
whole_some (Some (c ∷ cs)) h = cc

-- what follows the first character
pub string_closes : (c : ℕ) (text cs : List ℕ) (r : Bool) → text ≡ c ∷ cs → r ≡ not (is_whole (after_literal Str text))
    → r ≡ false → Closes Plain cs
unfolding after_literal
string_closes c text cs r e s h =
    behind_one 34 c cs (run (string_step of.Chars) Plain) (ap (after_literal Str) (sym e)
    ∙ whole_some (after_literal Str text) (not-false _ (sym s ∙ h)))

pub raw_closes : (c : ℕ) (text cs : List ℕ) (r : Bool) → text ≡ c ∷ cs → r ≡ not (is_whole (after_literal RawStr text))
    → r ≡ false → ClosesRaw cs
unfolding after_literal
raw_closes c text cs r e s h =
    behind_one 114 c cs (run (raw_step of.Chars) (Hashes 0)) (ap (after_literal RawStr) (sym e)
    ∙ whole_some (after_literal RawStr text) (not-false _ (sym s ∙ h)))
