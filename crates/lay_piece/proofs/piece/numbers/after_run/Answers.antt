use Rattle.std.proofs.Common.{◌≡◌, ℕ, List, Bool, true, false, cond, not, ◌&&◌, ◌||◌, Some, None, refl, ap, ◌∙◌}
use Rattle.std.specs.Prelude.{◌==◌}
use Rattle.std.specs.Str.{chars}
use Rattle.lay_piece.specs.Chars.{begins, after}
use Rattle.lay_piece.specs.Number.{in_base, in_run}
use Rattle.lay_piece.specs.Found.{after_run, is_underscore}
use Rattle.lay_piece.specs.declared.piece.numbers.Base.{Base}
use Rattle.lay_piece.proofs.Fronts.{after-within}
use Rattle.lay_piece.proofs.piece.numbers.after_run.Goals as goal

abbrev in_digits_of : Base → ℕ → Bool
in_digits_of base c = in_base base c || c == 95

underscore_in : (a b : Bool) → b ≡ true → a || b ≡ true
underscore_in true b h = refl
underscore_in false b h = h

-- the underscores, and then the run after them
in_parts : (base : Base) (cs ds rest : List ℕ) → ds ≡ after is_underscore cs → rest ≡ after (in_digits_of base) ds
    → after_run base cs ≡ cond (begins (in_base base) ds && not (begins (in_run base) rest)) (Some rest) None
in_parts base cs ds rest e f =
    let same : rest ≡ after (in_digits_of base) cs = f ∙ ap (after (in_digits_of base)) e
    ∙ after-within is_underscore (in_digits_of base) cs (λ c h. underscore_in (in_base base c) (c == 95) h) in
    rw (e, same) refl

-- the same where the tests are known
decided : (base : Base) (cs ds rest : List ℕ) (a b : Bool) → ds ≡ after is_underscore cs
    → rest ≡ after (in_digits_of base) ds
    → a ≡ begins (in_base base) ds → b ≡ begins (in_run base) rest
    → after_run base cs ≡ cond (a && not b) (Some rest) None
decided base cs ds rest a b e f g h = in_parts base cs ds rest e f ∙ (rw (← g, ← h) refl)

pub returns-then-begins : goal.returns-then-begins
returns-then-begins c =
    decided c.args.base (chars c.args.s.now) (chars c.after-digits.result.now)
    (chars c.after-rest.result.now) true true
    c.after-digits.ensures.run c.after-rest.ensures.run c.if-not-begins.ensures c.if-begins.ensures

pub returns : goal.returns
returns c =
    decided c.args.base (chars c.args.s.now) (chars c.after-digits.result.now)
    (chars c.after-rest.result.now) true false
    c.after-digits.ensures.run c.after-rest.ensures.run c.if-not-begins.ensures c.if-begins.ensures
