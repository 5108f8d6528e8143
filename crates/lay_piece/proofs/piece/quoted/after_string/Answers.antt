use Rattle.std.proofs.Common.{◌∷◌, sym, refl, ap, ◌∙◌}
use Rattle.std.specs.Str.{chars}
use Rattle.lay_piece.specs.Scan.{End}
use Rattle.lay_piece.specs.Quoted.{Plain, string_step}
use Rattle.lay_piece.specs.Forms.{after_string}
use Rattle.lay_piece.proofs.Runs.{run-nil, run-step}
use Rattle.lay_piece.proofs.piece.quoted.after_string.Goals as goal

pub returns-then-c-eq34 : goal.returns-then-c-eq34
unfolding string_step
returns-then-c-eq34 c =
    sym c.loop-c.invariant.same
    ∙ ap (after_string c.args.of) (c.in-Some.ensures.parts
    ∙ ap (λ v. v ∷ chars c.in-Some.tail.now) c.if-c-eq34.true)
    ∙ run-step (string_step c.args.of) Plain 34 (chars c.in-Some.tail.now) End refl

pub returns : goal.returns
returns c = sym c.loop-c.invariant.same ∙ ap (after_string c.args.of) c.in_default.ensures.parts
    ∙ run-nil (string_step c.args.of) Plain
