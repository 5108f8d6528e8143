use Rattle.std.proofs.Common.{◌≡◌, ℕ, List, ◌∷◌, sym, refl, ap, ◌∙◌}
use Rattle.std.specs.Str.{chars}
use Rattle.lay_piece.specs.Scan.{Go, run}
use Rattle.lay_piece.specs.Quoted.{Plain, Turned, Skip, string_step}
use Rattle.lay_piece.specs.declared.piece.quoted.Contents.{Contents}
use Rattle.lay_piece.proofs.Runs.{run-step, string_skip}
use Rattle.lay_piece.proofs.piece.quoted.after_string_char.Goals as goal

-- a backslash before an LF
skips : (y : Contents) (cs : List ℕ) → run (string_step y) Plain (92 ∷ 10 ∷ cs) ≡ run (string_step y) Skip cs
unfolding string_step
skips y cs = run-step (string_step y) Plain 92 (10 ∷ cs) (Go Turned) refl
    ∙ run-step (string_step y) Turned 10 cs (Go Skip) refl

pub returns-in-Some-clause-rest : goal.returns-in-Some-clause-rest
returns-in-Some-clause-rest c =
    ap (λ v. run (string_step c.args.of) Plain (v ∷ chars c.args.tail.now)) c.if-c-ne92.false
    ∙ ap (λ t. run (string_step c.args.of) Plain (92 ∷ t)) c.in-Some.ensures.rest
    ∙ skips c.args.of (chars c.in-Some.next_line.now) ∙ string_skip c.args.of (chars c.in-Some.next_line.now)
    ∙ ap (run (string_step c.args.of) Plain) (sym c.after.ensures.run)
