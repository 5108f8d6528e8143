-- The command is simple, so its matches and its faults are those of its definition.
use Rattle.std.proofs.Common.{◌≡◌, ◌∙◌, ap, map, sym}
use Rattle.clap.specs.Words.{App, app_of, fault_of, is_simple, is_simple_and_free, matches_of}
use Rattle.lay_args.specs.Command.{command}
use Rattle.lay_args.proofs.command.matches.Goals as goal

pub returns-in-Ok : goal.returns-in-Ok
returns-in-Ok c =
    let same : app_of c.in_ok-command.command ≡ command = c.in_ok-command.ensures in
    let words = map (λ word. word.now) c.args.words.now in
    let faultless = c.in-Ok.ensures.kinds (ap is_simple_and_free same) in
    let matched = c.in-Ok.ensures.matches (ap is_simple same) in (
      ap (λ (a : App). fault_of a words) (sym same) ∙ faultless,
      matched.0 ∙ ap (λ (a : App). matches_of a words) same,
    )
