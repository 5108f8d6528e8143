use Rattle.std.proofs.Common.{ap, ◌∙◌}
use Rattle.std.specs.Prelude.{◌==◌}
use Rattle.std.specs.List.{list_any}
use Rattle.lay_lex.proofs.Cuts.{any-chars}
use Rattle.lay_lex.proofs.ends.has_line_feed.Goals as goal

pub returns : goal.returns
returns c = c.contains.ensures.value ∙ ap (list_any (λ d. d == 10)) c.as_bytes.ensures.value
    ∙ any-chars c.args.s.now c.utf8.s
