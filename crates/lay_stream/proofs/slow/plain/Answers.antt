use Rattle.std.proofs.Common.{sym, ap, ◌∙◌}
use Rattle.std.proofs.lemmas.Result.{IfOk-weaker}
use Rattle.lay_layout.specs.Machine.{text}
use Rattle.lay_layout.proofs.Render.{text_stream}
use Rattle.lay_stream.proofs.slow.plain.Goals as goal

pub returns-clause-document : goal.returns-clause-document
returns-clause-document c =
    IfOk-weaker c.lay.result _ _
    (λ t h d e. h ∙ ap text (c.toks.ensures ∙ sym e) ∙ text_stream d) c.lay.ensures
