use Rattle.std.proofs.Common.{Ok, IsUtf8, subst, sym, ap, ◌∙◌, is_ok}
use Rattle.std.specs.Str.{chars}
use Rattle.lay_token.specs.Source.{folded, source_of, without_mark}
use Rattle.lay_lex.proofs.Lines.{source-text, source-no_text, ready_source}
use Rattle.lay_lex.proofs.source.normalise.Goals as goal

pub returns-in-Err-clause-answer : goal.returns-in-Err-clause-answer
returns-in-Err-clause-answer c =
    source-no_text c.args.bytes.now c.valid_up_to-at.result c.in-Err.ensures.cases.0
    (c.valid_up_to-at.ensures ∙ c.in-Err.ensures.valid_len)

pub returns-in-Ok-source_of-clause-answer : goal.returns-in-Ok-source_of-clause-answer
returns-in-Ok-source_of-clause-answer c =
    source-text c.args.bytes.now c.in-Ok.ensures.cases.1
    ∙ ap (λ l. Ok (source_of (folded (without_mark (chars l))))) (sym c.in-Ok.ensures.cases.0)
    ∙ ap (λ s. Ok s) (sym c.in-Ok-source_of.ensures)

pub returns-in-Err-source_of-clause-answer : goal.returns-in-Err-source_of-clause-answer
returns-in-Err-source_of-clause-answer c = ap is_ok (source-text c.args.bytes.now c.in-Ok.ensures.cases.1)

pub returns-in-Ok-source_of-clause-ready : goal.returns-in-Ok-source_of-clause-ready
returns-in-Ok-source_of-clause-ready c =
    let u = subst IsUtf8 (sym c.in-Ok.ensures.cases.0) c.in-Ok.ensures.cases.1 in
    ready_source c.in-Ok.text.now c.in-Ok-source_of.source u c.in-Ok-source_of.ensures
