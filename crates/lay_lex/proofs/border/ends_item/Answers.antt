use Rattle.std.proofs.Common.{◌≡◌, [], ◌∷◌, sym, ◌∙◌}
use Rattle.std.proofs.lemmas.Slice.Eq.{bytes_eq-Decides}
use Rattle.lay_lex.proofs.Windows.{last_stops, closer_is_stop, semicolon_is_stop}
use Rattle.lay_lex.proofs.border.ends_item.Goals as goal

pub returns-in-Closer-Brace : goal.returns-in-Closer-Brace
returns-in-Closer-Brace c e =
    last_stops c.args.tokens.now c.in-Some.field-0-1.now c.in-Some.last.now c.in-Some.ensures.cases.0
    (closer_is_stop c.in-Some.last.now c.in-Closer-Brace.field-0 c.in-Closer-Brace.is)

pub returns-in-Punct : goal.returns-in-Punct
returns-in-Punct c e =
    let text : c.in-Some.last.now.text ≡ 59 ∷ [] =
    sym c.as_bytes.ensures ∙ (bytes_eq-Decides c.as_bytes.result.now c.as_slice.result.now).0 (sym c.eq.ensures ∙ e) ∙ c.as_slice.ensures in
    last_stops c.args.tokens.now c.in-Some.field-0-1.now c.in-Some.last.now c.in-Some.ensures.cases.0
    (semicolon_is_stop c.in-Some.last.now c.in-Punct.is text)
