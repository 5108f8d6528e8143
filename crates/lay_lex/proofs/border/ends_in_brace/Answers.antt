use Rattle.lay_lex.proofs.Windows.{last_stops, opener_is_stop, closer_is_stop}
use Rattle.lay_lex.proofs.border.ends_in_brace.Goals as goal

pub returns-in-Opener-Brace-clause-stops : goal.returns-in-Opener-Brace-clause-stops
returns-in-Opener-Brace-clause-stops c e =
    last_stops c.args.tokens.now c.in-Some.before.now c.in-Some.last.now c.in-Some.ensures.cases.0
    (opener_is_stop c.in-Some.last.now c.in-Opener-Brace.field-0 c.in-Opener-Brace.is)

pub returns-in-Closer-Brace-clause-stops : goal.returns-in-Closer-Brace-clause-stops
returns-in-Closer-Brace-clause-stops c e =
    last_stops c.args.tokens.now c.in-Some.before.now c.in-Some.last.now c.in-Some.ensures.cases.0
    (closer_is_stop c.in-Some.last.now c.in-Closer-Brace.field-0 c.in-Closer-Brace.is)
