use Rattle.std.proofs.Common.{rules, ◌∷◌, [], ap}
use Rattle.lay_layout.specs.declared.layout.Tok.TheVariants as tok
use Rattle.lay_printer.specs.Printers.{Calls}
use Rattle.lay_printer.proofs.Calling.{did_calls}
use Rattle.lay_printer.proofs.press.PrinterEmit.begin.Goals as goal

pub returns-clause-did : goal.returns-clause-did
returns-clause-did g c =
    let p = c.self.inside in
    let k : Calls p.core (g.K.Sink.written p.sink) (g.K.Sink.faults p.sink) c.begin.result c.begin.new.self
    (g.K.Sink.written c.begin.new.sink) (g.K.Sink.faults c.begin.new.sink)
    (tok.Begin c.args.consistent c.args.offset) = search rules in
    rw (← c.self.view_is) (did_calls (λ p. p.core) (λ p. g.K.Sink.written p.sink) (λ p. g.K.Sink.faults p.sink)
    (λ p. g.K.Sink.loan p.sink ∷ []) _ _ _ _ k (ap (λ n. n ∷ []) c.begin.ensures.loan))

pub returns-clause-alone : goal.returns-clause-alone
returns-clause-alone g c = rw (← c.self.view_is) c.begin.ensures.alone
