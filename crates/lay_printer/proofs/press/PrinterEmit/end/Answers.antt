use Rattle.std.proofs.Common.{◌∷◌, [], ap}
use Rattle.lay_printer.proofs.Calling.{did_calls}
use Rattle.lay_printer.proofs.press.PrinterEmit.end.Goals as goal

pub returns-clause-did : goal.returns-clause-did
returns-clause-did g c =
    rw (← c.self.view_is) (did_calls (λ p. p.core) (λ p. g.K.Sink.written p.sink) (λ p. g.K.Sink.faults p.sink)
    (λ p. g.K.Sink.loan p.sink ∷ []) _ _ _ _ c.end.ensures.calls (ap (λ n. n ∷ []) c.end.ensures.loan))

pub returns-clause-alone : goal.returns-clause-alone
returns-clause-alone g c = rw (← c.self.view_is) c.end.ensures.alone
