use Rattle.std.proofs.Common.{◌∷◌, [], ap}
use Rattle.lay_printer.proofs.Calling.{did_calls}
use Rattle.lay_printer.proofs.press.PressEmit.brk.Goals as goal

pub returns-clause-did : goal.returns-clause-did
returns-clause-did g c =
    did_calls (λ p. p.core.now) (λ p. g.K.Sink.written p.sink.now) (λ p. g.K.Sink.faults p.sink.now) (λ p. p.sink.ghost_name ∷ g.K.Sink.loan p.sink.now ∷ []) c.args.self.now _ _ _ c.brk.ensures.calls (ap (λ n. c.args.self.now.sink.ghost_name ∷ n ∷ []) c.brk.ensures.loan)

pub returns-clause-alone : goal.returns-clause-alone
returns-clause-alone g c = c.brk.ensures.alone
