use Rattle.std.proofs.Common.{rules, ◌∷◌, [], ap}
use Rattle.lay_layout.specs.declared.layout.Tok.TheVariants as tok
use Rattle.lay_printer.specs.Printers.{Calls}
use Rattle.lay_printer.proofs.Calling.{did_calls}
use Rattle.lay_printer.proofs.press.PressEmit.begin.Goals as goal

pub returns-clause-did : goal.returns-clause-did
returns-clause-did g c =
    let k : Calls c.args.self.now.core.now (g.K.Sink.written c.args.self.now.sink.now) (g.K.Sink.faults c.args.self.now.sink.now) c.begin.result c.begin.new.self (g.K.Sink.written c.begin.new.sink) (g.K.Sink.faults c.begin.new.sink) (tok.Begin c.args.consistent c.args.offset) = search rules in
    did_calls (λ p. p.core.now) (λ p. g.K.Sink.written p.sink.now) (λ p. g.K.Sink.faults p.sink.now) (λ p. p.sink.ghost_name ∷ g.K.Sink.loan p.sink.now ∷ []) c.args.self.now _ _ _ k (ap (λ n. c.args.self.now.sink.ghost_name ∷ n ∷ []) c.begin.ensures.loan)

pub returns-clause-alone : goal.returns-clause-alone
returns-clause-alone g c = c.begin.ensures.alone
