use Rattle.lay_printer.proofs.press.Printer.waiting.Goals as goal

pub returns-clause-lag : goal.returns-clause-lag
returns-clause-lag g c = rw (← c.self.view_is) c.waiting.ensures.lag
