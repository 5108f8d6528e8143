use Rattle.lay_printer.proofs.printer.Core.text.Goals as goal

pub returns-clause-alone : goal.returns-clause-alone
returns-clause-alone g c = c.put_text.ensures.alone
