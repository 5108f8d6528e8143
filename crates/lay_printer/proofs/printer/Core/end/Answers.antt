use Rattle.lay_printer.proofs.printer.Core.end.Goals as goal

pub returns-clause-alone : goal.returns-clause-alone
returns-clause-alone g c = c.feed.ensures.alone
