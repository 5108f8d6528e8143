use Rattle.lay_printer.proofs.Blanks.{shown_blank}
use Rattle.lay_printer.proofs.laws.blanks_law.Goals as goal

pub returns : goal.returns
returns c = λ s r j f l h. shown_blank s r j f l h
