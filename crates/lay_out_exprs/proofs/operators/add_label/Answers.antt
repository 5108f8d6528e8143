use Rattle.lay_out_types.proofs.Adding.{adds, adds_on}
use Rattle.lay_out_exprs.proofs.Feeds.{some_label}
use Rattle.lay_out_exprs.proofs.operators.add_label.Goals as goal

pub returns-in-Some : goal.returns-in-Some
returns-in-Some g c =
    adds (adds_on c.add_text-blank.ensures c.add_text.ensures) (some_label _ c.in-Some.label _ c.in-Some.is c.as_bytes.ensures)
