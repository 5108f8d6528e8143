use Rattle.lay_out_types.proofs.Adding.{adds, adds_on, other}
use Rattle.lay_out_pats.proofs.FieldLemmas.{chosen}
use Rattle.lay_out_heads.proofs.loops.add_line.Goals as goal

pub returns-then-first : goal.returns-then-first
returns-then-first g c =
    adds (adds_on c.open_body-body.ensures c.add_break.ensures) (chosen _ _ c.args.first c.if-first.true)

pub returns : goal.returns
returns g c =
    adds (adds_on c.add_text-comma.ensures c.add_break-2.ensures) (other _ _ c.args.first c.if-first.false)
