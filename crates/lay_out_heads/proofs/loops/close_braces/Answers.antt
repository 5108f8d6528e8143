use Rattle.lay_out_types.proofs.Adding.{adds, adds_on, other}
use Rattle.lay_out_pats.proofs.FieldLemmas.{chosen}
use Rattle.lay_out_heads.proofs.loops.close_braces.Goals as goal

pub returns-then-bare : goal.returns-then-bare
returns-then-bare g c = adds c.add_either.ensures (chosen _ _ c.args.bare c.if-bare.true)

pub returns : goal.returns
returns g c =
    adds (adds_on c.add_text-last.ensures c.close_body.ensures)
    (other _ _ c.args.bare c.if-bare.false)
