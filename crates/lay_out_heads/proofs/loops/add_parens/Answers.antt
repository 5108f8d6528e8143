use Rattle.std.proofs.Common.{List, ◌++◌, map, codes, refl, ◌∙◌}
use Rattle.lay_out_types.specs.Rows.{comma_between, list_closed, list_opened, row}
use Rattle.lay_out_types.proofs.Adding.{adds, adds_on}
use Rattle.lay_out_types.proofs.FormRows.{may_close, none_is, none_left}
use Rattle.lay_out_types.proofs.RowLemmas.{all_turns, turn}
use Rattle.lay_out_types.proofs.TypeLemmas.{parens_are}
use Rattle.lay_out_heads.proofs.loops.add_parens.Goals as goal

pub loop-index-preserved : goal.loop-index-preserved
loop-index-preserved g c =
    adds (adds_on c.loop-index.invariant (adds_on c.add_lead-done.ensures c.add-done.ensures))
    (turn g.P.Part.form (list_opened (codes "(")) comma_between c.args.parts.now _ _
    c.loop-index-test.true c.index-parts-index.is _ refl)

pub add_close-requires : goal.add_close-requires
add_close-requires g c =
    may_close (codes "(") (codes "()") (codes ")") c.args.may _ _
    (none_left g.P.Part.form c.args.parts.now _ _ c.loop-index-test.false c.is_empty.ensures) c.loop-index.invariant

pub returns : goal.returns
returns g c =
    adds (adds_on c.loop-index.invariant c.add_close.ensures)
    (all_turns (λ (ps : List _). row (list_opened (codes "(")) comma_between (map g.P.Part.form ps)
    ++ list_closed c.args.may c.is_empty.result (codes "()") (codes ")")) c.args.parts.now _ c.loop-index-test.false
    ∙ parens_are c.args.may (map g.P.Part.form c.args.parts.now) _ (none_is g.P.Part.form _ _ c.is_empty.ensures))
