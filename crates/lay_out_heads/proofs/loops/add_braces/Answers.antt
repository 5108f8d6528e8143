use Rattle.std.proofs.Common.{List, ◌++◌, map, refl, ◌∙◌}
use Rattle.lay_out_types.specs.Rows.{row}
use Rattle.lay_out_types.proofs.Adding.{adds, adds_on}
use Rattle.lay_out_types.proofs.FormRows.{none_is, none_left}
use Rattle.lay_out_types.proofs.RowLemmas.{all_turns, turn}
use Rattle.lay_out_heads.specs.FieldRows.{fields_between, fields_closed, fields_opened}
use Rattle.lay_out_heads.proofs.Rows.{braces_are, may_close_braces}
use Rattle.lay_out_heads.proofs.loops.add_braces.Goals as goal

pub loop-index-preserved : goal.loop-index-preserved
loop-index-preserved g c =
    adds (adds_on c.loop-index.invariant (adds_on c.add_line-done.ensures c.add-done.ensures))
    (turn g.P.Part.form (fields_opened c.args.lead) fields_between c.args.parts.now _ _
    c.loop-index-test.true c.index-parts-index.is _ refl)

pub close_braces-requires : goal.close_braces-requires
close_braces-requires g c =
    may_close_braces c.args.lead _ _
    (none_left g.P.Part.form c.args.parts.now _ _ c.loop-index-test.false c.is_empty.ensures) c.loop-index.invariant

pub returns : goal.returns
returns g c =
    adds (adds_on c.loop-index.invariant c.close_braces.ensures)
    (all_turns (λ (ps : List _). row (fields_opened c.args.lead) fields_between (map g.P.Part.form ps)
    ++ fields_closed c.args.lead c.is_empty.result) c.args.parts.now _ c.loop-index-test.false
    ∙ braces_are c.args.lead (map g.P.Part.form c.args.parts.now) _ (none_is g.P.Part.form _ _ c.is_empty.ensures))
