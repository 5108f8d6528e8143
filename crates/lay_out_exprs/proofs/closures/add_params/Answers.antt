use Rattle.std.proofs.Common.{List, ◌++◌, map, codes, true, refl, ◌∙◌}
use Rattle.lay_code.specs.nodes.Exprs.{closure_param}
use Rattle.lay_code.specs.declared.exprs.ClosureParam.{ClosureParam}
use Rattle.lay_out_types.specs.Rows.{comma_between, list_closed, list_opened, row}
use Rattle.lay_out_types.proofs.Adding.{adds, adds_on}
use Rattle.lay_out_types.proofs.FormRows.{may_close, none_is, none_left}
use Rattle.lay_out_types.proofs.RowLemmas.{all_turns, turn}
use Rattle.lay_out_exprs.proofs.BlockLemmas.{bars_are}
use Rattle.lay_out_exprs.proofs.closures.add_params.Goals as goal

pub loop-index-preserved : goal.loop-index-preserved
loop-index-preserved g c =
    adds (adds_on c.loop-index.invariant (adds_on c.add_lead-done.ensures c.add_param-done.ensures))
    (turn closure_param (list_opened (codes "|")) comma_between c.args.params.now _ _
    c.loop-index-test.true c.index-params-index.is _ refl)

pub add_close-requires : goal.add_close-requires
add_close-requires g c =
    may_close (codes "|") (codes "||") (codes "|") true _ _
    (none_left closure_param c.args.params.now _ _ c.loop-index-test.false c.is_empty.ensures)
    c.loop-index.invariant

pub returns : goal.returns
returns g c =
    adds (adds_on c.loop-index.invariant c.add_close.ensures)
    (all_turns (λ (ps : List ClosureParam). row (list_opened (codes "|")) comma_between (map closure_param ps)
    ++ list_closed true c.is_empty.result (codes "||") (codes "|")) c.args.params.now _ c.loop-index-test.false
    ∙ bars_are (map closure_param c.args.params.now) _ (none_is closure_param _ _ c.is_empty.ensures))
