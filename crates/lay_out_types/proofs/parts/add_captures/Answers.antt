use Rattle.std.proofs.Common.{List, ◌++◌, map, codes, true, refl, ◌∙◌}
use Rattle.lay_node.specs.nodes.Types.{capture_form}
use Rattle.lay_node.specs.declared.types.Capture.{Capture}
use Rattle.lay_out_types.specs.Rows.{comma_between, list_closed, list_opened, row}
use Rattle.lay_out_types.proofs.Adding.{adds, adds_on}
use Rattle.lay_out_types.proofs.FormRows.{may_close, none_is, none_left}
use Rattle.lay_out_types.proofs.PartLemmas.{angles_are}
use Rattle.lay_out_types.proofs.RowLemmas.{all_turns, turn}
use Rattle.lay_out_types.proofs.parts.add_captures.Goals as goal

pub loop-index-preserved : goal.loop-index-preserved
loop-index-preserved g c =
    adds (adds_on c.loop-index.invariant (adds_on c.add_lead-done.ensures c.add_capture-done.ensures))
    (turn capture_form (list_opened (codes "<")) comma_between c.args.captured.now _ _
    c.loop-index-test.true c.index-captured-index.is _ refl)

pub add_close-requires : goal.add_close-requires
add_close-requires g c =
    may_close (codes "<") (codes "<>") (codes ">") true _ _
    (none_left capture_form c.args.captured.now _ _ c.loop-index-test.false c.is_empty.ensures)
    c.loop-index.invariant

pub returns : goal.returns
returns g c =
    adds (adds_on c.loop-index.invariant c.add_close.ensures)
    (all_turns (λ (cs : List Capture). row (list_opened (codes "<")) comma_between (map capture_form cs)
    ++ list_closed true c.is_empty.result (codes "<>") (codes ">")) c.args.captured.now _ c.loop-index-test.false
    ∙ angles_are (map capture_form c.args.captured.now) _ (none_is capture_form _ _ c.is_empty.ensures))
