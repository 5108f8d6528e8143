use Rattle.std.proofs.Common.{List, ◌++◌, map, refl, ◌∙◌}
use Rattle.lay_node.specs.nodes.Where.{predicate_form}
use Rattle.lay_node.specs.declared.generics.Predicate.{Predicate}
use Rattle.lay_out_types.specs.Rows.{comma_between, row, wheres_closed, wheres_opened}
use Rattle.lay_out_types.proofs.Adding.{adds, adds_on}
use Rattle.lay_out_types.proofs.ClauseLemmas.{wheres_are}
use Rattle.lay_out_types.proofs.FormRows.{may_close_wheres, none_is, none_left}
use Rattle.lay_out_types.proofs.RowLemmas.{all_turns, turn}
use Rattle.lay_out_types.proofs.wheres.put_wheres.Goals as goal

pub loop-index-preserved : goal.loop-index-preserved
loop-index-preserved g c =
    adds (adds_on c.loop-index.invariant (adds_on c.add_predicates_lead-done.ensures c.add_predicate-done.ensures))
    (turn predicate_form wheres_opened comma_between c.as_slice-predicates.result.now _ _
    c.loop-index-test.true c.index-predicates-index.is _ refl)

pub add_predicates_close-requires : goal.add_predicates_close-requires
add_predicates_close-requires g c =
    may_close_wheres c.args.body _ _
    (none_left predicate_form c.as_slice-predicates.result.now _ _ c.loop-index-test.false c.is_empty.ensures)
    c.loop-index.invariant

pub returns : goal.returns
returns g c =
    (adds (adds_on c.loop-index.invariant c.add_predicates_close.ensures)
    (all_turns (λ (ps : List Predicate). row wheres_opened comma_between (map predicate_form ps)
    ++ wheres_closed c.args.body c.is_empty.result) c.as_slice-predicates.result.now _ c.loop-index-test.false
    ∙ wheres_are c.args.wheres.now _ c.args.body _ c.as_slice-predicates.ensures
    (none_is predicate_form c.as_slice-predicates.result.now _ c.is_empty.ensures))).goes_on _ refl
