use Rattle.std.proofs.Common.{List, [], map, ◌∙◌}
use Rattle.lay_node.specs.declared.attr.Attr.{Attr}
use Rattle.lay_out_types.specs.Rows.{row}
use Rattle.lay_out_types.proofs.Adding.{adds, adds_on}
use Rattle.lay_out_types.proofs.PartLemmas.{attr_alone, attrs_are}
use Rattle.lay_out_types.proofs.RowLemmas.{all_turns, nothing_before, turn}
use Rattle.lay_out_types.proofs.parts.add_param_attrs.Goals as goal

pub loop-attr-preserved : goal.loop-attr-preserved
loop-attr-preserved g c =
    adds (adds_on c.loop-attr.invariant c.add_attr-done.ensures)
    (turn attr_alone [] [] c.args.attrs.now _ _ c.loop-attr-test.true c.attr-item.is _ (nothing_before _ _))

pub returns : goal.returns
returns g c =
    adds c.loop-attr.invariant
    (all_turns (λ (attrs : List Attr). row [] [] (map attr_alone attrs)) c.args.attrs.now _ c.loop-attr-test.false
    ∙ attrs_are c.args.attrs.now)
