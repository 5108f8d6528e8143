use Rattle.std.proofs.Common.{List, [], map, ◌∙◌}
use Rattle.lay_node.specs.declared.attr.Attr.{Attr}
use Rattle.lay_out_pats.specs.PatternRows.{attr_line}
use Rattle.lay_out_types.specs.Rows.{row}
use Rattle.lay_out_types.proofs.Adding.{adds, adds_on}
use Rattle.lay_out_pats.proofs.FieldLemmas.{lines_are}
use Rattle.lay_out_types.proofs.RowLemmas.{all_turns, nothing_before, turn}
use Rattle.lay_out_pats.proofs.patterns.add_attrs.Goals as goal

pub loop-attr-preserved : goal.loop-attr-preserved
loop-attr-preserved g c =
    adds (adds_on c.loop-attr.invariant c.add_attr_line-done.ensures)
    (turn attr_line [] [] c.args.attrs.now _ _ c.loop-attr-test.true c.attr-item.is _ (nothing_before _ _))

pub returns : goal.returns
returns g c =
    adds c.loop-attr.invariant
    (all_turns (λ (attrs : List Attr). row [] [] (map attr_line attrs)) c.args.attrs.now _ c.loop-attr-test.false
    ∙ lines_are c.args.attrs.now)
