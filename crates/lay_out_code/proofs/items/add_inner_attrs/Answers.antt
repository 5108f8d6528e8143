use Rattle.std.proofs.Common.{List, map, ◌∙◌}
use Rattle.lay_node.specs.nodes.Attr.{attr_form}
use Rattle.lay_node.specs.declared.attr.Attr.{Attr}
use Rattle.lay_out_types.specs.Rows.{row}
use Rattle.lay_out_types.proofs.Adding.{adds, adds_on}
use Rattle.lay_out_types.proofs.RowLemmas.{all_turns, turn}
use Rattle.lay_out_heads.specs.FieldRows.{line}
use Rattle.lay_out_code.proofs.OutLemmas.{line_before, lines_put}
use Rattle.lay_out_code.proofs.items.add_inner_attrs.Goals as goal

pub loop-attr-preserved : goal.loop-attr-preserved
loop-attr-preserved g c =
    adds (adds_on c.loop-attr.invariant (adds_on c.add_break-done.ensures c.add_bare_attr-done.ensures))
    (turn attr_form line line c.args.attrs.now _ _ c.loop-attr-test.true c.attr-item.is _ (line_before _ _))

pub returns : goal.returns
returns g c =
    adds c.loop-attr.invariant
    (all_turns (λ (attrs : List Attr). row line line (map attr_form attrs)) c.args.attrs.now _ c.loop-attr-test.false
    ∙ lines_put (map attr_form c.args.attrs.now))
