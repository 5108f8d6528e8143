use Rattle.std.proofs.Common.{map, take}
use Rattle.lay_node.specs.nodes.Attr.{attr_form}
use Rattle.lay_out_types.specs.Calls.{Adds}
use Rattle.lay_out_types.specs.Rows.{row}
use Rattle.lay_out_heads.specs.FieldRows.{line}
use Rattle.lay_out_code.proofs.items.add_inner_attrs.Given as goal

-- the attributes so far are put
abbrev pub invariant-loop-attr : goal.invariant-loop-attr
invariant-loop-attr g l =
    Adds g.E.Emit.meanings l.fn.before l.fn.out (row line line (map attr_form (take l.attr-index l.attrs))) l.done l.out
