use Rattle.std.proofs.Common.{map, drop, Result}
use Rattle.lay_stream.specs.Fed.{Did}
use Rattle.lay_form.specs.Notation.{lines}
use Rattle.lay_form.specs.Stream.{stream_of}
use Rattle.lay_code.specs.nodes.Code.{form_of_item}
use Rattle.lay_out_code.proofs.files.put_items.Given as goal

-- calls that put the rest, put all
abbrev pub invariant-loop-item : goal.invariant-loop-item
invariant-loop-item g l = (r : Result (Unit {0}) _) (end : _) →
    Did g.E.Emit.meanings l.out (stream_of (lines (map form_of_item (drop l.item-index l.items)))) r end →
    Did g.E.Emit.meanings l.fn.out (stream_of (lines (map form_of_item l.items))) r end
