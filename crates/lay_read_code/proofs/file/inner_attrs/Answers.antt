use Rattle.std.proofs.Common.{true, ◌∙◌}
use Rattle.lay_node.specs.reader.Attr.{attribute}
use Rattle.lay_code.specs.reader.File.{longest}
use Rattle.lay_read_tokens.proofs.Left.{attribute_left, shorter}
use Rattle.lay_read_code.proofs.Longest.{longest-start, longest-end, longest-step, next_none, next_some}
use Rattle.lay_read_code.proofs.file.inner_attrs.Goals as goal

pub loop-attrs-init : goal.loop-attrs-init
loop-attrs-init c = record {
  turn = rw c.new-attrs.ensures (longest-start (attribute true) c.args.at.now);
  lexed = c.requires;
}

pub loop-attrs-smaller : goal.loop-attrs-smaller
loop-attrs-smaller c =
    let ts = c.loop-attrs.at in
    let one = c.in-Some.attr in
    let left = c.next_attr.new.at in
    shorter ts (attribute true ts) one left (attribute_left true ts)
    (next_some (attribute true ts) c.in_ok-attr.field-0 ts left one c.in_ok-attr.ensures.next c.in-Some.is)

pub loop-attrs-preserved : goal.loop-attrs-preserved
loop-attrs-preserved c =
    let ts = c.loop-attrs.at in
    let one = c.in-Some.attr in
    let left = c.next_attr.new.at in
    let read = next_some (attribute true ts) c.in_ok-attr.field-0 ts left one c.in_ok-attr.ensures.next c.in-Some.is in
    record {
      turn = rw c.in_ok-hold.ensures (longest-step (attribute true) (longest (attribute true) c.args.at.now) c.loop-attrs.attrs ts
          c.loop-attrs.invariant.turn one left read (shorter ts (attribute true ts) one left (attribute_left true ts) read));
      lexed = c.in_ok-attr.ensures.lexed;
    }

pub returns-clause-run : goal.returns-clause-run
returns-clause-run c =
    let ts = c.loop-attrs.at in
    let none = next_none (attribute true ts) c.in_ok-attr.field-0 ts c.next_attr.new.at c.in_ok-attr.ensures.next c.in_default.is in
    rw none.1 (longest-end (attribute true) (longest (attribute true) c.args.at.now) c.loop-attrs.attrs ts
    c.loop-attrs.invariant.turn none.0)
