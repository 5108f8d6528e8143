use Rattle.lay_code.specs.reader.File.{file_item, longest}
use Rattle.lay_read_code.proofs.Longest.{item_shorter, longest-start, longest-end, longest-step, next_none, next_some}
use Rattle.lay_read_code.proofs.file.top_items.Goals as goal

pub loop-items-init : goal.loop-items-init
loop-items-init c = rw c.new-items.ensures (longest-start (file_item c.args.depth) c.args.at.now)

pub loop-items-smaller : goal.loop-items-smaller
loop-items-smaller c =
    let ts = c.loop-items.at in
    let one = c.in-Some.item in
    let left = c.next_item.new.at in
    item_shorter c.args.depth ts one left
    (next_some (file_item c.args.depth ts) c.in_ok-item.field-0 ts left one c.in_ok-item.ensures c.in-Some.is)

pub loop-items-preserved : goal.loop-items-preserved
loop-items-preserved c =
    let ts = c.loop-items.at in
    let one = c.in-Some.item in
    let left = c.next_item.new.at in
    let read = next_some (file_item c.args.depth ts) c.in_ok-item.field-0 ts left one c.in_ok-item.ensures c.in-Some.is in
    rw c.in_ok-hold.ensures (longest-step (file_item c.args.depth) (longest (file_item c.args.depth) c.args.at.now) c.loop-items.items ts
    c.loop-items.invariant one left read (item_shorter c.args.depth ts one left read))

pub returns : goal.returns
returns c =
    let ts = c.loop-items.at in
    let none = next_none (file_item c.args.depth ts) c.in_ok-item.field-0 ts c.next_item.new.at c.in_ok-item.ensures c.in_default.is in
    rw none.1 (longest-end (file_item c.args.depth) (longest (file_item c.args.depth) c.args.at.now) c.loop-items.items ts c.loop-items.invariant none.0)
