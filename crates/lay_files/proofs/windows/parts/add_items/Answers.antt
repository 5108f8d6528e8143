use Rattle.lay_files.proofs.windows_lemmas.Reading.{item_more, no_items}
use Rattle.lay_files.proofs.windows.parts.add_items.Goals as goal

pub loop-init : goal.loop-init
loop-init c = no_items c.args.depth c.args.items.now c.args.at.now c.requires

pub loop-preserved : goal.loop-preserved
loop-preserved c =
    item_more c.args.depth c.args.items.now c.loop.items c.keep.new.list c.args.at.now c.loop.at c.read_item.new.at c.in-Ok.item
    c.loop.invariant c.in_ok-keep-in-Ok.ensures.ok c.in-Ok.ensures.0
