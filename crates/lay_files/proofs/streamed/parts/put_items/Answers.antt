use Rattle.lay_files.proofs.streamed_lemmas.ReadParts.{item_put, no_items_put}
use Rattle.lay_files.proofs.streamed_lemmas.Rows.{all_put}
use Rattle.lay_files.proofs.streamed.parts.put_items.Goals as goal

pub loop-init : goal.loop-init
loop-init g c = no_items_put g.E.Emit.meanings c.args.within c.args.depth c.args.are_items.now c.args.at.now c.args.out.now c.requires

pub read_item-requires : goal.read_item-requires
read_item-requires g c = c.loop.invariant.stand.lexed

pub loop-preserved : goal.loop-preserved
loop-preserved g c =
    item_put g.E.Emit.meanings c.args.within c.args.depth c.args.are_items.now c.loop.are_items c.args.at.now c.loop.at c.read_item.new.at c.args.out.now
    c.loop.out c.put_item_line.new.out c.in-Ok.item c.loop.invariant c.in-Ok.ensures.0
    (all_put g.E.Emit.meanings c.loop.out c.put_item_line.new.out _ _ c.put_item_line.ensures c.in_ok-told-in-Ok.ensures)
