use Rattle.lay_stream.proofs.Calls.{last, stream_leave, stream_on}
use Rattle.lay_items.proofs.PrintingLemmas.{alone_parts}
use Rattle.lay_items.proofs.printing.put_alone.Goals as goal

pub returns-in_err-put_item : goal.returns-in_err-put_item
returns-in_err-put_item g c =
    last (stream_leave _ c.in_err-put_item.ensures c.from_residual.ensures.1) (alone_parts c.args.item.now)

pub returns : goal.returns
returns g c = last (stream_on c.in_ok-put_item.ensures c.brk.ensures) (alone_parts c.args.item.now)
