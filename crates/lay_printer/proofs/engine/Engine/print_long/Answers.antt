use Rattle.std.proofs.Common.{length}
use Rattle.lay_printer.proofs.Running.{long_lost, long_printed}
use Rattle.lay_printer.proofs.Undecided.{none_long}
use Rattle.lay_printer.proofs.engine.Engine.print_long.Goals as goal

pub returns-in-Err-clause-feeds : goal.returns-in-Err-clause-feeds
returns-in-Err-clause-feeds g c =
    let q = c.args.self.now.queue in
    long_lost q.ring.entries _ q.ended _ _ _ _ _ _ c.args.text.now _ c.requires.ended q.sizes c.in-Err.ensures.prints

pub returns-clause-feeds : goal.returns-clause-feeds
returns-clause-feeds g c =
    let q = c.args.self.now.queue in
    let e = c.print_decided.new.self in
    long_printed q.ring.entries e.queue.ring.entries _ q.ended _ _ _ _ _ _ _ _ _ c.args.text.now _ _ c.requires.ended q.sizes
    (none_long e.queue.ring.entries e.queue.waiting (length c.args.text.now) e.page.line e.page.line.small c.requires.long c.in-Ok.ensures.stops)
    c.pass.ensures.entries c.in-Ok.ensures.prints c.print_text.ensures.prints
