use Rattle.std.proofs.Common.{◌+◌, ◌∙◌}
use Rattle.lay_printer.proofs.Running.{ends_on, none_left, sized_so, without_tail}
use Rattle.lay_printer.proofs.engine.Engine.finish.Goals as goal

pub returns-in-Err-clause-ends : goal.returns-in-Err-clause-ends
returns-in-Err-clause-ends g c =
    let o = c.args.self.now.queue in
    let q = c.end_all.new.self in
    ends_on o.ring.entries q.ring.entries c.print_decided.new.self.queue.ring.entries q.ended _ _ _ _ _ _ _ c.end_all.ensures.toks c.end_all.ensures.ended
    (sized_so q.ended q.ring.entries q.sizes) (without_tail _ _ _ _ _ _ _ _ _ _ c.in-Err.ensures.prints) tt

pub returns-in-Ok-clause-ends : goal.returns-in-Ok-clause-ends
returns-in-Ok-clause-ends g c =
    let o = c.args.self.now.queue in
    let q = c.end_all.new.self in
    let d = c.print_decided.new.self in
    ends_on o.ring.entries q.ring.entries d.queue.ring.entries q.ended _ _ _ _ _ _ _ c.end_all.ensures.toks c.end_all.ensures.ended
    (sized_so q.ended q.ring.entries q.sizes) (without_tail _ _ _ _ _ _ _ _ _ _ c.in-Ok.ensures.prints) (none_left d.queue.ring.entries d.queue.ended (d.queue.waiting + 0) d.page.line (c.in-Ok.ensures.stays.ended ∙ c.end_all.ensures.ended) d.queue.sizes c.in-Ok.ensures.stops)
