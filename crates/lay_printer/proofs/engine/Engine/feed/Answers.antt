use Rattle.std.proofs.Common.{arith}
use Rattle.lay_ring.specs.Rows.{tok_of}
use Rattle.lay_printer.proofs.Running.{advances_not, feeds_won, feeds_not, feeds_lost, without_tail}
use Rattle.lay_printer.proofs.Staying.{length_comes}
use Rattle.lay_printer.proofs.engine.Engine.feed.Goals as goal

pub returns-in-Err-clause-feeds : goal.returns-in-Err-clause-feeds
returns-in-Err-clause-feeds g c = feeds_not _ _ _ _ _ _ _ _ _

pub returns-then-stays-clause-feeds : goal.returns-then-stays-clause-feeds
returns-then-stays-clause-feeds g c =
    let e = c.take.new.self in
    let k = c.in-Ok.ensures in
    feeds_won _ e.queue.ring.entries _ e.queue.ended _ e.page.line _ _ e.page.frames.frames _ _ _ _ _ _ k.line k.frames k.toks k.ended e.queue.sizes
    (advances_not {T = Unit {0}} {E = Unit {0}} e.queue.ended e.queue.ring.entries e.page.line e.page.frames.frames _ tt)

pub returns-then-stays-clause-number : goal.returns-then-stays-clause-number
returns-then-stays-clause-number g c =
    let k = c.in-Ok.ensures in
    omega (arith, k.first, length_comes c.args.self.now.queue.ring.entries c.take.new.self.queue.ring.entries (tok_of c.args.tok) k.toks)

pub returns-in-Ok-print_decided-clause-feeds : goal.returns-in-Ok-print_decided-clause-feeds
returns-in-Ok-print_decided-clause-feeds g c =
    let e = c.take.new.self in
    let k = c.in-Ok.ensures in
    feeds_won _ e.queue.ring.entries _ e.queue.ended _ e.page.line _ _ e.page.frames.frames _ _ _ _ _ _ k.line k.frames k.toks k.ended e.queue.sizes
    (without_tail _ _ _ _ _ _ _ _ _ _ c.in-Ok-print_decided.ensures.prints)

pub returns-in-Err-print_decided-clause-feeds : goal.returns-in-Err-print_decided-clause-feeds
returns-in-Err-print_decided-clause-feeds g c =
    let e = c.take.new.self in
    let k = c.in-Ok.ensures in
    feeds_lost _ e.queue.ring.entries _ e.queue.ended _ e.page.line _ _ e.page.frames.frames _ _ _ _ _ _ k.line k.frames k.toks k.ended e.queue.sizes
    (without_tail _ _ _ _ _ _ _ _ _ _ c.in-Err-print_decided.ensures.prints)

pub returns-in-Ok-print_decided-clause-number : goal.returns-in-Ok-print_decided-clause-number
returns-in-Ok-print_decided-clause-number g c =
    let k = c.in-Ok.ensures in
    omega (arith, c.in-Ok-print_decided.ensures.stays.number, k.first, length_comes c.args.self.now.queue.ring.entries c.take.new.self.queue.ring.entries (tok_of c.args.tok) k.toks)
