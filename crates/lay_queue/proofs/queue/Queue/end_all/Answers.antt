use Rattle.std.proofs.Common.{ℕ, subst, arith}
use Rattle.lay_queue.proofs.Queueing.{Good, good_ended, left_begin, length_same}
use Rattle.lay_queue.proofs.queue.Queue.end_all.Goals as goal

pub close-self-requires-clause-left : goal.close-self-requires-clause-left
close-self-requires-clause-left c =
    let q = c.args.self.now in
    let h : Good q.ended q.ring q.notes.items q.acc q.groups q.waiting = record { sizes = q.sizes; fits = q.fits; acc_small = q.acc_small; wait_is = q.wait_is; number = q.number; held = q.held } in
    left_begin q.ended q.ring q.notes.items q.acc 0 q.waiting c.requires.ended (subst (λ (g : ℕ). Good q.ended q.ring q.notes.items q.acc g q.waiting) c.requires.groups h)

pub invariant_of-self : goal.invariant_of-self
invariant_of-self c =
    let q = c.args.self.now in
    let h : Good q.ended q.ring q.notes.items q.acc q.groups q.waiting = record { sizes = q.sizes; fits = q.fits; acc_small = q.acc_small; wait_is = q.wait_is; number = q.number; held = q.held } in
    let k = good_ended q.ended q.ring c.close-self.new.ring q.notes.items c.close-self.new.notes.items q.acc c.close-self.result q.groups q.waiting c.requires.ended h c.requires.groups c.close-self.ensures.closed c.close-self.ensures.width c.close-self.ensures.first in
    record { sizes = k.sizes; fits = k.fits; acc_small = k.acc_small; wait_is = k.wait_is; number = k.number; held = k.held }

pub returns-clause-length : goal.returns-clause-length
returns-clause-length c = omega (arith, length_same c.close-self.new.ring.entries c.args.self.now.ring.entries c.close-self.ensures.closed.left.toks)
