use Rattle.std.proofs.Common.{length, ap, length-drop, arith}
use Rattle.lay_queue.proofs.Queueing.{Good, good_texts, run_waiting, run_within}
use Rattle.lay_queue.proofs.queue.Queue.drop_texts.Goals as goal

pub overflow_sub-self : goal.overflow_sub-self
overflow_sub-self c = omega (arith, c.args.self.now.wait_is, c.requires.2, run_waiting c.args.count c.args.self.now.ring.entries c.requires.0 c.requires.1)

pub invariant_of-self : goal.invariant_of-self
invariant_of-self c =
    let q = c.args.self.now in
    let h : Good q.ended q.ring q.notes.items q.acc q.groups q.waiting = record { sizes = q.sizes; fits = q.fits; acc_small = q.acc_small; wait_is = q.wait_is; number = q.number; held = q.held } in
    let k = good_texts c.args.count q.ended q.ring c.pop_texts.new.self q.notes.items q.acc q.groups q.waiting c.requires.0 h c.requires.1 c.pop_texts.ensures.entries c.pop_texts.ensures.first in
    record { sizes = k.sizes; fits = k.fits; acc_small = k.acc_small; wait_is = omega (arith, k.wait_is, c.requires.2); number = k.number; held = k.held }

pub returns-clause-number : goal.returns-clause-number
returns-clause-number c =
    let q = c.args.self.now in
    omega (arith, c.pop_texts.ensures.first, ap length c.pop_texts.ensures.entries, length-drop c.args.count q.ring.entries, run_within c.args.count q.ring.entries c.requires.0 c.requires.1)
