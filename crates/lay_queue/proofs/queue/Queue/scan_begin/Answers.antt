use Rattle.std.proofs.Common.{rules, ◌≡◌, ◌+◌, [], ◌∷◌, ◌++◌, refl, ap, ◌∙◌, arith}
use Rattle.lay_layout.specs.declared.layout.Tok.TheVariants as tok
use Rattle.lay_ring.specs.declared.entry.Size.TheVariants.{Unknown}
use Rattle.lay_queue.specs.Closed.{toks_of}
use Rattle.lay_queue.proofs.Queueing.{Good, bytes_waiting, good_begin, toks_more}
use Rattle.lay_queue.proofs.queue.Queue.scan_begin.Goals as goal

pub push-number-requires-clause-bytes : goal.push-number-requires-clause-bytes
push-number-requires-clause-bytes c = omega (arith, c.requires.few, c.args.self.now.wait_is, bytes_waiting c.args.self.now.ring.entries)

pub invariant_of-self : goal.invariant_of-self
invariant_of-self c =
    let q = c.args.self.now in
    let h : Good q.ended q.ring q.notes.items q.acc q.groups q.waiting = record { sizes = q.sizes; fits = q.fits; acc_small = q.acc_small; wait_is = q.wait_is; number = q.number; held = q.held } in
    let e : c.push-number.new.self.entries ≡ q.ring.entries ++ record { tok = tok.Begin c.args.consistent c.args.offset; size = Unknown } ∷ [] = search rules in
    let k = good_begin q.ended q.ring c.push-number.new.self q.notes.items c.add.new.self.items q.acc q.groups (q.groups + 1) q.waiting c.push-number.result c.args.consistent c.args.offset c.requires.ended h e c.push-number.ensures.first c.requires.held c.push-number.ensures.number c.add.ensures.items refl in
    record { sizes = k.sizes; fits = k.fits; acc_small = k.acc_small; wait_is = k.wait_is; number = k.number; held = k.held }

pub returns : goal.returns
returns c =
    let e : c.push-number.new.self.entries ≡ c.args.self.now.ring.entries ++ record { tok = tok.Begin c.args.consistent c.args.offset; size = Unknown } ∷ [] = search rules in
    record { toks = ap toks_of e ∙ toks_more _ _; added = (Unknown, e); waiting = omega arith; groups = omega arith; first = c.push-number.ensures.first; ended = c.requires.ended; room = omega (arith, c.push-number.ensures.spare, c.add.ensures.spare) }
