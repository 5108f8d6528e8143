use Rattle.std.proofs.Common.{pos, ◌≡◌, ◌-◌, [], ◌∷◌, ◌++◌, refl, sym, ap, ◌∙◌, arith}
use Rattle.lay_layout.specs.declared.layout.Tok.TheVariants as tok
use Rattle.lay_ring.specs.declared.entry.Size.TheVariants.{Known}
use Rattle.lay_queue.specs.Closed.{toks_of}
use Rattle.lay_queue.proofs.WriteBack.{outer_is}
use Rattle.lay_queue.proofs.Queueing.{Good, bytes_waiting, good_end, toks_more}
use Rattle.lay_queue.proofs.queue.Queue.scan_end.Goals as goal

pub push-requires-clause-bytes : goal.push-requires-clause-bytes
push-requires-clause-bytes c = omega (arith, c.requires.ready.few, c.args.self.now.wait_is, bytes_waiting c.args.self.now.ring.entries)

pub invariant_of-self : goal.invariant_of-self
invariant_of-self c =
    let q = c.args.self.now in
    let h : Good q.ended q.ring q.notes.items q.acc q.groups q.waiting = record { sizes = q.sizes; fits = q.fits; acc_small = q.acc_small; wait_is = q.wait_is; number = q.number; held = q.held } in
    let e : c.push.new.self.entries ≡ q.ring.entries ++ record { tok = tok.End; size = Known (pos 0) } ∷ [] = c.push.ensures.entries in
    let k = good_end q.ended q.ring c.push.new.self q.notes.items q.acc q.groups (q.groups - 1) q.waiting (Known (pos 0)) c.requires.ready.ended h refl e c.push.ensures.first c.requires.ready.held refl in
    record { sizes = k.sizes; fits = k.fits; acc_small = k.acc_small; wait_is = k.wait_is; number = k.number; held = k.held }

pub returns : goal.returns
returns c = record {
  toks = ap toks_of c.push.ensures.entries ∙ toks_more _ _;
  added = (_, c.push.ensures.entries);
  waiting = omega arith;
  groups = sym (outer_is _);
  first = c.push.ensures.first;
  ended = c.requires.ready.ended;
  room = omega (arith, c.push.ensures.spare);
}
