use Rattle.std.proofs.Common.{◌≡◌, List, [], ◌∷◌, ◌++◌, refl, ap, ◌∙◌, arith}
use Rattle.lay_layout.specs.declared.layout.Tok.{Tok}
use Rattle.lay_layout.specs.declared.layout.Tok.TheVariants as tok
use Rattle.lay_ring.specs.declared.entry.Size.TheVariants.{Unknown}
use Rattle.lay_queue.specs.Closed.{toks_of}
use Rattle.lay_queue.proofs.Queueing.{Good, bytes_waiting, good_break, left_begin, toks_more, waiting_toks}
use Rattle.lay_queue.proofs.queue.Queue.scan_break.Goals as goal

pub close-delta-requires-clause-left : goal.close-delta-requires-clause-left
close-delta-requires-clause-left c =
    let q = c.args.self.now in
    let h : Good q.ended q.ring q.notes.items q.acc q.groups q.waiting = record { sizes = q.sizes; fits = q.fits; acc_small = q.acc_small; wait_is = q.wait_is; number = q.number; held = q.held } in
    left_begin q.ended q.ring q.notes.items q.acc q.groups q.waiting c.requires.ended h

pub push-number-requires-clause-bytes : goal.push-number-requires-clause-bytes
push-number-requires-clause-bytes c =
    let s = c.close-delta.new.ring in
    let q = c.args.self.now in
    omega (arith, c.requires.few, q.wait_is, bytes_waiting s.entries, waiting_toks s.entries q.ring.entries c.close-delta.ensures.closed.left.toks)

pub invariant_of-self : goal.invariant_of-self
invariant_of-self c =
    let q = c.args.self.now in
    let h : Good q.ended q.ring q.notes.items q.acc q.groups q.waiting = record { sizes = q.sizes; fits = q.fits; acc_small = q.acc_small; wait_is = q.wait_is; number = q.number; held = q.held } in
    let s = c.close-delta.new.ring in
    let e : c.push-number.new.self.entries ≡ s.entries ++ record { tok = tok.Break c.args.brk; size = Unknown } ∷ [] = c.push-number.ensures.entries in
    let k = good_break q.ended q.ring s c.push-number.new.self q.notes.items c.close-delta.new.notes.items c.add.new.self.items q.acc c.width_of-width.result c.close-delta.result q.groups q.waiting c.push-number.result c.args.brk c.requires.ended h
    c.close-delta.ensures.closed c.close-delta.ensures.width e c.push-number.ensures.first c.close-delta.ensures.first c.requires.held c.push-number.ensures.number c.add.ensures.items c.width_of-width.ensures.value (omega (arith, c.width_of-width.ensures.small)) in
    record { sizes = k.sizes; fits = k.fits; acc_small = k.acc_small; wait_is = k.wait_is; number = k.number; held = k.held }

pub returns : goal.returns
returns c = record {
  toks = ap toks_of c.push-number.ensures.entries ∙ toks_more _ _ ∙ ap (λ (w : List Tok). w ++ tok.Break c.args.brk ∷ []) c.close-delta.ensures.closed.left.toks;
  added = tt;
  waiting = omega arith;
  groups = refl;
  first = c.push-number.ensures.first ∙ c.close-delta.ensures.first;
  ended = c.requires.ended;
  room = omega (arith, c.requires.ring, c.requires.notes, c.push-number.ensures.spare, c.add.ensures.spare, c.close-delta.ensures.ring, c.close-delta.ensures.notes);
}
