use Rattle.std.proofs.Common.{pos, ◌≡◌, length, sym, ap, ◌∙◌, subst, arith}
use Rattle.lay_ring.specs.declared.entry.Size.TheVariants.{Known}
use Rattle.lay_ring.specs.Held.{place_of, sized_at}
use Rattle.lay_queue.specs.Closed.{Closed, toks_of}
use Rattle.lay_queue.proofs.Closing.{place_unknown, left_pop, closed, length_set, left_along}
use Rattle.lay_queue.proofs.close.close.Goals as goal

pub size_at-requires-clause-unknown : goal.size_at-requires-clause-unknown
size_at-requires-clause-unknown c =
    let i = c.loop-note.invariant in
    place_unknown i.left _ _ c.in-Some.ensures.rest c.in-Some.ensures.level i.number i.held

pub loop-note-preserved : goal.loop-note-preserved
loop-note-preserved c =
    let i = c.loop-note.invariant in
    let r = c.loop-note.ring in
    let place = place_of r.first c.in-Some.note.number in
    let e : c.size_at.new.self.entries ≡ sized_at r.entries place (Known (pos c.loop-note.acc)) =
    c.size_at.ensures.entries in
    record {
      left = left_along _ _ _ c.size_at.ensures.first (omega arith) e (left_pop i.left _ _ c.in-Some.ensures.rest c.in-Some.ensures.level i.number i.held);
      number = omega (arith, i.number, c.size_at.ensures.first);
      held = omega (arith, i.held, ap length e, length_set r.entries place (Known (pos c.loop-note.acc)));
      first = c.size_at.ensures.first ∙ i.first;
      ring_spare = c.size_at.ensures.spare ∙ i.ring_spare;
      notes_spare = omega (arith, i.notes_spare, c.take_newest.ensures.spare);
      width = omega arith;
    }

pub returns-clause-closed : goal.returns-clause-closed
returns-clause-closed c =
    subst (λ x. Closed (toks_of c.args.ring.now.entries) c.loop-note.ring.first c.loop-note.acc c.args.cur c.loop-note.ring.entries x) (sym c.in_default.ensures.rest)
    (closed c.loop-note.invariant.left c.in_default.ensures.level)
