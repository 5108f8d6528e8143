-- The entry that was lent gets the size, and no other entry changes.
use Rattle.std.proofs.Common.{ap, sym, ◌∙◌}
use Rattle.std.specs.Option.{option_copied_mut}
use Rattle.lay_ring.specs.Held.{Held, place_of, sized_at}
use Rattle.lay_ring.specs.declared.ring.Ring.TheInside.{Inside}
use Rattle.lay_ring.proofs.Sized.{set_sized, some_at}
use Rattle.lay_ring.proofs.ring.Ring.size_at.Goals as goal
use Rattle.lay_ring.proofs.ring.Ring.size_at.Goals.{in-Some, in_default}

pub returns-clause-entries : goal.returns-clause-entries
returns-clause-entries c =
    let v = ap (λ (h : Held). h.entries) c.self.view_is in
    let f = ap (λ (h : Held). h.first) c.self.view_is in
    let place = place_of c.self.inside.first c.args.number in
    elim c.match-get_mut.branch [
      | in-Some w ↦
          ap (λ (x : Inside). x.buffer.items) w.self-inside-is
          ∙ set_sized c.self.inside.buffer.items place w.in-Some.entry.now c.args.size (sym (ap option_copied_mut w.in-Some.is) ∙ c.get_mut.ensures.value)
          ∙ ap (λ (h : Held). sized_at h.entries (place_of h.first c.args.number) c.args.size) c.self.view_is
      | in_default w ↦
          absurd (some_at c.self.inside.buffer.items place (rw (v, f) c.requires.unknown) (sym (ap option_copied_mut w.in_default.is) ∙ c.get_mut.ensures.value))
    ]
