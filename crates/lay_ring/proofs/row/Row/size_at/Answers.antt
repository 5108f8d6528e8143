-- The entry at the place gets the size, and no other entry changes.
use Rattle.std.proofs.Common.{pos, to_z, w64, ◌≡◌, ℤ, set, sym, ap, subst, ◌∙◌}
use Rattle.std.proofs.lemmas.Int.{to_z_pos}
use Rattle.lay_ring.specs.declared.entry.Size.TheVariants.{Known}
use Rattle.lay_ring.specs.Held.{Held, IsUnknownAt, place_of, sized_at}
use Rattle.lay_ring.specs.Rows.{entries_at, all_taken}
use Rattle.lay_ring.proofs.Rows.{all_taken_sized, entries_sized, some_small}
use Rattle.lay_ring.proofs.row.Row.size_at.Goals as goal

pub invariant_of-self : goal.invariant_of-self
invariant_of-self c =
    ap all_taken c.set.ensures.items
    ∙ all_taken_sized c.self.inside.entries.items (place_of c.self.inside.number c.args.number) _ c.in-Some.small c.in-Some.ensures
    ∙ c.self.invariant

pub returns-in-Some-clause-entries : goal.returns-in-Some-clause-entries
returns-in-Some-clause-entries c =
    let place = place_of c.self.inside.number c.args.number in
    let z : to_z w64 c.args.size ≡ pos c.args.size = to_z_pos w64 c.args.size c.requires.small in
    ap (λ (x : _). entries_at x c.self.inside.bytes.items) c.set.ensures.items
    ∙ ap (λ (y : ℤ). entries_at (set c.self.inside.entries.items place (record { kind = c.in-Some.small.kind; size = y })) c.self.inside.bytes.items) z
    ∙ entries_sized c.self.inside.entries.items c.self.inside.bytes.items place c.args.size c.in-Some.small c.in-Some.ensures
    ∙ ap (λ (h : Held). sized_at h.entries (place_of h.first c.args.number) (Known (pos c.args.size))) c.self.view_is

pub returns-in_default-clause-entries : goal.returns-in_default-clause-entries
returns-in_default-clause-entries c =
    absurd (some_small c.self.inside.entries.items c.self.inside.bytes.items (place_of c.self.inside.number c.args.number) (subst (λ (h : Held). IsUnknownAt h.entries (place_of h.first c.args.number)) (sym c.self.view_is) c.requires.unknown) c.in_default.ensures)
