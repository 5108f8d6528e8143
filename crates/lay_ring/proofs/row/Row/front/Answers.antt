-- The first entry is lent as it is.
use Rattle.std.proofs.Common.{◌≡◌, to_z, of_z, w64, rules, Option, Some, sym, ap, subst, ◌∙◌}
use Rattle.lay_ring.specs.declared.row.LentEntry.{LentEntry}
use Rattle.lay_ring.specs.Held.{Held}
use Rattle.lay_ring.specs.Rows.{IsFirst, entries_at, size_of}
use Rattle.lay_ring.proofs.Rows.{first_none, first_some, first_within}
use Rattle.lay_ring.proofs.row.Row.front.Goals as goal

pub returns-in_err-small : goal.returns-in_err-small
returns-in_err-small c =
    let i = c.self.inside in
    subst (λ (h : Held). IsFirst h.entries c.from_residual.result) c.self.view_is
    (subst (λ (r : Option LentEntry). IsFirst (entries_at i.entries.items i.bytes.items) r) (sym c.from_residual.ensures) (first_none i.entries.items i.bytes.items (sym c.in_err-small.was ∙ c.get.ensures)))

pub lend-tok-requires : goal.lend-tok-requires
lend-tok-requires c = first_within c.self.inside.entries.items c.in_ok-small.small c.self.inside.bytes.items (sym c.in_ok-small.was ∙ c.get.ensures) c.self.invariant

pub returns : goal.returns
returns c =
    let i = c.self.inside in
    let s = c.in_ok-small.small in
    let z : to_z w64 (of_z w64 s.size) ≡ s.size = search rules in
    let w : LentEntry = record { tok = c.lend-tok.result; size = to_z w64 (of_z w64 s.size) } in
    subst (λ (h : Held). IsFirst h.entries (Some w)) c.self.view_is
    (first_some i.entries.items s i.bytes.items w (sym c.in_ok-small.was ∙ c.get.ensures) c.lend-tok.ensures (ap size_of z))
