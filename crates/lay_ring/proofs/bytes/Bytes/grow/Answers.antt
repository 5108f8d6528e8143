use Rattle.std.proofs.Common.{rules, ◌≡◌, ◌≤◌, length, drop, take, ap, ◌∙◌, arith, vec_len}
use Rattle.lay_ring.specs.Rows.{Kept}
use Rattle.lay_ring.proofs.Rows.{room_grown, room_most}
use Rattle.lay_ring.proofs.bytes.Bytes.grow.Goals as goal

pub returns-in-Ok-clause-items : goal.returns-in-Ok-clause-items
returns-in-Ok-clause-items c =
    let i = c.self.inside in
    let l : length i.room.items ≡ vec_len i.room = search rules in
    let e : i.end ≤ length i.room.items = omega (arith, l, c.self.invariant) in
    let m : i.end ≤ 1024 = omega (arith, c.self.invariant, room_most i.is_full) in
    ap (λ (x : _). drop i.first (take i.end x)) c.in-Ok.ensures.items
    ∙ room_grown i.first i.end 1024 i.room.items _ m e
    ∙ ap (λ (k : Kept). k.items) c.self.view_is
