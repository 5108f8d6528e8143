use Rattle.std.proofs.Common.{rules, to_z, of_z, w64, ◌≡◌, ◌+◌, ◌-◌, ◌%◌, ◌^◌, ◌∷◌, List, ap, sym, ◌∙◌}
use Rattle.lay_ring.specs.Held.{number_after_pop}
use Rattle.lay_ring.specs.Rows.{entry_of, size_of}
use Rattle.lay_ring.specs.declared.entry.Entry.{Entry}
use Rattle.lay_queue.specs.Entries.{notes_after}
use Rattle.lay_queue.proofs.Queueing.{Good, front_is, good_pop}
use Rattle.lay_queue.proofs.queue.Queue.drop_front.Goals as goal

pub invariant_of-self : goal.invariant_of-self
invariant_of-self c =
    let q = c.args.self.now in
    let e = entry_of c.in-Some.entry.tok c.in-Some.entry.size in
    let r = c.pop_front.new.self in
    let h : Good q.ended q.ring q.notes.items q.acc q.groups q.waiting = record { sizes = q.sizes; fits = q.fits; acc_small = q.acc_small; wait_is = q.wait_is; number = q.number; held = q.held } in
    let a : q.ring.entries ≡ e ∷ r.entries = front_is q.ring.entries c.in-Some.entry c.in-Some.ensures ∙ ap (λ (x : List Entry). e ∷ x) (sym c.pop_front.ensures.entries) in
    let f : r.first ≡ (q.ring.first + 1) % 2 ^ 64 = c.pop_front.ensures.first ∙ ap (λ (x : List Entry). number_after_pop x q.ring.first) a in
    let k = good_pop q.ended q.ring r e q.notes.items c.drop_note.new.notes.items q.acc q.groups q.waiting (q.waiting - c.text_len-len.result) h a f (c.drop_note.ensures.items ∙ ap (λ z. notes_after (size_of z) q.notes.items) (let z : to_z w64 (of_z w64 c.in-Some.entry.size) ≡ c.in-Some.entry.size = search rules in z)) (ap (λ x. q.waiting - x) c.text_len-len.ensures) in
    record { sizes = k.sizes; fits = k.fits; acc_small = k.acc_small; wait_is = k.wait_is; number = k.number; held = k.held }
