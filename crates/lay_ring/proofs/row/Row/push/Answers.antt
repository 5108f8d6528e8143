-- The entry stands after the others, and its text after theirs.
use Rattle.std.proofs.Common.{rules, ℕ, ℤ, to_z, of_z, w64, List, ◌∷◌, [], ◌++◌, length, sym, ap, subst, ◌∙◌, arith, ◌≡◌, ◌+◌, ◌%◌, ◌^◌, ◌<◌, ◌≤◌}
use Rattle.lay_ring.specs.Held.{Held}
use Rattle.lay_ring.specs.Rows.{bytes_in, bytes_kept, entries_at, entry_of, text_most, texts_in, tok_of}
use Rattle.lay_ring.proofs.Rows.{added, bytes_taken, fits_more, length_entries, text_length, texts_count}
use Rattle.lay_ring.proofs.row.Row.push.Goals as goal

pub add-requires : goal.add-requires
add-requires c =
    let i = c.self.inside in
    let e : bytes_in (entries_at i.entries.items i.bytes.items) ≡ bytes_in c.args.self.now.entries = ap (λ (h : Held). bytes_in h.entries) c.self.view_is in
    let t = ap length c.text_of.ensures in
    let l = text_length (tok_of c.args.tok) in
    let n : length i.bytes.items + length c.text_of.result.now ≤ bytes_kept = omega (arith, c.requires.bytes, e, bytes_taken i.entries.items i.bytes.items (omega (arith, c.self.invariant)), c.self.invariant, t, l) in
    let m : length c.text_of.result.now ≤ text_most = omega (arith, c.requires.short, t, l) in
    let r : 0 < texts_in i.bytes i.entries.spare = subst (λ (h : Held). 0 < h.spare) (sym c.self.view_is) c.requires.room in
    fits_more i.bytes.full (length i.bytes.items) i.entries.spare (length c.text_of.result.now) r n m

pub add-requires-2 : goal.add-requires-2
add-requires-2 c =
    let i = c.self.inside in
    let r : 0 < texts_in i.bytes i.entries.spare = subst (λ (h : Held). 0 < h.spare) (sym c.self.view_is) c.requires.room in
    omega (arith, r, texts_count i.bytes.full (length i.bytes.items) i.entries.spare)

pub invariant_of-self : goal.invariant_of-self
invariant_of-self c =
    let i = c.self.inside in
    (added i.entries.items c.add-2.new.self.items i.bytes.items c.add.new.self.items c.kind_of-kind.result (tok_of c.args.tok) c.args.size c.self.invariant
    (c.add-2.ensures.items ∙ ap (λ (z : ℤ). i.entries.items ++ record { kind = c.kind_of-kind.result; size = z } ∷ []) (let z : to_z w64 (of_z w64 c.args.size) ≡ c.args.size = search rules in z))
    (c.add.ensures.items ∙ ap (λ (t : List ℕ). i.bytes.items ++ t) c.text_of.ensures) c.kind_of-kind.ensures.taken c.kind_of-kind.ensures.token).whole

pub returns-clause-entries : goal.returns-clause-entries
returns-clause-entries c =
    let i = c.self.inside in
    (added i.entries.items c.add-2.new.self.items i.bytes.items c.add.new.self.items c.kind_of-kind.result (tok_of c.args.tok) c.args.size c.self.invariant
    (c.add-2.ensures.items ∙ ap (λ (z : ℤ). i.entries.items ++ record { kind = c.kind_of-kind.result; size = z } ∷ []) (let z : to_z w64 (of_z w64 c.args.size) ≡ c.args.size = search rules in z))
    (c.add.ensures.items ∙ ap (λ (t : List ℕ). i.bytes.items ++ t) c.text_of.ensures) c.kind_of-kind.ensures.taken c.kind_of-kind.ensures.token).entries
    ∙ ap (λ (h : Held). h.entries ++ entry_of c.args.tok c.args.size ∷ []) c.self.view_is

pub returns-clause-number : goal.returns-clause-number
returns-clause-number c =
    let n : c.len.result ≡ length c.args.self.now.entries = c.len.ensures.value ∙ sym (length_entries c.self.inside.entries.items c.self.inside.bytes.items) ∙ ap (λ (h : Held). length h.entries) c.self.view_is in
    ap (λ (k : ℕ). (c.self.inside.number + k) % 2 ^ 64) n ∙ ap (λ (h : Held). (h.first + length c.args.self.now.entries) % 2 ^ 64) c.self.view_is
