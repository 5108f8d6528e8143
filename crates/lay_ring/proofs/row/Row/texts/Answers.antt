-- Texts one after the other, one more at a time.
use Rattle.std.proofs.Common.{◌≡◌, ℕ, ◌+◌, ◌≤◌, suc, List, length, sym, subst, arith}
use Rattle.lay_ring.specs.Held.{Held}
use Rattle.lay_ring.specs.Rows.{IsRun, entries_at}
use Rattle.lay_ring.proofs.Rows.{TextsAt, texts_more, texts_run, texts_within}
use Rattle.lay_ring.proofs.row.Row.texts.Goals as goal

pub overflow_add-len : goal.overflow_add-len
overflow_add-len c =
    let i = c.self.inside in
    let k = texts_within (suc c.loop-count.count) (c.loop-count.len + c.in-Some.more) i.entries.items
    (texts_more c.loop-count.count c.loop-count.len c.in-Some.more i.entries.items c.loop-count.invariant c.in-Some.ensures) in
    omega (arith, k.1, c.self.invariant, c.len-all.ensures.value, c.len-all.ensures.small)

pub prove-unreachable-requires : goal.prove-unreachable-requires
prove-unreachable-requires c =
    let i = c.self.inside in
    let k = texts_within c.loop-count.count c.loop-count.len i.entries.items c.loop-count.invariant in
    omega (arith, k.1, c.self.invariant, c.len-all.ensures.value, c.if-prove.true)

pub loop-count-preserved : goal.loop-count-preserved
loop-count-preserved c =
    let i = c.self.inside in
    let e : suc c.loop-count.count ≡ c.loop-count.count + 1 = omega arith in
    subst (λ (n : ℕ). TextsAt n i.entries.items (c.loop-count.len + c.in-Some.more)) e
    (texts_more c.loop-count.count c.loop-count.len c.in-Some.more i.entries.items c.loop-count.invariant c.in-Some.ensures)

pub front-requires : goal.front-requires
front-requires c =
    let i = c.self.inside in
    let k = texts_within c.loop-count.count c.loop-count.len i.entries.items c.loop-count.invariant in
    omega (arith, k.1, c.self.invariant)

pub returns : goal.returns
returns c =
    let i = c.self.inside in
    let k = texts_within c.loop-count.count c.loop-count.len i.entries.items c.loop-count.invariant in
    let l : c.loop-count.len ≤ length i.bytes.items = omega (arith, k.1, c.self.invariant) in
    subst (λ (h : Held). IsRun c.loop-count.count h.entries c.front.result.now) c.self.view_is
    (subst (λ (xs : List ℕ). IsRun c.loop-count.count (entries_at i.entries.items i.bytes.items) xs) (sym c.front.ensures)
    (texts_run c.loop-count.count c.loop-count.len i.entries.items i.bytes.items c.loop-count.invariant l))
