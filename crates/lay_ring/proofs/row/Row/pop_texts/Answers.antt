-- What is left after texts at the front.
use Rattle.std.proofs.Common.{◌≡◌, ℕ, List, length, drop, sym, ap, ap₂, subst, ◌∙◌}
use Rattle.lay_ring.specs.Held.{Held}
use Rattle.lay_ring.specs.Rows.{AreTexts, all_taken, entries_at}
use Rattle.lay_ring.specs.declared.entry.Entry.{Entry}
use Rattle.lay_ring.specs.declared.row.SmallEntry.{SmallEntry}
use Rattle.lay_ring.proofs.Rows.{RunsOut, runs_out}
use Rattle.lay_ring.proofs.row.Row.pop_texts.Goals as goal

left : (count len : ℕ) (ss : List SmallEntry) (bytes : List ℕ) (h : Held) → all_taken ss ≡ length bytes → entries_at ss bytes ≡ h.entries → AreTexts count len h.entries → RunsOut count len ss bytes
left count len ss bytes h w e t =
    let k : AreTexts count len (entries_at ss bytes) = subst (λ (es : List Entry). AreTexts count len es) (sym e) t in
    runs_out count len ss bytes k.0 w k.1 (sym k.2)

pub drop_oldest-requires : goal.drop_oldest-requires
drop_oldest-requires c = (left c.args.count c.args.len c.self.inside.entries.items c.self.inside.bytes.items c.args.self.now c.self.invariant (ap (λ (h : Held). h.entries) c.self.view_is) c.requires).count_within

pub drop_front-requires : goal.drop_front-requires
drop_front-requires c = (left c.args.count c.args.len c.self.inside.entries.items c.self.inside.bytes.items c.args.self.now c.self.invariant (ap (λ (h : Held). h.entries) c.self.view_is) c.requires).len_within

pub invariant_of-self : goal.invariant_of-self
invariant_of-self c =
    let r = left c.args.count c.args.len c.self.inside.entries.items c.self.inside.bytes.items c.args.self.now c.self.invariant (ap (λ (h : Held). h.entries) c.self.view_is) c.requires in
    ap all_taken c.drop_oldest.ensures.items ∙ r.whole ∙ ap length (sym c.drop_front.ensures.items)

pub returns-clause-entries : goal.returns-clause-entries
returns-clause-entries c =
    let r = left c.args.count c.args.len c.self.inside.entries.items c.self.inside.bytes.items c.args.self.now c.self.invariant (ap (λ (h : Held). h.entries) c.self.view_is) c.requires in
    ap₂ entries_at c.drop_oldest.ensures.items c.drop_front.ensures.items ∙ r.entries ∙ ap (λ (h : Held). drop c.args.count h.entries) c.self.view_is
