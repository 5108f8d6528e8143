use Rattle.std.proofs.Common.{List, ◌≡◌, ◌∷◌, length, sym, ap, length-drop, ◌∙◌, arith}
use Rattle.lay_layout.specs.Machine.{opened}
use Rattle.lay_ring.specs.Rows.{entry_of}
use Rattle.lay_ring.specs.declared.entry.Entry.{Entry}
use Rattle.lay_queue.specs.Closed.{toks_of}
use Rattle.lay_queue.proofs.Queueing.{front_is}
use Rattle.lay_printer.specs.Printing.{Framed}
use Rattle.lay_printer.proofs.Depths.{run_level}
use Rattle.lay_printer.proofs.Running.{prints_front_on, prints_texts}
use Rattle.lay_printer.proofs.engine.Engine.print_front.Goals as goal

pub invariant_of-self : goal.invariant_of-self
invariant_of-self g c =
    let e = c.args.self.now in
    let t = c.texts-texts.result in
    let f = c.print_text-printed.ensures.frames in
    record {
      room = omega (arith, e.room, ap length c.drop_texts.ensures.entries, length-drop t.count e.queue.ring.entries, ap (λ (x : Framed). x.spare) f);
      level = c.drop_texts.ensures.groups ∙ e.level ∙ sym (run_level t.count e.queue.ring.entries t.bytes.now (length e.page.frames.frames) c.texts-texts.ensures)
          ∙ ap (λ (es : List Entry). opened (toks_of es) (length e.page.frames.frames)) (sym c.drop_texts.ensures.entries)
          ∙ ap (λ (x : Framed). opened (toks_of c.drop_texts.new.self.ring.entries) (length x.frames)) (sym f);
    }

pub returns-then-texts-gt0-clause-prints : goal.returns-then-texts-gt0-clause-prints
returns-then-texts-gt0-clause-prints g c = λ tail d.
    prints_texts c.texts-texts.result.count _ _ _ tail c.texts-texts.result.bytes.now _ _ _ _ _ _ _ c.if-texts-gt0.true c.texts-texts.ensures c.drop_texts.ensures.entries c.print_text-printed.ensures.prints

pub returns-clause-prints : goal.returns-clause-prints
returns-clause-prints g c = λ tail d.
    let q = c.args.self.now.queue in
    let e = entry_of c.in-Some.entry.tok c.in-Some.entry.size in
    let a : q.ring.entries ≡ e ∷ c.drop_front.new.self.ring.entries = front_is q.ring.entries c.in-Some.entry c.in-Some.ensures ∙ ap (λ (x : List Entry). e ∷ x) (sym c.drop_front.ensures.entries) in
    prints_front_on _ _ _ tail e _ _ _ _ _ _ q.waiting c.args.big _ a q.wait_is d c.print-printed.ensures.prints
