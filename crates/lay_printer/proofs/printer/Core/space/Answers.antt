use Rattle.std.proofs.Common.{rules, ◌≡◌, ◌++◌, ℕ, ◌+◌, min, pos, ◌-ℤ◌, ap, ap₂, ◌∙◌, arith}
use Rattle.lay_layout.specs.Machine.{layout_after}
use Rattle.lay_queue.specs.Scan.{cap}
use Rattle.lay_stream.specs.declared.line.Line.{Line}
use Rattle.lay_printer.specs.Printing.{Printing}
use Rattle.lay_printer.specs.Printers.{at}
use Rattle.lay_printer.specs.Promises.{least_space}
use Rattle.lay_printer.proofs.Lockstep.{in_step}
use Rattle.lay_printer.proofs.printer.Core.space.Goals as goal

pub returns : goal.returns
returns c = λ written content s h r.
    let i = (in_step _ _ _ written content s h.running r).line in
    let l : c.self.inside.engine.page.line ≡ c.args.self.now.line = ap (λ (v : Printing). v.line) c.self.view_is in
    let lr = ap (λ (x : Line). x.room) l in
    let lu = ap (λ (x : Line). x.used) l in
    let t = (layout_after (s ++ r) (at s c.args.self.now.entries)).state in
    let k : pos c.min-room.result -ℤ pos c.min-used.result ≡ least_space t = ap₂ (λ (a b : ℕ). pos a -ℤ pos b) (let x : c.min-room.result ≡ t.room = omega (arith, lr, i.room, i.small, c.min-room.ensures) in x)
    (let y : c.min-used.result ≡ min t.used (t.room + cap) = omega (arith, lr, lu, i.room, i.small, i.used, c.min-room.ensures, c.min-used.ensures) in y) in
    let d : c.difference.result ≡ pos c.min-room.result -ℤ pos c.min-used.result = search rules in
    let e : c.difference.result ≡ least_space t = d ∙ k in
    search (rules, e)
