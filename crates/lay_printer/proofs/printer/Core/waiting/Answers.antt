use Rattle.std.proofs.Common.{◌≡◌, None, ap, ◌∙◌, arith}
use Rattle.lay_stream.specs.declared.line.Line.{Line}
use Rattle.lay_printer.specs.Printing.{Printing}
use Rattle.lay_printer.proofs.Lockstep.{in_step}
use Rattle.lay_printer.proofs.printer.Core.waiting.Goals as goal

pub returns-clause-lag : goal.returns-clause-lag
returns-clause-lag c = λ n written content s h r.
    let p = (in_step _ _ _ written content s h.running r).line in
    let f : c.self.inside.failed ≡ None = ap (λ (v : Printing). v.failed) c.self.view_is ∙ n in
    let l : c.self.inside.engine.page.line ≡ c.args.self.now.line = ap (λ (v : Printing). v.line) c.self.view_is in
    omega (arith, c.self.invariant.lag f, ap (λ (x : Line). x.room) l, ap (λ (x : Line). x.used) l, p.room, p.used, p.small)
