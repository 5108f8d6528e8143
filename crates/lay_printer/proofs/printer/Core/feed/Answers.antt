use Rattle.std.proofs.Common.{rules, ◌≡◌, ◌∷◌, [], None, sym, refl, ap, subst, ◌∙◌}
use Rattle.lay_layout.specs.Machine.{IsNested}
use Rattle.lay_ring.specs.Rows.{tok_of}
use Rattle.lay_printer.specs.Printing.{Printing}
use Rattle.lay_printer.proofs.Calling.{alone_live, calls_ok, calls_err}
use Rattle.lay_printer.proofs.printer.Core.feed.Goals as goal

pub returns-in-Ok-clause-calls : goal.returns-in-Ok-clause-calls
returns-in-Ok-clause-calls g c =
    let u : c.self.inside.failed ≡ None = search rules in
    let o = subst (λ (v : Printing). IsNested v.groups (tok_of c.args.tok ∷ [])) (sym c.self.view_is) c.requires.nested in
    let k = c.in-Ok.ensures in
    rw (← c.self.view_is) (calls_ok _ _ _ _ _ _ _ _ u u o k.feeds k.cause k.groups k.number c.feed.new.self.queue.number)

pub returns-in-Err-clause-calls : goal.returns-in-Err-clause-calls
returns-in-Err-clause-calls g c =
    let u : c.self.inside.failed ≡ None = search rules in
    let o = subst (λ (v : Printing). IsNested v.groups (tok_of c.args.tok ∷ [])) (sym c.self.view_is) c.requires.nested in
    rw (← c.self.view_is) (calls_err _ _ _ _ _ _ _ _ _ _ _ u refl o c.in-Err.ensures.feeds c.in-Err.ensures.cause)

pub returns-in-Ok-clause-alone : goal.returns-in-Ok-clause-alone
returns-in-Ok-clause-alone g c =
    let u : c.self.inside.failed ≡ None = search rules in
    alone_live c.args.self.now.failed (sym (ap (λ (v : Printing). v.failed) c.self.view_is) ∙ u)

pub returns-in-Err-clause-alone : goal.returns-in-Err-clause-alone
returns-in-Err-clause-alone g c =
    let u : c.self.inside.failed ≡ None = search rules in
    alone_live c.args.self.now.failed (sym (ap (λ (v : Printing). v.failed) c.self.view_is) ∙ u)
