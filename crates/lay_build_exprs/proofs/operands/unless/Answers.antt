use Rattle.std.proofs.Common.{Bool, ℕ, ◌+◌, refl, sym, subst}
use Rattle.lay_code.specs.declared.exprs.Expr.{Expr}
use Rattle.lay_build_exprs.specs.Nodes as node
use Rattle.lay_build_exprs.specs.Parts.{WithNeed}
use Rattle.lay_build_exprs.proofs.PartLemmas.{paren_with, with_need}
use Rattle.lay_build_exprs.proofs.operands.unless.Goals as goal

pub returns-then-stands : goal.returns-then-stands
returns-then-stands c =
    let x = c.args.expr.now in
    let need = c.args.need in
    subst (λ (b : Bool). WithNeed (node.unless b x) (x, need)) (sym c.if-stands.true) (with_need x x need refl c.requires.need)

pub returns : goal.returns
returns c =
    let x = c.args.expr.now in
    let y = c.put_in_parens.new.expr in
    let need = c.args.need + 1 in
    subst (λ (b : Bool). WithNeed (node.unless b x) (y, need)) (sym c.if-stands.false)
    (paren_with x y c.args.need c.in_ok-put_in_parens.ensures c.requires.need)
