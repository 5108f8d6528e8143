use Rattle.std.proofs.Common.{◌≡◌, ◌∷◌, [], List, length, refl, sym, ap, ◌∙◌, arith}
use Rattle.lay_token.specs.Operators.{is_op}
use Rattle.lay_token.specs.declared.token.Token.{Token}
use Rattle.lay_nest.proofs.OperatorLemmas.{no_token, unlike}
use Rattle.lay_nest.proofs.operator.is_op.Goals as goal

nothing : (ts : List Token) → length ts ≡ 0 → ts ≡ []
nothing [] h = refl
nothing (t ∷ ts) h = absurd (omega arith)

pub returns-in-None : goal.returns-in-None
returns-in-None c =
    sym (ap (is_op c.args.op.now) (nothing c.args.tokens.now c.in-None.ensures.cases) ∙ no_token c.args.op.now)

pub returns-else-may_begin : goal.returns-else-may_begin
returns-else-may_begin c =
    c.if-may_begin.false
    ∙ sym (ap (is_op c.args.op.now) c.in-Some.ensures.cases.0
    ∙ unlike c.args.op.now c.in-Some.front.now c.in-Some.behind.now (sym c.may_begin.ensures ∙ c.if-may_begin.false))
