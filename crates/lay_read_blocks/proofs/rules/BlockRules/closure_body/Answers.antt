use Rattle.std.proofs.Common.{◌≡◌, ◌+◌, ◌≤◌, suc, sym, ap, subst, ◌∙◌, arith}
use Rattle.std.specs.Prelude.{max}
use Rattle.lay_code.specs.nodes.Bodies.{sheds}
use Rattle.lay_code.specs.nodes.Code.{about_expr}
use Rattle.lay_code.specs.nodes.Places.{plain}
use Rattle.lay_code.specs.reader.Blocks.{body_need}
use Rattle.lay_code.specs.reader.Code.{expr_at}
use Rattle.lay_code.specs.reader.Exprs.{closure_body}
use Rattle.lay_code.specs.declared.exprs.Expr.TheVariants as expr
use Rattle.lay_read_tokens.specs.Answers.{IsFound}
use Rattle.lay_read_shared.specs.Code.{code_within}
use Rattle.lay_read_blocks.proofs.Chains.{closure_read}
use Rattle.lay_read_blocks.proofs.Fits.{boxed_fitting}
use Rattle.lay_read_blocks.proofs.Second.{second_found}
use Rattle.lay_read_blocks.proofs.Undressed.{shed_read}
use Rattle.lay_read_blocks.proofs.rules.BlockRules.closure_body.Goals as goal

pub returns-clause-read : goal.returns-clause-read
returns-clause-read g c =
    let depth = c.args.self.now.depth in
    let deeper = code_within depth in
    let ts = c.args.at.now in
    let left = c.expr.new.at in
    let no_struct = c.args.no_struct in
    let place = plain 0 no_struct in
    let one = c.in_ok-params in
    let x = one.found.node in
    let body = c.closure_body_of-body in
    let kept = body.ensures.node in
    let there : IsFound (expr_at place depth ts) c.expr.result left =
    subst (λ p. IsFound (expr_at p depth ts) c.expr.result left) c.plain.ensures c.expr.ensures.read in
    let found = second_found (expr_at place depth ts) c.args.params left c.expr.result one.params one.found one.ensures there in
    let same = shed_read depth place no_struct ts left x body.result.node one.found.need kept.0 found.1 kept.1 in
    let deep = body_need (sheds (about_expr x).kind no_struct) one.found.need in
    let params = ap (λ p. p.need) found.0 in
    let need : c.greater.result + 1 ≡ suc (max c.args.params.need deep) = omega (arith, c.greater.ensures, params, body.ensures.need) in
    let le : c.greater.result + 1 ≤ depth + 1 = omega (arith, c.greater.ensures, params, c.requires.within, c.if-body-self.false) in
    let read = closure_read deeper ts no_struct c.args.is_async c.args.moves c.args.params.node c.args.params.need x body.result.node
    one.found.need left (sym c.op_is.ensures ∙ c.if-op_is.false) found.1 same in
    boxed_fitting (depth + 1) (closure_body deeper no_struct c.args.is_async c.args.moves c.args.params.node c.args.params.need ts)
    (expr.Closure c.args.is_async c.args.moves one.params.node body.result.node) (c.greater.result + 1) left c.boxed_found.result
    (rw (ap (λ p. p.node) found.0, need) read) le c.boxed_found.ensures.node c.boxed_found.ensures.need c.boxed_found.ensures.err
