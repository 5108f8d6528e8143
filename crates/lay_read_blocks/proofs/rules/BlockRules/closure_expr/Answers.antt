use Rattle.std.proofs.Common.{codes, ◌+◌, sym, ap, ◌∙◌, if◌then◌else◌}
use Rattle.lay_node.specs.Ahead.{is_mark, tail}
use Rattle.lay_node.specs.reader.Loops.{deepest, elements}
use Rattle.lay_code.specs.reader.Exprs.{closure_body, closure_expr, closure_param}
use Rattle.lay_read_types.proofs.Steps.{found_by}
use Rattle.lay_read_shared.specs.Code.{code_within}
use Rattle.lay_read_blocks.specs.Answers.{fits}
use Rattle.lay_read_blocks.proofs.Chains.{closure_is}
use Rattle.lay_read_blocks.proofs.rules.BlockRules.closure_expr.Goals as goal

pub returns-clause-read : goal.returns-clause-read
returns-clause-read g c =
    let deeper = code_within c.args.self.now.depth in
    let ts = c.args.at.now in
    let is_async = c.takes_keyword-is_async.result in
    let behind = c.takes_keyword-is_async.new.at in
    let moves = c.takes_keyword-moves.result in
    let mid = c.takes_keyword-moves.new.at in
    let left = c.params.new.at in
    let no_struct = c.args.no_struct in
    let params = c.in_ok-params.params in
    let read = c.in_ok-params.ensures.read in
    let barred = sym c.takes_mark.ensures.found ∙ c.if-not-takes_mark.false in
    let inside = c.takes_mark.ensures.passed ∙ ap (λ b. if b then tail mid else mid) c.if-not-takes_mark.false in
    let elements_read = ap (elements (is_mark (codes "|")) (closure_param deeper)) (sym inside) ∙ read.1 in
    let fit = fits (c.args.self.now.depth + 1) in
    found_by (fit (closure_expr deeper no_struct ts)) (fit (closure_body deeper no_struct is_async moves params.node params.need left))
    c.closure_body.result c.closure_body.new.at
    (ap fit (closure_is deeper ts no_struct is_async moves behind mid read.0 left (sym c.takes_keyword-is_async.ensures.found)
    (sym c.takes_keyword-is_async.ensures.passed) (sym c.takes_keyword-moves.ensures.found) (sym c.takes_keyword-moves.ensures.passed)
    barred elements_read
    ∙ ap (λ xs. closure_body deeper no_struct is_async moves xs (deepest read.0) left) read.2.0
    ∙ ap (λ n. closure_body deeper no_struct is_async moves params.node n left) read.2.1)) c.closure_body.ensures.read
