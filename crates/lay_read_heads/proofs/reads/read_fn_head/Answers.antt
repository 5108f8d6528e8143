use Rattle.std.proofs.Common.{◌≡◌, ◌<◌, ◌∙◌, arith}
use Rattle.std.proofs.lemmas.Result.{err_from_is_err_and}
use Rattle.lay_node.specs.nodes.Functions.{about_fn_head}
use Rattle.lay_node.specs.reader.Functions.{fn_head}
use Rattle.lay_node.proofs.reader.FunctionsComplete.{fn_heads_exact}
use Rattle.lay_read_heads.proofs.AtFront.{head_nowhere, head_none, head_found}
use Rattle.lay_read_heads.proofs.reads.read_fn_head.Goals as goal

pub returns-then-depth-eq0 : goal.returns-then-depth-eq0
returns-then-depth-eq0 c =
    let zero : c.args.depth ≡ 0 = omega arith in
    head_nowhere (about_fn_head c.args.site) (fn_head c.args.site) (fn_heads_exact c.args.site) c.args.depth c.args.at.now c.requires zero

pub returns-in_err-found : goal.returns-in_err-found
returns-in_err-found c =
    let some : 0 < c.args.depth = omega arith in
    let p = err_from_is_err_and c.from_residual.result c.from_residual.ensures.1 in
    rw (p.1, p.2) (head_none (about_fn_head c.args.site) (fn_head c.args.site) (fn_heads_exact c.args.site) c.args.depth c.args.at.now c.requires some
    c.new-ahead.result (c.new-ahead.ensures ∙ c.fork.ensures) c.in_err-found.field-0.0 c.in_err-found.ensures.read)

pub returns : goal.returns
returns c =
    let some : 0 < c.args.depth = omega arith in
    let found = c.in_ok-found.found in
    rw c.into_cursor.ensures (head_found (about_fn_head c.args.site) (fn_head c.args.site) (fn_heads_exact c.args.site) c.args.depth c.args.at.now c.requires some
    c.new-ahead.result (c.new-ahead.ensures ∙ c.fork.ensures) found.node found.need c.fn_head_ahead.new.at
    c.in_ok-found.ensures.read)
