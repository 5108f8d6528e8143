use Rattle.std.proofs.Common.{sym}
use Rattle.std.proofs.lemmas.Result.{err_from_is_err_and}
use Rattle.lay_read_tokens.proofs.Lists.{tree_read, tree_stops, list_ends}
use Rattle.lay_read_tokens.proofs.tokens.read_list.Goals as goal

pub loop-alloc-preserved : goal.loop-alloc-preserved
loop-alloc-preserved c =
    tree_read c.args.to_comma c.args.at.now c.loop-alloc.list c.loop-alloc.at c.loop-alloc.invariant c.tree.result.now
    c.tree.new.self c.tree.ensures.whole
    c.tree.ensures.tree (sym c.loop-alloc-test.ensures) c.add_tokens.new.list c.in_ok-add_tokens.ensures.0 c.in_ok-add_tokens.ensures.1

pub returns-in_err-add_tokens : goal.returns-in_err-add_tokens
returns-in_err-add_tokens c =
    let p = err_from_is_err_and c.from_residual.result c.from_residual.ensures.1 in
    rw (p.1, p.2) (tree_stops c.args.to_comma c.args.at.now c.loop-alloc.list c.loop-alloc.at c.loop-alloc.invariant
    c.tree.result.now c.tree.new.self c.tree.ensures.whole
    c.tree.ensures.tree (sym c.loop-alloc-test.ensures) c.loop-alloc.list c.add_tokens.new.list c.in_err-add_tokens.field-0.0
    c.in_err-add_tokens.ensures)

pub returns : goal.returns
returns c =
    rw c.new.ensures (list_ends c.args.to_comma c.args.at.now c.loop-alloc.list c.loop-alloc.at c.loop-alloc.invariant
    (sym c.loop-alloc-test.ensures))
