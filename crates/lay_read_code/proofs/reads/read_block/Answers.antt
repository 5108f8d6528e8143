use Rattle.std.proofs.Common.{sym, subst, ◌∙◌}
use Rattle.std.proofs.lemmas.Result.{err_from_is_err_and}
use Rattle.lay_code.specs.reader.Blocks.{block_by}
use Rattle.lay_read_shared.specs.alone.Fronts.{BlockFront, alone}
use Rattle.lay_read_shared.proofs.alone_lemmas.Fronts.{blocks_exact}
use Rattle.lay_read_tokens.specs.Answers.{Stopped}
use Rattle.lay_read_parts.proofs.AtFront.{node_read, none_read}
use Rattle.lay_read_code.proofs.Alone.{block_lifts}
use Rattle.lay_read_code.proofs.Steps.{blocks_alone}
use Rattle.lay_read_code.proofs.reads.read_block.Goals as goal

pub returns-in_err-found : goal.returns-in_err-found
returns-in_err-found c =
    let p = err_from_is_err_and c.from_residual.result c.from_residual.ensures.1 in
    let stopped = subst (λ got. Stopped got c.in_err-found.field-0.0) (blocks_alone c.args.depth c.new-ahead.result) c.in_err-found.ensures.read in
    rw (p.1, p.2) (none_read (alone block_by) BlockFront blocks_exact block_lifts c.args.depth c.args.at.now c.requires
    c.new-ahead.result (c.new-ahead.ensures ∙ c.fork.ensures) c.in_err-found.field-0.0 stopped)

pub returns : goal.returns
returns c =
    let found = c.in_ok-found.found in
    rw c.into_cursor.ensures (node_read (alone block_by) BlockFront blocks_exact block_lifts c.args.depth c.args.at.now c.requires
    c.new-ahead.result (c.new-ahead.ensures ∙ c.fork.ensures) found.node found.need c.block_ahead.new.at
    (sym (blocks_alone c.args.depth c.new-ahead.result) ∙ c.in_ok-found.ensures.read))
