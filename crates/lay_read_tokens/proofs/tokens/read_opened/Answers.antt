use Rattle.std.proofs.lemmas.Result.{err_from_is_err_and}
use Rattle.lay_read_tokens.proofs.Lists.{opened_read, opened_stops}
use Rattle.lay_read_tokens.proofs.tokens.read_opened.Goals as goal

pub returns-in_err-tokens : goal.returns-in_err-tokens
returns-in_err-tokens c =
    let p = err_from_is_err_and c.from_residual.result c.from_residual.ensures.1 in
    rw (p.1, p.2) (opened_stops c.args.at.now c.group-inside.result c.group-inside.new.self c.args.delim
    c.group-inside.ensures c.requires
    c.as_slice.result.now c.as_slice.ensures c.in_err-tokens.field-0.0 c.in_err-tokens.ensures)

pub returns : goal.returns
returns c =
    opened_read c.args.at.now c.group-inside.result c.group-inside.new.self c.args.delim c.group-inside.ensures
    c.requires
    c.as_slice.result.now c.as_slice.ensures c.in_ok-tokens.tokens c.in_ok-tokens.ensures.0 c.in_ok-tokens.ensures.1
