use Rattle.std.proofs.Common.{◌<◌, length, arith}
use Rattle.std.proofs.lemmas.Result.{err_from_is_err_and}
use Rattle.lay_read_tokens.proofs.Lists.{item_stops}
use Rattle.lay_read_tokens.proofs.tokens.add_tokens.Goals as goal

pub returns-in_err-listed : goal.returns-in_err-listed
returns-in_err-listed c =
    let within : c.loop-token.token-index < length c.args.tokens.now = omega arith in
    let p = err_from_is_err_and c.from_residual.result c.from_residual.ensures.1 in
    rw (p.1, p.2) (item_stops c.args.list.now c.loop-token.list c.args.tokens.now c.loop-token.token-index
    c.token-item.result c.in_err-listed.field-0.0
    within c.token-item.is c.in_err-listed.ensures)
