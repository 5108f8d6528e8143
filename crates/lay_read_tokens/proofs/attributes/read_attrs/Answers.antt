use Rattle.std.proofs.Common.{◌∙◌}
use Rattle.std.proofs.lemmas.Result.{err_from_is_err_and}
use Rattle.lay_read_tokens.proofs.InRow.{all_read, none_read}
use Rattle.lay_read_tokens.proofs.attributes.read_attrs.Goals as goal

pub returns-in_err-attrs : goal.returns-in_err-attrs
returns-in_err-attrs c =
    let p = err_from_is_err_and c.from_residual.result c.from_residual.ensures.1 in
    rw (p.1, p.2) (none_read c.args.inner c.args.at.now c.requires c.new-ahead.result (c.new-ahead.ensures ∙ c.fork.ensures)
    c.in_err-attrs.field-0.0 c.in_err-attrs.ensures)

pub returns : goal.returns
returns c =
    rw c.into_cursor.ensures (all_read c.args.inner c.args.at.now c.requires c.new-ahead.result (c.new-ahead.ensures ∙ c.fork.ensures)
    c.in_ok-attrs.attrs c.attrs_ahead.new.at c.in_ok-attrs.ensures)
