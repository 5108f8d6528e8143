use Rattle.lay_read_tokens.specs.Answers.{closed, meta_closed, value_behind}
use Rattle.lay_read_tokens.proofs.Steps.{got_by, value_closed}
use Rattle.lay_read_tokens.proofs.attributes.read_other_value.Goals as goal

pub returns : goal.returns
returns c =
    let mid = c.read_listed.new.at in
    got_by (closed c.args.inner c.args.path (value_behind c.args.at.now))
    (meta_closed c.args.inner c.args.path c.in_ok-input.input mid) c.close.result c.close.new.at
    (value_closed c.args.inner c.args.path c.args.at.now c.in_ok-input.input mid c.requires c.in_ok-input.ensures)
    c.close.ensures
