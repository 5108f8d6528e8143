use Rattle.std.proofs.Common.{sym, ap, ◌∙◌}
use Rattle.lay_code.specs.reader.File.{file_item, longest}
use Rattle.lay_read_code.proofs.Longest.{front_is}
use Rattle.lay_read_code.proofs.file.read_front.Goals as goal

pub returns : goal.returns
returns c =
    let here = sym (c.new-ahead.ensures ∙ c.fork.ensures) in
    rw c.into_cursor.ensures (front_is c.args.depth c.args.at.now c.inner_attrs.new.at c.top_items.new.at c.in_ok-attrs.attrs c.in_ok-items.items
    c.in_ok-attrs.ensures.run (ap (longest (file_item c.args.depth)) here ∙ c.in_ok-items.ensures))
