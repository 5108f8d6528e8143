use Rattle.std.proofs.Common.{◌≡◌, true, false, sym, ap, ◌∙◌}
use Rattle.lay_node.specs.Ahead.{Tokens, first}
use Rattle.lay_node.specs.reader.Attr.{begins_group, grouped}
use Rattle.lay_node.specs.declared.attr.MetaInput.TheVariants as input
use Rattle.lay_read_tokens.specs.Answers.{closed, meta_closed, meta_rest, value_behind}
use Rattle.lay_read_tokens.proofs.Steps.{got_by, rest_value, rest_group, rest_bare}
use Rattle.lay_read_tokens.proofs.attributes.read_meta_input.Goals as goal

pub returns-then-takes_op : goal.returns-then-takes_op
returns-then-takes_op c =
    let ts = c.args.at.now in
    let rest = λ (mid : Tokens). closed c.args.inner c.args.path (value_behind mid) in
    got_by (meta_rest c.args.inner c.args.path ts) (rest c.takes_op.new.at) c.read_value.result c.read_value.new.at
    (rest_value c.args.inner c.args.path ts (sym c.if-takes_op.ensures.found)
    ∙ ap rest (sym c.if-takes_op.ensures.passed)) c.read_value.ensures

pub returns-then-is_at_opener : goal.returns-then-is_at_opener
returns-then-is_at_opener c =
    let ts = c.args.at.now in
    let same = sym c.if-takes_op.ensures.passed in
    let rest = λ (mid : Tokens). closed c.args.inner c.args.path (grouped mid) in
    let opens : first begins_group ts ≡ true = ap (first begins_group) same ∙ sym c.if-is_at_opener.ensures in
    got_by (meta_rest c.args.inner c.args.path ts) (rest c.takes_op.new.at) c.read_grouped.result c.read_grouped.new.at
    (rest_group c.args.inner c.args.path ts (sym c.if-takes_op.ensures.found) opens ∙ ap rest same)
    c.read_grouped.ensures

pub returns-else-is_at_opener : goal.returns-else-is_at_opener
returns-else-is_at_opener c =
    let ts = c.args.at.now in
    let same = sym c.if-takes_op.ensures.passed in
    let rest = meta_closed c.args.inner c.args.path input.Bare in
    let opens : first begins_group ts ≡ false = ap (first begins_group) same ∙ sym c.if-is_at_opener.ensures in
    got_by (meta_rest c.args.inner c.args.path ts) (rest c.takes_op.new.at) c.close.result c.close.new.at
    (rest_bare c.args.inner c.args.path ts (sym c.if-takes_op.ensures.found) opens ∙ ap rest same) c.close.ensures
