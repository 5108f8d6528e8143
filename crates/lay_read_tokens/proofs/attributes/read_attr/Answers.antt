use Rattle.std.proofs.Common.{◌∙◌}
use Rattle.std.proofs.lemmas.Result.{err_from_is_err_and}
use Rattle.lay_node.specs.nodes.Attr.{about_attr}
use Rattle.lay_node.specs.nodes.Facts.{Front}
use Rattle.lay_node.specs.reader.Attr.{attribute}
use Rattle.lay_node.specs.declared.attr.Attr.{Attr}
use Rattle.lay_node.proofs.reader.AttrRead.{attrs_exact}
use Rattle.lay_read_tokens.proofs.Steps.{node_read, none_read}
use Rattle.lay_read_tokens.proofs.attributes.read_attr.Goals as goal

pub returns-in_err-attr : goal.returns-in_err-attr
returns-in_err-attr c =
    let p = err_from_is_err_and c.from_residual.result c.from_residual.ensures.1 in
    rw (p.1, p.2) (none_read (attribute c.args.inner) (λ (x : Attr). Front (about_attr c.args.inner x))
    (attrs_exact c.args.inner) c.args.at.now c.requires
    c.new-ahead.result (c.new-ahead.ensures ∙ c.fork.ensures) c.in_err-attr.field-0.0 c.in_err-attr.ensures)

pub returns : goal.returns
returns c =
    rw c.into_cursor.ensures (node_read (attribute c.args.inner) (λ (x : Attr). Front (about_attr c.args.inner x)) (attrs_exact c.args.inner)
    c.args.at.now c.requires
    c.new-ahead.result (c.new-ahead.ensures ∙ c.fork.ensures) c.in_ok-attr.attr c.attr_ahead.new.at c.in_ok-attr.ensures)
