use Rattle.std.proofs.Common.{[], ◌∙◌}
use Rattle.std.proofs.lemmas.Result.{err_from_is_err_and}
use Rattle.lay_node.specs.Follow.{may_follow}
use Rattle.lay_node.specs.nodes.Facts.{Front}
use Rattle.lay_code.specs.nodes.Code.{about_item}
use Rattle.lay_code.specs.reader.Code.{item_at}
use Rattle.lay_code.specs.declared.item.Item.{Item}
use Rattle.lay_code.proofs.reader.ItemExact.{items_exact}
use Rattle.lay_read_parts.proofs.AtFront.{front_deeper, node_read, none_read}
use Rattle.lay_read_code.proofs.reads.read_item.Goals as goal

pub returns-in_err-found : goal.returns-in_err-found
returns-in_err-found c =
    let site = c.args.site in
    let p = err_from_is_err_and c.from_residual.result c.from_residual.ensures.1 in
    rw (p.1, p.2) (none_read (item_at site) (λ (x : Item). Front (about_item site x)) (items_exact site)
    (λ x. front_deeper (about_item site x).form (about_item site x).good (may_follow []))
    c.args.depth c.args.at.now c.requires c.new-ahead.result (c.new-ahead.ensures ∙ c.fork.ensures)
    c.in_err-found.field-0.0 c.in_err-found.ensures.read)

pub returns : goal.returns
returns c =
    let site = c.args.site in
    let found = c.in_ok-found.found in
    rw c.into_cursor.ensures (node_read (item_at site) (λ (x : Item). Front (about_item site x)) (items_exact site)
    (λ x. front_deeper (about_item site x).form (about_item site x).good (may_follow []))
    c.args.depth c.args.at.now c.requires c.new-ahead.result (c.new-ahead.ensures ∙ c.fork.ensures)
    found.node found.need c.item_ahead.new.at c.in_ok-found.ensures.read)
