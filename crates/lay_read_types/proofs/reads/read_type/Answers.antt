use Rattle.std.proofs.Common.{◌∙◌}
use Rattle.std.proofs.lemmas.Result.{err_from_is_err_and}
use Rattle.lay_node.specs.nodes.Types.{TypeFront, about_type, good_at, type_follows}
use Rattle.lay_node.specs.reader.Types.{type_at}
use Rattle.lay_node.specs.declared.types.Ty.{Ty}
use Rattle.lay_node.proofs.reader.TypesExact.{types_exact}
use Rattle.lay_read_parts.proofs.AtFront.{front_deeper, node_read, none_read}
use Rattle.lay_read_types.proofs.reads.read_type.Goals as goal

pub returns-in_err-found : goal.returns-in_err-found
returns-in_err-found c =
    let place = c.args.place in
    let p = err_from_is_err_and c.from_residual.result c.from_residual.ensures.1 in
    rw (p.1, p.2) (none_read (type_at place) (λ (x : Ty). TypeFront place (about_type x)) (types_exact place)
    (λ x. front_deeper (about_type x).told.form (good_at place (about_type x)) (type_follows place (about_type x)))
    c.args.depth c.args.at.now c.requires c.new-ahead.result (c.new-ahead.ensures ∙ c.fork.ensures)
    c.in_err-found.field-0.0 c.in_err-found.ensures.read)

pub returns : goal.returns
returns c =
    let place = c.args.place in
    let found = c.in_ok-found.found in
    rw c.into_cursor.ensures (node_read (type_at place) (λ (x : Ty). TypeFront place (about_type x)) (types_exact place)
    (λ x. front_deeper (about_type x).told.form (good_at place (about_type x)) (type_follows place (about_type x)))
    c.args.depth c.args.at.now c.requires c.new-ahead.result (c.new-ahead.ensures ∙ c.fork.ensures)
    found.node found.need c.type_ahead.new.at c.in_ok-found.ensures.read)
