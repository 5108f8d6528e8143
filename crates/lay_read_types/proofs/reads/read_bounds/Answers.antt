use Rattle.std.proofs.Common.{◌≡◌, suc, ◌<◌, List, map, refl, ◌∙◌, arith}
use Rattle.std.proofs.lemmas.Result.{err_from_is_err_and}
use Rattle.lay_node.specs.nodes.Types.{BoundsFront, about_bound, bounds_follow, bounds_form, bounds_good, deeper}
use Rattle.lay_node.specs.reader.Types.{all_bounds, bounds_at}
use Rattle.lay_node.specs.declared.types.Bound.{Bound}
use Rattle.lay_node.proofs.reader.TypesExact.{bounds_exact}
use Rattle.lay_read_tokens.specs.declared.stop.ReadNone.TheVariants.{NoReading}
use Rattle.lay_read_parts.proofs.AtFront.{front_deeper, node_read, none_read, alone_nowhere, alone_stopped, alone_read}
use Rattle.lay_read_types.proofs.reads.read_bounds.Goals as goal

pub returns-then-depth-eq0 : goal.returns-then-depth-eq0
returns-then-depth-eq0 c =
    let zero : c.args.depth ≡ 0 = omega arith in
    none_read bounds_at (λ (x : List Bound). BoundsFront x) bounds_exact
    (λ x. front_deeper (deeper (bounds_form (map about_bound x))) (bounds_good (map about_bound x)) (bounds_follow x))
    c.args.depth c.args.at.now c.requires c.args.at.now refl
    NoReading (alone_nowhere all_bounds c.args.depth c.args.at.now zero)

pub returns-in_err-found : goal.returns-in_err-found
returns-in_err-found c =
    let some : 0 < c.args.depth = omega arith in
    let p = err_from_is_err_and c.from_residual.result c.from_residual.ensures.1 in
    rw (p.1, p.2) (none_read bounds_at (λ (x : List Bound). BoundsFront x) bounds_exact
    (λ x. front_deeper (deeper (bounds_form (map about_bound x))) (bounds_good (map about_bound x)) (bounds_follow x))
    c.args.depth c.args.at.now c.requires c.new-ahead.result (c.new-ahead.ensures ∙ c.fork.ensures)
    c.in_err-found.field-0.0 (alone_stopped all_bounds c.args.depth c.new-ahead.result some
    c.in_err-found.field-0.0 c.in_err-found.ensures.read))

pub returns : goal.returns
returns c =
    let some : 0 < c.args.depth = omega arith in
    let found = c.in_ok-found.found in
    rw c.into_cursor.ensures (node_read bounds_at (λ (x : List Bound). BoundsFront x) bounds_exact
    (λ x. front_deeper (deeper (bounds_form (map about_bound x))) (bounds_good (map about_bound x)) (bounds_follow x))
    c.args.depth c.args.at.now c.requires c.new-ahead.result (c.new-ahead.ensures ∙ c.fork.ensures)
    found.node (suc found.need) c.bounds_ahead.new.at
    (alone_read all_bounds c.args.depth c.new-ahead.result some found.node found.need c.bounds_ahead.new.at c.in_ok-found.ensures.read))
