use Rattle.std.proofs.Common.{◌≡◌, suc, ◌<◌, refl, ◌∙◌, arith}
use Rattle.std.proofs.lemmas.Result.{err_from_is_err_and}
use Rattle.lay_node.specs.Follow.{may_follow}
use Rattle.lay_node.specs.nodes.Facts.{Front}
use Rattle.lay_node.specs.nodes.Types.{about_path, alone}
use Rattle.lay_node.specs.reader.Types.{path, path_at}
use Rattle.lay_node.specs.declared.types.Path.{Path}
use Rattle.lay_node.proofs.reader.TypesExact.{paths_exact}
use Rattle.lay_read_tokens.specs.declared.stop.ReadNone.TheVariants.{NoReading}
use Rattle.lay_read_parts.proofs.AtFront.{front_deeper, node_read, none_read, alone_nowhere, alone_stopped, alone_read}
use Rattle.lay_read_types.proofs.reads.read_path.Goals as goal

pub returns-then-depth-eq0 : goal.returns-then-depth-eq0
returns-then-depth-eq0 c =
    let style = c.args.style in
    let zero : c.args.depth ≡ 0 = omega arith in
    none_read (path_at style) (λ (x : Path). Front (alone (about_path x style))) (paths_exact style)
    (λ x. front_deeper (alone (about_path x style)).form (about_path x style).good (may_follow (about_path x style).refuses))
    c.args.depth c.args.at.now c.requires c.args.at.now refl
    NoReading (alone_nowhere (λ w us. path w style us) c.args.depth c.args.at.now zero)

pub returns-in_err-found : goal.returns-in_err-found
returns-in_err-found c =
    let style = c.args.style in
    let some : 0 < c.args.depth = omega arith in
    let p = err_from_is_err_and c.from_residual.result c.from_residual.ensures.1 in
    rw (p.1, p.2) (none_read (path_at style) (λ (x : Path). Front (alone (about_path x style))) (paths_exact style)
    (λ x. front_deeper (alone (about_path x style)).form (about_path x style).good (may_follow (about_path x style).refuses))
    c.args.depth c.args.at.now c.requires c.new-ahead.result (c.new-ahead.ensures ∙ c.fork.ensures)
    c.in_err-found.field-0.0 (alone_stopped (λ w us. path w style us) c.args.depth c.new-ahead.result some
    c.in_err-found.field-0.0 c.in_err-found.ensures.read))

pub returns : goal.returns
returns c =
    let style = c.args.style in
    let some : 0 < c.args.depth = omega arith in
    let found = c.in_ok-found.found in
    rw c.into_cursor.ensures (node_read (path_at style) (λ (x : Path). Front (alone (about_path x style))) (paths_exact style)
    (λ x. front_deeper (alone (about_path x style)).form (about_path x style).good (may_follow (about_path x style).refuses))
    c.args.depth c.args.at.now c.requires c.new-ahead.result (c.new-ahead.ensures ∙ c.fork.ensures)
    found.node (suc found.need) c.path_ahead.new.at
    (alone_read (λ w us. path w style us) c.args.depth c.new-ahead.result some found.node found.need c.path_ahead.new.at c.in_ok-found.ensures.read))
