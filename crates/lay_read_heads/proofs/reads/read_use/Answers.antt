use Rattle.std.proofs.Common.{◌∙◌}
use Rattle.std.proofs.lemmas.Result.{err_from_is_err_and}
use Rattle.lay_node.specs.Follow.{may_follow}
use Rattle.lay_node.specs.nodes.Facts.{Front}
use Rattle.lay_node.specs.nodes.Use.{about_use}
use Rattle.lay_node.specs.reader.Use.{use_at}
use Rattle.lay_node.specs.declared.use_tree.UseTree.{UseTree}
use Rattle.lay_node.proofs.reader.Use.{use_trees}
use Rattle.lay_read_parts.proofs.AtFront.{front_deeper, node_read, none_read}
use Rattle.lay_read_heads.proofs.reads.read_use.Goals as goal

pub returns-in_err-found : goal.returns-in_err-found
returns-in_err-found c =
    let p = err_from_is_err_and c.from_residual.result c.from_residual.ensures.1 in
    rw (p.1, p.2) (none_read use_at (λ (x : UseTree). Front (about_use x)) use_trees
    (λ x. front_deeper (about_use x).form (about_use x).good (may_follow (about_use x).refuses))
    c.args.depth c.args.at.now c.requires c.new-ahead.result (c.new-ahead.ensures ∙ c.fork.ensures)
    c.in_err-found.field-0.0 c.in_err-found.ensures.read)

pub returns : goal.returns
returns c =
    let found = c.in_ok-found.found in
    rw c.into_cursor.ensures (node_read use_at (λ (x : UseTree). Front (about_use x)) use_trees
    (λ x. front_deeper (about_use x).form (about_use x).good (may_follow (about_use x).refuses))
    c.args.depth c.args.at.now c.requires c.new-ahead.result (c.new-ahead.ensures ∙ c.fork.ensures)
    found.node found.need c.use_ahead.new.at c.in_ok-found.ensures.read)
