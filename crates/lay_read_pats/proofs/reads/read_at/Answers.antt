use Rattle.std.proofs.Common.{◌∙◌}
use Rattle.std.proofs.lemmas.Result.{err_from_is_err_and}
use Rattle.lay_node.specs.nodes.Patterns.{PatFront, about_pat, pat_follows, pat_form, pat_good}
use Rattle.lay_node.specs.reader.Patterns.{pat_at}
use Rattle.lay_node.specs.declared.patterns.Pat.{Pat}
use Rattle.lay_node.proofs.reader.PatternsExact.{pats_exact}
use Rattle.lay_read_parts.proofs.AtFront.{front_deeper, node_read, none_read}
use Rattle.lay_read_pats.proofs.reads.read_at.Goals as goal

pub returns-in_err-found : goal.returns-in_err-found
returns-in_err-found c =
    let place = c.args.place in
    let p = err_from_is_err_and c.from_residual.result c.from_residual.ensures.1 in
    rw (p.1, p.2) (none_read (pat_at place) (λ (x : Pat). PatFront place (about_pat x)) (pats_exact place)
    (λ x. front_deeper (pat_form place (about_pat x)) (pat_good place (about_pat x)) (pat_follows place (about_pat x)))
    c.args.depth c.args.at.now c.requires c.new-ahead.result (c.new-ahead.ensures ∙ c.fork.ensures)
    c.in_err-found.field-0.0 c.in_err-found.ensures.read)

pub returns : goal.returns
returns c =
    let place = c.args.place in
    let found = c.in_ok-found.found in
    rw c.into_cursor.ensures (node_read (pat_at place) (λ (x : Pat). PatFront place (about_pat x)) (pats_exact place)
    (λ x. front_deeper (pat_form place (about_pat x)) (pat_good place (about_pat x)) (pat_follows place (about_pat x)))
    c.args.depth c.args.at.now c.requires c.new-ahead.result (c.new-ahead.ensures ∙ c.fork.ensures)
    found.node found.need c.pat_ahead.new.at c.in_ok-found.ensures.read)
