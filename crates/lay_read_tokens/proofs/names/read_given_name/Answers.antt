use Rattle.std.proofs.Common.{sym, ap, ◌∙◌}
use Rattle.std.proofs.lemmas.Result.{err_from_is_err_and}
use Rattle.lay_node.specs.reader.Words.{given_name, name}
use Rattle.lay_read_tokens.proofs.Steps.{lost}
use Rattle.lay_read_tokens.proofs.Steps.{other_underscore, other_none, other_some}
use Rattle.lay_read_tokens.proofs.names.read_given_name.Goals as goal

pub returns-then-takes_underscore : goal.returns-then-takes_underscore
returns-then-takes_underscore c = rw c.if-takes_underscore.ensures.passed
    (other_underscore c.args.at.now (sym c.if-takes_underscore.ensures.found))

pub returns-in_err-name : goal.returns-in_err-name
returns-in_err-name c =
    let ts = c.args.at.now in
    let here = ap name (sym c.if-takes_underscore.ensures.passed) in
    let p = err_from_is_err_and c.from_residual.result c.from_residual.ensures.1 in
    rw (p.1, p.2) (lost (name c.takes_underscore.new.at) (given_name ts) c.in_err-name.field-0.0 c.in_err-name.ensures
    (λ none. other_none ts (sym c.if-takes_underscore.ensures.found) (here ∙ none)))

pub returns : goal.returns
returns c =
    let here = ap name (sym c.if-takes_underscore.ensures.passed) in
    other_some c.args.at.now c.in_ok-name.name c.read_name.new.at (sym c.if-takes_underscore.ensures.found)
    (here ∙ c.in_ok-name.ensures)
