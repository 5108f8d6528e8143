use Rattle.std.proofs.Common.{codes, sym}
use Rattle.std.proofs.lemmas.Result.{err_from_is_err_and}
use Rattle.lay_node.specs.Ahead.{is_mark}
use Rattle.lay_node.specs.reader.Loops.{elements}
use Rattle.lay_node.specs.reader.Types.{within, angle, one_arg}
use Rattle.lay_read_tokens.proofs.Steps.{lost}
use Rattle.lay_read_parts.specs.Answers.{gathered}
use Rattle.lay_read_types.proofs.Steps.{angle_lost}
use Rattle.lay_read_types.proofs.rules.Rules.angle.Goals as goal

pub returns-in_err-args-clause-read : goal.returns-in_err-args-clause-read
returns-in_err-args-clause-read g c =
    let w = within c.args.self.now.depth in
    let ts = c.args.at.now in
    let mid = c.takes_mark.new.at in
    let p = err_from_is_err_and c.from_residual.result c.from_residual.ensures.1 in
    rw (p.1, p.2) (lost (gathered (elements (is_mark (codes ">")) (one_arg w) mid)) (angle w ts)
    c.in_err-args.field-0.0 c.in_err-args.ensures.read
    (angle_lost w ts mid (sym c.if-not-takes_mark.ensures.found) c.if-not-takes_mark.ensures.passed))
