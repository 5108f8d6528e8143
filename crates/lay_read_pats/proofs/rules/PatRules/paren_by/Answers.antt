use Rattle.std.proofs.Common.{codes, sym, ap, ◌∙◌}
use Rattle.lay_node.specs.Ahead.{first, tail, is_mark}
use Rattle.lay_node.specs.reader.Patterns.{paren_by}
use Rattle.lay_read_pats.specs.Answers.{pats_within, tuple_behind}
use Rattle.lay_read_types.proofs.Steps.{found_by}
use Rattle.lay_read_pats.proofs.Steps.{paren_both}
use Rattle.lay_read_pats.proofs.rules.PatRules.paren_by.Goals as goal

pub returns-clause-read : goal.returns-clause-read
returns-clause-read g c =
    let deeper = pats_within c.args.self.now.depth in
    let x = c.args.first in
    let ts = c.args.at.now in
    let rest = c.elements.new.at in
    let first_of = c.in_ok-first.first in
    let more = c.in_ok-first.more in
    let here = c.if-takes_closer.ensures.passed in
    found_by (paren_by deeper (x.node, x.need) ts)
    (tuple_behind (first_of.node, first_of.need) more.node more.need rest) c.tuple_of.result rest
    (paren_both deeper x ts c.takes_mark.new.at rest (sym c.if-takes_closer.ensures.found)
    (sym (c.if-not-takes_mark.ensures.found ∙ ap (first (is_mark (codes ","))) here))
    (c.if-not-takes_mark.ensures.passed ∙ ap tail here) c.elements.result first_of more c.elements.ensures.read
    c.in_ok-first.ensures) c.tuple_of.ensures.read
