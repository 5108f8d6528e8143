use Rattle.std.proofs.Common.{ap, ◌∙◌}
use Rattle.lay_node.specs.Words.{is_bare_number}
use Rattle.lay_ops.proofs.RootFacts.{of_literal}
use Rattle.lay_ops.proofs.numbers.is_number.Goals as goal

pub returns-in-Lit : goal.returns-in-Lit
returns-in-Lit c =
    let l = c.in-Lit.literal in
    c.is_bare_number.ensures ∙ ap (is_bare_number l.kind) c.as_bytes.ensures ∙ of_literal c.args.expr.now l c.in-Lit.is
