use Rattle.std.proofs.Common.{◌≡◌}
use Rattle.lay_code.specs.nodes.Code.{about_expr}
use Rattle.lay_paren.specs.InPlace.{parts_least}
use Rattle.lay_paren.proofs.leads.lead.Given as goal

-- what is left begins as the whole does
abbrev pub invariant-loop-lead : goal.invariant-loop-lead
invariant-loop-lead l = (about_expr (parts_least l.at l.first)).lead ≡ (about_expr (parts_least l.fn.place l.expr)).lead
