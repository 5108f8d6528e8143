use Rattle.lay_code.specs.nodes.Code.{about_expr}
use Rattle.lay_build_exprs.proofs.ExprLemmas.{stands_free, stands_whole}
use Rattle.lay_build_exprs.proofs.laws.stands_law.Goals as goal

pub returns : goal.returns
returns c = record { free = λ x h. stands_free (about_expr x) h; whole = λ x h. stands_whole (about_expr x) h }
