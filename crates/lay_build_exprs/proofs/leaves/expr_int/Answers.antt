use Rattle.std.proofs.Common.{◌∙◌, arith}
use Rattle.lay_build_exprs.proofs.LeafLemmas.{int_part}
use Rattle.lay_build_exprs.proofs.leaves.expr_int.Goals as goal

pub kept_with-requires : goal.kept_with-requires
kept_with-requires c = int_part c.args.value c.in-Ok.text (omega arith) (c.in-Ok.ensures.ok ∙ c.as_bytes.ensures.value ∙ c.format.ensures.text)
