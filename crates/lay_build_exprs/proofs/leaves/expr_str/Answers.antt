use Rattle.std.proofs.Common.{◌∙◌, sym}
use Rattle.lay_build_exprs.proofs.LeafLemmas.{str_part}
use Rattle.lay_build_exprs.proofs.leaves.expr_str.Goals as goal

pub kept_with-requires : goal.kept_with-requires
kept_with-requires c = str_part c.args.text.now c.in_ok-text.text (sym c.is_text.ensures ∙ c.if-not-is_text.false) c.in_ok-text.ensures
