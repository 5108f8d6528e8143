use Rattle.std.proofs.Common.{◌∙◌}
use Rattle.lay_build_exprs.proofs.LeafLemmas.{found_utf8}
use Rattle.lay_build_exprs.proofs.leaves.is_text.Goals as goal

pub returns : goal.returns
returns c = c.is_ok.ensures.value ∙ found_utf8 c.from_utf8.result c.args.bytes.now _ _ c.from_utf8.ensures.cases
