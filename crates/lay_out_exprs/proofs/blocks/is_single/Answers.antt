use Rattle.std.proofs.Common.{◌≡◌, ◌≢◌, rules, length, map, ap, ◌∙◌}
use Rattle.lay_code.specs.nodes.Code.{about_stmt}
use Rattle.lay_out_exprs.proofs.BlockLemmas.{one_stmt, other_count, with_attrs}
use Rattle.lay_out_exprs.proofs.blocks.is_single.Goals as goal
