use Rattle.std.proofs.Common.{◌+◌, ◌*◌}
use Rattle.lay_read_pats.proofs.pats.+pats.Given as goal

abbrev pub decreases-pat_ahead : goal.decreases-pat_ahead
decreases-pat_ahead l = 4 * l.depth + 3

abbrev pub decreases-alternatives : goal.decreases-alternatives
decreases-alternatives l = 4 * l.depth + 2

abbrev pub decreases-one_alternative : goal.decreases-one_alternative
decreases-one_alternative l = 4 * l.level.now.depth + 1

abbrev pub decreases-single_ahead : goal.decreases-single_ahead
decreases-single_ahead l = 4 * l.depth
