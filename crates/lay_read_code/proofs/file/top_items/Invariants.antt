use Rattle.std.proofs.Common.{length}
use Rattle.lay_code.specs.reader.File.{file_item, longest}
use Rattle.lay_read_code.proofs.Longest.{Turn}
use Rattle.lay_read_code.proofs.file.top_items.Given as goal

abbrev pub invariant-loop-items : goal.invariant-loop-items
invariant-loop-items l = Turn (file_item l.fn.depth) (longest (file_item l.fn.depth) l.fn.at) l.items l.at

abbrev pub decreases-loop-items : goal.decreases-loop-items
decreases-loop-items l = length l.at
