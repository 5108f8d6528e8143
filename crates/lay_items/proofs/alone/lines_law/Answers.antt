use Rattle.lay_items.proofs.alone_lemmas.LineLemmas.{one_line, all_lines, two_lines}
use Rattle.lay_items.proofs.alone.lines_law.Goals as goal

pub returns : goal.returns
returns c = record { one = one_line; all = all_lines; two = two_lines }
