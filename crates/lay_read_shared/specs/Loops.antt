-- Lookahead for loops, in code: whether a further part begins.
use Rattle.std.specs.Prelude.{suc, ◌==◌, Bool, codes}
use Rattle.lay_node.specs.Ahead.{Tokens, first, is_keyword, more_items}
use Rattle.lay_code.specs.Operators.{begins_step, strength}
use Rattle.lay_code.specs.reader.Exprs.{begins_else_if}
use Rattle.lay_read_shared.specs.declared.loops.Going.{Going}
use Rattle.lay_read_shared.specs.declared.loops.Going.TheVariants as going

abbrev pub goes_on : Going → Tokens → Bool
goes_on going.Steps ts = begins_step ts
goes_on (going.Operands level) ts = strength ts == suc level
goes_on going.Types ts = first (is_keyword (codes "as")) ts
goes_on going.Items ts = more_items ts
goes_on going.ElseIfs ts = begins_else_if ts
