-- The parsers of code of a limited depth.
use Rattle.std.specs.Prelude.{ℕ}
use Rattle.lay_node.specs.reader.Patterns.{pat_at}
use Rattle.lay_node.specs.reader.Types.{within}
use Rattle.lay_code.specs.reader.Code.{code_in, expr_at, item_at}
use Rattle.lay_code.specs.reader.Within.{ExprWithin}

-- These are those of `code_in`, which computes only where the depth is known to be zero or not.
-- Here the parsers of types and patterns compute at each depth.
abbrev pub code_within : ℕ → ExprWithin
code_within depth = record {
  exprs = λ place ts. expr_at place depth ts;
  kinds = within depth;
  pats = λ place ts. pat_at place depth ts;
  blocks = λ ts. (code_in depth).blocks ts;
  items = λ at ts. item_at at depth ts;
  goes_on = λ x ts. (code_in depth).goes_on x ts;
}
