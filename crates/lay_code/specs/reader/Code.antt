-- Parsing expressions, blocks and items of a limited depth. Each parser uses those of the depth
-- below.
use Rattle.std.specs.Prelude.{ℕ, zero, suc, true, Some, None}
use Rattle.lay_node.specs.Ahead.{Tokens}
use Rattle.lay_node.specs.reader.Functions.{insides}
use Rattle.lay_node.specs.reader.Loops.{Read, ◌>>=◌}
use Rattle.lay_node.specs.reader.Patterns.{pat_at}
use Rattle.lay_node.specs.reader.Types.{within}
use Rattle.lay_node.specs.reader.Use.{use_at}
use Rattle.lay_node.specs.declared.heads.Site.{Site}
use Rattle.lay_code.specs.reader.Blocks.{block_by}
use Rattle.lay_code.specs.nodes.Places.{plain}
use Rattle.lay_code.specs.reader.Exprs.{accepted, climb, expr_by}
use Rattle.lay_code.specs.reader.Item.{item_by}
use Rattle.lay_code.specs.reader.Within.{ExprWithin}
use Rattle.lay_code.specs.declared.blocks.Block.{Block}
use Rattle.lay_code.specs.declared.exprs.Expr.{Expr}
use Rattle.lay_code.specs.declared.exprs.Place.{Place}
use Rattle.lay_code.specs.declared.item.Item.{Item}

-- a block one level deeper
abbrev pub deeper_block : ExprWithin → Tokens → Read Block
deeper_block within ts = do b ← block_by within ts; Some ((b.0.0, suc b.0.1), b.1)

-- The operators after the first operands of a condition. Those operands are joined by `&&`, so only
-- operators of lower levels may follow.
abbrev pub climbed_on : ExprWithin → ℕ → Expr × ℕ → Tokens → Read Expr
climbed_on within budget lhs ts = do x ← climb within (plain 0 true) 3 lhs ts; accepted budget (plain 0 true) x.0 x.1

-- how expressions, blocks and items of at most this depth are parsed
unfoldable pub code_in : ℕ → ExprWithin
code_in zero = record {
  exprs = λ place ts. None;
  kinds = within zero;
  pats = λ place ts. pat_at place zero ts;
  blocks = λ ts. None;
  items = λ at ts. None;
  goes_on = λ lhs ts. None;
}
code_in (suc budget) = record {
  exprs = λ place ts. expr_by (code_in budget) (suc budget) place ts;
  kinds = within (suc budget);
  pats = λ place ts. pat_at place (suc budget) ts;
  blocks = λ ts. deeper_block (code_in budget) ts;
  items = λ at ts. item_by at (record { items = (code_in budget).items; trees = use_at budget; heads = insides budget; code = code_in budget }) ts;
  goes_on = λ lhs ts. climbed_on (code_in budget) (suc budget) lhs ts;
}

abbrev pub expr_at : Place → ℕ → Tokens → Read Expr
expr_at place budget ts = (code_in budget).exprs place ts

abbrev pub item_at : Site → ℕ → Tokens → Read Item
item_at at budget ts = (code_in budget).items at ts
