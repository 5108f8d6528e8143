-- The parsers of one level deeper.
use Rattle.std.specs.Prelude.{ℕ}
use Rattle.lay_node.specs.Ahead.{Tokens}
use Rattle.lay_node.specs.reader.Loops.{Read}
use Rattle.lay_node.specs.reader.Types.{Within}
use Rattle.lay_node.specs.declared.heads.Site.{Site}
use Rattle.lay_node.specs.declared.patterns.Pat.{Pat}
use Rattle.lay_node.specs.declared.patterns.PatPlace.{PatPlace}
use Rattle.lay_code.specs.declared.blocks.Block.{Block}
use Rattle.lay_code.specs.declared.exprs.Expr.{Expr}
use Rattle.lay_code.specs.declared.exprs.Place.{Place}
use Rattle.lay_code.specs.declared.item.Item.{Item}

-- They parse expressions at a place, types and the arguments of paths, patterns at a place, blocks
-- after an `else`, and items at a site. The last one goes on with the first operands of a
-- condition, which it is given with the depth that they need.
pub record ExprWithin : Type 0 where
  pub exprs : Place → Tokens → Read Expr
  pub kinds : Within
  pub pats : PatPlace → Tokens → Read Pat
  pub blocks : Tokens → Read Block
  pub items : Site → Tokens → Read Item
  pub goes_on : Expr × ℕ → Tokens → Read Expr
