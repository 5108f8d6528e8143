-- The kinds of nodes that are built: the form of each, and what holds of a node of the kind.
use Rattle.std.specs.Prelude.{◌≡◌, Bool, true, false, IsTrue}
use Rattle.lay_form.specs.Depth.{alone}
use Rattle.lay_form.specs.Form.{Form, Done}
use Rattle.lay_node.specs.Words.{is_name, leaf_of}
use Rattle.lay_node.specs.nodes.Types.{about_type, good_at}
use Rattle.lay_node.specs.declared.heads.Site.TheVariants.{Module}
use Rattle.lay_node.specs.declared.token.Name.{Name}
use Rattle.lay_node.specs.declared.types.Ty.{Ty}
use Rattle.lay_node.specs.declared.types.TypePlace.TheVariants.{NoBounds}
use Rattle.lay_code.specs.nodes.Code.{about_block, about_expr, about_item, about_stmt}
use Rattle.lay_code.specs.nodes.Exprs.{ExprFacts, is_open, is_typed}
use Rattle.lay_code.specs.declared.blocks.Block.{Block}
use Rattle.lay_code.specs.declared.blocks.Stmt.{Stmt}
use Rattle.lay_code.specs.declared.exprs.Expr.{Expr}
use Rattle.lay_code.specs.declared.item.Item.{Item}

-- ---- names and types

abbrev pub form_of_name : Name → Form
form_of_name name = leaf_of name.raw name.text Done

abbrev pub IsName : Name → Type 0
IsName name = IsTrue (is_name name.raw name.text)

abbrev pub form_of_type : Ty → Form
form_of_type ty = (about_type ty).told.form

-- The type may stand where only one bound may.
abbrev pub IsType : Ty → Type 0
IsType ty = IsTrue (good_at NoBounds (about_type ty))

-- ---- expressions

abbrev pub form_of_expr : Expr → Form
form_of_expr x = (about_expr x).form

-- What is within the expression stands in its places wherever the expression is put, and no
-- operator or `<` after it is taken by its end. So it stands at every place of its level where its
-- root may stand.
pub record StandsFree (x : ExprFacts) : Type 0 where
  pub within : (no_struct first : Bool) → x.within no_struct first ≡ true
  pub closed : is_open x.tail ≡ false
  pub untyped : is_typed x.tail ≡ false

abbrev pub IsExpr : Expr → Type 0
IsExpr x = StandsFree (about_expr x)

-- ---- statements and blocks, by themselves

abbrev pub form_of_stmt : Stmt → Form
form_of_stmt s = alone (about_stmt s).form

-- The statement is well formed, and other statements may follow it.
pub record IsStmt (s : Stmt) : Type 0 where
  pub good : IsTrue (about_stmt s).good
  pub ends : IsTrue (about_stmt s).ends

abbrev pub form_of_block : Block → Form
form_of_block b = alone ((about_block b).form false)

abbrev pub IsBlock : Block → Type 0
IsBlock b = IsTrue (about_block b).good

-- ---- items

abbrev pub form_of_item : Item → Form
form_of_item item = (about_item Module item).form

abbrev pub IsItem : Item → Type 0
IsItem item = IsTrue (about_item Module item).good
