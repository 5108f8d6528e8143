-- Expressions that are spelled: what is read one level deeper, and what begins an expression.
use Rattle.std.proofs.Common.{◌≡◌, ℕ, suc, Bool, true, Some}
use Rattle.lay_form.specs.Form.{Done, Deeper}
use Rattle.lay_form.specs.Spelled.{Spells}
use Rattle.lay_node.specs.Ahead.{Tokens}
use Rattle.lay_node.specs.nodes.Patterns.{about_pat, pat_form, pat_good}
use Rattle.lay_node.specs.reader.Loops.{Read}
use Rattle.lay_node.specs.declared.heads.Site.{Site}
use Rattle.lay_node.specs.declared.patterns.Pat.{Pat}
use Rattle.lay_node.specs.declared.patterns.PatPlace.{PatPlace}
use Rattle.lay_node.proofs.reader.Exact.{Complete, IsRead}
use Rattle.lay_node.proofs.reader.PatternsFronts.{Fits}
use Rattle.lay_node.proofs.reader.TypesComplete as types
use Rattle.lay_code.specs.Operands.{expr_lead_at}
use Rattle.lay_code.specs.nodes.Code.{about_block, about_expr, about_item}
use Rattle.lay_code.specs.nodes.Exprs.{Followed, follows, placed}
use Rattle.lay_code.specs.nodes.Places.{plain}
use Rattle.lay_code.specs.reader.Conditions.{alone, condition_by}
use Rattle.lay_code.specs.reader.Exprs.{head_by}
use Rattle.lay_code.specs.reader.Within.{ExprWithin}
use Rattle.lay_code.specs.declared.blocks.Block.{Block}
use Rattle.lay_code.specs.declared.exprs.Expr.{Expr}
use Rattle.lay_code.specs.declared.exprs.Place.{Place}

-- Expressions that are spelled at a depth are read in their places.
abbrev pub ReadsExprs : ℕ → ExprWithin → Type 0
ReadsExprs depth within =
    (place : Place) (x : Expr) (ts rest : Tokens) → Spells (about_expr x).form depth ts rest → placed (about_expr x) place ≡ true
    → Followed (about_expr x) place depth ts rest → IsRead depth (within.exprs place) x ts rest

-- What is one level deeper is read.
pub record ExprReads (depth : ℕ) (within : ExprWithin) : Type 0 where
  pub exprs : ReadsExprs depth within
  -- expressions that are conditions
  pub conditions : (x : Expr) (ts rest : Tokens) → Spells (about_expr x).form depth ts rest → placed (about_expr x) (plain 0 true) ≡ true
      → follows (about_expr x) (plain 0 true) rest ≡ true → IsRead depth (condition_by within) (alone x) ts rest
  pub kinds : types.Reads depth within.kinds
  pub pats : (place : PatPlace) (x : Pat) (ts rest : Tokens) → Spells (pat_form place (about_pat x)) depth ts rest
      → pat_good place (about_pat x) ≡ true → Fits place (about_pat x) rest → IsRead depth (within.pats place) x ts rest
  -- blocks after an `else`
  pub blocks : (b : Block) (ts rest : Tokens) → Spells (Deeper ((about_block b).form true) Done) depth ts rest → (about_block b).good ≡ true
      → IsRead depth within.blocks b ts rest
  pub items : (at : Site) → Complete (about_item at) depth (within.items at)

-- What begins an expression, at the beginning of the tokens.
abbrev pub head_at : ExprWithin → Bool → Tokens → Read Expr
head_at within no_struct ts = head_by within no_struct (expr_lead_at ts) ts

-- It is read as what begins an expression, and told by the first token.
pub record HeadRead (depth : ℕ) (within : ExprWithin) (no_struct : Bool) (x : Expr) (ts rest : Tokens) : Type 0 where
  pub lead : expr_lead_at ts ≡ Some (about_expr x).lead
  pub read : IsRead (suc depth) (head_at within no_struct) x ts rest
