-- A node stands where its root may, if what is within it stands in its places: row by row of the table of places.
use Rattle.std.proofs.Common.{◌≡◌, suc, Bool, true, false, not, ◌&&◌, List, ◌∷◌, map, Option, Some, None, option_map, refl, sym, subst, ◌∙◌, arith}
use Rattle.std.specs.List.{list_all}
use Rattle.std.proofs.lemmas.Bool.{and_parts, and_from, le-leb}
use Rattle.lay_node.specs.nodes.Attr.{are_attrs, is_empty}
use Rattle.lay_node.specs.nodes.Facts.{all_good}
use Rattle.lay_node.specs.nodes.Patterns.{about_pat, pat_good}
use Rattle.lay_node.specs.nodes.Types.{about_path, about_type, good_at, is_there}
use Rattle.lay_node.specs.tokens.Lexed.{is_token_list}
use Rattle.lay_node.specs.declared.attr.Attr.{Attr}
use Rattle.lay_node.specs.declared.patterns.Pat.{Pat}
use Rattle.lay_node.specs.declared.patterns.PatPlace.TheVariants.{Alternatives}
use Rattle.lay_node.specs.declared.token.Lifetime.{Lifetime}
use Rattle.lay_node.specs.declared.token.Listed.{Listed}
use Rattle.lay_node.specs.declared.types.Path.{Path}
use Rattle.lay_node.specs.declared.types.PathStyle.TheVariants.{Code}
use Rattle.lay_node.specs.declared.types.Ty.{Ty}
use Rattle.lay_node.specs.declared.types.TypePlace.TheVariants.{NoBounds}
use Rattle.lay_code.specs.Operators.{is_angle_op, op_level}
use Rattle.lay_code.specs.nodes.Bodies.{sheds}
use Rattle.lay_code.specs.nodes.Code.{about_arm, about_block, about_branch, about_condition, about_expr, about_field_expr, about_step}
use Rattle.lay_code.specs.nodes.Exprs.{ExprFacts, all_free, arms_good, base_placed, branches_good, expr_facts, is_chain_level, is_closure_param, may, may_be_good, may_chain, operand_placed, break_placed, placed, postfix_placed, stands, start_placed, targets_placed, types_good}
use Rattle.lay_code.specs.nodes.Places.{FREE, before_op, begins, plain}
use Rattle.lay_code.specs.nodes.PlacesTable.{OtherOperands, as_node}
use Rattle.lay_code.specs.declared.blocks.Arm.{Arm}
use Rattle.lay_code.specs.declared.blocks.Block.{Block}
use Rattle.lay_code.specs.declared.blocks.Branch.{Branch}
use Rattle.lay_code.specs.declared.blocks.Stmt.TheOpen.{Expr-F}
use Rattle.lay_code.specs.declared.conditions.Condition.{Condition}
use Rattle.lay_code.specs.declared.exprs.ClosureParam.{ClosureParam}
use Rattle.lay_code.specs.declared.exprs.Expr.{Expr}
use Rattle.lay_code.specs.declared.exprs.Expr.TheVariants as expr
use Rattle.lay_code.specs.declared.exprs.FieldExpr.{FieldExpr}
use Rattle.lay_code.specs.declared.exprs.Place.{Place}
use Rattle.lay_code.specs.declared.exprs.Step.{Step}
use Rattle.lay_code.specs.declared.operators.Op.{Op}
use Rattle.lay_code.specs.declared.operators.Prefix.{Prefix}
use Rattle.lay_code.proofs.nodes.ExprsLaws as laws
use Rattle.lay_paren_defs.specs.loose.Slots.{Optional, Prefixed, slot_fits}
use Rattle.lay_code.proofs.nodes.PlacesTable as table

-- Nothing is asked of a root in FREE.
pub may_free : (x : ExprFacts) → may x FREE ≡ true
may_free x = rw (le-leb 0 x.level (omega arith)) refl

-- what is within a node that is placed
pub within : (F : ExprFacts) (p : Place) → placed F p ≡ true → F.within p.no_struct (begins p.start) ≡ true
within F p h = (and_parts (stands F p) (F.within p.no_struct (begins p.start)) h).1

-- It stands where its root may, wherever that is.
abbrev pub StandsByRoot : Place → Expr → Type 0
StandsByRoot p x = may (about_expr x) p ≡ true → placed (about_expr x) p ≡ true

-- where it is as open as its root says
pub by_root : (x : Expr) (F : ExprFacts) (p : Place) → about_expr x ≡ F → placed F p ≡ (may F p && F.within p.no_struct (begins p.start))
    → F.within p.no_struct (begins p.start) ≡ true → StandsByRoot p x
by_root x F p e row w m =
    subst (λ (G : ExprFacts). placed G p ≡ true) (sym e)
    (row ∙ and_from (may F p) (F.within p.no_struct (begins p.start)) (subst (λ (G : ExprFacts). may G p ≡ true) e m) w)

-- where the table has a row of its own
by_table : (x : Expr) (F : ExprFacts) (p : Place) → about_expr x ≡ F → (may F p ≡ true → placed F p ≡ true) → StandsByRoot p x
by_table x F p e row m = subst (λ (G : ExprFacts). placed G p ≡ true) (sym e) (row (subst (λ (G : ExprFacts). may G p ≡ true) e m))

module _ (p : Place) where
  pub paren_stands : (x : Expr) → placed (about_expr x) FREE ≡ true → StandsByRoot p (expr.Paren x)
  paren_stands x w =
      by_root (expr.Paren x) (expr_facts (Expr-F.Paren (about_expr x))) p (laws.expr_paren_is x) (table.paren_row p (about_expr x)) w

  pub tuple_stands : (xs : List Expr) → all_free (map about_expr xs) ≡ true → StandsByRoot p (expr.Tuple xs)
  tuple_stands xs w =
      by_root (expr.Tuple xs) (expr_facts (Expr-F.Tuple (map about_expr xs))) p (laws.expr_tuple_is xs)
      (table.tuple_row p (map about_expr xs)) w

  pub array_stands : (xs : List Expr) → all_free (map about_expr xs) ≡ true → StandsByRoot p (expr.Array xs)
  array_stands xs w =
      by_root (expr.Array xs) (expr_facts (Expr-F.Array (map about_expr xs))) p (laws.expr_array_is xs)
      (table.array_row p (map about_expr xs)) w

  pub repeat_stands : (x : Expr) (length : List Listed) → (placed (about_expr x) FREE && not (is_empty length) && is_token_list length) ≡ true
      → StandsByRoot p (expr.Repeat x length)
  repeat_stands x length w =
      by_root (expr.Repeat x length) (expr_facts (Expr-F.Repeat (about_expr x) length)) p (laws.expr_repeat_is x length)
      (table.repeat_row p (about_expr x) length) w

  pub struct_stands : (path : Path) (fields : List FieldExpr) (base : Option (Option Expr))
      → ((about_path path Code).good && all_good (map about_field_expr fields) && base_placed (option_map (option_map about_expr) base)) ≡ true
      → StandsByRoot p (expr.Struct path fields base)
  struct_stands path fields base w =
      by_root (expr.Struct path fields base)
      (expr_facts (Expr-F.Expr::Struct path (map about_field_expr fields) (option_map (option_map about_expr) base))) p
      (laws.expr_struct_is path fields base)
      (table.struct_row p path (map about_field_expr fields) (option_map (option_map about_expr) base)) w

  pub chain_stands : (x : Expr) (o : Op × Expr) (more : List (Op × Expr)) → is_chain_level (op_level o.0) ≡ true
      → may_chain (op_level o.0) (map laws.behind_op (o ∷ more)) ≡ true
      → placed (about_expr x) (before_op (suc (op_level o.0)) p.no_struct (begins p.start) (is_angle_op o.0)) ≡ true
      → OtherOperands p (op_level o.0) (map laws.behind_op (o ∷ more)) → StandsByRoot p (expr.Chain x (o ∷ more))
  chain_stands x o more level once first others =
      by_table (expr.Chain x (o ∷ more)) (expr_facts (Expr-F.Chain (about_expr x) (map laws.behind_op (o ∷ more)))) p
      (laws.expr_chain_is x (o ∷ more))
      (λ m. (table.chain_row p (about_expr x) (laws.behind_op o) (map laws.behind_op more)).1 (m, level, once, first, others))

  pub cast_stands : (x : Expr) (types : List Ty)
      → (is_there types && placed (about_expr x) (before_op 12 p.no_struct (begins p.start) false) && types_good (map about_type types)) ≡ true
      → StandsByRoot p (expr.Cast x types)
  cast_stands x types w =
      by_root (expr.Cast x types) (expr_facts (Expr-F.Cast (about_expr x) types)) p (laws.expr_cast_is x types)
      (table.cast_row p (about_expr x) types) w

  pub unary_stands : (ps : List Prefix) (x : Expr) → is_there ps ≡ true → placed (about_expr x) (as_node p 12) ≡ true
      → slot_fits Prefixed p.no_struct (about_expr x) ≡ true → StandsByRoot p (expr.Unary ps x)
  unary_stands ps x there h slot =
      by_table (expr.Unary ps x) (expr_facts (Expr-F.Unary ps (about_expr x))) p (laws.expr_unary_is ps x)
      (λ m. (table.unary_row p ps (about_expr x)).1 (m, there, h, slot))

  pub endless_stands : (start : Option Expr) (inclusive : Bool)
      → (start_placed (option_map about_expr start) p.no_struct (begins p.start) && not inclusive) ≡ true
      → StandsByRoot p (expr.Range start inclusive None)
  endless_stands start inclusive w =
      by_root (expr.Range start inclusive None) (expr_facts (Expr-F.Range (option_map about_expr start) inclusive None)) p
      (laws.expr_range_is start inclusive None) (table.endless_row p (option_map about_expr start) inclusive) w

  pub range_stands : (start : Option Expr) (inclusive : Bool) (x : Expr)
      → start_placed (option_map about_expr start) p.no_struct (begins p.start) ≡ true → placed (about_expr x) (as_node p 2) ≡ true
      → slot_fits Optional p.no_struct (about_expr x) ≡ true → StandsByRoot p (expr.Range start inclusive (Some x))
  range_stands start inclusive x first h slot =
      by_table (expr.Range start inclusive (Some x)) (expr_facts (Expr-F.Range (option_map about_expr start) inclusive (Some (about_expr x)))) p
      (laws.expr_range_is start inclusive (Some x))
      (λ m. (table.range_row p (option_map about_expr start) inclusive (about_expr x)).1 (m, first, h, slot))

  pub assign_stands : (targets : List (Expr × Op)) (x : Expr) → is_there (map laws.before_op targets) ≡ true
      → targets_placed (map laws.before_op targets) p.no_struct (begins p.start) ≡ true → placed (about_expr x) (as_node p 1) ≡ true
      → StandsByRoot p (expr.Assign targets x)
  assign_stands targets x there before h =
      by_table (expr.Assign targets x) (expr_facts (Expr-F.Assign (map laws.before_op targets) (about_expr x))) p
      (laws.expr_assign_is targets x)
      (λ m. (table.assign_row p (map laws.before_op targets) (about_expr x)).1 (m, there, before, h))

  pub postfix_stands : (x : Expr) (steps : List Step)
      → postfix_placed (about_expr x) (map about_step steps) p.no_struct (begins p.start) ≡ true → StandsByRoot p (expr.Postfix x steps)
  postfix_stands x steps w =
      by_root (expr.Postfix x steps) (expr_facts (Expr-F.Postfix (about_expr x) (map about_step steps))) p (laws.expr_postfix_is x steps)
      (table.postfix_row p (about_expr x) (map about_step steps)) w

  pub block_stands : (label : Option Lifetime) (b : Block) → (about_block b).good ≡ true → StandsByRoot p (expr.Block label b)
  block_stands label b w =
      by_root (expr.Block label b) (expr_facts (Expr-F.Block label (about_block b))) p (laws.expr_block_is label b)
      (table.block_row p label (about_block b)) w

  pub unsafe_stands : (b : Block) → (about_block b).good ≡ true → StandsByRoot p (expr.Unsafe b)
  unsafe_stands b w =
      by_root (expr.Unsafe b) (expr_facts (Expr-F.Unsafe (about_block b))) p (laws.expr_unsafe_is b) (table.unsafe_row p (about_block b)) w

  pub const_block_stands : (b : Block) → (about_block b).good ≡ true → StandsByRoot p (expr.ConstBlock b)
  const_block_stands b w =
      by_root (expr.ConstBlock b) (expr_facts (Expr-F.ConstBlock (about_block b))) p (laws.expr_const_block_is b)
      (table.const_block_row p (about_block b)) w

  pub async_stands : (moves : Bool) (b : Block) → (about_block b).good ≡ true → StandsByRoot p (expr.Async moves b)
  async_stands moves b w =
      by_root (expr.Async moves b) (expr_facts (Expr-F.Async moves (about_block b))) p (laws.expr_async_is moves b)
      (table.async_row p moves (about_block b)) w

  pub if_stands : (branches : List Branch) (otherwise : Option Block)
      → (is_there (map about_branch branches) && branches_good (map about_branch branches) && may_be_good (option_map about_block otherwise)) ≡ true
      → StandsByRoot p (expr.If branches otherwise)
  if_stands branches otherwise w =
      by_root (expr.If branches otherwise) (expr_facts (Expr-F.If (map about_branch branches) (option_map about_block otherwise))) p
      (laws.expr_if_is branches otherwise) (table.if_row p (map about_branch branches) (option_map about_block otherwise)) w

  pub match_stands : (x : Expr) (attrs : List Attr) (arms : List Arm)
      → (placed (about_expr x) (plain 0 true) && are_attrs true attrs && arms_good (map about_arm arms)) ≡ true
      → StandsByRoot p (expr.Match x attrs arms)
  match_stands x attrs arms w =
      by_root (expr.Match x attrs arms) (expr_facts (Expr-F.Match (about_expr x) attrs (map about_arm arms))) p
      (laws.expr_match_is x attrs arms) (table.match_row p (about_expr x) attrs (map about_arm arms)) w

  pub loop_stands : (label : Option Lifetime) (b : Block) → (about_block b).good ≡ true → StandsByRoot p (expr.Loop label b)
  loop_stands label b w =
      by_root (expr.Loop label b) (expr_facts (Expr-F.Loop label (about_block b))) p (laws.expr_loop_is label b)
      (table.loop_row p label (about_block b)) w

  pub while_stands : (label : Option Lifetime) (c : Condition) (b : Block) → ((about_condition c).good && (about_block b).good) ≡ true
      → StandsByRoot p (expr.While label c b)
  while_stands label c b w =
      by_root (expr.While label c b) (expr_facts (Expr-F.While label (about_condition c) (about_block b))) p
      (laws.expr_while_is label c b) (table.while_row p label (about_condition c) (about_block b)) w

  pub for_stands : (label : Option Lifetime) (pat : Pat) (x : Expr) (b : Block)
      → (pat_good Alternatives (about_pat pat) && placed (about_expr x) (plain 0 true) && (about_block b).good) ≡ true
      → StandsByRoot p (expr.For label pat x b)
  for_stands label pat x b w =
      by_root (expr.For label pat x b) (expr_facts (Expr-F.For label pat (about_expr x) (about_block b))) p
      (laws.expr_for_is label pat x b) (table.for_row p label pat (about_expr x) (about_block b)) w

  pub closure_stands : (is_async moves : Bool) (params : List ClosureParam) (x : Expr)
      → (list_all is_closure_param params && placed (about_expr x) (plain 0 p.no_struct) && not (sheds (about_expr x).kind p.no_struct)) ≡ true
      → StandsByRoot p (expr.Closure is_async moves params x)
  closure_stands is_async moves params x w =
      by_root (expr.Closure is_async moves params x) (expr_facts (Expr-F.Closure is_async moves params (about_expr x))) p
      (laws.expr_closure_is is_async moves params x) (table.closure_row p is_async moves params (about_expr x)) w

  pub typed_closure_stands : (is_async moves : Bool) (params : List ClosureParam) (output : Ty) (b : Block)
      → (list_all is_closure_param params && good_at NoBounds (about_type output) && (about_block b).good) ≡ true
      → StandsByRoot p (expr.TypedClosure is_async moves params output b)
  typed_closure_stands is_async moves params output b w =
      by_root (expr.TypedClosure is_async moves params output b)
      (expr_facts (Expr-F.TypedClosure is_async moves params output (about_block b))) p
      (laws.expr_typed_closure_is is_async moves params output b)
      (table.typed_closure_row p is_async moves params output (about_block b)) w

  pub return_stands : (x : Option Expr) → operand_placed (option_map about_expr x) p.no_struct ≡ true → StandsByRoot p (expr.Return x)
  return_stands x w =
      by_root (expr.Return x) (expr_facts (Expr-F.Return (option_map about_expr x))) p (laws.expr_return_is x)
      (table.return_row p (option_map about_expr x)) w

  pub break_stands : (label : Option Lifetime) (x : Option Expr)
      → (operand_placed (option_map about_expr x) p.no_struct && break_placed label (option_map about_expr x)) ≡ true
      → StandsByRoot p (expr.Break label x)
  break_stands label x w =
      by_root (expr.Break label x) (expr_facts (Expr-F.Break label (option_map about_expr x))) p (laws.expr_break_is label x)
      (table.break_row p label (option_map about_expr x)) w
