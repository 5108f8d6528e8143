-- Expressions that are built.
use Rattle.std.proofs.Common.{◌≡◌, ◌∙◌, ◌≤◌, ℕ, suc, ◌+◌, max, Bool, true, false, ◌&&◌, not, ◌==◌, if◌then◌else◌, List, [], ◌∷◌, map, refl, sym, ap, subst, arith}
use Rattle.std.specs.Prelude.{nat_le}
use Rattle.std.specs.List.{AllByRecursion}
use Rattle.std.proofs.lemmas.Bool.{and_parts, and_from, eq-eqb, le-leb, leb-true}
use Rattle.lay_piece.specs.declared.kind.Kind.{Kind}
use Rattle.lay_form.specs.Depth.{least_depth}
use Rattle.lay_form.specs.Pieces.{are_pieces, is_text_of}
use Rattle.lay_node.specs.Words.{is_literal}
use Rattle.lay_code.specs.Operators.{is_angle_op, op_level}
use Rattle.lay_code.specs.nodes.Code.{about_expr}
use Rattle.lay_code.specs.nodes.Exprs.{ExprFacts, all_free, expr_facts, expr_forms, is_chain_level, is_open, is_typed, placed, stands}
use Rattle.lay_code.specs.nodes.Layers.{ExprNode}
use Rattle.lay_code.specs.nodes.Places.{FREE, before_op, begins, is_part, plain, statement}
use Rattle.lay_code.specs.declared.blocks.Stmt.TheOpen.{Expr-F}
use Rattle.lay_code.specs.declared.blocks.Stmt.TheViews.{out-Expr, roll-out-Expr}
use Rattle.lay_code.specs.declared.exprs.Expr.{Expr}
use Rattle.lay_code.specs.declared.exprs.Expr.TheVariants as expr
use Rattle.lay_code.specs.declared.exprs.Place.{Place}
use Rattle.lay_code.specs.declared.operators.Op.{Op}
use Rattle.lay_code.proofs.nodes.ExprsLaws as laws
use Rattle.lay_code.proofs.nodes.ExprsLaws.{behind_op}
use Rattle.lay_code.proofs.nodes.Layers.{expr_is, expr_told}
use Rattle.lay_depth.specs.nodes.Depths.{greatest}
use Rattle.lay_depth.proofs.ExprLemmas as depths
use Rattle.lay_build_types.specs.Answers.{IsKept, IsMade}
use Rattle.lay_build_types.specs.Kinds.{IsExpr, StandsFree, form_of_expr}
use Rattle.lay_build_exprs.specs.Nodes as node
use Rattle.lay_build_types.proofs.PieceLemmas.{AllPieces, Pieces, ended}

abbrev pub KeptExpr : Expr → Type 0
KeptExpr x = IsKept form_of_expr IsExpr x

abbrev pub KeptExprs : List Expr → Type 0
KeptExprs xs = AllByRecursion KeptExpr xs

pub made_by : (x : Expr) (facts : ExprFacts) → about_expr x ≡ facts → Pieces facts.form → StandsFree facts → IsMade form_of_expr IsExpr x
made_by x facts is pieces stands = record {
  pieces = ap (λ (f : ExprFacts). are_pieces f.form) is ∙ pieces;
  holding = subst StandsFree (sym is) stands;
}

-- ---- where it stands

pub unless_false : (a b : Bool) → b ≡ false → not (a && b) ≡ true
unless_false true b h = ap not h
unless_false false b h = refl

-- What neither is block-like nor a struct literal stands at every place of its level.
pub stands_at : (x : ExprFacts) (p : Place) → StandsFree x → p.level ≤ x.level → x.block_like ≡ false → x.is_struct ≡ false
    → placed x p ≡ true
stands_at x p free level block literal =
    let l = nat_le p.level x.level in
    let o = not (p.op_after && is_open x.tail) in
    let t = not (p.lt_after && is_typed x.tail) in
    let b = not (is_part p.start && x.block_like) in
    let s = not (p.no_struct && x.is_struct) in
    and_from (stands x p) (x.within p.no_struct (begins p.start))
    (and_from (l && o && t && b) s
    (and_from (l && o && t) b
    (and_from (l && o) t
    (and_from l o (le-leb p.level x.level level) (unless_false p.op_after (is_open x.tail) free.closed))
    (unless_false p.lt_after (is_typed x.tail) free.untyped))
    (unless_false (is_part p.start) x.block_like block))
    (unless_false p.no_struct x.is_struct literal))
    (free.within p.no_struct (begins p.start))

-- Everything stands within delimiters, and as a whole statement.
pub stands_free : (x : ExprFacts) → StandsFree x → placed x FREE ≡ true
stands_free x free = and_from (stands x FREE) (x.within false false) (rw (le-leb 0 x.level (omega arith)) refl) (free.within false false)

pub stands_whole : (x : ExprFacts) → StandsFree x → placed x statement ≡ true
stands_whole x free = and_from (stands x statement) (x.within false true) (rw (le-leb 0 x.level (omega arith)) refl) (free.within false true)

-- ---- several expressions

pub exprs_pieces : (xs : List Expr) → KeptExprs xs → AllPieces (expr_forms (map about_expr xs))
exprs_pieces [] all = tt
exprs_pieces (x ∷ xs) all = (all.0.made.pieces, exprs_pieces xs all.1)

pub exprs_free : (xs : List Expr) → KeptExprs xs → all_free (map about_expr xs) ≡ true
exprs_free [] all = refl
exprs_free (x ∷ xs) all =
    and_from (placed (about_expr x) FREE) (all_free (map about_expr xs)) (stands_free (about_expr x) all.0.made.holding) (exprs_free xs all.1)

pub greatest_exprs : (xs : List Expr) → greatest (expr_forms (map about_expr xs)) ≡ greatest (map form_of_expr xs)
greatest_exprs xs = ap greatest (sym (depths.exprs_are xs))

-- ---- literals and paths

pub literal_made : (kind : Kind) (text : List ℕ) → is_text_of kind text ≡ true → is_literal kind text ≡ true
    → IsMade form_of_expr IsExpr (node.literal kind text)
literal_made kind text piece literal =
    made_by (node.literal kind text) _ (laws.expr_lit_is (record { kind = kind; text = text }))
    (ended (is_text_of kind text && true) (ended (is_text_of kind text) piece))
    (record { within = λ n f. literal; closed = refl; untyped = refl })

-- ---- parentheses

module _ (x : Expr) (kept : KeptExpr x) where
  pub paren_made : IsMade form_of_expr IsExpr (expr.Paren x)
  paren_made =
      made_by (expr.Paren x) _ (laws.expr_paren_is x) (ended (are_pieces (form_of_expr x) && true) (ended (are_pieces (form_of_expr x)) kept.made.pieces))
      (record { within = λ n f. stands_free (about_expr x) kept.made.holding; closed = refl; untyped = refl })

pub paren_need : (x : Expr) → least_depth (form_of_expr (expr.Paren x)) ≡ least_depth (form_of_expr x) + 1
paren_need x = ap (λ (f : ExprFacts). least_depth f.form) (laws.expr_paren_is x) ∙ omega arith

-- ---- operands

-- what an expression is, by what stands in it
pub told_is : (x : Expr) → about_expr x ≡ expr_facts (expr_told (out-Expr x))
told_is x = ap about_expr (sym (roll-out-Expr x)) ∙ expr_is (out-Expr x)

-- An operand of an operator, and the base of a step: it stands wherever its level may.
pub record Operand (x : ExprFacts) : Type 0 where
  pub free : StandsFree x
  pub level : 13 ≤ x.level
  pub block : x.block_like ≡ false
  pub literal : x.is_struct ≡ false

record Root (x : ExprFacts) : Type 0 where
  level : 13 ≤ x.level
  block : x.block_like ≡ false
  literal : x.is_struct ≡ false

operand_root : (y : ExprNode) → node.is_operand_node y ≡ true → Root (expr_facts (expr_told y))
operand_root (Expr-F.Lit literal) h = record { level = omega arith; block = refl; literal = refl }
operand_root (Expr-F.Path path) h = record { level = omega arith; block = refl; literal = refl }
operand_root (Expr-F.Paren inner) h = record { level = omega arith; block = refl; literal = refl }
operand_root (Expr-F.Tuple elements) h = record { level = omega arith; block = refl; literal = refl }
operand_root (Expr-F.Postfix base steps) h = record { level = omega arith; block = refl; literal = refl }
operand_root _ h = absurd (let no : ⊥ = cc in no)

module _ (x : Expr) (made : IsMade form_of_expr IsExpr x) where
  pub operand_by_root : node.is_operand x ≡ true → Operand (about_expr x)
  operand_by_root h =
      let r = subst Root (sym (told_is x)) (operand_root (out-Expr x) h) in
      record { free = made.holding; level = r.level; block = r.block; literal = r.literal }

paren_operand : (x : Expr) → StandsFree (about_expr (expr.Paren x)) → Operand (about_expr (expr.Paren x))
paren_operand x free =
    let r : Root (about_expr (expr.Paren x)) = subst Root (sym (laws.expr_paren_is x)) (record { level = omega arith; block = refl; literal = refl }) in
    record { free = free; level = r.level; block = r.block; literal = r.literal }

-- An operand is made, and stands so.
pub record MadeOperand (x : Expr) : Type 0 where
  pub made : IsMade form_of_expr IsExpr x
  pub stands : Operand (about_expr x)

module _ (x : Expr) (kept : KeptExpr x) where
  pub paren_stands : MadeOperand (expr.Paren x)
  paren_stands = let made = paren_made x kept in record { made = made; stands = paren_operand x made.holding }

  pub operand_made : MadeOperand (node.operand x)
  operand_made = by (node.is_operand x) refl
    where
      by : (b : Bool) → node.is_operand x ≡ b → MadeOperand (node.unless b x)
      by true h = record { made = kept.made; stands = operand_by_root x kept.made h }
      by false h = paren_stands

  pub callee_made : MadeOperand (node.callee x)
  callee_made = by (node.ends_in_field x)
    where
      by : (b : Bool) → MadeOperand (if b then expr.Paren x else node.operand x)
      by true = paren_stands
      by false = operand_made

-- ---- chains

module _ (op : Op) (left right : Expr) (one : MadeOperand left) (other : MadeOperand right) (chains : is_chain_level (op_level op) ≡ true) where
  abbrev F : ExprFacts
  F = expr_facts (Expr-F.Chain (about_expr left) ((op, about_expr right) ∷ []))

  below : suc (op_level op) ≤ 13
  below = let h = leb-true (op_level op) 10 (and_parts (nat_le 2 (op_level op)) (nat_le (op_level op) 10) chains).1 in omega (arith, h)

  -- An operand stands at the level above the operator's.
  above : (x : ExprFacts) (p : Place) → Operand x → p.level ≡ suc (op_level op) → placed x p ≡ true
  above x p stands level = stands_at x p stands.free (omega (arith, below, stands.level, level)) stands.block stands.literal

  within : (no_struct first : Bool) → F.within no_struct first ≡ true
  within no_struct first =
      let l = op_level op in
      let x = about_expr left in
      let y = about_expr right in
      let p = before_op (suc l) no_struct first (is_angle_op op) in
      let here = placed x p in
      let there = (l == l) && placed y (plain (suc l) no_struct) in
      and_from (is_chain_level l && true && here) (there && true)
      (and_from (is_chain_level l && true) here (ended (is_chain_level l) chains) (above x p one.stands refl))
      (ended there (and_from (l == l) (placed y (plain (suc l) no_struct)) (eq-eqb l l refl) (above y (plain (suc l) no_struct) other.stands refl)))

  pub chain_made : IsMade form_of_expr IsExpr (expr.Chain left ((op, right) ∷ []))
  chain_made =
      let f = form_of_expr left in
      let g = form_of_expr right in
      let pieces = and_from (are_pieces f) (are_pieces g && true) one.made.pieces (ended (are_pieces g) other.made.pieces) in
      made_by (expr.Chain left ((op, right) ∷ [])) F (laws.expr_chain_is left ((op, right) ∷ []))
      (ended ((are_pieces f && (are_pieces g && true)) && true) (ended (are_pieces f && (are_pieces g && true)) pieces))
      (record { within = within; closed = other.stands.free.closed; untyped = other.stands.free.untyped })

pub chain_need : (op : Op) (left right : Expr)
    → least_depth (form_of_expr (expr.Chain left ((op, right) ∷ []))) ≡ max (least_depth (form_of_expr left)) (least_depth (form_of_expr right)) + 1
chain_need op left right =
    let h = depths.chain_is (expr.Chain left ((op, right) ∷ [])) left ((op, right) ∷ []) refl in omega (arith, h)
