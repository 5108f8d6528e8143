-- Expressions that are handed on with what they need.
use Rattle.std.proofs.Common.{◌≡◌, ◌∙◌, ◌≤◌, ℕ, ◌+◌, max, Bool, true, false, if◌then◌else◌, List, [], ◌∷◌, map, Option, Result, Ok, Err, IfOk, MatchResult, OnOk, refl, sym, ap, subst, arith}
use Rattle.lay_form.specs.Depth.{least_depth}
use Rattle.lay_node.specs.declared.token.Name.{Name}
use Rattle.lay_code.specs.Reading.{top}
use Rattle.lay_code.specs.declared.blocks.Block.{Block}
use Rattle.lay_code.specs.declared.exprs.Expr.{Expr}
use Rattle.lay_code.specs.declared.exprs.Expr.TheVariants as expr
use Rattle.lay_code.specs.declared.operators.Op.{Op}
use Rattle.lay_depth.specs.nodes.Depths.{greatest}
use Rattle.lay_build_types.specs.Answers.{Gives, IsMade, IsPart, Makes, need_if}
use Rattle.lay_build_types.specs.Kinds.{IsExpr, form_of_block, form_of_expr}
use Rattle.lay_build_types.specs.declared.built.BuildError.{BuildError}
use Rattle.lay_build_types.proofs.AnswerLemmas.{Is, part_of, wants}
use Rattle.lay_build_types.proofs.PathLemmas.{KeptName, KeptNames}
use Rattle.lay_build_exprs.specs.Kinds.{form_of_field}
use Rattle.lay_build_exprs.specs.Nodes as node
use Rattle.lay_build_exprs.specs.Parts.{WithNeed}
use Rattle.lay_build_exprs.specs.declared.kinds.NamedExpr.{NamedExpr}
use Rattle.lay_build_exprs.proofs.BranchLemmas.{KeptFields, if_need, struct_made, struct_need}
use Rattle.lay_build_exprs.proofs.ExprLemmas.{chain_need, paren_need}

-- ---- nodes that are kept

-- What has become this expression is a part, where the expression is made.
pub kept_part : (x y : Expr) (need : Result ℕ BuildError) → Gives need (λ n. WithNeed x (y, n)) → OnOk need (IsMade form_of_expr IsExpr x)
    → IfOk need (λ n. IsPart form_of_expr IsExpr (y, n))
kept_part x y (Ok n) is made = subst (IsPart form_of_expr IsExpr) (sym is) (record { made = made; need = refl })
kept_part x y (Err why) is made = tt

-- What is answered of it is answered of this expression.
pub kept_makes : (x y : Expr) (need : Result ℕ BuildError) (result : Result Expr BuildError) → Gives need (λ n. WithNeed x (y, n))
    → MatchResult need (λ n. Makes form_of_expr y result) (λ why. result ≡ Err why) → Makes form_of_expr x result
kept_makes x y (Ok n) result is makes = subst (λ (z : Expr). Makes form_of_expr z result) (ap (λ (p : Expr × ℕ). p.0) is) makes
kept_makes x y (Err why) result is lost = subst (Makes form_of_expr x) (sym lost) (wants form_of_expr x why is)

pub always : {A : Type 0} {P : Type 0} (made : Result A BuildError) → P → OnOk made P
always (Ok x) p = p
always (Err why) p = tt

pub on_ok : {A : Type 0} {P Q : Type 0} (made : Result A BuildError) → (P → Q) → OnOk made P → OnOk made Q
on_ok (Ok x) f p = f p
on_ok (Err why) f p = tt

-- A part that is given with its depth has it.
pub own_need : {A : Type 0} (depth : A → ℕ) (x : A) (p : A × ℕ) → p ≡ (x, depth x) → p.1 ≡ depth p.0
own_need {A} depth x p is = subst (λ (q : A × ℕ). q.1 ≡ depth q.0) (sym is) refl

pub need_of : (x : Expr) (p : Expr × ℕ) → WithNeed x p → p.1 ≡ least_depth (form_of_expr p.0)
need_of x p is = own_need (λ (y : Expr). least_depth (form_of_expr y)) x p is

abbrev pair : Expr → ℕ → Expr × ℕ
pair x need = (x, need)

pub with_need : (x y : Expr) (need : ℕ) → y ≡ x → need ≡ least_depth (form_of_expr x) → WithNeed x (y, need)
with_need x y need same deep = ap (λ (z : Expr). pair z need) same ∙ ap (pair x) deep

-- ---- what parentheses add

pub paren_with : (x y : Expr) (need : ℕ) → y ≡ expr.Paren x → need ≡ least_depth (form_of_expr x) → WithNeed (expr.Paren x) (y, need + 1)
paren_with x y need same deep = let h = paren_need x in with_need (expr.Paren x) y (need + 1) same (omega (arith, deep, h))

module _ (x : Expr) (low : least_depth (form_of_expr x) ≤ top) where
  unless_within : (b : Bool) → least_depth (form_of_expr (node.unless b x)) ≤ top + 1
  unless_within true = omega (arith, low)
  unless_within false = let n = paren_need x in omega (arith, low, n)

  pub operand_within : least_depth (form_of_expr (node.operand x)) ≤ top + 1
  operand_within = unless_within (node.is_operand x)

  pub test_within : least_depth (form_of_expr (node.test x)) ≤ top + 1
  test_within = unless_within (node.is_test x)

  pub callee_within : least_depth (form_of_expr (node.callee x)) ≤ top + 1
  callee_within = by (node.ends_in_field x)
    where
      by : (b : Bool) → least_depth (form_of_expr (if b then expr.Paren x else node.operand x)) ≤ top + 1
      by true = unless_within false
      by false = operand_within

-- ---- chains

-- An operator between two operands, of which each is in parentheses where it has to be.
pub chain_with : (op : Op) (left right l r y : Expr) (n m need : ℕ) → WithNeed (node.operand left) (l, n) → WithNeed (node.operand right) (r, m)
    → y ≡ expr.Chain l ((op, r) ∷ []) → need ≡ max n m + 1 → WithNeed (node.expr_binary op left right) (y, need)
chain_with op left right l r y n m need one other same deep =
    let x = node.operand left in
    let z = node.operand right in
    let whole = same ∙ ap (λ (p : Expr × ℕ). expr.Chain p.0 ((op, r) ∷ [])) one ∙ ap (λ (p : Expr × ℕ). expr.Chain x ((op, p.0) ∷ [])) other in
    let first = ap (λ (p : Expr × ℕ). p.1) one in
    let second = ap (λ (p : Expr × ℕ). p.1) other in
    let depth = chain_need op x z in
    with_need (node.expr_binary op left right) y need whole (omega (arith, deep, first, second, depth))

-- ---- branches

pub if_with : (x : Expr) (body : Block) (otherwise : Option Block) (t y : Expr) (n need : ℕ) → WithNeed (node.test x) (t, n)
    → y ≡ node.one_branch t body otherwise
    → need ≡ max (n + 1) (max (least_depth (form_of_block body)) (need_if form_of_block otherwise))
    → WithNeed (node.expr_if x body otherwise) (y, need)
if_with x body otherwise t y n need tested same deep =
    let whole = same ∙ ap (λ (p : Expr × ℕ). node.one_branch p.0 body otherwise) tested in
    let first = ap (λ (p : Expr × ℕ). p.1) tested in
    let depth = if_need (node.test x) body otherwise in
    with_need (node.expr_if x body otherwise) y need whole (omega (arith, deep, first, depth))

-- ---- struct literals

pub struct_part : (first : Name) (rest : List Name) (fields : List NamedExpr) (need : ℕ) (made : Result (Expr × ℕ) BuildError)
    → KeptName first → KeptNames rest → KeptFields fields → need ≡ max (greatest (map form_of_field fields)) 1
    → Is (node.expr_struct first rest fields) need made → IfOk made (IsPart form_of_expr IsExpr)
struct_part first rest fields need made kept others all deepest is =
    part_of form_of_expr IsExpr (node.expr_struct first rest fields) need made is (deepest ∙ sym (struct_need first rest fields))
    (struct_made first rest fields kept others all)
