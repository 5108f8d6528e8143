-- What is told of a tree is told of what is equal to it, and of a part by what is within its parentheses.
use Rattle.std.proofs.Common.{◌≡◌, ◌↔◌, IsTrue, Bool, true, false, sym, ap, ◌∙◌}
use Rattle.lay_code.specs.nodes.Layers.{ExprNode}
use Rattle.lay_code.specs.declared.blocks.Stmt.TheOpen.{Expr-F}
use Rattle.lay_code.specs.declared.blocks.Stmt.TheViews as views
use Rattle.lay_code.specs.declared.exprs.Expr.{Expr}
use Rattle.lay_code.specs.declared.exprs.Expr.TheVariants as expr
use Rattle.lay_paren_defs.specs.Enclosed.{part, shell}
use Rattle.lay_paren_defs.proofs.ShellLemmas.{shell_is}

-- ---- equal trees

pub told : {A : Type 0} {x y other : A} {result : Bool} → x ≡ y → (IsTrue result ↔ x ≡ other) → IsTrue result ↔ y ≡ other
told is by = ((λ t. sym is ∙ by.0 t), (λ e. by.1 (is ∙ e)))

pub was : {A : Type 0} {x y other : A} {result : Bool} → result ≡ true → x ≡ y → (IsTrue result ↔ x ≡ other) → y ≡ other
was so is by = sym is ∙ by.0 so

pub was_not : {A : Type 0} {x y other : A} {result : Bool} → result ≡ false → x ≡ y → (IsTrue result ↔ x ≡ other) → y ≡ other → ⊥
was_not so is by e = differ (sym so ∙ by.1 (is ∙ e))
  where
    differ : false ≡ true → ⊥
    differ q = cc

-- ---- parts

abbrev within : ExprNode → Expr
within (Expr-F.Paren x) = x
within _ = expr.Underscore

one_paren : (x y : Expr) → expr.Paren x ≡ expr.Paren y → x ≡ y
one_paren x y is =
    ap within (sym (views.outs-Paren x)) ∙ ap (λ (e : Expr). within (views.out-Expr e)) is ∙ ap within (views.outs-Paren y)

-- It stands as it is.
pub part_whole : (on : Bool) (x y : Expr) (result : Bool) → on ≡ false → (IsTrue result ↔ shell on x ≡ y) → IsTrue result ↔ part on x ≡ y
part_whole true x y result off by = cc
part_whole false x y result off by = told (shell_is false x) by

-- It stands in parentheses.
pub part_within : (on : Bool) (x inner y : Expr) (result : Bool) → on ≡ true → y ≡ expr.Paren inner → (IsTrue result ↔ shell on x ≡ inner)
    → IsTrue result ↔ part on x ≡ y
part_within true x inner y result so is by =
    ((λ t. ap expr.Paren (sym (shell_is true x) ∙ by.0 t) ∙ sym is), (λ e. by.1 (shell_is true x ∙ one_paren _ _ (e ∙ is))))
part_within false x inner y result so is by = cc

-- It would stand in parentheses, where the other doesn't.
pub part_other : (on : Bool) (x y : Expr) → on ≡ true → ((inner : Expr) → y ≡ expr.Paren inner → ⊥) → IsTrue false ↔ part on x ≡ y
part_other true x y so other = ((λ t. cc), (λ e. absurd (other _ (sym e))))
part_other false x y so other = cc
