-- Expressions that are about to become parts of others.
use Rattle.std.specs.Prelude.{ℕ, ◌≡◌}
use Rattle.lay_form.specs.Depth.{least_depth}
use Rattle.lay_code.specs.declared.exprs.Expr.{Expr}
use Rattle.lay_build_types.specs.Kinds.{form_of_expr}

-- an expression with the depth that it needs
abbrev pub WithNeed : Expr → Expr × ℕ → Type 0
WithNeed x part = part ≡ (x, least_depth (form_of_expr x))
