-- What types and expressions end in, in code.
use Rattle.std.specs.Prelude.{Bool, true, false}
use Rattle.lay_node.specs.nodes.Types.{about_type}
use Rattle.lay_node.specs.declared.types.Ty.{Ty}
use Rattle.lay_code.specs.nodes.Code.{about_expr}
use Rattle.lay_code.specs.nodes.Exprs.{is_open, is_typed, lacks_args}
use Rattle.lay_code.specs.declared.exprs.Expr.{Expr}
use Rattle.lay_ops.specs.declared.expr_ends.ExprEnd.{ExprEnd}
use Rattle.lay_ops.specs.declared.expr_ends.ExprEnd.TheVariants as expr_end
use Rattle.lay_ops.specs.declared.type_ends.TypeEnd.{TypeEnd}
use Rattle.lay_ops.specs.declared.type_ends.TypeEnd.TheVariants as end

-- A type that ends so is one to which generic arguments could still be added.
abbrev pub lacks : TypeEnd → Bool
lacks end.Shut = false
lacks end.Bare = true
lacks (end.In ty) = lacks_args (about_type ty.now).told.refuses

abbrev pub IfIn : TypeEnd → (Ty → Type 0) → Type 0
IfIn (end.In ty) p = p ty.now
IfIn _ p = Unit {0}

-- An expression that ends so takes the operators after it, or no operator can follow it.
abbrev pub is_open_end : ExprEnd → Bool
is_open_end expr_end.Open = true
is_open_end (expr_end.In x) = is_open (about_expr x.now).tail
is_open_end _ = false

abbrev pub is_typed_end : ExprEnd → Bool
is_typed_end expr_end.Typed = true
is_typed_end (expr_end.In x) = is_typed (about_expr x.now).tail
is_typed_end _ = false

abbrev pub IfOperand : ExprEnd → (Expr → Type 0) → Type 0
IfOperand (expr_end.In x) p = p x.now
IfOperand _ p = Unit {0}
