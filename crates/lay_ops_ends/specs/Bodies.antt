-- In code: the braces around bodies of arms and of closures that the syntax tree doesn't hold.
use Rattle.std.specs.Prelude.{ℕ, ◌≡◌, Bool, false, [], ◌∷◌, Option, Some, None}
use Rattle.lay_code.specs.nodes.Bodies.{is_lone_body, sheds}
use Rattle.lay_code.specs.nodes.Code.{about_expr}
use Rattle.lay_code.specs.reader.Blocks.{undressed}
use Rattle.lay_code.specs.reader.Exprs.{shed}
use Rattle.lay_code.specs.declared.blocks.Stmt.TheVariants as stmt
use Rattle.lay_code.specs.declared.exprs.Expr.{Expr}
use Rattle.lay_code.specs.declared.exprs.Expr.TheVariants as expr

-- The expression is a block that holds this one and nothing else.
abbrev pub IsAround : Expr → Option Expr → Type 0
IsAround x y = (inner : Expr) × (x ≡ expr.Block None (record { attrs = []; stmts = stmt.Expr [] inner false ∷ [] })) × (y ≡ Some inner)

-- Without at most this many pairs of braces the body of an arm is this expression, which drops no
-- more braces.
abbrev pub IsBare : ℕ → Expr → Expr → Type 0
IsBare turns x y = (undressed turns x ≡ y) × (is_lone_body (about_expr y).kind ≡ false)

-- The same for the body of a closure. The flag says that no struct literal may stand there.
abbrev pub IsShed : Bool → ℕ → Expr → Expr → Type 0
IsShed no_struct turns x y = (shed no_struct turns x ≡ y) × (sheds (about_expr y).kind no_struct ≡ false)
