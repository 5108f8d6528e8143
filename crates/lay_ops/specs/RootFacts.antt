-- The facts about an expression that its root tells, in code.
use Rattle.std.specs.Prelude.{ℕ, ◌&&◌, not, Bool, false, List, [], ◌∷◌}
use Rattle.std.specs.List.{list_all}
use Rattle.lay_code.specs.Operators.{op_level}
use Rattle.lay_code.specs.nodes.Code.{about_stmt}
use Rattle.lay_code.specs.declared.blocks.Stmt.{Stmt}
use Rattle.lay_code.specs.declared.exprs.Expr.{Expr}
use Rattle.lay_code.specs.declared.operators.Op.{Op}

-- the level of the first operator, or 0 if there is none
abbrev pub first_level : List (Op × Expr) → ℕ
first_level [] = 0
first_level (x ∷ more) = op_level x.0

-- The one statement of the list is an expression without attributes and without a `;`, and no macro
-- call.
abbrev pub lone_in : List Stmt → Bool
lone_in (s ∷ []) = (about_stmt s).bare && not (about_stmt s).call
lone_in _ = false

-- The statement is no expression that holds a struct literal outside delimiters.
abbrev pub is_structless_stmt : Stmt → Bool
is_structless_stmt s = (about_stmt s).structless

abbrev pub structless_in : List Stmt → Bool
structless_in stmts = list_all is_structless_stmt stmts
