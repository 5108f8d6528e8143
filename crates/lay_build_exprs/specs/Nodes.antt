-- Which node each call that builds expressions makes.
use Rattle.std.specs.Prelude.{ℕ, ◌||◌, Bool, true, false, if◌then◌else◌, List, [], ◌∷◌, ◌++◌, map, decimal, Option, None}
use Rattle.lay_piece.specs.declared.kind.Kind.{Kind}
use Rattle.lay_piece.specs.declared.kind.Kind.TheVariants as kind
use Rattle.lay_node.specs.declared.token.Name.{Name}
use Rattle.lay_node.specs.declared.types.Args.TheVariants as args
use Rattle.lay_code.specs.nodes.Layers.{ExprNode, StepNode}
use Rattle.lay_code.specs.declared.blocks.Block.{Block}
use Rattle.lay_code.specs.declared.blocks.Stmt.TheOpen.{Expr-F, Step-F}
use Rattle.lay_code.specs.declared.blocks.Stmt.TheViews.{out-Expr, out-Step}
use Rattle.lay_code.specs.declared.conditions.Link.TheVariants as link
use Rattle.lay_code.specs.declared.exprs.Expr.{Expr}
use Rattle.lay_code.specs.declared.exprs.Expr.TheVariants as expr
use Rattle.lay_code.specs.declared.exprs.FieldExpr.{FieldExpr}
use Rattle.lay_code.specs.declared.exprs.FieldExpr.TheVariants as field
use Rattle.lay_code.specs.declared.exprs.Step.{Step}
use Rattle.lay_code.specs.declared.exprs.Step.TheVariants as step
use Rattle.lay_code.specs.declared.operators.Op.{Op}
use Rattle.lay_build_types.specs.Nodes.{path}
use Rattle.lay_build_types.specs.Strings.{string_text}
use Rattle.lay_build_exprs.specs.declared.kinds.NamedExpr.{NamedExpr}

-- ---- expressions

abbrev pub literal : Kind → List ℕ → Expr
literal kind text = expr.Lit (record { kind = kind; text = text })

abbrev pub expr_int : ℕ → Expr
expr_int value = literal kind.Int (decimal value)

abbrev pub expr_str : List ℕ → Expr
expr_str text = literal kind.Str (string_text text)

abbrev pub expr_path : Name → List Name → Expr
expr_path first rest = expr.Path (path first rest args.None)

abbrev pub is_operand_node : ExprNode → Bool
is_operand_node (Expr-F.Lit literal) = true
is_operand_node (Expr-F.Path path) = true
is_operand_node (Expr-F.Paren inner) = true
is_operand_node (Expr-F.Tuple elements) = true
is_operand_node (Expr-F.Postfix base steps) = true
is_operand_node _ = false

abbrev pub is_chain_node : ExprNode → Bool
is_chain_node (Expr-F.Chain first rest) = true
is_chain_node _ = false

-- the expression, in parentheses unless the flag is set
abbrev pub unless : Bool → Expr → Expr
unless stands x = if stands then x else expr.Paren x

abbrev pub is_operand : Expr → Bool
is_operand x = is_operand_node (out-Expr x)

abbrev pub is_chain : Expr → Bool
is_chain x = is_chain_node (out-Expr x)

abbrev pub is_test : Expr → Bool
is_test x = is_operand x || is_chain x

abbrev pub operand : Expr → Expr
operand x = unless (is_operand x) x

-- what an `if` tests: the expression, in parentheses unless it is an operand or a chain of
-- operators
abbrev pub test : Expr → Expr
test x = unless (is_test x) x

abbrev pub is_postfix_node : ExprNode → Bool
is_postfix_node (Expr-F.Postfix base steps) = true
is_postfix_node _ = false

abbrev pub is_postfix : Expr → Bool
is_postfix x = is_postfix_node (out-Expr x)

-- An expression with one more step. If it has steps already, the step is added to them.
abbrev pub stepped_node : ExprNode → Expr → Step → Expr
stepped_node (Expr-F.Postfix base steps) x one = expr.Postfix base (steps ++ one ∷ [])
stepped_node _ x one = expr.Postfix x (one ∷ [])

abbrev pub stepped : Expr → Step → Expr
stepped x one = stepped_node (out-Expr x) x one

abbrev pub is_field_node : StepNode → Bool
is_field_node (Step-F.Field name) = true
is_field_node _ = false

abbrev pub is_field : Step → Bool
is_field s = is_field_node (out-Step s)

-- The last step is a field.
abbrev pub field_last : List Step → Bool
field_last [] = false
field_last (one ∷ []) = is_field one
field_last (one ∷ other ∷ more) = field_last (other ∷ more)

abbrev pub field_ends : ExprNode → Bool
field_ends (Expr-F.Postfix base steps) = field_last steps
field_ends _ = false

-- The expression ends in the name of a field. A call after it would be a method call.
abbrev pub ends_in_field : Expr → Bool
ends_in_field x = field_ends (out-Expr x)

abbrev pub callee : Expr → Expr
callee x = if ends_in_field x then expr.Paren x else operand x

abbrev pub expr_field : Expr → Name → Expr
expr_field base name = stepped (operand base) (step.Field name)

abbrev pub expr_method : Expr → Name → List Expr → Expr
expr_method base method arguments = stepped (operand base) (step.Method method None arguments)

abbrev pub expr_call : Expr → List Expr → Expr
expr_call base arguments = stepped (callee base) (step.Apply arguments)

abbrev pub expr_binary : Op → Expr → Expr → Expr
expr_binary op left right = expr.Chain (operand left) ((op, operand right) ∷ [])

abbrev pub field_expr : NamedExpr → FieldExpr
field_expr x = field.Named [] x.name x.value

abbrev pub expr_struct : Name → List Name → List NamedExpr → Expr
expr_struct first rest given = expr.Struct (path first rest args.None) (map field_expr given) None

abbrev pub one_branch : Expr → Block → Option Block → Expr
one_branch x body otherwise =
    expr.If (record { condition = record { links = link.Expr x ∷ [] }; body = body } ∷ []) otherwise

abbrev pub expr_if : Expr → Block → Option Block → Expr
expr_if x body otherwise = one_branch (test x) body otherwise
