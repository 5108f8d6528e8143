-- What the parsers of what begins an expression answer.
use Rattle.std.specs.Prelude.{ℕ, suc, max, Bool, if◌then◌else◌, List, [], ◌∷◌, codes, Some, None}
use Rattle.lay_piece.specs.declared.kind.Delim.TheVariants.{Bracket, Brace}
use Rattle.lay_node.specs.Ahead.{Tokens, first, tail, is_mark, closes}
use Rattle.lay_node.specs.reader.Loops.{Read, ◌>>=◌, passed}
use Rattle.lay_node.specs.reader.Types.{begins_call}
use Rattle.lay_node.specs.declared.attr.Attr.{Attr}
use Rattle.lay_node.specs.declared.types.Path.{Path}
use Rattle.lay_code.specs.reader.Exprs.{base, bracket_expr, break_expr, call_expr, continue_expr, field_by, free_elements, paren_expr, path_expr, return_expr}
use Rattle.lay_code.specs.reader.Within.{ExprWithin}
use Rattle.lay_code.specs.declared.exprs.Expr.{Expr}
use Rattle.lay_code.specs.declared.exprs.Expr.TheVariants as expr
use Rattle.lay_code.specs.declared.exprs.FieldExpr.{FieldExpr}
use Rattle.lay_ops.specs.declared.operands.ExprLead.{ExprLead}
use Rattle.lay_ops.specs.declared.operands.ExprLead.TheVariants as lead

-- ---- in delimiters

-- an array after its `[` and its first element, which no `;` follows
abbrev pub array_by : ExprWithin → Expr × ℕ → Tokens → Read Expr
array_by within x ts =
    if first (closes Bracket) ts then Some ((expr.Array (x.0 ∷ []), suc x.1), tail ts)
    else (do
      behind ← passed (is_mark (codes ",")) ts
      more ← free_elements within (closes Bracket) behind
      Some ((expr.Array (x.0 ∷ more.0.0), suc (max x.1 more.0.1)), more.1))

-- ---- what begins with a path

-- a field with a number as its name, after the `:`
abbrev pub numbered_field : ExprWithin → List Attr → List ℕ → Tokens → Read FieldExpr
numbered_field within attrs index ts = field_by within attrs (Some (index, ts)) ts

-- a struct literal after its fields; the flag says whether they have ended
abbrev pub struct_by : ExprWithin → Path × ℕ → (List FieldExpr × Bool) × ℕ → Tokens → Read Expr
struct_by within p fields ts = do
  b ← base within fields.0.1 ts
  rest ← passed (closes Brace) b.1
  Some ((expr.Struct p.0 fields.0.0 b.0.0, suc (max p.1 (max fields.1 b.0.1))), rest)

-- a macro call, or another expression that begins with a path
abbrev pub path_or_call : ExprWithin → Bool → Tokens → Read Expr
path_or_call within no_struct ts = if begins_call ts then call_expr ts else path_expr within no_struct ts

-- ---- what begins an expression

-- an expression after its first token
abbrev pub marked : ExprWithin → Bool → ExprLead → Tokens → Read Expr
marked within no_struct lead.Underscore ts = Some ((expr.Underscore, 1), ts)
marked within no_struct lead.Paren ts = paren_expr within ts
marked within no_struct lead.Bracket ts = bracket_expr within ts
marked within no_struct lead.Continue ts = continue_expr ts
marked within no_struct lead.Break ts = break_expr within no_struct ts
marked within no_struct lead.Return ts = return_expr within no_struct ts
marked within no_struct _ ts = None
