-- Parsing expressions by precedence climbing. What begins an expression is parsed first, and then
-- the operators after it, from the highest level down to that of the place.
use Rattle.std.specs.Prelude.{ℕ, zero, suc, max, ◌==◌, nat_le, ◌&&◌, not, Bool, true, false, if◌then◌else◌, List, [], ◌∷◌, length, drop, codes, Option, Some, None, is_some}
use Rattle.std.specs.Str.{chars}
use Rattle.lay_piece.specs.Number.{is_index}
use Rattle.lay_piece.specs.declared.kind.Delim.TheVariants.{Paren, Bracket, Brace}
use Rattle.lay_token.specs.Operators.{is_op}
use Rattle.lay_token.specs.declared.token.Token.{Token}
use Rattle.lay_node.specs.Ahead.{Tokens, first, tail, is_keyword, is_lifetime, is_mark, opens, closes, opens_args_late, more_items}
use Rattle.lay_node.specs.Begins.{is_literal_token}
use Rattle.lay_node.specs.nodes.Attr.{is_empty}
use Rattle.lay_node.specs.reader.Attr.{attributes}
use Rattle.lay_node.specs.reader.Call.{call}
use Rattle.lay_node.specs.reader.Loops.{Got, Read, ◌>>=◌, passed, nodes, deepest, repeat, elements, open_elements}
use Rattle.lay_node.specs.reader.Patterns.{begins_field, index, is_int}
use Rattle.lay_node.specs.reader.Tokens.{tokens}
use Rattle.lay_node.specs.reader.Types.{angled, begins_call, if_read, if_there, lifetime, literal, one_arg, path, within}
use Rattle.lay_node.specs.reader.Words.{name}
use Rattle.lay_node.specs.declared.attr.Attr.{Attr}
use Rattle.lay_node.specs.declared.patterns.PatPlace.TheVariants.{Alternatives, Single}
use Rattle.lay_node.specs.declared.token.Lifetime.{Lifetime}
use Rattle.lay_node.specs.declared.token.Name.{Name}
use Rattle.lay_node.specs.declared.types.Arg.{Arg}
use Rattle.lay_node.specs.declared.types.Path.{Path}
use Rattle.lay_node.specs.declared.types.PathStyle.TheVariants.{Code}
use Rattle.lay_node.specs.declared.types.Ty.{Ty}
use Rattle.lay_node.specs.declared.types.TypePlace.TheVariants.{NoBounds, Bounds}
use Rattle.lay_code.specs.Operands.{ExprLead, ByLiteral, ByPath, ByUnderscore, ByParen, ByBracket, ByPrefix, ByRange, ByContinue, ByBreak, ByReturn, expr_lead_at, begins_operand, ByLabel, ByBrace, ByBlockWord, ByClosure}
use Rattle.lay_code.specs.Operators.{op_text, binary, prefix, prefix_length, is_angle, is_dot_or_try, begins_step, strength}
use Rattle.lay_code.specs.nodes.Code.{about_expr}
use Rattle.lay_code.specs.nodes.Bodies.{sheds}
use Rattle.lay_code.specs.nodes.Exprs.{ExprFacts, stands, root_follows}
use Rattle.lay_code.specs.nodes.Places.{plain, FREE, begins, is_whole, before_op}
use Rattle.lay_code.specs.reader.Blocks.{block_by, branch_by, arm_by, block_held, body_need}
use Rattle.lay_code.specs.reader.Conditions.{condition_by}
use Rattle.lay_code.specs.reader.Within.{ExprWithin}
use Rattle.lay_code.specs.declared.blocks.Block.{Block}
use Rattle.lay_code.specs.declared.blocks.Stmt.TheViews.{out-Expr}
use Rattle.lay_code.specs.declared.exprs.ClosureParam.{ClosureParam}
use Rattle.lay_code.specs.declared.exprs.Expr.{Expr}
use Rattle.lay_code.specs.declared.exprs.Expr.TheVariants as expr
use Rattle.lay_code.specs.declared.exprs.FieldExpr.{FieldExpr}
use Rattle.lay_code.specs.declared.exprs.FieldExpr.TheVariants as field
use Rattle.lay_code.specs.declared.exprs.Place.{Place}
use Rattle.lay_code.specs.declared.exprs.Step.{Step}
use Rattle.lay_code.specs.declared.exprs.Step.TheVariants as step
use Rattle.lay_code.specs.declared.operators.Op.{Op}
use Rattle.lay_code.specs.declared.operators.Prefix.{Prefix}

-- expressions within delimiters, up to what closes them
abbrev pub free_elements : ExprWithin → (Token → Bool) → Tokens → Read (List Expr)
free_elements within closes ts = do xs ← elements closes (within.exprs FREE) ts; Some ((nodes xs.0, deepest xs.0), xs.1)

-- ---- what begins with a path

abbrev pub named_field : ExprWithin → List Attr → Name → Tokens → Read FieldExpr
named_field within attrs n ts =
    if is_op (codes ":") ts then (do x ← within.exprs FREE (drop 1 ts); Some ((field.Named attrs n x.0.0, x.0.1), x.1))
    else Some ((field.Short attrs n, 0), ts)

abbrev pub field_by : ExprWithin → List Attr → Got (List ℕ) → Tokens → Read FieldExpr
field_by within attrs None ts = do n ← name ts; named_field within attrs n.0 n.1
field_by within attrs (Some i) ts = do x ← within.exprs FREE i.1; Some ((field.Numbered attrs i.0 x.0.0, x.0.1), x.1)

unfoldable pub one_field : ExprWithin → Tokens → Read FieldExpr
one_field within ts = do attrs ← attributes false ts; field_by within attrs.0 (index attrs.1) attrs.1

-- the base of a struct literal, after its `..`
abbrev pub base_by : ExprWithin → Tokens → Read (Option (Option Expr))
base_by within ts =
    if first (closes Brace) ts then Some ((Some None, 0), ts)
    else (do x ← within.exprs FREE ts; Some ((Some (Some x.0.0), x.0.1), x.1))

-- The base of a struct literal, if it has one. The flag says that the fields have ended.
unfoldable pub base : ExprWithin → Bool → Tokens → Read (Option (Option Expr))
base within ended ts = if ended && is_op (codes "..") ts then base_by within (drop 2 ts) else Some ((None, 0), ts)

-- what follows a path and a `{`
unfoldable pub struct_expr : ExprWithin → Path × ℕ → Tokens → Read Expr
struct_expr within p ts = do
  fs ← open_elements begins_field (one_field within) ts
  b ← base within fs.0.1 fs.1
  rest ← passed (closes Brace) b.1
  Some ((expr.Struct p.0 (nodes fs.0.0) b.0.0, suc (max p.1 (max (deepest fs.0.0) b.0.1))), rest)

-- what follows a path
abbrev pub path_by : ExprWithin → Bool → Path × ℕ → Tokens → Read Expr
path_by within no_struct p ts =
    if not no_struct && first (opens Brace) ts then struct_expr within p (tail ts)
    else (if is_op (codes "!") ts then None else Some ((expr.Path p.0, suc p.1), ts))

unfoldable pub path_expr : ExprWithin → Bool → Tokens → Read Expr
path_expr within no_struct ts = do p ← path within.kinds Code ts; path_by within no_struct p.0 p.1

abbrev pub call_expr : Tokens → Read Expr
call_expr ts = do c ← call ts; Some ((expr.Call c.0, 1), c.1)

-- ---- in delimiters

-- what follows a `(` and an expression
abbrev pub paren_by : ExprWithin → Expr × ℕ → Tokens → Read Expr
paren_by within x ts =
    if first (closes Paren) ts then Some ((expr.Paren x.0, suc x.1), tail ts)
    else (do
      behind ← passed (is_mark (codes ",")) ts
      more ← free_elements within (closes Paren) behind
      Some ((expr.Tuple (x.0 ∷ more.0.0), suc (max x.1 more.0.1)), more.1))

-- what follows a `(`
unfoldable pub paren_expr : ExprWithin → Tokens → Read Expr
paren_expr within ts =
    if first (closes Paren) ts then Some ((expr.Tuple [], 1), tail ts)
    else (do x ← within.exprs FREE ts; paren_by within x.0 x.1)

abbrev pub repeat_by : Expr × ℕ → Tokens → Read Expr
repeat_by x ts = do
  us ← tokens ts
  rest ← passed (closes Bracket) us.1
  if is_empty us.0 then None else Some ((expr.Repeat x.0 us.0, suc x.1), rest)

-- what follows a `[` and an expression
abbrev pub bracket_by : ExprWithin → Expr × ℕ → Tokens → Read Expr
bracket_by within x ts =
    if first (is_mark (codes ";")) ts then repeat_by x (tail ts)
    else (if first (closes Bracket) ts then Some ((expr.Array (x.0 ∷ []), suc x.1), tail ts)
    else (do
      behind ← passed (is_mark (codes ",")) ts
      more ← free_elements within (closes Bracket) behind
      Some ((expr.Array (x.0 ∷ more.0.0), suc (max x.1 more.0.1)), more.1)))

-- what follows a `[`
unfoldable pub bracket_expr : ExprWithin → Tokens → Read Expr
bracket_expr within ts =
    if first (closes Bracket) ts then Some ((expr.Array [], 1), tail ts)
    else (do x ← within.exprs FREE ts; bracket_by within x.0 x.1)

-- ---- after a word or an operator

-- an operand of this level, if the tokens begin one
abbrev pub operand_if : ExprWithin → ℕ → Bool → Tokens → Read (Option Expr)
operand_if within level no_struct ts = if_read (begins_operand no_struct ts) (within.exprs (plain level no_struct)) ts

-- what follows `continue`
unfoldable pub continue_expr : Tokens → Read Expr
continue_expr ts = do l ← if_there (first is_lifetime ts) lifetime ts; Some ((expr.Continue l.0, 1), l.1)

-- what follows `return`
unfoldable pub return_expr : ExprWithin → Bool → Tokens → Read Expr
return_expr within no_struct ts = do x ← operand_if within 0 no_struct ts; Some ((expr.Return x.0.0, suc x.0.1), x.1)

-- what follows `break`
unfoldable pub break_expr : ExprWithin → Bool → Tokens → Read Expr
break_expr within no_struct ts = do
  l ← if_there (first is_lifetime ts) lifetime ts
  x ← operand_if within 0 no_struct l.1
  Some ((expr.Break l.0 x.0.0, suc x.0.1), x.1)

abbrev pub one_prefix : Tokens → Got Prefix
one_prefix ts = do p ← prefix ts; Some (p, drop (prefix_length p) ts)

unfoldable pub unary_expr : ExprWithin → Bool → Tokens → Read Expr
unary_expr within no_struct ts = do
  ps ← repeat (λ us. is_some (prefix us)) one_prefix ts
  x ← within.exprs (plain 12 no_struct) ps.1
  Some ((expr.Unary ps.0 x.0.0, suc x.0.1), x.1)

-- A range after its operator. Its start needs this depth.
abbrev pub range_by : ExprWithin → Bool → Option Expr → ℕ → Bool → Tokens → Read Expr
range_by within no_struct start need inclusive ts = do
  x ← operand_if within 2 no_struct ts
  if inclusive && not (is_some x.0.0) then None else Some ((expr.Range start inclusive x.0.0, suc (max need x.0.1)), x.1)

unfoldable pub range_expr : ExprWithin → Bool → Option Expr → ℕ → Tokens → Read Expr
range_expr within no_struct start need ts =
    if is_op (codes "..=") ts then range_by within no_struct start need true (drop 3 ts)
    else range_by within no_struct start need false (drop 2 ts)

-- ---- with blocks

abbrev pub block_expr : ExprWithin → (Block → Expr) → Tokens → Read Expr
block_expr within make ts = do b ← block_by within ts; Some ((make b.0.0, suc b.0.1), b.1)

-- what follows `async`
abbrev pub async_expr : ExprWithin → Tokens → Read Expr
async_expr within ts =
    if first (is_keyword (codes "move")) ts then block_expr within (λ b. expr.Async true b) (tail ts)
    else block_expr within (λ b. expr.Async false b) ts

abbrev pub begins_else_if : Tokens → Bool
begins_else_if ts = first (is_keyword (codes "else")) ts && first (is_keyword (codes "if")) (tail ts)

-- what follows an `if`
unfoldable pub if_expr : ExprWithin → Tokens → Read Expr
if_expr within ts = do
  b ← branch_by within ts
  more ← repeat begins_else_if (λ us. branch_by within (drop 2 us)) b.1
  o ← if_read (first (is_keyword (codes "else")) more.1) (λ us. block_by within (tail us)) more.1
  Some ((expr.If (b.0.0 ∷ nodes more.0) o.0.0, suc (max b.0.1 (max (deepest more.0) o.0.1))), o.1)

-- what follows `match`
unfoldable pub match_expr : ExprWithin → Tokens → Read Expr
match_expr within ts = do
  x ← within.exprs (plain 0 true) ts
  inside ← passed (opens Brace) x.1
  attrs ← attributes true inside
  arms ← repeat more_items (arm_by within) attrs.1
  rest ← passed (closes Brace) arms.1
  Some ((expr.Match x.0.0 attrs.0 (nodes arms.0), suc (max x.0.1 (deepest arms.0))), rest)

-- what follows `while`
unfoldable pub while_expr : ExprWithin → Option Lifetime → Tokens → Read Expr
while_expr within label ts = do
  c ← condition_by within ts
  b ← block_by within c.1
  Some ((expr.While label c.0.0 b.0.0, suc (max c.0.1 b.0.1)), b.1)

-- what follows `for`
unfoldable pub for_expr : ExprWithin → Option Lifetime → Tokens → Read Expr
for_expr within label ts = do
  p ← within.pats Alternatives ts
  behind ← passed (is_keyword (codes "in")) p.1
  x ← within.exprs (plain 0 true) behind
  b ← block_by within x.1
  Some ((expr.For label p.0.0 x.0.0 b.0.0, suc (max p.0.1 (max x.0.1 b.0.1))), b.1)

-- a block or a loop, after its label if it has one
abbrev pub labelled_expr : ExprWithin → Option Lifetime → Tokens → Read Expr
labelled_expr within label ts =
    if first (opens Brace) ts then block_expr within (expr.Block label) ts
    else (if first (is_keyword (codes "loop")) ts then block_expr within (expr.Loop label) (tail ts)
    else (if first (is_keyword (codes "while")) ts then while_expr within label (tail ts)
    else (do behind ← passed (is_keyword (codes "for")) ts; for_expr within label behind)))

unfoldable pub label_expr : ExprWithin → Tokens → Read Expr
label_expr within ts = do
  l ← lifetime ts
  if is_op (codes ":") l.1 then labelled_expr within (Some l.0) (drop 1 l.1) else None

unfoldable pub block_word_expr : ExprWithin → Tokens → Read Expr
block_word_expr within ts =
    if first (is_keyword (codes "unsafe")) ts then block_expr within expr.Unsafe (tail ts)
    else (if first (is_keyword (codes "const")) ts then block_expr within expr.ConstBlock (tail ts)
    else (if first (is_keyword (codes "async")) ts then async_expr within (tail ts)
    else (if first (is_keyword (codes "if")) ts then if_expr within (tail ts)
    else (if first (is_keyword (codes "match")) ts then match_expr within (tail ts) else labelled_expr within None ts))))

-- ---- closures

unfoldable pub closure_param : ExprWithin → Tokens → Read ClosureParam
closure_param within ts = do
  attrs ← attributes false ts
  p ← within.pats Single attrs.1
  t ← if_read (is_op (codes ":") p.1) (λ us. within.kinds.types Bounds (drop 1 us)) p.1
  Some ((record { attrs = attrs.0; pat = p.0.0; ty = t.0.0 }, max p.0.1 t.0.1), t.1)

-- The body of a closure without the braces that aren't in the tree. Each turn takes off one pair. A
-- pair stays if the expression within can't stand in the body's place.
unfoldable pub shed : Bool → ℕ → Expr → Expr
shed no_struct zero x = x
shed no_struct (suc turns) x = if sheds (about_expr x).kind no_struct then block_held (shed no_struct turns) x (out-Expr x) else x

-- a closure after its parameters
abbrev pub closure_body : ExprWithin → Bool → Bool → Bool → List ClosureParam → ℕ → Tokens → Read Expr
closure_body within no_struct is_async moves params need ts =
    if is_op (codes "->") ts
    then (do
      t ← within.kinds.types NoBounds (drop 2 ts)
      b ← block_by within t.1
      Some ((expr.TypedClosure is_async moves params t.0.0 b.0.0, suc (max need (max t.0.1 b.0.1))), b.1))
    else (do
      x ← within.exprs (plain 0 no_struct) ts
      let deep = body_need (sheds (about_expr x.0.0).kind no_struct) x.0.1
      Some ((expr.Closure is_async moves params (shed no_struct (length ts) x.0.0), suc (max need deep)), x.1))

-- a closure, after its `async` if it has one
abbrev pub closure_behind : ExprWithin → Bool → Bool → Tokens → Read Expr
closure_behind within no_struct is_async ts = do
  let moves = first (is_keyword (codes "move")) ts
  behind ← passed (is_mark (codes "|")) (if moves then tail ts else ts)
  ps ← elements (is_mark (codes "|")) (closure_param within) behind
  closure_body within no_struct is_async moves (nodes ps.0) (deepest ps.0) ps.1

unfoldable pub closure_expr : ExprWithin → Bool → Tokens → Read Expr
closure_expr within no_struct ts =
    let is_async = first (is_keyword (codes "async")) ts in closure_behind within no_struct is_async (if is_async then tail ts else ts)

-- ---- what begins an expression

abbrev pub literal_expr : Tokens → Read Expr
literal_expr ts = do l ← literal is_literal_token ts; Some ((expr.Lit l.0, 1), l.1)

abbrev pub head_by : ExprWithin → Bool → Option ExprLead → Tokens → Read Expr
head_by within no_struct (Some ByLiteral) ts = literal_expr ts
head_by within no_struct (Some ByPath) ts = if begins_call ts then call_expr ts else path_expr within no_struct ts
head_by within no_struct (Some ByUnderscore) ts = Some ((expr.Underscore, 1), tail ts)
head_by within no_struct (Some ByParen) ts = paren_expr within (tail ts)
head_by within no_struct (Some ByBracket) ts = bracket_expr within (tail ts)
head_by within no_struct (Some ByPrefix) ts = unary_expr within no_struct ts
head_by within no_struct (Some ByRange) ts = range_expr within no_struct None 0 ts
head_by within no_struct (Some ByContinue) ts = continue_expr (tail ts)
head_by within no_struct (Some ByBreak) ts = break_expr within no_struct (tail ts)
head_by within no_struct (Some ByReturn) ts = return_expr within no_struct (tail ts)
head_by within no_struct (Some ByLabel) ts = label_expr within ts
head_by within no_struct (Some ByBrace) ts = labelled_expr within None ts
head_by within no_struct (Some ByBlockWord) ts = block_word_expr within ts
head_by within no_struct (Some ByClosure) ts = closure_expr within no_struct ts
head_by within no_struct None ts = None

-- ---- steps

-- a method call after its name and its generic arguments, if it has those
abbrev pub method_by : ExprWithin → Name → Option (List Arg) → ℕ → Tokens → Read Step
method_by within n generics need ts = do
  behind ← passed (opens Paren) ts
  xs ← free_elements within (closes Paren) behind
  Some ((step.Method n generics xs.0.0, max need xs.0.1), xs.1)

abbrev pub generics_by : ExprWithin → Name → Tokens → Read Step
generics_by within n ts = do
  args ← angled (one_arg within.kinds) ts
  method_by within n (Some (nodes args.0)) (deepest args.0) args.1

-- a method call or a field, after the `.` and its name
abbrev pub member_by : ExprWithin → Name → Tokens → Read Step
member_by within n ts =
    if first (opens Paren) ts then method_by within n None 0 ts
    else (if opens_args_late ts then generics_by within n (drop 2 ts)
    else (if is_op (codes "::") ts then None else Some ((step.Field n, 0), ts)))

abbrev pub is_index_token : Token → Bool
is_index_token t = is_int t.kind && is_index (chars t.text)

-- what follows a `.`
unfoldable pub dot_step : ExprWithin → Tokens → Read Step
dot_step within ts =
    if first (is_keyword (codes "await")) ts then Some ((step.Await, 0), tail ts)
    else (if first is_index_token ts then (do i ← literal is_index_token ts; Some ((step.TupleIndex (i.0).text, 0), i.1))
    else (do n ← name ts; member_by within n.0 n.1))

-- what follows a `(`
abbrev pub call_step : ExprWithin → Tokens → Read Step
call_step within ts = do xs ← free_elements within (closes Paren) ts; Some ((step.Apply xs.0.0, xs.0.1), xs.1)

-- what follows a `[`
abbrev pub index_step : ExprWithin → Tokens → Read Step
index_step within ts = do
  x ← within.exprs FREE ts
  rest ← passed (closes Bracket) x.1
  Some ((step.Index x.0.0, x.0.1), rest)

unfoldable pub one_step : ExprWithin → Tokens → Read Step
one_step within ts =
    if is_op (codes ".") ts then dot_step within (drop 1 ts)
    else (if is_op (codes "?") ts then Some ((step.Try, 0), drop 1 ts)
    else (if first (opens Paren) ts then call_step within (tail ts)
    else (do behind ← passed (opens Bracket) ts; index_step within behind)))

-- The tokens begin a tuple index. It may not stand directly after a number without a suffix.
abbrev pub begins_tuple_index : Tokens → Bool
begins_tuple_index ts = is_op (codes ".") ts && first is_index_token (drop 1 ts)

unfoldable pub postfix_expr : ExprWithin → Expr × ℕ → Tokens → Read Expr
postfix_expr within lhs ts =
    if (about_expr lhs.0).is_number && begins_tuple_index ts then None
    else (do
      steps ← repeat begins_step (one_step within) ts
      Some ((expr.Postfix lhs.0 (nodes steps.0), suc (max lhs.1 (deepest steps.0))), steps.1))

-- ---- operators after an operand

-- If an operator of the same level follows, the operand may stand before it, and the level isn't 4,
-- whose operators don't chain.
abbrev pub operand_ends : ℕ → Bool → ExprFacts → Tokens → Bool
operand_ends level no_struct x ts =
    if strength ts == suc level then not (level == 4) && stands x (before_op (suc level) no_struct false (is_angle ts)) else true

-- an operator of this level and the operand after it
unfoldable pub operand : ExprWithin → ℕ → Bool → Tokens → Read (Op × Expr)
operand within level no_struct ts = do
  o ← binary ts
  x ← within.exprs (plain (suc level) no_struct) (drop (length (op_text o)) ts)
  if operand_ends level no_struct (about_expr x.0.0) x.1 then Some (((o, x.0.0), x.0.1), x.1) else None

unfoldable pub operands : ExprWithin → ℕ → Bool → Tokens → Got (List ((Op × Expr) × ℕ))
operands within level no_struct ts = repeat (λ us. strength us == suc level) (operand within level no_struct) ts

unfoldable pub chain_expr : ExprWithin → ℕ → Bool → Expr × ℕ → Tokens → Read Expr
chain_expr within level no_struct lhs ts = do
  more ← operands within level no_struct ts
  Some ((expr.Chain lhs.0 (nodes more.0), suc (max lhs.1 (deepest more.0))), more.1)

-- the targets of an assignment, out of operands and the operators between them
abbrev pub targets_of : Expr → List (Op × Expr) → List (Expr × Op)
targets_of x [] = []
targets_of x (y ∷ more) = (x, y.0) ∷ targets_of y.1 more

abbrev pub value_of : Expr → List (Op × Expr) → Expr
value_of x [] = x
value_of x (y ∷ more) = value_of y.1 more

unfoldable pub assign_expr : ExprWithin → Bool → Expr × ℕ → Tokens → Read Expr
assign_expr within no_struct lhs ts = do
  more ← operands within 0 no_struct ts
  Some ((expr.Assign (targets_of lhs.0 (nodes more.0)) (value_of lhs.0 (nodes more.0)), suc (max lhs.1 (deepest more.0))), more.1)

unfoldable pub one_type : ExprWithin → Tokens → Read Ty
one_type within ts = do behind ← passed (is_keyword (codes "as")) ts; within.kinds.types NoBounds behind

unfoldable pub cast_expr : ExprWithin → Expr × ℕ → Tokens → Read Expr
cast_expr within lhs ts = do
  types ← repeat (first (is_keyword (codes "as"))) (one_type within) ts
  Some ((expr.Cast lhs.0 (nodes types.0), suc (max lhs.1 (deepest types.0))), types.1)

-- the expression that an operator of this level makes of the expression before it
abbrev pub stage : ExprWithin → ℕ → Bool → Expr × ℕ → Tokens → Read Expr
stage within zero no_struct lhs ts = assign_expr within no_struct lhs ts
stage within (suc zero) no_struct lhs ts = range_expr within no_struct (Some lhs.0) lhs.1 ts
stage within (suc (suc level)) no_struct lhs ts =
    if suc (suc level) == 11 then cast_expr within lhs ts
    else (if suc (suc level) == 13 then postfix_expr within lhs ts else chain_expr within (suc (suc level)) no_struct lhs ts)

-- the place of the expression before an operator of this level
abbrev pub left_place : Place → ℕ → Tokens → Place
left_place place level ts =
    before_op (suc level) place.no_struct (begins place.start && not (level == 13 && is_dot_or_try ts)) (is_angle ts)

-- The operators that are below the first level and that the place allows, from the highest level
-- down.
unfoldable pub climb : ExprWithin → Place → ℕ → Expr × ℕ → Tokens → Read Expr
climb within place zero lhs ts = Some (lhs, ts)
climb within place (suc level) lhs ts =
    if nat_le place.level level && strength ts == suc level then
    (if stands (about_expr lhs.0) (left_place place level ts) then
    (do x ← stage within level place.no_struct lhs ts; climb within place level x.0 x.1)
    else None)
    else climb within place level lhs ts

-- At the start of a statement only `.` and `?` go on with an expression that ends the statement.
abbrev pub is_ended : Place → ExprFacts → Tokens → Bool
is_ended place x ts = is_whole place.start && x.block_like && not (is_dot_or_try ts)

abbrev pub climb_by : ExprWithin → Place → Expr × ℕ → Tokens → Read Expr
climb_by within place h ts = if is_ended place (about_expr h.0) ts then Some (h, ts) else climb within place 14 h ts

abbrev pub accepted : ℕ → Place → Expr × ℕ → Tokens → Read Expr
accepted budget place x ts =
    if stands (about_expr x.0) place && root_follows (about_expr x.0) place ts && nat_le x.1 budget then Some (x, ts) else None

unfoldable pub expr_by : ExprWithin → ℕ → Place → Tokens → Read Expr
expr_by within budget place ts = do
  h ← head_by within place.no_struct (expr_lead_at ts) ts
  x ← climb_by within place h.0 h.1
  accepted budget place x.0 x.1
