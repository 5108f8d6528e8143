-- Parsing blocks, statements and the arms of a match, given the functions that parse one level
-- deeper.
use Rattle.std.specs.Prelude.{ℕ, zero, suc, max, not, ◌&&◌, ◌||◌, Bool, true, false, if◌then◌else◌, List, [], ◌∷◌, length, drop, codes, Option, Some, None, is_some}
use Rattle.std.specs.List.{list_any}
use Rattle.lay_token.specs.Operators.{is_op}
use Rattle.lay_piece.specs.declared.kind.Delim.TheVariants.{Brace}
use Rattle.lay_node.specs.Ahead.{Tokens, first, tail, is_keyword, is_mark, opens, closes, more_items}
use Rattle.lay_node.specs.reader.Attr.{attributes}
use Rattle.lay_node.specs.reader.Heads.{semicolon}
use Rattle.lay_node.specs.reader.Loops.{Read, ◌>>=◌, passed, nodes, deepest, repeat}
use Rattle.lay_node.specs.reader.Types.{if_read}
use Rattle.lay_node.specs.declared.attr.Attr.{Attr}
use Rattle.lay_node.specs.declared.heads.Site.TheVariants.{Module}
use Rattle.lay_node.specs.declared.patterns.PatPlace.TheVariants.{Alternatives, Single}
use Rattle.lay_node.specs.declared.types.TypePlace.TheVariants.{Bounds}
use Rattle.lay_code.specs.nodes.Blocks.{is_free, precedes_else}
use Rattle.lay_code.specs.nodes.Bodies.{is_lone_body}
use Rattle.lay_code.specs.nodes.Code.{about_expr, about_stmt, told_of_item}
use Rattle.lay_code.specs.nodes.Layers.{ExprNode, StmtNode}
use Rattle.lay_code.specs.nodes.Places.{FREE, statement}
use Rattle.lay_code.specs.reader.Conditions.{condition_by}
use Rattle.lay_code.specs.reader.ItemLeads.{begins_rules, begins_union}
use Rattle.lay_code.specs.reader.Within.{ExprWithin}
use Rattle.lay_code.specs.declared.blocks.Arm.{Arm}
use Rattle.lay_code.specs.declared.blocks.Block.{Block}
use Rattle.lay_code.specs.declared.blocks.Branch.{Branch}
use Rattle.lay_code.specs.declared.blocks.Stmt.{Stmt}
use Rattle.lay_code.specs.declared.blocks.Stmt.TheOpen.{Expr-F, Stmt-F}
use Rattle.lay_code.specs.declared.blocks.Stmt.TheVariants as stmt
use Rattle.lay_code.specs.declared.blocks.Stmt.TheViews.{out-Expr, out-Stmt}
use Rattle.lay_code.specs.declared.exprs.Expr.{Expr}

-- ---- statements

-- the tokens after any number of `;`
abbrev pub behind_semicolons : Tokens → Tokens
behind_semicolons [] = []
behind_semicolons (t ∷ ts) = if is_mark (codes ";") t then behind_semicolons ts else t ∷ ts

-- words that begin an item wherever they stand
abbrev pub item_words : List (List ℕ)
item_words =
    codes "pub" ∷ codes "use" ∷ codes "mod" ∷ codes "struct" ∷ codes "enum" ∷ codes "type" ∷ codes "trait" ∷ codes "impl" ∷ codes "fn"
    ∷ codes "static" ∷ codes "extern" ∷ []

abbrev pub begins_with : List (List ℕ) → Tokens → Bool
begins_with words ts = list_any (λ word. first (is_keyword word) ts) words

-- What begins an item: one of these words, or `const` or `unsafe` without a `{` after it, or
-- `async` before the words of a function.
abbrev pub begins_item : Tokens → Bool
begins_item ts =
    begins_with item_words ts || (begins_with (codes "const" ∷ codes "unsafe" ∷ []) ts && not (first (opens Brace) (tail ts)))
    || (first (is_keyword (codes "async")) ts && begins_with (codes "fn" ∷ codes "unsafe" ∷ codes "extern" ∷ []) (tail ts))
    || begins_union ts || begins_rules ts

-- An item that is no macro call. As a statement a macro call is an expression.
abbrev pub item_stmt : ExprWithin → Tokens → Read Stmt
item_stmt within ts = do
  i ← within.items Module ts
  if (told_of_item i.0.0).call then None else Some ((stmt.Item i.0.0, i.0.1), i.1)

abbrev pub else_stands : Option Expr → Bool → Bool
else_stands x false = true
else_stands None true = false
else_stands (Some x) true = precedes_else (Some (about_expr x))

-- what follows `let`
unfoldable pub let_stmt : ExprWithin → List Attr → Tokens → Read Stmt
let_stmt within attrs ts = do
  p ← within.pats Single ts
  t ← if_read (is_op (codes ":") p.1) (λ us. within.kinds.types Bounds (drop 1 us)) p.1
  x ← if_read (is_op (codes "=") t.1) (λ us. within.exprs FREE (drop 1 us)) t.1
  b ← if_read (first (is_keyword (codes "else")) x.1) (λ us. within.blocks (tail us)) x.1
  rest ← semicolon b.1
  if else_stands x.0.0 (is_some b.0.0)
      then Some ((stmt.Let attrs p.0.0 t.0.0 x.0.0 b.0.0, max p.0.1 (max t.0.1 (max x.0.1 b.0.1))), rest)
      else None

-- an expression, and its `;` if it has one
unfoldable pub expr_stmt : ExprWithin → List Attr → Tokens → Read Stmt
expr_stmt within attrs ts = do
  x ← within.exprs statement ts
  if first (is_mark (codes ";")) x.1 then Some ((stmt.Expr attrs x.0.0 true, x.0.1), tail x.1) else Some ((stmt.Expr attrs x.0.0 false, x.0.1), x.1)

abbrev pub stmt_behind : ExprWithin → List Attr → Tokens → Tokens → Read Stmt
stmt_behind within attrs begun ts =
    if first (is_keyword (codes "let")) ts then let_stmt within attrs (tail ts)
    else (if begins_item ts then item_stmt within begun else expr_stmt within attrs ts)

unfoldable pub stmt_by : ExprWithin → Tokens → Read Stmt
stmt_by within ts = do attrs ← attributes false ts; stmt_behind within attrs.0 ts attrs.1

-- A statement of a block and each `;` after it. A statement that doesn't end by itself is the last
-- one.
abbrev pub stmt_in_block : ExprWithin → Tokens → Read Stmt
stmt_in_block within ts = do
  s ← stmt_by within ts
  if (about_stmt s.0.0).ends || first (closes Brace) s.1 then Some (s.0, behind_semicolons s.1) else None

-- ---- blocks

unfoldable pub block_by : ExprWithin → Tokens → Read Block
block_by within ts = do
  inside ← passed (opens Brace) ts
  attrs ← attributes true inside
  stmts ← repeat more_items (stmt_in_block within) (behind_semicolons attrs.1)
  rest ← passed (closes Brace) stmts.1
  Some ((record { attrs = attrs.0; stmts = nodes stmts.0 }, deepest stmts.0), rest)

-- ---- branches

-- what follows an `if`
unfoldable pub branch_by : ExprWithin → Tokens → Read Branch
branch_by within ts = do
  c ← condition_by within ts
  b ← block_by within c.1
  Some ((record { condition = c.0.0; body = b.0.0 }, max c.0.1 b.0.1), b.1)

-- ---- arms

abbrev pub bare_by : (Expr → Expr) → Expr → StmtNode → Expr
bare_by undress x (Stmt-F.Stmt::Expr attrs y ended) = undress y
bare_by undress x _ = x

abbrev pub held_by : (Expr → Expr) → Expr → List Stmt → Expr
held_by undress x (s ∷ []) = bare_by undress x (out-Stmt s)
held_by undress x _ = x

abbrev pub block_held : (Expr → Expr) → Expr → ExprNode → Expr
block_held undress x (Expr-F.Block label b) = held_by undress x b.stmts
block_held undress x _ = x

-- The body of an arm without the braces that aren't in the tree. Each turn takes off one pair.
unfoldable pub undressed : ℕ → Expr → Expr
undressed zero x = x
undressed (suc turns) x = if is_lone_body (about_expr x).kind then block_held (undressed turns) x (out-Expr x) else x

-- The depth that a body needs, by what the expression needs as it was parsed. Braces that are
-- dropped are a level already. Where none are dropped, one level is added.
abbrev pub body_need : Bool → ℕ → ℕ
body_need true need = need
body_need false need = suc need

-- The tokens after the comma of an arm. The comma may be missing at the end of the match, and where
-- the flag says so.
abbrev pub arm_end : Bool → Tokens → Option Tokens
arm_end free ts = if first (is_mark (codes ",")) ts then Some (tail ts) else (if free || first (closes Brace) ts then Some ts else None)

-- what follows an `=>`
abbrev pub arm_body : ExprWithin → Tokens → Read Expr
arm_body within ts = do
  x ← within.exprs statement ts
  rest ← arm_end (is_free (about_expr x.0.0)) x.1
  Some ((undressed (length ts) x.0.0, body_need (is_lone_body (about_expr x.0.0).kind) x.0.1), rest)

unfoldable pub arm_by : ExprWithin → Tokens → Read Arm
arm_by within ts = do
  attrs ← attributes false ts
  p ← within.pats Alternatives attrs.1
  g ← if_read (first (is_keyword (codes "if")) p.1) (λ us. within.exprs FREE (tail us)) p.1
  x ← (if is_op (codes "=>") g.1 then arm_body within (drop 2 g.1) else None)
  Some ((record { attrs = attrs.0; pat = p.0.0; guard = g.0.0; body = x.0.0 }, max p.0.1 (max g.0.1 x.0.1)), x.1)
