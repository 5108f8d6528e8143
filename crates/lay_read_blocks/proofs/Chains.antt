-- What a rule gives, from what each of its steps gives.
use Rattle.std.proofs.Common.{◌≡◌, ◌≤◌, ℕ, suc, Bool, true, false, List, length, drop, codes, Option, Some, None, is_some, Result, Ok, Err, IfOk, refl, ap, ◌∙◌, if◌then◌else◌, arith}
use Rattle.std.specs.Prelude.{max}
use Rattle.lay_token.specs.Operators.{is_op}
use Rattle.lay_piece.specs.declared.kind.Delim.TheVariants.{Brace}
use Rattle.lay_node.specs.Ahead.{Tokens, first, tail, is_keyword, is_mark, opens, closes, more_items}
use Rattle.lay_node.specs.reader.Attr.{attributes}
use Rattle.lay_node.specs.reader.Heads.{semicolon}
use Rattle.lay_node.specs.reader.Loops.{Read, ◌>>=◌, nodes, deepest, elements, repeat}
use Rattle.lay_node.specs.reader.Types.{if_read}
use Rattle.lay_node.specs.declared.attr.Attr.{Attr}
use Rattle.lay_node.specs.declared.patterns.Pat.{Pat}
use Rattle.lay_node.specs.declared.patterns.PatPlace.TheVariants.{Single}
use Rattle.lay_node.specs.declared.types.Ty.{Ty}
use Rattle.lay_node.specs.declared.types.TypePlace.TheVariants.{Bounds}
use Rattle.lay_code.specs.nodes.Bodies.{sheds}
use Rattle.lay_code.specs.nodes.Code.{about_expr}
use Rattle.lay_code.specs.nodes.Places.{FREE, plain}
use Rattle.lay_code.specs.reader.Blocks.{behind_semicolons, block_by, body_need, else_stands, let_stmt, stmt_in_block}
use Rattle.lay_code.specs.reader.Exprs.{closure_body, closure_expr, closure_param, shed}
use Rattle.lay_code.specs.reader.Within.{ExprWithin}
use Rattle.lay_code.specs.declared.blocks.Block.{Block}
use Rattle.lay_code.specs.declared.blocks.Stmt.{Stmt}
use Rattle.lay_code.specs.declared.blocks.Stmt.TheVariants as stmt
use Rattle.lay_code.specs.declared.exprs.ClosureParam.{ClosureParam}
use Rattle.lay_code.specs.declared.exprs.Expr.{Expr}
use Rattle.lay_code.specs.declared.exprs.Expr.TheVariants as expr
use Rattle.lay_read_tokens.specs.Answers.{IsFound}
use Rattle.lay_read_tokens.specs.declared.found.Found.{Found}
use Rattle.lay_read_tokens.specs.declared.stop.ReadNone.{ReadNone}
use Rattle.lay_read_tokens.specs.declared.stop.ReadNone.TheVariants.{NoReading, NoMemory}
use Rattle.lay_read_blocks.specs.Answers.{let_behind, let_head, let_of}

-- What is read step by step, and then goes on, goes on in each step.
pub step : {A B C : Type 0} (o : Option A) (f : A → Option C) (g : A → Option B) (h : B → Option C) → ((x : A) → f x ≡ (g x >>= h))
    → (o >>= f) ≡ ((o >>= g) >>= h)
step None f g h e = refl
step (Some x) f g h e = e x

-- What is put together needs no more than its parts.
pub let_in : (attrs : List Attr) (head : Found (Pat × Option Ty)) (r : Result (Found (Option Expr × Option Block)) ReadNone) (depth : ℕ)
    → head.need ≤ depth → IfOk r (λ found. found.need ≤ depth) → IfOk (let_of attrs head r) (λ found. found.need ≤ depth)
let_in attrs head (Ok behind) depth le less = omega (arith, le, less)
let_in attrs head (Err none) depth le less = tt

module _ (within : ExprWithin) (ts : Tokens) where
  -- ---- `let`: what stands up to its type, and then what follows that

  abbrev let_made : List Attr → (Pat × Option Ty) × ℕ → ((Option Expr × Option Block) × ℕ) × Tokens → Read Stmt
  let_made attrs h b = Some ((stmt.Let attrs h.0.0 h.0.1 b.0.0.0 b.0.0.1, max h.1 b.0.1), b.1)

  abbrev let_further : List Attr → ((Pat × Option Ty) × ℕ) × Tokens → Read Stmt
  let_further attrs h = let_behind within h.1 >>= let_made attrs h.0

  let_ended : (attrs : List Attr) (p : Pat × ℕ) (t : Option Ty × ℕ) (x : Option Expr × ℕ) (b : Option Block × ℕ) (stands : Bool) (o : Option Tokens)
      → (o >>= (λ rest. let s : Read Stmt = if stands then Some ((stmt.Let attrs p.0 t.0 x.0 b.0, max p.1 (max t.1 (max x.1 b.1))), rest) else None in s))
      ≡ ((o >>= (λ rest. let y : Read (Option Expr × Option Block) = if stands then Some (((x.0, b.0), max x.1 b.1), rest) else None in y))
      >>= let_made attrs ((p.0, t.0), max p.1 t.1))
  let_ended attrs p t x b stands None = refl
  let_ended attrs p t x b true (Some rest) =
      let same : max p.1 (max t.1 (max x.1 b.1)) ≡ max (max p.1 t.1) (max x.1 b.1) = omega arith in rw same refl
  let_ended attrs p t x b false (Some rest) = refl

  let_is : (attrs : List Attr) → let_stmt within attrs ts ≡ (let_head within ts >>= let_further attrs)
  unfolding let_stmt
  let_is attrs = step (within.pats Single ts) _ _ (let_further attrs)
      (λ p. step (if_read (is_op (codes ":") p.1) (λ us. within.kinds.types Bounds (drop 1 us)) p.1) _ _ (let_further attrs)
      (λ t. step (if_read (is_op (codes "=") t.1) (λ us. within.exprs FREE (drop 1 us)) t.1) _ _ (let_made attrs ((p.0.0, t.0.0), max p.0.1 t.0.1))
      (λ x. step (if_read (first (is_keyword (codes "else")) x.1) (λ us. within.blocks (tail us)) x.1) _ _
      (let_made attrs ((p.0.0, t.0.0), max p.0.1 t.0.1))
      (λ b. let_ended attrs p.0 t.0 x.0 b.0 (else_stands x.0.0 (is_some b.0.0)) (semicolon b.1)))))

  pub let_none : (attrs : List Attr) → let_head within ts ≡ None → let_stmt within attrs ts ≡ None
  let_none attrs h = let_is attrs ∙ ap (λ y. y >>= let_further attrs) h

  pub let_read : (attrs : List Attr) (head : Found (Pat × Option Ty)) (mid : Tokens) (r : Result (Found (Option Expr × Option Block)) ReadNone)
      (left : Tokens) → let_head within ts ≡ Some ((head.node, head.need), mid) → IsFound (let_behind within mid) r left
      → IsFound (let_stmt within attrs ts) (let_of attrs head r) left
  let_read attrs head mid (Ok behind) left h b =
      let_is attrs ∙ ap (λ y. y >>= let_further attrs) h ∙ ap (λ y. y >>= let_made attrs (head.node, head.need)) b
  let_read attrs head mid (Err NoReading) left h b =
      let_is attrs ∙ ap (λ y. y >>= let_further attrs) h ∙ ap (λ y. y >>= let_made attrs (head.node, head.need)) b
  let_read attrs head mid (Err NoMemory) left h b = tt

  pub block_refused : (attrs : List Attr) (behind : Tokens) (stmts : List (Stmt × ℕ)) (left : Tokens) → first (opens Brace) ts ≡ true
      → attributes true (tail ts) ≡ Some (attrs, behind)
      → repeat more_items (stmt_in_block within) (behind_semicolons behind) ≡ Some (stmts, left) → first (closes Brace) left ≡ false
      → block_by within ts ≡ None
  unfolding block_by
  block_refused attrs behind stmts left o a s c = rw (o, a, s, c) refl

  pub closure_is : (no_struct is_async moves : Bool) (behind mid : Tokens) (params : List (ClosureParam × ℕ)) (left : Tokens)
      → first (is_keyword (codes "async")) ts ≡ is_async → (if is_async then tail ts else ts) ≡ behind
      → first (is_keyword (codes "move")) behind ≡ moves → (if moves then tail behind else behind) ≡ mid → first (is_mark (codes "|")) mid ≡ true
      → elements (is_mark (codes "|")) (closure_param within) (tail mid) ≡ Some (params, left)
      → closure_expr within no_struct ts ≡ closure_body within no_struct is_async moves (nodes params) (deepest params) left
  unfolding closure_expr
  closure_is no_struct is_async moves behind mid params left a t m i b p = rw (a, t, m, i, b, p) refl

  pub closure_read : (no_struct is_async moves : Bool) (params : List ClosureParam) (need : ℕ) (x body : Expr) (n : ℕ) (left : Tokens)
      → is_op (codes "->") ts ≡ false → within.exprs (plain 0 no_struct) ts ≡ Some ((x, n), left) → shed no_struct (length ts) x ≡ body
      → closure_body within no_struct is_async moves params need ts
      ≡ Some ((expr.Closure is_async moves params body, suc (max need (body_need (sheds (about_expr x).kind no_struct) n))), left)
  closure_read no_struct is_async moves params need x body n left o r s = rw (o, r, s) refl
