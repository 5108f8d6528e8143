-- What is held of first tokens, and of what ends expressions, where blocks, statements and arms are read.
use Rattle.std.proofs.Common.{◌≡◌, ℕ, ◌<◌, Bool, true, false, ◌&&◌, List, [], ◌∷◌, length, drop, codes, Some, refl}
use Rattle.std.specs.Prelude.{is_some}
use Rattle.lay_piece.specs.Forms.{closing}
use Rattle.lay_piece.specs.declared.kind.Delim.TheVariants.{Brace}
use Rattle.lay_piece.specs.declared.kind.Kind.TheVariants.{Closer}
use Rattle.lay_token.specs.Operators.{is_op}
use Rattle.lay_form.specs.Spelled.{IsOne, Spells}
use Rattle.lay_node.specs.Ahead.{Tokens, first, is_keyword, is_mark, more_items}
use Rattle.lay_node.specs.nodes.Patterns.{about_pat, pat_form, pat_good}
use Rattle.lay_node.specs.reader.Attr.{attributes, begins_attr}
use Rattle.lay_node.specs.reader.Words.{name}
use Rattle.lay_node.specs.declared.attr.Attr.{Attr}
use Rattle.lay_node.specs.declared.heads.Site.TheVariants.{Module}
use Rattle.lay_node.specs.declared.patterns.Pat.{Pat}
use Rattle.lay_node.specs.declared.patterns.PatPlace.TheVariants.{Alternatives}
use Rattle.lay_node.proofs.Fronts.{one_front, one_no_op}
use Rattle.lay_node.proofs.Parts.{GoodAt}
use Rattle.lay_code.specs.Operators.{is_dot_or_try}
use Rattle.lay_code.specs.Operands.{expr_lead_at}
use Rattle.lay_code.specs.nodes.Blocks.{may_precede_else}
use Rattle.lay_code.specs.nodes.Code.{about_arm, about_expr, about_item, about_stmt, told_of_item}
use Rattle.lay_code.specs.nodes.Exprs.{closure_param, follows, is_closure_param, placed}
use Rattle.lay_code.specs.nodes.Places.{FREE, statement}
use Rattle.lay_code.specs.reader.Blocks.{begins_item}
use Rattle.lay_code.specs.declared.blocks.Arm.{Arm}
use Rattle.lay_code.specs.declared.blocks.Stmt.{Stmt}
use Rattle.lay_code.specs.declared.exprs.ClosureParam.{ClosureParam}
use Rattle.lay_code.specs.declared.exprs.Expr.{Expr}
use Rattle.lay_code.specs.declared.exprs.Place.{Place}
use Rattle.lay_code.specs.declared.item.Item.{Item}
use Rattle.lay_code.proofs.reader.ExprQuiet.{ExprEnds}

-- Nothing stands there that goes on with what ends in a block, no `;`, and no inner attribute.
pub record Begun (ts : Tokens) : Type 0 where
  pub mark : first (is_mark (codes ";")) ts ≡ false
  pub dot : is_dot_or_try ts ≡ false
  pub no_else : first (is_keyword (codes "else")) ts ≡ false
  pub attr : begins_attr true ts ≡ false

-- so before a `}`
pub brace_begun : (ts rest : Tokens) → IsOne (Closer Brace) (closing Brace ∷ []) ts rest → Begun ts
brace_begun ts rest o =
    let f = (one_front (Closer Brace) (closing Brace ∷ []) ts rest o).1 in
    let dot : is_op (codes ".") ts ≡ false = one_no_op (codes ".") (Closer Brace) (closing Brace ∷ []) ts rest refl o in
    let try : is_op (codes "?") ts ≡ false = one_no_op (codes "?") (Closer Brace) (closing Brace ∷ []) ts rest refl o in
    record { mark = rw f refl; dot = rw (dot, try) refl; no_else = rw f refl; attr = rw f refl }

-- A statement begins so, and takes a token at least; further statements are read there.
pub record StmtBegun (ts rest : Tokens) : Type 0 where
  pub begun : Begun ts
  pub more : more_items ts ≡ true
  pub less : length rest < length ts

-- An item is told by what follows its attributes.
pub record ItemAhead (ts : Tokens) : Type 0 where
  pub attrs : List Attr
  pub mid : Tokens
  pub read : attributes false ts ≡ Some (attrs, mid)
  pub no_let : first (is_keyword (codes "let")) mid ≡ false
  pub item : begins_item mid ≡ true

-- An expression is no item, and begins with no attribute.
pub record ExprAhead (ts : Tokens) : Type 0 where
  pub attr : begins_attr false ts ≡ false
  pub no_let : first (is_keyword (codes "let")) ts ≡ false
  pub no_item : begins_item ts ≡ false

-- an arm begins neither with a comma nor with what goes on with its body before it, and with no inner attribute
pub record ArmBegun (ts rest : Tokens) : Type 0 where
  pub begun : Begun ts
  pub no_comma : first (is_mark (codes ",")) ts ≡ false
  pub more : more_items ts ≡ true
  pub less : length rest < length ts

-- neither a name, nor a `!` before one: so no item after a word of its own
abbrev pub NoItem : Tokens → Type 0
NoItem ts = (is_some (name ts) ≡ false) × ((is_op (codes "!") ts && is_some (name (drop 1 ts))) ≡ false)

-- What is held of first tokens.
pub record Fronts : Type 0 where
  pub stmts : (s : Stmt) (depth : ℕ) (ts rest : Tokens) → Spells (about_stmt s).form depth ts rest → (about_stmt s).good ≡ true → StmtBegun ts rest
  pub items : (one : Item) (depth : ℕ) (ts rest : Tokens) → GoodAt (about_item Module) depth one ts rest → (told_of_item one).call ≡ false → ItemAhead ts
  -- Nothing stands after an expression that makes it an item.
  pub exprs : (x : Expr) (depth : ℕ) (ts rest : Tokens) → Spells (about_expr x).form depth ts rest → placed (about_expr x) statement ≡ true
      → ((about_expr x).block_like ≡ false → NoItem rest) → ExprAhead ts
  pub leads : (x : Expr) (place : Place) (depth : ℕ) (ts rest : Tokens) → Spells (about_expr x).form depth ts rest → placed (about_expr x) place ≡ true
      → (expr_lead_at ts ≡ Some (about_expr x).lead) × (length rest < length ts)
  pub arms : (a : Arm) (last : Bool) (depth : ℕ) (ts rest : Tokens) → Spells ((about_arm a).form last) depth ts rest → (about_arm a).good ≡ true → ArmBegun ts rest
  -- No attribute stands at the beginning of a pattern.
  pub pats : (x : Pat) (depth : ℕ) (ts rest : Tokens) → Spells (pat_form Alternatives (about_pat x)) depth ts rest
      → pat_good Alternatives (about_pat x) ≡ true → begins_attr false ts ≡ false
  -- A parameter of a closure begins with no bar.
  pub params : (p : ClosureParam) (depth : ℕ) (ts rest : Tokens) → Spells (closure_param p) depth ts rest → is_closure_param p ≡ true
      → first (is_mark (codes "|")) ts ≡ false
  -- An expression begins with no `->`.
  pub bodies : (x : Expr) (place : Place) (depth : ℕ) (ts rest : Tokens) → Spells (about_expr x).form depth ts rest → placed (about_expr x) place ≡ true
      → is_op (codes "->") ts ≡ false
  -- A `=>` ends an expression.
  pub arrows : (ts : Tokens) → is_op (codes "=>") ts ≡ true → ExprEnds false ts
  -- An `else` may stand after an expression that may precede one.
  pub elses : (x : Expr) (depth : ℕ) (ts rest : Tokens) → Spells (about_expr x).form depth ts rest → placed (about_expr x) FREE ≡ true
      → may_precede_else (about_expr x) ≡ true → first (is_keyword (codes "else")) rest ≡ true → follows (about_expr x) FREE rest ≡ true
