-- Blocks of one expression: what they are, what spells them, and expressions within so many of
-- them. As such blocks the bodies of arms and of closures are read within braces that the syntax
-- tree doesn't hold, which are taken off then.
use Rattle.std.proofs.Common.{◌≡◌, ℕ, zero, suc, ◌+◌, ◌-◌, ◌≤◌, ◌<◌, Bool, true, false, not, ◌&&◌, List, [], ◌∷◌, map, length, ◌⊎◌, inl, inr, Option, option_map, Some, None, refl, sym, ap, subst, ◌∙◌, arith}
use Rattle.std.proofs.lemmas.Bool.{not-true}
use Rattle.lay_piece.specs.Forms.{opening}
use Rattle.lay_piece.specs.declared.kind.Delim.TheVariants.{Brace}
use Rattle.lay_piece.specs.declared.kind.Kind.TheVariants.{Opener}
use Rattle.lay_form.specs.Form.{Braces, Bare, Unseen, Marked, Semicolons, Form, Done, Part, closer, opener}
use Rattle.lay_form.specs.Spelled.{AnySemicolons, Closes, IsBit, IsOne, MayBrace, Opens, Spells}
use Rattle.lay_form.proofs.FormLaws.{semicolons_end}
use Rattle.lay_node.specs.Ahead.{Tokens}
use Rattle.lay_node.specs.declared.attr.Attr.{Attr}
use Rattle.lay_node.specs.declared.token.Lifetime.{Lifetime}
use Rattle.lay_node.proofs.Fronts.{end_shorter, one_shorter}
use Rattle.lay_node.proofs.Parts.{Rows, SpelledAt, Closed, bit_alone, body_spelled, piece_bit}
use Rattle.lay_code.specs.nodes.Bodies.{BlockBody, BodyKind, MacroBody, OtherBody, braces_of, is_lone_body, is_macro}
use Rattle.lay_code.specs.nodes.Blocks.{block_facts, dropped, is_free, is_plain, stmt_facts}
use Rattle.lay_code.specs.nodes.Code.{about_arm, about_block, about_branch, about_condition, about_expr, about_field_expr, about_step, about_stmt}
use Rattle.lay_code.specs.nodes.CodeFacts.{BlockFacts, StmtFacts}
use Rattle.lay_code.specs.nodes.Exprs.{ExprFacts, ExprLayer, body_kind, expr_facts, placed}
use Rattle.lay_code.specs.nodes.Places.{statement}
use Rattle.lay_code.specs.declared.blocks.Block.{Block}
use Rattle.lay_code.specs.declared.blocks.Stmt.{Stmt}
use Rattle.lay_code.specs.declared.blocks.Stmt.TheOpen.{Expr-F, Stmt-F}
use Rattle.lay_code.specs.declared.blocks.Stmt.TheVariants as stmt
use Rattle.lay_code.specs.declared.exprs.Expr.{Expr}
use Rattle.lay_code.specs.declared.exprs.Expr.TheVariants as expr
use Rattle.lay_code.proofs.nodes.BlocksLaws.{IsExpr, IsItem, IsLet, StmtView, block_is, stmt_expr_is, stmt_item_is, stmt_let_is, stmt_view}
use Rattle.lay_code.proofs.nodes.ExprsLaws.{before_op, behind_op, expr_array_is, expr_assign_is, expr_async_is, expr_break_is, expr_call_is, expr_cast_is, expr_chain_is, expr_closure_is, expr_const_block_is, expr_continue_is, expr_for_is, expr_if_is, expr_lit_is, expr_loop_is, expr_match_is, expr_paren_is, expr_path_is, expr_postfix_is, expr_range_is, expr_repeat_is, expr_return_is, expr_struct_is, expr_tuple_is, expr_typed_closure_is, expr_unary_is, expr_underscore_is, expr_unsafe_is, expr_while_is, ExprView, IsArray, IsAssign, IsAsync, IsBlock, IsBreak, IsCall, IsCast, IsChain, IsClosure, IsConstBlock, IsContinue, IsFor, IsIf, IsLit, IsLoop, IsMatch, IsParen, IsPath, IsPostfix, IsRange, IsRepeat, IsReturn, IsStruct, IsTuple, IsTypedClosure, IsUnary, IsUnderscore, IsUnsafe, IsWhile, expr_block_is, expr_view}

-- ---- a block of one expression

-- a block of one expression, without attributes, a label and a `;`
abbrev pub alone_block : Expr → Block
alone_block y = record { attrs = []; stmts = stmt.Expr [] y false ∷ [] }

abbrev pub alone : Expr → Expr
alone y = expr.Block None (alone_block y)

-- the facts about it
abbrev pub alone_facts : Expr → ExprFacts
alone_facts y =
    expr_facts (Expr-F.Block None (block_facts (record { attrs = []; stmts = stmt_facts (Stmt-F.Stmt::Expr [] (about_expr y) false) ∷ [] })))

pub about_alone : (y : Expr) → about_expr (alone y) ≡ alone_facts y
about_alone y =
    expr_block_is None (alone_block y) ∙ ap (λ (B : BlockFacts). expr_facts (Expr-F.Block None B)) (block_is (alone_block y))
    ∙ ap (λ (S : StmtFacts). expr_facts (Expr-F.Block None (block_facts (record { attrs = []; stmts = S ∷ [] })))) (stmt_expr_is [] y false)

pub data Lone : Expr → Type 0 where
  IsAlone : (y : Expr) → is_macro (about_expr y).kind ≡ false → Lone (alone y)

-- The facts about a lone statement: it is an expression, and no macro call.
lone_stmt : (s : Stmt) → StmtView s → ((about_stmt s).bare && not (about_stmt s).call) ≡ true → Lone (expr.Block None (record { attrs = []; stmts = s ∷ [] }))
lone_stmt _ (IsLet attrs pat ty x o) h =
    absurd (cc (subst (λ (z : StmtFacts). (z.bare && not z.call) ≡ true) (stmt_let_is attrs pat ty x o) h))
lone_stmt _ (IsItem i) h = absurd (cc (subst (λ (z : StmtFacts). (z.bare && not z.call) ≡ true) (stmt_item_is i) h))
lone_stmt _ (IsExpr attrs x ended) h =
    by attrs ended (subst (λ (z : StmtFacts). (z.bare && not z.call) ≡ true) (stmt_expr_is attrs x ended) h)
  where
    by : (attrs : List Attr) (ended : Bool) → ((is_plain attrs && not ended) && not (is_macro (about_expr x).kind)) ≡ true
        → Lone (expr.Block None (record { attrs = []; stmts = stmt.Expr attrs x ended ∷ [] }))
    by [] false h = IsAlone x (not-true (is_macro (about_expr x).kind) h)
    by [] true h = absurd (cc h)
    by (a ∷ attrs) ended h = absurd (cc h)

lone_block : (label : Option Lifetime) (b : Block) → is_lone_body (expr_facts (Expr-F.Block label (about_block b))).kind ≡ true
    → Lone (expr.Block label b)
lone_block (Some l) b h = absurd (cc h)
lone_block None b h = by b.attrs b.stmts (subst (λ (z : BlockFacts). z.lone ≡ true) (block_is b) h)
  where
    by : (attrs : List Attr) (stmts : List Stmt)
        → (block_facts (record { attrs = attrs; stmts = map about_stmt stmts })).lone ≡ true
        → Lone (expr.Block None (record { attrs = attrs; stmts = stmts }))
    by [] [] h = absurd (cc h)
    by [] (s ∷ []) h = lone_stmt s (stmt_view s) h
    by [] (s ∷ r ∷ more) h = absurd (cc h)
    by (a ∷ attrs) stmts h = absurd (cc h)

other : (x : Expr) (k : ExprLayer) → about_expr x ≡ expr_facts k → is_lone_body (body_kind k) ≡ false
    → is_lone_body (about_expr x).kind ≡ true → Lone x
other x k e n h = absurd (cc (sym n ∙ subst (λ (z : ExprFacts). is_lone_body z.kind ≡ true) e h))

-- Where its braces are dropped as those of an arm's body, it is such a block.
pub is_alone : (x : Expr) → is_lone_body (about_expr x).kind ≡ true → Lone x
is_alone x h = by x (expr_view x) h
  where
    by : (x : Expr) → ExprView x → is_lone_body (about_expr x).kind ≡ true → Lone x
    by _ (IsBlock l b) h = lone_block l b (subst (λ (z : ExprFacts). is_lone_body z.kind ≡ true) (expr_block_is l b) h)
    by _ (IsLit l) h = other _ (Expr-F.Lit l) (expr_lit_is l) refl h
    by _ (IsPath p) h = other _ (Expr-F.Path p) (expr_path_is p) refl h
    by _ IsUnderscore h = other _ Expr-F.Underscore expr_underscore_is refl h
    by _ (IsCall c) h = other _ (Expr-F.Expr::Call c) (expr_call_is c) refl h
    by _ (IsParen y) h = other _ (Expr-F.Paren (about_expr y)) (expr_paren_is y) refl h
    by _ (IsContinue l) h = other _ (Expr-F.Continue l) (expr_continue_is l) refl h
    by _ (IsTuple xs) h = other _ (Expr-F.Tuple (map about_expr xs)) (expr_tuple_is xs) refl h
    by _ (IsArray xs) h = other _ (Expr-F.Array (map about_expr xs)) (expr_array_is xs) refl h
    by _ (IsRepeat y us) h = other _ (Expr-F.Repeat (about_expr y) us) (expr_repeat_is y us) refl h
    by _ (IsStruct p fs b) h = other _ (Expr-F.Expr::Struct p (map about_field_expr fs) (option_map (option_map about_expr) b)) (expr_struct_is p fs b) refl h
    by _ (IsChain y more) h = other _ (Expr-F.Chain (about_expr y) (map behind_op more)) (expr_chain_is y more) refl h
    by _ (IsCast y types) h = other _ (Expr-F.Cast (about_expr y) types) (expr_cast_is y types) refl h
    by _ (IsUnary ps y) h = other _ (Expr-F.Unary ps (about_expr y)) (expr_unary_is ps y) refl h
    by _ (IsRange a i b) h = other _ (Expr-F.Range (option_map about_expr a) i (option_map about_expr b)) (expr_range_is a i b) refl h
    by _ (IsAssign ts y) h = other _ (Expr-F.Assign (map before_op ts) (about_expr y)) (expr_assign_is ts y) refl h
    by _ (IsPostfix y steps) h = other _ (Expr-F.Postfix (about_expr y) (map about_step steps)) (expr_postfix_is y steps) refl h
    by _ (IsUnsafe b) h = other _ (Expr-F.Unsafe (about_block b)) (expr_unsafe_is b) refl h
    by _ (IsConstBlock b) h = other _ (Expr-F.ConstBlock (about_block b)) (expr_const_block_is b) refl h
    by _ (IsAsync moves b) h = other _ (Expr-F.Async moves (about_block b)) (expr_async_is moves b) refl h
    by _ (IsIf bs o) h = other _ (Expr-F.If (map about_branch bs) (option_map about_block o)) (expr_if_is bs o) refl h
    by _ (IsMatch y attrs arms) h = other _ (Expr-F.Match (about_expr y) attrs (map about_arm arms)) (expr_match_is y attrs arms) refl h
    by _ (IsLoop l b) h = other _ (Expr-F.Loop l (about_block b)) (expr_loop_is l b) refl h
    by _ (IsWhile l c b) h = other _ (Expr-F.While l (about_condition c) (about_block b)) (expr_while_is l c b) refl h
    by _ (IsFor l p y b) h = other _ (Expr-F.For l p (about_expr y) (about_block b)) (expr_for_is l p y b) refl h
    by _ (IsClosure is_async moves ps y) h = other _ (Expr-F.Closure is_async moves ps (about_expr y)) (expr_closure_is is_async moves ps y) refl h
    by _ (IsTypedClosure is_async moves ps t b) h = other _ (Expr-F.TypedClosure is_async moves ps t (about_block b)) (expr_typed_closure_is is_async moves ps t b) refl h
    by _ (IsReturn y) h = other _ (Expr-F.Return (option_map about_expr y)) (expr_return_is y) refl h
    by _ (IsBreak l y) h = other _ (Expr-F.Break l (option_map about_expr y)) (expr_break_is l y) refl h

-- Around anything but a macro call such a block is dropped, and around a macro call it isn't.
pub alone_is_lone : (y : Expr) → is_macro (about_expr y).kind ≡ false → is_lone_body (about_expr (alone y)).kind ≡ true
alone_is_lone y h = subst (λ (F : ExprFacts). is_lone_body F.kind ≡ true) (sym (about_alone y)) (rw h refl)

pub lone_no_macro : (y : Expr) → is_lone_body (about_expr (alone y)).kind ≡ true → is_macro (about_expr y).kind ≡ false
lone_no_macro y h = not-true (is_macro (about_expr y).kind) (subst (λ (F : ExprFacts). is_lone_body F.kind ≡ true) (about_alone y) h)

-- It lets an arm lack its comma.
pub alone_is_free : (y : Expr) → is_free (about_expr (alone y)) ≡ true
alone_is_free y = subst (λ (F : ExprFacts). is_free F ≡ true) (sym (about_alone y)) refl

-- It may be a statement where its expression may be one.
alone_placed : (y : Expr) → placed (about_expr (alone y)) statement ≡ placed (about_expr y) statement
alone_placed y = ap (λ (F : ExprFacts). placed F statement) (about_alone y)

-- ---- what such a block is spelled by

semicolons_left : (ts rest : Tokens) → AnySemicolons ts rest → length rest ≤ length ts
semicolons_left ts rest s = end_shorter ts rest (semicolons_end s.0 ts rest s.1)

record AloneParts (y : Expr) (m : ℕ) (ts mid : Tokens) : Type 0 where
  less : ℕ
  depth : m ≡ suc less
  inner : Tokens
  at : Tokens
  end : Tokens
  opened : IsBit (opener Brace) ts inner
  dropped : AnySemicolons inner at
  form : Spells (about_expr y).form less at end
  closed : IsBit (closer Brace) end mid

alone_parts : (y : Expr) (m : ℕ) (ts mid : Tokens) → Spells (about_expr (alone y)).form m ts mid → AloneParts y m ts mid
alone_parts y m ts mid s =
    by m (subst (λ (z : ExprFacts). Spells z.form m ts mid) (about_alone y) s)
  where
    by : (m : ℕ) → Spells (alone_facts y).form m ts mid → AloneParts y m ts mid
    by zero s = absurd s
    by (suc c) s =
        let body = s.1 in
        let start = body.0 in
        let bits = body.1 in
        let lines = body.2.1 in
        let stmt = lines.1.1 in
        let one = stmt.1 in
        let end : one.0 ≡ body.2.0 = one.2 ∙ (stmt.2 ∙ (lines.1.2 ∙ lines.2)) in
        record {
          less = c;
          depth = refl;
          inner = bits.0;
          at = start;
          end = body.2.0;
          opened = bits.1;
          dropped = bit_alone Semicolons bits.0 start bits.2;
          form = subst (λ us. Spells (about_expr y).form c start us) end one.1;
          closed = subst (λ us. IsBit (closer Brace) body.2.0 us) s.2 (piece_bit (closer Brace) c body.2.0 s.0 body.2.2);
        }

alone_spelled : (y : Expr) (depth : ℕ) (ts inner at end rest : Tokens) → IsOne (Opener Brace) (opening Brace ∷ []) ts inner → AnySemicolons inner at
    → Spells (about_expr y).form depth at end → Closed Brace end rest → Spells (about_expr (alone y)).form (suc depth) ts rest
alone_spelled y depth ts inner at end rest o s is c =
    let form : Form = Part (Part (about_expr y).form Done) Done in
    let row : Rows (SpelledAt depth) (form ∷ []) at end = (end, (end, (end, is, refl), refl), refl) in
    let spelled = body_spelled [] dropped (form ∷ []) depth ts ts inner at end rest refl o (at, s, refl) row c in
    subst (λ (F : ExprFacts). Spells F.form (suc depth) ts rest) (sym (about_alone y)) (rest, spelled, refl)

-- ---- braces that aren't in the tree

pub closes_last : (k : ℕ) (b mid rest : Tokens) → Closes k b mid → IsBit (closer Brace) mid rest → Closes (suc k) b rest
closes_last zero b mid rest s c = let here : IsBit (closer Brace) b rest = rw s c in (rest, (rest, here, refl), refl)
closes_last (suc k) b mid rest s c = (s.0, s.1, closes_last k s.0 mid rest s.2 c)

pub closes_split : (k : ℕ) (ts rest : Tokens) → Closes (suc k) ts rest → (mid : Tokens) × Closes k ts mid × Closed Brace mid rest
closes_split zero ts rest s =
    let c : Closed Brace ts s.0 = bit_alone (closer Brace) ts s.0 s.1 in (ts, refl, subst (λ us. Closed Brace ts us) s.2 c)
closes_split (suc k) ts rest s = let r = closes_split k s.0 rest s.2 in (r.0, (s.0, s.1, r.1), r.2)

-- Each pair takes a token at least.
pub opens_take : (k : ℕ) (ts rest : Tokens) → Opens k ts rest → k + length rest ≤ length ts
opens_take zero ts rest s = omega (arith, ap length s)
opens_take (suc k) ts rest s =
    let bits = s.1 in
    omega (
      arith,
      opens_take k s.0 rest s.2,
      one_shorter (Opener Brace) (opening Brace ∷ []) ts bits.0 bits.1,
      semicolons_left bits.0 s.0 (bit_alone Semicolons bits.0 s.0 bits.2),
    )

pub no_pair : (b : Braces) → MayBrace b 0
no_pair Bare = refl
no_pair Unseen = tt
no_pair Marked = tt

-- Any number of pairs may stand round a body, unless it is a macro call, round which none may stand.
pub any_pair : (kind : BodyKind) (k : ℕ) → is_macro kind ≡ false → MayBrace (braces_of kind) k
any_pair MacroBody k h = absurd (cc h)
any_pair (BlockBody lone structless) k h = tt
any_pair OtherBody k h = tt

pub braced_no_macro : (k : ℕ) (kind : BodyKind) → MayBrace (braces_of kind) k → 1 ≤ k → is_macro kind ≡ false
braced_no_macro k MacroBody b le = absurd (omega (arith, b, le))
braced_no_macro k (BlockBody lone structless) b le = refl
braced_no_macro k OtherBody b le = refl

-- ---- an expression within this many blocks

abbrev pub dress : ℕ → Expr → Expr
dress zero y = y
dress (suc k) y = alone (dress k y)

pub dressed_placed : (k : ℕ) (y : Expr) → placed (about_expr (dress k y)) statement ≡ placed (about_expr y) statement
dressed_placed zero y = refl
dressed_placed (suc k) y = alone_placed (dress k y) ∙ dressed_placed k y

pub dressed_no_macro : (k : ℕ) (y : Expr) → is_macro (about_expr y).kind ≡ false → is_macro (about_expr (dress k y)).kind ≡ false
dressed_no_macro zero y h = h
dressed_no_macro (suc k) y h = subst (λ (F : ExprFacts). is_macro F.kind ≡ false) (sym (about_alone (dress k y))) refl

-- Within this many pairs of braces it is spelled as blocks, each of them one level deeper.
pub dressed : (k depth : ℕ) (y : Expr) (ts a b rest : Tokens) → Opens k ts a → Spells (about_expr y).form depth a b → Closes k b rest
    → Spells (about_expr (dress k y)).form (depth + k) ts rest
dressed zero depth y ts a b rest o s c =
    let same : depth ≡ depth + 0 = omega arith in
    let here : Spells (about_expr y).form depth ts rest =
    subst (λ us. Spells (about_expr y).form depth ts us) c (subst (λ us. Spells (about_expr y).form depth us b) (sym o) s) in
    subst (λ n. Spells (about_expr y).form n ts rest) same here
dressed (suc k) depth y ts a b rest o s c =
    let last = closes_split k b rest c in
    let bits = o.1 in
    let inside_is = dressed k depth y o.0 a b last.0 o.2 s last.1 in
    let same : suc (depth + k) ≡ depth + suc k = omega arith in
    subst (λ n. Spells (about_expr (alone (dress k y))).form n ts rest) same
    (alone_spelled (dress k y) (depth + k) ts bits.0 o.0 last.0 rest bits.1 (bit_alone Semicolons bits.0 o.0 bits.2) inside_is last.2)

-- So the expression stands within this many pairs of braces where it is spelled within this many blocks.
record DressParts (k : ℕ) (y : Expr) (m : ℕ) (ts mid : Tokens) : Type 0 where
  le : k ≤ m
  at : Tokens
  end : Tokens
  opens : Opens k ts at
  form : Spells (about_expr y).form (m - k) at end
  closes : Closes k end mid

dress_parts : (k : ℕ) (y : Expr) (m : ℕ) (ts mid : Tokens) → Spells (about_expr (dress k y)).form m ts mid → DressParts k y m ts mid
dress_parts zero y m ts mid s =
    let whole : m ≡ m - 0 = omega arith in
    record { le = omega arith; at = ts; end = mid; opens = refl; form = subst (λ d. Spells (about_expr y).form d ts mid) whole s; closes = refl }
dress_parts (suc k) y m ts mid s =
    let p = alone_parts (dress k y) m ts mid s in
    let r = dress_parts k y p.less p.at p.end p.form in
    let depth : p.less - k ≡ m - suc k = omega (arith, p.depth, r.le) in
    record {
      le = omega (arith, r.le, p.depth);
      at = r.at;
      end = r.end;
      opens = (p.at, (p.inner, p.opened, (p.at, p.dropped, refl)), r.opens);
      form = subst (λ d. Spells (about_expr y).form d r.at r.end) depth r.form;
      closes = closes_last k r.end p.end mid r.closes p.closed;
    }

-- ---- pairs that are taken off

-- By the test no braces of it go.
abbrev pub Stays : (BodyKind → Bool) → Expr → Type 0
Stays drops x = drops (about_expr x).kind ≡ false

-- Turns that take off a pair each, as long as the test says that the braces of what is left go.
pub record Strips (drops : BodyKind → Bool) (strip : ℕ → Expr → Expr) : Type 0 where
  pub lone : (kind : BodyKind) → drops kind ≡ true → is_lone_body kind ≡ true
  pub none : (x : Expr) → strip 0 x ≡ x
  pub other : (n : ℕ) (x : Expr) → Stays drops x → strip n x ≡ x
  pub one : (n : ℕ) (y : Expr) → drops (about_expr (alone y)).kind ≡ true → strip (suc n) (alone y) ≡ strip n y

-- how many of them this many turns have taken off
record Turned (drops : BodyKind → Bool) (n : ℕ) (x y : Expr) : Type 0 where
  pairs : ℕ
  around : x ≡ dress pairs y
  last : Stays drops y ⊎ (pairs ≡ n)
  outer : 1 ≤ pairs → drops (about_expr x).kind ≡ true
  inner : 1 ≤ pairs → drops (about_expr (alone y)).kind ≡ true

-- What is left without any of them stands within this many pairs.
pub record Stripped (drops : BodyKind → Bool) (x y : Expr) (m : ℕ) (ts mid : Tokens) : Type 0 where
  pub pairs : ℕ
  pub le : pairs ≤ m
  pub at : Tokens
  pub end : Tokens
  pub opens : Opens pairs ts at
  pub form : Spells (about_expr y).form (m - pairs) at end
  pub closes : Closes pairs end mid
  pub around : x ≡ dress pairs y
  pub bare : Stays drops y
  pub inner : 1 ≤ pairs → drops (about_expr (alone y)).kind ≡ true
  pub some : drops (about_expr x).kind ≡ true → 1 ≤ pairs
  pub none : Stays drops x → (pairs ≡ 0) × (y ≡ x)

-- A body whose braces may go takes a token at least.
lone_takes : (m : ℕ) (x : Expr) → Lone x → (ts mid : Tokens) → Spells (about_expr x).form m ts mid → 1 ≤ length ts
lone_takes m _ (IsAlone y macro) ts mid s =
    let p = alone_parts y m ts mid s in omega (arith, one_shorter (Opener Brace) (opening Brace ∷ []) ts p.inner p.opened)

module _ (drops : BodyKind → Bool) (strip : ℕ → Expr → Expr) (strips : Strips drops strip) where
  turned_other : (n : ℕ) (x : Expr) → Stays drops x ⊎ (0 ≡ n) → strip n x ≡ x → Turned drops n x (strip n x)
  turned_other n x last same =
      let found : Turned drops n x x = record {
        pairs = 0;
        around = refl;
        last = last;
        outer = λ h. absurd (omega (arith, h));
        inner = λ h. absurd (omega (arith, h));
      } in
      subst (λ y. Turned drops n x y) (sym same) found

  inner_by : (pairs : ℕ) (y z : Expr) → z ≡ dress pairs y → (1 ≤ pairs → drops (about_expr (alone y)).kind ≡ true)
      → drops (about_expr (alone z)).kind ≡ true → drops (about_expr (alone y)).kind ≡ true
  inner_by zero y z e inner h = subst (λ w. drops (about_expr (alone w)).kind ≡ true) e h
  inner_by (suc k) y z e inner h = inner (omega arith)

  turned_alone : (n : ℕ) → ((y : Expr) → Turned drops n y (strip n y)) → (x : Expr) → Lone x → drops (about_expr x).kind ≡ true
      → Turned drops (suc n) x (strip (suc n) x)
  turned_alone n turns _ (IsAlone z macro) h =
      let r = turns z in
      let found : Turned drops (suc n) (alone z) (strip n z) = record {
        pairs = suc r.pairs;
        around = ap alone r.around;
        last = elim r.last [ inl e ↦ inl e | inr e ↦ inr (ap suc e) ];
        outer = λ g. h;
        inner = λ g. inner_by r.pairs (strip n z) z r.around r.inner h;
      } in
      subst (λ y. Turned drops (suc n) (alone z) y) (sym (strips.one n z h)) found

  turned_by : (n : ℕ) → ((y : Expr) → Turned drops n y (strip n y)) → (x : Expr) (b : Bool) → drops (about_expr x).kind ≡ b
      → Turned drops (suc n) x (strip (suc n) x)
  turned_by n turns x false h = turned_other (suc n) x (inl h) (strips.other (suc n) x h)
  turned_by n turns x true h = turned_alone n turns x (is_alone x (strips.lone (about_expr x).kind h)) h

  turned : (n : ℕ) (x : Expr) → Turned drops n x (strip n x)
  turned zero x = turned_other 0 x (inr refl) (strips.none x)
  turned (suc n) x = turned_by n (λ y. turned n y) x (drops (about_expr x).kind) refl

  -- As many turns as there are tokens take off all that go.
  pub stripped : (n m : ℕ) (x : Expr) (ts mid : Tokens) → length ts ≤ n → Spells (about_expr x).form m ts mid
      → Stripped drops x (strip n x) m ts mid
  stripped n m x ts mid le s =
      let y = strip n x in
      let t = turned n x in
      let p = dress_parts t.pairs y m ts mid (subst (λ z. Spells (about_expr z).form m ts mid) t.around s) in
      let bare = bare_by (drops (about_expr y).kind) refl t p in
      record {
        pairs = t.pairs;
        le = p.le;
        at = p.at;
        end = p.end;
        opens = p.opens;
        form = p.form;
        closes = p.closes;
        around = t.around;
        bare = bare;
        inner = t.inner;
        some = some_by t.pairs y t.around bare;
        none = none_by t.pairs y t.around t.outer;
      }
    where
      bare_by : (b : Bool) → drops (about_expr (strip n x)).kind ≡ b → (t : Turned drops n x (strip n x))
          → DressParts t.pairs (strip n x) m ts mid → Stays drops (strip n x)
      bare_by false e t p = e
      bare_by true e t p = elim t.last [
        | inl h ↦ h
        | inr h ↦
            let takes = lone_takes (m - t.pairs) (strip n x) (is_alone (strip n x) (strips.lone (about_expr (strip n x)).kind e)) p.at p.end p.form in
            absurd (omega (arith, le, h, takes, opens_take t.pairs ts p.at p.opens))
      ]

      some_by : (pairs : ℕ) (y : Expr) → x ≡ dress pairs y → Stays drops y → drops (about_expr x).kind ≡ true → 1 ≤ pairs
      some_by zero y e bare h = absurd (cc (sym h ∙ ap (λ z. drops (about_expr z).kind) e ∙ bare))
      some_by (suc k) y e bare h = omega arith

      none_by : (pairs : ℕ) (y : Expr) → x ≡ dress pairs y → (1 ≤ pairs → drops (about_expr x).kind ≡ true) → Stays drops x
          → (pairs ≡ 0) × (y ≡ x)
      none_by zero y e outer h = (refl, sym e)
      none_by (suc k) y e outer h = absurd (cc (sym h ∙ outer (omega arith)))

  -- As many turns as there are pairs suffice, where each of them goes.
  pub strip_dressed : (k n : ℕ) (y : Expr) → k ≤ n → Stays drops y
      → ((j : ℕ) → j < k → drops (about_expr (alone (dress j y))).kind ≡ true) → strip n (dress k y) ≡ y
  strip_dressed zero n y le bare each = strips.other n y bare
  strip_dressed (suc k) zero y le bare each = absurd (omega (arith, le))
  strip_dressed (suc k) (suc n) y le bare each =
      strips.one n (dress k y) (each k (omega arith)) ∙ strip_dressed k n y (omega (arith, le)) bare (λ j l. each j (omega (arith, l)))

  -- Turns that leave none are as good as others that do.
  same_alone : (m n : ℕ) → ((y : Expr) → Stays drops (strip m y) → Stays drops (strip n y) → strip m y ≡ strip n y)
      → (x : Expr) → Lone x → drops (about_expr x).kind ≡ true → Stays drops (strip (suc m) x) → Stays drops (strip (suc n) x)
      → strip (suc m) x ≡ strip (suc n) x
  same_alone m n same _ (IsAlone z macro) h b c =
      let e = strips.one m z h in
      let f = strips.one n z h in
      e ∙ same z (subst (Stays drops) e b) (subst (Stays drops) f c) ∙ sym f

  same_by : (m n : ℕ) → ((y : Expr) → Stays drops (strip m y) → Stays drops (strip n y) → strip m y ≡ strip n y)
      → (x : Expr) (lone : Bool) → drops (about_expr x).kind ≡ lone → Stays drops (strip (suc m) x) → Stays drops (strip (suc n) x)
      → strip (suc m) x ≡ strip (suc n) x
  same_by m n same x false h b c = strips.other (suc m) x h ∙ sym (strips.other (suc n) x h)
  same_by m n same x true h b c = same_alone m n same x (is_alone x (strips.lone (about_expr x).kind h)) h b c

  pub same_bare : (m n : ℕ) (x : Expr) → Stays drops (strip m x) → Stays drops (strip n x) → strip m x ≡ strip n x
  same_bare zero n x b c = strips.none x ∙ sym (strips.other n x (subst (Stays drops) (strips.none x) b))
  same_bare (suc m) zero x b c = strips.other (suc m) x (subst (Stays drops) (strips.none x) c) ∙ sym (strips.none x)
  same_bare (suc m) (suc n) x b c = same_by m n (λ y d e. same_bare m n y d e) x (drops (about_expr x).kind) refl b c

-- Where turns leave none, as many turns of others leave none that take off no other pairs.
module _ (drops : BodyKind → Bool) (strip : ℕ → Expr → Expr) (strips : Strips drops strip)
    (others : BodyKind → Bool) (other_strip : ℕ → Expr → Expr) (other_strips : Strips others other_strip)
    (fewer : (kind : BodyKind) → others kind ≡ true → drops kind ≡ true) where
  fewer_alone : (n : ℕ) → ((y : Expr) → Stays drops (strip n y) → Stays others (other_strip n y)) → (x : Expr) → Lone x
      → others (about_expr x).kind ≡ true → Stays drops (strip (suc n) x) → Stays others (other_strip (suc n) x)
  fewer_alone n left _ (IsAlone z macro) h b =
      let e = strips.one n z (fewer (about_expr (alone z)).kind h) in
      subst (Stays others) (sym (other_strips.one n z h)) (left z (subst (Stays drops) e b))

  fewer_by : (n : ℕ) → ((y : Expr) → Stays drops (strip n y) → Stays others (other_strip n y)) → (x : Expr) (lone : Bool)
      → others (about_expr x).kind ≡ lone → Stays drops (strip (suc n) x) → Stays others (other_strip (suc n) x)
  fewer_by n left x false h b = subst (Stays others) (sym (other_strips.other (suc n) x h)) h
  fewer_by n left x true h b = fewer_alone n left x (is_alone x (other_strips.lone (about_expr x).kind h)) h b

  stays_by : (x : Expr) (lone : Bool) → others (about_expr x).kind ≡ lone → Stays drops x → Stays others x
  stays_by x false h b = h
  stays_by x true h b = absurd (cc (sym b ∙ fewer (about_expr x).kind h))

  pub fewer_bare : (n : ℕ) (x : Expr) → Stays drops (strip n x) → Stays others (other_strip n x)
  fewer_bare zero x b =
      subst (Stays others) (sym (other_strips.none x))
      (stays_by x (others (about_expr x).kind) refl (subst (Stays drops) (strips.none x) b))
  fewer_bare (suc n) x b = fewer_by n (λ y d. fewer_bare n y d) x (others (about_expr x).kind) refl b
