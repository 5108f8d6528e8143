-- Bodies of arms and of closures: what is read of one is within no more pairs of braces that aren't in the tree than there are
-- tokens, so that a loop which takes them off until none goes ends as this many turns do.
use Rattle.std.proofs.Common.{◌≡◌, ℕ, zero, suc, ◌-◌, ◌≤◌, Bool, true, false, not, ◌&&◌, ◌||◌, List, [], ◌∷◌, ◌++◌, length, drop, inl, inr, codes, Option, Some, None, is_some, refl, sym, ap, subst, ◌∙◌, arith}
use Rattle.std.specs.Prelude.{max, nat_le, ◌==◌}
use Rattle.lay_token.specs.Operators.{is_op}
use Rattle.lay_piece.specs.declared.kind.Delim.TheVariants.{Brace}
use Rattle.lay_node.specs.Ahead.{Tokens, first, tail, is_keyword, is_mark, opens, closes, more_items}
use Rattle.lay_node.specs.reader.Attr.{attributes}
use Rattle.lay_node.specs.reader.Heads.{semicolon}
use Rattle.lay_node.specs.reader.Loops.{Got, passed, nodes, repeat_from, repeat}
use Rattle.lay_node.specs.reader.Types.{if_read}
use Rattle.lay_node.specs.declared.attr.Attr.{Attr}
use Rattle.lay_node.specs.declared.heads.Site.TheVariants.{Module}
use Rattle.lay_node.specs.declared.patterns.PatPlace.TheVariants.{Alternatives, Single}
use Rattle.lay_node.specs.declared.types.TypePlace.TheVariants.{Bounds}
use Rattle.lay_node.proofs.Steps.{same_some, chosen, bind_some}
use Rattle.lay_code.specs.Operands.{ByBrace, expr_lead_at}
use Rattle.lay_code.specs.Operators.{begins_step, strength}
use Rattle.lay_code.specs.nodes.Bodies.{BodyKind, is_lone_body, sheds}
use Rattle.lay_code.specs.nodes.Code.{about_expr, about_stmt, told_of_item}
use Rattle.lay_code.specs.nodes.Exprs.{ExprFacts, root_follows, stands}
use Rattle.lay_code.specs.nodes.Layers.{ExprNode, StmtNode}
use Rattle.lay_code.specs.nodes.Places.{FREE, plain, statement}
use Rattle.lay_code.specs.reader.Blocks.{begins_item, behind_semicolons, block_by, else_stands, expr_stmt, item_stmt, let_stmt, stmt_by, stmt_in_block, undressed}
use Rattle.lay_code.specs.reader.Code.{code_in, expr_at}
use Rattle.lay_code.specs.reader.Conditions.{condition_by}
use Rattle.lay_code.specs.reader.Exprs.{assign_expr, begins_tuple_index, cast_expr, chain_expr, climb, climb_by, expr_by, for_expr, head_by, is_ended, labelled_expr, left_place, one_step, one_type, operand_if, operands, postfix_expr, range_by, range_expr, shed, stage, targets_of, value_of, while_expr}
use Rattle.lay_code.specs.reader.Within.{ExprWithin}
use Rattle.lay_code.specs.declared.blocks.Block.{Block}
use Rattle.lay_code.specs.declared.blocks.Stmt.{Stmt}
use Rattle.lay_code.specs.declared.blocks.Stmt.TheOpen.{Expr-F, Stmt-F}
use Rattle.lay_code.specs.declared.blocks.Stmt.TheVariants as stmt
use Rattle.lay_code.specs.declared.blocks.Stmt.TheViews as views
use Rattle.lay_code.specs.declared.exprs.Expr.{Expr}
use Rattle.lay_code.specs.declared.exprs.Expr.TheVariants as expr
use Rattle.lay_code.specs.declared.exprs.Place.{Place}
use Rattle.lay_code.proofs.nodes.ExprsLaws as laws
use Rattle.lay_code.proofs.reader.ArmsSoundBodies.{undressed_alone, undressed_other, undressed_strips}
use Rattle.lay_code.proofs.reader.ClosureBodies.{shed_bare, shed_strips}
use Rattle.lay_code.proofs.reader.Dressed.{IsAlone, Lone, Stays, alone_block, is_alone, same_bare}
use Rattle.lay_code.proofs.reader.ExprSoundLeads.{code_led}
use Rattle.lay_read_tokens.proofs.Left.{Leaves, Left, attributes_left, passed_left, Passes}
use Rattle.lay_ops_ends.specs.Bodies.{IsBare, IsShed}
use Rattle.lay_read_shared.proofs.BlocksLeft.{LeftCode, in_block_left, semicolons_left}
use Rattle.lay_read_shared.proofs.Left.{in_left}

-- No such braces are left.
abbrev pub Bare : Expr → Type 0
Bare x = is_lone_body (about_expr x).kind ≡ false

-- ---- turns

-- More turns leave none either.
more_alone : (m n : ℕ) (x : Expr) → Lone x → is_lone_body (about_expr x).kind ≡ true
    → ((y : Expr) → Bare (undressed m y) → Bare (undressed n y)) → Bare (undressed (suc m) x) → Bare (undressed (suc n) x)
more_alone m n _ (IsAlone y macro) h more b =
    subst Bare (sym (undressed_alone n y h)) (more y (subst Bare (undressed_alone m y h) b))

more_by : (m n : ℕ) (x : Expr) (lone : Bool) → is_lone_body (about_expr x).kind ≡ lone
    → ((y : Expr) → Bare (undressed m y) → Bare (undressed n y)) → Bare (undressed (suc m) x) → Bare (undressed (suc n) x)
more_by m n x false h more b = subst Bare (sym (undressed_other (suc n) x h)) h
more_by m n x true h more b = more_alone m n x (is_alone x h) h more b

bare_more : (m n : ℕ) (x : Expr) → m ≤ n → Bare (undressed m x) → Bare (undressed n x)
unfolding undressed
bare_more zero n x le b = subst Bare (sym (undressed_other n x b)) b
bare_more (suc m) zero x le b = absurd (omega (arith, le))
bare_more (suc m) (suc n) x le b =
    more_by m n x (is_lone_body (about_expr x).kind) refl (λ y d. bare_more m n y (omega (arith, le)) d) b

-- ---- what a block holds

-- This many turns suffice for the expression that a statement is.
abbrev stmt_in : ℕ → StmtNode → Type 0
stmt_in n (Stmt-F.Stmt::Expr attrs y ended) = Bare (undressed n y)
stmt_in n _ = Unit {0}

abbrev OfStmt : ℕ → Stmt → Type 0
OfStmt n s = stmt_in n (views.out-Stmt s)

abbrev OfStmts : ℕ → List Stmt → Type 0
OfStmts n [] = Unit {0}
OfStmts n (s ∷ more) = OfStmt n s × OfStmts n more

abbrev expr_in : ℕ → ExprNode → Type 0
expr_in n (Expr-F.Block label b) = OfStmts n b.stmts
expr_in n _ = Unit {0}

-- the same for the statements of the block that an expression is
abbrev OfExpr : ℕ → Expr → Type 0
OfExpr n x = expr_in n (views.out-Expr x)

stmt_more : (m n : ℕ) (s : StmtNode) → m ≤ n → stmt_in m s → stmt_in n s
stmt_more m n (Stmt-F.Stmt::Expr attrs y ended) le h = bare_more m n y le h
stmt_more m n _ le h = tt

stmts_more : (n : ℕ) (xs : List (Stmt × ℕ)) (x : Stmt × ℕ) → OfStmts n (nodes xs) → OfStmt n x.0 → OfStmts n (nodes (xs ++ x ∷ []))
stmts_more n [] x h s = (s, tt)
stmts_more n (y ∷ more) x h s = (h.0, stmts_more n more x h.1 s)

alone_bare : (n : ℕ) (x : Expr) → Lone x → is_lone_body (about_expr x).kind ≡ true → OfExpr n x → Bare (undressed (suc n) x)
alone_bare n _ (IsAlone y macro) h held =
    let stmts : OfStmts n (alone_block y).stmts = subst (expr_in n) (views.outs-Block None (alone_block y)) held in
    let one : Bare (undressed n y) = subst (stmt_in n) (views.outs-Stmt::Expr [] y false) stmts.0 in
    subst Bare (sym (undressed_alone n y h)) one

-- ---- reading

-- What was read leaves that many fewer tokens.
left_of : {A : Type 0} (n : ℕ) (ts : Tokens) (o : Got A) (x : A × Tokens) → o ≡ Some x → Leaves n ts o → Left n ts x.1
left_of n ts o x e l = subst (Leaves n ts) e l

passes_of : (n : ℕ) (ts : Tokens) (o : Option Tokens) (rest : Tokens) → o ≡ Some rest → Passes n ts o → Left n ts rest
passes_of n ts o rest e l = subst (Passes n ts) e l

-- For what is read as many turns suffice as there are tokens.
abbrev Shallow : ExprWithin → Type 0
Shallow within = (place : Place) (ts : Tokens) (r : (Expr × ℕ) × Tokens) → within.exprs place ts ≡ Some r → Bare (undressed (length ts) r.0.0)

module _ (within : ExprWithin) (shallow : Shallow within) (left : LeftCode within) where
  abbrev StmtRead : ℕ → (Stmt × ℕ) × Tokens → Type 0
  StmtRead n r = OfStmt n r.0.0

  expr_read : (attrs : List Attr) (ts : Tokens) (r : (Stmt × ℕ) × Tokens) → expr_stmt within attrs ts ≡ Some r → StmtRead (length ts) r
  unfolding expr_stmt
  expr_read attrs ts r h =
      let n = length ts in
      let x = bind_some (within.exprs statement ts) _ _ h in
      let y = x.0.0.0 in
      let b = shallow statement ts x.0 x.1 in
      let held : (ended : Bool) → OfStmt n (stmt.Expr attrs y ended) =
      λ ended. subst (stmt_in n) (sym (views.outs-Stmt::Expr attrs y ended)) b in
      elim (chosen (first (is_mark (codes ";")) x.0.1) _ _ _ x.2) [
        | inl g ↦ same_some (StmtRead n) ((stmt.Expr attrs y true, x.0.0.1), tail x.0.1) r g.1 (held true)
        | inr g ↦ same_some (StmtRead n) ((stmt.Expr attrs y false, x.0.0.1), x.0.1) r g.1 (held false)
      ]

  let_read : (n : ℕ) (attrs : List Attr) (ts : Tokens) (r : (Stmt × ℕ) × Tokens) → let_stmt within attrs ts ≡ Some r → StmtRead n r
  unfolding let_stmt
  let_read n attrs ts r h =
      let p = bind_some (within.pats Single ts) _ _ h in
      let t = bind_some (if_read (is_op (codes ":") p.0.1) (λ us. within.kinds.types Bounds (drop 1 us)) p.0.1) _ _ p.2 in
      let x = bind_some (if_read (is_op (codes "=") t.0.1) (λ us. within.exprs FREE (drop 1 us)) t.0.1) _ _ t.2 in
      let o = bind_some (if_read (first (is_keyword (codes "else")) x.0.1) (λ us. within.blocks (tail us)) x.0.1) _ _ x.2 in
      let c = bind_some (semicolon o.0.1) _ _ o.2 in
      elim (chosen (else_stands x.0.0.0 (is_some o.0.0.0)) _ _ _ c.2) [
        | inl g ↦
            let held : OfStmt n (stmt.Let attrs p.0.0.0 t.0.0.0 x.0.0.0 o.0.0.0) =
            subst (stmt_in n) (sym (views.outs-Stmt::Let attrs p.0.0.0 t.0.0.0 x.0.0.0 o.0.0.0)) tt in
            same_some (StmtRead n)
            ((stmt.Let attrs p.0.0.0 t.0.0.0 x.0.0.0 o.0.0.0, max p.0.0.1 (max t.0.0.1 (max x.0.0.1 o.0.0.1))), c.0) r g.1 held
        | inr g ↦ absurd (cc g.1)
      ]

  item_read : (n : ℕ) (ts : Tokens) (r : (Stmt × ℕ) × Tokens) → item_stmt within ts ≡ Some r → StmtRead n r
  item_read n ts r h =
      let i = bind_some (within.items Module ts) _ _ h in
      elim (chosen (told_of_item i.0.0.0).call _ _ _ i.2) [
        | inl g ↦ absurd (cc g.1)
        | inr g ↦
            let held : OfStmt n (stmt.Item i.0.0.0) = subst (stmt_in n) (sym (views.outs-Item i.0.0.0)) tt in
            same_some (StmtRead n) ((stmt.Item i.0.0.0, i.0.0.1), i.0.1) r g.1 held
      ]

  stmt_read : (ts : Tokens) (r : (Stmt × ℕ) × Tokens) → stmt_by within ts ≡ Some r → StmtRead (length ts) r
  unfolding stmt_by
  stmt_read ts r h =
      let a = bind_some (attributes false ts) _ _ h in
      let behind = a.0.1 in
      let l = left_of 0 ts (attributes false ts) a.0 a.1 (attributes_left false ts) in
      elim (chosen (first (is_keyword (codes "let")) behind) _ _ _ a.2) [
        | inl g ↦ let_read (length ts) a.0.0 (tail behind) r g.1
        | inr g ↦ elim (chosen (begins_item behind) _ _ _ g.1) [
          | inl f ↦ item_read (length ts) ts r f.1
          | inr f ↦
              stmt_more (length behind) (length ts) (views.out-Stmt r.0.0) (omega (arith, l.fewer))
              (expr_read a.0.0 behind r f.1)
        ]
      ]

  in_block_read : (n : ℕ) (ts : Tokens) (r : (Stmt × ℕ) × Tokens) → length ts ≤ n → stmt_in_block within ts ≡ Some r → StmtRead n r
  in_block_read n ts r le h =
      let s = bind_some (stmt_by within ts) _ _ h in
      let held = stmt_more (length ts) n (views.out-Stmt s.0.0.0) le (stmt_read ts s.0 s.1) in
      elim (chosen ((about_stmt s.0.0.0).ends || first (closes Brace) s.0.1) _ _ _ s.2) [
        | inl g ↦ same_some (StmtRead n) (s.0.0, behind_semicolons s.0.1) r g.1 held
        | inr g ↦ absurd (cc g.1)
      ]

  abbrev StmtsRead : ℕ → List (Stmt × ℕ) × Tokens → Type 0
  StmtsRead n r = OfStmts n (nodes r.0)

  from_read : (n turns : ℕ) (found : List (Stmt × ℕ)) (ts : Tokens) (r : List (Stmt × ℕ) × Tokens) → length ts ≤ n → OfStmts n (nodes found)
      → repeat_from more_items (stmt_in_block within) turns found ts ≡ Some r → StmtsRead n r
  unfolding repeat_from
  from_read n zero found ts r le held h = absurd (cc h)
  from_read n (suc turns) found ts r le held h = elim (chosen (more_items ts) _ _ _ h) [
    | inl g ↦
        let s = bind_some (stmt_in_block within ts) _ _ g.1 in
        let l = left_of 1 ts (stmt_in_block within ts) s.0 s.1 (in_block_left within left ts) in
        from_read n turns (found ++ s.0.0 ∷ []) s.0.1 r (omega (arith, le, l.fewer))
        (stmts_more n found s.0.0 held (in_block_read n ts s.0 le s.1)) s.2
    | inr g ↦ same_some (StmtsRead n) (found, ts) r g.1 held
  ]

  stmts_read : (n : ℕ) (ts : Tokens) (r : List (Stmt × ℕ) × Tokens) → length ts ≤ n
      → repeat more_items (stmt_in_block within) ts ≡ Some r → StmtsRead n r
  unfolding repeat
  stmts_read n ts r le h = from_read n (suc (length ts)) [] ts r le tt h

  -- What a block holds is read from fewer tokens than the block.
  abbrev BlockRead : ℕ → (Block × ℕ) × Tokens → Type 0
  BlockRead n b = OfStmts n b.0.0.stmts

  block_read : (ts : Tokens) (r : (Block × ℕ) × Tokens) → block_by within ts ≡ Some r
      → (n : ℕ) × (length ts ≡ suc n) × BlockRead n r
  unfolding block_by
  block_read ts r h =
      let o = bind_some (passed (opens Brace) ts) _ _ h in
      let a = bind_some (attributes true o.0) _ _ o.2 in
      let mid = behind_semicolons a.0.1 in
      let s = bind_some (repeat more_items (stmt_in_block within) mid) _ _ a.2 in
      let c = bind_some (passed (closes Brace) s.0.1) _ _ s.2 in
      let l = passes_of 1 ts (passed (opens Brace) ts) o.0 o.1 (passed_left (opens Brace) ts) in
      let m = left_of 0 o.0 (attributes true o.0) a.0 a.1 (attributes_left true o.0) in
      let k = semicolons_left a.0.1 in
      let n = length ts - 1 in
      let held = stmts_read n mid s.0 (omega (arith, l.fewer, m.fewer, k.fewer)) s.1 in
      let b : Block = record { attrs = a.0.0; stmts = nodes s.0.0 } in
      (n, omega (arith, l.fewer), same_some (BlockRead n) ((b, _), c.0) r c.2 held)

  -- ---- operators

  not_lone : {X F : ExprFacts} → X ≡ F → is_lone_body F.kind ≡ false → is_lone_body X.kind ≡ false
  not_lone e n = ap (λ (z : ExprFacts). is_lone_body z.kind) e ∙ n

  abbrev BareRead : (Expr × ℕ) × Tokens → Type 0
  BareRead r = Bare r.0.0

  range_by_bare : (no_struct : Bool) (start : Option Expr) (need : ℕ) (inclusive : Bool) (ts : Tokens) (r : (Expr × ℕ) × Tokens)
      → range_by within no_struct start need inclusive ts ≡ Some r → BareRead r
  range_by_bare no_struct start need inclusive ts r h =
      let x = bind_some (operand_if within 2 no_struct ts) _ _ h in
      elim (chosen (inclusive && not (is_some x.0.0.0)) _ _ _ x.2) [
        | inl g ↦ absurd (cc g.1)
        | inr g ↦
            same_some BareRead ((expr.Range start inclusive x.0.0.0, _), x.0.1) r g.1
            (not_lone (laws.expr_range_is start inclusive x.0.0.0) refl)
      ]

  -- What an operator makes of an expression is no block.
  stage_bare : (level : ℕ) (no_struct : Bool) (lhs : Expr × ℕ) (ts : Tokens) (r : (Expr × ℕ) × Tokens)
      → stage within level no_struct lhs ts ≡ Some r → BareRead r
  unfolding assign_expr range_expr chain_expr cast_expr postfix_expr
  stage_bare zero no_struct lhs ts r h =
      let more = bind_some (operands within 0 no_struct ts) _ _ h in
      let ys = nodes more.0.0 in
      let targets = targets_of lhs.0 ys in
      let value = value_of lhs.0 ys in
      same_some BareRead ((expr.Assign targets value, _), more.0.1) r more.2 (not_lone (laws.expr_assign_is targets value) refl)
  stage_bare (suc zero) no_struct lhs ts r h = elim (chosen (is_op (codes "..=") ts) _ _ _ h) [
    | inl g ↦ range_by_bare no_struct (Some lhs.0) lhs.1 true (drop 3 ts) r g.1
    | inr g ↦ range_by_bare no_struct (Some lhs.0) lhs.1 false (drop 2 ts) r g.1
  ]
  stage_bare (suc (suc level)) no_struct lhs ts r h = elim (chosen (suc (suc level) == 11) _ _ _ h) [
    | inl g ↦
        let types = bind_some (repeat (first (is_keyword (codes "as"))) (one_type within) ts) _ _ g.1 in
        let ys = nodes types.0.0 in
        same_some BareRead ((expr.Cast lhs.0 ys, _), types.0.1) r types.2 (not_lone (laws.expr_cast_is lhs.0 ys) refl)
    | inr g ↦ elim (chosen (suc (suc level) == 13) _ _ _ g.1) [
      | inl f ↦ elim (chosen ((about_expr lhs.0).is_number && begins_tuple_index ts) _ _ _ f.1) [
        | inl e ↦ absurd (cc e.1)
        | inr e ↦
            let steps = bind_some (repeat begins_step (one_step within) ts) _ _ e.1 in
            let ys = nodes steps.0.0 in
            same_some BareRead ((expr.Postfix lhs.0 ys, _), steps.0.1) r steps.2 (not_lone (laws.expr_postfix_is lhs.0 ys) refl)
      ]
      | inr f ↦
          let more = bind_some (operands within (suc (suc level)) no_struct ts) _ _ f.1 in
          let ys = nodes more.0.0 in
          same_some BareRead ((expr.Chain lhs.0 ys, _), more.0.1) r more.2 (not_lone (laws.expr_chain_is lhs.0 ys) refl)
    ]
  ]

  -- A block that is read is what begins it.
  abbrev Begun : Expr × ℕ → (Expr × ℕ) × Tokens → Type 0
  Begun lhs r = is_lone_body (about_expr r.0.0).kind ≡ true → r.0.0 ≡ lhs.0

  climb_begun : (place : Place) (level : ℕ) (lhs : Expr × ℕ) (ts : Tokens) (r : (Expr × ℕ) × Tokens)
      → climb within place level lhs ts ≡ Some r → Begun lhs r
  unfolding climb
  climb_begun place zero lhs ts r h = same_some (Begun lhs) (lhs, ts) r h (λ e. refl)
  climb_begun place (suc level) lhs ts r h = elim (chosen (nat_le place.level level && strength ts == suc level) _ _ _ h) [
    | inl g ↦ elim (chosen (stands (about_expr lhs.0) (left_place place level ts)) _ _ _ g.1) [
      | inl f ↦
          let x = bind_some (stage within level place.no_struct lhs ts) _ _ f.1 in
          let bare = stage_bare level place.no_struct lhs ts x.0 x.1 in
          let same = climb_begun place level x.0.0 x.0.1 r x.2 in
          λ e. absurd (cc (sym bare ∙ ap (λ (y : Expr). is_lone_body (about_expr y).kind) (sym (same e)) ∙ e))
      | inr f ↦ absurd (cc f.1)
    ]
    | inr g ↦ climb_begun place level lhs ts r g.1
  ]

  climbed_begun : (place : Place) (lhs : Expr × ℕ) (ts : Tokens) (r : (Expr × ℕ) × Tokens)
      → climb_by within place lhs ts ≡ Some r → Begun lhs r
  climbed_begun place lhs ts r h = elim (chosen (is_ended place (about_expr lhs.0) ts) _ _ _ h) [
    | inl g ↦ same_some (Begun lhs) (lhs, ts) r g.1 (λ e. refl)
    | inr g ↦ climb_begun place 14 lhs ts r g.1
  ]

  -- ---- what begins with a `{`

  -- This many turns suffice, where it is a block of one expression.
  abbrev HeldRead : Tokens → (Expr × ℕ) × Tokens → Type 0
  HeldRead ts r = is_lone_body (about_expr r.0.0).kind ≡ true → (n : ℕ) × (length ts ≡ suc n) × OfExpr n r.0.0

  bare_held : (ts : Tokens) (x : Expr) → Bare x → is_lone_body (about_expr x).kind ≡ true
      → (n : ℕ) × (length ts ≡ suc n) × OfExpr n x
  bare_held ts x b e = absurd (cc (sym b ∙ e))

  braced_read : (ts : Tokens) (r : (Expr × ℕ) × Tokens) → labelled_expr within None ts ≡ Some r → HeldRead ts r
  unfolding while_expr for_expr
  braced_read ts r h = elim (chosen (first (opens Brace) ts) _ _ _ h) [
    | inl g ↦
        let b = bind_some (block_by within ts) _ _ g.1 in
        let held = block_read ts b.0 b.1 in
        let x : OfExpr held.0 (expr.Block None b.0.0.0) = subst (expr_in held.0) (sym (views.outs-Block None b.0.0.0)) held.2 in
        same_some (HeldRead ts) ((expr.Block None b.0.0.0, suc b.0.0.1), b.0.1) r b.2 (λ e. (held.0, held.1, x))
    | inr g ↦ elim (chosen (first (is_keyword (codes "loop")) ts) _ _ _ g.1) [
      | inl f ↦
          let b = bind_some (block_by within (tail ts)) _ _ f.1 in
          let made = expr.Loop None b.0.0.0 in
          same_some (HeldRead ts) ((made, suc b.0.0.1), b.0.1) r b.2
          (bare_held ts made (not_lone (laws.expr_loop_is None b.0.0.0) refl))
      | inr f ↦ elim (chosen (first (is_keyword (codes "while")) ts) _ _ _ f.1) [
        | inl e ↦
            let c = bind_some (condition_by within (tail ts)) _ _ e.1 in
            let b = bind_some (block_by within c.0.1) _ _ c.2 in
            let made = expr.While None c.0.0.0 b.0.0.0 in
            same_some (HeldRead ts) ((made, _), b.0.1) r b.2
            (bare_held ts made (not_lone (laws.expr_while_is None c.0.0.0 b.0.0.0) refl))
        | inr e ↦
            let k = bind_some (passed (is_keyword (codes "for")) ts) _ _ e.1 in
            let p = bind_some (within.pats Alternatives k.0) _ _ k.2 in
            let i = bind_some (passed (is_keyword (codes "in")) p.0.1) _ _ p.2 in
            let x = bind_some (within.exprs (plain 0 true) i.0) _ _ i.2 in
            let b = bind_some (block_by within x.0.1) _ _ x.2 in
            let made = expr.For None p.0.0.0 x.0.0.0 b.0.0.0 in
            same_some (HeldRead ts) ((made, _), b.0.1) r b.2
            (bare_held ts made (not_lone (laws.expr_for_is None p.0.0.0 x.0.0.0 b.0.0.0) refl))
      ]
    ]
  ]

  alone_lead : (x : Expr) → Lone x → (about_expr x).lead ≡ ByBrace
  alone_lead _ (IsAlone y macro) = ap (λ (z : ExprFacts). z.lead) (laws.expr_block_is None (alone_block y))

  lone_read : (budget : ℕ) (place : Place) (ts : Tokens) (r : (Expr × ℕ) × Tokens) → expr_lead_at ts ≡ Some ByBrace
      → expr_by within budget place ts ≡ Some r → HeldRead ts r
  unfolding expr_by
  lone_read budget place ts r lead h =
      let y = bind_some (head_by within place.no_struct (expr_lead_at ts) ts) _ _ h in
      let x = bind_some (climb_by within place y.0.0 y.0.1) _ _ y.2 in
      let told = about_expr x.0.0.0 in
      let head : labelled_expr within None ts ≡ Some y.0 =
      subst (λ l. head_by within place.no_struct l ts ≡ Some y.0) lead y.1 in
      let same = climbed_begun place y.0.0 y.0.1 x.0 x.1 in
      let held = braced_read ts y.0 head in
      let read : HeldRead ts x.0 = λ e.
      let s = same e in
      let k = held (subst (λ (z : Expr). is_lone_body (about_expr z).kind ≡ true) s e) in
      (k.0, k.1, subst (OfExpr k.0) (sym s) k.2) in
      elim (chosen (stands told place && root_follows told place x.0.1 && nat_le x.0.0.1 budget) _ _ _ x.2) [
        | inl g ↦ same_some (HeldRead ts) x.0 r g.1 read
        | inr g ↦ absurd (cc g.1)
      ]

  -- Where the tokens begin with the lead of what is read, as many turns suffice as there are tokens.
  expr_shallow : (budget : ℕ) (place : Place) (ts : Tokens) (r : (Expr × ℕ) × Tokens) → expr_lead_at ts ≡ Some (about_expr r.0.0).lead
      → expr_by within budget place ts ≡ Some r → Bare (undressed (length ts) r.0.0)
  expr_shallow budget place ts r lead h = by (is_lone_body (about_expr r.0.0).kind) refl
    where
      by : (lone : Bool) → is_lone_body (about_expr r.0.0).kind ≡ lone → Bare (undressed (length ts) r.0.0)
      by false e = subst Bare (sym (undressed_other (length ts) r.0.0 e)) e
      by true e =
          let l = is_alone r.0.0 e in
          let k = lone_read budget place ts r (lead ∙ ap Some (alone_lead r.0.0 l)) h e in
          subst (λ n. Bare (undressed n r.0.0)) (sym k.1) (alone_bare k.0 r.0.0 l e k.2)

shallow_in : (depth : ℕ) → Shallow (code_in depth)
unfolding code_in
shallow_in zero place ts r h = absurd (cc h)
shallow_in (suc depth) place ts r h =
    expr_shallow (code_in depth) (shallow_in depth) (in_left depth) (suc depth) place ts r (code_led (suc depth) place ts r h) h

-- What is left of an arm's body that is read, when all such braces are off, is what as many turns leave as there are tokens.
pub undressed_read : (depth : ℕ) (place : Place) (ts rest : Tokens) (x y : Expr) (need turns : ℕ)
    → expr_at place depth ts ≡ Some ((x, need), rest) → IsBare turns x y → undressed (length ts) x ≡ y
undressed_read depth place ts rest x y need turns h b =
    same_bare is_lone_body undressed undressed_strips (length ts) turns x (shallow_in depth place ts ((x, need), rest) h)
    (subst Bare (sym b.0) b.1) ∙ b.0

-- The same for a closure's body, of which no pair goes that an arm's keeps.
pub shed_read : (depth : ℕ) (place : Place) (no_struct : Bool) (ts rest : Tokens) (x y : Expr) (need turns : ℕ)
    → expr_at place depth ts ≡ Some ((x, need), rest) → IsShed no_struct turns x y → shed no_struct (length ts) x ≡ y
shed_read depth place no_struct ts rest x y need turns h b =
    let drops : BodyKind → Bool = λ kind. sheds kind no_struct in
    let here = shed_bare no_struct (length ts) x (shallow_in depth place ts ((x, need), rest) h) in
    same_bare drops (shed no_struct) (shed_strips no_struct) (length ts) turns x here (subst (Stays drops) (sym b.0) b.1) ∙ b.0
