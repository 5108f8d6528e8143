-- Blocks and statements: what is parsed stands there, if that holds one level deeper.
use Rattle.std.proofs.Common.{◌≡◌, ℕ, suc, ◌≤◌, max, Bool, true, false, not, ◌&&◌, List, [], ◌∷◌, map, inl, inr, codes, drop, Option, option_map, Some, None, is_some, refl, sym, ap, subst, arith, if◌then◌else◌}
use Rattle.std.proofs.lemmas.Bool.{and_parts, and_from}
use Rattle.lay_piece.specs.declared.kind.Delim.TheVariants.{Brace}
use Rattle.lay_piece.specs.declared.kind.Kind.TheVariants as kind
use Rattle.lay_token.specs.Operators.{is_op}
use Rattle.lay_form.specs.Form.{Blank, Fixed, Form, Operator, Part, Piece, Semicolons, keyword, semicolon}
use Rattle.lay_form.specs.Notation.{behind_attrs, piece}
use Rattle.lay_form.specs.Spelled.{AnySemicolons, IsOperator, Spells}
use Rattle.lay_form.proofs.FormLaws.{deeper as raise}
use Rattle.lay_node.specs.Ahead.{Tokens, first, tail, closes, is_keyword, is_mark, more_items}
use Rattle.lay_node.specs.nodes.Attr.{are_attrs, attr_form, about_attr}
use Rattle.lay_node.specs.nodes.Functions.{may_be_type}
use Rattle.lay_node.specs.nodes.Patterns.{about_pat, pat_form, pat_good}
use Rattle.lay_node.specs.nodes.Types.{about_type}
use Rattle.lay_node.specs.reader.Attr.{attributes}
use Rattle.lay_node.specs.reader.Exact.{InText}
use Rattle.lay_node.specs.reader.Heads.{semicolon as semicolon_read}
use Rattle.lay_node.specs.reader.Types.{if_read}
use Rattle.lay_node.specs.declared.attr.Attr.{Attr}
use Rattle.lay_node.specs.declared.heads.Site.TheVariants.{Module}
use Rattle.lay_node.specs.declared.patterns.PatPlace.TheVariants.{Single}
use Rattle.lay_node.specs.declared.types.Ty.{Ty}
use Rattle.lay_node.specs.declared.types.TypePlace.TheVariants.{Bounds}
use Rattle.lay_node.proofs.Fronts.{closer_kind, keyword_one, mark_one, mark_passed_is}
use Rattle.lay_node.proofs.Parts.{GoodAt, Rows, behind_attrs_spelled, bit_piece}
use Rattle.lay_node.proofs.Steps.{bind_some, chosen, same_some}
use Rattle.lay_node.proofs.reader.Attr.{attributes_sound, attrs_spelled}
use Rattle.lay_node.proofs.reader.Loops.{SoundStep}
use Rattle.lay_node.proofs.reader.TypesSoundParts.{Out, bit_texts, if_read_sound}
use Rattle.lay_code.specs.nodes.Blocks.{else_form, else_good, is_plain, let_type, precedes_else, stmt_facts, ended_form}
use Rattle.lay_code.specs.nodes.Code.{about_block, about_expr, about_stmt, told_of_item}
use Rattle.lay_code.specs.nodes.CodeFacts.{StmtFacts}
use Rattle.lay_code.specs.nodes.Exprs.{placed, value_form, value_placed}
use Rattle.lay_code.specs.nodes.Places.{FREE, statement}
use Rattle.lay_code.specs.reader.Blocks.{begins_item, behind_semicolons, else_stands, expr_stmt, item_stmt, let_stmt, stmt_by}
use Rattle.lay_code.specs.reader.Within.{ExprWithin}
use Rattle.lay_code.specs.declared.blocks.Block.{Block}
use Rattle.lay_code.specs.declared.blocks.Stmt.{Stmt}
use Rattle.lay_code.specs.declared.blocks.Stmt.TheOpen.{Stmt-F}
use Rattle.lay_code.specs.declared.blocks.Stmt.TheVariants as stmt
use Rattle.lay_code.specs.declared.exprs.Expr.{Expr}
use Rattle.lay_code.proofs.nodes.BlocksLaws.{IsExpr, IsItem, IsLet, StmtView, stmt_expr_is, stmt_item_is, stmt_let_is, stmt_view}
use Rattle.lay_code.proofs.reader.ExprSoundLevel.{SoundExprWithin}

-- ---- any number of `;`

-- What is left begins after all `;` that come first.
pub semicolons_behind : (ts : Tokens) → AnySemicolons ts (behind_semicolons ts)
semicolons_behind [] = (0, refl)
semicolons_behind (t ∷ ts) = by (is_mark (codes ";") t) refl (semicolons_behind ts)
  where
    by : (b : Bool) → is_mark (codes ";") t ≡ b → AnySemicolons ts (behind_semicolons ts)
        → AnySemicolons (t ∷ ts) (if b then behind_semicolons ts else t ∷ ts)
    by true e more = (suc more.0, (ts, mark_one (codes ";") (t ∷ ts) e, more.1))
    by false e more = (0, refl)

pub semicolons_texts : (ts : Tokens) → InText ts → InText (behind_semicolons ts)
semicolons_texts ts t = bit_texts Semicolons ts (behind_semicolons ts) (semicolons_behind ts) t

-- Where no `;` comes first, nothing is skipped.
pub no_semicolons : (ts : Tokens) → first (is_mark (codes ";")) ts ≡ false → behind_semicolons ts ≡ ts
no_semicolons [] h = refl
no_semicolons (t ∷ ts) h = rw h refl

-- A `}` is no `;`.
pub closer_mark : (ts : Tokens) → first (closes Brace) ts ≡ true → first (is_mark (codes ";")) ts ≡ false
closer_mark [] h = absurd (cc h)
closer_mark (t ∷ ts) h = rw (closer_kind Brace t.kind h) refl

-- Nothing more stands before a `}`.
pub closer_last : (ts : Tokens) → first (closes Brace) ts ≡ true → more_items ts ≡ false
closer_last [] h = absurd (cc h)
closer_last (t ∷ ts) h = rw h refl

-- The greater of two is within what both are within.
pub most_within : (a b n : ℕ) → a ≤ n → b ≤ n → max a b ≤ n
most_within a b n h g = omega (arith, h, g)

never : (A : Type 0) → false ≡ true → A
never A h = absurd (cc h)

-- ---- what is held of statements

-- A statement stands there at the depth that stands with it, which is within the budget. No `;` stands after one that
-- may not have one.
pub record IsStmt (budget : ℕ) (s : StmtFacts) (n : ℕ) (ts rest : Tokens) : Type 0 where
  pub need : n ≤ budget
  pub form : Spells s.form n ts rest
  pub good : s.good ≡ true
  pub last : s.unended ≡ true → first (is_mark (codes ";")) rest ≡ false

abbrev pub StmtHeld : ℕ → Stmt × ℕ → Tokens → Tokens → Type 0
StmtHeld budget x ts rest = IsStmt budget (about_stmt x.0) x.1 ts rest

stmt_told : (budget : ℕ) (X F : StmtFacts) (n : ℕ) (ts rest : Tokens) → X ≡ F → IsStmt budget F n ts rest → IsStmt budget X n ts rest
stmt_told budget X F n ts rest e s = subst (λ (z : StmtFacts). IsStmt budget z n ts rest) (sym e) s

-- What lacks its `;` and is bare is told of statements alike.
pub bare_unended : (s : Stmt) → (about_stmt s).bare ≡ true → (about_stmt s).unended ≡ true
bare_unended s = by s (stmt_view s)
  where
    last : (a b : Bool) → (a && b) ≡ true → b ≡ true
    last a b h = (and_parts a b h).1

    P : StmtFacts → Type 0
    P z = z.bare ≡ true → z.unended ≡ true

    by : (s : Stmt) → StmtView s → P (about_stmt s)
    by _ (IsLet attrs pat ty x o) = subst P (sym (stmt_let_is attrs pat ty x o)) (λ h. absurd (cc h))
    by _ (IsItem i) = subst P (sym (stmt_item_is i)) (λ h. absurd (cc h))
    by _ (IsExpr attrs x ended) = subst P (sym (stmt_expr_is attrs x ended)) (λ h. last (is_plain attrs) (not ended) h)

module _ (budget : ℕ) (within : ExprWithin) (sound : SoundExprWithin budget within) where
  -- ---- the parts of a `let`

  -- A type after its `:` leads to what follows it, or there is none.
  abbrev pub TypeHeld : Option Ty × ℕ → Tokens → Tokens → Type 0
  TypeHeld x ts rest =
      (x.1 ≤ budget) × ((f : Form) (depth : ℕ) (end : Tokens) → x.1 ≤ depth → Spells f depth rest end → Spells (let_type x.0 f) depth ts end)
      × (may_be_type x.0 ≡ true)

  pub type_sound : (ts : Tokens) (x : Option Ty × ℕ) (rest : Tokens) → InText ts
      → if_read (is_op (codes ":") ts) (λ us. within.kinds.types Bounds (drop 1 us)) ts ≡ Some (x, rest) → Out TypeHeld ts (x, rest)
  type_sound ts x rest t h =
      if_read_sound TypeHeld (λ us. within.kinds.types Bounds (drop 1 us)) (is_op (codes ":") ts) ts
      (λ b y mid e.
      let at = drop 1 ts in
      let o : IsOperator (codes ":") ts at = (b, refl) in
      let s = sound.kinds.types Bounds at y mid (bit_texts (Operator (codes ":")) ts at o t) e in (
        (
          s.0.0,
          (λ f depth end le r. (at, (at, o, (at, refl, refl)), (mid, raise (about_type y.0).told.form y.1 depth at mid le s.0.1, r))),
          s.0.2,
        ),
        s.1,
      ))
      (λ b. (omega arith, (λ f depth end le r. r), refl)) t x rest h

  -- a value after its `=`, if there is one
  abbrev pub ValueHeld : Option Expr × ℕ → Tokens → Tokens → Type 0
  ValueHeld x ts rest =
      (x.1 ≤ budget) × Spells (value_form (option_map about_expr x.0)) x.1 ts rest × (value_placed (option_map about_expr x.0) ≡ true)

  pub value_sound : (ts : Tokens) (x : Option Expr × ℕ) (rest : Tokens) → InText ts
      → if_read (is_op (codes "=") ts) (λ us. within.exprs FREE (drop 1 us)) ts ≡ Some (x, rest) → Out ValueHeld ts (x, rest)
  value_sound ts x rest t h =
      if_read_sound ValueHeld (λ us. within.exprs FREE (drop 1 us)) (is_op (codes "=") ts) ts
      (λ b y mid e.
      let at = drop 1 ts in
      let o : IsOperator (codes "=") ts at = (b, refl) in
      let s = sound.exprs FREE at y mid (bit_texts (Operator (codes "=")) ts at o t) e in
      ((s.0.0, (at, (ts, refl, (at, o, (at, refl, refl))), (mid, s.0.1, refl)), s.0.2), s.1))
      (λ b. (omega arith, refl, refl)) t x rest h

  -- a block after its `else`, if there is one
  abbrev may_good : Option Block → Type 0
  may_good None = Unit {0}
  may_good (Some b) = (about_block b).good ≡ true

  abbrev ElseHeld : Option Block × ℕ → Tokens → Tokens → Type 0
  ElseHeld x ts rest = (x.1 ≤ budget) × Spells (else_form (option_map about_block x.0)) x.1 ts rest × may_good x.0

  else_sound : (ts : Tokens) (x : Option Block × ℕ) (rest : Tokens) → InText ts
      → if_read (first (is_keyword (codes "else")) ts) (λ us. within.blocks (tail us)) ts ≡ Some (x, rest) → Out ElseHeld ts (x, rest)
  else_sound ts x rest t h =
      if_read_sound ElseHeld (λ us. within.blocks (tail us)) (first (is_keyword (codes "else")) ts) ts
      (λ b y mid e.
      let at = tail ts in
      let o = keyword_one (codes "else") ts b in
      let s = sound.blocks at y mid (bit_texts (keyword (codes "else")) ts at o t) e in
      ((s.0.0, (at, (ts, refl, (at, o, refl)), s.0.1), s.0.2), s.1))
      (λ b. (omega arith, refl, tt)) t x rest h

  else_good_is : (x : Option Expr) (o : Option Block) → else_stands x (is_some o) ≡ true → may_good o
      → else_good (option_map about_expr x) (option_map about_block o) ≡ true
  else_good_is x None h g = refl
  else_good_is None (Some b) h g = absurd (cc h)
  else_good_is (Some x) (Some b) h g = and_from (precedes_else (Some (about_expr x))) (about_block b).good h g

  -- ---- statements, after their attributes

  module _ (ts : Tokens) (attrs : List Attr) (at : Tokens)
      (rows : (depth : ℕ) → Rows (GoodAt (about_attr false) depth) attrs ts at) (t : InText at) where
    -- What is spelled after attributes is spelled with them.
    led : (f : Form) (depth : ℕ) (rest : Tokens) → Spells f depth at rest → Spells (behind_attrs (map attr_form attrs) f) depth ts rest
    led f depth rest s =
        behind_attrs_spelled (map attr_form attrs) f depth ts at rest (attrs_spelled false depth attrs ts at (rows depth)).0 s

    are : are_attrs false attrs ≡ true
    are = (attrs_spelled false 0 attrs ts at (rows 0)).1

    let_sound : first (is_keyword (codes "let")) at ≡ true → (x : Stmt × ℕ) (rest : Tokens) → let_stmt within attrs (tail at) ≡ Some (x, rest)
        → Out (StmtHeld budget) ts (x, rest)
    unfolding let_stmt
    let_sound word x rest h =
        let from = tail at in
        let p = bind_some (within.pats Single from) _ _ h in
        let y = bind_some (if_read (is_op (codes ":") p.0.1) (λ us. within.kinds.types Bounds (drop 1 us)) p.0.1) _ _ p.2 in
        let v = bind_some (if_read (is_op (codes "=") y.0.1) (λ us. within.exprs FREE (drop 1 us)) y.0.1) _ _ y.2 in
        let b = bind_some (if_read (first (is_keyword (codes "else")) v.0.1) (λ us. within.blocks (tail us)) v.0.1) _ _ v.2 in
        let c = bind_some (semicolon_read b.0.1) _ _ b.2 in
        let o = keyword_one (codes "let") at word in
        let ps = sound.pats Single from p.0.0 p.0.1 (bit_texts (keyword (codes "let")) at from o t) p.1 in
        let ys = type_sound p.0.1 y.0.0 y.0.1 ps.1 y.1 in
        let vs = value_sound y.0.1 v.0.0 v.0.1 ys.1 v.1 in
        let bs = else_sound v.0.1 b.0.0 b.0.1 vs.1 b.1 in
        let mark = mark_passed_is (codes ";") b.0.1 c.0 c.1 in
        let pat = p.0.0.0 in
        let ty = y.0.0.0 in
        let value = v.0.0.0 in
        let block = b.0.0.0 in
        let most = max p.0.0.1 (max y.0.0.1 (max v.0.0.1 b.0.0.1)) in
        let told = option_map about_expr value in
        let told_block = option_map about_block block in
        let P = pat_form Single (about_pat pat) in
        let behind : Form = Part (value_form told) (Part (else_form told_block) (piece semicolon)) in
        let F = stmt_facts (Stmt-F.Stmt::Let attrs pat ty told told_block) in
        elim (chosen (else_stands value (is_some block)) _ _ _ c.2) [
          | inl g ↦
              let last : Spells behind most y.0.1 c.0 = (
                v.0.1,
                raise (value_form told) v.0.0.1 most y.0.1 v.0.1 (omega arith) vs.0.1,
                (
                  b.0.1,
                  raise (else_form told_block) b.0.0.1 most v.0.1 b.0.1 (omega arith) bs.0.1,
                  bit_piece (Fixed kind.Punct (codes ";")) most b.0.1 c.0 mark,
                ),
              ) in
              let whole : Spells (Piece (keyword (codes "let") ∷ Blank ∷ []) (Part P (let_type ty behind))) most at c.0 = (
                from,
                (from, o, (from, refl, refl)),
                (p.0.1, raise P p.0.0.1 most from p.0.1 (omega arith) ps.0.1, ys.0.1 behind most c.0 (omega arith) last),
              ) in
              let g1 = and_from (are_attrs false attrs) (pat_good Single (about_pat pat)) are ps.0.2 in
              let g2 = and_from (are_attrs false attrs && pat_good Single (about_pat pat)) (may_be_type ty) g1 ys.0.2 in
              let g3 = and_from (are_attrs false attrs && pat_good Single (about_pat pat) && may_be_type ty) (value_placed told) g2 vs.0.2 in
              let g4 = and_from (are_attrs false attrs && pat_good Single (about_pat pat) && may_be_type ty && value_placed told)
              (else_good told told_block) g3 (else_good_is value block g.0 bs.0.2) in
              let there : IsStmt budget F most ts c.0 = record {
                need = most_within _ _ budget ps.0.0 (most_within _ _ budget ys.0.0 (most_within _ _ budget vs.0.0 bs.0.0));
                form = led (Piece (keyword (codes "let") ∷ Blank ∷ []) (Part P (let_type ty behind))) most c.0 whole;
                good = g4;
                last = never (first (is_mark (codes ";")) c.0 ≡ false);
              } in
              same_some (Out (StmtHeld budget) ts) ((stmt.Let attrs pat ty value block, most), c.0) (x, rest) g.1 (
                stmt_told budget (about_stmt (stmt.Let attrs pat ty value block)) F most ts c.0 (stmt_let_is attrs pat ty value block) there,
                bit_texts (Fixed kind.Punct (codes ";")) b.0.1 c.0 mark bs.1,
              )
          | inr g ↦ absurd (cc g.1)
        ]

    expr_sound : (x : Stmt × ℕ) (rest : Tokens) → expr_stmt within attrs at ≡ Some (x, rest) → Out (StmtHeld budget) ts (x, rest)
    unfolding expr_stmt
    expr_sound x rest h =
        let y = bind_some (within.exprs statement at) _ _ h in
        let s = sound.exprs statement at y.0.0 y.0.1 t y.1 in
        let told = about_expr y.0.0.0 in
        let need = y.0.0.1 in
        let mid = y.0.1 in
        let good = and_from (are_attrs false attrs) (placed told statement) are s.0.2 in
        let held : (ended : Bool) (end : Tokens) → Spells (ended_form ended) need mid end
        → (not ended ≡ true → first (is_mark (codes ";")) end ≡ false) → StmtHeld budget (stmt.Expr attrs y.0.0.0 ended, need) ts end =
        λ ended end form last.
        stmt_told budget (about_stmt (stmt.Expr attrs y.0.0.0 ended)) (stmt_facts (Stmt-F.Stmt::Expr attrs told ended)) need ts end
        (stmt_expr_is attrs y.0.0.0 ended) (record {
          need = s.0.0;
          form = led (Part told.form (ended_form ended)) need end (mid, s.0.1, form);
          good = good;
          last = last;
        }) in
        elim (chosen (first (is_mark (codes ";")) mid) _ _ _ y.2) [
          | inl g ↦
              let mark = mark_one (codes ";") mid g.0 in
              same_some (Out (StmtHeld budget) ts) ((stmt.Expr attrs y.0.0.0 true, need), tail mid) (x, rest) g.1 (
                held true (tail mid) (bit_piece (Fixed kind.Punct (codes ";")) need mid (tail mid) mark) (never (first (is_mark (codes ";")) (tail mid) ≡ false)),
                bit_texts (Fixed kind.Punct (codes ";")) mid (tail mid) mark s.1,
              )
          | inr g ↦
              same_some (Out (StmtHeld budget) ts) ((stmt.Expr attrs y.0.0.0 false, need), mid) (x, rest) g.1
              (held false mid refl (λ u. g.0), s.1)
        ]

  item_sound : SoundStep (item_stmt within) (StmtHeld budget)
  item_sound ts x rest t h =
      let i = bind_some (within.items Module ts) _ _ h in
      let s = sound.items Module ts i.0.0 i.0.1 t i.1 in
      let told = told_of_item i.0.0.0 in
      let need = i.0.0.1 in
      elim (chosen told.call _ _ _ i.2) [
        | inl g ↦ absurd (cc g.1)
        | inr g ↦
            let F = stmt_facts (Stmt-F.Item told) in
            let there : IsStmt budget F need ts i.0.1 = record {
              need = s.0.0;
              form = s.0.1.0;
              good = and_from (told.good Module) (not told.call) s.0.1.1 (ap not g.0);
              last = never (first (is_mark (codes ";")) i.0.1 ≡ false);
            } in
            same_some (Out (StmtHeld budget) ts) ((stmt.Item i.0.0.0, need), i.0.1) (x, rest) g.1
            (stmt_told budget (about_stmt (stmt.Item i.0.0.0)) F need ts i.0.1 (stmt_item_is i.0.0.0) there, s.1)
      ]

  -- A statement that is read stands there.
  pub stmt_sound : SoundStep (stmt_by within) (StmtHeld budget)
  unfolding stmt_by
  stmt_sound ts x rest t h =
      let a = bind_some (attributes false ts) _ _ h in
      let attrs = a.0.0 in
      let at = a.0.1 in
      let left = (attributes_sound false 0 ts attrs at t a.1).1 in
      let rows : (depth : ℕ) → Rows (GoodAt (about_attr false) depth) attrs ts at =
      λ depth. (attributes_sound false depth ts attrs at t a.1).0 in
      elim (chosen (first (is_keyword (codes "let")) at) _ _ _ a.2) [
        | inl g ↦ let_sound ts attrs at rows left g.0 x rest g.1
        | inr g ↦ elim (chosen (begins_item at) _ _ _ g.1) [
          | inl f ↦ item_sound ts x rest t f.1
          | inr f ↦ expr_sound ts attrs at rows left x rest f.1
        ]
      ]
