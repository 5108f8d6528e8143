-- A block taken apart: its inner attributes, the `;` that are dropped after them, and its statements, each with the `;` that
-- are dropped after it. After a statement that doesn't end by itself the `}` stands.
use Rattle.std.proofs.Common.{◌≡◌, ℕ, Bool, true, false, not, ◌&&◌, ◌||◌, List, [], ◌∷◌, map, if◌then◌else◌, ◌⊎◌, inl, inr, refl, sym, ap, subst, ◌∙◌}
use Rattle.std.proofs.lemmas.Bool.{and_parts, cases_Bool}
use Rattle.lay_piece.specs.Forms.{closing, opening}
use Rattle.lay_piece.specs.declared.kind.Delim.TheVariants.{Brace}
use Rattle.lay_piece.specs.declared.kind.Kind.TheVariants.{Closer, Opener}
use Rattle.lay_form.specs.Form.{Done, Part, Semicolons}
use Rattle.lay_form.specs.Notation.{piece}
use Rattle.lay_form.specs.Spelled.{AnySemicolons, AreBits, IsOne, Spells}
use Rattle.lay_node.specs.Ahead.{Tokens, closes, first}
use Rattle.lay_node.specs.nodes.Attr.{attr_form}
use Rattle.lay_node.specs.declared.attr.Attr.{Attr}
use Rattle.lay_node.proofs.Fronts.{closer_first}
use Rattle.lay_node.proofs.Parts.{Rows, SpelledAt, bit_alone, piece_bit, rows_of_map, rows_parts}
use Rattle.lay_code.specs.nodes.Blocks.{attrs_before, dropped, dropped_if, is_plain, stmt_form, stmts_good}
use Rattle.lay_code.specs.nodes.Code.{about_expr, about_stmt}
use Rattle.lay_code.specs.nodes.CodeFacts.{StmtFacts}
use Rattle.lay_code.specs.declared.blocks.Block.{Block}
use Rattle.lay_code.specs.declared.blocks.Stmt.{Stmt}
use Rattle.lay_code.proofs.nodes.BlocksLaws.{StmtView, IsLet, IsItem, IsExpr, stmt_view, stmt_let_is, stmt_item_is, stmt_expr_is}
use Rattle.lay_code.proofs.reader.BlockForms.{PartsOf}

-- ---- inner attributes

-- The `;` after attributes stand after the last; where there is none, they stand after the `{`.
attrs_apart : (attrs : List Attr) (depth : ℕ) (inside start mid : Tokens) → AreBits (dropped_if (is_plain attrs)) inside start
    → Rows (SpelledAt depth) (attrs_before (map attr_form attrs)) start mid
    → (at : Tokens) × Rows (SpelledAt depth) (map attr_form attrs) inside at × AnySemicolons at mid
attrs_apart [] depth inside start mid s r = (inside, refl, subst (λ us. AnySemicolons inside us) r (bit_alone Semicolons inside start s))
attrs_apart (a ∷ more) depth inside start mid s r = subst Apart (sym s) (by a more start r)
  where
    Apart : Tokens → Type 0
    Apart us = (at : Tokens) × Rows (SpelledAt depth) (map attr_form (a ∷ more)) us at × AnySemicolons at mid

    by : (a : Attr) (more : List Attr) (us : Tokens) → Rows (SpelledAt depth) (attrs_before (map attr_form (a ∷ more))) us mid
        → (at : Tokens) × Rows (SpelledAt depth) (map attr_form (a ∷ more)) us at × AnySemicolons at mid
    by a [] us t =
        let one = t.1 in
        let p : AnySemicolons one.0 t.0 = piece_bit Semicolons depth one.0 t.0 one.2 in
        (one.0, (one.0, one.1, refl), subst (λ vs. AnySemicolons one.0 vs) t.2 p)
    by a (b ∷ others) us t = let u = by b others t.0 t.2 in (u.0, (t.0, t.1, u.1), u.2)

-- ---- statements

-- what follows a statement; the flag says that it is an expression without a `;`
abbrev pub Behind : Bool → Tokens → Tokens → Type 0
Behind true ts rest = ts ≡ rest
Behind false ts rest = AnySemicolons ts rest

-- a statement and what follows it
pub record StmtRow (depth : ℕ) (s : Stmt) (ts rest : Tokens) : Type 0 where
  pub at : Tokens
  pub spelled : Spells (about_stmt s).form depth ts at
  pub behind : Behind (about_stmt s).unended at rest
  pub good : (about_stmt s).good ≡ true
  pub ends : ((about_stmt s).ends ≡ true) ⊎ (first (closes Brace) at ≡ true)

stmt_apart : (s : StmtFacts) (depth : ℕ) (ts rest : Tokens) → Spells (stmt_form s) depth ts rest
    → (at : Tokens) × Spells s.form depth ts at × Behind s.unended at rest
stmt_apart s depth ts rest t = by s.unended t
  where
    by : (b : Bool) → Spells (if b then Part s.form Done else Part s.form (piece dropped)) depth ts rest
        → (at : Tokens) × Spells s.form depth ts at × Behind b at rest
    by true t = t
    by false t = (t.0, t.1, piece_bit Semicolons depth t.0 rest t.2)

-- What doesn't end by itself has no `;`.
not_ended : (s : Stmt) → (about_stmt s).ends ≡ false → (about_stmt s).unended ≡ true
not_ended s h = by s (stmt_view s) h
  where
    none : (a b : Bool) → (a || b) ≡ false → not a ≡ true
    none true b e = absurd (cc)
    none false b e = refl

    by : (s : Stmt) → StmtView s → (about_stmt s).ends ≡ false → (about_stmt s).unended ≡ true
    by _ (IsLet attrs pat ty x b) e = let f = sym (ap (λ (F : StmtFacts). F.ends) (stmt_let_is attrs pat ty x b)) ∙ e in absurd (cc)
    by _ (IsItem i) e = let f = sym (ap (λ (F : StmtFacts). F.ends) (stmt_item_is i)) ∙ e in absurd (cc)
    by _ (IsExpr attrs x ended) e =
        let is = stmt_expr_is attrs x ended in
        ap (λ (F : StmtFacts). F.unended) is ∙ none ended (about_expr x).block_like (sym (ap (λ (F : StmtFacts). F.ends) is) ∙ e)

stmts_apart : (ss : List Stmt) (depth : ℕ) (ts end rest : Tokens) → Rows (λ s. SpelledAt depth (stmt_form (about_stmt s))) ss ts end
    → stmts_good (map about_stmt ss) ≡ true → IsOne (Closer Brace) (closing Brace ∷ []) end rest → Rows (StmtRow depth) ss ts end
stmts_apart [] depth ts end rest r g c = r
stmts_apart (s ∷ []) depth ts end rest r g c =
    let t = stmt_apart (about_stmt s) depth ts r.0 r.1 in
    let shut = (closer_first Brace end rest c).0 in (
      r.0,
      record {
        at = t.0;
        spelled = t.1;
        behind = t.2;
        good = g;
        ends = elim (cases_Bool (about_stmt s).ends) [
          | inl e ↦ inl e
          | inr e ↦
              let same : t.0 ≡ r.0 = unended (about_stmt s).unended (not_ended s e) t.0 r.0 t.2 in
              inr (subst (λ us. first (closes Brace) us ≡ true) (sym (same ∙ r.2)) shut)
        ];
      },
      r.2,
    )
  where
    unended : (b : Bool) → b ≡ true → (us vs : Tokens) → Behind b us vs → us ≡ vs
    unended true e us vs h = h
    unended false e us vs h = absurd (cc)
stmts_apart (s ∷ v ∷ more) depth ts end rest r g c =
    let t = stmt_apart (about_stmt s) depth ts r.0 r.1 in
    let g2 = and_parts ((about_stmt s).good && (about_stmt s).ends) (stmts_good (map about_stmt (v ∷ more))) g in
    let g1 = and_parts (about_stmt s).good (about_stmt s).ends g2.0 in (
      r.0,
      record { at = t.0; spelled = t.1; behind = t.2; good = g1.0; ends = inl g1.1 },
      stmts_apart (v ∷ more) depth r.0 end rest r.2 g2.1 c,
    )

-- ---- blocks

pub record BlockRows (b : Block) (depth : ℕ) (ts rest : Tokens) : Type 0 where
  pub inside : Tokens
  pub at : Tokens
  pub start : Tokens
  pub end : Tokens
  pub opened : IsOne (Opener Brace) (opening Brace ∷ []) ts inside
  pub attrs : Rows (SpelledAt depth) (map attr_form b.attrs) inside at
  pub dropped_there : AnySemicolons at start
  pub stmts : Rows (StmtRow depth) b.stmts start end
  pub closed : IsOne (Closer Brace) (closing Brace ∷ []) end rest

pub block_rows : (b : Block) (depth : ℕ) (ts rest : Tokens) → PartsOf b depth ts rest → stmts_good (map about_stmt b.stmts) ≡ true
    → BlockRows b depth ts rest
block_rows b depth ts rest p g =
    let m = rows_parts (SpelledAt depth) (attrs_before (map attr_form b.attrs)) (map stmt_form (map about_stmt b.stmts)) p.start p.end p.rows in
    let a = attrs_apart b.attrs depth p.inside p.start m.0 p.skipped m.1 in
    let r =
    rows_of_map about_stmt (λ (s : StmtFacts). SpelledAt depth (stmt_form s)) b.stmts m.0 p.end
    (rows_of_map stmt_form (SpelledAt depth) (map about_stmt b.stmts) m.0 p.end m.2) in
    record {
      inside = p.inside;
      at = a.0;
      start = m.0;
      end = p.end;
      opened = p.opened;
      attrs = a.1;
      dropped_there = a.2;
      stmts = stmts_apart b.stmts depth m.0 p.end rest r g p.closed;
      closed = p.closed;
    }
