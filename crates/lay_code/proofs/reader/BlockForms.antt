-- A block begins with a `{`, and is spelled alike in each of its forms: they differ in breaks and blanks alone.
use Rattle.std.proofs.Common.{◌≡◌, ℕ, ◌≤◌, Bool, true, false, not, ◌&&◌, List, [], ◌∷◌, ◌++◌, map, length, if◌then◌else◌, refl, sym, ap, subst, ◌∙◌, arith}
use Rattle.std.proofs.lemmas.Bool.{and_parts}
use Rattle.lay_piece.specs.Forms.{opening, closing}
use Rattle.lay_piece.specs.declared.kind.Delim.TheVariants.{Brace}
use Rattle.lay_piece.specs.declared.kind.Kind.TheVariants.{Opener, Closer}
use Rattle.lay_form.specs.Form.{Bit, Form, Done, Piece, Part, opener, closer}
use Rattle.lay_form.specs.Notation.{H, H-, N, C4, piece, each, body, soft}
use Rattle.lay_form.specs.Spelled.{IsOne, AreBits, Spells}
use Rattle.lay_form.proofs.FormLaws.{bits_end, shorter}
use Rattle.lay_node.specs.Ahead.{Tokens}
use Rattle.lay_node.specs.nodes.Attr.{attr_form}
use Rattle.lay_node.specs.nodes.Fields.{blank_if}
use Rattle.lay_node.specs.declared.attr.Attr.{Attr}
use Rattle.lay_node.proofs.Fronts.{end_shorter}
use Rattle.lay_node.proofs.Parts.{Rows, SpelledAt, behind_blank, bit_alone, bit_piece, bits_parts, body_spelled, led_blank, part_alone, piece_bit}
use Rattle.lay_code.specs.nodes.Blocks.{attrs_before, block_form, dropped, dropped_if, is_plain, soft_form, stmt_form}
use Rattle.lay_code.specs.nodes.Code.{about_block, about_stmt}
use Rattle.lay_code.specs.nodes.CodeFacts.{BlockFacts, StmtFacts}
use Rattle.lay_code.specs.declared.blocks.Block.{Block}
use Rattle.lay_code.specs.declared.blocks.Stmt.{Stmt}
use Rattle.lay_code.proofs.nodes.BlocksLaws.{StmtView, IsLet, IsItem, IsExpr, block_is, stmt_view, stmt_let_is, stmt_item_is, stmt_expr_is}

-- ---- a block begins with a `{`

-- A `{` comes next, and no less is left after it than after the whole.
abbrev pub Opened : Tokens → Tokens → Type 0
Opened ts rest = (inside : Tokens) × IsOne (Opener Brace) (opening Brace ∷ []) ts inside × (length rest ≤ length inside)

-- A leading blank is no token.
unled : (lead : Bool) (bs : List Bit) (ts rest : Tokens) → AreBits (blank_if lead ++ bs) ts rest → AreBits bs ts rest
unled true bs ts rest s = behind_blank bs ts rest s
unled false bs ts rest s = s

piece_opened : (lead : Bool) (bs : List Bit) (f : Form) (depth : ℕ) (ts rest : Tokens)
    → Spells (Piece (blank_if lead ++ (opener Brace ∷ bs)) f) depth ts rest → Opened ts rest
piece_opened lead bs f depth ts rest s =
    let o = unled lead (opener Brace ∷ bs) ts s.0 s.1 in
    (o.0, o.1, omega (arith, end_shorter o.0 s.0 (bits_end bs o.0 s.0 o.2), shorter f depth s.0 rest s.2))

pub body_opened : (lead : Bool) (skipped : List Bit) (fs : List Form) (depth : ℕ) (ts rest : Tokens)
    → Spells (body (blank_if lead) skipped fs) depth ts rest → Opened ts rest
body_opened lead skipped [] depth ts rest s = piece_opened lead (skipped ++ closer Brace ∷ []) Done depth ts rest s
body_opened lead skipped (f ∷ fs) depth ts rest s =
    piece_opened lead skipped (N (C4 (Part (each H (f ∷ fs)) (H- Done)) (piece (closer Brace ∷ [])))) depth ts rest s

pub block_form_opened : (attrs : List Attr) (stmts : List StmtFacts) (lead : Bool) (depth : ℕ) (ts rest : Tokens)
    → Spells (block_form attrs stmts lead) depth ts rest → Opened ts rest
block_form_opened attrs stmts lead depth ts rest s =
    body_opened lead (dropped_if (is_plain attrs)) (attrs_before (map attr_form attrs) ++ map stmt_form stmts) depth ts rest s

-- a block, whether a blank stands before it or not
pub block_opened : (b : Block) (lead : Bool) (depth : ℕ) (ts rest : Tokens) → Spells ((about_block b).form lead) depth ts rest → Opened ts rest
block_opened b lead depth ts rest s =
    block_form_opened b.attrs (map about_stmt b.stmts) lead depth ts rest
    (subst (λ (F : BlockFacts). Spells (F.form lead) depth ts rest) (block_is b) s)

-- ---- a block taken apart

-- its braces, what is skipped after the first, its inner attributes and its statements
pub record BlockParts (attrs : List Attr) (stmts : List StmtFacts) (depth : ℕ) (ts rest : Tokens) : Type 0 where
  pub inside : Tokens
  pub start : Tokens
  pub end : Tokens
  pub opened : IsOne (Opener Brace) (opening Brace ∷ []) ts inside
  pub skipped : AreBits (dropped_if (is_plain attrs)) inside start
  pub rows : Rows (SpelledAt depth) (attrs_before (map attr_form attrs) ++ map stmt_form stmts) start end
  pub closed : IsOne (Closer Brace) (closing Brace ∷ []) end rest

each_line_rows : (fs : List Form) (depth : ℕ) (ts rest : Tokens) → Spells (each H fs) depth ts rest → Rows (SpelledAt depth) fs ts rest
each_line_rows [] depth ts rest s = s
each_line_rows (f ∷ fs) depth ts rest s = (s.0, s.1, each_line_rows fs depth s.0 rest s.2)

-- a body, whatever is skipped after its `{`
abbrev BodyParts : List Bit → List Form → ℕ → Tokens → Tokens → Type 0
BodyParts skips fs depth ts rest = (inside start end : Tokens) × IsOne (Opener Brace) (opening Brace ∷ []) ts inside
    × AreBits skips inside start × Rows (SpelledAt depth) fs start end × IsOne (Closer Brace) (closing Brace ∷ []) end rest

body_taken : (lead : Bool) (skips : List Bit) (fs : List Form) (depth : ℕ) (ts rest : Tokens) → Spells (body (blank_if lead) skips fs) depth ts rest
    → BodyParts skips fs depth ts rest
body_taken lead skips [] depth ts rest t =
    let o = unled lead (opener Brace ∷ (skips ++ closer Brace ∷ [])) ts t.0 t.1 in
    let q = bits_parts skips (closer Brace ∷ []) o.0 t.0 o.2 in
    let c : IsOne (Closer Brace) (closing Brace ∷ []) q.0 t.0 = bit_alone (closer Brace) q.0 t.0 q.2 in
    (o.0, q.0, q.0, o.1, q.1, refl, subst (λ us. IsOne (Closer Brace) (closing Brace ∷ []) q.0 us) t.2 c)
body_taken lead skips (f ∷ fs) depth ts rest t =
    let o = unled lead (opener Brace ∷ skips) ts t.0 t.1 in
    let u = part_alone (each H (f ∷ fs)) depth t.0 t.2.0 t.2.1 in
    (o.0, t.0, t.2.0, o.1, o.2, each_line_rows (f ∷ fs) depth t.0 t.2.0 u, piece_bit (closer Brace) depth t.2.0 rest t.2.2)

pub block_parts : (attrs : List Attr) (stmts : List StmtFacts) (lead : Bool) (depth : ℕ) (ts rest : Tokens)
    → Spells (block_form attrs stmts lead) depth ts rest → BlockParts attrs stmts depth ts rest
block_parts attrs stmts lead depth ts rest s =
    let fs = attrs_before (map attr_form attrs) ++ map stmt_form stmts in
    let p = body_taken lead (dropped_if (is_plain attrs)) fs depth ts rest s in
    record { inside = p.0; start = p.1; end = p.2; opened = p.3; skipped = p.4; rows = p.5; closed = p.6 }

pub parts_block : (attrs : List Attr) (stmts : List StmtFacts) (lead : Bool) (depth : ℕ) (ts rest : Tokens)
    → BlockParts attrs stmts depth ts rest → Spells (block_form attrs stmts lead) depth ts rest
parts_block attrs stmts lead depth ts rest p =
    body_spelled (blank_if lead) (dropped_if (is_plain attrs)) (attrs_before (map attr_form attrs) ++ map stmt_form stmts) depth
    ts ts p.inside p.start p.end rest (led_blank lead ts) p.opened p.skipped p.rows p.closed

-- ---- SOFT

-- What has neither attributes nor a `;` is no statement after which `;` may stand.
pub bare_unended : (s : Stmt) → (about_stmt s).bare ≡ true → (about_stmt s).unended ≡ true
bare_unended s h = by s (stmt_view s) h
  where
    by : (s : Stmt) → StmtView s → (about_stmt s).bare ≡ true → (about_stmt s).unended ≡ true
    by _ (IsLet attrs pat ty x b) e = let f = sym (ap (λ (F : StmtFacts). F.bare) (stmt_let_is attrs pat ty x b)) ∙ e in absurd (cc)
    by _ (IsItem i) e = let f = sym (ap (λ (F : StmtFacts). F.bare) (stmt_item_is i)) ∙ e in absurd (cc)
    by _ (IsExpr attrs x ended) e =
        let is = stmt_expr_is attrs x ended in
        let f : (is_plain attrs && not ended) ≡ true = sym (ap (λ (F : StmtFacts). F.bare) is) ∙ e in
        ap (λ (F : StmtFacts). F.unended) is ∙ (and_parts (is_plain attrs) (not ended) f).1

-- such a statement alone
soft_parts : (s : StmtFacts) (depth : ℕ) (ts rest : Tokens) → s.unended ≡ true → Spells (soft s.form) depth ts rest
    → BlockParts [] (s ∷ []) depth ts rest
soft_parts s depth ts rest u t =
    let o = behind_blank (opener Brace ∷ dropped) ts t.0 t.1 in
    let x = t.2.1 in
    let row : Spells (stmt_form s) depth t.0 t.2.0 = rw u x in
    record {
      inside = o.0;
      start = t.0;
      end = t.2.0;
      opened = o.1;
      skipped = o.2;
      rows = (t.2.0, row, refl);
      closed = piece_bit (closer Brace) depth t.2.0 rest t.2.2;
    }

parts_soft : (s : StmtFacts) (depth : ℕ) (ts rest : Tokens) → s.unended ≡ true → BlockParts [] (s ∷ []) depth ts rest
    → Spells (soft s.form) depth ts rest
parts_soft s depth ts rest u p =
    let row = p.rows in
    let one : Spells (stmt_form s) depth p.start p.end = subst (λ us. Spells (stmt_form s) depth p.start us) row.2 row.1 in
    let alone : Spells (Part s.form Done) depth p.start p.end = unended_row s.unended u one in
    (p.start, (ts, refl, (p.inside, p.opened, p.skipped)), (p.end, alone, bit_piece (closer Brace) depth p.end rest p.closed))
  where
    unended_row : (b : Bool) → b ≡ true → Spells (if b then Part s.form Done else Part s.form (piece dropped)) depth p.start p.end
        → Spells (Part s.form Done) depth p.start p.end
    unended_row true e t = t
    unended_row false e t = absurd (cc)

soft_taken : (attrs : List Attr) (ss : List Stmt) (depth : ℕ) (ts rest : Tokens) → Spells (soft_form attrs (map about_stmt ss)) depth ts rest
    → BlockParts attrs (map about_stmt ss) depth ts rest
soft_taken [] [] depth ts rest t = block_parts [] [] true depth ts rest t
soft_taken [] (s ∷ []) depth ts rest t = by (about_stmt s).bare (bare_unended s) t
  where
    by : (b : Bool) → (b ≡ true → (about_stmt s).unended ≡ true)
        → Spells (if b then soft (about_stmt s).form else block_form [] (about_stmt s ∷ []) true) depth ts rest
        → BlockParts [] (about_stmt s ∷ []) depth ts rest
    by true u t = soft_parts (about_stmt s) depth ts rest (u refl) t
    by false u t = block_parts [] (about_stmt s ∷ []) true depth ts rest t
soft_taken [] (s ∷ v ∷ more) depth ts rest t = block_parts [] (map about_stmt (s ∷ v ∷ more)) true depth ts rest t
soft_taken (a ∷ others) ss depth ts rest t = block_parts (a ∷ others) (map about_stmt ss) true depth ts rest t

taken_soft : (attrs : List Attr) (ss : List Stmt) (depth : ℕ) (ts rest : Tokens) → BlockParts attrs (map about_stmt ss) depth ts rest
    → Spells (soft_form attrs (map about_stmt ss)) depth ts rest
taken_soft [] [] depth ts rest p = parts_block [] [] true depth ts rest p
taken_soft [] (s ∷ []) depth ts rest p = by (about_stmt s).bare (bare_unended s)
  where
    by : (b : Bool) → (b ≡ true → (about_stmt s).unended ≡ true)
        → Spells (if b then soft (about_stmt s).form else block_form [] (about_stmt s ∷ []) true) depth ts rest
    by true u = parts_soft (about_stmt s) depth ts rest (u refl) p
    by false u = parts_block [] (about_stmt s ∷ []) true depth ts rest p
taken_soft [] (s ∷ v ∷ more) depth ts rest p = parts_block [] (map about_stmt (s ∷ v ∷ more)) true depth ts rest p
taken_soft (a ∷ others) ss depth ts rest p = parts_block (a ∷ others) (map about_stmt ss) true depth ts rest p

-- ---- of a block

-- the parts of a block
abbrev pub PartsOf : Block → ℕ → Tokens → Tokens → Type 0
PartsOf b depth ts rest = BlockParts b.attrs (map about_stmt b.stmts) depth ts rest

-- from each form to the parts
pub form_parts : (b : Block) (lead : Bool) (depth : ℕ) (ts rest : Tokens) → Spells ((about_block b).form lead) depth ts rest → PartsOf b depth ts rest
form_parts b lead depth ts rest s =
    block_parts b.attrs (map about_stmt b.stmts) lead depth ts rest (subst (λ (F : BlockFacts). Spells (F.form lead) depth ts rest) (block_is b) s)

pub soft_of_parts : (b : Block) (depth : ℕ) (ts rest : Tokens) → PartsOf b depth ts rest → Spells (about_block b).soft depth ts rest
soft_of_parts b depth ts rest p =
    subst (λ (F : BlockFacts). Spells F.soft depth ts rest) (sym (block_is b)) (taken_soft b.attrs b.stmts depth ts rest p)

-- and back
pub form_of_parts : (b : Block) (lead : Bool) (depth : ℕ) (ts rest : Tokens) → PartsOf b depth ts rest → Spells ((about_block b).form lead) depth ts rest
form_of_parts b lead depth ts rest p =
    subst (λ (F : BlockFacts). Spells (F.form lead) depth ts rest) (sym (block_is b)) (parts_block b.attrs (map about_stmt b.stmts) lead depth ts rest p)

pub parts_of_soft : (b : Block) (depth : ℕ) (ts rest : Tokens) → Spells (about_block b).soft depth ts rest → PartsOf b depth ts rest
parts_of_soft b depth ts rest s =
    soft_taken b.attrs b.stmts depth ts rest (subst (λ (F : BlockFacts). Spells F.soft depth ts rest) (block_is b) s)

-- So its forms are spelled alike.
pub lead_alike : (b : Block) (lead other : Bool) (depth : ℕ) (ts rest : Tokens) → Spells ((about_block b).form lead) depth ts rest
    → Spells ((about_block b).form other) depth ts rest
lead_alike b lead other depth ts rest s = form_of_parts b other depth ts rest (form_parts b lead depth ts rest s)

pub soft_to_form : (b : Block) (lead : Bool) (depth : ℕ) (ts rest : Tokens) → Spells (about_block b).soft depth ts rest
    → Spells ((about_block b).form lead) depth ts rest
soft_to_form b lead depth ts rest s = form_of_parts b lead depth ts rest (parts_of_soft b depth ts rest s)

pub form_to_soft : (b : Block) (lead : Bool) (depth : ℕ) (ts rest : Tokens) → Spells ((about_block b).form lead) depth ts rest
    → Spells (about_block b).soft depth ts rest
form_to_soft b lead depth ts rest s = soft_of_parts b depth ts rest (form_parts b lead depth ts rest s)

-- SOFT begins with a `{` too.
pub soft_opened : (b : Block) (depth : ℕ) (ts rest : Tokens) → Spells (about_block b).soft depth ts rest → Opened ts rest
soft_opened b depth ts rest s = block_opened b true depth ts rest (soft_to_form b true depth ts rest s)
