-- Blocks, statements, conditions and branches are parsed where they are spelled, if that holds one
-- level deeper.
use Rattle.std.proofs.Common.{◌≡◌, ℕ, zero, suc, ◌≤◌, ◌<◌, Bool, true, false, ◌&&◌, ◌||◌, List, [], ◌∷◌, map, length, codes, Some, if◌then◌else◌, inl, inr, refl, sym, ap, subst, arith}
use Rattle.std.proofs.lemmas.Bool.{and_parts}
use Rattle.lay_piece.specs.Forms.{opening, closing}
use Rattle.lay_piece.specs.declared.kind.Delim.TheVariants.{Brace}
use Rattle.lay_piece.specs.declared.kind.Kind.TheVariants.{Punct, Opener, Closer}
use Rattle.lay_form.specs.Form.{Semicolons, Done, Part}
use Rattle.lay_form.specs.Notation.{piece}
use Rattle.lay_form.specs.Spelled.{IsOne, AnySemicolons, AreSemicolons, Spells}
use Rattle.lay_node.specs.Ahead.{Tokens, first, is_mark, closes, more_items}
use Rattle.lay_node.specs.nodes.Attr.{are_attrs, attr_form}
use Rattle.lay_node.specs.reader.Attr.{attributes, begins_attr}
use Rattle.lay_node.specs.reader.Loops.{nodes, deepest, repeat}
use Rattle.lay_node.specs.declared.attr.Attr.{Attr}
use Rattle.lay_node.proofs.Fronts.{one_front, opener_passed, closer_first, closer_passed}
use Rattle.lay_node.proofs.Parts.{Rows, SpelledAt, Closed, rows_parts, rows_of_map, bit_alone, piece_bit}
use Rattle.lay_node.proofs.reader.Attr.{attrs_rows}
use Rattle.lay_node.proofs.reader.AttrRead.{attributes_complete}
use Rattle.lay_node.proofs.reader.Exact.{IsRead}
use Rattle.lay_node.proofs.reader.Loops.{Turn, repeat_complete}
use Rattle.lay_code.specs.nodes.Blocks.{attrs_before, dropped, stmt_form, stmts_good}
use Rattle.lay_code.specs.nodes.Code.{about_block, about_stmt}
use Rattle.lay_code.specs.nodes.CodeFacts.{BlockFacts, StmtFacts}
use Rattle.lay_code.specs.reader.Blocks.{behind_semicolons, block_by, stmt_in_block, stmt_by}
use Rattle.lay_code.specs.reader.Within.{ExprWithin}
use Rattle.lay_code.specs.declared.blocks.Block.{Block}
use Rattle.lay_code.specs.declared.blocks.Stmt.{Stmt}
use Rattle.lay_code.proofs.nodes.BlocksLaws.{block_is}
use Rattle.lay_code.proofs.reader.BlockForms.{BlockParts, form_parts, parts_of_soft}
use Rattle.lay_code.proofs.reader.BlockReads.{Begun, Fronts, brace_begun}
use Rattle.lay_code.proofs.reader.StmtsComplete.{Behind, stmt_read, ends_by_itself}
use Rattle.lay_code.proofs.reader.ExprReads.{ExprReads}

-- ---- what spells a block

-- its braces, and within them inner attributes, any number of `;`, and statements
pub record BlockAt (depth : ℕ) (b : Block) (ts rest : Tokens) : Type 0 where
  pub inside : Tokens
  pub mid : Tokens
  pub start : Tokens
  pub end : Tokens
  pub opened : IsOne (Opener Brace) (opening Brace ∷ []) ts inside
  pub attrs : Rows (SpelledAt depth) (map attr_form b.attrs) inside mid
  pub skipped : AnySemicolons mid start
  pub stmts : Rows (λ s. SpelledAt depth (stmt_form (about_stmt s))) b.stmts start end
  pub closed : Closed Brace end rest

-- inner attributes, and the `;` after the last
attrs_then : (a : Attr) (more : List Attr) (depth : ℕ) (ts rest : Tokens) → Rows (SpelledAt depth) (attrs_before (map attr_form (a ∷ more))) ts rest
    → (mid : Tokens) × Rows (SpelledAt depth) (map attr_form (a ∷ more)) ts mid × AnySemicolons mid rest
attrs_then a [] depth ts rest r =
    let one = r.1 in
    (one.0, (one.0, one.1, refl), subst (λ us. AnySemicolons one.0 us) r.2 (piece_bit Semicolons depth one.0 r.0 one.2))
attrs_then a (b ∷ more) depth ts rest r =
    let m = attrs_then b more depth r.0 rest r.2 in (m.0, (r.0, r.1, m.1), m.2)

stmt_rows : (stmts : List Stmt) (depth : ℕ) (ts rest : Tokens) → Rows (SpelledAt depth) (map stmt_form (map about_stmt stmts)) ts rest
    → Rows (λ s. SpelledAt depth (stmt_form (about_stmt s))) stmts ts rest
stmt_rows stmts depth ts rest r =
    rows_of_map about_stmt (λ (F : StmtFacts). SpelledAt depth (stmt_form F)) stmts ts rest
    (rows_of_map stmt_form (SpelledAt depth) (map about_stmt stmts) ts rest r)

apart : (attrs : List Attr) (stmts : List Stmt) (depth : ℕ) (ts rest : Tokens) → BlockParts attrs (map about_stmt stmts) depth ts rest
    → BlockAt depth (record { attrs = attrs; stmts = stmts }) ts rest
apart [] stmts depth ts rest p = record {
  inside = p.inside;
  mid = p.inside;
  start = p.start;
  end = p.end;
  opened = p.opened;
  attrs = refl;
  skipped = bit_alone Semicolons p.inside p.start p.skipped;
  stmts = stmt_rows stmts depth p.start p.end p.rows;
  closed = p.closed;
}
apart (a ∷ more) stmts depth ts rest p =
    let forms = map stmt_form (map about_stmt stmts) in
    let r = rows_parts (SpelledAt depth) (attrs_before (map attr_form (a ∷ more))) forms p.start p.end p.rows in
    let m = attrs_then a more depth p.start r.0 r.1 in
    record {
      inside = p.inside;
      mid = m.0;
      start = r.0;
      end = p.end;
      opened = p.opened;
      attrs = subst (λ us. Rows (SpelledAt depth) (map attr_form (a ∷ more)) us m.0) (sym p.skipped) m.1;
      skipped = m.2;
      stmts = stmt_rows stmts depth r.0 p.end r.2;
      closed = p.closed;
    }

-- A block is spelled so in each of its forms.
pub block_at : (b : Block) (lead : Bool) (depth : ℕ) (ts rest : Tokens) → Spells ((about_block b).form lead) depth ts rest → BlockAt depth b ts rest
block_at b lead depth ts rest s = apart b.attrs b.stmts depth ts rest (form_parts b lead depth ts rest s)

pub soft_at : (b : Block) (depth : ℕ) (ts rest : Tokens) → Spells (about_block b).soft depth ts rest → BlockAt depth b ts rest
soft_at b depth ts rest s = apart b.attrs b.stmts depth ts rest (parts_of_soft b depth ts rest s)

-- ---- any number of `;`

semicolons_left : (n : ℕ) (ts rest : Tokens) → AreSemicolons n ts rest → first (is_mark (codes ";")) rest ≡ false → behind_semicolons ts ≡ rest
semicolons_left zero ts rest s h = rw s (none rest h)
  where
    none : (us : Tokens) → first (is_mark (codes ";")) us ≡ false → behind_semicolons us ≡ us
    none [] e = refl
    none (t ∷ us) e = rw e refl
semicolons_left (suc n) [] rest s h = absurd s.1
semicolons_left (suc n) (t ∷ ts) rest s h =
    let o = s.1 in
    let here : is_mark (codes ";") t ≡ true = rw (o.0, o.1) refl in
    let more : behind_semicolons ts ≡ rest = rw o.2 (semicolons_left n s.0 rest s.2 h) in
    rw here more

pub semicolons_less : (n : ℕ) (ts rest : Tokens) → AreSemicolons n ts rest → length rest ≤ length ts
semicolons_less zero ts rest s = omega (arith, ap length s)
semicolons_less (suc n) [] rest s = absurd s.1
semicolons_less (suc n) (t ∷ ts) rest s = let o = s.1 in omega (arith, ap length o.2, semicolons_less n s.0 rest s.2)

-- Neither does an inner attribute begin at a `;`.
semicolons_no_attr : (n : ℕ) (ts rest : Tokens) → AreSemicolons n ts rest → begins_attr true rest ≡ false → begins_attr true ts ≡ false
semicolons_no_attr zero ts rest s h = rw s h
semicolons_no_attr (suc n) ts rest s h = rw (one_front Punct (codes ";") ts s.0 s.1).1 refl

pub brace_ends : (ts rest : Tokens) → Closed Brace ts rest → more_items ts ≡ false
brace_ends ts rest o = rw (one_front (Closer Brace) (closing Brace ∷ []) ts rest o).1 refl

-- nodes are read, each with its need, which together with the others' is within the depth
pub turns_read : {A : Type 0} (P : (A × ℕ) → Tokens → Tokens → Type 0) (depth : ℕ) (xs : List A) (ts rest : Tokens)
    → Rows (λ x us mid. (n : ℕ) × (n ≤ depth) × P (x, n) us mid) xs ts rest
    → (ys : List (A × ℕ)) × (nodes ys ≡ xs) × (deepest ys ≤ depth) × Rows P ys ts rest
turns_read P depth [] ts rest r = ([], refl, omega arith, r)
turns_read P depth (x ∷ xs) ts rest r =
    let one = r.1 in
    let s = turns_read P depth xs r.0 rest r.2 in
    ((x, one.0) ∷ s.0, ap (λ l. x ∷ l) s.1, omega (arith, one.1, s.2), (r.0, one.2, s.3))

module _ (fronts : Fronts) (depth : ℕ) (within : ExprWithin) (reads : ExprReads depth within) where
  -- ---- statements within a block

  -- a statement, read with its need in a turn of the loop
  abbrev Turned : Stmt → Tokens → Tokens → Type 0
  Turned s ts rest = (n : ℕ) × (n ≤ depth) × Turn more_items (stmt_in_block within) (s, n) ts rest

  turned : (s : Stmt) (n : ℕ) (ts at mid : Tokens) → stmt_by within ts ≡ Some ((s, n), at) → ((about_stmt s).ends || first (closes Brace) at) ≡ true
      → behind_semicolons at ≡ mid → stmt_in_block within ts ≡ Some ((s, n), mid)
  turned s n ts at mid h e b = rw (h, e, b) refl

  -- a statement, and any number of `;` where it has one itself or never has
  stmt_parts : (F : StmtFacts) (ts rest : Tokens) → Spells (stmt_form F) depth ts rest
      → (at : Tokens) × Spells F.form depth ts at × AnySemicolons at rest × (F.unended ≡ true → at ≡ rest)
  stmt_parts F ts rest s = by F.unended refl s
    where
      by : (b : Bool) → F.unended ≡ b → Spells (if b then Part F.form Done else Part F.form (piece dropped)) depth ts rest
          → (at : Tokens) × Spells F.form depth ts at × AnySemicolons at rest × (F.unended ≡ true → at ≡ rest)
      by true e t = (t.0, t.1, (0, t.2), λ h. t.2)
      by false e t = (t.0, t.1, piece_bit Semicolons depth t.0 rest t.2, λ h. absurd (cc))

  one_turn : (s : Stmt) (ts mid : Tokens) → Spells (stmt_form (about_stmt s)) depth ts mid → (about_stmt s).good ≡ true → Behind s mid → Turned s ts mid
  one_turn s ts mid t g b =
      let p = stmt_parts (about_stmt s) ts mid t in
      let at = p.0 in
      let skipped = p.2 in
      let f = fronts.stmts s depth ts at p.1 g in
      let here : (about_stmt s).unended ≡ true → Behind s at = λ h. subst (λ us. Behind s us) (sym (p.3 h)) b in
      let r = stmt_read fronts depth within reads s ts at p.1 g here in
      let left = semicolons_left skipped.0 at mid skipped.1 b.begun.mark in
      let less : length mid < length ts = omega (arith, f.less, semicolons_less skipped.0 at mid skipped.1) in
      (r.0, r.1, (f.more, turned s r.0 ts at mid r.2 (ends (about_stmt s).unended refl at p.3) left, less))
    where
      or_there : (a b : Bool) → b ≡ true → (a || b) ≡ true
      or_there true b h = refl
      or_there false b h = h

      ends : (u : Bool) → (about_stmt s).unended ≡ u → (at : Tokens) → ((about_stmt s).unended ≡ true → at ≡ mid)
          → ((about_stmt s).ends || first (closes Brace) at) ≡ true
      ends false e at same = rw (ends_by_itself s e) refl
      ends true e at same = elim b.ended [
        | inl h ↦ rw h refl
        | inr c ↦ rw (same e) (or_there (about_stmt s).ends (first (closes Brace) mid) (closer_first Brace mid c.0 c.1).0)
      ]

  -- All statements are read, up to the `}`.
  turns : (stmts : List Stmt) (ts end rest : Tokens) → stmts_good (map about_stmt stmts) ≡ true
      → Rows (λ s. SpelledAt depth (stmt_form (about_stmt s))) stmts ts end → Closed Brace end rest → Begun ts × Rows Turned stmts ts end
  turns [] ts end rest g r c = (rw r (brace_begun end rest c), r)
  turns (s ∷ []) ts end rest g r c =
      let here : Closed Brace r.0 rest = rw r.2 c in
      let behind : Behind s r.0 = record { begun = brace_begun r.0 rest here; ended = inr (rest, here) } in
      let p = stmt_parts (about_stmt s) ts r.0 r.1 in
      ((fronts.stmts s depth ts p.0 p.1 g).begun, (r.0, one_turn s ts r.0 r.1 g behind, r.2))
  turns (s ∷ t ∷ more) ts end rest g r c =
      let goods = and_parts ((about_stmt s).good && (about_stmt s).ends) (stmts_good (map about_stmt (t ∷ more))) g in
      let good = and_parts (about_stmt s).good (about_stmt s).ends goods.0 in
      let next = turns (t ∷ more) r.0 end rest goods.1 r.2 c in
      let behind : Behind s r.0 = record { begun = next.0; ended = inl good.1 } in
      let p = stmt_parts (about_stmt s) ts r.0 r.1 in
      ((fronts.stmts s depth ts p.0 p.1 good.0).begun, (r.0, one_turn s ts r.0 r.1 good.0 behind, next.1))

  -- ---- a block

  block_made : (b : Block) (ys : List (Stmt × ℕ)) (ts inside mid start end rest : Tokens) → IsOne (Opener Brace) (opening Brace ∷ []) ts inside
      → attributes true inside ≡ Some (b.attrs, mid) → behind_semicolons mid ≡ start → repeat more_items (stmt_in_block within) start ≡ Some (ys, end)
      → nodes ys ≡ b.stmts → Closed Brace end rest → block_by within ts ≡ Some ((b, deepest ys), rest)
  unfolding block_by
  block_made b ys ts inside mid start end rest o a d r e c = rw (opener_passed Brace ts inside o, a, d, r, closer_passed Brace end rest c, e) refl

  pub block_read : (b : Block) (ts rest : Tokens) → BlockAt depth b ts rest → (about_block b).good ≡ true → IsRead depth (block_by within) b ts rest
  block_read b ts rest p g =
      let good = subst (λ (F : BlockFacts). F.good ≡ true) (block_is b) g in
      let goods = and_parts (are_attrs true b.attrs) (stmts_good (map about_stmt b.stmts)) good in
      let t = turns b.stmts p.start p.end rest goods.1 p.stmts p.closed in
      let begun = t.0 in
      let r = turns_read (Turn more_items (stmt_in_block within)) depth b.stmts p.start p.end t.1 in
      let all = repeat_complete (stmt_in_block within) more_items r.0 p.start p.end r.3 (brace_ends p.end rest p.closed) in
      let skipped = p.skipped in
      let left = semicolons_left skipped.0 p.mid p.start skipped.1 begun.mark in
      let no_attr = semicolons_no_attr skipped.0 p.mid p.start skipped.1 begun.attr in
      let attrs = attributes_complete true b.attrs depth p.inside p.mid (attrs_rows true depth b.attrs p.inside p.mid p.attrs goods.0) no_attr in
      (deepest r.0, r.2, block_made b r.0 ts p.inside p.mid p.start p.end rest p.opened attrs left all r.1 p.closed)

  -- ---- in either form

  pub block_form_read : (b : Block) (lead : Bool) (ts rest : Tokens) → Spells ((about_block b).form lead) depth ts rest → (about_block b).good ≡ true
      → IsRead depth (block_by within) b ts rest
  block_form_read b lead ts rest s g = block_read b ts rest (block_at b lead depth ts rest s) g

  pub soft_form_read : (b : Block) (ts rest : Tokens) → Spells (about_block b).soft depth ts rest → (about_block b).good ≡ true
      → IsRead depth (block_by within) b ts rest
  soft_form_read b ts rest s g = block_read b ts rest (soft_at b depth ts rest s) g
