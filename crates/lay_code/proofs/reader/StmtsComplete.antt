-- Statements are parsed where they are spelled, if that holds one level deeper.
use Rattle.std.proofs.Common.{◌≡◌, ℕ, max, Bool, true, false, not, ◌&&◌, List, [], ◌∷◌, map, drop, codes, Option, option_map, Some, None, is_some, ◌⊎◌, inl, inr, refl, sym, subst, ◌∙◌, arith}
use Rattle.std.proofs.lemmas.Bool.{and_parts, not-true}
use Rattle.lay_piece.specs.Forms.{closing}
use Rattle.lay_piece.specs.declared.kind.Delim.TheVariants.{Brace}
use Rattle.lay_piece.specs.declared.kind.Kind.TheVariants.{Ident, Punct, Closer}
use Rattle.lay_token.specs.Operators.{is_op}
use Rattle.lay_form.specs.Form.{Blank, Fixed, Form, Piece, Part, keyword, semicolon}
use Rattle.lay_form.specs.Notation.{piece, behind_attrs}
use Rattle.lay_form.specs.Spelled.{IsOne, Spells}
use Rattle.lay_node.specs.Ahead.{Tokens, first, tail, is_keyword, is_mark}
use Rattle.lay_node.specs.nodes.Attr.{are_attrs, attr_form}
use Rattle.lay_node.specs.nodes.Functions.{may_be_type}
use Rattle.lay_node.specs.nodes.Patterns.{about_pat, pat_form, pat_good}
use Rattle.lay_node.specs.reader.Attr.{attributes, begins_attr}
use Rattle.lay_node.specs.reader.Types.{if_read}
use Rattle.lay_node.specs.reader.Words.{name}
use Rattle.lay_node.specs.declared.attr.Attr.{Attr}
use Rattle.lay_node.specs.declared.heads.Site.TheVariants.{Module}
use Rattle.lay_node.specs.declared.patterns.Pat.{Pat}
use Rattle.lay_node.specs.declared.patterns.PatPlace.TheVariants.{Single}
use Rattle.lay_node.specs.declared.types.Ty.{Ty}
use Rattle.lay_node.specs.declared.types.TypePlace.TheVariants.{Bounds}
use Rattle.lay_node.proofs.Fronts.{one_front, one_no_op, mark_passed, other_op}
use Rattle.lay_node.proofs.Parts.{Closed, behind_attrs_rows, before_blank, behind_blank, bit_alone, part_alone, piece_bit}
use Rattle.lay_node.proofs.reader.Attr.{attrs_rows}
use Rattle.lay_node.proofs.reader.AttrRead.{attributes_complete}
use Rattle.lay_node.proofs.reader.Exact.{IsRead}
use Rattle.lay_node.proofs.reader.GenericsComplete.{equals_operator}
use Rattle.lay_node.proofs.reader.PatternsFronts.{Follows, colon_follows}
use Rattle.lay_node.proofs.reader.TypesComplete.{quiet_read}
use Rattle.lay_node.proofs.reader.TypesCompleteParts.{colon_operator, keyword_there, one_left}
use Rattle.lay_node.proofs.reader.TypesFronts as types
use Rattle.lay_node.proofs.reader.TypesFronts.{equals_quiet, no_other_op}
use Rattle.lay_code.specs.nodes.Blocks.{else_form, else_good, ended_form, let_form, let_type, may_precede_else}
use Rattle.lay_code.specs.nodes.Code.{about_block, about_expr, about_stmt, told_of_item}
use Rattle.lay_code.specs.nodes.CodeFacts.{StmtFacts}
use Rattle.lay_code.specs.nodes.Exprs.{ExprFacts, ExprLayer, follows, is_block_like, placed, tail_follows, tail_of, value_form, value_placed}
use Rattle.lay_code.specs.nodes.Places.{FREE, statement}
use Rattle.lay_code.specs.reader.Blocks.{begins_item, else_stands, expr_stmt, let_stmt, stmt_by}
use Rattle.lay_code.specs.reader.Within.{ExprWithin}
use Rattle.lay_code.specs.declared.blocks.Block.{Block}
use Rattle.lay_code.specs.declared.blocks.Stmt.{Stmt}
use Rattle.lay_code.specs.declared.blocks.Stmt.TheOpen.{Expr-F}
use Rattle.lay_code.specs.declared.blocks.Stmt.TheVariants as stmt
use Rattle.lay_code.specs.declared.exprs.Expr.{Expr}
use Rattle.lay_code.specs.declared.item.Item.{Item}
use Rattle.lay_code.proofs.nodes.BlocksLaws.{StmtView, IsLet, IsItem, IsExpr, stmt_view, stmt_let_is, stmt_item_is, stmt_expr_is}
use Rattle.lay_code.proofs.reader.BlockReads.{Begun, ExprAhead, Fronts, NoItem}
use Rattle.lay_code.proofs.reader.ExprQuiet.{ends_follow, semicolon_ends_expr, closer_ends_expr}
use Rattle.lay_code.proofs.reader.ExprReads.{ExprReads}
use Rattle.lay_code.proofs.reader.ExprSoundLevel.{layer_of}
use Rattle.lay_code.proofs.reader.PatternEnds.{equals_follows, semicolon_follows, semicolon_quiet}

-- ---- what follows a statement

-- After a statement without a `;` another one begins, where it ends by itself, or a `}` stands.
pub record Behind (s : Stmt) (ts : Tokens) : Type 0 where
  pub begun : Begun ts
  pub ended : ((about_stmt s).ends ≡ true) ⊎ ((rest : Tokens) × Closed Brace ts rest)

-- A statement with a `;`, and one that never has one, ends by itself.
pub ends_by_itself : (s : Stmt) → (about_stmt s).unended ≡ false → (about_stmt s).ends ≡ true
ends_by_itself s h = by s (stmt_view s) h
  where
    by : (s : Stmt) → StmtView s → (about_stmt s).unended ≡ false → (about_stmt s).ends ≡ true
    by _ (IsLet attrs pat ty x o) e = subst (λ (F : StmtFacts). F.ends ≡ true) (sym (stmt_let_is attrs pat ty x o)) refl
    by _ (IsItem item) e = subst (λ (F : StmtFacts). F.ends ≡ true) (sym (stmt_item_is item)) refl
    by _ (IsExpr attrs x true) e = subst (λ (F : StmtFacts). F.ends ≡ true) (sym (stmt_expr_is attrs x true)) refl
    by _ (IsExpr attrs x false) e =
        let n = subst (λ (F : StmtFacts). F.unended ≡ false) (stmt_expr_is attrs x false) e in absurd (cc)

-- What ends in a block ends in nothing that goes on, but for branches without an `else`.
pub block_tail : (x : Expr) (no_struct : Bool) (ts : Tokens) → (about_expr x).block_like ≡ true → first (is_keyword (codes "else")) ts ≡ false
    → tail_follows (about_expr x).tail no_struct ts ≡ true
block_tail x no_struct ts h e =
    let l = layer_of x in
    subst (λ (F : ExprFacts). tail_follows F.tail no_struct ts ≡ true) (sym l.1)
    (by l.0 (subst (λ (F : ExprFacts). F.block_like ≡ true) l.1 h))
  where
    none : (b : Bool) → not (b && first (is_keyword (codes "else")) ts) ≡ true
    none true = rw e refl
    none false = refl

    by : (F : ExprLayer) → is_block_like F ≡ true → tail_follows (tail_of F) no_struct ts ≡ true
    by (Expr-F.Expr::Call call) g = refl
    by (Expr-F.Block label b) g = refl
    by (Expr-F.Unsafe b) g = refl
    by (Expr-F.ConstBlock b) g = refl
    by (Expr-F.If branches o) g = rw (none (not (is_some o))) refl
    by (Expr-F.Match x attrs arms) g = refl
    by (Expr-F.Loop label b) g = refl
    by (Expr-F.While label c b) g = refl
    by (Expr-F.For label pat x b) g = refl
    by _ g = absurd (cc)

-- Neither a `;` nor a `}` makes an item of the word before it.
semicolon_no_item : (ts rest : Tokens) → IsOne Punct (codes ";") ts rest → NoItem ts
unfolding name
semicolon_no_item ts rest o =
    let n = no_other_op 33 [] 59 ts rest refl o in (rw (one_front Punct (codes ";") ts rest o).1 refl, rw n refl)

closer_no_item : (ts rest : Tokens) → Closed Brace ts rest → NoItem ts
unfolding name
closer_no_item ts rest o =
    let n = one_no_op (codes "!") (Closer Brace) (closing Brace ∷ []) ts rest refl o in
    (rw (one_front (Closer Brace) (closing Brace ∷ []) ts rest o).1 refl, rw n refl)

module _ (fronts : Fronts) (depth : ℕ) (within : ExprWithin) (reads : ExprReads depth within) where
  -- ---- the parts of a `let`

  -- what ends a pattern or a type: a value or the `;`
  abbrev Ended : Tokens → Type 0
  Ended ts = (is_op (codes "=") ts ≡ true) ⊎ ((rest : Tokens) × IsOne Punct (codes ";") ts rest)

  -- a type after a `:`, or none
  type_read : (ty : Option Ty) (f : Form) (ts rest : Tokens) → Spells (let_type ty f) depth ts rest → may_be_type ty ≡ true
      → ((us : Tokens) → Spells f depth us rest → types.Quiet us × (is_op (codes ":") us ≡ false))
      → (mid : Tokens) × Spells f depth mid rest × IsRead depth (λ us. if_read (is_op (codes ":") us) (λ vs. within.kinds.types Bounds (drop 1 vs)) us) ty ts mid
  type_read None f ts rest s g e = (ts, s, (0, omega arith, rw (e ts s).1 refl))
  type_read (Some x) f ts rest s g e =
      let o = colon_operator ts s.0 s.1 in
      let p = s.2 in
      let r = quiet_read depth within.kinds reads.kinds Bounds x s.0 p.0 p.1 g (e p.0 p.2).0 in
      (p.0, p.2, (r.0, r.1, rw (o.0, o.1, r.2) refl))

  -- a value after a `=`, or none
  value_read : (x : Option Expr) (ts rest : Tokens) → Spells (value_form (option_map about_expr x)) depth ts rest → value_placed (option_map about_expr x) ≡ true
      → (x ≡ None → is_op (codes "=") rest ≡ false)
      → ((y : Expr) (us : Tokens) → x ≡ Some y → Spells (about_expr y).form depth us rest → follows (about_expr y) FREE rest ≡ true)
      → IsRead depth (λ us. if_read (is_op (codes "=") us) (λ vs. within.exprs FREE (drop 1 vs)) us) x ts rest
  value_read None ts rest s g none fits = (0, omega arith, rw (s, none refl) refl)
  value_read (Some x) ts rest s g none fits =
      let o = equals_operator ts s.0 s.1 in
      let here = part_alone (about_expr x).form depth s.0 rest s.2 in
      let r = reads.exprs FREE x s.0 rest here g (inl (fits x s.0 refl here)) in
      (r.0, r.1, rw (o.0, o.1, r.2) refl)

  -- a block after an `else`, or none
  else_read : (b : Option Block) (ts rest : Tokens) → Spells (else_form (option_map about_block b)) depth ts rest
      → ((c : Block) → b ≡ Some c → (about_block c).good ≡ true) → (b ≡ None → first (is_keyword (codes "else")) rest ≡ false)
      → IsRead depth (λ us. if_read (first (is_keyword (codes "else")) us) (λ vs. within.blocks (tail vs)) us) b ts rest
  else_read None ts rest s g none = (0, omega arith, rw (s, none refl) refl)
  else_read (Some b) ts rest s g none =
      let o : IsOne Ident (codes "else") ts s.0 = bit_alone (keyword (codes "else")) ts s.0 (behind_blank (keyword (codes "else") ∷ []) ts s.0 s.1) in
      let r = reads.blocks b s.0 rest s.2 (g b refl) in
      (r.0, r.1, rw (keyword_there (codes "else") ts s.0 o, one_left Ident (codes "else") ts s.0 o, r.2) refl)

  -- ---- a `let`

  -- what ends a value: an `else` or the `;`
  pat_fits : (pat : Pat) (ty : Option Ty) (f : Form) (ts rest : Tokens) → Spells (let_type ty f) depth ts rest
      → ((us : Tokens) → Spells f depth us rest → Ended us) → Follows (about_pat pat) ts
  pat_fits pat None f ts rest s e = elim (e ts s) [
    | inl o ↦ equals_follows (about_pat pat) ts o
    | inr o ↦ semicolon_follows (about_pat pat) ts o.0 o.1
  ]
  pat_fits pat (Some x) f ts rest s e = colon_follows (about_pat pat) ts (colon_operator ts s.0 s.1).0

  ended_quiet : (ts : Tokens) → Ended ts → types.Quiet ts × (is_op (codes ":") ts ≡ false)
  ended_quiet ts e = elim e [
    | inl o ↦ (equals_quiet ts o, other_op (codes "=") (codes ":") refl ts o)
    | inr o ↦ (semicolon_quiet ts o.0 o.1, no_other_op 58 [] 59 ts o.0 refl o.1)
  ]

  let_made : (attrs : List Attr) (pat : Pat) (ty : Option Ty) (x : Option Expr) (o : Option Block) (l m n k : ℕ) (ts p t v e rest : Tokens)
      → within.pats Single ts ≡ Some ((pat, l), p)
      → if_read (is_op (codes ":") p) (λ us. within.kinds.types Bounds (drop 1 us)) p ≡ Some ((ty, m), t)
      → if_read (is_op (codes "=") t) (λ us. within.exprs FREE (drop 1 us)) t ≡ Some ((x, n), v)
      → if_read (first (is_keyword (codes "else")) v) (λ us. within.blocks (tail us)) v ≡ Some ((o, k), e)
      → IsOne Punct (codes ";") e rest → else_stands x (is_some o) ≡ true
      → let_stmt within attrs ts ≡ Some ((stmt.Let attrs pat ty x o, max l (max m (max n k))), rest)
  unfolding let_stmt
  let_made attrs pat ty x o l m n k ts p t v e rest a b c d end stands = rw (a, b, c, d, mark_passed (codes ";") e rest end, stands) refl

  let_read : (attrs : List Attr) (pat : Pat) (ty : Option Ty) (x : Option Expr) (o : Option Block) (ts rest : Tokens)
      → Spells (let_form attrs pat ty (option_map about_expr x) (option_map about_block o)) depth ts rest
      → (are_attrs false attrs && pat_good Single (about_pat pat) && may_be_type ty && value_placed (option_map about_expr x)
      && else_good (option_map about_expr x) (option_map about_block o)) ≡ true → IsRead depth (stmt_by within) (stmt.Let attrs pat ty x o) ts rest
  unfolding stmt_by
  let_read attrs pat ty x o ts rest s g =
      let X = option_map about_expr x in
      let O = option_map about_block o in
      let g4 = and_parts (are_attrs false attrs && pat_good Single (about_pat pat) && may_be_type ty && value_placed X) (else_good X O) g in
      let g3 = and_parts (are_attrs false attrs && pat_good Single (about_pat pat) && may_be_type ty) (value_placed X) g4.0 in
      let g2 = and_parts (are_attrs false attrs && pat_good Single (about_pat pat)) (may_be_type ty) g3.0 in
      let g1 = and_parts (are_attrs false attrs) (pat_good Single (about_pat pat)) g2.0 in
      let last : Form = Part (else_form O) (piece semicolon) in
      let valued : Form = Part (value_form X) last in
      let typed : Form = let_type ty valued in
      let r = behind_attrs_rows (map attr_form attrs) (Piece (keyword (codes "let") ∷ Blank ∷ []) (Part (pat_form Single (about_pat pat)) typed)) depth ts rest s in
      let words = r.2 in
      let word : IsOne Ident (codes "let") r.0 words.0 = before_blank (keyword (codes "let")) r.0 words.0 words.1 in
      let inner = words.2 in
      let ended : (us : Tokens) → Spells valued depth us rest → Ended us = λ us t. value_ended x o us rest t g4.1 in
      let p = reads.pats Single pat words.0 inner.0 inner.1 g1.1 (pat_fits pat ty valued inner.0 rest inner.2 ended) in
      let t = type_read ty valued inner.0 rest inner.2 g2.1 (λ us t. ended_quiet us (ended us t)) in
      let v = t.1 in
      let e = v.2 in
      let end : IsOne Punct (codes ";") e.0 rest = piece_bit (Fixed Punct (codes ";")) depth e.0 rest e.2 in
      let b = else_read o v.0 e.0 e.1 (else_goods x o g4.1) (λ h. no_else e.0 rest end) in
      let n = value_read x t.0 v.0 v.1 g3.1 (λ h. value_none x o v.0 e.0 rest h e.1 end g4.1) (λ y us h y_spelled. value_fits x o y us v.0 e.0 rest h y_spelled e.1 end g3.1 g4.1) in
      let ty_read = t.2 in
      let made = let_made attrs pat ty x o p.0 ty_read.0 n.0 b.0 words.0 inner.0 t.0 v.0 e.0 rest p.2 ty_read.2 n.2 b.2 end (stands x o g4.1) in
      let front = (one_front Ident (codes "let") r.0 words.0 word).1 in
      let no_attr : begins_attr false r.0 ≡ false = rw front refl in
      let all = attributes_complete false attrs depth ts r.0 (attrs_rows false depth attrs ts r.0 r.1 g1.0) no_attr in (
        max p.0 (max ty_read.0 (max n.0 b.0)),
        omega (arith, p.1, ty_read.1, n.1, b.1),
        rw (all, keyword_there (codes "let") r.0 words.0 word, one_left Ident (codes "let") r.0 words.0 word) made,
      )
    where
      no_else : (us end : Tokens) → IsOne Punct (codes ";") us end → first (is_keyword (codes "else")) us ≡ false
      no_else us end m = rw (one_front Punct (codes ";") us end m).1 refl

      -- a value before an `else`
      precedes : (x : Option Expr) (b : Block) → else_good (option_map about_expr x) (Some (about_block b)) ≡ true
          → (y : Expr) × (x ≡ Some y) × (may_precede_else (about_expr y) ≡ true) × ((about_block b).good ≡ true)
      precedes None b g = absurd (cc)
      precedes (Some y) b g = let p = and_parts (may_precede_else (about_expr y)) (about_block b).good g in (y, refl, p.0, p.1)

      else_goods : (x : Option Expr) (o : Option Block) → else_good (option_map about_expr x) (option_map about_block o) ≡ true
          → (c : Block) → o ≡ Some c → (about_block c).good ≡ true
      else_goods x None g c e = absurd (cc)
      else_goods x (Some b) g c e = let h : b ≡ c = cc e in subst (λ (d : Block). (about_block d).good ≡ true) h (precedes x b g).3

      stands : (x : Option Expr) (o : Option Block) → else_good (option_map about_expr x) (option_map about_block o) ≡ true → else_stands x (is_some o) ≡ true
      stands x None g = refl
      stands None (Some b) g = absurd (cc)
      stands (Some y) (Some b) g = (and_parts (may_precede_else (about_expr y)) (about_block b).good g).0

      semicolon_no_equals : (us end : Tokens) → IsOne Punct (codes ";") us end → is_op (codes "=") us ≡ false
      semicolon_no_equals us end m = no_other_op 61 [] 59 us end refl m

      value_none : (x : Option Expr) (o : Option Block) (us mid end : Tokens) → x ≡ None → Spells (else_form (option_map about_block o)) depth us mid
          → IsOne Punct (codes ";") mid end → else_good (option_map about_expr x) (option_map about_block o) ≡ true → is_op (codes "=") us ≡ false
      value_none x None us mid end h s m g = rw s (semicolon_no_equals mid end m)
      value_none x (Some b) us mid end h s m g = let p = precedes x b g in absurd (cc (sym h ∙ p.1))

      value_fits : (x : Option Expr) (o : Option Block) (y : Expr) (from us mid end : Tokens) → x ≡ Some y → Spells (about_expr y).form depth from us
          → Spells (else_form (option_map about_block o)) depth us mid → IsOne Punct (codes ";") mid end
          → value_placed (option_map about_expr x) ≡ true → else_good (option_map about_expr x) (option_map about_block o) ≡ true
          → follows (about_expr y) FREE us ≡ true
      value_fits x None y from us mid end h t s m w g = rw s (ends_follow (about_expr y) FREE mid (semicolon_ends_expr false mid end m))
      value_fits None (Some b) y from us mid end h t s m w g = absurd (cc)
      value_fits (Some z) (Some b) y from us mid end h t s m w g =
          let e : z ≡ y = cc h in
          let p = (and_parts (may_precede_else (about_expr z)) (about_block b).good g).0 in
          let word : IsOne Ident (codes "else") us s.0 = bit_alone (keyword (codes "else")) us s.0 (behind_blank (keyword (codes "else") ∷ []) us s.0 s.1) in
          fronts.elses y depth from us t (subst (λ (q : Expr). placed (about_expr q) FREE ≡ true) e w)
          (subst (λ (q : Expr). may_precede_else (about_expr q) ≡ true) e p) (keyword_there (codes "else") us s.0 word)

      value_ended : (x : Option Expr) (o : Option Block) (us end : Tokens)
          → Spells (Part (value_form (option_map about_expr x)) (Part (else_form (option_map about_block o)) (piece semicolon))) depth us end
          → else_good (option_map about_expr x) (option_map about_block o) ≡ true → Ended us
      value_ended (Some x) o us end t g = let v = t.1 in inl (equals_operator us v.0 v.1).0
      value_ended None (Some b) us end t g = absurd (cc)
      value_ended None None us end t g =
          let l = t.2 in
          let m : IsOne Punct (codes ";") l.0 end = piece_bit (Fixed Punct (codes ";")) depth l.0 end l.2 in
          let same : us ≡ l.0 = t.1 ∙ l.1 in
          inr (end, subst (λ vs. IsOne Punct (codes ";") vs end) (sym same) m)

  -- ---- an item

  item_made : (item : Item) (n : ℕ) (attrs : List Attr) (ts mid rest : Tokens) → attributes false ts ≡ Some (attrs, mid)
      → first (is_keyword (codes "let")) mid ≡ false → begins_item mid ≡ true → within.items Module ts ≡ Some ((item, n), rest)
      → (told_of_item item).call ≡ false → stmt_by within ts ≡ Some ((stmt.Item item, n), rest)
  unfolding stmt_by
  item_made item n attrs ts mid rest a l i r c = rw (a, l, i, r, c) refl

  item_read : (item : Item) (ts rest : Tokens) → Spells (told_of_item item).form depth ts rest → ((told_of_item item).good Module && not (told_of_item item).call) ≡ true
      → IsRead depth (stmt_by within) (stmt.Item item) ts rest
  item_read item ts rest s g =
      let goods = and_parts ((told_of_item item).good Module) (not (told_of_item item).call) g in
      let no_call = not-true (told_of_item item).call goods.1 in
      let a = fronts.items item depth ts rest (s, goods.0) no_call in
      let r = reads.items Module item ts rest (s, goods.0, refl) in
      (r.0, r.1, item_made item r.0 a.attrs ts a.mid rest a.read a.no_let a.item r.2 no_call)

  -- ---- an expression

  ended_made : (attrs : List Attr) (x : Expr) (n : ℕ) (ts at rest : Tokens) → within.exprs statement ts ≡ Some ((x, n), at) → IsOne Punct (codes ";") at rest
      → expr_stmt within attrs ts ≡ Some ((stmt.Expr attrs x true, n), rest)
  unfolding expr_stmt
  ended_made attrs x n ts at rest h o = let f = (one_front Punct (codes ";") at rest o).1 in rw (h, f) refl

  unended_made : (attrs : List Attr) (x : Expr) (n : ℕ) (ts rest : Tokens) → within.exprs statement ts ≡ Some ((x, n), rest)
      → first (is_mark (codes ";")) rest ≡ false → expr_stmt within attrs ts ≡ Some ((stmt.Expr attrs x false, n), rest)
  unfolding expr_stmt
  unended_made attrs x n ts rest h m = rw (h, m) refl

  -- what may follow an expression without a `;`
  unended_fits : (x : Expr) (ts : Tokens) → Begun ts → ((about_expr x).block_like ≡ true) ⊎ ((rest : Tokens) × Closed Brace ts rest)
      → follows (about_expr x) statement ts ≡ true
  unended_fits x ts b e = elim e [
    | inl h ↦ rw (h, b.dot) (block_tail x false ts h b.no_else)
    | inr c ↦ ends_follow (about_expr x) statement ts (closer_ends_expr false Brace ts c.0 c.1)
  ]

  expr_read : (attrs : List Attr) (x : Expr) (ended : Bool) (ts rest : Tokens)
      → Spells (behind_attrs (map attr_form attrs) (Part (about_expr x).form (ended_form ended))) depth ts rest
      → (are_attrs false attrs && placed (about_expr x) statement) ≡ true
      → (ended ≡ false → Begun rest × (((about_expr x).block_like ≡ true) ⊎ ((end : Tokens) × Closed Brace rest end)))
      → IsRead depth (stmt_by within) (stmt.Expr attrs x ended) ts rest
  unfolding stmt_by
  expr_read attrs x ended ts rest s g behind =
      let goods = and_parts (are_attrs false attrs) (placed (about_expr x) statement) g in
      let r = behind_attrs_rows (map attr_form attrs) (Part (about_expr x).form (ended_form ended)) depth ts rest s in
      let p = r.2 in
      let e = by ended r.0 p.0 p.1 p.2 behind goods.1 in
      let a = e.0 in
      let n = e.1 in
      let all = attributes_complete false attrs depth ts r.0 (attrs_rows false depth attrs ts r.0 r.1 goods.0) a.attr in
      (n.0, n.1, rw (all, a.no_let, a.no_item) n.2)
    where
      by : (ended : Bool) (us at : Tokens) → Spells (about_expr x).form depth us at → Spells (ended_form ended) depth at rest
          → (ended ≡ false → Begun rest × (((about_expr x).block_like ≡ true) ⊎ ((end : Tokens) × Closed Brace rest end)))
          → placed (about_expr x) statement ≡ true → ExprAhead us × IsRead depth (expr_stmt within attrs) (stmt.Expr attrs x ended) us rest
      by true us at t e b w =
          let o : IsOne Punct (codes ";") at rest = piece_bit (Fixed Punct (codes ";")) depth at rest e in
          let r = reads.exprs statement x us at t w (inl (ends_follow (about_expr x) statement at (semicolon_ends_expr false at rest o))) in
          (fronts.exprs x depth us at t w (λ h. semicolon_no_item at rest o), (r.0, r.1, ended_made attrs x r.0 us at rest r.2 o))
      by false us at t e b w =
          let q = b refl in
          let here : Spells (about_expr x).form depth us rest = subst (λ vs. Spells (about_expr x).form depth us vs) e t in
          let r = reads.exprs statement x us rest here w (inl (unended_fits x rest q.0 q.1)) in
          (fronts.exprs x depth us rest here w (no_name q.1), (r.0, r.1, unended_made attrs x r.0 us rest r.2 q.0.mark))
        where
          no_name : ((about_expr x).block_like ≡ true) ⊎ ((end : Tokens) × Closed Brace rest end) → (about_expr x).block_like ≡ false → NoItem rest
          no_name q h = elim q [
            | inl k ↦ absurd (cc)
            | inr c ↦ closer_no_item rest c.0 c.1
          ]

  -- ---- all statements

  pub stmt_read : (s : Stmt) (ts rest : Tokens) → Spells (about_stmt s).form depth ts rest → (about_stmt s).good ≡ true
      → ((about_stmt s).unended ≡ true → Behind s rest) → IsRead depth (stmt_by within) s ts rest
  stmt_read s ts rest t g b = by s (stmt_view s) t g b
    where
      by : (s : Stmt) → StmtView s → Spells (about_stmt s).form depth ts rest → (about_stmt s).good ≡ true
          → ((about_stmt s).unended ≡ true → Behind s rest) → IsRead depth (stmt_by within) s ts rest
      by _ (IsLet attrs pat ty x o) t g b =
          let e = stmt_let_is attrs pat ty x o in
          let_read attrs pat ty x o ts rest (subst (λ (F : StmtFacts). Spells F.form depth ts rest) e t) (subst (λ (F : StmtFacts). F.good ≡ true) e g)
      by _ (IsItem item) t g b =
          let e = stmt_item_is item in
          item_read item ts rest (subst (λ (F : StmtFacts). Spells F.form depth ts rest) e t) (subst (λ (F : StmtFacts). F.good ≡ true) e g)
      by _ (IsExpr attrs x ended) t g b =
          let e = stmt_expr_is attrs x ended in
          expr_read attrs x ended ts rest (subst (λ (F : StmtFacts). Spells F.form depth ts rest) e t) (subst (λ (F : StmtFacts). F.good ≡ true) e g)
          (λ h. let q = b (unended_is h) in (q.begun, ends_is h q.ended))
        where
          unended_is : ended ≡ false → (about_stmt (stmt.Expr attrs x ended)).unended ≡ true
          unended_is h = subst (λ (F : StmtFacts). F.unended ≡ true) (sym (stmt_expr_is attrs x ended)) (rw h refl)

          ends_is : ended ≡ false → ((about_stmt (stmt.Expr attrs x ended)).ends ≡ true) ⊎ ((end : Tokens) × Closed Brace rest end)
              → ((about_expr x).block_like ≡ true) ⊎ ((end : Tokens) × Closed Brace rest end)
          ends_is h q = elim q [
            | inl k ↦ let m = subst (λ (F : StmtFacts). F.ends ≡ true) (stmt_expr_is attrs x ended) k in inl (sym (rw h refl) ∙ m)
            | inr c ↦ inr c
          ]
