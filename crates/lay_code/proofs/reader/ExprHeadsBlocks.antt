-- Blocks and loops, after a label or without one, are parsed where they are spelled.
use Rattle.std.proofs.Common.{◌≡◌, ℕ, suc, ◌≤◌, max, Bool, true, false, ◌&&◌, [], ◌∷◌, codes, Option, Some, None, refl, ◌∙◌, arith}
use Rattle.std.proofs.lemmas.Bool.{and_parts}
use Rattle.lay_piece.specs.Forms.{opening}
use Rattle.lay_piece.specs.declared.kind.Delim.TheVariants.{Brace}
use Rattle.lay_piece.specs.declared.kind.Kind.TheVariants.{Ident, Opener}
use Rattle.lay_form.specs.Form.{Blank, Form, Done, Piece, Part, keyword}
use Rattle.lay_form.specs.Notation.{I0, when}
use Rattle.lay_form.specs.Spelled.{IsOne, IsOperator, Spells}
use Rattle.lay_node.specs.Ahead.{Tokens, first, is_keyword, opens}
use Rattle.lay_node.specs.nodes.Patterns.{about_pat, pat_form, pat_good}
use Rattle.lay_node.specs.reader.Types.{lifetime}
use Rattle.lay_node.specs.declared.patterns.Pat.{Pat}
use Rattle.lay_node.specs.declared.patterns.PatPlace.TheVariants.{Alternatives}
use Rattle.lay_node.specs.declared.token.Lifetime.{Lifetime}
use Rattle.lay_node.proofs.Fronts.{one_front, one_no_op}
use Rattle.lay_node.proofs.Parts.{before_blank, behind_blank, bit_alone, part_alone}
use Rattle.lay_node.proofs.reader.Exact.{IsRead}
use Rattle.lay_node.proofs.reader.PatternsFronts.{Fits}
use Rattle.lay_node.proofs.reader.TypesCompleteParts.{colon_operator, keyword_there, lifetime_alone, lifetime_complete, one_left}
use Rattle.lay_code.specs.Operands.{ExprLead, ByBrace, ByBlockWord}
use Rattle.lay_code.specs.nodes.Code.{about_block, about_condition, about_expr}
use Rattle.lay_code.specs.nodes.Exprs.{label_or, labelled, placed}
use Rattle.lay_code.specs.nodes.Places.{plain}
use Rattle.lay_code.specs.reader.Blocks.{block_by}
use Rattle.lay_code.specs.reader.Conditions.{condition_by}
use Rattle.lay_code.specs.reader.Exprs.{async_expr, block_word_expr, for_expr, head_by, label_expr, labelled_expr, while_expr}
use Rattle.lay_code.specs.reader.Within.{ExprWithin}
use Rattle.lay_code.specs.declared.blocks.Block.{Block}
use Rattle.lay_code.specs.declared.blocks.Stmt.TheOpen.{Expr-F}
use Rattle.lay_code.specs.declared.conditions.Condition.{Condition}
use Rattle.lay_code.specs.declared.exprs.Expr.{Expr}
use Rattle.lay_code.specs.declared.exprs.Expr.TheVariants as expr
use Rattle.lay_code.proofs.nodes.ExprsLaws.{expr_async_is, expr_block_is, expr_const_block_is, expr_for_is, expr_loop_is, expr_unsafe_is, expr_while_is}
use Rattle.lay_code.proofs.reader.BlockReads.{Fronts}
use Rattle.lay_code.proofs.reader.BlocksComplete.{block_at, block_form_read, block_read, soft_form_read}
use Rattle.lay_code.proofs.reader.BranchesComplete.{before_block}
use Rattle.lay_code.proofs.reader.ConditionsComplete.{condition_read}
use Rattle.lay_code.proofs.reader.ExprHeads.{IsHead, head_of}
use Rattle.lay_code.proofs.reader.ExprReads.{ExprReads}
use Rattle.lay_code.proofs.reader.PatternEnds.{in_follows}

module _ (fronts : Fronts) (depth : ℕ) (within : ExprWithin) (reads : ExprReads depth within) where
  -- ---- labels

  -- A block or a loop is read so, after its label or where it has none.
  abbrev Labelled : Option Lifetime → Expr → Form → Tokens → Type 0
  Labelled label x f rest = (us : Tokens) → Spells f depth us rest → IsRead (suc depth) (labelled_expr within label) x us rest

  label_made : (l : Lifetime) (x : Expr) (n : ℕ) (ts at behind rest : Tokens) → lifetime ts ≡ Some (l, at) → IsOperator (codes ":") at behind
      → labelled_expr within (Some l) behind ≡ Some ((x, n), rest) → label_expr within ts ≡ Some ((x, n), rest)
  unfolding label_expr
  label_made l x n ts at behind rest h o r = rw (h, o.0, o.1) r

  labelled_read : (label : Option Lifetime) (lead : ExprLead) (x : Expr) (f : Form) (no_struct : Bool) (ts rest : Tokens) → Spells (labelled label f) depth ts rest
      → Labelled label x f rest
      → ((us : Tokens) → Spells f depth us rest → head_by within no_struct (Some lead) us ≡ labelled_expr within None us)
      → IsRead (suc depth) (head_by within no_struct (Some (label_or lead label))) x ts rest
  labelled_read None lead x f no_struct ts rest s read same = let r = read ts s in (r.0, r.1, same ts s ∙ r.2)
  labelled_read (Some l) lead x f no_struct ts rest s read same =
      let o = lifetime_complete l ts s.0 (lifetime_alone l depth ts s.0 s.1) in
      let p = s.2 in
      let r = read p.0 (part_alone f depth p.0 rest p.2) in
      (r.0, r.1, label_made l x r.0 ts s.0 p.0 rest o.0 (colon_operator s.0 p.0 p.1) r.2)

  -- what follows a block word that begins a loop
  loop_word : (ts at : Tokens) → IsOne Ident (codes "loop") ts at → block_word_expr within ts ≡ labelled_expr within None ts
  unfolding block_word_expr
  loop_word ts at o = rw (one_front Ident (codes "loop") ts at o).1 refl

  while_word : (ts at : Tokens) → IsOne Ident (codes "while") ts at → block_word_expr within ts ≡ labelled_expr within None ts
  unfolding block_word_expr
  while_word ts at o = rw (one_front Ident (codes "while") ts at o).1 refl

  for_word : (ts at : Tokens) → IsOne Ident (codes "for") ts at → block_word_expr within ts ≡ labelled_expr within None ts
  unfolding block_word_expr
  for_word ts at o = rw (one_front Ident (codes "for") ts at o).1 refl

  -- ---- blocks

  -- a block
  pub block_head : (label : Option Lifetime) (b : Block) → IsHead depth within (expr.Block label b)
  block_head label b = head_of depth within (expr.Block label b) (Expr-F.Block label (about_block b)) (expr_block_is label b) (λ no_struct first_flag ts rest h.
      labelled_read label ByBrace (expr.Block label b) ((about_block b).form false) no_struct ts rest h.spelled (λ us s. braced us rest s h.inside) (λ us s. refl))
    where
      made : (us inside rest : Tokens) (n : ℕ) → IsOne (Opener Brace) (opening Brace ∷ []) us inside → block_by within us ≡ Some ((b, n), rest)
          → labelled_expr within label us ≡ Some ((expr.Block label b, suc n), rest)
      made us inside rest n o r =
          let there : first (opens Brace) us ≡ true = rw (one_front (Opener Brace) (opening Brace ∷ []) us inside o).1 refl in rw (there, r) refl

      braced : (us rest : Tokens) → Spells ((about_block b).form false) depth us rest → (about_block b).good ≡ true
          → IsRead (suc depth) (labelled_expr within label) (expr.Block label b) us rest
      braced us rest s g =
          let p = block_at b false depth us rest s in
          let r = block_read fronts depth within reads b us rest p g in
          (suc r.0, omega (arith, r.1), made us p.inside rest r.0 p.opened r.2)

  unsafe_made : (b : Block) (n : ℕ) (ts at rest : Tokens) → IsOne Ident (codes "unsafe") ts at → block_by within at ≡ Some ((b, n), rest)
      → block_word_expr within ts ≡ Some ((expr.Unsafe b, suc n), rest)
  unfolding block_word_expr
  unsafe_made b n ts at rest o r = rw ((one_front Ident (codes "unsafe") ts at o).1, r) refl

  pub unsafe_head : (b : Block) → IsHead depth within (expr.Unsafe b)
  unsafe_head b = head_of depth within (expr.Unsafe b) (Expr-F.Unsafe (about_block b)) (expr_unsafe_is b) (λ no_struct first_flag ts rest h.
      let s = h.spelled in
      let o : IsOne Ident (codes "unsafe") ts s.0 = bit_alone (keyword (codes "unsafe")) ts s.0 s.1 in
      let r = soft_form_read fronts depth within reads b s.0 rest (part_alone (about_block b).soft depth s.0 rest s.2) h.inside in
      (suc r.0, omega (arith, r.1), unsafe_made b r.0 ts s.0 rest o r.2))

  const_made : (b : Block) (n : ℕ) (ts at rest : Tokens) → IsOne Ident (codes "const") ts at → block_by within at ≡ Some ((b, n), rest)
      → block_word_expr within ts ≡ Some ((expr.ConstBlock b, suc n), rest)
  unfolding block_word_expr
  const_made b n ts at rest o r = rw ((one_front Ident (codes "const") ts at o).1, r) refl

  pub const_head : (b : Block) → IsHead depth within (expr.ConstBlock b)
  const_head b = head_of depth within (expr.ConstBlock b) (Expr-F.ConstBlock (about_block b)) (expr_const_block_is b) (λ no_struct first_flag ts rest h.
      let s = h.spelled in
      let o : IsOne Ident (codes "const") ts s.0 = bit_alone (keyword (codes "const")) ts s.0 s.1 in
      let r = soft_form_read fronts depth within reads b s.0 rest (part_alone (about_block b).soft depth s.0 rest s.2) h.inside in
      (suc r.0, omega (arith, r.1), const_made b r.0 ts s.0 rest o r.2))

  async_made : (moves : Bool) (b : Block) (n : ℕ) (ts at rest : Tokens) → IsOne Ident (codes "async") ts at
      → async_expr within at ≡ Some ((expr.Async moves b, suc n), rest) → block_word_expr within ts ≡ Some ((expr.Async moves b, suc n), rest)
  unfolding block_word_expr
  async_made moves b n ts at rest o r = rw (one_front Ident (codes "async") ts at o).1 r

  pub async_head : (moves : Bool) (b : Block) → IsHead depth within (expr.Async moves b)
  async_head moves b = head_of depth within (expr.Async moves b) (Expr-F.Async moves (about_block b)) (expr_async_is moves b) (λ no_struct first_flag ts rest h.
      let s = h.spelled in
      let o : IsOne Ident (codes "async") ts s.0 = bit_alone (keyword (codes "async")) ts s.0 s.1 in
      let r = behind moves s.0 rest s.2 h.inside in
      (suc r.0, omega (arith, r.1), async_made moves b r.0 ts s.0 rest o r.2))
    where
      body : Form
      body = (about_block b).form true

      moved : (ts at rest : Tokens) (n : ℕ) → IsOne Ident (codes "move") ts at → block_by within at ≡ Some ((b, n), rest)
          → async_expr within ts ≡ Some ((expr.Async true b, suc n), rest)
      moved ts at rest n o r = rw (keyword_there (codes "move") ts at o, one_left Ident (codes "move") ts at o, r) refl

      unmoved : (ts inside rest : Tokens) (n : ℕ) → IsOne (Opener Brace) (opening Brace ∷ []) ts inside → block_by within ts ≡ Some ((b, n), rest)
          → async_expr within ts ≡ Some ((expr.Async false b, suc n), rest)
      unmoved ts inside rest n o r =
          let no : first (is_keyword (codes "move")) ts ≡ false = rw (one_front (Opener Brace) (opening Brace ∷ []) ts inside o).1 refl in rw (no, r) refl

      behind : (moves : Bool) (ts rest : Tokens) → Spells (when moves (Blank ∷ keyword (codes "move") ∷ []) (Part ((about_block b).form true) Done)) depth ts rest
          → (about_block b).good ≡ true → (n : ℕ) × (n ≤ depth) × (async_expr within ts ≡ Some ((expr.Async moves b, suc n), rest))
      behind true ts rest t g =
          let o : IsOne Ident (codes "move") ts t.0 = bit_alone (keyword (codes "move")) ts t.0 (behind_blank (keyword (codes "move") ∷ []) ts t.0 t.1) in
          let r = block_form_read fronts depth within reads b true t.0 rest (part_alone body depth t.0 rest t.2) g in
          (r.0, r.1, moved ts t.0 rest r.0 o r.2)
      behind false ts rest t g =
          let p = block_at b true depth ts rest (part_alone body depth ts rest t) in
          let r = block_read fronts depth within reads b ts rest p g in
          (r.0, r.1, unmoved ts p.inside rest r.0 p.opened r.2)

  -- ---- loops

  loop_made : (label : Option Lifetime) (b : Block) (n : ℕ) (ts at rest : Tokens) → IsOne Ident (codes "loop") ts at → block_by within at ≡ Some ((b, n), rest)
      → labelled_expr within label ts ≡ Some ((expr.Loop label b, suc n), rest)
  loop_made label b n ts at rest o r = rw ((one_front Ident (codes "loop") ts at o).1, r) refl

  pub loop_head : (label : Option Lifetime) (b : Block) → IsHead depth within (expr.Loop label b)
  loop_head label b = head_of depth within (expr.Loop label b) (Expr-F.Loop label (about_block b)) (expr_loop_is label b) (λ no_struct first_flag ts rest h.
      labelled_read label ByBlockWord (expr.Loop label b) form no_struct ts rest h.spelled (λ us s. looped us rest s h.inside)
      (λ us s. loop_word us s.0 (bit_alone (keyword (codes "loop")) us s.0 s.1)))
    where
      form : Form
      form = Piece (keyword (codes "loop") ∷ []) (Part ((about_block b).form true) Done)

      looped : (us rest : Tokens) → Spells form depth us rest → (about_block b).good ≡ true → IsRead (suc depth) (labelled_expr within label) (expr.Loop label b) us rest
      looped us rest s g =
          let o : IsOne Ident (codes "loop") us s.0 = bit_alone (keyword (codes "loop")) us s.0 s.1 in
          let r = block_form_read fronts depth within reads b true s.0 rest (part_alone ((about_block b).form true) depth s.0 rest s.2) g in
          (suc r.0, omega (arith, r.1), loop_made label b r.0 us s.0 rest o r.2)

  while_made : (label : Option Lifetime) (x : Condition) (b : Block) (m n : ℕ) (ts at mid rest : Tokens) → IsOne Ident (codes "while") ts at
      → condition_by within at ≡ Some ((x, m), mid) → block_by within mid ≡ Some ((b, n), rest)
      → labelled_expr within label ts ≡ Some ((expr.While label x b, suc (max m n)), rest)
  unfolding while_expr
  while_made label x b m n ts at mid rest o c r = rw ((one_front Ident (codes "while") ts at o).1, c, r) refl

  pub while_head : (label : Option Lifetime) (x : Condition) (b : Block) → IsHead depth within (expr.While label x b)
  while_head label x b =
      head_of depth within (expr.While label x b) (Expr-F.While label (about_condition x) (about_block b)) (expr_while_is label x b)
      (λ no_struct first_flag ts rest h.
      labelled_read label ByBlockWord (expr.While label x b) form no_struct ts rest h.spelled (λ us s. looped us rest s h.inside)
      (λ us s. let w = s.1 in while_word us w.0 (before_blank (keyword (codes "while")) us w.0 w.1)))
    where
      head : Form
      head = Piece (keyword (codes "while") ∷ Blank ∷ []) (Part (about_condition x).form Done)

      form : Form
      form = I0 head (Part ((about_block b).form true) Done)

      looped : (us rest : Tokens) → Spells form depth us rest → ((about_condition x).good && (about_block b).good) ≡ true
          → IsRead (suc depth) (labelled_expr within label) (expr.While label x b) us rest
      looped us rest s g =
          let goods = and_parts (about_condition x).good (about_block b).good g in
          let w = s.1 in
          let o : IsOne Ident (codes "while") us w.0 = before_blank (keyword (codes "while")) us w.0 w.1 in
          let condition = part_alone (about_condition x).form depth w.0 s.0 w.2 in
          let p = block_at b true depth s.0 rest (part_alone ((about_block b).form true) depth s.0 rest s.2) in
          let c = condition_read depth within reads x w.0 s.0 p.inside condition goods.0 p.opened in
          let r = block_read fronts depth within reads b s.0 rest p goods.1 in
          (suc (max c.0 r.0), omega (arith, c.1, r.1), while_made label x b c.0 r.0 us w.0 s.0 rest o c.2 r.2)

  for_made : (label : Option Lifetime) (pat : Pat) (x : Expr) (b : Block) (l m n : ℕ) (ts at p behind mid rest : Tokens) → IsOne Ident (codes "for") ts at
      → within.pats Alternatives at ≡ Some ((pat, l), p) → IsOne Ident (codes "in") p behind → within.exprs (plain 0 true) behind ≡ Some ((x, m), mid)
      → block_by within mid ≡ Some ((b, n), rest) → labelled_expr within label ts ≡ Some ((expr.For label pat x b, suc (max l (max m n))), rest)
  unfolding for_expr
  for_made label pat x b l m n ts at p behind mid rest o q i e r =
      rw ((one_front Ident (codes "for") ts at o).1, q, keyword_there (codes "in") p behind i, one_left Ident (codes "in") p behind i, e, r) refl

  pub for_head : (label : Option Lifetime) (pat : Pat) (x : Expr) (b : Block) → IsHead depth within (expr.For label pat x b)
  for_head label pat x b =
      head_of depth within (expr.For label pat x b) (Expr-F.For label pat (about_expr x) (about_block b)) (expr_for_is label pat x b)
      (λ no_struct first_flag ts rest h.
      labelled_read label ByBlockWord (expr.For label pat x b) form no_struct ts rest h.spelled (λ us s. looped us rest s h.inside)
      (λ us s. let w = s.1 in for_word us w.0 (before_blank (keyword (codes "for")) us w.0 w.1)))
    where
      named : Form
      named = Part (pat_form Alternatives (about_pat pat)) (Piece (Blank ∷ keyword (codes "in") ∷ Blank ∷ []) (Part (about_expr x).form Done))

      form : Form
      form = I0 (Piece (keyword (codes "for") ∷ Blank ∷ []) named) (Part ((about_block b).form true) Done)

      looped : (us rest : Tokens) → Spells form depth us rest
          → (pat_good Alternatives (about_pat pat) && placed (about_expr x) (plain 0 true) && (about_block b).good) ≡ true
          → IsRead (suc depth) (labelled_expr within label) (expr.For label pat x b) us rest
      looped us rest s g =
          let g2 = and_parts (pat_good Alternatives (about_pat pat) && placed (about_expr x) (plain 0 true)) (about_block b).good g in
          let g1 = and_parts (pat_good Alternatives (about_pat pat)) (placed (about_expr x) (plain 0 true)) g2.0 in
          let w = s.1 in
          let o : IsOne Ident (codes "for") us w.0 = before_blank (keyword (codes "for")) us w.0 w.1 in
          let n = w.2 in
          let i = n.2 in
          let word : IsOne Ident (codes "in") n.0 i.0 =
          before_blank (keyword (codes "in")) n.0 i.0 (behind_blank (keyword (codes "in") ∷ Blank ∷ []) n.0 i.0 i.1) in
          let fits : Fits Alternatives (about_pat pat) n.0 = (one_no_op (codes "|") Ident (codes "in") n.0 i.0 refl word, in_follows (about_pat pat) n.0 i.0 word) in
          let q = reads.pats Alternatives pat w.0 n.0 n.1 g1.0 fits in
          let p = block_at b true depth s.0 rest (part_alone ((about_block b).form true) depth s.0 rest s.2) in
          let e = before_block fronts depth within reads 0 x i.0 s.0 p.inside (part_alone (about_expr x).form depth i.0 s.0 i.2) g1.1 p.opened in
          let r = block_read fronts depth within reads b s.0 rest p g2.1 in
          (suc (max q.0 (max e.0 r.0)), omega (arith, q.1, e.1, r.1), for_made label pat x b q.0 e.0 r.0 us w.0 n.0 i.0 s.0 rest o q.2 word e.2 r.2)
