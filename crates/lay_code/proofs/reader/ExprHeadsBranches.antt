-- Branches and matches are parsed where they are spelled.
use Rattle.std.proofs.Common.{◌≡◌, ℕ, suc, ◌≤◌, ◌<◌, max, Bool, true, false, not, ◌&&◌, List, [], ◌∷◌, ◌++◌, map, length, drop, codes, Option, option_map, Some, None, is_some, refl, arith}
use Rattle.std.proofs.lemmas.Bool.{and_parts, not-true}
use Rattle.lay_piece.specs.Forms.{opening}
use Rattle.lay_piece.specs.declared.kind.Delim.TheVariants.{Brace}
use Rattle.lay_piece.specs.declared.kind.Kind.TheVariants.{Ident, Opener}
use Rattle.lay_form.specs.Form.{Blank, Form, Part, keyword}
use Rattle.lay_form.specs.Notation.{I0}
use Rattle.lay_form.specs.Spelled.{IsOne, Spells}
use Rattle.lay_form.proofs.FormLaws.{shorter}
use Rattle.lay_node.specs.Ahead.{Tokens, first, tail, is_keyword, more_items}
use Rattle.lay_node.specs.nodes.Attr.{are_attrs, attr_form}
use Rattle.lay_node.specs.nodes.Types.{is_there}
use Rattle.lay_node.specs.reader.Attr.{attributes}
use Rattle.lay_node.specs.reader.Loops.{nodes, deepest, repeat}
use Rattle.lay_node.specs.reader.Types.{if_read}
use Rattle.lay_node.specs.declared.attr.Attr.{Attr}
use Rattle.lay_node.proofs.Fronts.{one_front, one_shorter, opener_passed, closer_passed}
use Rattle.lay_node.proofs.Parts.{Rows, SpelledAt, Closed, before_blank, behind_blank, bit_alone, body_rows, part_alone, rows_parts}
use Rattle.lay_node.proofs.reader.Attr.{attrs_rows}
use Rattle.lay_node.proofs.reader.AttrRead.{attributes_complete}
use Rattle.lay_node.proofs.reader.Exact.{IsRead}
use Rattle.lay_node.proofs.reader.Loops.{Turn, repeat_complete}
use Rattle.lay_node.proofs.reader.TypesCompleteParts.{keyword_there, one_left}
use Rattle.lay_code.specs.nodes.Code.{about_arm, about_block, about_branch, about_expr}
use Rattle.lay_code.specs.nodes.Exprs.{ExprLayer, arm_forms, arms_good, branch_head, branches_form, branches_good, else_branch_form, inside, may_be_good, more_branches, placed, tail_of}
use Rattle.lay_code.specs.nodes.Places.{plain}
use Rattle.lay_code.specs.reader.Blocks.{arm_by, block_by, branch_by}
use Rattle.lay_code.specs.reader.Exprs.{begins_else_if, block_word_expr, if_expr, match_expr}
use Rattle.lay_code.specs.reader.Within.{ExprWithin}
use Rattle.lay_code.specs.declared.blocks.Arm.{Arm}
use Rattle.lay_code.specs.declared.blocks.Block.{Block}
use Rattle.lay_code.specs.declared.blocks.Branch.{Branch}
use Rattle.lay_code.specs.declared.blocks.Stmt.TheOpen.{Expr-F}
use Rattle.lay_code.specs.declared.exprs.Expr.{Expr}
use Rattle.lay_code.specs.declared.exprs.Expr.TheVariants as expr
use Rattle.lay_code.proofs.nodes.ExprsLaws.{expr_if_is, expr_match_is}
use Rattle.lay_code.proofs.reader.ArmsComplete.{arms_turned}
use Rattle.lay_code.proofs.reader.BlockReads.{Fronts}
use Rattle.lay_code.proofs.reader.BodilessKinds.{if_bare}
use Rattle.lay_code.proofs.reader.BlocksComplete.{brace_ends, block_read, soft_at, turns_read}
use Rattle.lay_code.proofs.reader.BranchesComplete.{before_block, branch_read}
use Rattle.lay_code.proofs.reader.ExprHeads.{IsHead, head_of}
use Rattle.lay_code.proofs.reader.ExprQuiet.{tail_fits}
use Rattle.lay_code.proofs.reader.ExprReads.{ExprReads}
use Rattle.lay_code.proofs.reader.Followed.{Ended, bodiless_tail}

module _ (fronts : Fronts) (depth : ℕ) (within : ExprWithin) (reads : ExprReads depth within) where
  -- ---- one branch

  record BranchThere (b : Branch) (f : Form) (ts rest : Tokens) : Type 0 where
    pub at : Tokens
    pub mid : Tokens
    pub word : IsOne Ident (codes "if") ts at
    pub read : IsRead depth (branch_by within) b at mid
    pub behind : Spells f depth mid rest
    pub less : length mid < length ts

  branch_there : (b : Branch) (f : Form) (ts rest : Tokens) → Spells (I0 (branch_head (about_branch b)) (Part (about_branch b).soft f)) depth ts rest
      → (about_branch b).good ≡ true → BranchThere b f ts rest
  branch_there b f ts rest s g =
      let head = s.1 in
      let p = s.2 in
      let o : IsOne Ident (codes "if") ts head.0 = before_blank (keyword (codes "if")) ts head.0 head.1 in
      let condition = part_alone (about_branch b).condition depth head.0 s.0 head.2 in
      let short = shorter (about_branch b).condition depth head.0 s.0 condition in
      let soft_short = shorter (about_branch b).soft depth s.0 p.0 p.1 in
      record {
        at = head.0;
        mid = p.0;
        word = o;
        read = branch_read fronts depth within reads b head.0 s.0 p.0 condition p.1 g;
        behind = p.2;
        less = omega (arith, one_shorter Ident (codes "if") ts head.0 o, short, soft_short);
      }

  -- ---- further branches

  abbrev BranchTurned : Branch → Tokens → Tokens → Type 0
  BranchTurned b ts rest = (n : ℕ) × (n ≤ depth) × Turn begins_else_if (λ us. branch_by within (drop 2 us)) (b, n) ts rest

  else_if : (ts mid at : Tokens) → IsOne Ident (codes "else") ts mid → IsOne Ident (codes "if") mid at → (begins_else_if ts ≡ true) × (drop 2 ts ≡ at)
  else_if ts mid at o i =
      let e = (one_front Ident (codes "else") ts mid o).1 in
      let f = (one_front Ident (codes "if") mid at i).1 in (rw (e, f) refl, rw (e, f) refl)

  branches_turned : (more : List Branch) (f : Form) (ts rest : Tokens) → Spells (more_branches (map about_branch more) f) depth ts rest
      → branches_good (map about_branch more) ≡ true → (end : Tokens) × Rows BranchTurned more ts end × Spells f depth end rest
  branches_turned [] f ts rest s g = (ts, refl, s)
  branches_turned (b ∷ more) f ts rest s g =
      let goods = and_parts (about_branch b).good (branches_good (map about_branch more)) g in
      let o : IsOne Ident (codes "else") ts s.0 =
      before_blank (keyword (codes "else")) ts s.0 (behind_blank (keyword (codes "else") ∷ Blank ∷ []) ts s.0 s.1) in
      let t = branch_there b (more_branches (map about_branch more) f) s.0 rest s.2 goods.0 in
      let e = else_if ts s.0 t.at o t.word in
      let r = t.read in
      let read : branch_by within (drop 2 ts) ≡ Some ((b, r.0), t.mid) = rw e.1 r.2 in
      let m = branches_turned more f t.mid rest t.behind goods.1 in
      (m.0, (t.mid, (r.0, r.1, (e.0, read, omega (arith, one_shorter Ident (codes "else") ts s.0 o, t.less))), m.1), m.2)

  -- ---- an `else`

  else_read : (o : Option Block) (ts rest : Tokens) → Spells (else_branch_form (option_map about_block o)) depth ts rest
      → may_be_good (option_map about_block o) ≡ true → not (not (is_some o) && first (is_keyword (codes "else")) rest) ≡ true
      → IsRead depth (λ us. if_read (first (is_keyword (codes "else")) us) (λ vs. block_by within (tail vs)) us) o ts rest × (begins_else_if ts ≡ false)
  else_read None ts rest s g h =
      let none = not-true (first (is_keyword (codes "else")) rest) h in ((0, omega arith, rw (s, none) refl), rw (s, none) refl)
  else_read (Some b) ts rest s g h =
      let o : IsOne Ident (codes "else") ts s.0 = bit_alone (keyword (codes "else")) ts s.0 (behind_blank (keyword (codes "else") ∷ []) ts s.0 s.1) in
      let p = soft_at b depth s.0 rest (part_alone (about_block b).soft depth s.0 rest s.2) in
      let r = block_read fronts depth within reads b s.0 rest p g in
      let brace : first (is_keyword (codes "if")) s.0 ≡ false = rw (one_front (Opener Brace) (opening Brace ∷ []) s.0 p.inside p.opened).1 refl in
      let left = one_left Ident (codes "else") ts s.0 o in
      let there = keyword_there (codes "else") ts s.0 o in
      ((r.0, r.1, rw (there, left, r.2) refl), rw (there, left, brace) refl)

  -- ---- all branches

  if_made : (b : Branch) (more : List Branch) (o : Option Block) (ys : List (Branch × ℕ)) (m n : ℕ) (ts at mid end rest : Tokens)
      → IsOne Ident (codes "if") ts at → branch_by within at ≡ Some ((b, m), mid)
      → repeat begins_else_if (λ us. branch_by within (drop 2 us)) mid ≡ Some (ys, end) → nodes ys ≡ more
      → if_read (first (is_keyword (codes "else")) end) (λ us. block_by within (tail us)) end ≡ Some ((o, n), rest)
      → block_word_expr within ts ≡ Some ((expr.If (b ∷ more) o, suc (max m (max (deepest ys) n))), rest)
  unfolding block_word_expr if_expr
  if_made b more o ys m n ts at mid end rest w r l e q = rw ((one_front Ident (codes "if") ts at w).1, r, l, q, e) refl

  if_read_there : (b : Branch) (more : List Branch) (o : Option Block) (ts rest : Tokens)
      → Spells (branches_form (map about_branch (b ∷ more)) (else_branch_form (option_map about_block o))) depth ts rest
      → branches_good (map about_branch (b ∷ more)) ≡ true → may_be_good (option_map about_block o) ≡ true
      → not (not (is_some o) && first (is_keyword (codes "else")) rest) ≡ true → IsRead (suc depth) (block_word_expr within) (expr.If (b ∷ more) o) ts rest
  if_read_there b more o ts rest s g h k =
      let goods = and_parts (about_branch b).good (branches_good (map about_branch more)) g in
      let f = else_branch_form (option_map about_block o) in
      let t = branch_there b (more_branches (map about_branch more) f) ts rest s goods.0 in
      let m = branches_turned more f t.mid rest t.behind goods.1 in
      let e = else_read o m.0 rest m.2 h k in
      let q = e.0 in
      let ys = turns_read (Turn begins_else_if (λ us. branch_by within (drop 2 us))) depth more t.mid m.0 m.1 in
      let all = repeat_complete (λ us. branch_by within (drop 2 us)) begins_else_if ys.0 t.mid m.0 ys.3 e.1 in
      let r = t.read in (
        suc (max r.0 (max (deepest ys.0) q.0)),
        omega (arith, r.1, ys.2, q.1),
        if_made b more o ys.0 r.0 q.0 ts t.at t.mid m.0 rest t.word r.2 all ys.1 q.2,
      )

  -- branches
  pub if_head : (branches : List Branch) (o : Option Block) → IsHead depth within (expr.If branches o)
  if_head branches o =
      let bs = map about_branch branches in
      let last = option_map about_block o in
      head_of depth within (expr.If branches o) (Expr-F.If bs last) (expr_if_is branches o) (λ no_struct first_flag ts rest h.
      let goods = and_parts (is_there bs && branches_good bs) (may_be_good last) h.inside in
      by branches ts rest h.spelled goods.0 goods.1 (tail_is branches o no_struct ts rest goods.0 h.tail))
    where
      tail_is : (bs : List Branch) (o : Option Block) (no_struct : Bool) (ts rest : Tokens)
          → (is_there (map about_branch bs) && branches_good (map about_branch bs)) ≡ true
          → Ended (tail_of (Expr-F.If (map about_branch bs) (option_map about_block o))) (inside (Expr-F.If (map about_branch bs) (option_map about_block o)))
          no_struct depth ts rest
          → not (not (is_some o) && first (is_keyword (codes "else")) rest) ≡ true
      tail_is [] o no_struct ts rest g e = absurd (cc)
      tail_is (b ∷ more) (Some c) no_struct ts rest g e = refl
      tail_is (b ∷ more) None no_struct ts rest g e =
          let layer : ExprLayer = Expr-F.If (map about_branch (b ∷ more)) None in
          (tail_fits (tail_of layer) no_struct rest (bodiless_tail (tail_of layer) (inside layer) no_struct depth ts rest (if_bare b more) e)).otherwise

      by : (bs : List Branch) (ts rest : Tokens) → Spells (branches_form (map about_branch bs) (else_branch_form (option_map about_block o))) depth ts rest
          → (is_there (map about_branch bs) && branches_good (map about_branch bs)) ≡ true → may_be_good (option_map about_block o) ≡ true
          → not (not (is_some o) && first (is_keyword (codes "else")) rest) ≡ true → IsRead (suc depth) (block_word_expr within) (expr.If bs o) ts rest
      by [] ts rest s g h k = absurd (cc)
      by (b ∷ more) ts rest s g h k = if_read_there b more o ts rest s g h k

-- ---- matches

module _ (fronts : Fronts) (depth : ℕ) (within : ExprWithin) (reads : (least : ℕ) → least ≤ depth → ExprReads least within) where
  match_made : (x : Expr) (attrs : List Attr) (arms : List Arm) (ys : List (Arm × ℕ)) (n : ℕ) (ts at brace inside start end rest : Tokens)
      → IsOne Ident (codes "match") ts at → within.exprs (plain 0 true) at ≡ Some ((x, n), brace) → IsOne (Opener Brace) (opening Brace ∷ []) brace inside
      → attributes true inside ≡ Some (attrs, start) → repeat more_items (arm_by within) start ≡ Some (ys, end) → nodes ys ≡ arms → Closed Brace end rest
      → block_word_expr within ts ≡ Some ((expr.Match x attrs arms, suc (max n (deepest ys))), rest)
  unfolding block_word_expr match_expr
  match_made x attrs arms ys n ts at brace inside start end rest w r o a l e c =
      rw ((one_front Ident (codes "match") ts at w).1, r, opener_passed Brace brace inside o, a, l, closer_passed Brace end rest c, e) refl

  pub match_head : (x : Expr) (attrs : List Attr) (arms : List Arm) → IsHead depth within (expr.Match x attrs arms)
  match_head x attrs arms =
      head_of depth within (expr.Match x attrs arms) (Expr-F.Match (about_expr x) attrs (map about_arm arms)) (expr_match_is x attrs arms)
      (λ no_struct first_flag ts rest h.
      let s = h.spelled in
      let forms = arm_forms (map about_arm arms) in
      let g2 = and_parts (placed (about_expr x) (plain 0 true) && are_attrs true attrs) (arms_good (map about_arm arms)) h.inside in
      let g1 = and_parts (placed (about_expr x) (plain 0 true)) (are_attrs true attrs) g2.0 in
      let w = s.1 in
      let o : IsOne Ident (codes "match") ts w.0 = before_blank (keyword (codes "match")) ts w.0 w.1 in
      let b = body_rows true (map attr_form attrs ++ forms) depth s.0 rest s.2 in
      let rows = rows_parts (SpelledAt depth) (map attr_form attrs) forms b.0 b.1 b.3 in
      let here = reads depth (omega arith) in
      let r = before_block fronts depth within here 0 x w.0 s.0 b.0 (part_alone (about_expr x).form depth w.0 s.0 w.2) g1.0 b.2 in
      let t = arms_turned fronts depth within reads arms rows.0 b.1 rest rows.2 g2.1 b.4 in
      let behind = t.1 in
      let ys = turns_read (Turn more_items (arm_by within)) depth arms rows.0 b.1 t.0 in
      let all = repeat_complete (arm_by within) more_items ys.0 rows.0 b.1 ys.3 (brace_ends b.1 rest b.4) in
      let inner = attributes_complete true attrs depth b.0 rows.0 (attrs_rows true depth attrs b.0 rows.0 rows.1 g1.1) behind.begun.attr in (
        suc (max r.0 (deepest ys.0)),
        omega (arith, r.1, ys.2),
        match_made x attrs arms ys.0 r.0 ts w.0 s.0 b.0 rows.0 b.1 rest o r.2 b.2 inner all ys.1 b.4,
      ))
