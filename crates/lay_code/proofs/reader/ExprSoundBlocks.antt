-- Expressions with blocks and no arms: what is parsed stands there, if that holds one level deeper.
use Rattle.std.proofs.Common.{◌≡◌, ℕ, suc, ◌≤◌, max, Bool, true, false, not, ◌&&◌, List, [], ◌∷◌, map, inl, inr, codes, drop, Option, option_map, Some, None, is_some, refl, sym, subst, ◌∙◌, arith}
use Rattle.std.proofs.lemmas.Bool.{and_parts, and_from}
use Rattle.lay_piece.specs.declared.kind.Delim.TheVariants.{Brace}
use Rattle.lay_piece.specs.declared.kind.Kind.TheVariants as kind
use Rattle.lay_token.specs.Operators.{is_op}
use Rattle.lay_form.specs.Form.{Blank, Done, Form, Operator, Part, Piece, keyword}
use Rattle.lay_form.specs.Notation.{I0}
use Rattle.lay_form.specs.Spelled.{AreBits, IsOne, IsOperator, Spells}
use Rattle.lay_form.proofs.FormLaws.{deeper as raise}
use Rattle.lay_node.specs.Ahead.{Tokens, first, tail, is_keyword, opens}
use Rattle.lay_node.specs.nodes.Patterns.{about_pat, pat_form, pat_good}
use Rattle.lay_node.specs.reader.Exact.{InText}
use Rattle.lay_node.specs.reader.Loops.{deepest, nodes, passed, repeat}
use Rattle.lay_node.specs.reader.Types.{if_read, lifetime}
use Rattle.lay_node.specs.declared.patterns.PatPlace.TheVariants.{Alternatives}
use Rattle.lay_node.specs.declared.token.Lifetime.{Lifetime}
use Rattle.lay_node.proofs.Fronts.{keyword_one}
use Rattle.lay_node.proofs.Parts.{Rows}
use Rattle.lay_node.proofs.Steps.{bind_some, chosen, same_some}
use Rattle.lay_node.proofs.reader.Loops.{SoundStep, repeat_sound}
use Rattle.lay_node.proofs.reader.TypesSoundParts.{Leads, Out, bit_texts, if_read_sound, keyword_passed_is, lifetime_sound}
use Rattle.lay_code.specs.nodes.Code.{about_block, about_branch, about_condition, about_expr}
use Rattle.lay_code.specs.nodes.CodeFacts.{BlockFacts}
use Rattle.lay_code.specs.nodes.Exprs.{ExprLayer, Tail, branch_head, branches_good, else_branch_form, expr_facts, inside, labelled, may_be_good, more_branches, placed, shut, tail_follows, tail_of, within_of}
use Rattle.lay_code.specs.nodes.Places.{plain}
use Rattle.lay_code.specs.reader.Blocks.{block_by, branch_by}
use Rattle.lay_code.specs.reader.Conditions.{condition_by}
use Rattle.lay_code.specs.reader.Exprs.{async_expr, begins_else_if, block_expr, for_expr, if_expr, label_expr, labelled_expr, while_expr}
use Rattle.lay_code.specs.reader.Within.{ExprWithin}
use Rattle.lay_code.specs.declared.blocks.Block.{Block}
use Rattle.lay_code.specs.declared.blocks.Branch.{Branch}
use Rattle.lay_code.specs.declared.blocks.Stmt.TheOpen.{Expr-F}
use Rattle.lay_code.specs.declared.exprs.Expr.{Expr}
use Rattle.lay_code.specs.declared.exprs.Expr.TheVariants as expr
use Rattle.lay_code.proofs.nodes.ExprsLaws.{expr_async_is, expr_block_is, expr_const_block_is, expr_for_is, expr_if_is, expr_loop_is, expr_unsafe_is, expr_while_is}
use Rattle.lay_code.proofs.reader.BlocksSoundWhole.{BlockStands, BranchHeld, block_sound, branch_sound}
use Rattle.lay_code.proofs.reader.ConditionsSound.{condition_sound}
use Rattle.lay_code.proofs.reader.ExprSoundLevel.{LeftHeld, SoundExprWithin, made}

two_tails : (ts : Tokens) → tail (tail ts) ≡ drop 2 ts
two_tails [] = refl
two_tails (t ∷ []) = refl
two_tails (t ∷ u ∷ ts) = refl

-- a word, after which something stands
word_leads : (word : List ℕ) (f : Form) (depth : ℕ) (ts at rest : Tokens) → IsOne kind.Ident word ts at → Spells f depth at rest
    → Spells (Piece (keyword word ∷ []) f) depth ts rest
word_leads word f depth ts at rest o s = (at, (at, o, refl), s)

spaced_leads : (word : List ℕ) (f : Form) (depth : ℕ) (ts at rest : Tokens) → IsOne kind.Ident word ts at → Spells f depth at rest
    → Spells (Piece (keyword word ∷ Blank ∷ []) f) depth ts rest
spaced_leads word f depth ts at rest o s = (at, (at, o, (at, refl, refl)), s)

part_done : (f : Form) (depth : ℕ) (ts rest : Tokens) → Spells f depth ts rest → Spells (Part f Done) depth ts rest
part_done f depth ts rest s = (rest, s, refl)

module _ (budget : ℕ) (within : ExprWithin) (sound : SoundExprWithin budget within) (no_struct starts : Bool) where
  abbrev Left : Expr × ℕ → Tokens → Tokens → Type 0
  Left = LeftHeld no_struct starts

  -- ---- one block

  -- An expression of one block stands there, by the form that its kind gives the block.
  pub one_block : (make : Block → Expr) (layer : BlockFacts → ExprLayer)
      → ((b : Block) → about_expr (make b) ≡ expr_facts (layer (about_block b)))
      → ((b : BlockFacts) → (within_of (layer b) no_struct starts ≡ b.good) × (tail_of (layer b) ≡ shut)) → (ts at : Tokens) → InText at
      → ((b : BlockFacts) (n : ℕ) (rest : Tokens) → BlockStands budget b n at rest → Spells (inside (layer b)) n ts rest)
      → (x : Expr × ℕ) (rest : Tokens) → block_expr within make at ≡ Some (x, rest) → Out Left ts (x, rest)
  one_block make layer is parts ts at t form x rest h =
      let b = bind_some (block_by within at) _ _ h in
      let s = block_sound budget within sound at b.0.0 b.0.1 t b.1 in
      let block = b.0.0.0 in
      let told = about_block block in
      let p = parts told in
      let free = subst (λ (z : Tail). tail_follows z no_struct b.0.1 ≡ true) (sym p.1) refl in
      same_some (Out Left ts) ((make block, suc b.0.0.1), b.0.1) (x, rest) b.2 (
        made no_struct starts (about_expr (make block)) (layer told) b.0.0.1 ts b.0.1 (is block) (form told b.0.0.1 b.0.1 s.0)
            (p.0 ∙ s.0.good) free,
        s.1,
      )

  -- a word and a block that may stand on one line
  soft_block : (word : List ℕ) (make : Block → Expr) (layer : BlockFacts → ExprLayer)
      → ((b : Block) → about_expr (make b) ≡ expr_facts (layer (about_block b)))
      → ((b : BlockFacts) → (within_of (layer b) no_struct starts ≡ b.good) × (tail_of (layer b) ≡ shut))
      → ((b : BlockFacts) → inside (layer b) ≡ Piece (keyword word ∷ []) (Part b.soft Done)) → (ts : Tokens) → InText ts
      → first (is_keyword word) ts ≡ true → (x : Expr × ℕ) (rest : Tokens) → block_expr within make (tail ts) ≡ Some (x, rest)
      → Out Left ts (x, rest)
  soft_block word make layer is parts form ts t g x rest h =
      let o = keyword_one word ts g in
      one_block make layer is parts ts (tail ts) (bit_texts (keyword word) ts (tail ts) o t)
      (λ b n end s. subst (λ f. Spells f n ts end) (sym (form b))
      (word_leads word (Part b.soft Done) n ts (tail ts) end o (part_done b.soft n (tail ts) end s.soft))) x rest h

  pub unsafe_head : (ts : Tokens) → InText ts → first (is_keyword (codes "unsafe")) ts ≡ true → (x : Expr × ℕ) (rest : Tokens)
      → block_expr within expr.Unsafe (tail ts) ≡ Some (x, rest) → Out Left ts (x, rest)
  unsafe_head ts t g x rest h =
      soft_block (codes "unsafe") expr.Unsafe Expr-F.Unsafe expr_unsafe_is (λ b. (refl, refl)) (λ b. refl) ts t g x rest h

  pub const_head : (ts : Tokens) → InText ts → first (is_keyword (codes "const")) ts ≡ true → (x : Expr × ℕ) (rest : Tokens)
      → block_expr within expr.ConstBlock (tail ts) ≡ Some (x, rest) → Out Left ts (x, rest)
  const_head ts t g x rest h =
      soft_block (codes "const") expr.ConstBlock Expr-F.ConstBlock expr_const_block_is (λ b. (refl, refl)) (λ b. refl) ts t g x rest h

  pub async_head : (ts : Tokens) → InText ts → first (is_keyword (codes "async")) ts ≡ true → (x : Expr × ℕ) (rest : Tokens)
      → async_expr within (tail ts) ≡ Some (x, rest) → Out Left ts (x, rest)
  async_head ts t g x rest h =
      let at = tail ts in
      let o = keyword_one (codes "async") ts g in
      let left = bit_texts (keyword (codes "async")) ts at o t in
      elim (chosen (first (is_keyword (codes "move")) at) _ _ _ h) [
        | inl f ↦
            let m = keyword_one (codes "move") at f.0 in
            let bits : AreBits (Blank ∷ keyword (codes "move") ∷ []) at (tail at) = (at, refl, (tail at, m, refl)) in
            one_block (λ b. expr.Async true b) (λ b. Expr-F.Async true b) (expr_async_is true) (λ b. (refl, refl)) ts (tail at)
            (bit_texts (keyword (codes "move")) at (tail at) m left)
            (λ b n end s. (at, (at, o, refl), (tail at, bits, (end, s.form true, refl)))) x rest f.1
        | inr f ↦
            one_block (λ b. expr.Async false b) (λ b. Expr-F.Async false b) (expr_async_is false) (λ b. (refl, refl)) ts at left
            (λ b n end s. (at, (at, o, refl), (end, s.form true, refl))) x rest f.1
      ]

  -- ---- with a label or not

  module _ (label : Option Lifetime) (ts at : Tokens) (leads : Leads (labelled label) ts at) (t : InText at) where
    while_head : first (is_keyword (codes "while")) at ≡ true → (x : Expr × ℕ) (rest : Tokens)
        → while_expr within label (tail at) ≡ Some (x, rest) → Out Left ts (x, rest)
    unfolding while_expr
    while_head g x rest h =
        let from = tail at in
        let o = keyword_one (codes "while") at g in
        let c = bind_some (condition_by within from) _ _ h in
        let b = bind_some (block_by within c.0.1) _ _ c.2 in
        let s = condition_sound budget within sound from c.0.0 c.0.1 (bit_texts (keyword (codes "while")) at from o t) c.1 in
        let k = block_sound budget within sound c.0.1 b.0.0 b.0.1 s.1 b.1 in
        let condition = c.0.0.0 in
        let told = about_condition condition in
        let block = about_block b.0.0.0 in
        let most = max c.0.0.1 b.0.0.1 in
        let Head : Form = Piece (keyword (codes "while") ∷ Blank ∷ []) (Part told.form Done) in
        let F : Form = I0 Head (Part (block.form true) Done) in
        let head = spaced_leads (codes "while") (Part told.form Done) most at from c.0.1 o
        (part_done told.form most from c.0.1 (raise told.form c.0.0.1 most from c.0.1 (omega arith) s.0.1)) in
        let form : Spells F most at b.0.1 = (
          c.0.1,
          head,
          part_done (block.form true) most c.0.1 b.0.1 (raise (block.form true) b.0.0.1 most c.0.1 b.0.1 (omega arith) (k.0.form true)),
        ) in
        same_some (Out Left ts) ((expr.While label condition b.0.0.0, suc most), b.0.1) (x, rest) b.2 (
          made no_struct starts (about_expr (expr.While label condition b.0.0.0)) (Expr-F.While label told block) most ts b.0.1
              (expr_while_is label condition b.0.0.0) (leads F most b.0.1 form) (and_from told.good block.good s.0.2 k.0.good) refl,
          k.1,
        )

    for_head : (from : Tokens) → IsOne kind.Ident (codes "for") at from → (x : Expr × ℕ) (rest : Tokens)
        → for_expr within label from ≡ Some (x, rest) → Out Left ts (x, rest)
    unfolding for_expr
    for_head from o x rest h =
        let p = bind_some (within.pats Alternatives from) _ _ h in
        let i = bind_some (passed (is_keyword (codes "in")) p.0.1) _ _ p.2 in
        let e = bind_some (within.exprs (plain 0 true) i.0) _ _ i.2 in
        let b = bind_some (block_by within e.0.1) _ _ e.2 in
        let ps = sound.pats Alternatives from p.0.0 p.0.1 (bit_texts (keyword (codes "for")) at from o t) p.1 in
        let word = keyword_passed_is (codes "in") p.0.1 i.0 i.1 in
        let s = sound.exprs (plain 0 true) i.0 e.0.0 e.0.1 (bit_texts (keyword (codes "in")) p.0.1 i.0 word ps.1) e.1 in
        let k = block_sound budget within sound e.0.1 b.0.0 b.0.1 s.1 b.1 in
        let pat = p.0.0.0 in
        let told = about_expr e.0.0.0 in
        let block = about_block b.0.0.0 in
        let most = max p.0.0.1 (max e.0.0.1 b.0.0.1) in
        let P = pat_form Alternatives (about_pat pat) in
        let In : Form = Piece (Blank ∷ keyword (codes "in") ∷ Blank ∷ []) (Part told.form Done) in
        let F : Form = I0 (Piece (keyword (codes "for") ∷ Blank ∷ []) (Part P In)) (Part (block.form true) Done) in
        let bits : AreBits (Blank ∷ keyword (codes "in") ∷ Blank ∷ []) p.0.1 i.0 = (p.0.1, refl, (i.0, word, (i.0, refl, refl))) in
        let iterated : Spells In most p.0.1 e.0.1 =
        (i.0, bits, part_done told.form most i.0 e.0.1 (raise told.form e.0.0.1 most i.0 e.0.1 (omega arith) s.0.1)) in
        let head = spaced_leads (codes "for") (Part P In) most at from e.0.1 o
        (p.0.1, raise P p.0.0.1 most from p.0.1 (omega arith) ps.0.1, iterated) in
        let form : Spells F most at b.0.1 = (
          e.0.1,
          head,
          part_done (block.form true) most e.0.1 b.0.1 (raise (block.form true) b.0.0.1 most e.0.1 b.0.1 (omega arith) (k.0.form true)),
        ) in
        let good = and_from (pat_good Alternatives (about_pat pat) && placed told (plain 0 true)) block.good
        (and_from (pat_good Alternatives (about_pat pat)) (placed told (plain 0 true)) ps.0.2 s.0.2) k.0.good in
        same_some (Out Left ts) ((expr.For label pat e.0.0.0 b.0.0.0, suc most), b.0.1) (x, rest) b.2 (
          made no_struct starts (about_expr (expr.For label pat e.0.0.0 b.0.0.0)) (Expr-F.For label pat told block) most ts b.0.1
              (expr_for_is label pat e.0.0.0 b.0.0.0) (leads F most b.0.1 form) good refl,
          k.1,
        )

    -- a block or a loop
    pub labelled_head : (x : Expr × ℕ) (rest : Tokens) → labelled_expr within label at ≡ Some (x, rest) → Out Left ts (x, rest)
    labelled_head x rest h = elim (chosen (first (opens Brace) at) _ _ _ h) [
      | inl g ↦
          one_block (expr.Block label) (Expr-F.Block label) (expr_block_is label) (λ b. (refl, refl)) ts at t
          (λ b n end s. leads (b.form false) n end (s.form false)) x rest g.1
      | inr g ↦ elim (chosen (first (is_keyword (codes "loop")) at) _ _ _ g.1) [
        | inl f ↦
            let from = tail at in
            let o = keyword_one (codes "loop") at f.0 in
            one_block (expr.Loop label) (Expr-F.Loop label) (expr_loop_is label) (λ b. (refl, refl)) ts from
            (bit_texts (keyword (codes "loop")) at from o t)
            (λ b n end s. leads (Piece (keyword (codes "loop") ∷ []) (Part (b.form true) Done)) n end
            (word_leads (codes "loop") (Part (b.form true) Done) n at from end o (part_done (b.form true) n from end (s.form true))))
            x rest f.1
        | inr f ↦ elim (chosen (first (is_keyword (codes "while")) at) _ _ _ f.1) [
          | inl e ↦ while_head e.0 x rest e.1
          | inr e ↦
              let k = bind_some (passed (is_keyword (codes "for")) at) _ _ e.1 in
              for_head k.0 (keyword_passed_is (codes "for") at k.0 k.1) x rest k.2
        ]
      ]
    ]

  -- What begins with a label stands there.
  pub label_head : SoundStep (label_expr within) Left
  unfolding label_expr
  label_head ts x rest t h =
      let l = bind_some (lifetime ts) _ _ h in
      let s = lifetime_sound ts l.0.0 l.0.1 t l.1 in
      let mid = l.0.1 in
      let at = drop 1 mid in
      elim (chosen (is_op (codes ":") mid) _ _ _ l.2) [
        | inl g ↦
            let o : IsOperator (codes ":") mid at = (g.0, refl) in
            labelled_head (Some l.0.0) ts at
            (λ f depth end r. (mid, (mid, s.0, refl), (at, (at, o, (at, refl, refl)), (end, r, refl))))
            (bit_texts (Operator (codes ":")) mid at o s.1) x rest g.1
        | inr g ↦ absurd (cc g.1)
      ]

  -- What begins without one does.
  pub unlabelled_head : (ts : Tokens) → InText ts → (x : Expr × ℕ) (rest : Tokens) → labelled_expr within None ts ≡ Some (x, rest)
      → Out Left ts (x, rest)
  unlabelled_head ts t x rest h = labelled_head None ts ts (λ f depth end s. s) t x rest h

  -- ---- branches

  branch_spelled : (b : Branch × ℕ) (most : ℕ) (f : Form) (ts at mid rest : Tokens) → b.1 ≤ most → IsOne kind.Ident (codes "if") ts at
      → BranchHeld budget within sound b at mid → Spells f most mid rest
      → Spells (I0 (branch_head (about_branch b.0)) (Part (about_branch b.0).soft f)) most ts rest
  branch_spelled b most f ts at mid rest le o k s =
      let told = about_branch b.0 in
      let parts = k.1 in
      let behind = parts.2 in
      let end = parts.0 in (
        end,
        spaced_leads (codes "if") (Part told.condition Done) most ts at end o
            (part_done told.condition most at end (raise told.condition b.1 most at end le parts.1)),
        (behind.0, raise told.soft b.1 most end behind.0 le behind.1, subst (λ us. Spells f most us rest) (sym behind.2) s),
      )

  abbrev FurtherHeld : Branch × ℕ → Tokens → Tokens → Type 0
  FurtherHeld b ts rest = (begins_else_if ts ≡ true) × BranchHeld budget within sound b (drop 2 ts) rest

  further_spelled : (most : ℕ) (xs : List (Branch × ℕ)) (f : Form) (ts mid rest : Tokens) → deepest xs ≤ most
      → Rows FurtherHeld xs ts mid → Spells f most mid rest → Spells (more_branches (map about_branch (nodes xs)) f) most ts rest
  further_spelled most [] f ts mid rest le r s = subst (λ us. Spells f most us rest) (sym r) s
  further_spelled most (x ∷ xs) f ts mid rest le r s =
      let behind = tail ts in
      let both = and_parts (first (is_keyword (codes "else")) ts) (first (is_keyword (codes "if")) behind) r.1.0 in
      let word = subst (IsOne kind.Ident (codes "if") behind) (two_tails ts) (keyword_one (codes "if") behind both.1) in
      let more = further_spelled most xs f r.0 mid rest (omega (arith, le)) r.2 s in (
        behind,
        (ts, refl, (behind, keyword_one (codes "else") ts both.0, (behind, refl, refl))),
        branch_spelled x most (more_branches (map about_branch (nodes xs)) f) behind (drop 2 ts) r.0 rest (omega (arith, le)) word r.1.1
            more,
      )

  further_good : (xs : List (Branch × ℕ)) (ts rest : Tokens) → Rows FurtherHeld xs ts rest
      → branches_good (map about_branch (nodes xs)) ≡ true
  further_good [] ts rest r = refl
  further_good (x ∷ xs) ts rest r =
      and_from (about_branch x.0).good (branches_good (map about_branch (nodes xs))) r.1.1.2 (further_good xs r.0 rest r.2)

  -- the block after the last `else`, if there is one
  record OtherwiseHeld (x : Option Block × ℕ) (ts rest : Tokens) : Type 0 where
    form : Spells (else_branch_form (option_map about_block x.0)) x.1 ts rest
    good : may_be_good (option_map about_block x.0) ≡ true
    follows : tail_follows (record shut { lacks_else = not (is_some (option_map about_block x.0)) }) no_struct rest ≡ true

  lacking : (b : Bool) → b ≡ false → (not b && true) ≡ true
  lacking false h = refl
  lacking true h = absurd (cc h)

  otherwise_sound : (ts : Tokens) (x : Option Block × ℕ) (rest : Tokens) → InText ts
      → if_read (first (is_keyword (codes "else")) ts) (λ us. block_by within (tail us)) ts ≡ Some (x, rest)
      → Out OtherwiseHeld ts (x, rest)
  otherwise_sound ts x rest t h =
      if_read_sound OtherwiseHeld (λ us. block_by within (tail us)) (first (is_keyword (codes "else")) ts) ts
      (λ g y mid e.
      let at = tail ts in
      let o = keyword_one (codes "else") ts g in
      let s = block_sound budget within sound at y mid (bit_texts (keyword (codes "else")) ts at o t) e in
      (record { form = (at, (ts, refl, (at, o, refl)), (mid, s.0.soft, refl)); good = s.0.good; follows = refl }, s.1))
      (λ g. record { form = refl; good = refl; follows = lacking (first (is_keyword (codes "else")) ts) g }) t x rest h

  pub if_head : (ts : Tokens) → InText ts → first (is_keyword (codes "if")) ts ≡ true → (x : Expr × ℕ) (rest : Tokens)
      → if_expr within (tail ts) ≡ Some (x, rest) → Out Left ts (x, rest)
  unfolding if_expr
  if_head ts t g x rest h =
      let at = tail ts in
      let word = keyword_one (codes "if") ts g in
      let b = bind_some (branch_by within at) _ _ h in
      let more = bind_some (repeat begins_else_if (λ us. branch_by within (drop 2 us)) b.0.1) _ _ b.2 in
      let o = bind_some (if_read (first (is_keyword (codes "else")) more.0.1) (λ us. block_by within (tail us)) more.0.1) _ _ more.2 in
      let s = branch_sound budget within sound at b.0.0 b.0.1 (bit_texts (keyword (codes "if")) ts at word t) b.1 in
      let xs = more.0.0 in
      let mid = more.0.1 in
      let r = repeat_sound begins_else_if (λ us. branch_by within (drop 2 us)) FurtherHeld further_sound b.0.1 xs mid s.1 more.1 in
      let k = otherwise_sound mid o.0.0 o.0.1 r.1 o.1 in
      let end = o.0.1 in
      let all = b.0.0.0 ∷ nodes xs in
      let told = map about_branch all in
      let last = option_map about_block o.0.0.0 in
      let most = max b.0.0.1 (max (deepest xs) o.0.0.1) in
      let E = else_branch_form last in
      let other = further_spelled most xs E b.0.1 mid end (omega arith) r.0 (raise E o.0.0.1 most mid end (omega arith) k.0.form) in
      let form = branch_spelled b.0.0 most (more_branches (map about_branch (nodes xs)) E) ts at b.0.1 end (omega arith) word s.0 other in
      let good = and_from (branches_good told) (may_be_good last)
      (and_from (about_branch b.0.0.0).good (branches_good (map about_branch (nodes xs))) s.0.2 (further_good xs b.0.1 mid r.0)) k.0.good in
      same_some (Out Left ts) ((expr.If all o.0.0.0, suc most), end) (x, rest) o.2 (
        made no_struct starts (about_expr (expr.If all o.0.0.0)) (Expr-F.If told last) most ts end (expr_if_is all o.0.0.0) form good
            k.0.follows,
        k.1,
      )
    where
      further_sound : (us : Tokens) (y : Branch × ℕ) (left : Tokens) → InText us → begins_else_if us ≡ true
          → branch_by within (drop 2 us) ≡ Some (y, left) → FurtherHeld y us left × InText left
      further_sound us y left i m e =
          let behind = tail us in
          let both = and_parts (first (is_keyword (codes "else")) us) (first (is_keyword (codes "if")) behind) m in
          let one = keyword_one (codes "else") us both.0 in
          let two = subst (IsOne kind.Ident (codes "if") behind) (two_tails us) (keyword_one (codes "if") behind both.1) in
          let texts = bit_texts (keyword (codes "if")) behind (drop 2 us) two (bit_texts (keyword (codes "else")) us behind one i) in
          let s = branch_sound budget within sound (drop 2 us) y left texts e in ((m, s.0), s.1)
