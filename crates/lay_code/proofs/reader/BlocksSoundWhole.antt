-- Whole blocks, and the branches that lead to them: what is parsed stands there, if that holds one
-- level deeper.
use Rattle.std.proofs.Common.{◌≡◌, ℕ, ◌≤◌, max, Bool, true, false, ◌&&◌, ◌||◌, List, [], ◌∷◌, ◌++◌, map, inl, inr, codes, Some, refl, sym, subst, ◌∙◌, arith, if◌then◌else◌}
use Rattle.std.proofs.lemmas.Bool.{and_from}
use Rattle.lay_piece.specs.declared.kind.Delim.TheVariants.{Brace}
use Rattle.lay_form.specs.Form.{Done, Form, Part, closer, opener}
use Rattle.lay_form.specs.Notation.{piece, soft}
use Rattle.lay_form.specs.Spelled.{AreBits, Spells}
use Rattle.lay_form.proofs.FormLaws.{deeper as raise}
use Rattle.lay_node.specs.Ahead.{Tokens, first, closes, is_mark, more_items, opens}
use Rattle.lay_node.specs.nodes.Attr.{are_attrs, attr_form}
use Rattle.lay_node.specs.nodes.Fields.{blank_if}
use Rattle.lay_node.specs.reader.Attr.{attributes}
use Rattle.lay_node.specs.reader.Exact.{InText}
use Rattle.lay_node.specs.reader.Loops.{deepest, nodes, passed, repeat}
use Rattle.lay_node.specs.declared.attr.Attr.{Attr}
use Rattle.lay_node.proofs.Fronts.{closer_passed_is, opener_passed_is}
use Rattle.lay_node.proofs.Parts.{Rows, SpelledAt, body_spelled, led_blank, rows_joined}
use Rattle.lay_node.proofs.Steps.{bind_some, chosen, same_some}
use Rattle.lay_node.proofs.reader.Attr.{attributes_sound, attrs_spelled}
use Rattle.lay_node.proofs.reader.Loops.{SoundStep, repeat_sound}
use Rattle.lay_node.proofs.reader.TypesSoundParts.{Out, bit_texts}
use Rattle.lay_code.specs.nodes.Blocks.{attrs_before, block_facts, block_form, branch_facts, dropped, dropped_if, is_plain, soft_form, stmt_form, stmts_good}
use Rattle.lay_code.specs.nodes.Code.{about_block, about_branch, about_condition, about_stmt}
use Rattle.lay_code.specs.nodes.CodeFacts.{BlockFacts, BranchFacts, StmtFacts}
use Rattle.lay_code.specs.reader.Blocks.{behind_semicolons, block_by, branch_by, stmt_by, stmt_in_block}
use Rattle.lay_code.specs.reader.Conditions.{condition_by}
use Rattle.lay_code.specs.reader.Within.{ExprWithin}
use Rattle.lay_code.specs.declared.blocks.Block.{Block}
use Rattle.lay_code.specs.declared.blocks.Branch.{Branch}
use Rattle.lay_code.specs.declared.blocks.Stmt.{Stmt}
use Rattle.lay_code.proofs.nodes.BlocksLaws.{block_is, branch_is}
use Rattle.lay_code.proofs.reader.BlocksSound.{bare_unended, closer_last, closer_mark, most_within, no_semicolons, semicolons_behind, semicolons_texts, stmt_sound}
use Rattle.lay_code.proofs.reader.ConditionsSound.{condition_sound}
use Rattle.lay_code.proofs.reader.ExprSoundLevel.{SoundExprWithin}

-- ---- inner attributes, before `;` that are dropped

last_attr : (depth : ℕ) (f : Form) (fs : List Form) (ts at : Tokens) → Rows (SpelledAt depth) (f ∷ fs) ts at
    → Rows (SpelledAt depth) (attrs_before (f ∷ fs)) ts (behind_semicolons at)
last_attr depth f [] ts at r =
    let end = behind_semicolons at in
    let form : Spells f depth ts at = subst (λ us. Spells f depth ts us) r.2 r.1 in
    (end, (at, form, (end, (end, semicolons_behind at, refl), refl)), refl)
last_attr depth f (g ∷ fs) ts at r = (r.0, r.1, last_attr depth g fs r.0 at r.2)

-- What follows the `{` up to the first statement.
abbrev Begun : ℕ → List Attr → Tokens → Tokens → Type 0
Begun depth attrs ts rest =
    (start : Tokens) × AreBits (dropped_if (is_plain attrs)) ts start × Rows (SpelledAt depth) (attrs_before (map attr_form attrs)) start rest

begun : (depth : ℕ) (attrs : List Attr) (ts at : Tokens) → Rows (SpelledAt depth) (map attr_form attrs) ts at
    → Begun depth attrs ts (behind_semicolons at)
begun depth [] ts at r =
    let end = behind_semicolons at in
    let bits : AreBits dropped at end = (end, semicolons_behind at, refl) in
    (end, subst (λ us. AreBits dropped us end) (sym r) bits, refl)
begun depth (a ∷ attrs) ts at r = (ts, refl, last_attr depth (attr_form a) (map attr_form attrs) ts at r)

-- ---- the two forms of a block

-- Where a block is one expression, both its forms are spelled alike: they differ in breaks.
soft_single : (s : StmtFacts) (b : Bool) → (b ≡ true → s.unended ≡ true) → (depth : ℕ) (ts rest : Tokens)
    → Spells (block_form [] (s ∷ []) true) depth ts rest
    → Spells (if b then soft s.form else block_form [] (s ∷ []) true) depth ts rest
soft_single s false u depth ts rest h = h
soft_single s true u depth ts rest h =
    let inner = h.2.1 in
    let one = inner.1 in
    let bare : Spells (Part s.form Done) depth h.0 one.0 =
    subst (λ (b : Bool). Spells (if b then Part s.form Done else Part s.form (piece dropped)) depth h.0 one.0) (u refl) one.1 in
    (h.0, h.1, (h.2.0, (bare.0, bare.1, bare.2 ∙ (one.2 ∙ inner.2)), h.2.2))

pub soft_spelled : (attrs : List Attr) (stmts : List Stmt) (depth : ℕ) (ts rest : Tokens)
    → Spells (block_form attrs (map about_stmt stmts) true) depth ts rest → Spells (soft_form attrs (map about_stmt stmts)) depth ts rest
soft_spelled [] [] depth ts rest h = h
soft_spelled [] (s ∷ []) depth ts rest h = soft_single (about_stmt s) (about_stmt s).bare (bare_unended s) depth ts rest h
soft_spelled [] (s ∷ r ∷ more) depth ts rest h = h
soft_spelled (a ∷ attrs) stmts depth ts rest h = h

-- ---- statements in a block

-- A statement stands in a block, with the `;` that are dropped after it; one that doesn't end by itself is the last.
record StmtRow (budget : ℕ) (x : Stmt × ℕ) (ts rest : Tokens) : Type 0 where
  more : more_items ts ≡ true
  need : x.1 ≤ budget
  form : Spells (stmt_form (about_stmt x.0)) x.1 ts rest
  good : (about_stmt x.0).good ≡ true
  ended : more_items rest ≡ true → (about_stmt x.0).ends ≡ true

stmts_stand : (budget : ℕ) (xs : List (Stmt × ℕ)) (ts rest : Tokens) → Rows (StmtRow budget) xs ts rest
    → stmts_good (map about_stmt (nodes xs)) ≡ true
stmts_stand budget [] ts rest r = refl
stmts_stand budget (x ∷ []) ts rest r = r.1.good
stmts_stand budget (x ∷ y ∷ xs) ts rest r =
    let told = about_stmt x.0 in
    let ends = r.1.ended r.2.1.more in
    and_from (told.good && told.ends) (stmts_good (map about_stmt (nodes (y ∷ xs)))) (and_from told.good told.ends r.1.good ends)
    (stmts_stand budget (y ∷ xs) r.0 rest r.2)

-- Statements are spelled at their greatest need, which is within the budget.
stmts_spelled : (budget most : ℕ) (xs : List (Stmt × ℕ)) (ts rest : Tokens) → deepest xs ≤ most → Rows (StmtRow budget) xs ts rest
    → Rows (SpelledAt most) (map stmt_form (map about_stmt (nodes xs))) ts rest × (deepest xs ≤ budget)
stmts_spelled budget most [] ts rest le r = (r, omega arith)
stmts_spelled budget most (x ∷ xs) ts rest le r =
    let more = stmts_spelled budget most xs r.0 rest (omega (arith, le)) r.2 in (
      (r.0, raise (stmt_form (about_stmt x.0)) x.1 most ts r.0 (omega (arith, le)) r.1.form, more.0),
      most_within x.1 (deepest xs) budget r.1.need more.1,
    )

-- ---- what is held of blocks

-- A block stands there, after a blank or not, at the depth that stands with it, which is within the budget.
pub record BlockStands (budget : ℕ) (b : BlockFacts) (n : ℕ) (ts rest : Tokens) : Type 0 where
  pub need : n ≤ budget
  pub form : (lead : Bool) → Spells (b.form lead) n ts rest
  pub soft : Spells b.soft n ts rest
  pub good : b.good ≡ true

abbrev pub BlockHeld : ℕ → Block × ℕ → Tokens → Tokens → Type 0
BlockHeld budget x ts rest = BlockStands budget (about_block x.0) x.1 ts rest

-- A statement, and the `;` after it.
stmt_behind : (s : StmtFacts) (b : Bool) (depth : ℕ) (ts mid : Tokens) → (b ≡ true → first (is_mark (codes ";")) mid ≡ false)
    → Spells s.form depth ts mid
    → Spells (if b then Part s.form Done else Part s.form (piece dropped)) depth ts (behind_semicolons mid)
stmt_behind s true depth ts mid u h = (mid, h, sym (no_semicolons mid (u refl)))
stmt_behind s false depth ts mid u h =
    let end = behind_semicolons mid in (mid, h, (end, (end, semicolons_behind mid, refl), refl))

stmt_ends : (ends : Bool) (mid : Tokens) → (ends || first (closes Brace) mid) ≡ true → more_items (behind_semicolons mid) ≡ true
    → ends ≡ true
stmt_ends true mid h m = refl
stmt_ends false mid h m =
    let last = subst (λ us. more_items us ≡ false) (sym (no_semicolons mid (closer_mark mid h))) (closer_last mid h) in
    absurd (cc (sym m ∙ last))

block_told : (budget : ℕ) (X F : BlockFacts) (n : ℕ) (ts rest : Tokens) → X ≡ F → BlockStands budget F n ts rest
    → BlockStands budget X n ts rest
block_told budget X F n ts rest e s = subst (λ (z : BlockFacts). BlockStands budget z n ts rest) (sym e) s

module _ (budget : ℕ) (within : ExprWithin) (sound : SoundExprWithin budget within) where
  row_sound : (ts : Tokens) (x : Stmt × ℕ) (rest : Tokens) → InText ts → more_items ts ≡ true → stmt_in_block within ts ≡ Some (x, rest)
      → Out (StmtRow budget) ts (x, rest)
  row_sound ts x rest t m h =
      let s = bind_some (stmt_by within ts) _ _ h in
      let held = stmt_sound budget within sound ts s.0.0 s.0.1 t s.1 in
      let told = about_stmt s.0.0.0 in
      let mid = s.0.1 in
      elim (chosen (told.ends || first (closes Brace) mid) _ _ _ s.2) [
        | inl g ↦
            let row : StmtRow budget s.0.0 ts (behind_semicolons mid) = record {
              more = m;
              need = held.0.need;
              form = stmt_behind told told.unended s.0.0.1 ts mid held.0.last held.0.form;
              good = held.0.good;
              ended = stmt_ends told.ends mid g.0;
            } in
            same_some (Out (StmtRow budget) ts) (s.0.0, behind_semicolons mid) (x, rest) g.1 (row, semicolons_texts mid held.1)
        | inr g ↦ absurd (cc g.1)
      ]

  -- A block that is read stands there.
  pub block_sound : SoundStep (block_by within) (BlockHeld budget)
  unfolding block_by
  block_sound ts x rest t h =
      let o = bind_some (passed (opens Brace) ts) _ _ h in
      let a = bind_some (attributes true o.0) _ _ o.2 in
      let from = behind_semicolons a.0.1 in
      let ss = bind_some (repeat more_items (stmt_in_block within) from) _ _ a.2 in
      let c = bind_some (passed (closes Brace) ss.0.1) _ _ ss.2 in
      let attrs = a.0.0 in
      let xs = ss.0.0 in
      let stmts = nodes xs in
      let most = deepest xs in
      let opened = opener_passed_is Brace ts o.0 t o.1 in
      let inner = attributes_sound true most o.0 attrs a.0.1 (bit_texts (opener Brace) ts o.0 opened t) a.1 in
      let r = repeat_sound more_items (stmt_in_block within) (StmtRow budget) row_sound from xs ss.0.1 (semicolons_texts a.0.1 inner.1) ss.1 in
      let shut = closer_passed_is Brace ss.0.1 c.0 r.1 c.1 in
      let before = attrs_spelled true most attrs o.0 a.0.1 inner.0 in
      let start = begun most attrs o.0 a.0.1 before.0 in
      let behind = stmts_spelled budget most xs from ss.0.1 (omega arith) r.0 in
      let told = map about_stmt stmts in
      let lines = attrs_before (map attr_form attrs) ++ map stmt_form told in
      let rows = rows_joined (SpelledAt most) (attrs_before (map attr_form attrs)) (map stmt_form told) start.0 from ss.0.1 start.2 behind.0 in
      let form : (lead : Bool) → Spells (block_form attrs told lead) most ts c.0 = λ lead.
      body_spelled (blank_if lead) (dropped_if (is_plain attrs)) lines most ts ts o.0 start.0 ss.0.1 c.0 (led_blank lead ts) opened start.1
      rows shut in
      let F = block_facts (record { attrs = attrs; stmts = told }) in
      let made : Block = record { attrs = attrs; stmts = stmts } in
      let there : BlockStands budget F most ts c.0 = record {
        need = behind.1;
        form = form;
        soft = soft_spelled attrs stmts most ts c.0 (form true);
        good = and_from (are_attrs true attrs) (stmts_good told) before.1 (stmts_stand budget xs from ss.0.1 r.0);
      } in
      same_some (Out (BlockHeld budget) ts) ((made, most), c.0) (x, rest) c.2 (
        block_told budget (about_block made) F most ts c.0 (block_is made) there,
        bit_texts (closer Brace) ss.0.1 c.0 shut r.1,
      )

  -- ---- branches

  -- A condition stands there and the block that it leads to, which may stand on one line.
  abbrev pub BranchHeld : Branch × ℕ → Tokens → Tokens → Type 0
  BranchHeld x ts rest =
      (x.1 ≤ budget) × Spells (Part (about_branch x.0).condition (Part (about_branch x.0).soft Done)) x.1 ts rest
      × ((about_branch x.0).good ≡ true)

  branch_told : (x : Branch × ℕ) (F : BranchFacts) (ts rest : Tokens) → about_branch x.0 ≡ F → x.1 ≤ budget
      → Spells (Part F.condition (Part F.soft Done)) x.1 ts rest → F.good ≡ true → BranchHeld x ts rest
  branch_told x F ts rest e le s g =
      let P : BranchFacts → Type 0 = λ z. Spells (Part z.condition (Part z.soft Done)) x.1 ts rest × (z.good ≡ true) in
      let told = subst P (sym e) (s, g) in (le, told.0, told.1)

  pub branch_sound : SoundStep (branch_by within) BranchHeld
  unfolding branch_by
  branch_sound ts x rest t h =
      let c = bind_some (condition_by within ts) _ _ h in
      let b = bind_some (block_by within c.0.1) _ _ c.2 in
      let s = condition_sound budget within sound ts c.0.0 c.0.1 t c.1 in
      let k = block_sound c.0.1 b.0.0 b.0.1 s.1 b.1 in
      let condition = about_condition c.0.0.0 in
      let block = about_block b.0.0.0 in
      let most = max c.0.0.1 b.0.0.1 in
      let made : Branch = record { condition = c.0.0.0; body = b.0.0.0 } in
      let F = branch_facts (record { condition = condition; body = block }) in
      let form : Spells (Part F.condition (Part F.soft Done)) most ts b.0.1 = (
        c.0.1,
        raise F.condition c.0.0.1 most ts c.0.1 (omega arith) s.0.1,
        (b.0.1, raise F.soft b.0.0.1 most c.0.1 b.0.1 (omega arith) k.0.soft, refl),
      ) in
      let good = and_from condition.good block.good s.0.2 k.0.good in
      same_some (Out BranchHeld ts) ((made, most), b.0.1) (x, rest) b.2
      (branch_told (made, most) F ts b.0.1 (branch_is made) (most_within c.0.0.1 b.0.0.1 budget s.0.0 k.0.need) form good, k.1)
