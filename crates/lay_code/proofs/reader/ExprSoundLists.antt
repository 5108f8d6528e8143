-- Lists of expressions in delimiters, and operands that may be left out: what is parsed stands
-- there, if that holds one level deeper.
use Rattle.std.proofs.Common.{◌≡◌, ℕ, Bool, true, false, not, ◌&&◌, List, map, Option, Some, None, refl, sym, subst, ◌∙◌}
use Rattle.lay_piece.specs.declared.kind.Delim.{Delim}
use Rattle.lay_form.specs.Form.{opener, closer}
use Rattle.lay_form.specs.Notation.{comma_list}
use Rattle.lay_form.specs.Spelled.{IsBit, Spells}
use Rattle.lay_node.specs.Ahead.{Tokens, closes}
use Rattle.lay_node.specs.reader.Exact.{InText}
use Rattle.lay_node.specs.reader.Loops.{deepest, elements, nodes}
use Rattle.lay_node.proofs.Fronts.{closes_one}
use Rattle.lay_node.proofs.Steps.{same_some, bind_some}
use Rattle.lay_node.proofs.reader.Loops.{SoundStep}
use Rattle.lay_node.proofs.reader.TypesSoundNeeds.{list_held}
use Rattle.lay_node.proofs.reader.TypesSoundParts.{Out, ElementsBy, elements_by, if_read_sound}
use Rattle.lay_code.specs.Operands.{ExprLead, ByBrace, begins_operand, expr_lead_at, is_operand_lead}
use Rattle.lay_code.specs.nodes.Code.{about_expr}
use Rattle.lay_code.specs.nodes.Exprs.{all_free, begins_free, expr_forms, is_brace_lead, placed}
use Rattle.lay_code.specs.nodes.Places.{FREE, plain}
use Rattle.lay_code.specs.reader.Exprs.{free_elements, operand_if}
use Rattle.lay_code.specs.reader.Within.{ExprWithin}
use Rattle.lay_code.specs.declared.exprs.Expr.{Expr}
use Rattle.lay_code.proofs.reader.ExprSoundLeads.{LedWithin}
use Rattle.lay_code.proofs.reader.ExprSoundLevel.{ExprHeld, SoundExprWithin, expr_list}

module _ (budget : ℕ) (within : ExprWithin) (sound : SoundExprWithin budget within) where
  -- ---- lists

  -- Expressions in a row stand there, with commas and what closes them.
  abbrev pub FreeRow : Delim → List (Expr × ℕ) → Tokens → Tokens → Type 0
  FreeRow d xs ts rest = ElementsBy (closer d) (ExprHeld FREE budget) xs ts rest

  -- the same, of the expressions and their greatest need
  abbrev pub FreeList : Delim → List Expr × ℕ → Tokens → Tokens → Type 0
  FreeList d x ts rest = (xs : List (Expr × ℕ)) × (◌≡◌ {A = List Expr × ℕ} (nodes xs, deepest xs) x) × FreeRow d xs ts rest

  -- What is read in delimiters stands there.
  pub free_sound : (d : Delim) → SoundStep (free_elements within (closes d)) (FreeList d)
  free_sound d ts x rest t h =
      let xs = bind_some (elements (closes d) (within.exprs FREE) ts) _ _ h in
      let e = elements_by (within.exprs FREE) (ExprHeld FREE budget) (sound.exprs FREE) (closes d) (closer d)
      (λ us p c. closes_one d us p c) ts xs.0.0 xs.0.1 t xs.1 in
      same_some (Out (FreeList d) ts) ((nodes xs.0.0, deepest xs.0.0), xs.0.1) (x, rest) xs.2 ((xs.0.0, refl, e.0), e.1)

  -- They are spelled, at their greatest need, and well formed.
  abbrev pub FreeSpelled : Delim → List Expr × ℕ → Tokens → Tokens → Type 0
  FreeSpelled d x ts rest =
      Spells (comma_list true (opener d) (closer d) (expr_forms (map about_expr x.0))) x.1 ts rest
      × (all_free (map about_expr x.0) ≡ true)

  -- Expressions in a row are spelled in their delimiters.
  pub row_spelled : (d : Delim) (xs : List (Expr × ℕ)) (ts inside rest : Tokens) → IsBit (opener d) ts inside
      → FreeRow d xs inside rest → FreeSpelled d (nodes xs, deepest xs) ts rest
  row_spelled d xs ts inside rest o r =
      let l = list_held budget (λ y. (about_expr y).form) (λ y. placed (about_expr y) FREE) (ExprHeld FREE budget)
      (λ y us left k. (k.0, k.1, k.2)) (opener d) (closer d) xs ts inside rest o r in
      let told = expr_list (nodes xs) in (
        subst (λ fs. Spells (comma_list true (opener d) (closer d) fs) (deepest xs) ts rest) (sym told.0) l.1,
        told.1 ∙ l.2,
      )

  pub free_spelled : (d : Delim) (x : List Expr × ℕ) (ts inside rest : Tokens) → IsBit (opener d) ts inside
      → FreeList d x inside rest → FreeSpelled d x ts rest
  free_spelled d x ts inside rest o l =
      subst (λ (y : List Expr × ℕ). FreeSpelled d y ts rest) l.1 (row_spelled d l.0 ts inside rest o l.2)

  -- ---- operands that may be left out

  -- An operand stands there, or nothing, and no operand begins there.
  abbrev pub OperandHeld : ℕ → Bool → Option Expr → ℕ → Tokens → Tokens → Type 0
  OperandHeld level no_struct None need ts rest = (ts ≡ rest) × (begins_operand no_struct rest ≡ false)
  OperandHeld level no_struct (Some x) need ts rest =
      ExprHeld (plain level no_struct) budget (x, need) ts rest × (begins_free no_struct (about_expr x) ≡ true)
      × (expr_lead_at ts ≡ Some (about_expr x).lead)

  lead_free : (no_struct : Bool) (lead : ExprLead) → is_operand_lead no_struct (Some lead) ≡ true
      → not (no_struct && is_brace_lead lead) ≡ true
  lead_free false lead h = refl
  lead_free true ByBrace h = absurd (cc h)
  lead_free true _ h = refl

  -- An operand that may be left out stands there as it is read.
  pub operand_sound : (led : LedWithin within) (level : ℕ) (no_struct : Bool) (ts : Tokens) (x : Option Expr × ℕ) (rest : Tokens)
      → InText ts → operand_if within level no_struct ts ≡ Some (x, rest)
      → Out (λ (y : Option Expr × ℕ). OperandHeld level no_struct y.0 y.1) ts (x, rest)
  operand_sound led level no_struct ts x rest t h =
      if_read_sound (λ (y : Option Expr × ℕ). OperandHeld level no_struct y.0 y.1) (within.exprs (plain level no_struct))
      (begins_operand no_struct ts) ts
      (λ g y mid e.
      let s = sound.exprs (plain level no_struct) ts y mid t e in
      let lead = led (plain level no_struct) ts (y, mid) e in
      let free = subst (λ l. is_operand_lead no_struct l ≡ true) lead g in
      ((s.0, lead_free no_struct (about_expr y.0).lead free, lead), s.1))
      (λ g. (refl, g)) t x rest h
