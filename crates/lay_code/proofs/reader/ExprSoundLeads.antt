-- What is read as an expression begins with the lead that the tokens begin with: what begins it is read by that lead, and
-- what operators make of it keeps the lead.
use Rattle.std.proofs.Common.{◌≡◌, ℕ, zero, suc, max, Bool, true, false, not, ◌&&◌, List, [], ◌∷◌, map, drop, inl, inr, codes, Option, option_map, Some, None, is_some, if◌then◌else◌, refl, sym, ap, subst, ◌∙◌}
use Rattle.std.specs.Prelude.{nat_le, ◌==◌}
use Rattle.lay_token.specs.Operators.{is_op}
use Rattle.lay_piece.specs.declared.kind.Delim.TheVariants.{Paren, Bracket, Brace}
use Rattle.lay_node.specs.Ahead.{Tokens, first, tail, closes, is_keyword, is_lifetime, is_mark, opens}
use Rattle.lay_node.specs.Begins.{is_literal_token}
use Rattle.lay_node.specs.nodes.Attr.{is_empty}
use Rattle.lay_node.specs.reader.Call.{call}
use Rattle.lay_node.specs.reader.Loops.{deepest, nodes, open_elements, passed, repeat}
use Rattle.lay_node.specs.reader.Patterns.{begins_field}
use Rattle.lay_node.specs.reader.Tokens.{tokens}
use Rattle.lay_node.specs.reader.Types.{begins_call, if_there, lifetime, literal, path}
use Rattle.lay_node.specs.declared.types.PathStyle.TheVariants.{Code}
use Rattle.lay_node.proofs.Steps.{same_some, chosen, bind_some}
use Rattle.lay_code.specs.Operands.{ExprLead, ByLiteral, ByPath, ByUnderscore, ByLabel, ByParen, ByBracket, ByBrace, ByPrefix, ByRange, ByContinue, ByBreak, ByReturn, ByBlockWord, ByClosure, expr_lead_at}
use Rattle.lay_code.specs.Operators.{begins_step, prefix, strength}
use Rattle.lay_code.specs.nodes.Code.{about_expr}
use Rattle.lay_code.specs.nodes.Exprs.{lead_of_start, lead_of_targets, stands, root_follows}
use Rattle.lay_code.specs.nodes.Places.{FREE, plain}
use Rattle.lay_code.specs.reader.Code.{code_in}
use Rattle.lay_code.specs.reader.Exprs.{assign_expr, base, begins_tuple_index, bracket_expr, break_expr, call_expr, cast_expr, chain_expr, climb, climb_by, continue_expr, expr_by, free_elements, head_by, is_ended, left_place, literal_expr, one_field, one_prefix, one_step, one_type, operand_if, operands, paren_expr, path_expr, postfix_expr, range_by, range_expr, return_expr, stage, struct_expr, targets_of, unary_expr, value_of}
use Rattle.lay_code.specs.reader.Within.{ExprWithin}
use Rattle.lay_code.specs.declared.exprs.Expr.{Expr}
use Rattle.lay_code.specs.declared.exprs.Expr.TheVariants as expr
use Rattle.lay_code.specs.declared.exprs.Place.{Place}
use Rattle.lay_code.specs.declared.operators.Op.{Op}
use Rattle.lay_code.proofs.nodes.ExprsLaws.{before_op, expr_lit_is, expr_path_is, expr_underscore_is, expr_call_is, expr_paren_is, expr_continue_is, expr_tuple_is, expr_array_is, expr_repeat_is, expr_struct_is, expr_chain_is, expr_cast_is, expr_unary_is, expr_range_is, expr_assign_is, expr_postfix_is, expr_return_is, expr_break_is}
use Rattle.lay_code.proofs.reader.ExprSoundFirst.{brace_first, word_first}
use Rattle.lay_code.proofs.reader.ExprSoundLed.{Led, closure_led, label_led, labelled_led, led, word_led}

module _ (within : ExprWithin) where
  -- ---- what begins an expression

  path_led : (no_struct : Bool) (ts : Tokens) (r : (Expr × ℕ) × Tokens) → path_expr within no_struct ts ≡ Some r → Led ByPath r
  unfolding path_expr struct_expr
  path_led no_struct ts r h =
      let p = bind_some (path within.kinds Code ts) _ _ h in
      elim (chosen (not no_struct && first (opens Brace) p.0.1) _ _ _ p.2) [
        | inl g ↦
            let fs = bind_some (open_elements begins_field (one_field within) (tail p.0.1)) _ _ g.1 in
            let b = bind_some (base within fs.0.0.1 fs.0.1) _ _ fs.2 in
            let c = bind_some (passed (closes Brace) b.0.1) _ _ b.2 in
            same_some (Led ByPath) ((expr.Struct p.0.0.0 (nodes fs.0.0.0) b.0.0.0, _), c.0) r c.2
            (led (expr_struct_is p.0.0.0 (nodes fs.0.0.0) b.0.0.0))
        | inr g ↦ elim (chosen (is_op (codes "!") p.0.1) _ _ _ g.1) [
          | inl f ↦ absurd (cc f.1)
          | inr f ↦ same_some (Led ByPath) ((expr.Path p.0.0.0, suc p.0.0.1), p.0.1) r f.1 (led (expr_path_is p.0.0.0))
        ]
      ]

  paren_led : (ts : Tokens) (r : (Expr × ℕ) × Tokens) → paren_expr within ts ≡ Some r → Led ByParen r
  unfolding paren_expr
  paren_led ts r h = elim (chosen (first (closes Paren) ts) _ _ _ h) [
    | inl g ↦ same_some (Led ByParen) ((expr.Tuple [], 1), tail ts) r g.1 (led (expr_tuple_is []))
    | inr g ↦
        let x = bind_some (within.exprs FREE ts) _ _ g.1 in
        elim (chosen (first (closes Paren) x.0.1) _ _ _ x.2) [
          | inl f ↦ same_some (Led ByParen) ((expr.Paren x.0.0.0, suc x.0.0.1), tail x.0.1) r f.1 (led (expr_paren_is x.0.0.0))
          | inr f ↦
              let k = bind_some (passed (is_mark (codes ",")) x.0.1) _ _ f.1 in
              let more = bind_some (free_elements within (closes Paren) k.0) _ _ k.2 in
              let all = x.0.0.0 ∷ more.0.0.0 in
              same_some (Led ByParen) ((expr.Tuple all, suc (max x.0.0.1 more.0.0.1)), more.0.1) r more.2 (led (expr_tuple_is all))
        ]
  ]

  bracket_led : (ts : Tokens) (r : (Expr × ℕ) × Tokens) → bracket_expr within ts ≡ Some r → Led ByBracket r
  unfolding bracket_expr
  bracket_led ts r h = elim (chosen (first (closes Bracket) ts) _ _ _ h) [
    | inl g ↦ same_some (Led ByBracket) ((expr.Array [], 1), tail ts) r g.1 (led (expr_array_is []))
    | inr g ↦
        let x = bind_some (within.exprs FREE ts) _ _ g.1 in
        elim (chosen (first (is_mark (codes ";")) x.0.1) _ _ _ x.2) [
          | inl f ↦
              let us = bind_some (tokens (tail x.0.1)) _ _ f.1 in
              let c = bind_some (passed (closes Bracket) us.0.1) _ _ us.2 in
              elim (chosen (is_empty us.0.0) _ _ _ c.2) [
                | inl e ↦ absurd (cc e.1)
                | inr e ↦
                    same_some (Led ByBracket) ((expr.Repeat x.0.0.0 us.0.0, suc x.0.0.1), c.0) r e.1
                    (led (expr_repeat_is x.0.0.0 us.0.0))
              ]
          | inr f ↦ elim (chosen (first (closes Bracket) x.0.1) _ _ _ f.1) [
            | inl e ↦
                let all = x.0.0.0 ∷ [] in
                same_some (Led ByBracket) ((expr.Array all, suc x.0.0.1), tail x.0.1) r e.1 (led (expr_array_is all))
            | inr e ↦
                let k = bind_some (passed (is_mark (codes ",")) x.0.1) _ _ e.1 in
                let more = bind_some (free_elements within (closes Bracket) k.0) _ _ k.2 in
                let all = x.0.0.0 ∷ more.0.0.0 in
                same_some (Led ByBracket) ((expr.Array all, suc (max x.0.0.1 more.0.0.1)), more.0.1) r more.2 (led (expr_array_is all))
          ]
        ]
  ]

  unary_led : (no_struct : Bool) (ts : Tokens) (r : (Expr × ℕ) × Tokens) → unary_expr within no_struct ts ≡ Some r → Led ByPrefix r
  unfolding unary_expr
  unary_led no_struct ts r h =
      let ps = bind_some (repeat (λ us. is_some (prefix us)) one_prefix ts) _ _ h in
      let x = bind_some (within.exprs (plain 12 no_struct) ps.0.1) _ _ ps.2 in
      same_some (Led ByPrefix) ((expr.Unary ps.0.0 x.0.0.0, suc x.0.0.1), x.0.1) r x.2 (led (expr_unary_is ps.0.0 x.0.0.0))

  -- A range begins with its first end, or with its operator.
  range_by_led : (no_struct : Bool) (start : Option Expr) (need : ℕ) (inclusive : Bool) (ts : Tokens) (r : (Expr × ℕ) × Tokens)
      → range_by within no_struct start need inclusive ts ≡ Some r → Led (lead_of_start (option_map about_expr start)) r
  range_by_led no_struct start need inclusive ts r h =
      let lead = lead_of_start (option_map about_expr start) in
      let x = bind_some (operand_if within 2 no_struct ts) _ _ h in
      elim (chosen (inclusive && not (is_some x.0.0.0)) _ _ _ x.2) [
        | inl g ↦ absurd (cc g.1)
        | inr g ↦
            same_some (Led lead) ((expr.Range start inclusive x.0.0.0, suc (max need x.0.0.1)), x.0.1) r g.1
            (led (expr_range_is start inclusive x.0.0.0))
      ]

  range_led : (no_struct : Bool) (start : Option Expr) (need : ℕ) (ts : Tokens) (r : (Expr × ℕ) × Tokens)
      → range_expr within no_struct start need ts ≡ Some r → Led (lead_of_start (option_map about_expr start)) r
  unfolding range_expr
  range_led no_struct start need ts r h = elim (chosen (is_op (codes "..=") ts) _ _ _ h) [
    | inl g ↦ range_by_led no_struct start need true (drop 3 ts) r g.1
    | inr g ↦ range_by_led no_struct start need false (drop 2 ts) r g.1
  ]

  continue_led : (ts : Tokens) (r : (Expr × ℕ) × Tokens) → continue_expr ts ≡ Some r → Led ByContinue r
  unfolding continue_expr
  continue_led ts r h =
      let l = bind_some (if_there (first is_lifetime ts) lifetime ts) _ _ h in
      same_some (Led ByContinue) ((expr.Continue l.0.0, 1), l.0.1) r l.2 (led (expr_continue_is l.0.0))

  break_led : (no_struct : Bool) (ts : Tokens) (r : (Expr × ℕ) × Tokens) → break_expr within no_struct ts ≡ Some r → Led ByBreak r
  unfolding break_expr
  break_led no_struct ts r h =
      let l = bind_some (if_there (first is_lifetime ts) lifetime ts) _ _ h in
      let x = bind_some (operand_if within 0 no_struct l.0.1) _ _ l.2 in
      same_some (Led ByBreak) ((expr.Break l.0.0 x.0.0.0, suc x.0.0.1), x.0.1) r x.2 (led (expr_break_is l.0.0 x.0.0.0))

  return_led : (no_struct : Bool) (ts : Tokens) (r : (Expr × ℕ) × Tokens) → return_expr within no_struct ts ≡ Some r → Led ByReturn r
  unfolding return_expr
  return_led no_struct ts r h =
      let x = bind_some (operand_if within 0 no_struct ts) _ _ h in
      same_some (Led ByReturn) ((expr.Return x.0.0.0, suc x.0.0.1), x.0.1) r x.2 (led (expr_return_is x.0.0.0))

  literal_led : (ts : Tokens) (r : (Expr × ℕ) × Tokens) → literal_expr ts ≡ Some r → Led ByLiteral r
  literal_led ts r h =
      let l = bind_some (literal is_literal_token ts) _ _ h in
      same_some (Led ByLiteral) ((expr.Lit l.0.0, 1), l.0.1) r l.2 (led (expr_lit_is l.0.0))

  call_led : (ts : Tokens) (r : (Expr × ℕ) × Tokens) → call_expr ts ≡ Some r → Led ByPath r
  call_led ts r h =
      let c = bind_some (call ts) _ _ h in
      same_some (Led ByPath) ((expr.Call c.0.0, 1), c.0.1) r c.2 (led (expr_call_is c.0.0))

  -- What begins an expression is read by its lead.
  head_led : (no_struct : Bool) (lead : Option ExprLead) (ts : Tokens) (r : (Expr × ℕ) × Tokens) → expr_lead_at ts ≡ lead
      → head_by within no_struct lead ts ≡ Some r → lead ≡ Some (about_expr r.0.0).lead
  head_led no_struct None ts r n h = absurd (cc)
  head_led no_struct (Some ByLiteral) ts r n h = ap Some (sym (literal_led ts r h))
  head_led no_struct (Some ByPath) ts r n h = elim (chosen (begins_call ts) _ _ _ h) [
    | inl g ↦ ap Some (sym (call_led ts r g.1))
    | inr g ↦ ap Some (sym (path_led no_struct ts r g.1))
  ]
  head_led no_struct (Some ByUnderscore) ts r n h =
      ap Some (sym (same_some (Led ByUnderscore) ((expr.Underscore, 1), tail ts) r h (led expr_underscore_is)))
  head_led no_struct (Some ByParen) ts r n h = ap Some (sym (paren_led (tail ts) r h))
  head_led no_struct (Some ByBracket) ts r n h = ap Some (sym (bracket_led (tail ts) r h))
  head_led no_struct (Some ByPrefix) ts r n h = ap Some (sym (unary_led no_struct ts r h))
  head_led no_struct (Some ByRange) ts r n h = ap Some (sym (range_led no_struct None 0 ts r h))
  head_led no_struct (Some ByContinue) ts r n h = ap Some (sym (continue_led (tail ts) r h))
  head_led no_struct (Some ByBreak) ts r n h = ap Some (sym (break_led no_struct (tail ts) r h))
  head_led no_struct (Some ByReturn) ts r n h = ap Some (sym (return_led no_struct (tail ts) r h))
  head_led no_struct (Some ByLabel) ts r n h = ap Some (sym (label_led within ts r h))
  head_led no_struct (Some ByBrace) ts r n h =
      let l = labelled_led within None ts r h in
      ap Some (sym (subst (λ (b : Bool). Led (if b then ByBrace else ByBlockWord) r) (brace_first ts n) l))
  head_led no_struct (Some ByBlockWord) ts r n h = ap Some (sym (word_led within ts (word_first ts n) r h))
  head_led no_struct (Some ByClosure) ts r n h = ap Some (sym (closure_led within no_struct ts r h))

  -- ---- what operators make of it

  abbrev Same : Expr × ℕ → (Expr × ℕ) × Tokens → Type 0
  Same lhs r = Led (about_expr lhs.0).lead r

  assign_led : (no_struct : Bool) (lhs : Expr × ℕ) (ts : Tokens) (r : (Expr × ℕ) × Tokens)
      → assign_expr within no_struct lhs ts ≡ Some r → Same lhs r
  unfolding assign_expr
  assign_led no_struct lhs ts r h =
      let more = bind_some (operands within 0 no_struct ts) _ _ h in
      let ys = nodes more.0.0 in
      let made = expr.Assign (targets_of lhs.0 ys) (value_of lhs.0 ys) in
      same_some (Same lhs) ((made, suc (max lhs.1 (deepest more.0.0))), more.0.1) r more.2
      (led (expr_assign_is (targets_of lhs.0 ys) (value_of lhs.0 ys)) ∙ first_lead lhs.0 ys)
    where
      first_lead : (x : Expr) (ys : List (Op × Expr))
          → lead_of_targets (map before_op (targets_of x ys)) (about_expr (value_of x ys)) ≡ (about_expr x).lead
      first_lead x [] = refl
      first_lead x (y ∷ ys) = refl

  stage_led : (level : ℕ) (no_struct : Bool) (lhs : Expr × ℕ) (ts : Tokens) (r : (Expr × ℕ) × Tokens)
      → stage within level no_struct lhs ts ≡ Some r → Same lhs r
  unfolding chain_expr cast_expr postfix_expr
  stage_led zero no_struct lhs ts r h = assign_led no_struct lhs ts r h
  stage_led (suc zero) no_struct lhs ts r h = range_led no_struct (Some lhs.0) lhs.1 ts r h
  stage_led (suc (suc level)) no_struct lhs ts r h = elim (chosen (suc (suc level) == 11) _ _ _ h) [
    | inl g ↦
        let types = bind_some (repeat (first (is_keyword (codes "as"))) (one_type within) ts) _ _ g.1 in
        let ys = nodes types.0.0 in
        same_some (Same lhs) ((expr.Cast lhs.0 ys, suc (max lhs.1 (deepest types.0.0))), types.0.1) r types.2
        (led (expr_cast_is lhs.0 ys))
    | inr g ↦ elim (chosen (suc (suc level) == 13) _ _ _ g.1) [
      | inl f ↦ elim (chosen ((about_expr lhs.0).is_number && begins_tuple_index ts) _ _ _ f.1) [
        | inl e ↦ absurd (cc e.1)
        | inr e ↦
            let steps = bind_some (repeat begins_step (one_step within) ts) _ _ e.1 in
            let ys = nodes steps.0.0 in
            same_some (Same lhs) ((expr.Postfix lhs.0 ys, suc (max lhs.1 (deepest steps.0.0))), steps.0.1) r steps.2
            (led (expr_postfix_is lhs.0 ys))
      ]
      | inr f ↦
          let more = bind_some (operands within (suc (suc level)) no_struct ts) _ _ f.1 in
          let ys = nodes more.0.0 in
          same_some (Same lhs) ((expr.Chain lhs.0 ys, suc (max lhs.1 (deepest more.0.0))), more.0.1) r more.2
          (led (expr_chain_is lhs.0 ys))
    ]
  ]

  climb_led : (place : Place) (level : ℕ) (lhs : Expr × ℕ) (ts : Tokens) (r : (Expr × ℕ) × Tokens)
      → climb within place level lhs ts ≡ Some r → Same lhs r
  unfolding climb
  climb_led place zero lhs ts r h = same_some (Same lhs) (lhs, ts) r h refl
  climb_led place (suc level) lhs ts r h = elim (chosen (nat_le place.level level && strength ts == suc level) _ _ _ h) [
    | inl g ↦ elim (chosen (stands (about_expr lhs.0) (left_place place level ts)) _ _ _ g.1) [
      | inl f ↦
          let x = bind_some (stage within level place.no_struct lhs ts) _ _ f.1 in
          climb_led place level x.0.0 x.0.1 r x.2 ∙ stage_led level place.no_struct lhs ts x.0 x.1
      | inr f ↦ absurd (cc f.1)
    ]
    | inr g ↦ climb_led place level lhs ts r g.1
  ]

  climbed_led : (place : Place) (lhs : Expr × ℕ) (ts : Tokens) (r : (Expr × ℕ) × Tokens)
      → climb_by within place lhs ts ≡ Some r → Same lhs r
  climbed_led place lhs ts r h = elim (chosen (is_ended place (about_expr lhs.0) ts) _ _ _ h) [
    | inl g ↦ same_some (Same lhs) (lhs, ts) r g.1 refl
    | inr g ↦ climb_led place 14 lhs ts r g.1
  ]

  -- What is read as an expression has the lead that the tokens begin with.
  expr_by_led : (budget : ℕ) (place : Place) (ts : Tokens) (r : (Expr × ℕ) × Tokens)
      → expr_by within budget place ts ≡ Some r → expr_lead_at ts ≡ Some (about_expr r.0.0).lead
  unfolding expr_by
  expr_by_led budget place ts r h =
      let y = bind_some (head_by within place.no_struct (expr_lead_at ts) ts) _ _ h in
      let x = bind_some (climb_by within place y.0.0 y.0.1) _ _ y.2 in
      let told = about_expr x.0.0.0 in
      let begun = head_led place.no_struct (expr_lead_at ts) ts y.0 refl y.1 in
      let same = climbed_led place y.0.0 y.0.1 x.0 x.1 in
      elim (chosen (stands told place && root_follows told place x.0.1 && nat_le x.0.0.1 budget) _ _ _ x.2) [
        | inl g ↦
            same_some (λ (s : (Expr × ℕ) × Tokens). expr_lead_at ts ≡ Some (about_expr s.0.0).lead) x.0 r g.1
            (begun ∙ ap Some (sym same))
        | inr g ↦ absurd (cc g.1)
      ]

-- What is read one level deeper has the lead that the tokens begin with.
abbrev pub LedWithin : ExprWithin → Type 0
LedWithin within = (place : Place) (ts : Tokens) (r : (Expr × ℕ) × Tokens) → within.exprs place ts ≡ Some r
    → expr_lead_at ts ≡ Some (about_expr r.0.0).lead

-- What is read within a budget has the lead that the tokens begin with.
pub code_led : (budget : ℕ) → LedWithin (code_in budget)
unfolding code_in
code_led zero place ts r h = absurd (cc)
code_led (suc budget) place ts r h = expr_by_led (code_in budget) (suc budget) place ts r h
