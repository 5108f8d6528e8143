-- Optional operands: those of `return` and `break`, and the ends of ranges, are parsed where they
-- are spelled.
use Rattle.std.proofs.Common.{◌≡◌, ℕ, suc, ◌≤◌, max, Bool, true, false, not, ◌&&◌, ◌||◌, nat_le, leb-true, le-leb, eqb-true, [], ◌∷◌, codes, Option, option_map, Some, None, is_some, inl, inr, refl, sym, subst, arith}
use Rattle.std.specs.Prelude.{◌==◌}
use Rattle.std.proofs.lemmas.Bool.{and_parts, not-true, false_from_ne_true}
use Rattle.lay_piece.specs.declared.kind.Kind.{Kind}
use Rattle.lay_piece.specs.declared.kind.Kind.TheVariants.{Ident, Lifetime}
use Rattle.lay_token.specs.Operators.{is_op}
use Rattle.lay_form.specs.Form.{Blank, Operator, Form, Done, Piece, Part, keyword}
use Rattle.lay_form.specs.Spelled.{IsOperator, Spells, Then}
use Rattle.lay_form.proofs.BracedEnds.{spelled}
use Rattle.lay_node.specs.Ahead.{Tokens, first, is_lifetime, is_lifetime_kind}
use Rattle.lay_node.specs.nodes.Patterns.{dots}
use Rattle.lay_node.specs.nodes.Types.{lifetime_form}
use Rattle.lay_node.specs.declared.token.Lifetime.{Lifetime as Label}
use Rattle.lay_node.proofs.Fronts.{other_op}
use Rattle.lay_node.proofs.Parts.{bit_alone, part_alone}
use Rattle.lay_node.proofs.reader.Exact.{IsRead}
use Rattle.lay_node.proofs.reader.TypesCompleteParts.{one_left, blank_left}
use Rattle.lay_code.specs.Operands.{ByLabel, expr_lead_by, expr_lead_at, begins_operand}
use Rattle.lay_code.specs.Operators.{strength}
use Rattle.lay_code.specs.nodes.Code.{about_expr}
use Rattle.lay_code.specs.nodes.Exprs.{ExprFacts, Followed, Tail, lacks_operand, placed, tail_follows, follows, end_form, operand_form, label_form, tail_of_end, tail_of_jump, begins_free, end_placed, operand_placed, break_placed}
use Rattle.lay_code.specs.nodes.Places.{plain}
use Rattle.lay_code.specs.reader.Exprs.{operand_if, return_expr, break_expr, range_expr}
use Rattle.lay_code.specs.reader.Within.{ExprWithin}
use Rattle.lay_code.specs.declared.exprs.Expr.{Expr}
use Rattle.lay_code.specs.declared.blocks.Stmt.TheOpen.{Expr-F}
use Rattle.lay_code.specs.declared.exprs.Expr.TheVariants as expr
use Rattle.lay_code.proofs.nodes.ExprsLaws.{expr_range_is, expr_return_is, expr_break_is}
use Rattle.lay_code.proofs.reader.ExprFronts.{placed_begins}
use Rattle.lay_code.proofs.reader.ExprHeads.{IsHead, head_of}
use Rattle.lay_code.proofs.reader.ExprHeadsWords.{label_read}
use Rattle.lay_code.proofs.reader.ExprLeads.{lead_operand, lead_no_lifetime}
use Rattle.lay_code.proofs.reader.ExprQuiet.{fits_tail, tail_fits}
use Rattle.lay_code.proofs.reader.ExprReads.{ExprReads}
use Rattle.lay_code.proofs.reader.Followed.{Ended, SpelledBefore, bodiless, bodiless_tail, ended_weak, followed, last_parts, no_braced_end, piece_parts}

-- what is left after an operand, in a plain place
pub plain_follows : (x : ExprFacts) (level : ℕ) (no_struct : Bool) (ts : Tokens) → nat_le (strength ts) level ≡ true
    → tail_follows x.tail no_struct ts ≡ true
    → follows x (plain level no_struct) ts ≡ true
plain_follows x level no_struct ts weak tail = rw (weak, tail) refl

-- What may follow an operand of which all operators are taken follows it, and is no operator.
pub taken_follows : (t : Tail) (no_struct : Bool) (ts : Tokens) → tail_follows (record t { takes_all = true }) no_struct ts ≡ true
    → (tail_follows t no_struct ts ≡ true) × (strength ts ≡ 0)
taken_follows t no_struct ts h =
    let f = tail_fits (record t { takes_all = true }) no_struct ts h in (
      fits_tail t no_struct ts (record {
        all = or_true (not t.takes_all) f.all;
        bare = f.bare;
        path = f.path;
        label = f.label;
        raw = f.raw;
        otherwise = f.otherwise;
        refuses = f.refuses;
      }),
      eqb-true (strength ts) 0 f.all,
    )
  where
    or_true : (a : Bool) → (strength ts == 0) ≡ true → (a || strength ts == 0) ≡ true
    or_true true e = refl
    or_true false e = e

-- what is left after an operand in a plain place, where it may end within braces that aren't in the tree
pub plain_followed : (x : ExprFacts) (level : ℕ) (no_struct : Bool) (depth : ℕ) (ts rest : Tokens) → strength rest ≤ level
    → Ended x.tail x.form no_struct depth ts rest → Followed x (plain level no_struct) depth ts rest
plain_followed x level no_struct depth ts rest weak e = followed x (plain level no_struct) depth ts rest (le-leb (strength rest) level weak) e

-- An operand ends so that what is left may follow it.
abbrev pub OperandBefore : Expr → Bool → ℕ → Tokens → Tokens → Type 0
OperandBefore x no_struct depth ts rest = SpelledBefore (about_expr x).tail (about_expr x).form no_struct depth ts rest

-- What follows a part that ends in no body, where it may be spelled by nothing.
behind_parts : (t : Tail) (i f : Form) → bodiless i ≡ true → (no_struct : Bool) (depth : ℕ) (ts rest : Tokens)
    → SpelledBefore t (Part i f) no_struct depth ts rest → Then (Spells i depth) (SpelledBefore t f no_struct depth) ts rest
behind_parts t i f n no_struct depth ts rest (s, inl h) = (s.0, s.1, (s.2, inl h))
behind_parts t i f n no_struct depth ts rest (s, inr (inl w, z)) = (w.0, w.1, (spelled f depth w.0 rest w.2, inr (w.2, z)))
behind_parts t i f n no_struct depth ts rest (s, inr (inr w, z)) = absurd (no_braced_end i n depth ts rest w.0)

-- a label that may be there, before an operand
label_before : (label : Option Label) (t : Tail) (f : Form) (no_struct : Bool) (depth : ℕ) (ts rest : Tokens)
    → SpelledBefore t (label_form label f) no_struct depth ts rest
    → Then (Spells (label_form label Done) depth) (SpelledBefore t f no_struct depth) ts rest
label_before None t f no_struct depth ts rest s = (ts, refl, s)
label_before (Some l) t f no_struct depth ts rest s =
    let blank = piece_parts t no_struct depth (Blank ∷ []) (Part (lifetime_form l) f) ts rest s in
    let p = behind_parts t (lifetime_form l) f refl no_struct depth blank.0 rest blank.2 in
    (p.0, (blank.0, blank.1, (p.0, p.1, refl)), p.2)

-- A lifetime begins an operand.
lifetime_operand : (no_struct : Bool) (ts : Tokens) → first is_lifetime ts ≡ true → begins_operand no_struct ts ≡ true
unfolding expr_lead_at
lifetime_operand no_struct [] h = absurd (cc)
lifetime_operand no_struct (t ∷ ts) h = lead_operand no_struct (t ∷ ts) ByLabel (by t.kind h) (not_brace no_struct)
  where
    by : (k : Kind) → is_lifetime_kind k ≡ true → expr_lead_by k t.text (t ∷ ts) ≡ Some ByLabel
    by Lifetime e = refl
    by _ e = absurd (cc)

    not_brace : (b : Bool) → not (b && false) ≡ true
    not_brace true = refl
    not_brace false = refl

-- Where no operand begins, no lifetime stands.
no_operand_label : (no_struct : Bool) (ts : Tokens) → begins_operand no_struct ts ≡ false → first is_lifetime ts ≡ false
no_operand_label no_struct ts h = false_from_ne_true (first is_lifetime ts) (λ e. let g = lifetime_operand no_struct ts e in absurd (cc))

module _ (depth : ℕ) (within : ExprWithin) (reads : ExprReads depth within) where
  -- ---- operands

  -- one that is left out
  no_operand : (level : ℕ) (no_struct : Bool) (ts : Tokens) → begins_operand no_struct ts ≡ false
      → IsRead depth (operand_if within level no_struct) None ts ts
  no_operand level no_struct ts h = (0, omega arith, rw h refl)

  -- one that is there
  some_operand : (level : ℕ) (no_struct : Bool) (x : Expr) (ts rest : Tokens) → OperandBefore x no_struct depth ts rest
      → (placed (about_expr x) (plain level no_struct) && begins_free no_struct (about_expr x)) ≡ true → strength rest ≤ level
      → IsRead depth (operand_if within level no_struct) (Some x) ts rest
  some_operand level no_struct x ts rest s g weak =
      let place = plain level no_struct in
      let goods = and_parts (placed (about_expr x) place) (begins_free no_struct (about_expr x)) g in
      let b = placed_begins x place depth ts rest s.0 goods.0 in
      let there = lead_operand no_struct ts (about_expr x).lead b.lead goods.1 in
      let r = reads.exprs place x ts rest s.0 goods.0 (plain_followed (about_expr x) level no_struct depth ts rest weak s.1) in
      (r.0, r.1, rw (there, r.2) refl)

  -- An operand that is left out is followed by none.
  none_bare : (t : Tail) (no_struct : Bool) (ts rest : Tokens) → t.bare ≡ true → Ended t Done no_struct depth ts rest → begins_operand no_struct rest ≡ false
  none_bare t no_struct ts rest b e =
      let f = (tail_fits t no_struct rest (bodiless_tail t Done no_struct depth ts rest refl e)).bare in
      not-true (begins_operand no_struct rest) (subst (λ a. not (a && begins_operand no_struct rest) ≡ true) b f)

  -- the operand of a `return` or of a `break`
  jump_operand : (x : Option Expr) (no_struct : Bool) (ts rest : Tokens)
      → SpelledBefore (tail_of_jump (option_map about_expr x)) (operand_form (option_map about_expr x)) no_struct depth ts rest
      → operand_placed (option_map about_expr x) no_struct ≡ true → IsRead depth (operand_if within 0 no_struct) x ts rest
  jump_operand None no_struct ts rest s g =
      let n = no_operand 0 no_struct rest (none_bare lacks_operand no_struct ts rest refl s.1) in rw s.0 n
  jump_operand (Some x) no_struct ts rest s g =
      let F = about_expr x in
      let t = tail_of_jump (Some F) in
      let p = piece_parts t no_struct depth (Blank ∷ []) (Part F.form Done) ts rest s in
      let last = last_parts t no_struct depth F.form p.0 rest p.2 in
      let here = subst (λ us. SpelledBefore t F.form no_struct depth us rest) (sym (blank_left ts p.0 p.1)) last in
      let e = ended_weak t F.tail F.form no_struct depth ts rest (taken_follows F.tail no_struct rest) here in
      some_operand 0 no_struct x ts rest e.0 g (omega (arith, e.1))

  -- `return`
  pub return_head : (x : Option Expr) → IsHead depth within (expr.Return x)
  unfolding return_expr
  return_head x = head_of depth within (expr.Return x) (Expr-F.Return (option_map about_expr x)) (expr_return_is x)
      (λ no_struct first_flag ts rest h.
      let X = option_map about_expr x in
      let s = piece_parts (tail_of_jump X) no_struct depth (keyword (codes "return") ∷ []) (operand_form X) ts rest (h.spelled, h.tail) in
      let left = one_left Ident (codes "return") ts s.0 (bit_alone (keyword (codes "return")) ts s.0 s.1) in
      let r = jump_operand x no_struct s.0 rest s.2 h.inside in
      (suc r.0, omega (arith, r.1), rw (left, r.2) refl))

  -- `break`
  pub break_head : (label : Option Label) (x : Option Expr) → IsHead depth within (expr.Break label x)
  unfolding break_expr
  break_head label x = head_of depth within (expr.Break label x) (Expr-F.Break label (option_map about_expr x)) (expr_break_is label x)
      (λ no_struct first_flag ts rest h.
      let X = option_map about_expr x in
      let t = tail_of_jump X in
      let s = piece_parts t no_struct depth (keyword (codes "break") ∷ []) (label_form label (operand_form X)) ts rest (h.spelled, h.tail) in
      let goods = and_parts (operand_placed X no_struct) (break_placed label X) h.inside in
      let left = one_left Ident (codes "break") ts s.0 (bit_alone (keyword (codes "break")) ts s.0 s.1) in
      let p = label_before label t (operand_form X) no_struct depth s.0 rest s.2 in
      let l = label_read label Done depth s.0 p.0 p.1 (λ e. bare label x no_struct s.0 p.0 rest e p.1 p.2 goods.0 goods.1) in
      let r = jump_operand x no_struct p.0 rest p.2 goods.0 in
      (suc r.0, omega (arith, r.1), rw (left, l.1, l.2, r.2) refl))
    where
      bare : (label : Option Label) (x : Option Expr) (no_struct : Bool) (ts mid rest : Tokens) → label ≡ None
          → Spells (label_form label Done) depth ts mid
          → SpelledBefore (tail_of_jump (option_map about_expr x)) (operand_form (option_map about_expr x)) no_struct depth mid rest
          → operand_placed (option_map about_expr x) no_struct ≡ true → break_placed label (option_map about_expr x) ≡ true
          → first is_lifetime ts ≡ false
      bare (Some l) x no_struct ts mid rest e b s g k = absurd (cc)
      bare None None no_struct ts mid rest e b s g k =
          rw (b, s.0) (no_operand_label no_struct rest (none_bare lacks_operand no_struct mid rest refl s.1))
      bare None (Some x) no_struct ts mid rest e b s g k =
          let place = plain 0 no_struct in
          let blank = s.0 in
          let here = part_alone (about_expr x).form depth blank.0 rest blank.2 in
          let good = (and_parts (placed (about_expr x) place) (begins_free no_struct (about_expr x)) g).0 in
          let begun = placed_begins x place depth blank.0 rest here good in
          rw (b, blank_left mid blank.0 blank.1) (lead_no_lifetime blank.0 (about_expr x).lead begun.lead k)

  -- ---- ranges

  -- the end of a range
  end_read : (inclusive : Bool) (end : Option Expr) (no_struct : Bool) (ts rest : Tokens)
      → SpelledBefore (tail_of_end (option_map about_expr end)) (end_form (option_map about_expr end) Done) no_struct depth ts rest
      → end_placed (option_map about_expr end) inclusive no_struct ≡ true
      → strength rest ≤ 1 → IsRead depth (operand_if within 2 no_struct) end ts rest
  end_read inclusive None no_struct ts rest s g weak =
      let n = no_operand 2 no_struct rest (none_bare lacks_operand no_struct ts rest refl s.1) in rw s.0 n
  end_read inclusive (Some x) no_struct ts rest s g weak =
      let F = about_expr x in
      some_operand 2 no_struct x ts rest (last_parts F.tail no_struct depth F.form ts rest s) g (omega (arith, weak))

  -- the operator of a range and its end, after a start that needs so much or none
  pub range_read : (start : Option Expr) (need : ℕ) → need ≤ depth
      → (inclusive : Bool) (end : Option Expr) (no_struct : Bool) (ts rest : Tokens)
      → SpelledBefore (tail_of_end (option_map about_expr end)) (Piece (dots inclusive) (end_form (option_map about_expr end) Done)) no_struct depth ts rest
      → end_placed (option_map about_expr end) inclusive no_struct ≡ true
      → strength rest ≤ 1
      → IsRead (suc depth) (range_expr within no_struct start need) (expr.Range start inclusive end) ts rest
  unfolding range_expr
  range_read start need le true end no_struct ts rest before g weak =
      let E = option_map about_expr end in
      let s = piece_parts (tail_of_end E) no_struct depth (dots true) (end_form E Done) ts rest before in
      let o : IsOperator (codes "..=") ts s.0 = bit_alone (Operator (codes "..=")) ts s.0 s.1 in
      let r = end_read true end no_struct s.0 rest s.2 g weak in
      (suc (max need r.0), omega (arith, le, r.1), rw (o.0, o.1, r.2, ended end g) refl)
    where
      ended : (end : Option Expr) → end_placed (option_map about_expr end) true no_struct ≡ true → not (is_some end) ≡ false
      ended None e = absurd (cc)
      ended (Some x) e = refl
  range_read start need le false end no_struct ts rest before g weak =
      let E = option_map about_expr end in
      let s = piece_parts (tail_of_end E) no_struct depth (dots false) (end_form E Done) ts rest before in
      let o : IsOperator (codes "..") ts s.0 = bit_alone (Operator (codes "..")) ts s.0 s.1 in
      let n : is_op (codes "..=") ts ≡ false = other_op (codes "..") (codes "..=") refl ts o.0 in
      let r = end_read false end no_struct s.0 rest s.2 g weak in
      (suc (max need r.0), omega (arith, le, r.1), rw (n, o.1, r.2) refl)

  -- a range without a start
  pub range_head : (inclusive : Bool) (end : Option Expr) → IsHead depth within (expr.Range None inclusive end)
  range_head inclusive end =
      head_of depth within (expr.Range None inclusive end) (Expr-F.Range None inclusive (option_map about_expr end))
      (expr_range_is None inclusive end)
      (λ no_struct first_flag ts rest h.
      range_read None 0 (omega arith) inclusive end no_struct ts rest (h.spelled, h.tail) h.inside (leb-true (strength rest) 1 h.weak))
