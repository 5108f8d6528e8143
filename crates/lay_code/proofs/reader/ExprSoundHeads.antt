-- What begins an expression: what is parsed stands there, if that holds one level deeper. Struct
-- literals and prefix operators stand in files of their own.
use Rattle.std.proofs.Common.{◌≡◌, ℕ, suc, max, Bool, true, false, not, ◌&&◌, List, [], ◌∷◌, inl, inr, map, codes, Option, Some, None, refl, sym, ap, subst, arith}
use Rattle.std.proofs.lemmas.Bool.{and_from, leb-true}
use Rattle.lay_piece.specs.declared.kind.Delim.TheVariants.{Paren, Bracket}
use Rattle.lay_piece.specs.declared.kind.Kind.TheVariants as kind
use Rattle.lay_form.specs.Form.{Blank, Fixed, Form, Done, Part, closer, keyword, opener}
use Rattle.lay_form.specs.Spelled.{IsBit, IsOne, Spells}
use Rattle.lay_form.proofs.FormLaws.{deeper as raise, is_end}
use Rattle.lay_node.specs.Ahead.{Tokens, first, tail, closes, is_lifetime, is_mark}
use Rattle.lay_node.specs.Begins.{is_literal_token}
use Rattle.lay_node.specs.Words.{is_literal}
use Rattle.lay_node.specs.nodes.Attr.{is_empty}
use Rattle.lay_node.specs.nodes.Call.{about_call}
use Rattle.lay_node.specs.nodes.Types.{lifetime_form}
use Rattle.lay_node.specs.reader.Call.{call}
use Rattle.lay_node.specs.reader.Exact.{InText}
use Rattle.lay_node.specs.reader.Loops.{deepest, nodes, passed}
use Rattle.lay_node.specs.reader.Tokens.{tokens}
use Rattle.lay_node.specs.reader.Types.{if_there, lifetime, literal}
use Rattle.lay_node.specs.declared.token.Lifetime.{Lifetime}
use Rattle.lay_node.specs.tokens.Lexed.{is_token_list}
use Rattle.lay_node.proofs.Fronts.{closes_one, closer_passed_is, mark_one, mark_passed_is, texts_behind}
use Rattle.lay_node.proofs.Steps.{same_some, chosen, bind_some}
use Rattle.lay_node.proofs.reader.Call.{call_sound}
use Rattle.lay_node.proofs.reader.Loops.{SoundStep}
use Rattle.lay_node.proofs.reader.TypesSoundKinds.{length_sound}
use Rattle.lay_node.proofs.reader.TypesSoundParts.{Out, behind_comma, bit_texts, if_there_sound, IsLifetime, lifetime_sound, literal_sound}
use Rattle.lay_code.specs.Operators.{strength}
use Rattle.lay_code.specs.nodes.Code.{about_expr}
use Rattle.lay_code.specs.nodes.Exprs.{Tail, begins_free, break_placed, inside as inside_of, label_form, operand_form, operand_placed, placed, tail_of_jump, tuple_form}
use Rattle.lay_code.specs.nodes.Places.{FREE, plain}
use Rattle.lay_code.specs.reader.Exprs.{bracket_expr, break_expr, call_expr, continue_expr, free_elements, literal_expr, operand_if, paren_expr, repeat_by, return_expr}
use Rattle.lay_code.specs.reader.Within.{ExprWithin}
use Rattle.lay_code.specs.declared.exprs.Expr.{Expr}
use Rattle.lay_code.specs.declared.blocks.Stmt.TheOpen.{Expr-F}
use Rattle.lay_code.specs.declared.exprs.Expr.TheVariants as expr
use Rattle.lay_code.proofs.nodes.ExprsLaws.{expr_array_is, expr_break_is, expr_call_is, expr_continue_is, expr_lit_is, expr_paren_is, expr_repeat_is, expr_return_is, expr_tuple_is, expr_underscore_is}
use Rattle.lay_code.proofs.reader.ExprSoundLeads.{LedWithin}
use Rattle.lay_code.proofs.reader.ExprSoundFirst.{no_label}
use Rattle.lay_code.proofs.reader.ExprSoundLevel.{ExprHeld, LeftHeld, SoundExprWithin, all_taken, bare_follows, made, made_before, root_held, tail_held}
use Rattle.lay_code.proofs.reader.ExprSoundLists.{FreeRow, OperandHeld, free_sound, operand_sound, row_spelled}
use Rattle.lay_code.proofs.reader.Followed.{SpelledBefore, ended_as, last_made, part_made, piece_made}

module _ (no_struct starts : Bool) where
  abbrev Left : Expr × ℕ → Tokens → Tokens → Type 0
  Left = LeftHeld no_struct starts

  -- a literal
  pub literal_head : SoundStep literal_expr Left
  literal_head ts x rest t h =
      let l = bind_some (literal is_literal_token ts) _ _ h in
      let s = literal_sound is_literal ts l.0.0 l.0.1 t l.1 in
      same_some (Out Left ts) ((expr.Lit l.0.0, 1), l.0.1) (x, rest) l.2 (
        made no_struct starts (about_expr (expr.Lit l.0.0)) (Expr-F.Lit l.0.0) 0 ts l.0.1 (expr_lit_is l.0.0)
            (l.0.1, s.0.0, refl) s.0.1 refl,
        s.1,
      )

  -- a macro call
  pub call_head : SoundStep call_expr Left
  call_head ts x rest t h =
      let c = bind_some (call ts) _ _ h in
      let s = call_sound 0 ts c.0.0 c.0.1 t c.1 in
      same_some (Out Left ts) ((expr.Call c.0.0, 1), c.0.1) (x, rest) c.2 (
        made no_struct starts (about_expr (expr.Call c.0.0)) (Expr-F.Expr::Call c.0.0) 0 ts c.0.1 (expr_call_is c.0.0) s.0 s.1 refl,
        texts_behind ts c.0.1 (is_end (about_call c.0.0).form 0 ts c.0.1 s.0) t,
      )

  -- `_`
  pub underscore_head : (ts at : Tokens) → IsOne kind.Underscore (codes "_") ts at → InText ts
      → Out Left ts ((expr.Underscore, 1), at)
  underscore_head ts at o t = (
    made no_struct starts (about_expr expr.Underscore) Expr-F.Underscore 0 ts at expr_underscore_is (at, (at, o, refl), refl)
        refl refl,
    bit_texts (Fixed kind.Underscore (codes "_")) ts at o t,
  )

  -- ---- a label

  -- A label stands there, or nothing, and no lifetime.
  abbrev LabelHeld : Option Lifetime → Tokens → Tokens → Type 0
  LabelHeld None ts rest = (ts ≡ rest) × (first is_lifetime rest ≡ false)
  LabelHeld (Some l) ts rest = IsLifetime l ts rest

  label_held : (ts : Tokens) (x : Option Lifetime) (rest : Tokens) → InText ts
      → if_there (first is_lifetime ts) lifetime ts ≡ Some (x, rest) → Out LabelHeld ts (x, rest)
  label_held ts x rest t h =
      if_there_sound LabelHeld lifetime (first is_lifetime ts) ts (λ g y mid e. lifetime_sound ts y mid t e) (λ g. (refl, g)) t x
      rest h

  label_leads : (label : Option Lifetime) (f : Form) (n : ℕ) (ts mid rest : Tokens) → LabelHeld label ts mid → Spells f n mid rest
      → Spells (label_form label f) n ts rest
  label_leads None f n ts mid rest k s = subst (λ us. Spells f n us rest) (sym k.0) s
  label_leads (Some l) f n ts mid rest k s = (ts, (ts, refl, refl), (mid, (mid, k, refl), s))

  -- the same, before what may follow
  label_before : (t : Tail) (label : Option Lifetime) (f : Form) (n : ℕ) (ts mid rest : Tokens) → LabelHeld label ts mid
      → SpelledBefore t f no_struct n mid rest → SpelledBefore t (label_form label f) no_struct n ts rest
  label_before t None f n ts mid rest k s = subst (λ us. SpelledBefore t f no_struct n us rest) (sym k.0) s
  label_before t (Some l) f n ts mid rest k s =
      piece_made t no_struct n (Blank ∷ []) (Part (lifetime_form l) f) ts ts rest (ts, refl, refl)
      (part_made t no_struct n (lifetime_form l) f ts mid rest (mid, k, refl) s)

  unlabelled : (b : Bool) → b ≡ false → (not b && true && true && true) ≡ true
  unlabelled false h = refl
  unlabelled true h = absurd (cc h)

  continue_held : (label : Option Lifetime) (ts at rest : Tokens) → IsOne kind.Ident (codes "continue") ts at
      → LabelHeld label at rest → Left (expr.Continue label, 1) ts rest
  continue_held None ts at rest o k =
      made no_struct starts (about_expr (expr.Continue None)) (Expr-F.Continue None) 0 ts rest (expr_continue_is None)
      (at, (at, o, refl), k.0) refl (unlabelled (first is_lifetime rest) k.1)
  continue_held (Some l) ts at rest o k =
      made no_struct starts (about_expr (expr.Continue (Some l))) (Expr-F.Continue (Some l)) 0 ts rest (expr_continue_is (Some l))
      (at, (at, o, refl), label_leads (Some l) Done 0 at rest rest k refl) refl refl

  -- `continue`, with a label or not
  pub continue_head : (ts at : Tokens) → IsOne kind.Ident (codes "continue") ts at → InText at → (x : Expr × ℕ) (rest : Tokens)
      → continue_expr at ≡ Some (x, rest) → Out Left ts (x, rest)
  unfolding continue_expr
  continue_head ts at o t x rest h =
      let l = bind_some (if_there (first is_lifetime at) lifetime at) _ _ h in
      let s = label_held at l.0.0 l.0.1 t l.1 in
      same_some (Out Left ts) ((expr.Continue l.0.0, 1), l.0.1) (x, rest) l.2 (continue_held l.0.0 ts at l.0.1 o s.0, s.1)

  -- ---- in delimiters

  module _ (budget : ℕ) (within : ExprWithin) (sound : SoundExprWithin budget within) where
    -- a tuple, by the elements after the first
    tuple_held : (y : Expr × ℕ) (ys : List (Expr × ℕ)) (ts inside mid at rest : Tokens) → IsBit (opener Paren) ts inside
        → ExprHeld FREE budget y inside mid → IsOne kind.Punct (codes ",") mid at
        → FreeRow budget within sound Paren ys at rest
        → Left (expr.Tuple (y.0 ∷ nodes ys), suc (max y.1 (deepest ys))) ts rest
    tuple_held y [] ts inside mid at rest o s c r =
        let told = about_expr y.0 in
        let most = max y.1 0 in
        let spelled : Spells (tuple_form (told ∷ [])) most ts rest =
        (inside, (inside, o, refl), (mid, raise told.form y.1 most inside mid (omega arith) s.1, (rest, (at, c, (rest, r, refl)), refl))) in
        made no_struct starts (about_expr (expr.Tuple (y.0 ∷ []))) (Expr-F.Tuple (told ∷ [])) most ts rest
        (expr_tuple_is (y.0 ∷ [])) spelled (and_from (placed told FREE) true s.2 refl) refl
    tuple_held y (z ∷ zs) ts inside mid at rest o s c r =
        let all = y ∷ z ∷ zs in
        let row : FreeRow budget within sound Paren all inside rest =
        (mid, s, behind_comma (closer Paren) (ExprHeld FREE budget) (z ∷ zs) mid at rest c r) in
        let l = row_spelled budget within sound Paren all ts inside rest o row in
        made no_struct starts (about_expr (expr.Tuple (nodes all))) (Expr-F.Tuple (map about_expr (nodes all))) (deepest all) ts
        rest (expr_tuple_is (nodes all)) l.0 l.1 refl

    -- what a `(` begins
    pub paren_head : (ts inside : Tokens) → IsBit (opener Paren) ts inside → InText inside → (x : Expr × ℕ) (rest : Tokens)
        → paren_expr within inside ≡ Some (x, rest) → Out Left ts (x, rest)
    unfolding paren_expr
    paren_head ts inside o t x rest h = elim (chosen (first (closes Paren) inside) _ _ _ h) [
      | inl g ↦
          let c = closes_one Paren inside t g.0 in
          let end = tail inside in
          same_some (Out Left ts) ((expr.Tuple [], 1), end) (x, rest) g.1 (
            made no_struct starts (about_expr (expr.Tuple [])) (Expr-F.Tuple []) 0 ts end (expr_tuple_is [])
                (end, (inside, o, (end, c, refl)), refl) refl refl,
            bit_texts (closer Paren) inside end c t,
          )
      | inr g ↦
          let y = bind_some (within.exprs FREE inside) _ _ g.1 in
          let s = sound.exprs FREE inside y.0.0 y.0.1 t y.1 in
          let mid = y.0.1 in
          elim (chosen (first (closes Paren) mid) _ _ _ y.2) [
            | inl f ↦
                let c = closes_one Paren mid s.1 f.0 in
                let end = tail mid in
                same_some (Out Left ts) ((expr.Paren y.0.0.0, suc y.0.0.1), end) (x, rest) f.1 (
                  made no_struct starts (about_expr (expr.Paren y.0.0.0)) (Expr-F.Paren (about_expr y.0.0.0)) y.0.0.1 ts end
                      (expr_paren_is y.0.0.0) (inside, (inside, o, refl), (mid, s.0.1, (end, (end, c, refl), refl))) s.0.2 refl,
                  bit_texts (closer Paren) mid end c s.1,
                )
            | inr f ↦
                let k = bind_some (passed (is_mark (codes ",")) mid) _ _ f.1 in
                let more = bind_some (free_elements within (closes Paren) k.0) _ _ k.2 in
                let comma = mark_passed_is (codes ",") mid k.0 k.1 in
                let e = free_sound budget within sound Paren k.0 more.0.0 more.0.1
                (bit_texts (Fixed kind.Punct (codes ",")) mid k.0 comma s.1) more.1 in
                let P : List Expr × ℕ → Type 0 =
                λ z. Left (expr.Tuple (y.0.0.0 ∷ z.0), suc (max y.0.0.1 z.1)) ts more.0.1 in
                same_some (Out Left ts) ((expr.Tuple (y.0.0.0 ∷ more.0.0.0), suc (max y.0.0.1 more.0.0.1)), more.0.1) (x, rest)
                more.2
                (subst P e.0.1 (tuple_held y.0.0 e.0.0 ts inside mid k.0 more.0.1 o s.0 comma e.0.2), e.1)
          ]
    ]

    -- ---- brackets

    repeat_held : (ts inside : Tokens) (y : Expr × ℕ) (mid : Tokens) → IsBit (opener Bracket) ts inside
        → ExprHeld FREE budget y inside mid → InText mid → first (is_mark (codes ";")) mid ≡ true
        → (x : Expr × ℕ) (rest : Tokens) → repeat_by y (tail mid) ≡ Some (x, rest) → Out Left ts (x, rest)
    repeat_held ts inside y mid o s t m x rest h =
        let at = tail mid in
        let us = bind_some (tokens at) _ _ h in
        let c = bind_some (passed (closes Bracket) us.0.1) _ _ us.2 in
        let semi = mark_one (codes ";") mid m in
        let l = length_sound Bracket y.1 mid us.0.0 us.0.1 c.0 t m us.1 c.1 in
        let shut = closer_passed_is Bracket us.0.1 c.0 l.2 c.1 in
        let told = about_expr y.0 in
        let length = us.0.0 in
        elim (chosen (is_empty length) _ _ _ c.2) [
          | inl g ↦ absurd (cc g.1)
          | inr g ↦
              let spelled : Spells (inside_of (Expr-F.Repeat told length)) y.1 ts c.0 = (
                inside,
                (inside, o, refl),
                (mid, s.1, (at, (at, semi, (at, refl, refl)), (us.0.1, l.0, (c.0, (c.0, shut, refl), refl)))),
              ) in
              let good = and_from (placed told FREE && not (is_empty length)) (is_token_list length)
              (and_from (placed told FREE) (not (is_empty length)) s.2 (ap not g.0)) l.1 in
              same_some (Out Left ts) ((expr.Repeat y.0 length, suc y.1), c.0) (x, rest) g.1 (
                made no_struct starts (about_expr (expr.Repeat y.0 length)) (Expr-F.Repeat told length) y.1 ts c.0
                    (expr_repeat_is y.0 length) spelled good refl,
                bit_texts (closer Bracket) us.0.1 c.0 shut l.2,
              )
        ]

    array_held : (xs : List (Expr × ℕ)) (ts inside rest : Tokens) → IsBit (opener Bracket) ts inside
        → FreeRow budget within sound Bracket xs inside rest → Left (expr.Array (nodes xs), suc (deepest xs)) ts rest
    array_held xs ts inside rest o r =
        let l = row_spelled budget within sound Bracket xs ts inside rest o r in
        made no_struct starts (about_expr (expr.Array (nodes xs))) (Expr-F.Array (map about_expr (nodes xs))) (deepest xs) ts rest
        (expr_array_is (nodes xs)) l.0 l.1 refl

    -- what a `[` begins
    pub bracket_head : (ts inside : Tokens) → IsBit (opener Bracket) ts inside → InText inside → (x : Expr × ℕ) (rest : Tokens)
        → bracket_expr within inside ≡ Some (x, rest) → Out Left ts (x, rest)
    unfolding bracket_expr
    bracket_head ts inside o t x rest h = elim (chosen (first (closes Bracket) inside) _ _ _ h) [
      | inl g ↦
          let c = closes_one Bracket inside t g.0 in
          let end = tail inside in
          same_some (Out Left ts) ((expr.Array [], 1), end) (x, rest) g.1
          (array_held [] ts inside end o c, bit_texts (closer Bracket) inside end c t)
      | inr g ↦
          let y = bind_some (within.exprs FREE inside) _ _ g.1 in
          let s = sound.exprs FREE inside y.0.0 y.0.1 t y.1 in
          let mid = y.0.1 in
          elim (chosen (first (is_mark (codes ";")) mid) _ _ _ y.2) [
            | inl f ↦ repeat_held ts inside y.0.0 mid o s.0 s.1 f.0 x rest f.1
            | inr f ↦ elim (chosen (first (closes Bracket) mid) _ _ _ f.1) [
              | inl e ↦
                  let c = closes_one Bracket mid s.1 e.0 in
                  let end = tail mid in
                  let need : max y.0.0.1 0 ≡ y.0.0.1 = omega arith in
                  let row : FreeRow budget within sound Bracket (y.0.0 ∷ []) inside end = (mid, s.0, (mid, refl, (mid, inl refl, c))) in
                  same_some (Out Left ts) ((expr.Array (y.0.0.0 ∷ []), suc y.0.0.1), end) (x, rest) e.1 (
                    subst (λ n. Left (expr.Array (y.0.0.0 ∷ []), suc n) ts end) need
                        (array_held (y.0.0 ∷ []) ts inside end o row),
                    bit_texts (closer Bracket) mid end c s.1,
                  )
              | inr e ↦
                  let k = bind_some (passed (is_mark (codes ",")) mid) _ _ e.1 in
                  let more = bind_some (free_elements within (closes Bracket) k.0) _ _ k.2 in
                  let comma = mark_passed_is (codes ",") mid k.0 k.1 in
                  let l = free_sound budget within sound Bracket k.0 more.0.0 more.0.1
                  (bit_texts (Fixed kind.Punct (codes ",")) mid k.0 comma s.1) more.1 in
                  let row : FreeRow budget within sound Bracket (y.0.0 ∷ l.0.0) inside more.0.1 =
                  (mid, s.0, behind_comma (closer Bracket) (ExprHeld FREE budget) l.0.0 mid k.0 more.0.1 comma l.0.2) in
                  let P : List Expr × ℕ → Type 0 =
                  λ z. Left (expr.Array (y.0.0.0 ∷ z.0), suc (max y.0.0.1 z.1)) ts more.0.1 in
                  same_some (Out Left ts) ((expr.Array (y.0.0.0 ∷ more.0.0.0), suc (max y.0.0.1 more.0.0.1)), more.0.1) (x, rest)
                  more.2 (subst P l.0.1 (array_held (y.0.0 ∷ l.0.0) ts inside more.0.1 o row), l.1)
            ]
          ]
    ]

    -- ---- jumps

    -- After an operand that is read at level 0 no operator follows.
    none_follows : (x : Expr × ℕ) (ts rest : Tokens) → ExprHeld (plain 0 no_struct) budget x ts rest → strength rest ≡ 0
    none_follows x ts rest s =
        let root = root_held (plain 0 no_struct) budget (about_expr x.0) x.1 ts rest s in
        omega (arith, leb-true (strength rest) 0 root)

    pub jump_follows : (x : Expr × ℕ) (ts rest : Tokens) → ExprHeld (plain 0 no_struct) budget x ts rest
        → SpelledBefore (tail_of_jump (Some (about_expr x.0))) (about_expr x.0).form no_struct x.1 ts rest
    jump_follows x ts rest s =
        let told = about_expr x.0 in
        ended_as told.tail (tail_of_jump (Some told)) told.form no_struct x.1 ts rest
        (all_taken told.tail no_struct rest (none_follows x ts rest s)) (tail_held (plain 0 no_struct) budget told x.1 ts rest s)

    -- The operand of a jump is spelled after a blank.
    operand_spelled : (x : Expr × ℕ) (ts rest : Tokens) → ExprHeld (plain 0 no_struct) budget x ts rest
        → SpelledBefore (tail_of_jump (Some (about_expr x.0))) (operand_form (Some (about_expr x.0))) no_struct x.1 ts rest
    operand_spelled x ts rest s =
        let told = about_expr x.0 in
        let ends = tail_of_jump (Some told) in
        piece_made ends no_struct x.1 (Blank ∷ []) (Part told.form Done) ts ts rest (ts, refl, refl)
        (last_made ends no_struct x.1 told.form ts rest (jump_follows x ts rest s))

    return_held : (y : Option Expr) (need : ℕ) (ts at rest : Tokens) → IsOne kind.Ident (codes "return") ts at
        → OperandHeld budget within sound 0 no_struct y need at rest → Left (expr.Return y, suc need) ts rest
    return_held None need ts at rest o k =
        made no_struct starts (about_expr (expr.Return None)) (Expr-F.Return None) need ts rest (expr_return_is None)
        (at, (at, o, refl), k.0) refl (bare_follows no_struct rest k.1)
    return_held (Some y) need ts at rest o k =
        let told = about_expr y in
        let spelled = piece_made (tail_of_jump (Some told)) no_struct need (keyword (codes "return") ∷ []) (operand_form (Some told)) ts at rest
        (at, o, refl) (operand_spelled (y, need) at rest k.0) in
        made_before no_struct starts (about_expr (expr.Return (Some y))) (Expr-F.Return (Some told)) need ts rest (expr_return_is (Some y))
        spelled (and_from (placed told (plain 0 no_struct)) (begins_free no_struct told) k.0.2 k.1)

    break_held : (label : Option Lifetime) (y : Option Expr) (need : ℕ) (ts at mid rest : Tokens)
        → IsOne kind.Ident (codes "break") ts at → LabelHeld label at mid
        → OperandHeld budget within sound 0 no_struct y need mid rest → Left (expr.Break label y, suc need) ts rest
    break_held label None need ts at mid rest o l k =
        made no_struct starts (about_expr (expr.Break label None)) (Expr-F.Break label None) need ts rest (expr_break_is label None)
        (at, (at, o, refl), label_leads label Done need at mid rest l k.0) (placed_bare label) (bare_follows no_struct rest k.1)
      where
        placed_bare : (label : Option Lifetime) → (true && break_placed label None) ≡ true
        placed_bare None = refl
        placed_bare (Some l) = refl
    break_held label (Some y) need ts at mid rest o l k =
        let told = about_expr y in
        let F = operand_form (Some told) in
        let G = Expr-F.Break label (Some told) in
        let operand = and_from (placed told (plain 0 no_struct)) (begins_free no_struct told) k.0.2 k.1 in
        let ends = tail_of_jump (Some told) in
        let spelled = piece_made ends no_struct need (keyword (codes "break") ∷ []) (label_form label F) ts at rest (at, o, refl)
        (label_before ends label F need at mid rest l (operand_spelled (y, need) mid rest k.0)) in
        made_before no_struct starts (about_expr (expr.Break label (Some y))) G need ts rest (expr_break_is label (Some y)) spelled
        (and_from (operand_placed (Some told) no_struct) (break_placed label (Some told)) operand (free label l))
      where
        free : (label : Option Lifetime) → LabelHeld label at mid → break_placed label (Some (about_expr y)) ≡ true
        free None l = no_label mid (about_expr y).lead k.2 l.1
        free (Some l) i = refl

    -- `return`, with an operand or not
    pub return_head : (led : LedWithin within) (ts at : Tokens) → IsOne kind.Ident (codes "return") ts at → InText at
        → (x : Expr × ℕ) (rest : Tokens) → return_expr within no_struct at ≡ Some (x, rest) → Out Left ts (x, rest)
    unfolding return_expr
    return_head led ts at o t x rest h =
        let y = bind_some (operand_if within 0 no_struct at) _ _ h in
        let s = operand_sound budget within sound led 0 no_struct at y.0.0 y.0.1 t y.1 in
        same_some (Out Left ts) ((expr.Return y.0.0.0, suc y.0.0.1), y.0.1) (x, rest) y.2
        (return_held y.0.0.0 y.0.0.1 ts at y.0.1 o s.0, s.1)

    -- `break`, with a label and an operand or not
    pub break_head : (led : LedWithin within) (ts at : Tokens) → IsOne kind.Ident (codes "break") ts at → InText at
        → (x : Expr × ℕ) (rest : Tokens) → break_expr within no_struct at ≡ Some (x, rest) → Out Left ts (x, rest)
    unfolding break_expr
    break_head led ts at o t x rest h =
        let l = bind_some (if_there (first is_lifetime at) lifetime at) _ _ h in
        let k = label_held at l.0.0 l.0.1 t l.1 in
        let y = bind_some (operand_if within 0 no_struct l.0.1) _ _ l.2 in
        let s = operand_sound budget within sound led 0 no_struct l.0.1 y.0.0 y.0.1 k.1 y.1 in
        same_some (Out Left ts) ((expr.Break l.0.0 y.0.0.0, suc y.0.0.1), y.0.1) (x, rest) y.2
        (break_held l.0.0 y.0.0.0 y.0.0.1 ts at l.0.1 y.0.1 o k.0 s.0, s.1)
