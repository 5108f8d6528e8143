-- Expressions in parentheses and brackets are parsed where they are spelled.
use Rattle.std.proofs.Common.{◌≡◌, ℕ, suc, ◌<◌, max, Bool, true, false, not, ◌&&◌, List, [], ◌∷◌, map, length, codes, ◌⊎◌, inl, inr, Some, refl, sym, subst, ◌∙◌, arith}
use Rattle.std.specs.List.{list_all}
use Rattle.std.proofs.lemmas.Bool.{and_parts, not-true}
use Rattle.std.proofs.lemmas.List.Folds.{list_all-map}
use Rattle.lay_piece.specs.Forms.{opening, closing}
use Rattle.lay_piece.specs.declared.kind.Delim.{Delim}
use Rattle.lay_piece.specs.declared.kind.Delim.TheVariants.{Paren, Bracket}
use Rattle.lay_piece.specs.declared.kind.Kind.TheVariants.{Punct, Opener, Closer}
use Rattle.lay_token.specs.Delimiters as delimiters
use Rattle.lay_form.specs.Form.{Fixed, Form, punct, opener, closer}
use Rattle.lay_form.specs.Notation.{comma_list}
use Rattle.lay_form.specs.Spelled.{IsOne, Spells}
use Rattle.lay_node.specs.Ahead.{Tokens, first, tail, is_mark, closes}
use Rattle.lay_node.specs.nodes.Attr.{is_empty}
use Rattle.lay_node.specs.reader.Loops.{passed, nodes, deepest, elements}
use Rattle.lay_node.specs.reader.Tokens.{tokens}
use Rattle.lay_node.specs.tokens.Lexed.{is_token_list}
use Rattle.lay_node.specs.declared.token.Listed.{Listed}
use Rattle.lay_node.proofs.Fronts.{one_front, one_test, mark_passed, closer_first, closer_passed}
use Rattle.lay_node.proofs.Parts.{SpelledAt, Closed, Behind, Elements, bit_alone, before_blank, piece_bit, list_elements}
use Rattle.lay_node.proofs.reader.Exact.{IsRead}
use Rattle.lay_node.proofs.reader.Loops as loops
use Rattle.lay_node.proofs.reader.TokenLists.{EndsRun, list_there}
use Rattle.lay_node.proofs.reader.TypesCompleteParts.{one_left}
use Rattle.lay_node.proofs.reader.TypesLists.{forms_of}
use Rattle.lay_node.proofs.reader.VariantsComplete.{elements_of_map, list_read}
use Rattle.lay_code.specs.nodes.Code.{about_expr}
use Rattle.lay_code.specs.nodes.Exprs.{ExprFacts, placed, expr_forms, all_free, tuple_form}
use Rattle.lay_code.specs.nodes.Places.{FREE}
use Rattle.lay_code.specs.reader.Exprs.{free_elements, paren_expr, repeat_by, bracket_expr}
use Rattle.lay_code.specs.reader.Within.{ExprWithin}
use Rattle.lay_code.specs.declared.exprs.Expr.{Expr}
use Rattle.lay_code.specs.declared.blocks.Stmt.TheOpen.{Expr-F}
use Rattle.lay_code.specs.declared.exprs.Expr.TheVariants as expr
use Rattle.lay_code.proofs.nodes.ExprsLaws.{expr_paren_is, expr_tuple_is, expr_array_is, expr_repeat_is}
use Rattle.lay_code.proofs.reader.ExprFronts.{placed_begins}
use Rattle.lay_code.proofs.reader.ExprHeads.{IsHead, head_of}
use Rattle.lay_code.proofs.reader.ExprLeads.{expr_no_closer}
use Rattle.lay_code.proofs.reader.ExprQuiet.{ExprEnds, ends_follow, comma_ends_expr, semicolon_ends_expr, closer_ends_expr, element_ends_expr}
use Rattle.lay_code.proofs.reader.ExprReads.{ExprReads}

-- After an element a comma stands and the further ones, or what closes the list.
behind_first : {A : Type 0} (d : Delim) (P : A → Tokens → Tokens → Type 0) (xs : List A) (ts rest : Tokens) → Behind d P xs ts rest
    → ((xs ≡ []) × Closed d ts rest) ⊎ ((next : Tokens) × IsOne Punct (codes ",") ts next × Elements d P xs next rest)
behind_first d P [] ts rest b =
    let last = b.2 in
    elim last.1 [
      | inl e ↦ let here : Closed d ts rest = rw (b.1, e) last.2 in inl (refl, here)
      | inr m ↦
          let here : IsOne Punct (codes ",") ts last.0 = rw b.1 (bit_alone (Fixed Punct (codes ",")) b.0 last.0 m) in
          inr (last.0, here, last.2)
    ]
behind_first d P (x ∷ xs) ts rest b = let row = b.1.1 in inr (row.0, row.1, (b.1.0, row.2, (b.0, b.1.2, b.2)))

module _ (depth : ℕ) (within : ExprWithin) (reads : ExprReads depth within) where
  abbrev Form_of : Expr → Form
  Form_of x = (about_expr x).form

  abbrev Free : Expr → Bool
  Free x = placed (about_expr x) FREE

  abbrev Here : Expr → Tokens → Tokens → Type 0
  Here x ts rest = SpelledAt depth (Form_of x) ts rest

  -- ---- what stands within delimiters

  -- An expression that ends there is read.
  pub free_read : (x : Expr) (ts rest : Tokens) → Here x ts rest → Free x ≡ true → ExprEnds false rest
      → IsRead depth (within.exprs FREE) x ts rest
  free_read x ts rest s g e = reads.exprs FREE x ts rest s g (inl (ends_follow (about_expr x) FREE rest e))

  -- It begins with nothing that closes a list.
  free_starts : (d : Delim) (x : Expr) (ts rest : Tokens) → Here x ts rest → Free x ≡ true
      → (first (closes d) ts ≡ false) × (length rest < length ts)
  free_starts d x ts rest s g =
      let b = placed_begins x FREE depth ts rest s g in (expr_no_closer d ts (about_expr x).lead b.lead, b.less)

  -- elements and what closes them
  elements_read : (d : Delim) (xs : List Expr) (ts rest : Tokens) → list_all Free xs ≡ true → Elements d Here xs ts rest
      → IsRead depth (free_elements within (closes d)) xs ts rest
  elements_read d xs ts rest g r =
      let one : (x : Expr) (us mid : Tokens) → Here x us mid → Free x ≡ true → loops.Ends d mid → IsRead depth
      (within.exprs FREE) x us mid =
      λ x us mid s f e. free_read x us mid s f (element_ends_expr false d mid e) in
      let l = list_read d Form_of Free depth (within.exprs FREE) one (free_starts d) xs ts rest g r in
      (deepest l.0, l.2, made l.0 l.1 l.3)
    where
      made : (ys : List (Expr × ℕ)) → nodes ys ≡ xs → elements (closes d) (within.exprs FREE) ts ≡ Some (ys, rest)
          → free_elements within (closes d) ts ≡ Some ((xs, deepest ys), rest)
      made ys e h = rw (h, e) refl

  -- All of them stand in their places.
  all_free_of : (xs : List Expr) → all_free (map about_expr xs) ≡ true → list_all Free xs ≡ true
  all_free_of xs g = sym (list_all-map (λ (x : ExprFacts). placed x FREE) about_expr xs) ∙ g

  -- the elements of a list, after what opens it
  pub opened_elements : (d : Delim) (xs : List Expr) (ts rest : Tokens)
      → Spells (comma_list true (opener d) (closer d) (expr_forms (map about_expr xs))) depth ts rest
      → (inside : Tokens) × IsOne (Opener d) (opening d ∷ []) ts inside × Elements d Here xs inside rest
  opened_elements d xs ts rest s =
      let t = subst (λ fs. Spells (comma_list true (opener d) (closer d) fs) depth ts rest)
      (forms_of (λ (x : ExprFacts). x.form) about_expr xs) s in
      let l = list_elements d (map Form_of xs) depth ts rest t in
      (l.0, l.1, elements_of_map d Form_of (SpelledAt depth) xs l.0 rest l.2)

  -- all of them, as the arguments of a call are read
  pub free_elements_read : (d : Delim) (xs : List Expr) (ts rest : Tokens) → all_free (map about_expr xs) ≡ true
      → Spells (comma_list true (opener d) (closer d) (expr_forms (map about_expr xs))) depth ts rest
      → (inside : Tokens) × IsOne (Opener d) (opening d ∷ []) ts inside × IsRead depth (free_elements within (closes d)) xs inside rest
  free_elements_read d xs ts rest g s =
      let l = opened_elements d xs ts rest s in (l.0, l.1, elements_read d xs l.0 rest (all_free_of xs g) l.2)

  -- ---- parentheses

  -- one expression and what closes it
  paren_there : (x : Expr) (ts mid rest : Tokens) → Here x ts mid → Free x ≡ true → Closed Paren mid rest
      → IsRead (suc depth) (paren_expr within) (expr.Paren x) ts rest
  unfolding paren_expr
  paren_there x ts mid rest s g o =
      let no_close = (free_starts Paren x ts mid s g).0 in
      let r = free_read x ts mid s g (closer_ends_expr false Paren mid rest o) in
      let c = closer_first Paren mid rest o in
      (suc r.0, omega (arith, r.1), rw (no_close, r.2, c.0, c.1) refl)

  -- an expression in parentheses
  pub paren_head : (x : Expr) → IsHead depth within (expr.Paren x)
  paren_head x = head_of depth within (expr.Paren x) (Expr-F.Paren (about_expr x)) (expr_paren_is x) (λ no_struct first_flag ts rest h.
      let s = h.spelled in
      let left = one_left (Opener Paren) (opening Paren ∷ []) ts s.0 (bit_alone (opener Paren) ts s.0 s.1) in
      let p = s.2 in
      let r = paren_there x s.0 p.0 rest p.1 h.inside (piece_bit (closer Paren) depth p.0 rest p.2) in
      (r.0, r.1, rw left r.2))

  -- an element, a comma and the further ones
  tuple_there : (x : Expr) (xs : List Expr) (ts mid next rest : Tokens) → Here x ts mid → list_all Free (x ∷ xs) ≡ true
      → IsOne Punct (codes ",") mid next
      → Elements Paren Here xs next rest → IsRead (suc depth) (paren_expr within) (expr.Tuple (x ∷ xs)) ts rest
  unfolding paren_expr
  tuple_there x xs ts mid next rest s g o more =
      let goods = and_parts (Free x) (list_all Free xs) g in
      let no_close = (free_starts Paren x ts mid s goods.0).0 in
      let r = free_read x ts mid s goods.0 (comma_ends_expr false mid next o) in
      let other : first (closes Paren) mid ≡ false = rw (one_front Punct (codes ",") mid next o).1 refl in
      let l = elements_read Paren xs next rest goods.1 more in
      (suc (max r.0 l.0), omega (arith, r.1, l.1), rw (no_close, r.2, other, mark_passed (codes ",") mid next o, l.2) refl)

  -- a tuple
  pub tuple_head : (xs : List Expr) → IsHead depth within (expr.Tuple xs)
  unfolding paren_expr
  tuple_head xs = head_of depth within (expr.Tuple xs) (Expr-F.Tuple (map about_expr xs)) (expr_tuple_is xs)
      (λ no_struct first_flag ts rest h. by xs ts rest h.spelled (all_free_of xs h.inside))
    where
      Read_as : List Expr → Tokens → Tokens → Type 0
      Read_as xs ts rest = IsRead (suc depth) (λ us. paren_expr within (tail us)) (expr.Tuple xs) ts rest

      behind : (xs : List Expr) (ts inside rest : Tokens) → IsOne (Opener Paren) (opening Paren ∷ []) ts inside
          → IsRead (suc depth) (paren_expr within) (expr.Tuple xs) inside rest → Read_as xs ts rest
      behind xs ts inside rest o r = (r.0, r.1, rw (one_left (Opener Paren) (opening Paren ∷ []) ts inside o) r.2)

      by : (xs : List Expr) (ts rest : Tokens) → Spells (tuple_form (map about_expr xs)) depth ts rest → list_all Free xs ≡ true
          → Read_as xs ts rest
      by [] ts rest s g =
          let l = opened_elements Paren [] ts rest s in
          let c = closer_first Paren l.0 rest l.2 in
          behind [] ts l.0 rest l.1 (1, omega arith, rw (c.0, c.1) refl)
      by (x ∷ []) ts rest s g =
          let p = s.2 in
          let bits = p.2.1 in
          let close : Closed Paren bits.0 rest =
          subst (λ us. Closed Paren bits.0 us) p.2.2 (bit_alone (closer Paren) bits.0 p.2.0 bits.2) in
          behind (x ∷ []) ts s.0 rest (bit_alone (opener Paren) ts s.0 s.1) (tuple_there x [] s.0 p.0 bits.0 rest p.1 g bits.1 close)
      by (x ∷ y ∷ ys) ts rest s g =
          let l = opened_elements Paren (x ∷ y ∷ ys) ts rest s in
          let e = l.2 in
          let b = e.2 in
          let row = b.1.1 in
          let more : Elements Paren Here (y ∷ ys) row.0 rest = (b.1.0, row.2, (b.0, b.1.2, b.2)) in
          behind (x ∷ y ∷ ys) ts l.0 rest l.1 (tuple_there x (y ∷ ys) l.0 e.0 row.0 rest e.1 g row.1 more)

  -- ---- brackets

  -- one element without a comma
  one_there : (x : Expr) (ts mid rest : Tokens) → Here x ts mid → Free x ≡ true → Closed Bracket mid rest
      → IsRead (suc depth) (bracket_expr within) (expr.Array (x ∷ [])) ts rest
  unfolding bracket_expr
  one_there x ts mid rest s g o =
      let no_close = (free_starts Bracket x ts mid s g).0 in
      let r = free_read x ts mid s g (closer_ends_expr false Bracket mid rest o) in
      let no_mark : first (is_mark (codes ";")) mid ≡ false = rw (one_front (Closer Bracket) (closing Bracket ∷ []) mid rest o).1 refl in
      let c = closer_first Bracket mid rest o in
      (suc r.0, omega (arith, r.1), rw (no_close, r.2, no_mark, c.0, c.1) refl)

  -- an element, a comma and the further ones
  many_there : (x : Expr) (xs : List Expr) (ts mid next rest : Tokens) → Here x ts mid → list_all Free (x ∷ xs) ≡ true
      → IsOne Punct (codes ",") mid next
      → Elements Bracket Here xs next rest → IsRead (suc depth) (bracket_expr within) (expr.Array (x ∷ xs)) ts rest
  unfolding bracket_expr
  many_there x xs ts mid next rest s g o more =
      let goods = and_parts (Free x) (list_all Free xs) g in
      let no_close = (free_starts Bracket x ts mid s goods.0).0 in
      let r = free_read x ts mid s goods.0 (comma_ends_expr false mid next o) in
      let f = (one_front Punct (codes ",") mid next o).1 in
      let no_mark : first (is_mark (codes ";")) mid ≡ false = rw f refl in
      let other : first (closes Bracket) mid ≡ false = rw f refl in
      let l = elements_read Bracket xs next rest goods.1 more in
      (suc (max r.0 l.0), omega (arith, r.1, l.1), rw (no_close, r.2, no_mark, other, mark_passed (codes ",") mid next o, l.2) refl)

  -- the elements of an array
  array_there : (xs : List Expr) (ts rest : Tokens) → list_all Free xs ≡ true → Elements Bracket Here xs ts rest
      → IsRead (suc depth) (bracket_expr within) (expr.Array xs) ts rest
  unfolding bracket_expr
  array_there [] ts rest g r = let c = closer_first Bracket ts rest r in (1, omega arith, rw (c.0, c.1) refl)
  array_there (x ∷ xs) ts rest g r = elim (behind_first Bracket Here xs r.0 rest r.2) [
    | inl c ↦ rw c.0 (one_there x ts r.0 rest r.1 (and_parts (Free x) (list_all Free xs) g).0 c.1)
    | inr m ↦ many_there x xs ts r.0 m.0 rest r.1 g m.1 m.2
  ]

  -- an array
  pub array_head : (xs : List Expr) → IsHead depth within (expr.Array xs)
  array_head xs = head_of depth within (expr.Array xs) (Expr-F.Array (map about_expr xs)) (expr_array_is xs)
      (λ no_struct first_flag ts rest h.
      let l = opened_elements Bracket xs ts rest h.spelled in
      let r = array_there xs l.0 rest (all_free_of xs h.inside) l.2 in
      (r.0, r.1, rw (one_left (Opener Bracket) (opening Bracket ∷ []) ts l.0 l.1) r.2))

  -- a length
  length_read : (x : Expr) (us : List Listed) (n : ℕ) (ts mid rest : Tokens) → tokens ts ≡ Some (us, mid)
      → passed (closes Bracket) mid ≡ Some rest
      → is_empty us ≡ false → repeat_by (x, n) ts ≡ Some ((expr.Repeat x us, suc n), rest)
  length_read x us n ts mid rest h c some = rw (h, c, some) refl

  -- an element and how often it is repeated
  pub repeat_head : (x : Expr) (us : List Listed) → IsHead depth within (expr.Repeat x us)
  unfolding bracket_expr
  repeat_head x us = head_of depth within (expr.Repeat x us) (Expr-F.Repeat (about_expr x) us) (expr_repeat_is x us)
      (λ no_struct first_flag ts rest h.
      let s = h.spelled in
      let goods = and_parts (Free x && not (is_empty us)) (is_token_list us) h.inside in
      let good = and_parts (Free x) (not (is_empty us)) goods.0 in
      let left = one_left (Opener Bracket) (opening Bracket ∷ []) ts s.0 (bit_alone (opener Bracket) ts s.0 s.1) in
      let p = s.2 in
      let mid = p.0 in
      let q = p.2 in
      let mark : IsOne Punct (codes ";") mid q.0 = before_blank (punct 59) mid q.0 q.1 in
      let list = q.2 in
      let close : Closed Bracket list.0 rest = piece_bit (closer Bracket) depth list.0 rest list.2 in
      let no_close = (free_starts Bracket x s.0 mid p.1 good.0).0 in
      let r = free_read x s.0 mid p.1 good.0 (semicolon_ends_expr false mid q.0 mark) in
      let there : first (is_mark (codes ";")) mid ≡ true = rw (one_front Punct (codes ";") mid q.0 mark).1 refl in
      let shuts : EndsRun false list.0 = one_test delimiters.is_closer (Closer Bracket) (closing Bracket ∷ []) list.0 rest close in
      let listed = list_there false us depth q.0 list.0 goods.1 tt list.1 shuts in
      let made = length_read x us r.0 q.0 list.0 rest listed (closer_passed Bracket list.0 rest close) (not-true (is_empty us) good.1) in
      (suc r.0, omega (arith, r.1), rw (left, no_close, r.2, there, one_left Punct (codes ";") mid q.0 mark) made))
