-- The longest operator, decided by the characters of three tokens.
use Rattle.std.proofs.Common.{◌≡◌, inl, inr, ℕ, Bool, true, false, not, ◌&&◌, ◌||◌, cond, List, [], ◌∷◌, ◌++◌, Some, None, refl, sym, ap, ◌∙◌}
use Rattle.std.specs.Prelude.{◌==◌}
use Rattle.std.specs.List.{list_all}
use Rattle.std.specs.Str.{bytes_eq}
use Rattle.std.proofs.lemmas.Bool.{cases_Bool, and_parts, eqb-true, eq-eqb, false_from_ne_true, false≢true}
use Rattle.std.proofs.lemmas.Slice.Eq.{bytes_eq-Decides}
use Rattle.lay_token.specs.Lexes.{is_punct}
use Rattle.lay_token.specs.Operators.{operators, begins_op, first_op, lone_op, or_lone, op_at, is_op_of, is_op}
use Rattle.lay_piece.specs.Word.{is_among}
use Rattle.lay_token.specs.declared.token.Token.{Token}
use Rattle.lay_piece.specs.Chars.{is_nil}
use Rattle.lay_nest.specs.Marks.{threes, twos, one, mark, first_mark, second_mark, is_same_first, may_begin}

turned : (c d : ℕ) → c == d ≡ (d == c)
turned c d = elim (cases_Bool (d == c)) [
  | inl e ↦ eq-eqb c d (sym (eqb-true d c e)) ∙ sym e
  | inr e ↦
      false_from_ne_true (c == d) (λ h. false≢true (sym e ∙ eq-eqb d c (sym (eqb-true c d h)))) ∙ sym e
]

and_true : (b : Bool) → b && true ≡ b
and_true true = refl
and_true false = refl

no_mark : (c : ℕ) → not (c == 0) ≡ true → false ≡ (c == 0)
no_mark c h = elim (cases_Bool (c == 0)) [
  | inl e ↦ let g : false ≡ true = rw e at h in absurd (false≢true g)
  | inr e ↦ sym e
]

-- a text of one character
is_one : (text : List ℕ) (c : ℕ) → not (c == 0) ≡ true → bytes_eq text (c ∷ []) ≡ (c == one text)
is_one [] c h = no_mark c h
is_one (d ∷ []) c h = and_true (d == c) ∙ turned d c
is_one (d ∷ e ∷ text) c h = elim (cases_Bool (d == c)) [ inl g ↦ rw g (no_mark c h) | inr g ↦ rw g (no_mark c h) ]

by_punct : (b : Bool) (c n : ℕ) (same : Bool) → not (c == 0) ≡ true → same ≡ (c == n)
    → b && same ≡ (c == cond b n 0)
by_punct true c n same h e = e
by_punct false c n same h e = no_mark c h

-- The token is punctuation of this character.
is_mark : (t : Token) (c : ℕ) → not (c == 0) ≡ true → is_punct t.kind && bytes_eq t.text (c ∷ []) ≡ (c == mark t)
is_mark t c h = by_punct (is_punct t.kind) c (one t.text) (bytes_eq t.text (c ∷ [])) h (is_one t.text c h)

begins_one : (ts : List Token) (c : ℕ) → not (c == 0) ≡ true → begins_op (c ∷ []) ts ≡ (c == first_mark ts)
begins_one [] c h = no_mark c h
begins_one (t ∷ ts) c h = and_true (is_punct t.kind && bytes_eq t.text (c ∷ [])) ∙ is_mark t c h

by_joint : (a joint : Bool) (d n : ℕ) (same : Bool) → not (d == 0) ≡ true → same ≡ (d == n)
    → a && (joint && same) ≡ (a && d == cond joint n 0)
by_joint a true d n same h e = ap (λ b. a && b) e
by_joint a false d n same h e = ap (λ b. a && b) (no_mark d h)

begins_two : (ts : List Token) (c d : ℕ) → not (c == 0) ≡ true → not (d == 0) ≡ true
    → begins_op (c ∷ d ∷ []) ts ≡ (c == first_mark ts && d == second_mark ts)
begins_two [] c d h g = ap (λ b. b && d == 0) (no_mark c h)
begins_two (t ∷ ts) c d h g =
    by_joint (is_punct t.kind && bytes_eq t.text (c ∷ [])) t.joint d (first_mark ts) (begins_op (d ∷ []) ts) g (begins_one ts d g)
    ∙ ap (λ b. b && d == second_mark (t ∷ ts)) (is_mark t c h)

-- whether an operator has three characters, none of them 0, or two
abbrev of_three : List ℕ → Bool
of_three (c ∷ d ∷ e ∷ []) = not (c == 0) && not (d == 0) && not (e == 0)
of_three _ = false

abbrev of_two : List ℕ → Bool
of_two (c ∷ d ∷ []) = not (c == 0) && not (d == 0)
of_two _ = false

-- after a joint token
begins_three : (op : List ℕ) (t : Token) (ts : List Token) → of_three op ≡ true → t.joint ≡ true
    → begins_op op (t ∷ ts) ≡ bytes_eq op (mark t ∷ first_mark ts ∷ second_mark ts ∷ [])
begins_three [] t ts h j = absurd (false≢true h)
begins_three (c ∷ []) t ts h j = absurd (false≢true h)
begins_three (c ∷ d ∷ []) t ts h j = absurd (false≢true h)
begins_three (c ∷ d ∷ e ∷ f ∷ op) t ts h j = absurd (false≢true h)
begins_three (c ∷ d ∷ e ∷ []) t ts h j =
    let p = and_parts (not (c == 0) && not (d == 0)) (not (e == 0)) h in
    let q = and_parts (not (c == 0)) (not (d == 0)) p.0 in
    rw (j, is_mark t c q.0, begins_two ts d e q.1 p.1, and_true (e == second_mark ts)) refl

begins_pair : (op : List ℕ) (t : Token) (ts : List Token) → of_two op ≡ true → t.joint ≡ true
    → begins_op op (t ∷ ts) ≡ bytes_eq op (mark t ∷ first_mark ts ∷ [])
begins_pair [] t ts h j = absurd (false≢true h)
begins_pair (c ∷ []) t ts h j = absurd (false≢true h)
begins_pair (c ∷ d ∷ e ∷ op) t ts h j = absurd (false≢true h)
begins_pair (c ∷ d ∷ []) t ts h j =
    let q = and_parts (not (c == 0)) (not (d == 0)) h in
    rw (j, is_mark t c q.0, begins_one ts d q.1, and_true (d == first_mark ts)) refl

-- the first of the operators, and if it is none of these the first of others
first_of : (ops others : List (List ℕ)) (good : List ℕ → Bool) (text : List ℕ) (ts : List Token)
    → ((op : List ℕ) → good op ≡ true → begins_op op ts ≡ bytes_eq op text)
    → list_all good ops ≡ true
    → first_op (ops ++ others) ts ≡ cond (is_among ops text) (Some text) (first_op others ts)
first_of [] others good text ts b h = refl
first_of (op ∷ ops) others good text ts b h =
    let p = and_parts (good op) (list_all good ops) h in
    let e = b op p.0 in
    elim (cases_Bool (bytes_eq op text)) [
      | inl s ↦ rw (e, s) (ap (λ o. Some o) ((bytes_eq-Decides op text).0 s))
      | inr s ↦ rw (e, s) (first_of ops others good text ts b p.1)
    ]

-- the operator at a joint token
pub longest : (t : Token) (ts : List Token) → t.joint ≡ true
    → op_at (t ∷ ts)
    ≡ or_lone (cond (is_among threes (mark t ∷ first_mark ts ∷ second_mark ts ∷ [])) (Some (mark t ∷ first_mark ts ∷ second_mark ts ∷ []))
    (cond (is_among twos (mark t ∷ first_mark ts ∷ [])) (Some (mark t ∷ first_mark ts ∷ [])) None)) (t ∷ ts)
unfolding op_at
longest t ts j =
    let three = mark t ∷ first_mark ts ∷ second_mark ts ∷ [] in
    let two = mark t ∷ first_mark ts ∷ [] in
    let e : first_op operators (t ∷ ts) ≡ cond (is_among threes three) (Some three) (first_op twos (t ∷ ts)) =
    first_of threes twos of_three three (t ∷ ts) (λ op h. begins_three op t ts h j) refl in
    let f : first_op twos (t ∷ ts) ≡ cond (is_among twos two) (Some two) None =
    first_of twos [] of_two two (t ∷ ts) (λ op h. begins_pair op t ts h j) refl in
    ap (λ o. or_lone o (t ∷ ts)) (e ∙ ap (λ o. cond (is_among threes three) (Some three) o) f)

-- a token that isn't joint begins no longer operator
not_begun : (op : List ℕ) (t : Token) (ts : List Token) → of_three op || of_two op ≡ true → t.joint ≡ false
    → begins_op op (t ∷ ts) ≡ false
not_begun [] t ts h j = absurd (false≢true h)
not_begun (c ∷ []) t ts h j = absurd (false≢true h)
not_begun (c ∷ d ∷ op) t ts h j = elim (cases_Bool (is_punct t.kind && bytes_eq t.text (c ∷ []))) [
  | inl e ↦ rw (e, j) refl
  | inr e ↦ rw e refl
]

none_begun : (ops : List (List ℕ)) (t : Token) (ts : List Token) → list_all (λ op. of_three op || of_two op) ops ≡ true
    → t.joint ≡ false → first_op ops (t ∷ ts) ≡ None
none_begun [] t ts h j = refl
none_begun (op ∷ ops) t ts h j =
    let p = and_parts (of_three op || of_two op) (list_all (λ op. of_three op || of_two op) ops) h in
    rw (not_begun op t ts p.0 j) (none_begun ops t ts p.1 j)

is_lone : (op : List ℕ) (t : Token) (ts : List Token)
    → is_op_of op (lone_op (t ∷ ts)) ≡ (is_punct t.kind && bytes_eq op t.text)
is_lone op t ts = elim (cases_Bool (is_punct t.kind)) [ inl e ↦ rw e refl | inr e ↦ rw e refl ]

-- Whether the operator is this one: at a token that isn't joint, at the end, and at three joint tokens.
pub not_joint : (op : List ℕ) (t : Token) (ts : List Token) → t.joint ≡ false
    → is_op op (t ∷ ts) ≡ (is_punct t.kind && bytes_eq op t.text)
unfolding op_at
not_joint op t ts j =
    ap (λ o. is_op_of op (or_lone o (t ∷ ts))) (none_begun operators t ts refl j) ∙ is_lone op t ts

pub no_token : (op : List ℕ) → is_op op [] ≡ false
unfolding op_at
no_token op = refl

pub three_joint : (op : List ℕ) (t : Token) (ts : List Token) (a b c : ℕ) → t.joint ≡ true
    → a ≡ mark t → b ≡ first_mark ts → c ≡ second_mark ts → is_among threes (a ∷ b ∷ c ∷ []) ≡ true
    → bytes_eq op (a ∷ b ∷ c ∷ []) ≡ is_op op (t ∷ ts)
three_joint op t ts a b c j e f g h =
    let same : is_among threes (mark t ∷ first_mark ts ∷ second_mark ts ∷ []) ≡ true = rw (← e, ← f, ← g) h in
    rw (e, f, g) (sym (ap (is_op_of op) (longest t ts j) ∙ rw same refl))

pub two_joint : (op : List ℕ) (t : Token) (ts : List Token) (a b c : ℕ) → t.joint ≡ true
    → a ≡ mark t → b ≡ first_mark ts → c ≡ second_mark ts → is_among threes (a ∷ b ∷ c ∷ []) ≡ false
    → is_among twos (a ∷ b ∷ []) ≡ true
    → bytes_eq op (a ∷ b ∷ []) ≡ is_op op (t ∷ ts)
two_joint op t ts a b c j e f g h i =
    let no_three : is_among threes (mark t ∷ first_mark ts ∷ second_mark ts ∷ []) ≡ false = rw (← e, ← f, ← g) h in
    let same : is_among twos (mark t ∷ first_mark ts ∷ []) ≡ true = rw (← e, ← f) i in
    rw (e, f) (sym (ap (is_op_of op) (longest t ts j) ∙ rw (no_three, same) refl))

pub one_joint : (op : List ℕ) (t : Token) (ts : List Token) (a b c : ℕ) → t.joint ≡ true
    → a ≡ mark t → b ≡ first_mark ts → c ≡ second_mark ts → is_among threes (a ∷ b ∷ c ∷ []) ≡ false
    → is_among twos (a ∷ b ∷ []) ≡ false
    → (is_punct t.kind && bytes_eq op t.text) ≡ is_op op (t ∷ ts)
one_joint op t ts a b c j e f g h i =
    let no_three : is_among threes (mark t ∷ first_mark ts ∷ second_mark ts ∷ []) ≡ false = rw (← e, ← f, ← g) h in
    let no_two : is_among twos (mark t ∷ first_mark ts ∷ []) ≡ false = rw (← e, ← f) i in
    sym (ap (is_op_of op) (longest t ts j) ∙ rw (no_three, no_two) (is_lone op t ts))

-- ---- an operator that can't begin with the first token

unlike_text : (text op : List ℕ) → is_same_first text op ≡ false → bytes_eq op text ≡ false
unlike_text [] [] h = absurd (false≢true (sym h))
unlike_text [] (d ∷ ds) h = refl
unlike_text (c ∷ cs) [] h = refl
unlike_text (c ∷ cs) (d ∷ ds) h = rw (turned d c, h) refl

unlike_first : (c : ℕ) (cs op : List ℕ) → is_same_first (c ∷ []) op ≡ false → bytes_eq op (c ∷ cs) ≡ false
unlike_first c cs [] h = refl
unlike_first c cs (d ∷ ds) h = rw (turned d c, h) refl

-- an operator that the tokens do begin with
unlike_begun : (c : ℕ) (cs op : List ℕ) (t : Token) (ts : List Token) → may_begin t op ≡ false
    → begins_op (c ∷ cs) (t ∷ ts) ≡ true → bytes_eq op (c ∷ cs) ≡ false
unlike_begun c cs op t ts h b =
    let p = and_parts (is_punct t.kind && bytes_eq t.text (c ∷ [])) (is_nil cs || t.joint && begins_op cs ts) b in
    let q = and_parts (is_punct t.kind) (bytes_eq t.text (c ∷ [])) p.0 in
    let same : t.text ≡ c ∷ [] = (bytes_eq-Decides t.text (c ∷ [])).0 q.1 in
    let apart : is_same_first (c ∷ []) op ≡ false = rw (← same) (ap (λ b. b && is_same_first t.text op) (sym q.0) ∙ h) in
    unlike_first c cs op apart

abbrev is_some_op : List ℕ → Bool
is_some_op [] = false
is_some_op (c ∷ cs) = true

unlike_ops : (ops : List (List ℕ)) (op : List ℕ) (t : Token) (ts : List Token) → may_begin t op ≡ false
    → list_all is_some_op ops ≡ true → is_op_of op (or_lone (first_op ops (t ∷ ts)) (t ∷ ts)) ≡ false
unlike_ops [] op t ts h g = is_lone op t ts ∙ unlike_lone (is_punct t.kind) h
  where
    unlike_lone : (b : Bool) → b && is_same_first t.text op ≡ false → b && bytes_eq op t.text ≡ false
    unlike_lone true e = unlike_text t.text op e
    unlike_lone false e = refl
unlike_ops ([] ∷ ops) op t ts h g = absurd (false≢true g)
unlike_ops ((c ∷ cs) ∷ ops) op t ts h g = elim (cases_Bool (begins_op (c ∷ cs) (t ∷ ts))) [
  | inl e ↦ rw e (unlike_begun c cs op t ts h e)
  | inr e ↦ rw e (unlike_ops ops op t ts h g)
]

pub unlike : (op : List ℕ) (t : Token) (ts : List Token) → may_begin t op ≡ false → is_op op (t ∷ ts) ≡ false
unfolding op_at
unlike op t ts h = unlike_ops operators op t ts h refl
