-- Operators: the parts that stand for one, and that their tokens begin with it and with no longer one.
use Rattle.std.proofs.Common.{◌≡◌, ℕ, ◌+◌, List, [], ◌∷◌, ◌++◌, Bool, true, false, cond, not, ◌&&◌, ◌||◌, sym, refl, ap, ◌∙◌, inl, inr, drop, length, Some}
use Rattle.std.specs.Prelude.{◌==◌}
use Rattle.std.specs.Str.{encode_utf8_all, bytes_eq}
use Rattle.std.proofs.lemmas.Bool.{and_parts, and_from, cases_Bool, or_cases}
use Rattle.lay_piece.specs.Chars.{is_nil}
use Rattle.lay_piece.specs.Forms.{has_form}
use Rattle.lay_token.specs.Lexes.{Part, is_punct, tokens_from, is_joint, size, text_of_piece, is_separator}
use Rattle.lay_token.specs.Operators.{operators, begins_op, first_op, or_lone, op_at, is_op_of}
use Rattle.lay_piece.specs.Word.{is_among}
use Rattle.lay_piece.specs.declared.kind.Kind.{Kind}
use Rattle.lay_piece.specs.declared.kind.Kind.TheVariants.{Punct}
use Rattle.lay_token.proofs.Deciding.{bytes_same, bytes_self}
use Rattle.lay_form.specs.Spelled.{IsOperator}
use Rattle.lay_reparse.proofs.borders.Need.{Text, next_part, grows, keeps, part}
use Rattle.lay_reparse.proofs.texts.Characters.{is_low, low_encodes}

-- a `/` before a `/` or a `*`
abbrev pub begins_comment : ℕ → ℕ → Bool
begins_comment c d = (c == 47) && (d == 47 || d == 42)

-- the characters are Puncts in a joint run, and begin no comment
abbrev pub is_run : Text → Bool
is_run [] = false
is_run (c ∷ []) = has_form Punct (c ∷ []) && is_low (c ∷ [])
is_run (c ∷ d ∷ cs) = has_form Punct (c ∷ [])
    && (is_low (c ∷ []) && (keeps (c ∷ []) && (keeps (d ∷ []) && (not (begins_comment c d) && is_run (d ∷ cs)))))

-- the characters cs begin otherwise than the operator, or the operator w grows at their end to begin like it
abbrev pub differs : Text → Text → Text → Bool
differs w [] [] = false
differs w [] (d ∷ op) = is_among operators (w ++ d ∷ [])
differs w (c ∷ cs) [] = false
differs w (c ∷ cs) (d ∷ op) = not (c == d) || differs w cs op

abbrev pub is_lone : Text → Bool
is_lone [] = false
is_lone (c ∷ cs) = is_nil cs

-- the operator is in the table, after those that it doesn't begin like, or is one character alone
abbrev pub is_in_table : Text → List Text → Bool
is_in_table cs [] = is_lone cs
is_in_table cs (op ∷ ops) = bytes_eq cs op || (differs cs cs op && is_in_table cs ops)

unfoldable pub is_operator : Text → Bool
is_operator cs = is_run cs && is_in_table cs operators

pub operator_run : (cs : Text) → is_operator cs ≡ true → is_run cs ≡ true
unfolding is_operator
operator_run cs h = (and_parts (is_run cs) _ h).0

pub no_operator : is_operator [] ≡ true → ⊥
unfolding is_operator
no_operator h = let e : false ≡ true = h in absurd (cc)

-- what a run asks of its first character, and of the next
run_first : (c : ℕ) (cs : Text) → is_run (c ∷ cs) ≡ true → is_low (c ∷ []) ≡ true
run_first c [] h = (and_parts (has_form Punct (c ∷ [])) _ h).1
run_first c (d ∷ cs) h = (and_parts (is_low (c ∷ [])) _ (and_parts (has_form Punct (c ∷ [])) _ h).1).0

run_next : (c d : ℕ) (cs : Text) → is_run (c ∷ d ∷ cs) ≡ true
    → (keeps (c ∷ []) ≡ true) × (keeps (d ∷ []) ≡ true) × (is_run (d ∷ cs) ≡ true)
run_next c d cs h =
    let h1 = and_parts (has_form Punct (c ∷ [])) _ h in
    let h0 = and_parts (is_low (c ∷ [])) _ h1.1 in
    let h2 = and_parts (keeps (c ∷ [])) _ h0.1 in
    let h3 = and_parts (keeps (d ∷ [])) _ h2.1 in
    (h2.0, h3.0, (and_parts (not (begins_comment c d)) _ h3.1).1)

pub run_low : (cs : Text) → is_run cs ≡ true → is_low cs ≡ true
run_low [] h = refl
run_low (c ∷ []) h = run_first c [] h
run_low (c ∷ d ∷ cs) h =
    let a = and_parts _ true (run_first c (d ∷ cs) h) in
    and_from _ (is_low (d ∷ cs)) a.0 (run_low (d ∷ cs) (run_next c d cs h).2)

abbrev pub op_parts : Text → List Part → List Part
op_parts [] ps = ps
op_parts (c ∷ cs) ps = part Punct (c ∷ []) ∷ op_parts cs ps

text_is : (c : ℕ) → is_low (c ∷ []) ≡ true → encode_utf8_all (c ∷ []) ≡ c ∷ []
text_is c h = low_encodes (c ∷ []) h

own_text : (c : ℕ) → is_low (c ∷ []) ≡ true → bytes_eq (encode_utf8_all (c ∷ [])) (c ∷ []) ≡ true
own_text c h = ap (λ x. bytes_eq x (c ∷ [])) (text_is c h) ∙ bytes_self (c ∷ [])

-- The tokens begin with the operator.
begins_same : (c : ℕ) (cs : Text) (at : ℕ) (ps : List Part) → is_run (c ∷ cs) ≡ true
    → begins_op (c ∷ cs) (tokens_from at (op_parts (c ∷ cs) ps)) ≡ true
begins_same c [] at ps h = and_from _ true (own_text c (run_first c [] h)) refl
begins_same c (d ∷ cs) at ps h =
    let n = run_next c d cs h in
    let more = begins_same d cs (at + size [] + size (c ∷ [])) ps n.2 in
    and_from (bytes_eq (encode_utf8_all (c ∷ [])) (c ∷ [])) _ (own_text c (run_first c (d ∷ cs) h))
    (and_from (keeps (c ∷ []) && keeps (d ∷ [])) _ (and_from (keeps (c ∷ [])) _ n.0 n.1) more)

-- At their end the next token doesn't grow it.
grown_stops : (w : Text) (c d : ℕ) (op : Text) (at : ℕ) (ps : List Part) → is_among operators (w ++ d ∷ []) ≡ true
    → next_part (grows w) ps ≡ false
    → is_joint (part Punct (c ∷ [])) ps && begins_op (d ∷ op) (tokens_from at ps) ≡ false
unfolding grows
grown_stops w c d op at [] h g = refl
grown_stops w c d op at (q ∷ qs) h g = by q.kind g
  where
    same : (a : Bool) (x : Text) → a && is_among operators (w ++ x) ≡ false → a && bytes_eq x (d ∷ []) ≡ false
    same a x e = elim (cases_Bool (bytes_eq x (d ∷ []))) [
      | inl k ↦ ap (λ z. a && z) k ∙ sym
          (ap (λ z. a && z) (ap (λ z. is_among operators (w ++ z)) (bytes_same x (d ∷ []) k) ∙ h)) ∙ e
      | inr k ↦ ap (λ z. a && z) k ∙ and_no a
    ]
      where
        and_no : (a : Bool) → a && false ≡ false
        and_no true = refl
        and_no false = refl

    both : (n s t b r : Bool) → n && b ≡ false → n && s && t && (b && r) ≡ false
    both true true true true r e = cc
    both true true true false r e = refl
    both true true false b r e = refl
    both true false t b r e = refl
    both false s t b r e = refl

    by : (k : Kind) → is_nil q.gap && (is_punct k && is_among operators (w ++ encode_utf8_all q.piece)) ≡ false
        → is_punct k && is_nil q.gap && not (is_separator (c ∷ [])) && not (is_separator q.piece)
        && (is_punct k && bytes_eq (encode_utf8_all (text_of_piece k q.piece)) (d ∷ [])
        && (is_nil op || is_joint q qs && begins_op op (tokens_from (at + size q.gap + size q.piece) qs))) ≡ false
    by Punct e = both (is_nil q.gap) (not (is_separator (c ∷ []))) (not (is_separator q.piece))
        (bytes_eq (encode_utf8_all q.piece) (d ∷ [])) _ (same (is_nil q.gap) (encode_utf8_all q.piece) e)
    by _ e = refl

other_text : (c d : ℕ) (r : Bool) → is_low (c ∷ []) ≡ true → (c == d) && true && r ≡ false
    → bytes_eq (encode_utf8_all (c ∷ [])) (d ∷ []) && r ≡ false
other_text c d r h e = ap (λ x. bytes_eq x (d ∷ []) && r) (text_is c h) ∙ e

first : (b r : Bool) → not b ≡ true → b && true && r ≡ false
first true r e = cc
first false r e = refl

or_first : (b : Bool) → not b || false ≡ true → not b ≡ true
or_first true e = e
or_first false e = refl

either : (b r : Bool) → r ≡ false → b && true && r ≡ false
either true r e = e
either false r e = refl

no_more : (a b : Bool) → b ≡ false → a && b ≡ false
no_more true b e = e
no_more false b e = refl

-- They begin with no operator that differs.
begins_other : (w : Text) (c : ℕ) (cs : Text) (d : ℕ) (op : Text) (at : ℕ) (ps : List Part) → is_run (c ∷ cs) ≡ true
    → next_part (grows w) ps ≡ false
    → differs w (c ∷ cs) (d ∷ op) ≡ true → begins_op (d ∷ op) (tokens_from at (op_parts (c ∷ cs) ps)) ≡ false
begins_other w c [] d [] at ps h g f = other_text c d _ (run_first c [] h) (first (c == d) _ (or_first (c == d) f))
begins_other w c [] d (x ∷ op) at ps h g f =
    other_text c d _ (run_first c [] h) (elim (or_cases (not (c == d)) (differs w [] (x ∷ op)) f) [
      | inl e ↦ first (c == d) _ e
      | inr e ↦ either (c == d) _ (grown_stops w c x op (at + size [] + size (c ∷ [])) ps e g)
    ])
begins_other w c (b ∷ cs) d [] at ps h g f =
    other_text c d _ (run_first c (b ∷ cs) h) (first (c == d) _ (or_first (c == d) f))
begins_other w c (b ∷ cs) d (x ∷ op) at ps h g f =
    other_text c d _ (run_first c (b ∷ cs) h) (elim (or_cases (not (c == d)) (differs w (b ∷ cs) (x ∷ op)) f) [
      | inl e ↦ first (c == d) _ e
      | inr e ↦ either (c == d) _ (no_more (is_joint (part Punct (c ∷ [])) (op_parts (b ∷ cs) ps)) _
          (begins_other w b cs x op (at + size [] + size (c ∷ [])) ps (run_next c b cs h).2 g e))
    ])

-- The operator is the first of the table.
first_is : (c : ℕ) (cs : Text) (at : ℕ) (ps : List Part) (ops : List Text) → is_run (c ∷ cs) ≡ true
    → next_part (grows (c ∷ cs)) ps ≡ false
    → is_in_table (c ∷ cs) ops ≡ true
    → is_op_of (c ∷ cs) (or_lone (first_op ops (tokens_from at (op_parts (c ∷ cs) ps)))
    (tokens_from at (op_parts (c ∷ cs) ps))) ≡ true
first_is c [] at ps [] h g f = ap (bytes_eq (c ∷ [])) (text_is c (run_first c [] h)) ∙ bytes_self (c ∷ [])
first_is c (d ∷ cs) at ps [] h g f = cc
first_is c cs at ps ([] ∷ ops) h g f = absurd (let e : false ≡ true = f in cc)
first_is c cs at ps ((d ∷ op) ∷ ops) h g f =
    let ts = tokens_from at (op_parts (c ∷ cs) ps) in
    elim (cases_Bool (bytes_eq (c ∷ cs) (d ∷ op))) [
      | inl e ↦
          let s : c ∷ cs ≡ d ∷ op = bytes_same (c ∷ cs) (d ∷ op) e in
          let b : begins_op (d ∷ op) ts ≡ true = ap (λ o. begins_op o ts) (sym s) ∙ begins_same c cs at ps h in
          ap (λ z. is_op_of (c ∷ cs) (or_lone (cond z (Some (d ∷ op)) (first_op ops ts)) ts)) b ∙ e
      | inr e ↦
          let k : differs (c ∷ cs) (c ∷ cs) (d ∷ op) && is_in_table (c ∷ cs) ops ≡ true =
          ap (λ z. z || (differs (c ∷ cs) (c ∷ cs) (d ∷ op) && is_in_table (c ∷ cs) ops)) (sym e) ∙ f in
          let p = and_parts (differs (c ∷ cs) (c ∷ cs) (d ∷ op)) _ k in
          let b : begins_op (d ∷ op) ts ≡ false = begins_other (c ∷ cs) c cs d op at ps h g p.0 in
          ap (λ z. is_op_of (c ∷ cs) (or_lone (cond z (Some (d ∷ op)) (first_op ops ts)) ts)) b
          ∙ first_is c cs at ps ops h g p.1
    ]

drop_op : (cs : Text) (at : ℕ) (ps : List Part)
    → (to : ℕ) × (drop (length cs) (tokens_from at (op_parts cs ps)) ≡ tokens_from to ps)
drop_op [] at ps = (at, refl)
drop_op (c ∷ cs) at ps = drop_op cs (at + size [] + size (c ∷ [])) ps

pub op_along : (c : ℕ) (cs : Text) (at : ℕ) (ps : List Part) → is_operator (c ∷ cs) ≡ true
    → next_part (grows (c ∷ cs)) ps ≡ false
    → (to : ℕ) × IsOperator (c ∷ cs) (tokens_from at (op_parts (c ∷ cs) ps)) (tokens_from to ps)
unfolding is_operator op_at
op_along c cs at ps h g =
    let p = and_parts (is_run (c ∷ cs)) _ h in
    let d = drop_op (c ∷ cs) at ps in
    (d.0, (first_is c cs at ps operators p.0 g p.1, d.1))
