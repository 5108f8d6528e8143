-- What comes next, and the operator there, decided by the first character.
use Rattle.std.proofs.Common.{◌≡◌, ◌⊎◌, inl, inr, ℕ, zero, suc, Bool, true, false, ◌&&◌, ◌||◌, cond, List, [], ◌∷◌, ◌<◌, ◌≤◌, drop, get_or, length, Option, Some, None, refl, sym, ap, ◌∙◌, arith}
use Rattle.std.specs.Prelude.{◌==◌, slice_get, option_and_then}
use Rattle.std.specs.List.{filter, list_all}
use Rattle.std.specs.Str.{bytes_eq}
use Rattle.std.proofs.lemmas.Bool.{cases_Bool, and_parts, eqb-true, false≢true}
use Rattle.lay_piece.specs.Chars.{is_nil}
use Rattle.lay_token.specs.Lexes.{is_punct}
use Rattle.lay_token.specs.Operators.{operators, begins_op, first_op, lone_op, op_at}
use Rattle.lay_token.specs.declared.token.Token.{Token}
use Rattle.lay_node.specs.Ahead.{Tokens, first}
use Rattle.lay_code.specs.Operands.{expr_lead_by, expr_lead_at}
use Rattle.lay_code.specs.Operators.{all_ops, binary, named, op_text}
use Rattle.lay_code.specs.declared.operators.Op.{Op}
use Rattle.lay_ops.specs.Leads.{begins, led_by}

-- What is found at a place is what is at the beginning after as many tokens.
pub first_behind : (p : Token → Bool) (ts : Tokens) (n : ℕ) (t : Token) → Some t ≡ slice_get ts n → p t ≡ first p (drop n ts)
first_behind p [] n t h = absurd (cc)
first_behind p (u ∷ ts) zero t h = let e : t ≡ u = cc in ap p e
first_behind p (u ∷ ts) (suc n) t h = first_behind p ts n t h

-- ---- the operator begins with the first character of the token

-- It is none, or begins with the character.
abbrev Led : ℕ → Option (List ℕ) → Type 0
Led c op = (op ≡ None) ⊎ ((cs : List ℕ) × (op ≡ Some (c ∷ cs)))

abbrev is_some_text : List ℕ → Bool
is_some_text [] = false
is_some_text (c ∷ cs) = true

-- an operator that a token of this text begins
op_led : (op : List ℕ) (t : Token) (ts : Tokens) (c : ℕ) (more : List ℕ) → t.text ≡ c ∷ more → is_some_text op ≡ true
    → begins_op op (t ∷ ts) ≡ true → Led c (Some op)
op_led [] t ts c more e h b = absurd (false≢true h)
op_led (d ∷ ds) t ts c more e h b =
    let p = and_parts (is_punct t.kind && bytes_eq t.text (d ∷ [])) (is_nil ds || (t.joint && begins_op ds ts)) b in
    let q = and_parts (is_punct t.kind) (bytes_eq t.text (d ∷ [])) p.0 in
    let r = rw e at q.1 in
    let s : d ≡ c = sym (eqb-true c d (and_parts (c == d) (bytes_eq more []) r).0) in
    inr (ds, rw s refl)

-- the first of several operators that it begins
first_led : (ops : List (List ℕ)) (t : Token) (ts : Tokens) (c : ℕ) (more : List ℕ) → t.text ≡ c ∷ more
    → list_all is_some_text ops ≡ true → Led c (first_op ops (t ∷ ts))
first_led [] t ts c more e h = inl refl
first_led (op ∷ ops) t ts c more e h =
    let p = and_parts (is_some_text op) (list_all is_some_text ops) h in
    elim (cases_Bool (begins_op op (t ∷ ts))) [
      | inl b ↦ rw b (op_led op t ts c more e p.0 b)
      | inr b ↦ rw b (first_led ops t ts c more e p.1)
    ]

lone_led : (t : Token) (ts : Tokens) (c : ℕ) (more : List ℕ) → t.text ≡ c ∷ more → Led c (lone_op (t ∷ ts))
lone_led t ts c more e = elim (cases_Bool (is_punct t.kind)) [ inl p ↦ rw (p, e) (inr (more, refl)) | inr p ↦ rw p (inl refl) ]

at_led : (t : Token) (ts : Tokens) (c : ℕ) (more : List ℕ) → t.text ≡ c ∷ more → Led c (op_at (t ∷ ts))
unfolding op_at
at_led t ts c more e = elim (first_led operators t ts c more e refl) [
  | inl f ↦ rw f (lone_led t ts c more e)
  | inr f ↦ rw f.1 (inr (f.0, refl))
]

-- ---- no operator

not_begun : (d : ℕ) (ds : List ℕ) (t : Token) (ts : Tokens) → t.text ≡ [] → begins_op (d ∷ ds) (t ∷ ts) ≡ false
not_begun d ds t ts e =
    let f : bytes_eq t.text (d ∷ []) ≡ false = ap (λ text. bytes_eq text (d ∷ [])) e in
    elim (cases_Bool (is_punct t.kind)) [ inl p ↦ rw (p, f) refl | inr p ↦ rw p refl ]

none_begun : (ops : List (List ℕ)) (t : Token) (ts : Tokens) → t.text ≡ [] → list_all is_some_text ops ≡ true
    → first_op ops (t ∷ ts) ≡ None
none_begun [] t ts e h = refl
none_begun ([] ∷ ops) t ts e h = absurd (false≢true h)
none_begun ((d ∷ ds) ∷ ops) t ts e h = rw (not_begun d ds t ts e) (none_begun ops t ts e h)

none_found : (t : Token) (ts : Tokens) → t.text ≡ [] → None ≡ binary (t ∷ ts)
unfolding binary op_at
none_found t ts e =
    let n = none_begun operators t ts e refl in
    elim (cases_Bool (is_punct t.kind)) [ inl p ↦ rw (n, p, e) refl | inr p ↦ rw (n, p) refl ]

-- ---- the operators that begin with it

not_led : (text : List ℕ) (c : ℕ) (cs : List ℕ) → begins c text ≡ false → bytes_eq text (c ∷ cs) ≡ false
not_led [] c cs h = refl
not_led (d ∷ ds) c cs h = rw h refl

named_led : (os : List Op) (c : ℕ) (cs : List ℕ) → named (filter (λ o. begins c (op_text o)) os) (c ∷ cs) ≡ named os (c ∷ cs)
named_led [] c cs = refl
named_led (o ∷ os) c cs = elim (cases_Bool (begins c (op_text o))) [
  | inl b ↦ rw b (ap (λ n. cond (bytes_eq (op_text o) (c ∷ cs)) (Some o) n) (named_led os c cs))
  | inr b ↦ rw (b, not_led (op_text o) c cs b) (named_led os c cs)
]

led_binary : (t : Token) (ts : Tokens) (c : ℕ) (more : List ℕ) → t.text ≡ c ∷ more
    → option_and_then (named (led_by c)) (op_at (t ∷ ts)) ≡ binary (t ∷ ts)
unfolding binary
led_binary t ts c more e = elim (at_led t ts c more e) [ inl f ↦ rw f refl | inr f ↦ rw f.1 (named_led all_ops c f.0) ]

-- ---- the operator at the beginning

-- no token
pub none_ahead : (ts : Tokens) → length ts ≤ 0 → None ≡ binary ts
unfolding binary op_at
none_ahead [] h = refl
none_ahead (t ∷ ts) h = absurd (omega arith)

-- a token without text
pub no_text : (ts : Tokens) (t : Token) (text : List ℕ) → Some t ≡ slice_get ts 0 → text ≡ t.text → length text < 1 → None ≡ binary ts
unfolding binary op_at
no_text [] t text h e l = absurd (cc)
no_text (u ∷ ts) t [] h e l = none_found u ts (let f : t ≡ u = cc in ap (λ (x : Token). x.text) (sym f) ∙ sym e)
no_text (u ∷ ts) t (c ∷ cs) h e l = absurd (omega arith)

-- a token whose text begins with a character
pub by_first : (ts : Tokens) (t : Token) (text : List ℕ) → Some t ≡ slice_get ts 0 → text ≡ t.text → 1 ≤ length text
    → option_and_then (named (led_by (get_or text 0 0))) (op_at ts) ≡ binary ts
by_first [] t text h e l = absurd (cc)
by_first (u ∷ ts) t [] h e l = absurd (omega arith)
by_first (u ∷ ts) t (c ∷ cs) h e l =
    led_binary u ts c cs (let f : t ≡ u = cc in ap (λ (x : Token). x.text) (sym f) ∙ sym e)

-- ---- what begins an expression

-- The token at the beginning tells what the tokens begin.
pub lead_there : (ts : Tokens) (t : Token) → Some t ≡ slice_get ts 0 → expr_lead_by t.kind t.text ts ≡ expr_lead_at ts
unfolding expr_lead_at
lead_there [] t h = absurd (cc)
lead_there (u ∷ ts) t h = let e : t ≡ u = cc in ap (λ (x : Token). expr_lead_by x.kind x.text (u ∷ ts)) e
