-- Automata of forms that mark their own end, step by step and part by part.
use Rattle.std.proofs.Common.{◌≡◌, inl, inr, ℕ, zero, suc, ◌+◌, List, [], ◌∷◌, Bool, true, false, cond, ◌&&◌, Option, Some, None, sym, refl, ap, ◌∙◌, arith, add-zero}
use Rattle.std.specs.Prelude.{◌==◌, nat_lt, option_and_then}
use Rattle.std.proofs.lemmas.Bool.{cases_Bool, eqb-true, eqb-false, ne_eqb, eq-eqb, lt-ltb, le-ltb, and_left, and_right}
use Rattle.lay_piece.specs.Chars.{begins, after}
use Rattle.lay_piece.specs.Scan.{Next, Go, End, Bad, run}
use Rattle.lay_piece.specs.Quoted.{InEscape, escape_step, Plain, Escape, Skip, string_step, plain_step, in_string, is_skipped, CharEscape, Last, char_step, in_char, Hashes, Inside, Closing, raw_step, inside_step, InBlock, Deep, Star, Slash, block_step, doc_step}
use Rattle.lay_piece.specs.Found.{hashes, behind_hashes}
use Rattle.lay_piece.specs.declared.piece.quoted.Contents.{Contents}

-- what follows the form, after a character that does this to its state
abbrev pub next : {S : Type 0} → (S → ℕ → Next S) → List ℕ → Next S → Option (List ℕ)
next step cs (Go t) = run step t cs
next step cs End = Some cs
next step cs Bad = None

pub run-nil : {S : Type 0} (step : S → ℕ → Next S) (s : S) → run step s [] ≡ None
unfolding run
run-nil step s = refl

pub run-cons : {S : Type 0} (step : S → ℕ → Next S) (s : S) (c : ℕ) (cs : List ℕ)
    → run step s (c ∷ cs) ≡ next step cs (step s c)
unfolding run
run-cons {S = S} step s c cs = by_step (step s c)
  where
    by_step : (n : Next S) → elim n [ Go t ↦ run step t cs | End ↦ Some cs | Bad ↦ None ] ≡ next step cs n
    by_step (Go t) = refl
    by_step End = refl
    by_step Bad = refl

pub run-step : {S : Type 0} (step : S → ℕ → Next S) (s : S) (c : ℕ) (cs : List ℕ) (n : Next S) → step s c ≡ n
    → run step s (c ∷ cs) ≡ next step cs n
run-step step s c cs n e = run-cons step s c cs ∙ ap (next step cs) e

-- two states that do the same at the first character
pub run-same : {S : Type 0} (step : S → ℕ → Next S) (s t : S) (c : ℕ) (cs : List ℕ) → step s c ≡ step t c
    → run step s (c ∷ cs) ≡ run step t (c ∷ cs)
run-same step s t c cs e = run-step step s c cs (step t c) e ∙ sym (run-cons step t c cs)

-- an escape in a string
pub string_escape : (y : Contents) (cs : List ℕ) (e : InEscape)
    → run (string_step y) (Escape e) cs ≡ option_and_then (run (string_step y) Plain) (run (escape_step y) e cs)
unfolding run string_step
string_escape y [] e = refl
string_escape y (c ∷ cs) e = by_step (escape_step y e c) (λ t. string_escape y cs t)
  where
    by_step : (n : Next InEscape)
        → ((t : InEscape) → run (string_step y) (Escape t) cs ≡ option_and_then (run (string_step y) Plain)
        (run (escape_step y) t cs))
        → elim (in_string n) [ Go t ↦ run (string_step y) t cs | End ↦ Some cs | Bad ↦ None ]
        ≡ option_and_then (run (string_step y) Plain)
        (elim n [ Go t ↦ run (escape_step y) t cs | End ↦ Some cs | Bad ↦ None ])
    by_step (Go t) h = h t
    by_step End h = refl
    by_step Bad h = refl

-- an escape in a character
pub char_escape : (y : Contents) (cs : List ℕ) (e : InEscape)
    → run (char_step y) (CharEscape e) cs ≡ option_and_then (run (char_step y) Last) (run (escape_step y) e cs)
unfolding run char_step
char_escape y [] e = refl
char_escape y (c ∷ cs) e = by_step (escape_step y e c) (λ t. char_escape y cs t)
  where
    by_step : (n : Next InEscape)
        → ((t : InEscape) → run (char_step y) (CharEscape t) cs ≡ option_and_then (run (char_step y) Last)
        (run (escape_step y) t cs))
        → elim (in_char n) [ Go t ↦ run (char_step y) t cs | End ↦ Some cs | Bad ↦ None ]
        ≡ option_and_then (run (char_step y) Last)
        (elim n [ Go t ↦ run (escape_step y) t cs | End ↦ Some cs | Bad ↦ None ])
    by_step (Go t) h = h t
    by_step End h = refl
    by_step Bad h = refl

-- what a backslash before an LF skips
skip_step : (y : Contents) (c : ℕ) (b : Bool) → is_skipped c ≡ b
    → string_step y Skip c ≡ cond b (Go Skip) (plain_step y c)
unfolding string_step
skip_step y c b e = rw e refl

plain_is : (y : Contents) (c : ℕ) → string_step y Plain c ≡ plain_step y c
unfolding string_step
plain_is y c = refl

pub string_skip : (y : Contents) (cs : List ℕ)
    → run (string_step y) Skip cs ≡ run (string_step y) Plain (after is_skipped cs)
string_skip y [] = run-nil (string_step y) Skip ∙ sym (run-nil (string_step y) Plain)
string_skip y (c ∷ cs) = elim (cases_Bool (is_skipped c)) [
  | inl e ↦ run-step (string_step y) Skip c cs (Go Skip) (skip_step y c true e) ∙ string_skip y cs ∙ sym (rw e refl)
  | inr e ↦ run-same (string_step y) Skip Plain c cs (skip_step y c false e ∙ sym (plain_is y c)) ∙ sym (rw e refl)
]

-- the hashes that open a raw string, and its quote
abbrev pub opened : Contents → ℕ → List ℕ → Option (List ℕ)
opened y n [] = None
opened y n (c ∷ cs) = cond (c == 34) (run (raw_step y) (Inside n) cs) None

quote_step : (y : Contents) (n c : ℕ) → c == 35 && nat_lt n 255 ≡ false
    → raw_step y (Hashes n) c ≡ cond (c == 34) (Go (Inside n)) Bad
unfolding raw_step
quote_step y n c e = rw e refl

hash_step : (y : Contents) (n c : ℕ) → c == 35 ≡ true → nat_lt n 255 ≡ true
    → raw_step y (Hashes n) c ≡ Go (Hashes (n + 1))
unfolding raw_step
hash_step y n c e l = rw (e, l) refl

open_quote : (y : Contents) (n c : ℕ) (cs : List ℕ) → c == 35 && nat_lt n 255 ≡ false
    → run (raw_step y) (Hashes n) (c ∷ cs) ≡ opened y n (c ∷ cs)
open_quote y n c cs e =
    run-step (raw_step y) (Hashes n) c cs (cond (c == 34) (Go (Inside n)) Bad) (quote_step y n c e)
    ∙ by_case (c == 34)
  where
    by_case : (b : Bool) → next (raw_step y) cs (cond b (Go (Inside n)) Bad) ≡ cond b
        (run (raw_step y) (Inside n) cs) None
    by_case true = refl
    by_case false = refl

pub raw-hashes : (y : Contents) (m n : ℕ) (cs : List ℕ) → n + m ≡ 255
    → run (raw_step y) (Hashes n) cs ≡ opened y (n + hashes m cs) (behind_hashes m cs)
raw-hashes y zero n [] e = run-nil (raw_step y) (Hashes n)
raw-hashes y zero n (c ∷ cs) e =
    open_quote y n c cs (and_right (c == 35) (nat_lt n 255) (le-ltb n 255 (omega arith)))
    ∙ ap (λ v. opened y v (c ∷ cs)) (sym (add-zero n))
raw-hashes y (suc m) n [] e = run-nil (raw_step y) (Hashes n)
raw-hashes y (suc m) n (c ∷ cs) e = elim (cases_Bool (c == 35)) [
  | inl h ↦
      let count : n + 1 + hashes m cs ≡ n + suc (hashes m cs) = omega arith in
      let to : opened y (n + hashes (suc m) (c ∷ cs)) (behind_hashes (suc m) (c ∷ cs)) ≡ opened y
      (n + suc (hashes m cs)) (behind_hashes m cs) = rw h refl in
      run-step (raw_step y) (Hashes n) c cs (Go (Hashes (n + 1))) (hash_step y n c h (lt-ltb n 255 (omega arith)))
      ∙ raw-hashes y m (n + 1) cs (omega arith) ∙ ap (λ v. opened y v (behind_hashes m cs)) count ∙ sym to
  | inr h ↦
      let to : opened y (n + hashes (suc m) (c ∷ cs)) (behind_hashes (suc m) (c ∷ cs)) ≡ opened y (n + 0) (c ∷ cs) =
      rw h refl in
      open_quote y n c cs (and_left (c == 35) (nat_lt n 255) h) ∙ ap (λ v. opened y v (c ∷ cs)) (sym (add-zero n))
      ∙ sym to
]

-- the hashes that close a raw string, where this many are still to come
abbrev pub closed : Contents → ℕ → ℕ → List ℕ → Option (List ℕ)
closed y n m cs = cond (hashes m cs == m) (Some (behind_hashes m cs))
    (run (raw_step y) (Inside n) (behind_hashes m cs))

suc_same : (a b : ℕ) → (suc a == suc b) ≡ (a == b)
suc_same a b = elim (cases_Bool (a == b)) [
  | inl e ↦ (let l : suc a ≡ suc b = ap (λ n. suc n) (eqb-true a b e) in eq-eqb (suc a) (suc b) l) ∙ sym e
  | inr e ↦ ne_eqb (suc a) (suc b) (λ l. eqb-false a b e (let k : a ≡ b = omega arith in k)) ∙ sym e
]

not_none : (m : ℕ) → (0 == suc m) ≡ false
not_none m = ne_eqb 0 (suc m) (λ e. absurd (omega arith))

inside_is : (y : Contents) (n c : ℕ) → raw_step y (Inside n) c ≡ inside_step y n c
unfolding raw_step
inside_is y n c = refl

closing_step : (y : Contents) (n k c : ℕ) (b : Bool) → c == 35 ≡ b
    → raw_step y (Closing n k) c ≡ cond b (cond (k + 1 == n) End (Go (Closing n (k + 1)))) (inside_step y n c)
unfolding raw_step
closing_step y n k c b e = rw e refl

pub raw-closing : (y : Contents) (m n k : ℕ) (cs : List ℕ) → k + suc m ≡ n
    → run (raw_step y) (Closing n k) cs ≡ closed y n (suc m) cs
raw-closing y m n k [] e = run-nil (raw_step y) (Closing n k)
    ∙ sym (rw (not_none m) (run-nil (raw_step y) (Inside n)))
raw-closing y m n k (c ∷ cs) e = elim (cases_Bool (c == 35)) [
  | inl h ↦ hash m e (λ p q. raw-closing y p n (k + 1) cs q) h
  | inr h ↦
      let to : closed y n (suc m) (c ∷ cs) ≡ run (raw_step y) (Inside n) (c ∷ cs) = rw (h, not_none m) refl in
      run-same (raw_step y) (Closing n k) (Inside n) c cs (closing_step y n k c false h ∙ sym (inside_is y n c))
      ∙ sym to
]
  where
    hash : (m : ℕ) → k + suc m ≡ n
        → ((p : ℕ) → k + 1 + suc p ≡ n → run (raw_step y) (Closing n (k + 1)) cs ≡ closed y n (suc p) cs)
        → c == 35 ≡ true
        → run (raw_step y) (Closing n k) (c ∷ cs) ≡ closed y n (suc m) (c ∷ cs)
    hash zero e more h =
        let last : (k + 1 == n) ≡ true = eq-eqb (k + 1) n (omega arith) in
        let to : closed y n (suc zero) (c ∷ cs) ≡ Some cs = rw h refl in
        run-step (raw_step y) (Closing n k) c cs End (closing_step y n k c true h ∙ (rw last refl)) ∙ sym to
    hash (suc p) e more h =
        let open_yet : (k + 1 == n) ≡ false = ne_eqb (k + 1) n (λ l. absurd (omega arith)) in
        let to : closed y n (suc (suc p)) (c ∷ cs) ≡ closed y n (suc p) cs =
        rw (h, suc_same (hashes (suc p) cs) (suc p)) refl in
        run-step (raw_step y) (Closing n k) c cs (Go (Closing n (k + 1))) (closing_step y n k c true h
        ∙ (rw open_yet refl)) ∙ more p (omega arith) ∙ sym to

-- a quote in a raw string
quote_within : (y : Contents) (n c : ℕ) → c == 34 ≡ true
    → raw_step y (Inside n) c ≡ cond (n == 0) End (Go (Closing n 0))
unfolding raw_step
quote_within y n c e = rw e refl

pub raw-quote : (y : Contents) (n c : ℕ) (cs : List ℕ) → c == 34 ≡ true
    → run (raw_step y) (Inside n) (c ∷ cs) ≡ closed y n n cs
raw-quote y zero c cs e = run-step (raw_step y) (Inside 0) c cs End (quote_within y 0 c e)
raw-quote y (suc m) c cs e =
    let some : (suc m == 0) ≡ false = ne_eqb (suc m) 0 (λ l. absurd (omega arith)) in
    run-step (raw_step y) (Inside (suc m)) c cs (Go (Closing (suc m) 0)) (quote_within y (suc m) c e
    ∙ (rw some refl)) ∙ raw-closing y m (suc m) 0 cs (omega arith)

-- a star or a slash in a block that goes with nothing
doc_same : (s t : InBlock) (c : ℕ) → block_step s c ≡ block_step t c → doc_step s c ≡ doc_step t c
unfolding doc_step
doc_same s t c e = ap (λ n. cond (c == 13) Bad n) e

star_same : (n c : ℕ) → c == 47 ≡ false → block_step (Star n) c ≡ block_step (Deep n) c
unfolding block_step
star_same n c e = rw e refl

slash_same : (n c : ℕ) → c == 42 ≡ false → block_step (Slash n) c ≡ block_step (Deep n) c
unfolding block_step
slash_same n c e = rw e refl

pub doc-star : (n : ℕ) (cs : List ℕ) → begins (λ c. c == 47) cs ≡ false
    → run doc_step (Star n) cs ≡ run doc_step (Deep n) cs
doc-star n [] h = run-nil doc_step (Star n) ∙ sym (run-nil doc_step (Deep n))
doc-star n (c ∷ cs) h = run-same doc_step (Star n) (Deep n) c cs (doc_same (Star n) (Deep n) c (star_same n c h))

pub doc-slash : (n : ℕ) (cs : List ℕ) → begins (λ c. c == 42) cs ≡ false
    → run doc_step (Slash n) cs ≡ run doc_step (Deep n) cs
doc-slash n [] h = run-nil doc_step (Slash n) ∙ sym (run-nil doc_step (Deep n))
doc-slash n (c ∷ cs) h =
    run-same doc_step (Slash n) (Deep n) c cs (doc_same (Slash n) (Deep n) c (slash_same n c h))

-- a character of a block
pub doc-cr : (n : ℕ) (cs : List ℕ) → run doc_step (Deep n) (13 ∷ cs) ≡ None
unfolding doc_step
doc-cr n cs = run-step doc_step (Deep n) 13 cs Bad refl

pub doc-star_first : (n : ℕ) (cs : List ℕ) → run doc_step (Deep n) (42 ∷ cs) ≡ run doc_step (Star n) cs
unfolding doc_step block_step
doc-star_first n cs = run-step doc_step (Deep n) 42 cs (Go (Star n)) refl

pub doc-slash_first : (n : ℕ) (cs : List ℕ) → run doc_step (Deep n) (47 ∷ cs) ≡ run doc_step (Slash n) cs
unfolding doc_step block_step
doc-slash_first n cs = run-step doc_step (Deep n) 47 cs (Go (Slash n)) refl

pub doc-end : (cs : List ℕ) → run doc_step (Star 0) (47 ∷ cs) ≡ Some cs
unfolding doc_step block_step
doc-end cs = run-step doc_step (Star 0) 47 cs End refl

pub doc-close : (n : ℕ) (cs : List ℕ) → run doc_step (Star (suc n)) (47 ∷ cs) ≡ run doc_step (Deep n) cs
unfolding doc_step block_step
doc-close n cs = run-step doc_step (Star (suc n)) 47 cs (Go (Deep n)) refl

pub doc-open : (n : ℕ) (cs : List ℕ) → run doc_step (Slash n) (42 ∷ cs) ≡ run doc_step (Deep (suc n)) cs
unfolding doc_step block_step
doc-open n cs = run-step doc_step (Slash n) 42 cs (Go (Deep (suc n))) refl

pub doc-other : (n c : ℕ) (cs : List ℕ) → c == 13 ≡ false → c == 42 ≡ false → c == 47 ≡ false
    → run doc_step (Deep n) (c ∷ cs) ≡ run doc_step (Deep n) cs
unfolding doc_step block_step
doc-other n c cs e f g = run-step doc_step (Deep n) c cs (Go (Deep n)) (rw (e, f, g) refl)
