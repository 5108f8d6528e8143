-- The last character of a literal.
use Rattle.std.proofs.Common.{◌≡◌, inl, inr, ℕ, ◌+◌, ◌<◌, List, [], ◌∷◌, ◌++◌, length, take, get_or, Bool, true, false, cond, ◌&&◌, ◌||◌, Option, Some, None, sym, refl, ap, ◌∙◌, subst, arith, IsUtf8, length-append}
use Rattle.std.specs.Prelude.{◌==◌, nat_lt}
use Rattle.std.specs.List.{list_all}
use Rattle.std.specs.Str.{chars, encode_utf8_all}
use Rattle.std.proofs.Math.Seq.{get_or-append_seam, take-append_seam}
use Rattle.std.proofs.lemmas.List.{append-nil}
use Rattle.std.proofs.lemmas.Bool.{cases_Bool, and_parts, eqb-true, eq-eqb, ne_eqb, or_from, or_right}
use Rattle.std.proofs.lemmas.Str.{IsUtf8-take, IsCharBoundary-before_ascii, encodes-append, encodes-chars, encode_ascii, encodes_same}
use lib.Utf8.{encode}
use Rattle.lay_piece.specs.Scan.{Next, Go, End, Bad, run}
use Rattle.lay_piece.specs.Quoted.{InEscape, Backslash, InString, Plain, Turned, Escape, Skip, string_step, plain_step, in_string, escape_step, is_skipped, is_plain, InRaw, Hashes, Inside, Closing, raw_step, inside_step}
use Rattle.lay_piece.specs.Chars.{starts_word, in_word, is_word, is_suffix}
use Rattle.lay_piece.specs.Forms.{after_literal, is_literal_end, is_whole}
use Rattle.lay_piece.specs.declared.kind.Kind.{Kind}
use Rattle.lay_piece.specs.declared.kind.Kind.TheVariants.{Str, RawStr}
use Rattle.lay_piece.specs.declared.piece.quoted.Contents.TheVariants as of
use Rattle.lay_piece.proofs.Complete.{mark_in}
use Rattle.lay_piece.proofs.Literals.{starts_in, literal-split}
use Rattle.lay_piece.proofs.Runs.{next, run-nil, run-cons}
use Rattle.lay_cook.specs.Steps.{ends}

pub record EndsWith (p : ℕ → Bool) (cs : List ℕ) : Type 0 where
  pub front : List ℕ
  pub last : ℕ
  pub whole : cs ≡ front ++ last ∷ []
  pub passes : p last ≡ true

pub ends-cons : (p : ℕ → Bool) (c : ℕ) (cs : List ℕ) → ends p cs ≡ true → ends p (c ∷ cs) ≡ true
ends-cons p c [] h = cc
ends-cons p c (d ∷ ds) h = h

pub ends-append : (p : ℕ → Bool) (x : List ℕ) (d : ℕ) (ds : List ℕ) → ends p (x ++ d ∷ ds) ≡ ends p (d ∷ ds)
ends-append p [] d ds = refl
ends-append p (c ∷ []) d ds = refl
ends-append p (c ∷ e ∷ x) d ds = ends-append p (e ∷ x) d ds

pub ends_with : (p : ℕ → Bool) (cs : List ℕ) → ends p cs ≡ true → EndsWith p cs
ends_with p [] h = cc
ends_with p (c ∷ []) h = record { front = []; last = c; whole = refl; passes = h }
ends_with p (c ∷ d ∷ ds) h = let e = ends_with p (d ∷ ds) h in
    record { front = c ∷ e.front; last = e.last; whole = ap (λ l. c ∷ l) e.whole; passes = e.passes }

pub ends-both : (p q : ℕ → Bool) (cs : List ℕ) → ends (λ c. p c || q c) cs ≡ (ends p cs || ends q cs)
ends-both p q [] = refl
ends-both p q (c ∷ []) = refl
ends-both p q (c ∷ d ∷ ds) = ends-both p q (d ∷ ds)

-- of a text whose characters are of a kind
pub ends_none : (p q : ℕ → Bool) (c : ℕ) (cs : List ℕ) → ((c : ℕ) → q c ≡ true → p c ≡ false) → q c ≡ true
    → list_all q cs ≡ true → ends p (c ∷ cs) ≡ false
ends_none p q c [] h e f = h c e
ends_none p q c (d ∷ ds) h e f = let a = and_parts (q d) (list_all q ds) f in ends_none p q d ds h a.0 a.1

-- a text that ends in an ASCII character, as bytes and as characters
front_utf8 : (bs xs : List ℕ) (c : ℕ) → c < 128 → IsUtf8 bs → bs ≡ xs ++ c ∷ [] → IsUtf8 xs
front_utf8 bs xs c l u e =
    let size : length bs ≡ length xs + 1 = ap length e ∙ length-append xs (c ∷ []) in
    let byte : get_or bs (length xs) 0 ≡ c = ap (λ (b : List ℕ). get_or b (length xs) 0) e ∙ get_or-append_seam xs c [] 0 in
    let cut = IsCharBoundary-before_ascii bs (length xs) (omega arith) (omega arith) in
    subst IsUtf8 (ap (take (length xs)) e ∙ take-append_seam xs (c ∷ [])) (IsUtf8-take bs (length xs) u cut)

pub last_char : (bs xs : List ℕ) (c : ℕ) → c < 128 → IsUtf8 bs → bs ≡ xs ++ c ∷ [] → chars bs ≡ chars xs ++ c ∷ []
last_char bs xs c l u e =
    let ux = front_utf8 bs xs c l u e in
    encodes_same (chars bs) (chars xs ++ c ∷ []) (encodes-chars bs u ∙ e ∙ sym (
    encodes-append (chars xs) (c ∷ []) ∙ ap (λ b. b ++ encode_utf8_all (c ∷ [])) (encodes-chars xs ux)
    ∙ ap (λ b. xs ++ b) (one c l)))
  where
    one : (c : ℕ) → c < 128 → encode_utf8_all (c ∷ []) ≡ c ∷ []
    one c l = append-nil (encode c) ∙ encode_ascii c l

pub last_byte : (bs cs : List ℕ) (c : ℕ) → c < 128 → IsUtf8 bs → chars bs ≡ cs ++ c ∷ []
    → bs ≡ encode_utf8_all cs ++ c ∷ []
last_byte bs cs c l u e =
    sym (encodes-chars bs u) ∙ ap encode_utf8_all e ∙ encodes-append cs (c ∷ [])
    ∙ ap (λ b. encode_utf8_all cs ++ b) (append-nil (encode c) ∙ encode_ascii c l)

-- what a test of the last byte says
pub ends_is : (bs : List ℕ) (c : ℕ) (r : Bool) → c < 128 → IsUtf8 bs → (r ≡ true → (xs : List ℕ) × (bs ≡ xs ++ c ∷ []))
    → ((front : List ℕ) → bs ≡ front ++ c ∷ [] → r ≡ true)
    → r ≡ ends (λ d. d == c) (chars bs)
ends_is bs c r l u there back = elim (cases_Bool r) [
  | inl e ↦
      let x = there e in
      e ∙ sym (ap (ends (λ d. d == c)) (last_char bs x.0 c l u x.1) ∙ ends-append (λ d. d == c) (chars x.0) c []
      ∙ eq-eqb c c refl)
  | inr e ↦ elim (cases_Bool (ends (λ d. d == c) (chars bs))) [
    | inr f ↦ e ∙ sym f
    | inl f ↦
        let w = ends_with (λ d. d == c) (chars bs) f in
        let whole : chars bs ≡ w.front ++ c ∷ [] = w.whole ∙ ap (λ d. w.front ++ d ∷ []) (eqb-true w.last c w.passes) in
        let g = back (encode_utf8_all w.front) (last_byte bs w.front c l u whole) in cc
  ]
]

-- the last character of a form that tells its own end
run_ends : {S : Type 0} (step : S → ℕ → Next S) (p : ℕ → Bool) → ((s : S) (c : ℕ) → step s c ≡ End → p c ≡ true)
    → (s : S) (cs : List ℕ) → run step s cs ≡ Some [] → ends p cs ≡ true
run_ends step p h s [] e = let f = run-nil step s in cc
run_ends {S = S} step p h s (c ∷ cs) e =
    go (step s c) refl (sym (run-cons step s c cs) ∙ e) (λ t. run_ends step p h t cs)
  where
    go : (n : Next S) → step s c ≡ n → next step cs n ≡ Some []
        → ((t : S) → run step t cs ≡ Some [] → ends p cs ≡ true)
        → ends p (c ∷ cs) ≡ true
    go (Go t) f e more = ends-cons p c cs (more t e)
    go End f e more = let g : cs ≡ [] = cc in ap (λ l. ends p (c ∷ l)) g ∙ h s c f
    go Bad f e more = cc

-- after the first character of a literal
pub behind_one : (p c : ℕ) (cs : List ℕ) (f : List ℕ → Option (List ℕ)) → cond (p == c) (f cs) None ≡ Some []
    → f cs ≡ Some []
behind_one p c cs f h = go (p == c) h
  where
    go : (b : Bool) → cond b (f cs) None ≡ Some [] → f cs ≡ Some []
    go true h = h
    go false h = cc

-- a quote or a hash
abbrev pub is_mark : ℕ → Bool
is_mark c = c == 34 || c == 35

plain_end : (c : ℕ) → plain_step of.Chars c ≡ End → is_mark c ≡ true
plain_end c e = go (c == 34) (c == 92) (is_plain of.Chars c) e
  where
    go : (a b d : Bool) → cond a End (cond b (Go Turned) (cond d (Go Plain) Bad)) ≡ End → a || c == 35 ≡ true
    go true b d e = refl
    go false true d e = cc
    go false false true e = cc
    go false false false e = cc

escape_end : (n : Next InEscape) → in_string n ≡ End → ⊥
escape_end (Go t) e = cc
escape_end End e = cc
escape_end Bad e = cc

string_end : (s : InString) (c : ℕ) → string_step of.Chars s c ≡ End → is_mark c ≡ true
unfolding string_step
string_end Plain c e = plain_end c e
string_end Turned c e = go (c == 10) e
  where
    go : (a : Bool) → cond a (Go Skip) (in_string (escape_step of.Chars Backslash c)) ≡ End → is_mark c ≡ true
    go true e = cc
    go false e = absurd (escape_end (escape_step of.Chars Backslash c) e)
string_end (Escape t) c e = absurd (escape_end (escape_step of.Chars t c) e)
string_end Skip c e = go (is_skipped c) e
  where
    go : (a : Bool) → cond a (Go Skip) (plain_step of.Chars c) ≡ End → is_mark c ≡ true
    go true e = cc
    go false e = plain_end c e

inside_end : (n c : ℕ) → inside_step of.Chars n c ≡ End → is_mark c ≡ true
inside_end n c e = go (c == 34) (n == 0) (is_plain of.Chars c) e
  where
    go : (a b d : Bool) → cond a (cond b End (Go (Closing n 0))) (cond d (Go (Inside n)) Bad) ≡ End
        → a || c == 35 ≡ true
    go true b d e = refl
    go false b true e = cc
    go false b false e = cc

raw_end : (s : InRaw) (c : ℕ) → raw_step of.Chars s c ≡ End → is_mark c ≡ true
unfolding raw_step
raw_end (Hashes n) c e = go (c == 35 && nat_lt n 255) (c == 34) e
  where
    go : (a b : Bool) → cond a (Go (Hashes (n + 1))) (cond b (Go (Inside n)) Bad) ≡ End → is_mark c ≡ true
    go true b e = cc
    go false true e = cc
    go false false e = cc
raw_end (Inside n) c e = inside_end n c e
raw_end (Closing n k) c e = elim (cases_Bool (c == 35)) [
  | inl h ↦ or_right (c == 34) (c == 35) h
  | inr h ↦ inside_end n c (sym (rw h refl) ∙ e)
]

-- a suffix ends in no mark
word_mark : (c : ℕ) → in_word c ≡ true → is_mark c ≡ false
word_mark c h = or_from (c == 34) (c == 35) (apart 34 mark_in.1) (apart 35 mark_in.3)
  where
    apart : (d : ℕ) → in_word d ≡ false → c == d ≡ false
    apart d e = ne_eqb c d (λ f. let g : in_word c ≡ in_word d = ap in_word f in let k : true ≡ false = sym h ∙ g ∙ e in cc)

suffix_mark : (y : List ℕ) → is_suffix y ≡ true → ends is_mark y ≡ false
suffix_mark [] h = cc
suffix_mark (c ∷ cs) h =
    let word = and_parts (starts_word c) (list_all in_word cs) (and_parts (is_word (c ∷ cs)) _ h).0 in
    ends_none is_mark in_word c cs word_mark (starts_in c word.0) word.1

pub string_mark : (cs : List ℕ) → after_literal Str cs ≡ Some [] → ends is_mark cs ≡ true
unfolding after_literal
string_mark [] h = cc
string_mark (c ∷ cs) h = ends-cons is_mark c cs (
    run_ends (string_step of.Chars) is_mark string_end Plain cs (behind_one 34 c cs (run (string_step of.Chars) Plain) h))

pub raw_mark : (cs : List ℕ) → after_literal RawStr cs ≡ Some [] → ends is_mark cs ≡ true
unfolding after_literal
raw_mark [] h = cc
raw_mark (c ∷ cs) h = ends-cons is_mark c cs (
    run_ends (raw_step of.Chars) is_mark raw_end (Hashes 0) cs (behind_one 114 c cs (run (raw_step of.Chars) (Hashes 0)) h))

-- A literal has no suffix where it ends in a mark.
pub whole_ends : (k : Kind) (cs : List ℕ) → ((s : List ℕ) → after_literal k s ≡ Some [] → ends is_mark s ≡ true)
    → is_literal_end (after_literal k cs) ≡ true
    → is_whole (after_literal k cs) ≡ ends is_mark cs
whole_ends k cs marks h = go (after_literal k cs) refl h
  where
    go : (o : Option (List ℕ)) → after_literal k cs ≡ o → is_literal_end o ≡ true → is_whole o ≡ ends is_mark cs
    go None e h = cc
    go (Some []) e h = sym (marks cs e)
    go (Some (d ∷ ds)) e h =
        let s = literal-split k cs (d ∷ ds) e in
        sym (ap (ends is_mark) s.1 ∙ ends-append is_mark s.0 d ds ∙ suffix_mark (d ∷ ds) h)
