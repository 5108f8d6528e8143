-- No piece holds a CR. So no text of a layout does, and what is lexed of it is the text itself.
use Rattle.std.proofs.Common.{◌≡◌, inl, inr, ℕ, List, [], ◌∷◌, Bool, true, false, cond, not, ◌&&◌, ◌||◌, sym, refl, ap, ◌∙◌, subst, Option, Some, None}
use Rattle.std.specs.Prelude.{◌==◌, codes}
use Rattle.std.specs.List.{list_all, list_any}
use Rattle.std.specs.Char.{is_ascii_digit}
use Rattle.std.specs.Str.{encode_utf8_all}
use Rattle.std.proofs.lemmas.Bool.{cases_Bool, and_parts, and_from, or_cases, eqb-true, both_ways, or_parts, not-true}
use Rattle.unicode_ident.proofs.Computing.{unicode_ident}
use lib.Utf8.{scalar, scalars}
use Rattle.lay_piece.specs.Chars.{begins, front, after, behind, is_nil, is_word, is_suffix, is_lone_underscore, starts_word, in_word, in_digits}
use Rattle.lay_piece.specs.Forms.{has_form, after_literal, is_literal_end, is_whole, is_one, is_punct_char, opening, closing, doc_opening, is_line_doc, is_block_doc, after_string, after_char, after_raw}
use Rattle.lay_piece.specs.Number.{base_of, digits_of, in_run, is_run_in, is_int, is_float, is_decimal, is_any_suffix, is_plain_suffix, is_int_suffix, is_exponent_run, is_signed_run, is_exponent, is_exponent_letter, is_sign, is_fraction, is_float_tail, behind_digits}
use Rattle.lay_piece.specs.Quoted as q
use Rattle.lay_piece.specs.Quoted.{InEscape, InString, InChar, InRaw, InBlock, string_step, char_step, raw_step, doc_step, escape_step, is_plain}
use Rattle.lay_piece.specs.Scan.{Next, Go, End, Bad, run}
use Rattle.lay_piece.specs.Word.{is_path_word}
use Rattle.lay_piece.specs.declared.piece.numbers.Base.{Base}
use Rattle.lay_piece.specs.declared.piece.numbers.Base.TheVariants.{Binary, Octal, Decimal, Hexadecimal}
use Rattle.lay_piece.specs.declared.piece.quoted.Contents.{Contents}
use Rattle.lay_piece.specs.declared.piece.quoted.Contents.TheVariants as of
use Rattle.lay_piece.specs.declared.kind.Delim.{Delim}
use Rattle.lay_piece.specs.declared.kind.Delim.TheVariants.{Paren, Bracket, Brace}
use Rattle.lay_piece.specs.declared.kind.Kind.{Kind}
use Rattle.lay_piece.specs.declared.kind.Kind.TheVariants.{Ident, RawIdent, Underscore, Lifetime, Char, Str, RawStr, Byte, ByteStr, RawByteStr, CStr, RawCStr, Int, Float, Punct, Opener, Closer, Doc}
use Rattle.lay_piece.proofs.Characters.{run_in_word, digit_parts}
use Rattle.lay_piece.proofs.Complete.{behind_true}
use Rattle.lay_piece.proofs.Fronts.{front-after, each-front}
use Rattle.lay_piece.proofs.Literals.{starts_in, behind_parts}
use Rattle.lay_piece.proofs.Runs.{run-cons, next}
use Rattle.lay_reparse.proofs.texts.Characters.{is_clean, all_both}

abbrev ok : ℕ → Bool
ok c = not (c == 13)

-- a set of characters without the CR
ok_in : (p : ℕ → Bool) → p 13 ≡ false → (c : ℕ) → p c ≡ true → ok c ≡ true
ok_in p n c h = elim (cases_Bool (c == 13)) [
  | inl e ↦ absurd (both_ways (p 13) n (ap p (sym (eqb-true c 13 e)) ∙ h))
  | inr e ↦ ap not e
]

no_word : in_word 13 ≡ false
unfolding unicode_ident in_word
no_word = refl

ok_word : (c : ℕ) → in_word c ≡ true → ok c ≡ true
ok_word = ok_in in_word no_word

all_ok : (p : ℕ → Bool) → ((c : ℕ) → p c ≡ true → ok c ≡ true) → (x : List ℕ) → list_all p x ≡ true
    → list_all ok x ≡ true
all_ok p f [] h = refl
all_ok p f (c ∷ x) h = let a = and_parts (p c) _ h in and_from (ok c) _ (f c a.0) (all_ok p f x a.1)

after_ok : (p : ℕ → Bool) → ((c : ℕ) → p c ≡ true → ok c ≡ true) → (x : List ℕ) → list_all ok (after p x) ≡ true
    → list_all ok x ≡ true
after_ok p f x h =
    subst (λ z. list_all ok z ≡ true) (sym (front-after p x))
    (all_both ok (front p x) (after p x) (all_ok p f (front p x) (each-front p x)) h)

-- ---- words and numbers

word_ok : (x : List ℕ) → is_word x ≡ true → list_all ok x ≡ true
word_ok [] h = refl
word_ok (c ∷ x) h =
    let a = and_parts (starts_word c) _ h in
    and_from (ok c) _ (ok_word c (starts_in c a.0)) (all_ok in_word ok_word x a.1)

suffix_ok : (x : List ℕ) → is_suffix x ≡ true → list_all ok x ≡ true
suffix_ok x h = word_ok x (and_parts (is_word x) _ h).0

any_suffix_ok : (x : List ℕ) → is_any_suffix x ≡ true → list_all ok x ≡ true
any_suffix_ok [] h = refl
any_suffix_ok (c ∷ x) h = suffix_ok (c ∷ x) h

plain_suffix_ok : (x : List ℕ) → is_plain_suffix x ≡ true → list_all ok x ≡ true
plain_suffix_ok [] h = refl
plain_suffix_ok (c ∷ x) h = suffix_ok (c ∷ x) (and_parts (is_suffix (c ∷ x)) _ h).0

int_suffix_ok : (b : Base) (x : List ℕ) → is_int_suffix b x ≡ true → list_all ok x ≡ true
int_suffix_ok Hexadecimal x h = any_suffix_ok x h
int_suffix_ok _ x h = plain_suffix_ok x h

run_ok : (b : Base) (c : ℕ) → in_run b c ≡ true → ok c ≡ true
run_ok b c h = ok_word c (run_in_word b c h)

digits_ok : (c : ℕ) → in_digits c ≡ true → ok c ≡ true
digits_ok = run_ok Decimal

-- the two characters that name a base
prefix_ok : (b : Base) (x : List ℕ) → base_of x ≡ b → begins is_ascii_digit x ≡ true
    → list_all ok (digits_of b x) ≡ true → list_all ok x ≡ true
prefix_ok b [] e d h = refl
prefix_ok Decimal (c ∷ x) e d h = h
prefix_ok b (c ∷ []) e d h = and_from (ok c) true (digits_ok c (digit_parts c d).2) refl
prefix_ok b (c ∷ x ∷ y) e d h = and_from (ok c) _ (digits_ok c (digit_parts c d).2) (second b e h)
  where
    by_x : (b : Base) → is_decimal b ≡ false → base_of (c ∷ x ∷ y) ≡ b → list_all ok y ≡ true
        → ok x && list_all ok y ≡ true
    by_x b n e h = elim (cases_Bool (x == 13)) [
      | inl k ↦
          let z : base_of (c ∷ 13 ∷ y) ≡ b = subst (λ v. base_of (c ∷ v ∷ y) ≡ b) (eqb-true x 13 k) e in
          absurd (both_ways (is_decimal b) n (ap is_decimal (sym z) ∙ same (48 == c)))
      | inr k ↦ and_from (ok x) _ (ap not k) h
    ]
      where
        same : (t : Bool) → is_decimal (cond t Decimal Decimal) ≡ true
        same true = refl
        same false = refl

    second : (b : Base) → base_of (c ∷ x ∷ y) ≡ b → list_all ok (digits_of b (c ∷ x ∷ y)) ≡ true
        → ok x && list_all ok y ≡ true
    second Decimal e h = (and_parts (ok c) _ h).1
    second Binary e h = by_x Binary refl e h
    second Octal e h = by_x Octal refl e h
    second Hexadecimal e h = by_x Hexadecimal refl e h

int_ok : (x : List ℕ) → is_int x ≡ true → list_all ok x ≡ true
int_ok x h =
    let b = base_of x in
    let a = and_parts (begins is_ascii_digit x && is_run_in b (front (in_run b) (digits_of b x))) _ h in
    prefix_ok b x refl (and_parts (begins is_ascii_digit x) _ a.0).0
    (after_ok (in_run b) (run_ok b) (digits_of b x) (int_suffix_ok b (behind_digits x) a.1))

exponent_run_ok : (x : List ℕ) → is_exponent_run x ≡ true → list_all ok x ≡ true
exponent_run_ok x h = after_ok in_digits digits_ok x
    (any_suffix_ok (after in_digits x) (and_parts (is_run_in Decimal (front in_digits x)) _ h).1)

signed_ok : (x : List ℕ) → is_signed_run x ≡ true → list_all ok x ≡ true
signed_ok [] h = refl
signed_ok (c ∷ x) h = by_case (is_sign c) refl h
  where
    by_case : (b : Bool) → is_sign c ≡ b → cond b (is_exponent_run x) (is_exponent_run (c ∷ x)) ≡ true
        → list_all ok (c ∷ x) ≡ true
    by_case true e h = and_from (ok c) _ (ok_in is_sign refl c e) (exponent_run_ok x h)
    by_case false e h = exponent_run_ok (c ∷ x) h

exponent_ok : (x : List ℕ) → is_exponent x ≡ true → list_all ok x ≡ true
exponent_ok [] h = refl
exponent_ok (c ∷ x) h =
    let a = and_parts (is_exponent_letter c) _ h in
    and_from (ok c) _ (ok_in is_exponent_letter refl c a.0) (signed_ok x a.1)

fraction_ok : (x : List ℕ) → is_fraction x ≡ true → list_all ok x ≡ true
fraction_ok x h = after_ok in_digits digits_ok x (elim (or_cases _ _ (and_parts (begins is_ascii_digit x) _ h).1) [
  | inl e ↦ plain_suffix_ok (after in_digits x) e
  | inr e ↦ exponent_ok (after in_digits x) e
])

tail_ok : (x : List ℕ) → is_float_tail x ≡ true → list_all ok x ≡ true
tail_ok [] h = refl
tail_ok (c ∷ x) h = by_case (c == 46) refl h
  where
    point : (x : List ℕ) → is_nil x || is_fraction x ≡ true → list_all ok x ≡ true
    point [] h = refl
    point (d ∷ x) h = fraction_ok (d ∷ x) h

    by_case : (b : Bool) → c == 46 ≡ b → cond b (is_nil x || is_fraction x) (is_exponent (c ∷ x)) ≡ true
        → list_all ok (c ∷ x) ≡ true
    by_case true e h = and_from (ok c) _ (ok_in (λ d. d == 46) refl c e) (point x h)
    by_case false e h = exponent_ok (c ∷ x) h

float_ok : (x : List ℕ) → is_float x ≡ true → list_all ok x ≡ true
float_ok x h = after_ok in_digits digits_ok x
    (tail_ok (after in_digits x) (and_parts (begins is_ascii_digit x && is_decimal (base_of x)) _ h).1)

-- ---- forms that tell their own end

run_clean : {S : Type 0} (step : S → ℕ → Next S) → ((s : S) → step s 13 ≡ Bad) → (s : S) (cs y : List ℕ)
    → run step s cs ≡ Some y → list_all ok y ≡ true → list_all ok cs ≡ true
run_clean {S = S} step bad s [] y h g = refl
run_clean {S = S} step bad s (c ∷ cs) y h g =
    by (step s c) refl (sym (run-cons step s c cs) ∙ h) (λ t k. run_clean step bad t cs y k g)
  where
    fine : (n : Next S) → step s c ≡ n → (n ≡ Bad → ⊥) → ok c ≡ true
    fine n e f = elim (cases_Bool (c == 13)) [
      | inl k ↦ absurd (f (sym e ∙ ap (step s) (eqb-true c 13 k) ∙ bad s))
      | inr k ↦ ap not k
    ]

    by : (n : Next S) → step s c ≡ n → next step cs n ≡ Some y
        → ((t : S) → run step t cs ≡ Some y → list_all ok cs ≡ true) → list_all ok (c ∷ cs) ≡ true
    by (Go t) e h r = and_from (ok c) _ (fine (Go t) e (λ k. cc)) (r t h)
    by End e h r = let same : cs ≡ y = cc in and_from (ok c) _ (fine End e (λ k. cc)) (ap (list_all ok) same ∙ g)
    by Bad e h r = cc

either_bad : {S : Type 0} (b : Bool) → cond b Bad Bad ≡ (let x : Next S = Bad in x)
either_bad true = refl
either_bad false = refl

escape_bad : (y : Contents) (e : InEscape) → escape_step y e 13 ≡ Bad
unfolding escape_step
escape_bad of.Chars q.Backslash = refl
escape_bad of.Bytes q.Backslash = refl
escape_bad of.CChars q.Backslash = refl
escape_bad y q.Hex = refl
escape_bad y (q.HexTwo h) = refl
escape_bad y q.Open = refl
escape_bad y (q.Digits n v) = either_bad (n == 0)

plain_bad : (y : Contents) → is_plain y 13 ≡ false
plain_bad of.Chars = refl
plain_bad of.Bytes = refl
plain_bad of.CChars = refl

string_bad : (y : Contents) (s : InString) → string_step y s 13 ≡ Bad
unfolding string_step
string_bad y q.Plain = ap (λ b. cond b (Go q.Plain) Bad) (plain_bad y)
string_bad y q.Turned = ap q.in_string (escape_bad y q.Backslash)
string_bad y (q.Escape e) = ap q.in_string (escape_bad y e)
string_bad y q.Skip = ap (λ b. cond b (Go q.Plain) Bad) (plain_bad y)

char_bad : (y : Contents) (s : InChar) → char_step y s 13 ≡ Bad
unfolding char_step
char_bad y q.First = ap (λ b. cond (b && not (13 == 39 || 13 == 10 || 13 == 9)) (Go q.Last) Bad) (plain_bad y)
char_bad y (q.CharEscape e) = ap q.in_char (escape_bad y e)
char_bad y q.Last = refl

raw_bad : (y : Contents) (s : InRaw) → raw_step y s 13 ≡ Bad
unfolding raw_step
raw_bad y (q.Hashes n) = refl
raw_bad y (q.Inside n) = ap (λ b. cond b (Go (q.Inside n)) Bad) (plain_bad y)
raw_bad y (q.Closing n k) = ap (λ b. cond b (Go (q.Inside n)) Bad) (plain_bad y)

doc_bad : (s : InBlock) → doc_step s 13 ≡ Bad
unfolding doc_step
doc_bad s = refl

after_ok_by : (pre : List ℕ) (f : List ℕ → Option (List ℕ)) (cs y : List ℕ) → list_all ok pre ≡ true
    → ((ds : List ℕ) → f ds ≡ Some y → list_all ok ds ≡ true) → behind None pre f cs ≡ Some y → list_all ok cs ≡ true
after_ok_by pre f cs y p k h =
    let b = behind_parts pre f cs y h in
    subst (λ z. list_all ok z ≡ true) (sym b.1) (all_both ok pre b.0 p (k b.0 b.2))

literal_ok : (k : Kind) (cs y : List ℕ) → after_literal k cs ≡ Some y → list_all ok y ≡ true → list_all ok cs ≡ true
unfolding after_literal
literal_ok Char cs y h g = after_ok_by (codes "'") (after_char of.Chars) cs y refl
    (λ ds e. run_clean (char_step of.Chars) (char_bad of.Chars) q.First ds y e g) h
literal_ok Str cs y h g = after_ok_by (codes "\"") (after_string of.Chars) cs y refl
    (λ ds e. run_clean (string_step of.Chars) (string_bad of.Chars) q.Plain ds y e g) h
literal_ok RawStr cs y h g = after_ok_by (codes "r") (after_raw of.Chars) cs y refl
    (λ ds e. run_clean (raw_step of.Chars) (raw_bad of.Chars) (q.Hashes 0) ds y e g) h
literal_ok Byte cs y h g = after_ok_by (codes "b'") (after_char of.Bytes) cs y refl
    (λ ds e. run_clean (char_step of.Bytes) (char_bad of.Bytes) q.First ds y e g) h
literal_ok ByteStr cs y h g = after_ok_by (codes "b\"") (after_string of.Bytes) cs y refl
    (λ ds e. run_clean (string_step of.Bytes) (string_bad of.Bytes) q.Plain ds y e g) h
literal_ok RawByteStr cs y h g = after_ok_by (codes "br") (after_raw of.Bytes) cs y refl
    (λ ds e. run_clean (raw_step of.Bytes) (raw_bad of.Bytes) (q.Hashes 0) ds y e g) h
literal_ok CStr cs y h g = after_ok_by (codes "c\"") (after_string of.CChars) cs y refl
    (λ ds e. run_clean (string_step of.CChars) (string_bad of.CChars) q.Plain ds y e g) h
literal_ok RawCStr cs y h g = after_ok_by (codes "cr") (after_raw of.CChars) cs y refl
    (λ ds e. run_clean (raw_step of.CChars) (raw_bad of.CChars) (q.Hashes 0) ds y e g) h
literal_ok _ cs y h g = cc

literal_end_ok : (k : Kind) (cs : List ℕ) → is_literal_end (after_literal k cs) ≡ true → list_all ok cs ≡ true
literal_end_ok k cs h = by (after_literal k cs) refl h
  where
    ends : (y : List ℕ) → is_nil y || is_suffix y ≡ true → list_all ok y ≡ true
    ends [] h = refl
    ends (c ∷ y) h = suffix_ok (c ∷ y) h

    by : (o : Option (List ℕ)) → after_literal k cs ≡ o → is_literal_end o ≡ true → list_all ok cs ≡ true
    by None e h = cc
    by (Some y) e h = literal_ok k cs y e (ends y h)

-- ---- the others

one_ok : (p : ℕ → Bool) → p 13 ≡ false → (x : List ℕ) → is_one p x ≡ true → list_all ok x ≡ true
one_ok p n [] h = refl
one_ok p n (c ∷ []) h = and_from (ok c) true (ok_in p n c (and_parts (p c) _ h).0) refl
one_ok p n (c ∷ d ∷ x) h = let e = (and_parts (p c) false h).1 in cc

opening_ok : (d : Delim) → 13 == opening d ≡ false
opening_ok Paren = refl
opening_ok Bracket = refl
opening_ok Brace = refl

closing_ok : (d : Delim) → 13 == closing d ≡ false
closing_ok Paren = refl
closing_ok Bracket = refl
closing_ok Brace = refl

line_ok : (x : List ℕ) → list_any (λ c. c == 10 || c == 13) x ≡ false → list_all ok x ≡ true
line_ok [] h = refl
line_ok (c ∷ x) h =
    let a = or_parts (c == 10 || c == 13) _ h in
    and_from (ok c) _ (ap not (or_parts (c == 10) (c == 13) a.0).1) (line_ok x a.1)

doc_ok : (inner block : Bool) (x : List ℕ) → cond block (is_block_doc inner) (is_line_doc inner) x ≡ true
    → list_all ok x ≡ true
doc_ok inner false x h = line_ok x (not-true _ (and_parts (inner || not (begins (λ c. c == 47) x)) _ h).1)
doc_ok inner true x h = by (run doc_step (q.Deep 0) x) refl
    (and_parts (inner || not (begins (λ c. c == 42 || c == 47) x)) _ h).1
  where
    by : (o : Option (List ℕ)) → run doc_step (q.Deep 0) x ≡ o → is_whole o ≡ true → list_all ok x ≡ true
    by None e h = cc
    by (Some []) e h = run_clean doc_step doc_bad (q.Deep 0) x [] e refl
    by (Some (c ∷ y)) e h = cc

doc_opening_ok : (inner block : Bool) → list_all ok (doc_opening inner block) ≡ true
doc_opening_ok true true = refl
doc_opening_ok true false = refl
doc_opening_ok false true = refl
doc_opening_ok false false = refl

behind_ok : (pre : List ℕ) (f : List ℕ → Bool) (cs : List ℕ) → list_all ok pre ≡ true
    → ((ds : List ℕ) → f ds ≡ true → list_all ok ds ≡ true)
    → behind false pre f cs ≡ true → list_all ok cs ≡ true
behind_ok pre f cs p k h =
    let b = behind_true pre f cs h in
    subst (λ z. list_all ok z ≡ true) (sym b.1) (all_both ok pre b.0 p (k b.0 b.2))

form_ok : (k : Kind) (x : List ℕ) → has_form k x ≡ true → list_all ok x ≡ true
unfolding has_form
form_ok Ident x h = word_ok x (and_parts (is_word x) _ h).0
form_ok RawIdent x h = behind_ok (codes "r#") _ x refl
    (λ ds e. suffix_ok ds (and_parts (is_suffix ds) (not (is_path_word (encode_utf8_all ds))) e).0) h
form_ok Underscore x h = one_ok (λ c. c == 95) refl x (lone x h)
  where
    lone : (x : List ℕ) → is_lone_underscore x ≡ true → is_one (λ c. c == 95) x ≡ true
    lone [] h = h
    lone (c ∷ x) h = h
form_ok Lifetime x h = behind_ok (codes "'") is_word x refl word_ok h
form_ok Int x h = int_ok x h
form_ok Float x h = float_ok x h
form_ok Punct x h = one_ok is_punct_char refl x h
form_ok (Opener d) x h = one_ok (λ c. c == opening d) (opening_ok d) x h
form_ok (Closer d) x h = one_ok (λ c. c == closing d) (closing_ok d) x h
form_ok (Doc inner block) x h = behind_ok (doc_opening inner block) _ x (doc_opening_ok inner block)
    (doc_ok inner block) h
form_ok k x h = literal_end_ok k x h

ok_clean : (x : List ℕ) → scalars x ≡ true → list_all ok x ≡ true → is_clean x ≡ true
ok_clean [] h g = refl
ok_clean (c ∷ x) h g =
    let a = and_parts (scalar c) _ h in
    let b = and_parts (ok c) _ g in
    and_from (scalar c && not (c == 13)) _ (and_from (scalar c) _ a.0 b.0) (ok_clean x a.1 b.1)

pub form_clean : (k : Kind) (x : List ℕ) → has_form k x ≡ true → scalars x ≡ true → is_clean x ≡ true
form_clean k x h s = ok_clean x s (form_ok k x h)
