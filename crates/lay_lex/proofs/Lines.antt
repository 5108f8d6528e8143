-- The first line of an input, and the source text.
use Rattle.std.proofs.Common.{◌≡◌, ℕ, ◌+◌, ◌-◌, ◌<◌, ◌≤◌, List, [], ◌∷◌, ◌++◌, true, false, cond, Ok, Err, sym, refl, ap, ◌∙◌, subst, arith, length, IsUtf8, append-nil, append_assoc, length-append}
use Rattle.std.specs.Str.{chars, is_utf8, encode_utf8_all, IsCharBoundary}
use Rattle.std.specs.Str.Lossy.{utf8_valid_len}
use Rattle.std.specs.Prelude.{◌==◌}
use Rattle.std.proofs.lemmas.Bool.{false_from_ne_true, eqb-true, not-false, cond_both}
use lib.Utf8.{encode, scalars}
use Rattle.std.proofs.lemmas.Str.{encode_ascii, encodes-append, encodes-chars, IsCharBoundary-at_seam, IsCharBoundary-start, scalars-chars, IsUtf8-from_is_utf8, is_utf8-from_IsUtf8, length-le-encodes}
use Rattle.lay_piece.specs.Chars.{begins, front, after, is_nil}
use Rattle.lay_token.specs.Lexes.{size}
use Rattle.lay_token.specs.Source as definition
use Rattle.lay_token.specs.Source.{folded, is_shebang, is_in_line, line_size, source, source_of, without_mark}
use Rattle.lay_text.specs.declared.refusal.Refusal.TheVariants.{NotUtf8}
use Rattle.lay_piece.proofs.Texts.{text_parts, length_parts}
use Rattle.lay_piece.proofs.Fronts.{front-after, after-stops}
use Rattle.lay_token.proofs.Encoding.{scalars-without_mark, scalars-folded, scalars_parts}
use Rattle.lay_lex.specs.Source.{seen}
use Rattle.lay_lex.specs.declared.source.Source.{Source}

pub size-append : (x y : List ℕ) → size (x ++ y) ≡ size x + size y
size-append x y = ap length (encodes-append x y) ∙ length-append (encode_utf8_all x) (encode_utf8_all y)

-- the characters are the line and what follows it
pub line_parts : (s r : List ℕ) → chars r ≡ after is_in_line (chars s) → chars s ≡ front is_in_line (chars s) ++ chars r
line_parts s r e = front-after is_in_line (chars s) ∙ ap (λ l. front is_in_line (chars s) ++ l) (sym e)

pub line_end : (s r : List ℕ) → IsUtf8 s → IsUtf8 r → chars r ≡ after is_in_line (chars s)
    → IsCharBoundary s (length s - length r)
line_end s r us ur e =
    let ds : List ℕ = front is_in_line (chars s) in
    let seam = IsCharBoundary-at_seam s (encode_utf8_all ds) r (text_parts s r ds us ur (line_parts s r e)) ur in
    let n : length (encode_utf8_all ds) ≡ length s - length r = omega (arith, length_parts s r ds us ur (line_parts s r e)) in
    subst (IsCharBoundary s) n seam

-- the bytes of the LF after the line
abbrev feed : List ℕ → ℕ
feed xs = cond (is_nil xs) 0 1

more_than : (xs : List ℕ) (n m : ℕ) → n ≡ m + size xs → (m < n → feed xs ≡ 1) × (n ≤ m → feed xs ≡ 0)
more_than [] n m e = (λ h. absurd (omega arith), λ h. refl)
more_than (x ∷ xs) n m e = (λ h. refl, λ h. absurd (omega (arith, length-le-encodes (x ∷ xs))))

-- how many bytes the line takes with its LF
pub line_sizes : (s line : List ℕ) → IsUtf8 s → IsUtf8 line → chars line ≡ front is_in_line (chars s)
    → (length line < length s → line_size (chars s) ≡ length line + 1)
    × (length s ≤ length line → line_size (chars s) ≡ length line)
line_sizes s line us ul e =
    let here : size (front is_in_line (chars s)) ≡ length line = ap size (sym e) ∙ ap length (encodes-chars line ul) in
    let whole : length s ≡ length line + size (after is_in_line (chars s)) =
    ap length (sym (encodes-chars s us)) ∙ ap size (front-after is_in_line (chars s))
    ∙ size-append (front is_in_line (chars s)) (after is_in_line (chars s))
    ∙ ap (λ n. n + size (after is_in_line (chars s))) here in
    let both = more_than (after is_in_line (chars s)) (length s) (length line) whole in
    (λ h. omega (arith, here, both.0 h), λ h. omega (arith, here, both.1 h))

pub source-text : (bytes : List ℕ) → IsUtf8 bytes → source bytes ≡ Ok (source_of (folded (without_mark (chars bytes))))
source-text bytes u = let e : is_utf8 bytes ≡ true = is_utf8-from_IsUtf8 bytes u in rw e refl

pub source-no_text : (bytes : List ℕ) (at : ℕ) → (IsUtf8 bytes → ⊥) → at ≡ utf8_valid_len bytes
    → source bytes ≡ Err (NotUtf8 at)
source-no_text bytes at n l =
    let e : is_utf8 bytes ≡ false = false_from_ne_true (is_utf8 bytes) (λ h. n (IsUtf8-from_is_utf8 bytes h)) in
    rw (e, l) refl

-- A text may be cut where its first line ends, and after the LF there.
border : (ds more : List ℕ) → scalars more ≡ true → IsCharBoundary (encode_utf8_all (ds ++ more)) (size ds)
border ds more h =
    IsCharBoundary-at_seam (encode_utf8_all (ds ++ more)) (encode_utf8_all ds) (encode_utf8_all more) (encodes-append ds more)
    (more, (h, refl))

in_line : (c : ℕ) (cs ds : List ℕ) → after is_in_line ds ≡ c ∷ cs → c ≡ 10
in_line c cs ds e =
    let stops : begins is_in_line (c ∷ cs) ≡ false = ap (begins is_in_line) (sym e) ∙ after-stops is_in_line ds in
    eqb-true c 10 (not-false (c == 10) stops)

line_border : (ds xs ys : List ℕ) → scalars ds ≡ true → ds ≡ xs ++ ys → ((c : ℕ) (cs : List ℕ) → ys ≡ c ∷ cs → c ≡ 10)
    → IsCharBoundary (encode_utf8_all ds) (size xs + feed ys)
line_border ds xs [] h e n =
    let at : size xs ≡ size xs + feed [] = omega arith in
    let P : List ℕ → Type 0 = λ l. IsCharBoundary (encode_utf8_all l) (size xs) in
    subst (IsCharBoundary (encode_utf8_all ds)) at (subst P (sym e) (border xs [] refl))
line_border ds xs (c ∷ cs) h e n =
    let whole : ds ≡ (xs ++ c ∷ []) ++ cs = e ∙ sym (append_assoc xs (c ∷ []) cs) in
    let one : size (c ∷ []) ≡ 1 = ap (λ d. size (d ∷ [])) (n c cs refl)
    ∙ ap length (append-nil (encode 10) ∙ encode_ascii 10 (omega arith)) in
    let at : size (xs ++ c ∷ []) ≡ size xs + feed (c ∷ cs) = omega (arith, size-append xs (c ∷ []), one) in
    let rest = (scalars_parts (xs ++ c ∷ []) cs (sym (ap scalars whole) ∙ h)).1 in
    let P : List ℕ → Type 0 = λ l. IsCharBoundary (encode_utf8_all l) (size (xs ++ c ∷ [])) in
    subst (IsCharBoundary (encode_utf8_all ds)) at (subst P (sym whole) (border (xs ++ c ∷ []) cs rest))

pub ready : (ds : List ℕ) → scalars ds ≡ true
    → IsUtf8 (source_of ds).text × IsCharBoundary (source_of ds).text (source_of ds).start
ready ds h =
    let u : IsUtf8 (encode_utf8_all ds) = (ds, (h, refl)) in
    let P : ℕ → Type 0 = IsCharBoundary (encode_utf8_all ds) in (
      u,
      cond_both (is_shebang (front is_in_line ds)) (line_size ds) 0 P
          (λ e. line_border ds (front is_in_line ds) (after is_in_line ds) h (front-after is_in_line ds) (λ c cs w. in_line c cs ds w))
          (λ e. IsCharBoundary-start (encode_utf8_all ds) u),
    )

pub ready_source : (bytes : List ℕ) (s : Source) → IsUtf8 bytes → seen s ≡ source_of (folded (without_mark (chars bytes)))
    → IsUtf8 s.text × IsCharBoundary s.text s.start
ready_source bytes s u e =
    let fine = scalars-folded (without_mark (chars bytes)) (scalars-without_mark (chars bytes) (scalars-chars bytes u)) in
    let P : definition.Source → Type 0 = λ v. IsUtf8 v.text × IsCharBoundary v.text v.start in
    subst P (sym e) (ready (folded (without_mark (chars bytes))) fine)
