-- The counts of a text, and of the text with one more byte.
use Rattle.std.proofs.Common.{◌≡◌, ℕ, ◌+◌, ◌<◌, max, Bool, true, false, cond, List, [], ◌∷◌, ◌++◌, length, map, fold, refl, ap, ◌∙◌, arith, length-append}
use Rattle.std.proofs.lemmas.Bool.Decides.{nat_tests}
use Rattle.std.proofs.lemmas.List.Splits.{length-slice_split}
use Rattle.std.proofs.lemmas.List.Sums.{sum_by-append}
use Rattle.std.specs.List.{onto_first}
use Rattle.lay_sample.specs.counting.Counting.{is_line_feed, lines_of, split_lines, greatest_length, last_of, longest_line, last_line}

line_feed : (byte : ℕ) → byte ≡ 10 → is_line_feed byte ≡ true
line_feed byte e = grind (arith, nat_tests)

no_line_feed : (byte : ℕ) → (byte ≡ 10 → ⊥) → is_line_feed byte ≡ false
no_line_feed byte n = grind (arith, nat_tests)

some_line : (text : List ℕ) → 0 < length (split_lines text)
some_line text = omega (arith, length-slice_split is_line_feed text)

-- a byte before lines, whether it is an LF or not
abbrev put_before : Bool → ℕ → List (List ℕ) → List (List ℕ)
put_before ends byte lines = cond ends ([] ∷ lines) (onto_first byte lines)

-- a byte at the end of the last line
abbrev onto_last : ℕ → List (List ℕ) → List (List ℕ)
onto_last byte [] = (byte ∷ []) ∷ []
onto_last byte (line ∷ []) = (line ++ byte ∷ []) ∷ []
onto_last byte (line ∷ next ∷ more) = line ∷ onto_last byte (next ∷ more)

put_before-append : (ends : Bool) (byte : ℕ) (lines more : List (List ℕ)) → 0 < length lines
    → put_before ends byte (lines ++ more) ≡ put_before ends byte lines ++ more
put_before-append ends byte [] more h = let never : ⊥ = omega arith in absurd never
put_before-append true byte (line ∷ lines) more h = refl
put_before-append false byte (line ∷ lines) more h = refl

put_before-onto_last : (ends : Bool) (first byte : ℕ) (lines : List (List ℕ)) → 0 < length lines
    → put_before ends first (onto_last byte lines) ≡ onto_last byte (put_before ends first lines)
put_before-onto_last ends first byte [] h = let never : ⊥ = omega arith in absurd never
put_before-onto_last true first byte (line ∷ []) h = refl
put_before-onto_last false first byte (line ∷ []) h = refl
put_before-onto_last true first byte (line ∷ next ∷ more) h = refl
put_before-onto_last false first byte (line ∷ next ∷ more) h = refl

-- An LF begins an empty line.
split-line_feed : (text : List ℕ) (byte : ℕ) → is_line_feed byte ≡ true
    → split_lines (text ++ byte ∷ []) ≡ split_lines text ++ [] ∷ []
split-line_feed [] byte e = ap (λ ends. put_before ends byte ([] ∷ [])) e
split-line_feed (first ∷ text) byte e =
    ap (λ lines. put_before (is_line_feed first) first lines) (split-line_feed text byte e)
    ∙ put_before-append (is_line_feed first) first (split_lines text) ([] ∷ []) (some_line text)

-- Another byte stands at the end of the last line.
split-other : (text : List ℕ) (byte : ℕ) → is_line_feed byte ≡ false
    → split_lines (text ++ byte ∷ []) ≡ onto_last byte (split_lines text)
split-other [] byte e = ap (λ ends. put_before ends byte ([] ∷ [])) e
split-other (first ∷ text) byte e =
    ap (λ lines. put_before (is_line_feed first) first lines) (split-other text byte e)
    ∙ put_before-onto_last (is_line_feed first) first byte (split_lines text) (some_line text)

greatest-empty_line : (so_far : ℕ) (lines : List (List ℕ))
    → fold max so_far (map length (lines ++ [] ∷ [])) ≡ fold max so_far (map length lines)
greatest-empty_line so_far [] = omega arith
greatest-empty_line so_far (line ∷ lines) = greatest-empty_line (max so_far (length line)) lines

greatest-onto_last : (so_far byte : ℕ) (lines : List (List ℕ))
    → fold max so_far (map length (onto_last byte lines)) ≡ max (fold max so_far (map length lines)) (length (last_of lines) + 1)
greatest-onto_last so_far byte [] = omega arith
greatest-onto_last so_far byte (line ∷ []) = omega (arith, length-append line (byte ∷ []))
greatest-onto_last so_far byte (line ∷ next ∷ more) = greatest-onto_last (max so_far (length line)) byte (next ∷ more)

last-empty_line : (lines : List (List ℕ)) → last_of (lines ++ [] ∷ []) ≡ []
last-empty_line [] = refl
last-empty_line (line ∷ []) = refl
last-empty_line (line ∷ next ∷ more) = last-empty_line (next ∷ more)

length-last-onto_last : (byte : ℕ) (lines : List (List ℕ)) → length (last_of (onto_last byte lines)) ≡ length (last_of lines) + 1
length-last-onto_last byte [] = refl
length-last-onto_last byte (line ∷ []) = length-append line (byte ∷ [])
length-last-onto_last byte (line ∷ next ∷ []) = length-append next (byte ∷ [])
length-last-onto_last byte (line ∷ next ∷ third ∷ more) = length-last-onto_last byte (next ∷ third ∷ more)

pub lines-line_feed : (text : List ℕ) (byte : ℕ) → byte ≡ 10 → lines_of (text ++ byte ∷ []) ≡ lines_of text + 1
lines-line_feed text byte e =
    let one : lines_of (byte ∷ []) ≡ 1 = rw (line_feed byte e) refl in
    omega (arith, one, sum_by-append (λ b. cond (is_line_feed b) 1 0) text (byte ∷ []))

pub lines-other : (text : List ℕ) (byte : ℕ) → (byte ≡ 10 → ⊥) → lines_of (text ++ byte ∷ []) ≡ lines_of text
lines-other text byte n =
    let none : lines_of (byte ∷ []) ≡ 0 = rw (no_line_feed byte n) refl in
    omega (arith, none, sum_by-append (λ b. cond (is_line_feed b) 1 0) text (byte ∷ []))

pub longest-line_feed : (text : List ℕ) (byte : ℕ) → byte ≡ 10 → longest_line (text ++ byte ∷ []) ≡ longest_line text
longest-line_feed text byte e =
    ap greatest_length (split-line_feed text byte (line_feed byte e)) ∙ greatest-empty_line 0 (split_lines text)

pub longest-other : (text : List ℕ) (byte : ℕ) → (byte ≡ 10 → ⊥)
    → longest_line (text ++ byte ∷ []) ≡ max (longest_line text) (last_line text + 1)
longest-other text byte n =
    ap greatest_length (split-other text byte (no_line_feed byte n)) ∙ greatest-onto_last 0 byte (split_lines text)

pub last-line_feed : (text : List ℕ) (byte : ℕ) → byte ≡ 10 → last_line (text ++ byte ∷ []) ≡ 0
last-line_feed text byte e =
    ap (λ lines. length (last_of lines)) (split-line_feed text byte (line_feed byte e))
    ∙ ap length (last-empty_line (split_lines text))

pub last-other : (text : List ℕ) (byte : ℕ) → (byte ≡ 10 → ⊥) → last_line (text ++ byte ∷ []) ≡ last_line text + 1
last-other text byte n =
    ap (λ lines. length (last_of lines)) (split-other text byte (no_line_feed byte n))
    ∙ length-last-onto_last byte (split_lines text)
