-- The shebang of an input is a good one: it is given back whole where it stands alone as the first line.
use Rattle.std.proofs.Common.{◌≡◌, inl, inr, ℕ, List, [], ◌∷◌, Bool, true, false, cond, not, Some, None, Ok, Err, refl, sym, ap, ◌∙◌, subst}
use Rattle.std.specs.Prelude.{◌==◌}
use Rattle.std.specs.List.{list_all}
use Rattle.std.specs.Str.{chars, encode_utf8_all, is_utf8}
use Rattle.std.specs.Str.Lossy.{utf8_valid_len}
use Rattle.std.proofs.lemmas.Bool.{cases_Bool, and_parts, and_from, eqb-true, both_ways, false_from_ne_true, cond_both}
use Rattle.std.proofs.lemmas.Slice.Eq.{bytes_eq-Decides}
use Rattle.std.proofs.lemmas.Str.{chars-encodes, scalars-chars, IsUtf8-from_is_utf8}
use lib.Utf8.{scalar, scalars}
use Rattle.lay_piece.specs.Chars.{is_white, behind, front, after, kept, without_end}
use Rattle.lay_token.specs.Source.{Source, source, source_of, folded, without_mark, is_in_line, is_no_command, is_shebang}
use Rattle.lay_text.specs.declared.refusal.Refusal.TheVariants.{NotUtf8}
use Rattle.lay_piece.proofs.Fronts.{each-front}
use Rattle.lay_token.proofs.Encoding.{scalars-folded, scalars-without_mark}
use Rattle.lay_node.proofs.Scalars.{text_utf8, scalars_cond, scalars_without_end}
use Rattle.lay_code.specs.Written.{is_good_shebang}

-- ---- what is kept of a text

kept_other : (d c : ℕ) (cs : List ℕ) → c == d ≡ false → kept d c cs ≡ c ∷ cs
kept_other d c [] h = rw h refl
kept_other d c (e ∷ es) h = refl

kept_twice : (d c : ℕ) (cs : List ℕ) → without_end d cs ≡ cs → without_end d (kept d c cs) ≡ kept d c cs
kept_twice d c [] e = elim (cases_Bool (c == d)) [
  | inl h ↦ rw h refl
  | inr h ↦ rw h (rw h refl)
]
kept_twice d c (b ∷ bs) e = ap (kept d c) e

without_end-twice : (d : ℕ) (cs : List ℕ) → without_end d (without_end d cs) ≡ without_end d cs
without_end-twice d [] = refl
without_end-twice d (c ∷ cs) = kept_twice d c (without_end d cs) (without_end-twice d cs)

all_kept : (p : ℕ → Bool) (d c : ℕ) (cs : List ℕ) → p c ≡ true → list_all p cs ≡ true → list_all p (kept d c cs) ≡ true
all_kept p d c [] h g =
    cond_both (c == d) [] (c ∷ []) (λ l. list_all p l ≡ true) (λ e. refl) (λ e. and_from (p c) true h refl)
all_kept p d c (e ∷ es) h g = and_from (p c) (list_all p (e ∷ es)) h g

all_without_end : (p : ℕ → Bool) (d : ℕ) (cs : List ℕ) → list_all p cs ≡ true → list_all p (without_end d cs) ≡ true
all_without_end p d [] h = refl
all_without_end p d (c ∷ cs) h =
    let b = and_parts (p c) (list_all p cs) h in all_kept p d c (without_end d cs) b.0 (all_without_end p d cs b.1)

-- ---- scalars

scalars_front : (p : ℕ → Bool) (cs : List ℕ) → scalars cs ≡ true → scalars (front p cs) ≡ true
scalars_front p [] h = refl
scalars_front p (c ∷ cs) h =
    let b = and_parts (scalar c) (scalars cs) h in
    scalars_cond (p c) (c ∷ front p cs) [] (and_from (scalar c) (scalars (front p cs)) b.0 (scalars_front p cs b.1)) refl

-- ---- the line without the CRs at its end

-- what is no white space is no CR
no_return : (c : ℕ) → is_white c ≡ false → c == 13 ≡ false
no_return c h =
    let P : ℕ → Type 0 = λ x. is_white x ≡ false in
    false_from_ne_true (c == 13) (λ e. both_ways (is_white 13) (subst P (eqb-true c 13 e) h) refl)

-- whether it begins with a character other than a CR
same_first : (p : ℕ) → p == 13 ≡ false → (cs : List ℕ)
    → behind false (p ∷ []) (λ ds. true) (without_end 13 cs) ≡ behind false (p ∷ []) (λ ds. true) cs
same_first p n [] = refl
same_first p n (c ∷ cs) = by_rest (without_end 13 cs)
  where
    by_rest : (l : List ℕ) → behind false (p ∷ []) (λ ds. true) (kept 13 c l) ≡ cond (p == c) true false
    by_rest [] = elim (cases_Bool (c == 13)) [
      | inl h ↦ let e : p == c ≡ false = ap (λ x. p == x) (eqb-true c 13 h) ∙ n in rw (h, e) refl
      | inr h ↦ rw h refl
    ]
    by_rest (b ∷ bs) = refl

after_kept : (c : ℕ) (cs : List ℕ) → is_white c ≡ true → after is_white (kept 13 c cs) ≡ after is_white cs
after_kept c [] h =
    cond_both (c == 13) [] (c ∷ []) (λ l. after is_white l ≡ []) (λ e. refl) (λ e. rw h refl)
after_kept c (b ∷ bs) h = rw h refl

-- It stays a command or none.
same_command : (cs : List ℕ)
    → is_no_command (after is_white (without_end 13 cs)) ≡ is_no_command (after is_white cs)
same_command [] = refl
same_command (c ∷ cs) = elim (cases_Bool (is_white c)) [
  | inl h ↦ ap is_no_command (after_kept c (without_end 13 cs) h) ∙ same_command cs ∙ rw h refl
  | inr h ↦ rw (kept_other 13 c (without_end 13 cs) (no_return c h), h, same_first 47 refl cs, same_first 42 refl cs) refl
]

-- a text of this first character, where one is seen
first_is : (p c : ℕ) (b : Bool) → cond (p == c) b false ≡ true → (p ≡ c) × (b ≡ true)
first_is p c b h = elim (cases_Bool (p == c)) [
  | inl e ↦ (eqb-true p c e, let g : cond (p == c) b false ≡ b = rw e refl in sym g ∙ h)
  | inr e ↦ let g : cond (p == c) b false ≡ false = rw e refl in absurd (both_ways (cond (p == c) b false) g h)
]

kept_two : (cs : List ℕ) → without_end 13 (35 ∷ 33 ∷ cs) ≡ 35 ∷ 33 ∷ without_end 13 cs
kept_two cs =
    ap (kept 13 35) (kept_other 13 33 (without_end 13 cs) refl)

shebang_end : (line : List ℕ) → is_shebang line ≡ true → is_shebang (without_end 13 line) ≡ true
shebang_end [] h = h
shebang_end (c ∷ []) h = absurd (let b = first_is 35 c false h in both_ways false refl b.1)
shebang_end (c ∷ d ∷ cs) h =
    let b = first_is 35 c (behind false (33 ∷ []) (λ ds. not (is_no_command (after is_white ds))) (d ∷ cs)) h in
    let g = first_is 33 d (not (is_no_command (after is_white cs))) b.1 in
    let P : ℕ → ℕ → Type 0 = λ x y. is_shebang (without_end 13 (x ∷ y ∷ cs)) ≡ true in
    let at : P 35 33 = ap is_shebang (kept_two cs) ∙ ap not (same_command cs) ∙ g.1 in
    subst (λ x. P x d) b.0 (subst (P 35) g.0 at)

-- ---- the shebang

good_line : (line : List ℕ) → scalars line ≡ true → list_all is_in_line line ≡ true → is_shebang line ≡ true
    → is_good_shebang (Some (encode_utf8_all (without_end 13 line))) ≡ true
good_line line s l h =
    let w = without_end 13 line in
    let text = encode_utf8_all w in
    let fine : scalars w ≡ true = scalars_without_end 13 line s in
    let same : chars text ≡ w = chars-encodes w fine in
    let one : list_all is_in_line (chars text) ≡ true = ap (list_all is_in_line) same ∙ all_without_end is_in_line 13 line l in
    let two : is_shebang (chars text) ≡ true = ap is_shebang same ∙ shebang_end line h in
    let back : encode_utf8_all (without_end 13 (chars text)) ≡ text =
    ap (λ x. encode_utf8_all (without_end 13 x)) same ∙ ap encode_utf8_all (without_end-twice 13 line) in
    let three = (bytes_eq-Decides (encode_utf8_all (without_end 13 (chars text))) text).1 back in
    rw (text_utf8 w fine, one, two, three) refl

good_text : (text : List ℕ) → scalars text ≡ true → is_good_shebang (source_of text).shebang ≡ true
good_text text s =
    let line = front is_in_line text in
    cond_both (is_shebang line) (Some (encode_utf8_all (without_end 13 line))) None (λ o. is_good_shebang o ≡ true)
    (λ e. good_line line (scalars_front is_in_line text s) (each-front is_in_line text) e)
    (λ e. refl)

pub source_good : (bytes : List ℕ) (from : Source) → source bytes ≡ Ok from → is_good_shebang from.shebang ≡ true
source_good bytes from e = elim (cases_Bool (is_utf8 bytes)) [
  | inl h ↦
      let fine = scalars-chars bytes (IsUtf8-from_is_utf8 bytes h) in
      let text = folded (without_mark (chars bytes)) in
      let is : source bytes ≡ Ok (source_of text) = rw h refl in
      let same : source_of text ≡ from = cc in
      subst (λ (x : Source). is_good_shebang x.shebang ≡ true) same
      (good_text text (scalars-folded (without_mark (chars bytes)) (scalars-without_mark (chars bytes) fine)))
  | inr h ↦
      let is : source bytes ≡ Err (NotUtf8 (utf8_valid_len bytes)) = rw h refl in
      absurd (cc)
]
