-- Texts of documentation: as bytes and as characters they have the same form, and what is laid out is read again.
use Rattle.std.proofs.Common.{◌≡◌, ℕ, suc, ◌-◌, ◌≤◌, List, [], ◌∷◌, ◌++◌, Bool, true, false, cond, not, ◌&&◌, ◌||◌, take, length, length-append, append-nil, sym, refl, ap, ◌∙◌, subst, arith}
use Rattle.std.specs.Prelude.{◌==◌, nat_le, codes}
use Rattle.std.specs.List.{list_all, list_any}
use Rattle.std.specs.Str.{chars, encode_utf8_all, is_utf8}
use Rattle.std.proofs.lemmas.Bool.{and_parts, leb-true, both_ways, false_from_ne_true, not-true}
use Rattle.std.proofs.lemmas.Str.{encodes-append, encode_ascii}
use Rattle.std.proofs.Math.Seq.{take-append_seam}
use lib.Utf8.{encode}
use Rattle.lay_piece.specs.Chars.{begins, is_nil, kept, without_end}
use Rattle.lay_piece.specs.Docs.{doc_form, is_line_text, is_block_text, ends_in_blank}
use Rattle.lay_piece.specs.Forms.{has_form, doc_opening, is_line_doc, is_block_doc, is_whole}
use Rattle.lay_piece.specs.Number.{is_index}
use Rattle.std.specs.Char.{is_ascii_digit}
use Rattle.lay_token.specs.Lexes.{doc_text, text_of_piece}
use Rattle.lay_piece.specs.Quoted.{InBlock, Deep, Star, Slash, doc_step, block_step, deep_step, close_one}
use Rattle.lay_piece.specs.Scan.{Next, Go, End, Bad, run}
use Rattle.lay_piece.specs.declared.doc.DocForm.TheVariants.{Line, Block, Neither}
use Rattle.lay_piece.specs.declared.kind.Kind.TheVariants.{Doc}
use Rattle.lay_form.specs.Layout.{is_block}
use Rattle.lay_node.specs.tokens.Listing.{is_doc_text, has_form_of_doc}
use Rattle.lay_reparse.proofs.texts.Laid.{as_block, block_end, raw, text_chars}
use Rattle.lay_piece.proofs.Runs.{run-cons, next as going}
use Rattle.lay_token.proofs.Encoding.{is_high, Own, Above, bytes_of, IsLow, high_le, any_encodes, begins_encodes, no_one, no_two}

-- ---- the end of a line

blank_last : (x y : List ℕ) → is_nil y ≡ false → ends_in_blank (x ++ y) ≡ ends_in_blank y
blank_last [] y h = refl
blank_last (c ∷ x) y h = ap (λ b. cond b (c == 32) (ends_in_blank (x ++ y))) (none x) ∙ blank_last x y h
  where
    none : (x : List ℕ) → is_nil (x ++ y) ≡ false
    none [] = h
    none (c ∷ x) = refl

blank_high : (b : ℕ) (bs : List ℕ) → is_high b ≡ true → list_all is_high bs ≡ true → ends_in_blank (b ∷ bs) ≡ false
blank_high b [] h g = no_one 32 (omega arith) b (high_le b h)
blank_high b (c ∷ bs) h g = let a = and_parts (is_high c) _ g in blank_high c bs a.0 a.1

encodes_some : (c : ℕ) (cs : List ℕ) → is_nil (encode_utf8_all (c ∷ cs)) ≡ false
encodes_some c cs = elim (bytes_of c) [
  | Own l e ↦ ap (λ x. is_nil (x ++ encode_utf8_all cs)) e
  | Above l b bs h g e ↦ ap (λ x. is_nil (x ++ encode_utf8_all cs)) e
]

blank_encodes : (cs : List ℕ) → ends_in_blank (encode_utf8_all cs) ≡ ends_in_blank cs
blank_encodes [] = refl
blank_encodes (c ∷ []) = elim (bytes_of c) [
  | Own l e ↦ ap (λ x. ends_in_blank (x ++ [])) e
  | Above l b bs h g e ↦ ap (λ x. ends_in_blank (x ++ [])) e ∙ ap ends_in_blank (append-nil (b ∷ bs))
      ∙ blank_high b bs h g ∙ sym (no_one 32 (omega arith) c l)
]
blank_encodes (c ∷ d ∷ cs) = blank_last (encode c) (encode_utf8_all (d ∷ cs)) (encodes_some d cs)
    ∙ blank_encodes (d ∷ cs)

kept_whole : (cs : List ℕ) → ends_in_blank cs ≡ false → without_end 32 cs ≡ cs
kept_whole [] h = refl
kept_whole (c ∷ []) h = ap (λ b. cond b [] (c ∷ [])) h
kept_whole (c ∷ d ∷ cs) h = ap (kept 32 c) (kept_whole (d ∷ cs) h)

-- ---- blocks

abbrev level : InBlock → ℕ
level (Deep n) = n
level (Star n) = n
level (Slash n) = n

high_step : (s : InBlock) (b : ℕ) → 128 ≤ b → doc_step s b ≡ Go (Deep (level s))
unfolding doc_step block_step
high_step s b h =
    let e13 = no_one 13 (omega arith) b h in
    let e42 = no_one 42 (omega arith) b h in
    let e47 = no_one 47 (omega arith) b h in
    ap (λ x. cond x Bad (block_step s b)) e13 ∙ by s e42 e47
  where
    deep : (n : ℕ) → b == 42 ≡ false → b == 47 ≡ false → deep_step n b ≡ Go (Deep n)
    deep n p q = ap (λ x. cond x (Go (Star n)) (cond (b == 47) (Go (Slash n)) (Go (Deep n)))) p
        ∙ ap (λ x. cond x (Go (Slash n)) (Go (Deep n))) q

    by : (s : InBlock) → b == 42 ≡ false → b == 47 ≡ false → block_step s b ≡ Go (Deep (level s))
    by (Deep n) p q = deep n p q
    by (Star n) p q = ap (λ x. cond x (close_one n) (deep_step n b)) q ∙ deep n p q
    by (Slash n) p q = ap (λ x. cond x (Go (Deep (suc n))) (deep_step n b)) p ∙ deep n p q

run_one : (s : InBlock) (b : ℕ) (r : List ℕ) → 128 ≤ b → run doc_step s (b ∷ r) ≡ run doc_step (Deep (level s)) r
run_one s b r h = run-cons doc_step s b r ∙ ap (going doc_step r) (high_step s b h)

run_high : (n : ℕ) (bs r : List ℕ) → list_all is_high bs ≡ true
    → run doc_step (Deep n) (bs ++ r) ≡ run doc_step (Deep n) r
run_high n [] r h = refl
run_high n (b ∷ bs) r h = let a = and_parts (is_high b) _ h in run_one (Deep n) b (bs ++ r) (high_le b a.0)
    ∙ run_high n bs r a.1

-- what the form is told of bytes and of characters
same_end : (s : InBlock) (cs : List ℕ) → is_whole (run doc_step s (encode_utf8_all cs)) ≡ is_whole (run doc_step s cs)
same_end s [] = refl
same_end s (c ∷ cs) = elim (bytes_of c) [
  | Own l e ↦ ap (λ x. is_whole (run doc_step s (x ++ encode_utf8_all cs))) e
      ∙ ap is_whole (run-cons doc_step s c (encode_utf8_all cs)) ∙ by (doc_step s c) (λ t. same_end t cs)
      ∙ ap is_whole (sym (run-cons doc_step s c cs))
  | Above l b bs h g e ↦
      ap (λ x. is_whole (run doc_step s (x ++ encode_utf8_all cs))) e
      ∙ ap is_whole (run_one s b (bs ++ encode_utf8_all cs) (high_le b h)
      ∙ run_high (level s) bs (encode_utf8_all cs) g)
      ∙ same_end (Deep (level s)) cs ∙ ap is_whole (sym (run_one s c cs l))
]
  where
    none : (cs : List ℕ) → is_nil (encode_utf8_all cs) ≡ is_nil cs
    none [] = refl
    none (d ∷ ds) = encodes_some d ds

    by : (n : Next InBlock) → ((t : InBlock)
        → is_whole (run doc_step t (encode_utf8_all cs)) ≡ is_whole (run doc_step t cs))
        → is_whole (going doc_step (encode_utf8_all cs) n) ≡ is_whole (going doc_step cs n)
    by (Go t) f = f t
    by End f = none cs
    by Bad f = refl

-- ---- documentation

line_encodes : (inner : Bool) (cs : List ℕ) → is_line_doc inner (encode_utf8_all cs) ≡ is_line_doc inner cs
line_encodes inner cs = (λ i. (inner || not (begins_encodes (λ c. c == 47) (no_one 47 (omega arith)) cs i))
    && not (any_encodes (λ c. c == 10 || c == 13) (no_two 10 13 (omega arith) (omega arith)) cs i))

block_encodes : (inner : Bool) (cs : List ℕ) → is_block_doc inner (encode_utf8_all cs) ≡ is_block_doc inner cs
block_encodes inner cs =
    (λ i. (inner || not (begins_encodes (λ c. c == 42 || c == 47) (no_two 42 47 (omega arith) (omega arith)) cs i))
    && same_end (Deep 0) cs i)

-- the opening tells nothing of what follows it
opened : (inner block : Bool) (x : List ℕ)
    → has_form (Doc inner block) (doc_opening inner block ++ x) ≡ cond block (is_block_doc inner) (is_line_doc inner) x
unfolding has_form
opened true true x = refl
opened true false x = refl
opened false true x = refl
opened false false x = refl

shown : (inner block : Bool) (x : List ℕ)
    → text_of_piece (Doc inner block) (doc_opening inner block ++ x) ≡ doc_text block (doc_opening inner block ++ x)
shown inner block x = refl

no_line : (x : List ℕ) → list_any (λ c. c == 10 || c == 13) x ≡ false → list_any (λ c. c == 10) x ≡ false
no_line [] h = refl
no_line (c ∷ x) h = by (c == 10) (c == 13) h (no_line x)
  where
    by : (a b : Bool) → (a || b) || list_any (λ c. c == 10 || c == 13) x ≡ false
        → (list_any (λ c. c == 10 || c == 13) x ≡ false → list_any (λ c. c == 10) x ≡ false)
        → a || list_any (λ c. c == 10) x ≡ false
    by true b h r = cc
    by false true h r = cc
    by false false h r = r h

pub record Fine (inner : Bool) (t : List ℕ) : Type 0 where
  pub form : has_form (Doc inner (as_block inner t)) (raw (Doc inner false) t) ≡ true
  pub text : encode_utf8_all (text_of_piece (Doc inner (as_block inner t)) (raw (Doc inner false) t)) ≡ t

line_fine : (inner : Bool) (t : List ℕ) → is_utf8 t ≡ true → is_line_text inner t ≡ true
    → (has_form (Doc inner false) (doc_opening inner false ++ (chars t ++ [])) ≡ true)
    × (encode_utf8_all (doc_text false (doc_opening inner false ++ (chars t ++ []))) ≡ t)
line_fine inner t u h =
    let a = and_parts (is_line_doc inner t) _ h in
    let same = text_chars t u in
    let f : is_line_doc inner (chars t) ≡ true = sym (line_encodes inner (chars t)) ∙ ap (is_line_doc inner) same
    ∙ a.0 in
    let b : ends_in_blank (chars t) ≡ false = sym (blank_encodes (chars t)) ∙ ap ends_in_blank same ∙ not-true _ a.1 in
    let n : list_any (λ c. c == 10) (chars t) ≡ false =
    no_line (chars t) (not-true _ (and_parts (inner || not (begins (λ c. c == 47) (chars t))) _ f).1) in (
      opened inner false (chars t ++ []) ∙ ap (is_line_doc inner) (append-nil (chars t)) ∙ f,
      ap encode_utf8_all (three inner (chars t ++ [])
          ∙ ap (λ x. cond (list_any (λ c. c == 10) x) x (without_end 32 x)) (append-nil (chars t))
          ∙ ap (λ v. cond v (chars t) (without_end 32 (chars t))) n ∙ kept_whole (chars t) b) ∙ same,
    )
  where
    three : (inner : Bool) (x : List ℕ) → doc_text false (doc_opening inner false ++ x)
        ≡ cond (list_any (λ c. c == 10) x) x (without_end 32 x)
    three true x = refl
    three false x = refl

block_fine : (inner : Bool) (t : List ℕ) → is_utf8 t ≡ true → is_block_text inner t ≡ true
    → (has_form (Doc inner true) (doc_opening inner true ++ (chars t ++ codes "*/")) ≡ true)
    × (encode_utf8_all (doc_text true (doc_opening inner true ++ (chars t ++ codes "*/"))) ≡ t)
block_fine inner t u h =
    let a = and_parts (list_any (λ c. c == 10) t) _ h in
    let same = text_chars t u in
    let whole : encode_utf8_all (chars t ++ codes "*/") ≡ t ++ codes "*/" =
    encodes-append (chars t) (codes "*/") ∙ (λ i. same i ++ low i) in
    let f : is_block_doc inner (chars t ++ codes "*/") ≡ true = sym (block_encodes inner (chars t ++ codes "*/"))
    ∙ ap (is_block_doc inner) whole ∙ a.1 in
    let n : list_any (λ c. c == 10) (chars t) ≡ true =
    sym (any_encodes (λ c. c == 10) (no_one 10 (omega arith)) (chars t)) ∙ ap (list_any (λ c. c == 10)) same ∙ a.0 in
    let len : length (doc_opening inner true ++ (chars t ++ codes "*/")) - 5 ≡ length (chars t) = five inner in
    let front : take (length (doc_opening inner true ++ (chars t ++ codes "*/")) - 5) (chars t ++ codes "*/")
    ≡ chars t =
    ap (λ k. take k (chars t ++ codes "*/")) len ∙ take-append_seam (chars t) (codes "*/") in (
      opened inner true (chars t ++ codes "*/") ∙ f,
      ap encode_utf8_all (three inner ∙ ap (λ x. cond (list_any (λ c. c == 10) x) x (without_end 32 x)) front
          ∙ ap (λ v. cond v (chars t) (without_end 32 (chars t))) n) ∙ same,
    )
  where
    low : encode_utf8_all (codes "*/") ≡ codes "*/"
    low = (λ i. encode_ascii 42 (omega arith) i ++ (encode_ascii 47 (omega arith) i ++ []))

    five : (inner : Bool) → length (doc_opening inner true ++ (chars t ++ codes "*/")) - 5 ≡ length (chars t)
    five true = let e = length-append (chars t) (codes "*/") in omega (arith, e)
    five false = let e = length-append (chars t) (codes "*/") in omega (arith, e)

    three : (inner : Bool) → doc_text true (doc_opening inner true ++ (chars t ++ codes "*/"))
        ≡ (let x = take (length (doc_opening inner true ++ (chars t ++ codes "*/")) - 5) (chars t ++ codes "*/") in
        cond (list_any (λ c. c == 10) x) x (without_end 32 x))
    three true = refl
    three false = refl

abbrev FineBy : Bool → List ℕ → Bool → Type 0
FineBy inner t block = (has_form (Doc inner block) (doc_opening inner block ++ (chars t ++ block_end block)) ≡ true)
    × (encode_utf8_all (doc_text block (doc_opening inner block ++ (chars t ++ block_end block))) ≡ t)

pub doc_fine : (inner : Bool) (t : List ℕ) → is_utf8 t ≡ true → is_doc_text inner t ≡ true → Fine inner t
unfolding doc_form
doc_fine inner t u h = by (is_line_text inner t) (is_block_text inner t) refl refl h
  where
    made : (block : Bool) → as_block inner t ≡ block → FineBy inner t block → Fine inner t
    made block e p = let r : FineBy inner t (as_block inner t) = subst (FineBy inner t) (sym e) p in
        record { form = r.0; text = r.1 }

    by : (a b : Bool) → is_line_text inner t ≡ a → is_block_text inner t ≡ b → has_form_of_doc (doc_form inner t) ≡ true
        → Fine inner t
    by true b e f h = made false (ap (λ x. is_block (cond x Line (cond (is_block_text inner t) Block Neither))) e)
        (line_fine inner t u e)
    by false true e f h = made true (ap (λ x. is_block (cond x Line (cond (is_block_text inner t) Block Neither))) e
        ∙ ap (λ x. is_block (cond x Block Neither)) f) (block_fine inner t u f)
    by false false e f h =
        absurd (both_ways (has_form_of_doc (doc_form inner t))
        (ap (λ x. has_form_of_doc (cond x Line (cond (is_block_text inner t) Block Neither))) e
        ∙ ap (λ x. has_form_of_doc (cond x Block Neither)) f) h)

-- ---- indexes

all_high : (p : ℕ → Bool) → IsLow p → (b : ℕ) (bs r : List ℕ) → is_high b ≡ true → list_all p ((b ∷ bs) ++ r) ≡ false
all_high p f b bs r h = ap (λ x. x && list_all p (bs ++ r)) (f b (high_le b h))

all_encodes : (p : ℕ → Bool) → IsLow p → (cs : List ℕ) → list_all p (encode_utf8_all cs) ≡ list_all p cs
all_encodes p f [] = refl
all_encodes p f (c ∷ cs) = elim (bytes_of c) [
  | Own l e ↦ ap (λ x. list_all p (x ++ encode_utf8_all cs)) e ∙ ap (λ x. p c && x) (all_encodes p f cs)
  | Above l b bs h g e ↦ ap (λ x. list_all p (x ++ encode_utf8_all cs)) e ∙ all_high p f b bs (encode_utf8_all cs) h
      ∙ ap (λ x. x && list_all p cs) (sym (f c l))
]

low_digit : IsLow is_ascii_digit
low_digit c l = false_from_ne_true (is_ascii_digit c)
    (λ h. let e = leb-true c 57 (and_parts (nat_le 48 c) (nat_le c 57) h).1 in absurd (omega (arith, e)))

pub index_own : (t : List ℕ) → is_utf8 t ≡ true → is_index (chars t) ≡ is_index t
index_own t u =
    (λ i. sym (begins_encodes is_ascii_digit low_digit (chars t)) i
    && sym (all_encodes is_ascii_digit low_digit (chars t)) i) ∙ ap is_index (text_chars t u)
