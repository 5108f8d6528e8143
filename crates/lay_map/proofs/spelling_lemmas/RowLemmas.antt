-- Rows of opening braces: how many stand at the beginning of what spells a form, and how many its words say.
use Rattle.std.proofs.Common.{◌≡◌, inl, inr, ℕ, zero, suc, ◌≤◌, Bool, true, false, cond, not, ◌&&◌, ◌||◌, ◌==◌, List, [], ◌∷◌, ◌++◌, map, codes, refl, sym, ap, ap₂, ◌∙◌, subst, arith, append_assoc}
use Rattle.std.specs.Str.{bytes_eq}
use Rattle.std.proofs.lemmas.Bool.{and_parts, or_parts}
use Rattle.lay_piece.specs.Characters as char
use Rattle.lay_piece.specs.declared.kind.Kind.{Kind}
use Rattle.lay_piece.specs.declared.kind.Kind.TheVariants.{Punct}
use Rattle.lay_token.specs.Lexes.{is_punct}
use Rattle.lay_token.specs.declared.token.Token.{Token}
use Rattle.lay_form.specs.Form.{Bit, Blank, Fixed, Operator, Semicolons, Form, Done, Piece, Leaf, Listed, ListedDoc, Brk, LastComma, Group, Part, Deeper, Optional, Docs, Body, comma, keyword}
use Rattle.lay_form.specs.Spelled.{IsOne, IsBit, AreBits, AreSemicolons, MayBe, IsListed, IsComment, IsDoc, attr_opening, Spells}
use Rattle.lay_form.proofs.FormLaws.{one_end, bits_end, may_be_end, listed_end, is_end}
use Rattle.lay_map.specs.spelling.Units.{Word, Told, punct_word, bits_words, words, AreSingle}
use Rattle.lay_map.specs.spelling.Choice.{alike, opens, is_semicolon, passes, leading, is_loose, openers, calm_bits, stops, calm, firm_bits, firm}
use Rattle.lay_map.proofs.spelling_lemmas.OperatorLemmas.{Reads, op_reads}
use Rattle.lay_map.proofs.spelling_lemmas.UnitLemmas.{behind}

-- ---- tests

pub not_true : (b : Bool) → not b ≡ true → b ≡ false
not_true false h = refl
not_true true h = absurd (cc)

-- ---- rows of braces

-- No more opening braces come next than words say.
abbrev pub Runs : List Word → List Token → Type 0
Runs ws ts = openers (is_loose ws) ts ≤ leading ws

-- where the kind is known to open, or not to
pub opened_row : (loose : Bool) (t : Token) (ts : List Token) → opens t.kind ≡ true → openers loose (t ∷ ts) ≡ suc (openers loose ts)
opened_row loose t ts h = ap (λ (b : Bool). cond b (suc (openers loose ts)) (cond (loose && is_semicolon t.kind t.text) (openers loose ts) 0)) h

other_row : (loose : Bool) (t : Token) (ts : List Token) → opens t.kind ≡ false
    → openers loose (t ∷ ts) ≡ cond (loose && is_semicolon t.kind t.text) (openers loose ts) 0
other_row loose t ts h = ap (λ (b : Bool). cond b (suc (openers loose ts)) (cond (loose && is_semicolon t.kind t.text) (openers loose ts) 0)) h

-- A token that is no brace and no `;` ends the row.
ended_row : (loose : Bool) (t : Token) (ts : List Token) → opens t.kind ≡ false → is_semicolon t.kind t.text ≡ false
    → openers loose (t ∷ ts) ≡ 0
ended_row loose t ts h k =
    other_row loose t ts h ∙ ap (λ (b : Bool). cond (loose && b) (openers loose ts) 0) k ∙ by loose
  where
    by : (b : Bool) → cond (b && false) (openers loose ts) 0 ≡ 0
    by true = refl
    by false = refl

-- The word is this token's kind and text.
word_row : (kind : Kind) (text : List ℕ) (ws : List Word) (t : Token) (ts : List Token) → t.kind ≡ kind → t.text ≡ text
    → (opens kind ≡ true → Runs ws ts) → Runs (Told kind text ∷ ws) (t ∷ ts)
word_row kind text ws t ts k e h = by (opens kind) refl h
  where
    by : (b : Bool) → opens kind ≡ b → (b ≡ true → Runs ws ts)
        → openers (cond b (is_loose ws) (not (is_semicolon kind text))) (t ∷ ts) ≤ cond b (suc (leading ws)) 0
    by true o g = let p = opened_row (is_loose ws) t ts (ap opens k ∙ o) in let q = g refl in omega (arith, p, q)
    by false o g =
        let same : is_semicolon t.kind t.text ≡ is_semicolon kind text = ap₂ is_semicolon k e in
        let p = other_row (not (is_semicolon kind text)) t ts (ap opens k ∙ o) in
        let z = ap (λ (b : Bool). cond (not (is_semicolon kind text) && b) (openers (not (is_semicolon kind text)) ts) 0) same in
        let n = none (is_semicolon kind text) (openers (not (is_semicolon kind text)) ts) in
        omega (arith, p, z, n)
      where
        none : (b : Bool) (n : ℕ) → cond (not b && b) n 0 ≡ 0
        none true n = refl
        none false n = refl

pub one_row : (kind : Kind) (text : List ℕ) (ws : List Word) (ts rest : List Token) → IsOne kind text ts rest
    → (opens kind ≡ true → Runs ws rest) → Runs (Told kind text ∷ ws) ts
one_row kind text ws [] rest s h = absurd s
one_row kind text ws (t ∷ ts) rest s h =
    word_row kind text ws t ts s.0 s.1 (λ o. subst (Runs ws) (sym s.2) (h o))

pub listed_row : (kind : Kind) (text : List ℕ) (joint : Bool) (ws : List Word) (ts rest : List Token) → IsListed kind text joint ts rest
    → (opens kind ≡ true → Runs ws rest) → Runs (Told kind text ∷ ws) ts
listed_row kind text joint ws [] rest s h = absurd s
listed_row kind text joint ws (t ∷ ts) rest s h =
    word_row kind text ws t ts s.0 s.1 (λ o. subst (Runs ws) (sym s.3) (h o))

-- A `;` is passed over, or ends the row.
semicolons_row : (n : ℕ) (ws : List Word) (ts rest : List Token) → AreSemicolons n ts rest → Runs ws rest → Runs ws ts
semicolons_row zero ws ts rest s h = subst (Runs ws) (sym s) h
semicolons_row (suc n) ws [] rest s h = absurd s.1
semicolons_row (suc n) ws (t ∷ ts) rest s h =
    let g = subst (Runs ws) (sym s.1.2) (semicolons_row n ws s.0 rest s.2 h) in
    let p = other_row (is_loose ws) t ts (ap opens s.1.0) in
    let z = by (is_loose ws && is_semicolon t.kind t.text) (openers (is_loose ws) ts) in
    omega (arith, p, z, g)
  where
    by : (b : Bool) (n : ℕ) → cond b n 0 ≤ n
    by true n = omega arith
    by false n = omega arith

-- The first word is a single character of punctuation.
op_row : (c : ℕ) (cs : List ℕ) (ws : List Word) (ts : List Token) → Reads (c ∷ cs) ts → Runs (punct_word c ∷ ws) ts
op_row c cs ws [] r = absurd r
op_row c cs ws (t ∷ ts) r = word_row Punct (c ∷ []) ws t ts r.0 r.1 (λ o. absurd (cc o))

-- what is left after a bit
pub bit_behind : (b : Bit) (ts rest : List Token) → AreSingle ts → IsBit b ts rest → AreSingle rest
bit_behind b ts rest single s = behind ts rest single (bits_end (b ∷ []) ts rest (rest, s, refl))

-- where it is known which way a test goes
on_true : (b x : Bool) → b ≡ true → cond b x true ≡ true → x ≡ true
on_true true x h g = g
on_true false x h g = absurd (cc h)

pub bits_row : (bits : List Bit) (ws : List Word) (b : Bool) (ts rest : List Token) → AreSingle ts → calm_bits bits b ≡ true
    → (b ≡ true → Runs ws rest) → AreBits bits ts rest → Runs (bits_words bits ++ ws) ts
bits_row [] ws b ts rest single c h s = subst (Runs ws) (sym s) (h c)
bits_row (Blank ∷ bs) ws b ts rest single c h s =
    subst (Runs (bits_words bs ++ ws)) (sym s.1) (bits_row bs ws b s.0 rest (bit_behind Blank ts s.0 single s.1) c h s.2)
bits_row (Fixed kind text ∷ bs) ws b ts rest single c h s =
    one_row kind text (bits_words bs ++ ws) ts s.0 s.1
    (λ o. bits_row bs ws b s.0 rest (bit_behind (Fixed kind text) ts s.0 single s.1) (on_true (opens kind) (calm_bits bs b) o c) h s.2)
bits_row (Operator [] ∷ bs) ws b ts rest single c h s =
    subst (Runs (bits_words bs ++ ws)) (sym s.1.1) (bits_row bs ws b s.0 rest (bit_behind (Operator []) ts s.0 single s.1) c h s.2)
bits_row (Operator (d ∷ ds) ∷ bs) ws b ts rest single c h s = op_row d ds ((map punct_word ds ++ bits_words bs) ++ ws) ts (op_reads (d ∷ ds) ts single s.1.0)
bits_row (Semicolons ∷ bs) ws b ts rest single c h s =
    semicolons_row s.1.0 (bits_words bs ++ ws) ts s.0 s.1.1
    (bits_row bs ws b s.0 rest (bit_behind Semicolons ts s.0 single s.1) c h s.2)

-- ---- what ends a row

one_stops : (kind : Kind) (text : List ℕ) (ts rest : List Token) → not (opens kind || is_semicolon kind text) ≡ true
    → IsOne kind text ts rest → (loose : Bool) → openers loose ts ≡ 0
one_stops kind text [] rest h s loose = absurd s
one_stops kind text (t ∷ ts) rest h s loose =
    let p = or_parts (opens kind) (is_semicolon kind text) (not_true (opens kind || is_semicolon kind text) h) in
    ended_row loose t ts (ap opens s.0 ∙ p.0) (ap₂ is_semicolon s.0 s.1 ∙ p.1)

op_stops : (c : ℕ) (cs : List ℕ) (ts : List Token) → not (is_semicolon Punct (c ∷ [])) ≡ true → Reads (c ∷ cs) ts
    → (loose : Bool) → openers loose ts ≡ 0
op_stops c cs [] h r loose = absurd r
op_stops c cs (t ∷ ts) h r loose =
    ended_row loose t ts (ap opens r.0) (ap₂ is_semicolon r.0 r.1 ∙ not_true (is_semicolon Punct (c ∷ [])) h)

bits_stop : (bits : List Bit) (ts rest : List Token) → AreSingle ts → stops bits ≡ true → AreBits bits ts rest
    → (loose : Bool) → openers loose ts ≡ 0
bits_stop [] ts rest single h s loose = absurd (cc h)
bits_stop (Blank ∷ bs) ts rest single h s loose =
    ap (openers loose) s.1 ∙ bits_stop bs s.0 rest (bit_behind Blank ts s.0 single s.1) h s.2 loose
bits_stop (Fixed kind text ∷ bs) ts rest single h s loose = one_stops kind text ts s.0 h s.1 loose
bits_stop (Operator [] ∷ bs) ts rest single h s loose = absurd (cc h)
bits_stop (Operator (c ∷ cs) ∷ bs) ts rest single h s loose = op_stops c cs ts h (op_reads (c ∷ cs) ts single s.1.0) loose
bits_stop (Semicolons ∷ bs) ts rest single h s loose = absurd (cc h)

-- a row that nothing begins
no_row : (ws : List Word) (ts : List Token) → ((loose : Bool) → openers loose ts ≡ 0) → Runs ws ts
no_row ws ts h = let p = h (is_loose ws) in omega (arith, p)

may_be_row : (bits : List Bit) (ws : List Word) (ts rest : List Token) → AreSingle ts → stops bits ≡ true → MayBe bits ts rest
    → Runs ws rest → Runs ws ts
may_be_row bits ws ts rest single h (inl e) g = subst (Runs ws) (sym e) g
may_be_row bits ws ts rest single h (inr s) g = no_row ws ts (bits_stop bits ts rest single h s)

comment_row : (inner : Bool) (text : List ℕ) (ws : List Word) (ts rest : List Token) → IsComment inner text ts rest → Runs ws ts
comment_row inner text ws [] rest s = absurd s
comment_row inner text ws (t ∷ ts) rest s =
    no_row ws (t ∷ ts) (λ loose. ended_row loose t ts (ap opens s.1) (ap (λ (k : Kind). is_semicolon k t.text) s.1))

doc_row : (inner : Bool) (text : List ℕ) (ws : List Word) (ts rest : List Token) → AreSingle ts → IsDoc inner text ts rest → Runs ws ts
doc_row inner text ws ts rest single (inl s) = comment_row inner text ws ts rest s
doc_row false text ws ts rest single (inr s) =
    no_row ws ts (bits_stop (attr_opening false ++ keyword (codes "doc") ∷ Operator (codes "=") ∷ []) ts s.0 single refl s.1)
doc_row true text ws ts rest single (inr s) =
    no_row ws ts (bits_stop (attr_opening true ++ keyword (codes "doc") ∷ Operator (codes "=") ∷ []) ts s.0 single refl s.1)

-- ---- forms whose beginning is calm

two_rows : (a b ws : List Word) (ts : List Token) → Runs (a ++ (b ++ ws)) ts → Runs ((a ++ b) ++ ws) ts
two_rows a b ws ts h = subst (λ (x : List Word). Runs x ts) (sym (append_assoc a b ws)) h

pub form_row : (f : Form) (depth : ℕ) (ws : List Word) (b : Bool) (ts rest : List Token) → AreSingle ts → calm f b ≡ true
    → (b ≡ true → Runs ws rest) → Spells f depth ts rest → Runs (words f ++ ws) ts
form_row Done depth ws b ts rest single c h s = subst (Runs ws) (sym s) (h c)
form_row (Piece bits f) depth ws b ts rest single c h s =
    two_rows (bits_words bits) (words f) ws ts
    (bits_row bits (words f ++ ws) (calm f b) ts s.0 single c
    (λ g. form_row f depth ws b s.0 rest (behind ts s.0 single (bits_end bits ts s.0 s.1)) g h s.2) s.1)
form_row (Leaf kind text f) depth ws b ts rest single c h s =
    one_row kind text (words f ++ ws) ts s.0 s.1
    (λ o. form_row f depth ws b s.0 rest (behind ts s.0 single (one_end kind text ts s.0 s.1)) (on_true (opens kind) (calm f b) o c) h s.2)
form_row (Listed kind text joint f) depth ws b ts rest single c h s =
    listed_row kind text joint (words f ++ ws) ts s.0 s.1
    (λ o. form_row f depth ws b s.0 rest (behind ts s.0 single (listed_end kind text joint ts s.0 s.1)) (on_true (opens kind) (calm f b) o c) h s.2)
form_row (ListedDoc inner text f) depth ws b ts rest single c h s = comment_row inner text (words (ListedDoc inner text f) ++ ws) ts s.0 s.1
form_row (Brk space f) depth ws b ts rest single c h s = form_row f depth ws b ts rest single c h s
form_row (LastComma blanks f) depth ws b ts rest single c h s =
    may_be_row comma (words f ++ ws) ts s.0 single refl s.1
    (form_row f depth ws b s.0 rest (behind ts s.0 single (may_be_end comma ts s.0 s.1)) c h s.2)
form_row (Group consistent offset i f) depth ws b ts rest single c h s =
    two_rows (words i) (words f) ws ts
    (form_row i depth (words f ++ ws) (calm f b) ts s.0 single c
    (λ g. form_row f depth ws b s.0 rest (behind ts s.0 single (is_end i depth ts s.0 s.1)) g h s.2) s.1)
form_row (Part i f) depth ws b ts rest single c h s =
    two_rows (words i) (words f) ws ts
    (form_row i depth (words f ++ ws) (calm f b) ts s.0 single c
    (λ g. form_row f depth ws b s.0 rest (behind ts s.0 single (is_end i depth ts s.0 s.1)) g h s.2) s.1)
form_row (Deeper i f) zero ws b ts rest single c h s = absurd s
form_row (Deeper i f) (suc depth) ws b ts rest single c h s =
    two_rows (words i) (words f) ws ts
    (form_row i depth (words f ++ ws) (calm f b) ts s.0 single c
    (λ g. form_row f (suc depth) ws b s.0 rest (behind ts s.0 single (is_end i depth ts s.0 s.1)) g h s.2) s.1)
form_row (Optional laid bits f) depth ws b ts rest single c h s =
    let p = and_parts (stops bits) (calm f b) c in
    may_be_row bits (words f ++ ws) ts s.0 single p.0 s.1
    (form_row f depth ws b s.0 rest (behind ts s.0 single (may_be_end bits ts s.0 s.1)) p.1 h s.2)
form_row (Docs inner text f) depth ws b ts rest single c h s = doc_row inner text (words (Docs inner text f) ++ ws) ts s.0 single s.1
form_row (Body braces back i f) depth ws b ts rest single c h s = absurd (cc c)

-- ---- forms whose beginning is firm

-- At least as many opening braces come next as words say, and no `;` is the next word or stands after those braces.
abbrev pub Firm : List Word → List Token → Type 0
Firm ws ts = (leading ws ≤ openers true ts) × (is_loose ws ≡ true) × (passes ws Punct (codes ";") ≡ true)

-- A text that doesn't begin like `;` isn't that.
other_text : (b : Bool) (text : List ℕ) → not (alike (codes ";") text) ≡ true → not (b && bytes_eq (codes ";") text) ≡ true
other_text true [] h = refl
other_text true (d ∷ ds) h = ap (λ (x : Bool). not (x && bytes_eq [] ds)) (not_true (char.semicolon == d) h)
other_text false text h = refl

word_firm : (kind : Kind) (text : List ℕ) (x : Bool) (ws : List Word) (t : Token) (ts : List Token) → t.kind ≡ kind → t.text ≡ text
    → (not (alike (codes ";") text) && cond (opens kind) x true) ≡ true → (x ≡ true → Firm ws ts) → Firm (Told kind text ∷ ws) (t ∷ ts)
word_firm kind text x ws t ts k e c h = by (opens kind) refl
  where
    p : (not (alike (codes ";") text) ≡ true) × (cond (opens kind) x true ≡ true)
    p = and_parts (not (alike (codes ";") text)) (cond (opens kind) x true) c

    by : (b : Bool) → opens kind ≡ b
        → (cond b (suc (leading ws)) 0 ≤ openers true (t ∷ ts)) × (cond b (is_loose ws) (not (is_semicolon kind text)) ≡ true)
        × (passes (Told kind text ∷ ws) Punct (codes ";") ≡ true)
    by true o =
        let g = h (on_true (opens kind) x o p.1) in
        let q = opened_row true t ts (ap opens k ∙ o) in
        let less = g.0 in
        (omega (arith, less, q), g.1, p.0)
    by false o = (omega arith, other_text (is_punct kind) text p.0, p.0)

one_firm : (kind : Kind) (text : List ℕ) (x : Bool) (ws : List Word) (ts rest : List Token)
    → (not (alike (codes ";") text) && cond (opens kind) x true) ≡ true → (x ≡ true → Firm ws rest) → IsOne kind text ts rest
    → Firm (Told kind text ∷ ws) ts
one_firm kind text x ws [] rest c h s = absurd s
one_firm kind text x ws (t ∷ ts) rest c h s = word_firm kind text x ws t ts s.0 s.1 c (λ g. subst (Firm ws) (sym s.2) (h g))

listed_firm : (kind : Kind) (text : List ℕ) (joint : Bool) (x : Bool) (ws : List Word) (ts rest : List Token)
    → (not (alike (codes ";") text) && cond (opens kind) x true) ≡ true → (x ≡ true → Firm ws rest) → IsListed kind text joint ts rest
    → Firm (Told kind text ∷ ws) ts
listed_firm kind text joint x ws [] rest c h s = absurd s
listed_firm kind text joint x ws (t ∷ ts) rest c h s = word_firm kind text x ws t ts s.0 s.1 c (λ g. subst (Firm ws) (sym s.3) (h g))

op_firm : (c : ℕ) (cs : List ℕ) (ws : List Word) (ts : List Token) → not (alike (codes ";") (c ∷ [])) ≡ true → Reads (c ∷ cs) ts
    → Firm (punct_word c ∷ ws) ts
op_firm c cs ws ts h r = (omega arith, other_text true (c ∷ []) h, h)

-- The row goes on over `;`.
pub semicolons_open : (n : ℕ) (ts rest : List Token) → AreSemicolons n ts rest → openers true ts ≡ openers true rest
semicolons_open zero ts rest s = ap (openers true) s
semicolons_open (suc n) [] rest s = absurd s.1
semicolons_open (suc n) (t ∷ ts) rest s =
    other_row true t ts (ap opens s.1.0)
    ∙ ap (λ (b : Bool). cond b (openers true ts) 0) (ap₂ is_semicolon s.1.0 s.1.1)
    ∙ ap (openers true) s.1.2 ∙ semicolons_open n s.0 rest s.2

semicolons_firm : (n : ℕ) (ws : List Word) (ts rest : List Token) → AreSemicolons n ts rest → Firm ws rest → Firm ws ts
semicolons_firm n ws ts rest s h = let e = semicolons_open n ts rest s in let less = h.0 in (omega (arith, less, e), h.1, h.2)

bits_firm : (bits : List Bit) (ws : List Word) (b : Bool) (ts rest : List Token) → AreSingle ts → firm_bits bits b ≡ true
    → (b ≡ true → Firm ws rest) → AreBits bits ts rest → Firm (bits_words bits ++ ws) ts
bits_firm [] ws b ts rest single c h s = subst (Firm ws) (sym s) (h c)
bits_firm (Blank ∷ bs) ws b ts rest single c h s =
    subst (Firm (bits_words bs ++ ws)) (sym s.1) (bits_firm bs ws b s.0 rest (bit_behind Blank ts s.0 single s.1) c h s.2)
bits_firm (Fixed kind text ∷ bs) ws b ts rest single c h s =
    one_firm kind text (firm_bits bs b) (bits_words bs ++ ws) ts s.0 c
    (λ g. bits_firm bs ws b s.0 rest (bit_behind (Fixed kind text) ts s.0 single s.1) g h s.2) s.1
bits_firm (Operator [] ∷ bs) ws b ts rest single c h s =
    subst (Firm (bits_words bs ++ ws)) (sym s.1.1) (bits_firm bs ws b s.0 rest (bit_behind (Operator []) ts s.0 single s.1) c h s.2)
bits_firm (Operator (d ∷ ds) ∷ bs) ws b ts rest single c h s = op_firm d ds ((map punct_word ds ++ bits_words bs) ++ ws) ts c (op_reads (d ∷ ds) ts single s.1.0)
bits_firm (Semicolons ∷ bs) ws b ts rest single c h s =
    semicolons_firm s.1.0 (bits_words bs ++ ws) ts s.0 s.1.1
    (bits_firm bs ws b s.0 rest (bit_behind Semicolons ts s.0 single s.1) c h s.2)

two_firm : (a b ws : List Word) (ts : List Token) → Firm (a ++ (b ++ ws)) ts → Firm ((a ++ b) ++ ws) ts
two_firm a b ws ts h = subst (λ (x : List Word). Firm x ts) (sym (append_assoc a b ws)) h

pub form_firm : (f : Form) (depth : ℕ) (ws : List Word) (b : Bool) (ts rest : List Token) → AreSingle ts → firm f b ≡ true
    → (b ≡ true → Firm ws rest) → Spells f depth ts rest → Firm (words f ++ ws) ts
form_firm Done depth ws b ts rest single c h s = subst (Firm ws) (sym s) (h c)
form_firm (Piece bits f) depth ws b ts rest single c h s =
    two_firm (bits_words bits) (words f) ws ts
    (bits_firm bits (words f ++ ws) (firm f b) ts s.0 single c
    (λ g. form_firm f depth ws b s.0 rest (behind ts s.0 single (bits_end bits ts s.0 s.1)) g h s.2) s.1)
form_firm (Leaf kind text f) depth ws b ts rest single c h s =
    one_firm kind text (firm f b) (words f ++ ws) ts s.0 c
    (λ g. form_firm f depth ws b s.0 rest (behind ts s.0 single (one_end kind text ts s.0 s.1)) g h s.2) s.1
form_firm (Listed kind text joint f) depth ws b ts rest single c h s =
    listed_firm kind text joint (firm f b) (words f ++ ws) ts s.0 c
    (λ g. form_firm f depth ws b s.0 rest (behind ts s.0 single (listed_end kind text joint ts s.0 s.1)) g h s.2) s.1
form_firm (ListedDoc inner text f) depth ws b ts rest single c h s = absurd (cc c)
form_firm (Brk space f) depth ws b ts rest single c h s = form_firm f depth ws b ts rest single c h s
form_firm (LastComma blanks f) depth ws b ts rest single c h s = absurd (cc c)
form_firm (Group consistent offset i f) depth ws b ts rest single c h s =
    two_firm (words i) (words f) ws ts
    (form_firm i depth (words f ++ ws) (firm f b) ts s.0 single c
    (λ g. form_firm f depth ws b s.0 rest (behind ts s.0 single (is_end i depth ts s.0 s.1)) g h s.2) s.1)
form_firm (Part i f) depth ws b ts rest single c h s =
    two_firm (words i) (words f) ws ts
    (form_firm i depth (words f ++ ws) (firm f b) ts s.0 single c
    (λ g. form_firm f depth ws b s.0 rest (behind ts s.0 single (is_end i depth ts s.0 s.1)) g h s.2) s.1)
form_firm (Deeper i f) zero ws b ts rest single c h s = absurd s
form_firm (Deeper i f) (suc depth) ws b ts rest single c h s =
    two_firm (words i) (words f) ws ts
    (form_firm i depth (words f ++ ws) (firm f b) ts s.0 single c
    (λ g. form_firm f (suc depth) ws b s.0 rest (behind ts s.0 single (is_end i depth ts s.0 s.1)) g h s.2) s.1)
form_firm (Optional laid bits f) depth ws b ts rest single c h s = absurd (cc c)
form_firm (Docs inner text f) depth ws b ts rest single c h s = (omega arith, refl, refl)
form_firm (Body braces back i f) depth ws b ts rest single c h s = absurd (cc c)
