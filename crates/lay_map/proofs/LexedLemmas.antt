-- In what a text lexes to, each token of punctuation is one character.
use Rattle.std.proofs.Common.{◌≡◌, inl, inr, ℕ, ◌+◌, ◌<◌, List, [], ◌∷◌, ◌++◌, Bool, true, codes, refl, sym, ap, ◌∙◌, subst, append_assoc}
use Rattle.std.specs.Prelude.{◌==◌, nat_lt}
use Rattle.std.specs.List.{list_all, list_any}
use Rattle.std.specs.Str.{encode_utf8_all}
use Rattle.std.proofs.lemmas.Bool.{and_parts, or_cases, eqb-true, ltb-true}
use Rattle.std.proofs.lemmas.Str.{encode_ascii}
use Rattle.lay_piece.specs.Chars.{is_nil}
use Rattle.lay_piece.specs.Forms.{Had, had, has_form, is_one, is_punct_char}
use Rattle.lay_piece.specs.declared.kind.Kind.{Kind}
use Rattle.lay_piece.specs.declared.kind.Kind.TheVariants.{Punct}
use Rattle.lay_token.specs.Lexes.{Before, Fit, Lexes, Other, Part, is_index_place, is_joint, size, spell, step, text_of_piece, tokens_from}
use Rattle.lay_token.specs.declared.token.Token.{Token}
use Rattle.lay_read_tokens.specs.Answers.{AreLexed}
use Rattle.lay_map.specs.spelling.Units.{AreSingle}

-- ---- one character

low_among : (xs : List ℕ) (c : ℕ) → list_all (λ (x : ℕ). nat_lt x 128) xs ≡ true → list_any (λ (d : ℕ). d == c) xs ≡ true → c < 128
low_among [] c h g = absurd (cc g)
low_among (x ∷ xs) c h g =
    let a = and_parts (nat_lt x 128) (list_all (λ (y : ℕ). nat_lt y 128) xs) h in
    elim (or_cases (x == c) (list_any (λ (d : ℕ). d == c) xs) g) [
      | inl e ↦ subst (λ (z : ℕ). z < 128) (eqb-true x c e) (ltb-true x 128 a.0)
      | inr e ↦ low_among xs c a.1 e
    ]

-- A piece of punctuation is its one character, in bytes too.
punct_char : (piece : List ℕ) → is_one is_punct_char piece ≡ true → (c : ℕ) × (encode_utf8_all piece ≡ c ∷ [])
punct_char [] h = absurd (cc h)
punct_char (c ∷ cs) h =
    let a = and_parts (is_punct_char c) (is_nil cs) h in
    (c, by cs a.1 (low_among (codes "=<>!~+-*/%^&@.,;:#$?|") c refl a.0))
  where
    by : (cs : List ℕ) → is_nil cs ≡ true → c < 128 → encode_utf8_all (c ∷ cs) ≡ c ∷ []
    by [] n l = ap (λ (x : List ℕ). x ++ []) (encode_ascii c l)
    by (d ∷ cs) n l = absurd (cc n)

punct_text : (piece rest : List ℕ) (index : Bool) → Had Punct piece rest index → (c : ℕ) × (encode_utf8_all piece ≡ c ∷ [])
unfolding had has_form
punct_text piece rest index h = punct_char piece (and_parts (is_one is_punct_char piece) _ h).0

piece_text : (k : Kind) (piece rest : List ℕ) (index : Bool) → Had k piece rest index → k ≡ Punct
    → (c : ℕ) × (encode_utf8_all (text_of_piece k piece) ≡ c ∷ [])
piece_text k piece rest index h e =
    let r = punct_text piece rest index (subst (λ (x : Kind). Had x piece rest index) e h) in
    (r.0, ap (λ (x : Kind). encode_utf8_all (text_of_piece x piece)) e ∙ r.1)

-- ---- each token

abbrev IsSingle : Token → Type 0
IsSingle t = t.kind ≡ Punct → (c : ℕ) × (t.text ≡ c ∷ [])

no_token : (before after : List Token) (t : Token) → [] ≡ before ++ t ∷ after → ⊥
no_token [] after t e = cc
no_token (x ∷ before) after t e = cc

parts_single : (b : Before) (parts : List Part) (rest : List ℕ) (at : ℕ) → Fit b parts rest → (before after : List Token) (t : Token)
    → tokens_from at parts ≡ before ++ t ∷ after → IsSingle t
parts_single b [] rest at f before after t e = absurd (no_token before after t e)
parts_single b (p ∷ ps) rest at f [] after t e =
    let token : Token = record {
      kind = p.kind;
      text = encode_utf8_all (text_of_piece p.kind p.piece);
      joint = is_joint p ps;
      at = at + size p.gap;
      len = size p.piece;
    } in
    let is : token ≡ t = cc in
    subst IsSingle is (piece_text p.kind p.piece (spell ps rest) (is_index_place b) f.1)
parts_single b (p ∷ ps) rest at f (x ∷ before) after t e =
    let place = at + size p.gap in
    let more : tokens_from (place + size p.piece) ps ≡ before ++ t ∷ after = cc in
    parts_single (step b p) ps rest (place + size p.piece) f.2 before after t more

pub lexes_single : (text : List ℕ) (start : ℕ) (ts : List Token) → Lexes text start ts → AreSingle ts
lexes_single text start ts l = λ before after t e. parts_single Other l.0 l.1 start l.2.fit before after t (sym l.3 ∙ e)

pub lexed_single : (ts : List Token) → AreLexed ts → AreSingle ts
lexed_single ts l =
    λ before after t e.
    let x = l.lexes in
    parts_single Other x.0 x.1 l.start x.2.fit (l.before ++ before) (after ++ l.after) t
    (sym x.3
    ∙ ap (λ (z : List Token). (l.before ++ z) ++ l.after) e
    ∙ append_assoc l.before (before ++ t ∷ after) l.after
    ∙ ap (λ (z : List Token). l.before ++ z) (append_assoc before (t ∷ after) l.after)
    ∙ sym (append_assoc l.before before (t ∷ (after ++ l.after))))
