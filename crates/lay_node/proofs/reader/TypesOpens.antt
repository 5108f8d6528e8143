-- What opens generic arguments in a text: the character `<`, where it begins neither `<=` nor `<<=`.
use Rattle.std.proofs.Common.{◌≡◌, ℕ, Bool, true, false, not, ◌&&◌, ◌||◌, List, [], ◌∷◌, codes, inl, inr, refl, sym, subst, ◌∙◌}
use Rattle.std.specs.Prelude.{◌==◌, encode_utf8_all}
use Rattle.std.specs.List.{list_all, list_any}
use Rattle.std.specs.Str.{chars, is_utf8, bytes_eq}
use Rattle.std.proofs.lemmas.Bool.{and_parts, or_cases, eqb-true, cases_Bool, false_from_ne_true}
use Rattle.std.proofs.lemmas.Str.{encodes-chars, IsUtf8-from_is_utf8}
use Rattle.lay_piece.specs.Forms.{had, has_form, may_precede, is_one, is_punct_char}
use Rattle.lay_piece.specs.declared.kind.Kind.TheVariants.{Punct}
use Rattle.lay_token.specs.Lexes.{is_punct}
use Rattle.lay_token.specs.Operators.{op_at, is_op}
use Rattle.lay_token.specs.declared.token.Token.{Token}
use Rattle.lay_token.proofs.Deciding.{punct_is, bytes_same}
use Rattle.lay_node.specs.Ahead.{Tokens, first, tail, is_mark, opens_args}
use Rattle.lay_node.specs.reader.Exact.{InText}
use Rattle.lay_node.specs.tokens.Lexed.{is_had}
use Rattle.lay_node.specs.tokens.Listing.{listed_by}
use Rattle.lay_node.specs.tokens.Pairs.{is_index_place}
use Rattle.lay_node.proofs.Fronts.{mark_one, no_op, op_text}
use Rattle.lay_node.proofs.InText.{had_first}
use Rattle.lay_node.proofs.reader.TypesFronts.{opens_args_is}

-- ---- punctuation of a text

-- A character that is spelled by itself.
abbrev is_low : ℕ → Bool
is_low c = bytes_eq (encode_utf8_all (c ∷ [])) (c ∷ [])

low_among : (xs : List ℕ) (c : ℕ) → list_all is_low xs ≡ true → list_any (λ d. d == c) xs ≡ true → is_low c ≡ true
low_among [] c h g = absurd (cc)
low_among (x ∷ xs) c h g =
    let a = and_parts (is_low x) (list_all is_low xs) h in
    elim (or_cases (x == c) (list_any (λ d. d == c) xs) g) [
      | inl e ↦ subst (λ z. is_low z ≡ true) (eqb-true x c e) a.0
      | inr e ↦ low_among xs c a.1 e
    ]

punct_char_low : (c : ℕ) → is_punct_char c ≡ true → is_low c ≡ true
unfolding lib.Utf8.encode
punct_char_low c h = low_among (codes "=<>!~+-*/%^&@.,;:#$?|") c refl h

one_char : (piece : List ℕ) → is_one is_punct_char piece ≡ true → (c : ℕ) × (encode_utf8_all piece ≡ c ∷ [])
one_char [] h = absurd (cc)
one_char (c ∷ []) h = (c, bytes_same (encode_utf8_all (c ∷ [])) (c ∷ []) (punct_char_low c (and_parts (is_punct_char c) true h).0))
one_char (c ∷ d ∷ cs) h = let e = (and_parts (is_punct_char c) false h).1 in absurd (cc)

punct_text : (text : List ℕ) (joint place : Bool) → is_had place (listed_by Punct text joint) ≡ true → (c : ℕ) × (text ≡ c ∷ [])
unfolding had has_form
punct_text text joint place h =
    let a = and_parts (is_utf8 text) (had Punct (chars text) [] place) h in
    let f = and_parts (has_form Punct (chars text)) (may_precede Punct (chars text) []) a.1 in
    let o = one_char (chars text) f.0 in
    (o.0, sym (encodes-chars text (IsUtf8-from_is_utf8 text a.0)) ∙ o.1)

-- Punctuation that stands in a text is one character.
pub punct_one : (t : Token) (ts : Tokens) → InText (t ∷ ts) → is_punct t.kind ≡ true → (c : ℕ) × (t.text ≡ c ∷ [])
punct_one t ts i h =
    punct_text t.text t.joint (is_index_place i.before i.last)
    (subst (λ k. is_had (is_index_place i.before i.last) (listed_by k t.text t.joint) ≡ true) (punct_is t.kind h) (had_first t ts i))

-- ---- what opens generic arguments

-- An operator that begins with `<` begins with it as a token.
less_first : (cs : List ℕ) (ts : Tokens) → InText ts → is_op (60 ∷ cs) ts ≡ true → first (is_mark (codes "<")) ts ≡ true
unfolding op_at
less_first cs [] i h = absurd (cc)
less_first cs (t ∷ ts) i h =
    let o = op_text 60 cs t ts h in
    let k = op_kind (60 ∷ cs) t ts h in
    let one = punct_one t ts i k in
    let same : t.text ≡ 60 ∷ [] = single o.0 one.0 (sym o.1 ∙ one.1) o.1 in
    rw (k, same) refl
  where
    op_kind : (op : List ℕ) (u : Token) (us : Tokens) → is_op op (u ∷ us) ≡ true → is_punct u.kind ≡ true
    op_kind op u us e = elim (cases_Bool (is_punct u.kind)) [
      | inl p ↦ p
      | inr p ↦ let n = no_op op u us p in absurd (cc)
    ]

    single : (more : List ℕ) (c : ℕ) → 60 ∷ more ≡ c ∷ [] → t.text ≡ 60 ∷ more → t.text ≡ 60 ∷ []
    single [] c e f = f
    single (x ∷ more) c e f = absurd (cc)

-- In a text, generic arguments are opened by a `<` that is the first character of neither `<=` nor `<<=`.
pub opens_args_in_text : (ts : Tokens) → InText ts → opens_args ts ≡ (first (is_mark (codes "<")) ts && not (is_op (codes "<=") ts || is_op (codes "<<=") ts))
opens_args_in_text ts i = elim (cases_Bool (first (is_mark (codes "<")) ts)) [
  | inl m ↦ opens_args_is ts (tail ts) (mark_one (codes "<") ts m) ∙ (rw m refl)
  | inr m ↦
      let none : (cs : List ℕ) → is_op (60 ∷ cs) ts ≡ false =
      λ cs. false_from_ne_true (is_op (60 ∷ cs) ts) (λ e. let f = less_first cs ts i e in absurd (cc)) in
      rw (m, none [], none (codes "<"), none (codes "-")) refl
]
