-- A token of a tree is decided by its text: by the first character what it is, and that it opens no documentation.
use Rattle.std.proofs.Common.{◌≡◌, ℕ, zero, suc, ◌<◌, Bool, true, false, cond, not, ◌&&◌, ◌||◌, List, [], ◌∷◌, ◌++◌, codes, refl, sym, ap, ◌∙◌, subst, append-nil, arith, eq-eqb, get_or, Some, None}
use Rattle.std.specs.Prelude.{◌==◌}
use Rattle.std.specs.Str.{bytes_eq, chars, encode_utf8_all, is_utf8}
use Rattle.std.proofs.lemmas.Bool.{and_parts, and_from, eqb-true}
use Rattle.std.proofs.lemmas.Str.{IsUtf8-from_ascii, IsUtf8-from_is_utf8, chars-IsAscii, chars-append, chars-nil, encode_ascii, encodes-chars}
use Rattle.unicode_ident.proofs.Computing.{unicode_ident}
use Rattle.lay_piece.specs.Characters as char
use Rattle.lay_piece.specs.Chars.{is_nil, is_suffix, is_word, starts_word, in_word}
use Rattle.lay_piece.specs.Forms.{Had, had, has_form, may_precede, is_one}
use Rattle.lay_piece.specs.Found.{front_of, found}
use Rattle.lay_piece.specs.Quoted.{raw_step, doc_step}
use Rattle.lay_piece.specs.Scan.{run}
use Rattle.lay_piece.specs.declared.kind.Delim.TheVariants.{Paren, Bracket, Brace}
use Rattle.lay_piece.specs.declared.kind.Kind.{Kind}
use Rattle.lay_piece.specs.declared.kind.Kind.TheVariants.{Ident, RawIdent, Underscore, Lifetime, Int, Float, Punct, Opener, Closer, Doc}
use Rattle.lay_piece.proofs.Exact.{front_complete, found_kind, found_rest}
use Rattle.lay_token.specs.Lexes.{is_punct}
use Rattle.lay_token.proofs.Deciding.{bytes_same}
use Rattle.lay_form.specs.Pieces.{is_text_of}
use Rattle.lay_node.specs.tokens.Listing.{is_doc_kind}
use Rattle.lay_map.specs.spelling.Choice.{alike, closes, is_semicolon, opens}
use Rattle.lay_map.specs.spelling.Units.{Told}
use Rattle.lay_map.specs.Flow.{is_none, is_plain, is_proper, is_told, same}

-- any kind but documentation
abbrev pub is_leaf : Kind → Bool
is_leaf (Doc inner block) = false
is_leaf _ = true

-- ---- pieces alone

stops : (b : Bool) → not (b && false) ≡ true
stops true = refl
stops false = refl

either : (b x : Bool) → x ≡ true → cond b x x ≡ true
either true x h = h
either false x h = h

-- Nothing may follow each piece.
may_end : (k : Kind) (p : List ℕ) → is_leaf k ≡ true → may_precede k p [] ≡ true
unfolding may_precede
may_end (Doc inner block) p l = absurd (cc l)
may_end Int p l = stops _
may_end Float p l = either _ true refl
may_end Punct p l = stops _
may_end (Opener d) p l = refl
may_end (Closer d) p l = refl
may_end Ident p l = refl
may_end RawIdent p l = refl
may_end Underscore p l = refl
may_end Lifetime p l = refl
may_end _ p l = either _ true refl

alone : (k : Kind) (p : List ℕ) → is_leaf k ≡ true → has_form k p ≡ true → Had k p [] false
unfolding had
alone (Doc inner block) p l h = absurd (cc l)
alone Int p l h = and_from (has_form Int p) _ h (may_end Int p refl)
alone Float p l h = and_from (has_form Float p) _ h (may_end Float p refl)
alone k p l h = and_from (has_form k p) _ h (may_end k p l)

-- What stands at the beginning of a piece is the piece.
front_alone : (k : Kind) (p : List ℕ) → is_leaf k ≡ true → has_form k p ≡ true → front_of false p ≡ found k []
front_alone k p l h = ap (front_of false) (sym (append-nil p)) ∙ front_complete k p [] false (alone k p l h)

-- ---- texts that stand for nothing, or for something else

brackets : (cs : List ℕ) → (front_of false (123 ∷ cs) ≡ found (Opener Brace) cs) × (front_of false (125 ∷ cs) ≡ found (Closer Brace) cs)
    × (front_of false (59 ∷ cs) ≡ found Punct cs) × (front_of false (32 ∷ cs) ≡ None)
unfolding front_of unicode_ident starts_word
brackets cs = (refl, refl, refl, refl)

nothing_begins : (front_of false [] ≡ None) × (front_of false (codes "/**") ≡ None) × (front_of false (codes "/*!") ≡ None) × (front_of false (codes "r#") ≡ None)
unfolding front_of unicode_ident starts_word in_word run raw_step doc_step
nothing_begins = (refl, refl, refl, refl)

docs_begin : (front_of false (codes "///") ≡ found (Doc false false) []) × (front_of false (codes "//!") ≡ found (Doc true false) [])
unfolding front_of unicode_ident starts_word in_word run raw_step doc_step
docs_begin = (refl, refl)

no_word : (starts_word 123 ≡ false) × (starts_word 125 ≡ false) × (starts_word 59 ≡ false) × (starts_word 32 ≡ false) × (starts_word 47 ≡ false) × (in_word 35 ≡ false)
unfolding unicode_ident starts_word in_word
no_word = (refl, refl, refl, refl, refl, refl)

-- No piece has a form that nothing begins with, and none but documentation begins as that does.
no_form : (k : Kind) (p : List ℕ) → is_leaf k ≡ true → has_form k p ≡ true → front_of false p ≡ None → ⊥
no_form k p l h n = let e : found k [] ≡ None = sym (front_alone k p l h) ∙ n in cc

no_doc : (k : Kind) (p : List ℕ) (inner block : Bool) → is_leaf k ≡ true → has_form k p ≡ true → front_of false p ≡ found (Doc inner block) [] → ⊥
no_doc k p inner block l h n =
    let e : k ≡ Doc inner block = found_kind k (Doc inner block) [] [] (sym (front_alone k p l h) ∙ n) in
    let f : is_leaf (Doc inner block) ≡ true = subst (λ (x : Kind). is_leaf x ≡ true) e l in
    cc

-- ---- characters of a text

low_at : (c : ℕ) → c < 128 → (i : ℕ) → get_or (c ∷ []) i 0 < 128
low_at c h zero = h
low_at c h (suc i) = omega arith

first_low : (c : ℕ) (cs : List ℕ) → c < 128 → chars (c ∷ cs) ≡ c ∷ chars cs
first_low c cs h =
    chars-append (c ∷ []) cs (IsUtf8-from_ascii (c ∷ []) (low_at c h))
    ∙ ap (λ (x : List ℕ). x ++ chars cs) (chars-IsAscii (c ∷ []) (low_at c h))

low_two : (a b : ℕ) → a < 128 → b < 128 → chars (a ∷ b ∷ []) ≡ a ∷ b ∷ []
low_two a b h k = first_low a (b ∷ []) h ∙ ap (λ (x : List ℕ). a ∷ x) (first_low b [] k ∙ ap (λ (x : List ℕ). b ∷ x) chars-nil)

low_three : (a b c : ℕ) → a < 128 → b < 128 → c < 128 → chars (a ∷ b ∷ c ∷ []) ≡ a ∷ b ∷ c ∷ []
low_three a b c h k l = first_low a (b ∷ c ∷ []) h ∙ ap (λ (x : List ℕ). a ∷ x) (low_two b c k l)

-- a text of one character
one_char : (t : List ℕ) (c : ℕ) → is_utf8 t ≡ true → c < 128 → chars t ≡ c ∷ [] → t ≡ c ∷ []
one_char t c u h e =
    sym (encodes-chars t (IsUtf8-from_is_utf8 t u)) ∙ ap encode_utf8_all e ∙ ap (λ (x : List ℕ). x ++ []) (encode_ascii c h)

-- ---- tokens other than raw identifiers

abbrev is_whole : Kind → Bool
is_whole RawIdent = false
is_whole (Doc inner block) = false
is_whole _ = true

whole_leaf : (k : Kind) → is_whole k ≡ true → is_leaf k ≡ true
whole_leaf (Doc inner block) w = w
whole_leaf RawIdent w = refl
whole_leaf _ w = refl

text_form : (k : Kind) (t : List ℕ) → is_whole k ≡ true → is_text_of k t ≡ true → (is_utf8 t ≡ true) × (has_form k (chars t) ≡ true)
unfolding is_text_of
text_form RawIdent t w h = absurd (cc w)
text_form (Doc inner block) t w h = absurd (cc w)
text_form _ t w h = and_parts (is_utf8 t) _ h

raw_form : (t : List ℕ) → is_text_of RawIdent t ≡ true → is_word (chars t) ≡ true
unfolding is_text_of has_form
raw_form t h =
    let p = and_parts (is_utf8 t) _ h in
    (and_parts (is_word (chars t)) _ (and_parts (is_suffix (chars t)) _ p.1).0).0

-- a text that isn't this one
not_text : (t s : List ℕ) → ((e : t ≡ s) → ⊥) → bytes_eq t s ≡ false
not_text t s n = by (bytes_eq t s) refl
  where
    by : (b : Bool) → bytes_eq t s ≡ b → bytes_eq t s ≡ false
    by true e = absurd (n (bytes_same t s e))
    by false e = e

-- the five texts that are no token's
abbrev NotSo : List ℕ → Type 0
NotSo t = (bytes_eq t (codes "//!") ≡ false) × (bytes_eq t (codes "/*!") ≡ false) × (bytes_eq t (codes "/**") ≡ false)
    × (bytes_eq t (codes "///") ≡ false) × (bytes_eq t (codes "r#") ≡ false)

plain_by : (t : List ℕ) → NotSo t → is_plain t ≡ true
plain_by t n = at (bytes_eq t (codes "//!")) (bytes_eq t (codes "/*!")) (bytes_eq t (codes "/**")) (bytes_eq t (codes "///")) (bytes_eq t (codes "r#")) n.0 n.1 n.2 n.3 n.4
  where
    at : (a b c d e : Bool) → a ≡ false → b ≡ false → c ≡ false → d ≡ false → e ≡ false
        → is_none (cond ((a || b) || (c || b) || d) (Some (record { inner = a || b; block = c || b })) None) && not e ≡ true
    at false false false false false f g h i j = refl
    at true b c d e f g h i j = absurd (cc f)
    at false true c d e f g h i j = absurd (cc g)
    at false false true d e f g h i j = absurd (cc h)
    at false false false true e f g h i j = absurd (cc i)
    at false false false false true f g h i j = absurd (cc j)

whole_plain : (k : Kind) (t : List ℕ) → is_whole k ≡ true → is_text_of k t ≡ true → NotSo t
whole_plain k t w h =
    let l = whole_leaf k w in
    let p = (text_form k t w h).1 in (
      not_text t (codes "//!") (λ e. no_doc k (codes "//!") true false l (form (codes "//!") (low_three 47 47 33 (omega arith) (omega arith) (omega arith)) e) docs_begin.1),
      not_text t (codes "/*!") (λ e. no_form k (codes "/*!") l (form (codes "/*!") (low_three 47 42 33 (omega arith) (omega arith) (omega arith)) e) nothing_begins.2),
      not_text t (codes "/**") (λ e. no_form k (codes "/**") l (form (codes "/**") (low_three 47 42 42 (omega arith) (omega arith) (omega arith)) e) nothing_begins.1),
      not_text t (codes "///") (λ e. no_doc k (codes "///") false false l (form (codes "///") (low_three 47 47 47 (omega arith) (omega arith) (omega arith)) e) docs_begin.0),
      not_text t (codes "r#") (λ e. no_form k (codes "r#") l (form (codes "r#") (low_two 114 35 (omega arith) (omega arith)) e) nothing_begins.3),
    )
  where
    form : (s : List ℕ) → chars s ≡ s → t ≡ s → has_form k s ≡ true
    form s c e = subst (λ (x : List ℕ). has_form k x ≡ true) (ap chars e ∙ c) (text_form k t w h).1

-- a raw identifier begins as a word does
raw_first : (t : List ℕ) (c : ℕ) (cs : List ℕ) → is_text_of RawIdent t ≡ true → c < 128 → starts_word c ≡ false → t ≡ c ∷ cs → ⊥
raw_first t c cs h l n e =
    let w : is_word (c ∷ chars cs) ≡ true = subst (λ (x : List ℕ). is_word x ≡ true) (ap chars e ∙ first_low c cs l) (raw_form t h) in
    let s : starts_word c ≡ true = (and_parts (starts_word c) _ w).0 in
    cc

raw_plain : (t : List ℕ) → is_text_of RawIdent t ≡ true → NotSo t
raw_plain t h = (
  not_text t (codes "//!") (λ e. raw_first t 47 (codes "/!") h (omega arith) no_word.4 e),
  not_text t (codes "/*!") (λ e. raw_first t 47 (codes "*!") h (omega arith) no_word.4 e),
  not_text t (codes "/**") (λ e. raw_first t 47 (codes "**") h (omega arith) no_word.4 e),
  not_text t (codes "///") (λ e. raw_first t 47 (codes "//") h (omega arith) no_word.4 e),
  not_text t (codes "r#") (λ e.
      let w : is_word (codes "r#") ≡ true =
      subst (λ (x : List ℕ). is_word x ≡ true) (ap chars e ∙ low_two 114 35 (omega arith) (omega arith)) (raw_form t h) in
      let p = and_parts (starts_word 114) (in_word 35 && true) w in
      let q : in_word 35 ≡ true = (and_parts (in_word 35) true p.1).0 in
      let n = no_word.5 in
      cc),
)

pub leaf_plain : (k : Kind) (t : List ℕ) → is_leaf k ≡ true → is_text_of k t ≡ true → is_plain t ≡ true
leaf_plain (Doc inner block) t l h = absurd (cc l)
leaf_plain RawIdent t l h = plain_by t (raw_plain t h)
leaf_plain k t l h = plain_by t (whole_plain k t refl h)

-- ---- the first character

opens_brace : (kind : Kind) → opens kind ≡ true → kind ≡ Opener Brace
opens_brace (Opener Brace) h = refl
opens_brace (Opener Paren) h = absurd (cc h)
opens_brace (Opener Bracket) h = absurd (cc h)
opens_brace _ h = absurd (cc h)

closes_brace : (kind : Kind) → closes kind ≡ true → kind ≡ Closer Brace
closes_brace (Closer Brace) h = refl
closes_brace (Closer Paren) h = absurd (cc h)
closes_brace (Closer Bracket) h = absurd (cc h)
closes_brace _ h = absurd (cc h)

-- where the first character is none of those that tell
plain_told : (kind : Kind) (c : ℕ) (cs : List ℕ) → (c == char.open_brace) ≡ false → (c == char.close_brace) ≡ false → (c == char.semicolon) ≡ false
    → (c == char.blank) ≡ false → opens kind ≡ false → closes kind ≡ false → is_semicolon kind (c ∷ cs) ≡ false → is_told kind c cs ≡ true
plain_told kind c cs a b d e o k s =
    at (opens kind) (closes kind) (is_semicolon kind (c ∷ cs)) (c == char.open_brace) (c == char.close_brace) (c == char.semicolon) (c == char.blank) o k s a b d e
  where
    at : (o k s a b d e : Bool) → o ≡ false → k ≡ false → s ≡ false → a ≡ false → b ≡ false → d ≡ false → e ≡ false
        → same o a && (same k b && (same s d && (not e && (not o || is_nil cs)))) ≡ true
    at false false false false false false false f g h i j l m = refl
    at true k s a b d e f g h i j l m = absurd (cc f)
    at false true s a b d e f g h i j l m = absurd (cc g)
    at false false true a b d e f g h i j l m = absurd (cc h)
    at false false false true b d e f g h i j l m = absurd (cc i)
    at false false false false true d e f g h i j l m = absurd (cc j)
    at false false false false false true e f g h i j l m = absurd (cc l)
    at false false false false false false true f g h i j l m = absurd (cc m)

no_semicolon : (kind : Kind) (c : ℕ) (cs : List ℕ) → (c == char.semicolon) ≡ false → is_semicolon kind (c ∷ cs) ≡ false
no_semicolon kind c cs n = by (is_semicolon kind (c ∷ cs)) refl
  where
    by : (b : Bool) → is_semicolon kind (c ∷ cs) ≡ b → is_semicolon kind (c ∷ cs) ≡ false
    by false e = e
    by true e =
        let q : codes ";" ≡ c ∷ cs = bytes_same (codes ";") (c ∷ cs) (and_parts (is_punct kind) _ e).1 in
        let f : char.semicolon ≡ c = cc in
        let g : (c == char.semicolon) ≡ true = ap (λ (x : ℕ). x == char.semicolon) (sym f) in
        absurd (let no : ⊥ = cc in no)

opener_form : has_form (Opener Brace) ≡ is_one (λ (x : ℕ). x == 123)
unfolding has_form
opener_form = refl

closer_form : has_form (Closer Brace) ≡ is_one (λ (x : ℕ). x == 125)
unfolding has_form
closer_form = refl

whole_told : (k : Kind) (c : ℕ) (cs : List ℕ) → is_whole k ≡ true → is_text_of k (c ∷ cs) ≡ true → is_told k c cs ≡ true
whole_told k c cs w h = by_open (c == 123) refl
  where
    parts : (is_utf8 (c ∷ cs) ≡ true) × (has_form k (chars (c ∷ cs)) ≡ true)
    parts = text_form k (c ∷ cs) w h

    -- where it begins so, and this begins so
    at : (n : ℕ) (l : Kind) → n < 128 → c ≡ n → front_of false (n ∷ chars cs) ≡ found l (chars cs) → (k ≡ l) × (chars cs ≡ [])
    at n l b e f =
        let q : chars (c ∷ cs) ≡ n ∷ chars cs = ap (λ (x : ℕ). chars (x ∷ cs)) e ∙ first_low n cs b in
        let r : found k [] ≡ found l (chars cs) = sym (front_alone k (chars (c ∷ cs)) (whole_leaf k w) parts.1) ∙ ap (front_of false) q ∙ f in
        (found_kind k l [] (chars cs) r, sym (found_rest k l [] (chars cs) r))

    -- the text after its first character
    alone_at : (n : ℕ) → n < 128 → c ≡ n → chars cs ≡ [] → cs ≡ []
    alone_at n b e f =
        let q : chars (c ∷ cs) ≡ n ∷ [] = ap (λ (x : ℕ). chars (x ∷ cs)) e ∙ first_low n cs b ∙ ap (λ (x : List ℕ). n ∷ x) f in
        let r : c ∷ cs ≡ n ∷ [] = one_char (c ∷ cs) n parts.0 b q in
        cc

    told_at : (n : ℕ) (l : Kind) → n < 128 → c ≡ n → front_of false (n ∷ chars cs) ≡ found l (chars cs) → is_told l n [] ≡ true → is_told k c cs ≡ true
    told_at n l b e f g =
        let q = at n l b e f in
        let r = alone_at n b e q.1 in
        subst (λ (x : Kind). is_told x c cs ≡ true) (sym q.0)
        (subst (λ (x : ℕ). is_told l x cs ≡ true) (sym e) (subst (λ (x : List ℕ). is_told l n x ≡ true) (sym r) g))

    brace_form : (l : Kind) (n : ℕ) → n < 128 → k ≡ l → has_form l ≡ is_one (λ (x : ℕ). x == n) → (c == n) ≡ false → ⊥
    brace_form l n b e f g =
        let p : is_one (λ (x : ℕ). x == n) (chars (c ∷ cs)) ≡ true =
        subst (λ (q : List ℕ → Bool). q (chars (c ∷ cs)) ≡ true) f (subst (λ (x : Kind). has_form x (chars (c ∷ cs)) ≡ true) e parts.1) in
        let r : c ∷ cs ≡ n ∷ [] = one_char (c ∷ cs) n parts.0 b (one (chars (c ∷ cs)) p) in
        let s : c ≡ n = cc in
        let t : (c == n) ≡ true = ap (λ (x : ℕ). x == n) s ∙ self n in
        cc
      where
        one : (x : List ℕ) → is_one (λ (y : ℕ). y == n) x ≡ true → x ≡ n ∷ []
        one [] q = absurd (cc q)
        one (d ∷ []) q = ap (λ (y : ℕ). y ∷ []) (eqb-true d n (and_parts (d == n) true q).0)
        one (d ∷ e ∷ x) q = let z = (and_parts (d == n) false q).1 in absurd (cc z)

        self : (m : ℕ) → (m == m) ≡ true
        self m = eq-eqb m m refl

    by_blank : (c == 123) ≡ false → (c == 125) ≡ false → (c == 59) ≡ false → (b : Bool) → (c == 32) ≡ b → is_told k c cs ≡ true
    by_blank x y z true e =
        let f : c ≡ 32 = eqb-true c 32 e in
        absurd (no_form k (chars (c ∷ cs)) (whole_leaf k w) parts.1
        (ap (λ (v : ℕ). front_of false (chars (v ∷ cs))) f ∙ ap (front_of false) (first_low 32 cs (omega arith)) ∙ (brackets (chars cs)).3))
    by_blank x y z false e =
        plain_told k c cs x y z e
        (not_opening (opens k) refl) (not_closing (closes k) refl) (no_semicolon k c cs z)
      where
        not_opening : (b : Bool) → opens k ≡ b → opens k ≡ false
        not_opening false f = f
        not_opening true f = absurd (brace_form (Opener Brace) 123 (omega arith) (opens_brace k f) opener_form x)

        not_closing : (b : Bool) → closes k ≡ b → closes k ≡ false
        not_closing false f = f
        not_closing true f = absurd (brace_form (Closer Brace) 125 (omega arith) (closes_brace k f) closer_form y)

    by_semicolon : (c == 123) ≡ false → (c == 125) ≡ false → (b : Bool) → (c == 59) ≡ b → is_told k c cs ≡ true
    by_semicolon x y true e = told_at 59 Punct (omega arith) (eqb-true c 59 e) (brackets (chars cs)).2 refl
    by_semicolon x y false e = by_blank x y e (c == 32) refl

    by_close : (c == 123) ≡ false → (b : Bool) → (c == 125) ≡ b → is_told k c cs ≡ true
    by_close x true e = told_at 125 (Closer Brace) (omega arith) (eqb-true c 125 e) (brackets (chars cs)).1 refl
    by_close x false e = by_semicolon x e (c == 59) refl

    by_open : (b : Bool) → (c == 123) ≡ b → is_told k c cs ≡ true
    by_open true e = told_at 123 (Opener Brace) (omega arith) (eqb-true c 123 e) (brackets (chars cs)).0 refl
    by_open false e = by_close e (c == 125) refl

raw_told : (c : ℕ) (cs : List ℕ) → is_text_of RawIdent (c ∷ cs) ≡ true → is_told RawIdent c cs ≡ true
raw_told c cs h =
    plain_told RawIdent c cs (other 123 (omega arith) no_word.0) (other 125 (omega arith) no_word.1) (other 59 (omega arith) no_word.2)
    (other 32 (omega arith) no_word.3) refl refl refl
  where
    other : (n : ℕ) → n < 128 → starts_word n ≡ false → (c == n) ≡ false
    other n b s = by (c == n) refl
      where
        by : (d : Bool) → (c == n) ≡ d → (c == n) ≡ false
        by false e = e
        by true e = absurd (raw_first (c ∷ cs) n cs h b s (ap (λ (x : ℕ). x ∷ cs) (eqb-true c n e)))

pub leaf_proper : (k : Kind) (t : List ℕ) → is_leaf k ≡ true → is_text_of k t ≡ true → is_proper (Told k t) ≡ true
leaf_proper (Doc inner block) t l h = absurd (cc l)
leaf_proper RawIdent [] l h =
    let e : is_word [] ≡ true = subst (λ (x : List ℕ). is_word x ≡ true) chars-nil (raw_form [] h) in
    absurd (cc e)
leaf_proper RawIdent (c ∷ cs) l h = raw_told c cs h
leaf_proper k [] l h =
    absurd (no_form k (chars []) l (text_form k [] refl h).1 (ap (front_of false) chars-nil ∙ nothing_begins.0))
leaf_proper k (c ∷ cs) l h = whole_told k c cs refl h

-- ---- tokens that are words, names or literals

-- no mark, no delimiter and no documentation
abbrev pub is_bare : Kind → Bool
is_bare Punct = false
is_bare (Opener d) = false
is_bare (Closer d) = false
is_bare (Doc inner block) = false
is_bare _ = true

pub bare_leaf : (k : Kind) → is_bare k ≡ true → is_leaf k ≡ true
bare_leaf (Doc inner block) b = absurd (cc b)
bare_leaf _ b = refl

pub bare_opens : (k : Kind) → is_bare k ≡ true → opens k ≡ false
bare_opens (Opener d) b = absurd (cc b)
bare_opens _ b = refl

pub bare_closes : (k : Kind) → is_bare k ≡ true → closes k ≡ false
bare_closes (Closer d) b = absurd (cc b)
bare_closes _ b = refl

-- what begins no such token
marks : (cs : List ℕ) → (front_of false (44 ∷ cs) ≡ found Punct cs) × (front_of false (60 ∷ cs) ≡ found Punct cs)
    × (front_of false (62 ∷ cs) ≡ found Punct cs) × (front_of false (124 ∷ cs) ≡ found Punct cs)
unfolding front_of unicode_ident starts_word
marks cs = (refl, refl, refl, refl)

mark_words : (starts_word 44 ≡ false) × (starts_word 60 ≡ false) × (starts_word 62 ≡ false) × (starts_word 124 ≡ false)
unfolding unicode_ident starts_word
mark_words = (refl, refl, refl, refl)

-- A character with which only a mark begins.
pub record IsMark (n : ℕ) : Type 0 where
  pub low : n < 128
  pub found_is : (cs : List ℕ) → front_of false (n ∷ cs) ≡ found Punct cs
  pub no_word_is : starts_word n ≡ false

pub comma_mark : IsMark 44
comma_mark = record { low = omega arith; found_is = λ cs. (marks cs).0; no_word_is = mark_words.0 }

pub less_mark : IsMark 60
less_mark = record { low = omega arith; found_is = λ cs. (marks cs).1; no_word_is = mark_words.1 }

pub greater_mark : IsMark 62
greater_mark = record { low = omega arith; found_is = λ cs. (marks cs).2; no_word_is = mark_words.2 }

pub bar_mark : IsMark 124
bar_mark = record { low = omega arith; found_is = λ cs. (marks cs).3; no_word_is = mark_words.3 }

pub semicolon_mark : IsMark 59
semicolon_mark = record { low = omega arith; found_is = λ cs. (brackets cs).2; no_word_is = no_word.2 }

-- No bare token begins so.
no_mark : (n : ℕ) → IsMark n → (k : Kind) (c : ℕ) (cs : List ℕ) → is_bare k ≡ true → is_text_of k (c ∷ cs) ≡ true → c ≡ n → ⊥
no_mark n m RawIdent c cs b h e = raw_first (c ∷ cs) n cs h m.low m.no_word_is (ap (λ (x : ℕ). x ∷ cs) e)
no_mark n m (Doc inner block) c cs b h e = absurd (cc b)
no_mark n m k c cs b h e =
    let q : chars (c ∷ cs) ≡ n ∷ chars cs = ap (λ (x : ℕ). chars (x ∷ cs)) e ∙ first_low n cs m.low in
    let r : found k [] ≡ found Punct (chars cs) =
    sym (front_alone k (chars (c ∷ cs)) (bare_leaf k b) (text_form k (c ∷ cs) refl h).1) ∙ ap (front_of false) q ∙ m.found_is (chars cs) in
    let s : k ≡ Punct = found_kind k Punct [] (chars cs) r in
    let t : is_bare Punct ≡ true = subst (λ (x : Kind). is_bare x ≡ true) s b in
    cc

pub bare_apart : (n : ℕ) → IsMark n → (k : Kind) (text : List ℕ) → is_bare k ≡ true → is_text_of k text ≡ true → alike (n ∷ []) text ≡ false
bare_apart n m k [] b h = refl
bare_apart n m k (c ∷ cs) b h = by (n == c) refl
  where
    by : (d : Bool) → (n == c) ≡ d → (n == c) ≡ false
    by false e = e
    by true e = absurd (no_mark n m k c cs b h (sym (eqb-true n c e)))

-- It is no `,` and no arrow.
pub bare_texts : (k : Kind) (text : List ℕ) → is_bare k ≡ true → is_text_of k text ≡ true
    → (bytes_eq text (codes ",") ≡ false) × (bytes_eq text (codes " => ") ≡ false)
bare_texts k [] b h = (refl, refl)
bare_texts k (c ∷ cs) b h = (
  not_text (c ∷ cs) (codes ",") (λ e. let q : c ≡ 44 = cc in no_mark 44 comma_mark k c cs b h q),
  not_text (c ∷ cs) (codes " => ") (λ e.
      let q : c ≡ 32 = cc in
      let p : is_told k c cs ≡ true = leaf_proper k (c ∷ cs) (bare_leaf k b) h in
      let r : is_told k 32 cs ≡ true = subst (λ (x : ℕ). is_told k x cs ≡ true) q p in
      blank_not k cs r),
)
  where
    blank_not : (l : Kind) (xs : List ℕ) → is_told l 32 xs ≡ true → ⊥
    blank_not l xs p = at (opens l) (closes l) (is_semicolon l (32 ∷ xs)) (is_nil xs) p
      where
        at : (o q s n : Bool) → same o false && (same q false && (same s false && (not true && (not o || n)))) ≡ true → ⊥
        at false false false n p = absurd (cc p)
        at true q s n p = absurd (cc p)
        at false true s n p = absurd (cc p)
        at false false true n p = absurd (cc p)

-- ---- tokens of a token list

whole_texts : (k : Kind) (text : List ℕ) → is_whole k ≡ true → is_text_of k text ≡ true
    → (bytes_eq text (codes ",") ≡ true → is_punct k ≡ true) × (bytes_eq text (codes " => ") ≡ false)
whole_texts k text w h = (λ e. comma_kind (bytes_same text (codes ",") e), not_text text (codes " => ") (λ e. arrow e))
  where
    front : front_of false (chars text) ≡ found k []
    front = front_alone k (chars text) (whole_leaf k w) (text_form k text w h).1

    comma_kind : text ≡ codes "," → is_punct k ≡ true
    comma_kind e =
        let q : chars text ≡ 44 ∷ [] = ap chars e ∙ first_low 44 [] (omega arith) ∙ ap (λ (x : List ℕ). 44 ∷ x) chars-nil in
        let r : found k [] ≡ found Punct [] = sym front ∙ ap (front_of false) q ∙ (marks []).0 in
        ap is_punct (found_kind k Punct [] [] r)

    arrow : text ≡ codes " => " → ⊥
    arrow e =
        no_form k (chars text) (whole_leaf k w) (text_form k text w h).1
        (ap (λ (x : List ℕ). front_of false (chars x)) e ∙ ap (front_of false) (first_low 32 (codes "=> ") (omega arith)) ∙ (brackets (chars (codes "=> "))).3)

-- A `,` is a mark, and no token is an arrow with blanks.
pub listed_texts : (k : Kind) (text : List ℕ) → is_doc_kind k ≡ false → is_text_of k text ≡ true
    → (bytes_eq text (codes ",") ≡ true → is_punct k ≡ true) × (bytes_eq text (codes " => ") ≡ false)
listed_texts (Doc inner block) text d h = absurd (cc d)
listed_texts RawIdent text d h = let p = bare_texts RawIdent text refl h in (λ e. absurd (let no : true ≡ false = sym e ∙ p.0 in cc no), p.1)
listed_texts k text d h = whole_texts k text refl h
