-- The scan is complete: it finds each word, literal, documentation and single character that `Had`
-- accepts.
use Rattle.std.proofs.Common.{◌≡◌, inl, inr, ℕ, List, [], ◌∷◌, ◌++◌, Bool, true, false, cond, not, ◌&&◌, ◌||◌, Option, Some, None, sym, refl, ap, ◌∙◌, subst}
use Rattle.std.specs.Prelude.{◌==◌, codes, encode_utf8_all}
use Rattle.std.specs.List.{list_all, list_any}
use Rattle.std.specs.Char.{is_ascii_digit}
use Rattle.std.proofs.lemmas.Bool.{and_parts, or_cases, eqb-true, ne_eqb, not-true}
use Rattle.unicode_ident.proofs.Computing.{unicode_ident}
use Rattle.lay_piece.specs.Chars.{begins, after, behind, is_nil, is_word, is_suffix, starts_word, in_word}
use Rattle.lay_piece.specs.Scan.{Go, Bad, run}
use Rattle.lay_piece.specs.Quoted.{Deep, doc_step, Hashes, Inside, raw_step, First, Last, char_step, is_lone}
use Rattle.lay_piece.specs.Word.{is_path_word}
use Rattle.lay_piece.specs.Forms.{had, Had, has_form, may_precede, after_literal, after_raw, after_char, after_string, is_punct_char, is_whole, is_one}
use Rattle.lay_piece.specs.Found.{found, raw_name, line_doc, block_doc, line_comment, block_comment, slash, is_mark, is_tick, in_doc_line, is_star_or_slash, after_suffix, front_of}
use Rattle.lay_piece.specs.declared.piece.quoted.Contents.{Contents}
use Rattle.lay_piece.specs.declared.piece.quoted.Contents.TheVariants as of
use Rattle.lay_piece.specs.declared.kind.Delim.{Delim}
use Rattle.lay_piece.specs.declared.kind.Delim.TheVariants.{Paren, Bracket, Brace}
use Rattle.lay_piece.specs.declared.kind.Kind.{Kind}
use Rattle.lay_piece.specs.declared.kind.Kind.TheVariants.{Ident, RawIdent, Underscore, Lifetime, Char, Str, RawStr, Byte, ByteStr, RawByteStr, CStr, RawCStr, Punct, Opener, Closer, Doc}
use Rattle.lay_piece.proofs.Fronts.{after-append, front-append, begins-append}
use Rattle.lay_piece.proofs.Literals.{is_literal, literal_found, behind_parts, starts_in, run-append}
use Rattle.lay_piece.proofs.Runs.{next, run-nil, run-cons, run-step}
use Rattle.lay_piece.proofs.Booleans.{not_not, last_two, cond_true}

-- words
three : (a b c d : Bool) → a || b || c || d ≡ false → (a ≡ false) × (b || c || d ≡ false)
three true b c d h = cc
three false b c d h = (refl, h)

rest_parts : (r : List ℕ) → not (begins (λ c. in_word c || c == 34 || c == 39 || c == 35) r) ≡ true
    → (begins in_word r ≡ false) × (begins is_mark r ≡ false)
rest_parts [] h = (refl, refl)
rest_parts (c ∷ r) h = three (in_word c) (c == 34) (c == 39) (c == 35) (not-true _ h)

pub ident_found : (p r : List ℕ) (i : Bool) → Had Ident p r i → front_of i (p ++ r) ≡ found Ident r
unfolding had has_form may_precede front_of
ident_found [] r i h = cc
ident_found (c ∷ ds) r i h =
    let parts = and_parts (starts_word c && list_all in_word ds && not (c == 95 && is_nil ds)) _ h in
    let form = and_parts (starts_word c && list_all in_word ds) _ parts.0 in
    let word = and_parts (starts_word c) (list_all in_word ds) form.0 in
    let rest = rest_parts r parts.1 in
    let tail = after-append in_word ds r word.1 rest.0 in
    let goes = begins-append in_word ds r word.1 rest.0 in
    rw (word.0, tail, rest.1, goes, not_not (is_nil ds), not-true (c == 95 && is_nil ds) form.1) refl

pub underscore_starts : starts_word 95 ≡ true
unfolding unicode_ident starts_word
underscore_starts = refl

pub underscore_found : (p r : List ℕ) (i : Bool) → Had Underscore p r i → front_of i (p ++ r) ≡ found Underscore r
unfolding had has_form may_precede front_of
underscore_found [] r i h = cc
underscore_found (c ∷ d ∷ ds) r i h =
    let parts = and_parts (c == 95 && false) _ h in let none = and_parts (c == 95) false parts.0 in cc
underscore_found (c ∷ []) r i h =
    let parts = and_parts (c == 95 && true) _ h in
    let same = and_parts (c == 95) true parts.0 in
    let rest = rest_parts r parts.1 in
    let starts : starts_word c ≡ true =
    let P : ℕ → Type 0 = λ v. starts_word v ≡ true in subst P (sym (eqb-true c 95 same.0)) underscore_starts in
    let tail = after-append in_word [] r refl rest.0 in
    rw (starts, tail, rest.1, same.0, rest.0) refl

-- What the scan answers to a text that begins with a prefix.
pub mark_in : (begins is_mark (34 ∷ []) ≡ true) × (in_word 34 ≡ false) × (in_word 39 ≡ false)
    × (in_word 35 ≡ false) × (in_word 114 ≡ true)
unfolding unicode_ident in_word
mark_in = (refl, refl, refl, refl, refl)

prefix_starts : (starts_word 114 ≡ true) × (starts_word 98 ≡ true) × (starts_word 99 ≡ true)
unfolding unicode_ident starts_word
prefix_starts = (refl, refl, refl)

-- A raw string begins with a hash or a quote after its r.
raw_begin : (y : Contents) (c : ℕ) (cs z : List ℕ) → after_raw y (c ∷ cs) ≡ Some z → c == 34 || c == 35 ≡ true
unfolding raw_step
raw_begin y c cs z h = by_case (c == 35) (c == 34) (sym (run-cons (raw_step y) (Hashes 0) c cs) ∙ h)
  where
    by_case : (a b : Bool)
        → next (raw_step y) cs (cond (a && true) (Go (Hashes 1)) (cond b (Go (Inside 0)) Bad)) ≡ Some z
        → b || a ≡ true
    by_case true true h = refl
    by_case true false h = refl
    by_case false true h = refl
    by_case false false h = cc

mark_stops : (c : ℕ) (cs : List ℕ) → c == 34 || c == 35 ≡ true
    → (after in_word (c ∷ cs) ≡ c ∷ cs) × (begins is_mark (c ∷ cs) ≡ true)
mark_stops c cs h = elim (or_cases _ _ h) [
  | inl e ↦ at 34 (eqb-true c 34 e) ((rw mark_in.1 refl), refl)
  | inr e ↦ at 35 (eqb-true c 35 e) ((rw mark_in.3 refl), refl)
]
  where
    at : (n : ℕ) → c ≡ n → (after in_word (n ∷ cs) ≡ n ∷ cs) × (begins is_mark (n ∷ cs) ≡ true)
        → (after in_word (c ∷ cs) ≡ c ∷ cs) × (begins is_mark (c ∷ cs) ≡ true)
    at n e h =
        let P : ℕ → Type 0 = λ v. (after in_word (v ∷ cs) ≡ v ∷ cs) × (begins is_mark (v ∷ cs) ≡ true) in
        subst P (sym e) h

raw_marked : (y : Contents) (ds z : List ℕ) → after_raw y ds ≡ Some z → begins is_mark (after in_word ds) ≡ true
raw_marked y [] z h = let e = run-nil (raw_step y) (Hashes 0) in cc
raw_marked y (c ∷ cs) z h = let m = mark_stops c cs (raw_begin y c cs z h) in ap (begins is_mark) m.0 ∙ m.1

-- the prefix of each literal
str_at : (i : Bool) (ds y : List ℕ) → after_string of.Chars ds ≡ Some y
    → front_of i (34 ∷ ds) ≡ found Str (after_suffix y)
unfolding front_of unicode_ident starts_word
str_at i ds y e = rw e refl

char_at : (i : Bool) (ds y : List ℕ) → after_char of.Chars ds ≡ Some y
    → front_of i (39 ∷ ds) ≡ found Char (after_suffix y)
unfolding front_of unicode_ident starts_word
char_at i ds y e = rw e refl

raw_at : (i : Bool) (ds y : List ℕ) → after_raw of.Chars ds ≡ Some y
    → front_of i (114 ∷ ds) ≡ found RawStr (after_suffix y)
unfolding front_of
raw_at i ds y e = rw (prefix_starts.0, raw_marked of.Chars ds y e, e) refl

byte_at : (i : Bool) (ds y : List ℕ) → after_char of.Bytes ds ≡ Some y
    → front_of i (98 ∷ 39 ∷ ds) ≡ found Byte (after_suffix y)
unfolding front_of
byte_at i ds y e = rw (prefix_starts.1, mark_in.2, e) refl

byte_str_at : (i : Bool) (ds y : List ℕ) → after_string of.Bytes ds ≡ Some y
    → front_of i (98 ∷ 34 ∷ ds) ≡ found ByteStr (after_suffix y)
unfolding front_of
byte_str_at i ds y e = rw (prefix_starts.1, mark_in.1, e) refl

raw_byte_at : (i : Bool) (ds y : List ℕ) → after_raw of.Bytes ds ≡ Some y
    → front_of i (98 ∷ 114 ∷ ds) ≡ found RawByteStr (after_suffix y)
unfolding front_of
raw_byte_at i ds y e = rw (prefix_starts.1, mark_in.4, raw_marked of.Bytes ds y e, e) refl

c_str_at : (i : Bool) (ds y : List ℕ) → after_string of.CChars ds ≡ Some y
    → front_of i (99 ∷ 34 ∷ ds) ≡ found CStr (after_suffix y)
unfolding front_of
c_str_at i ds y e = rw (prefix_starts.2, mark_in.1, e) refl

raw_c_at : (i : Bool) (ds y : List ℕ) → after_raw of.CChars ds ≡ Some y
    → front_of i (99 ∷ 114 ∷ ds) ≡ found RawCStr (after_suffix y)
unfolding front_of
raw_c_at i ds y e = rw (prefix_starts.2, mark_in.4, raw_marked of.CChars ds y e, e) refl

prefixed_at : (k : Kind) (i : Bool) (cs y : List ℕ) → is_literal k ≡ true → after_literal k cs ≡ Some y
    → front_of i cs ≡ found k (after_suffix y)
unfolding after_literal
prefixed_at Char i cs y l h =
    let p = behind_parts (codes "'") (after_char of.Chars) cs y h in ap (front_of i) p.1 ∙ char_at i p.0 y p.2
prefixed_at Str i cs y l h =
    let p = behind_parts (codes "\"") (after_string of.Chars) cs y h in ap (front_of i) p.1 ∙ str_at i p.0 y p.2
prefixed_at RawStr i cs y l h =
    let p = behind_parts (codes "r") (after_raw of.Chars) cs y h in ap (front_of i) p.1 ∙ raw_at i p.0 y p.2
prefixed_at Byte i cs y l h =
    let p = behind_parts (codes "b'") (after_char of.Bytes) cs y h in ap (front_of i) p.1 ∙ byte_at i p.0 y p.2
prefixed_at ByteStr i cs y l h =
    let p = behind_parts (codes "b\"") (after_string of.Bytes) cs y h in ap (front_of i) p.1
    ∙ byte_str_at i p.0 y p.2
prefixed_at RawByteStr i cs y l h =
    let p = behind_parts (codes "br") (after_raw of.Bytes) cs y h in ap (front_of i) p.1 ∙ raw_byte_at i p.0 y p.2
prefixed_at CStr i cs y l h =
    let p = behind_parts (codes "c\"") (after_string of.CChars) cs y h in ap (front_of i) p.1 ∙ c_str_at i p.0 y p.2
prefixed_at RawCStr i cs y l h =
    let p = behind_parts (codes "cr") (after_raw of.CChars) cs y h in ap (front_of i) p.1 ∙ raw_c_at i p.0 y p.2
prefixed_at _ i cs y l h = cc

pub literal_front : (k : Kind) (piece rest : List ℕ) (i : Bool) → is_literal k ≡ true → Had k piece rest i
    → front_of i (piece ++ rest) ≡ found k rest
literal_front k piece rest i l h =
    let f = literal_found k piece rest i l h in prefixed_at k i (piece ++ rest) f.0 l f.1 ∙ ap (found k) f.2

-- raw identifiers
pub starts_apart : (n c : ℕ) → starts_word n ≡ false → starts_word c ≡ true → c == n ≡ false
starts_apart n c f h = ne_eqb c n (λ e. let g : starts_word n ≡ true = ap starts_word (sym e) ∙ h in cc)

pub no_starts : (starts_word 35 ≡ false) × (starts_word 34 ≡ false) × (starts_word 39 ≡ false)
    × (starts_word 92 ≡ false) × (starts_word 46 ≡ false) × (starts_word 47 ≡ false)
unfolding unicode_ident starts_word
no_starts = (refl, refl, refl, refl, refl, refl)

no_raw : (c : ℕ) (cs : List ℕ) → starts_word c ≡ true → after_raw of.Chars (35 ∷ c ∷ cs) ≡ None
unfolding raw_step
no_raw c cs h =
    run-step (raw_step of.Chars) (Hashes 0) 35 (c ∷ cs) (Go (Hashes 1)) refl
    ∙ run-step (raw_step of.Chars) (Hashes 1) c cs Bad
    (rw (starts_apart 35 c no_starts.0 h, starts_apart 34 c no_starts.1 h) refl)

name_at : (c : ℕ) (ds r : List ℕ) → is_suffix (c ∷ ds) && not (is_path_word (encode_utf8_all (c ∷ ds))) ≡ true
    → begins in_word r ≡ false
    → raw_name (c ∷ ds ++ r) ≡ found RawIdent r
name_at c ds r h stop =
    let parts = and_parts (is_suffix (c ∷ ds)) _ h in
    let form = and_parts (starts_word c && list_all in_word ds) _ parts.0 in
    let word = and_parts (starts_word c) (list_all in_word ds) form.0 in
    let tail = after-append in_word ds r word.1 stop in
    let head = front-append in_word ds r word.1 stop in
    let goes = begins-append in_word ds r word.1 stop in
    rw (word.0, starts_in c word.0, goes, not_not (is_nil ds), form.1, head, parts.1, tail) refl

raw_ident_at : (i : Bool) (c : ℕ) (cs : List ℕ) → starts_word c ≡ true
    → front_of i (114 ∷ 35 ∷ c ∷ cs) ≡ raw_name (c ∷ cs)
unfolding front_of
raw_ident_at i c cs h = rw (prefix_starts.0, mark_in.3, no_raw c cs h) refl

-- the text begins with the prefix
pub behind_true : (pre : List ℕ) (f : List ℕ → Bool) (cs : List ℕ) → behind false pre f cs ≡ true
    → (ds : List ℕ) × (cs ≡ pre ++ ds) × (f ds ≡ true)
behind_true [] f cs h = (cs, refl, h)
behind_true (p ∷ ps) f [] h = cc
behind_true (p ∷ ps) f (c ∷ cs) h =
    let r = cond_true (p == c) _ h in
    let s = behind_true ps f cs r.1 in
    let same : c ≡ p = sym (eqb-true p c r.0) in
    (s.0, ap (λ v. v ∷ cs) same ∙ ap (λ l. p ∷ l) s.1, s.2)

raw_ident_by : (i : Bool) (ds r : List ℕ) → is_suffix ds && not (is_path_word (encode_utf8_all ds)) ≡ true
    → begins in_word r ≡ false → front_of i (114 ∷ 35 ∷ (ds ++ r)) ≡ found RawIdent r
raw_ident_by i [] r h stop = cc
raw_ident_by i (c ∷ ds) r h stop =
    let form = and_parts _ _ (and_parts (is_suffix (c ∷ ds)) _ h).0 in
    raw_ident_at i c (ds ++ r) (and_parts (starts_word c) (list_all in_word ds) form.0).0 ∙ name_at c ds r h stop

pub raw_ident_found : (p r : List ℕ) (i : Bool) → Had RawIdent p r i → front_of i (p ++ r) ≡ found RawIdent r
unfolding had has_form may_precede
raw_ident_found p r i h =
    let parts = and_parts _ _ h in
    let b = behind_true (codes "r#") (λ ds. is_suffix ds && not (is_path_word (encode_utf8_all ds))) p parts.0 in
    ap (λ x. front_of i (x ++ r)) b.1 ∙ raw_ident_by i b.0 r b.2 (not-true _ parts.1)

-- lifetimes
no_tick : (x : List ℕ) → begins (λ c. c == 39) x ≡ false → run (char_step of.Chars) Last x ≡ None
unfolding char_step
no_tick [] h = run-nil (char_step of.Chars) Last
no_tick (c ∷ x) h = run-step (char_step of.Chars) Last c x Bad (rw h refl)

no_char : (c : ℕ) (x : List ℕ) → starts_word c ≡ true → begins (λ c. c == 39) x ≡ false
    → after_char of.Chars (c ∷ x) ≡ None
unfolding char_step
no_char c x h t =
    run-step (char_step of.Chars) First c x (cond (is_lone of.Chars c) (Go Last) Bad)
    (rw (starts_apart 92 c no_starts.3 h) refl) ∙ by_case (is_lone of.Chars c)
  where
    by_case : (b : Bool) → next (char_step of.Chars) x (cond b (Go Last) Bad) ≡ None
    by_case true = no_tick x t
    by_case false = refl

tick_parts : (r : List ℕ) → not (begins (λ c. in_word c || c == 39 || c == 35) r) ≡ true
    → (begins in_word r ≡ false) × (begins is_tick r ≡ false) × (begins (λ c. c == 39) r ≡ false)
tick_parts [] h = (refl, refl, refl)
tick_parts (c ∷ r) h = by_case (in_word c) (c == 39) (c == 35) (not-true _ h)
  where
    by_case : (a b d : Bool) → a || b || d ≡ false → (a ≡ false) × (b || d ≡ false) × (b ≡ false)
    by_case true b d h = cc
    by_case false true d h = cc
    by_case false false d h = (refl, h, refl)

ticks_no_more : (ds r : List ℕ) → list_all in_word ds ≡ true → begins (λ c. c == 39) r ≡ false
    → begins (λ c. c == 39) (ds ++ r) ≡ false
ticks_no_more [] r h g = g
ticks_no_more (d ∷ ds) r h g =
    let w = and_parts (in_word d) (list_all in_word ds) h in
    ne_eqb d 39 (λ e. let f : in_word 39 ≡ true = ap in_word (sym e) ∙ w.0 in let n = mark_in.2 in cc)

lifetime_by : (i : Bool) (w r : List ℕ) → is_word w ≡ true
    → not (begins (λ c. in_word c || c == 39 || c == 35) r) ≡ true → front_of i (39 ∷ (w ++ r)) ≡ found Lifetime r
unfolding front_of
lifetime_by i [] r h m = cc
lifetime_by i (c ∷ ds) r h m =
    let word = and_parts (starts_word c) (list_all in_word ds) h in
    let rest = tick_parts r m in
    let tail = after-append in_word ds r word.1 rest.0 in
    rw (no_starts.2, no_char c (ds ++ r) word.0 (ticks_no_more ds r word.1 rest.2), word.0, tail, rest.1) refl

pub lifetime_found : (p r : List ℕ) (i : Bool) → Had Lifetime p r i → front_of i (p ++ r) ≡ found Lifetime r
unfolding had has_form may_precede
lifetime_found p r i h =
    let parts = and_parts _ _ h in
    let b = behind_true (codes "'") is_word p parts.0 in
    ap (λ x. front_of i (x ++ r)) b.1 ∙ lifetime_by i b.0 r b.2 parts.1

-- documentation
all_line : (ds : List ℕ) → list_any (λ c. c == 10 || c == 13) ds ≡ false → list_all in_doc_line ds ≡ true
all_line [] h = refl
all_line (c ∷ ds) h = by_case (c == 10 || c == 13) (λ g. all_line ds g) h
  where
    by_case : (b : Bool) → (list_any (λ c. c == 10 || c == 13) ds ≡ false → list_all in_doc_line ds ≡ true)
        → b || list_any (λ c. c == 10 || c == 13) ds ≡ false → not b && list_all in_doc_line ds ≡ true
    by_case true more h = cc
    by_case false more h = more h

line_end : (r : List ℕ) → not (begins (λ c. not (c == 10)) r) ≡ true
    → (begins in_doc_line r ≡ false) × (begins (λ c. c == 13) r ≡ false) × (begins (λ c. c == 47) r ≡ false)
line_end [] h = (refl, refl, refl)
line_end (c ∷ r) h =
    let e : c == 10 ≡ true = sym (not_not (c == 10)) ∙ h in
    let P : ℕ → Type 0 = λ v. (in_doc_line v ≡ false) × (v == 13 ≡ false) × (v == 47 ≡ false) in
    subst P (sym (eqb-true c 10 e)) (refl, refl, refl)

line_at : (inner : Bool) (ds r : List ℕ) → not (list_any (λ c. c == 10 || c == 13) ds) ≡ true
    → not (begins (λ c. not (c == 10)) r) ≡ true → line_doc inner (ds ++ r) ≡ found (Doc inner false) r
line_at inner ds r h m =
    let rest = line_end r m in
    let tail = after-append in_doc_line ds r (all_line ds (not-true _ h)) rest.0 in
    rw (tail, rest.1) refl

no_slash : (p : ℕ → Bool) (ds r : List ℕ) → begins p ds ≡ false → begins p r ≡ false → begins p (ds ++ r) ≡ false
no_slash p [] r h g = g
no_slash p (d ∷ ds) r h g = h

inner_line_front : (i : Bool) (cs : List ℕ) → front_of i (47 ∷ 47 ∷ 33 ∷ cs) ≡ line_doc true cs
unfolding front_of
inner_line_front i cs = rw no_starts.5 refl

outer_line_front : (i : Bool) (cs : List ℕ) → begins (λ c. c == 47) cs ≡ false
    → front_of i (47 ∷ 47 ∷ 47 ∷ cs) ≡ line_doc false cs
unfolding front_of
outer_line_front i cs h = rw (no_starts.5, h) refl

inner_block_front : (i : Bool) (cs : List ℕ) → front_of i (47 ∷ 42 ∷ 33 ∷ cs) ≡ block_doc true cs
unfolding front_of
inner_block_front i cs = rw no_starts.5 refl

outer_block_front : (i : Bool) (cs : List ℕ) → begins is_star_or_slash cs ≡ false
    → front_of i (47 ∷ 42 ∷ 42 ∷ cs) ≡ block_doc false cs
unfolding front_of
outer_block_front i cs h = rw (no_starts.5, h) refl

whole_run : (o : Option (List ℕ)) → is_whole o ≡ true → o ≡ Some []
whole_run None h = cc
whole_run (Some []) h = refl
whole_run (Some (c ∷ cs)) h = cc

block_at : (inner : Bool) (ds r : List ℕ) → is_whole (run doc_step (Deep 0) ds) ≡ true
    → block_doc inner (ds ++ r) ≡ found (Doc inner true) r
block_at inner ds r h = rw (run-append doc_step (Deep 0) ds [] r (whole_run _ h)) refl

some_block : (p : ℕ → Bool) (ds r : List ℕ) → is_whole (run doc_step (Deep 0) ds) ≡ true → begins p ds ≡ false
    → begins p (ds ++ r) ≡ false
some_block p [] r h g =
    let e = run-nil doc_step (Deep 0) in let f : is_whole (run doc_step (Deep 0) []) ≡ false = ap is_whole e in cc
some_block p (d ∷ ds) r h g = g

pub doc_found : (inner block : Bool) (p r : List ℕ) (i : Bool) → Had (Doc inner block) p r i
    → front_of i (p ++ r) ≡ found (Doc inner block) r
unfolding had has_form may_precede
doc_found true false p r i h =
    let parts = and_parts _ _ h in
    let b = behind_true (codes "//!") _ p parts.0 in
    ap (λ x. front_of i (x ++ r)) b.1 ∙ inner_line_front i (b.0 ++ r) ∙ line_at true b.0 r b.2 parts.1
doc_found false false p r i h =
    let parts = and_parts _ _ h in
    let b = behind_true (codes "///") _ p parts.0 in
    let form = and_parts _ _ b.2 in
    let rest = line_end r parts.1 in
    ap (λ x. front_of i (x ++ r)) b.1
    ∙ outer_line_front i (b.0 ++ r) (no_slash (λ c. c == 47) b.0 r (not-true _ form.0) rest.2)
    ∙ line_at false b.0 r form.1 parts.1
doc_found true true p r i h =
    let parts = and_parts _ _ h in
    let b = behind_true (codes "/*!") _ p parts.0 in
    ap (λ x. front_of i (x ++ r)) b.1 ∙ inner_block_front i (b.0 ++ r) ∙ block_at true b.0 r b.2
doc_found false true p r i h =
    let parts = and_parts _ _ h in
    let b = behind_true (codes "/**") _ p parts.0 in
    let form = and_parts _ _ b.2 in
    ap (λ x. front_of i (x ++ r)) b.1
    ∙ outer_block_front i (b.0 ++ r) (some_block is_star_or_slash b.0 r form.1 (not-true _ form.0))
    ∙ block_at false b.0 r form.1

-- single characters
one_of : (cs : List ℕ) (p : ℕ → Bool) (c : ℕ) → list_any (λ d. d == c) cs ≡ true → list_all p cs ≡ true → p c ≡ true
one_of [] p c h a = cc
one_of (d ∷ cs) p c h a =
    let all = and_parts (p d) (list_all p cs) a in
    elim (or_cases _ _ h) [
      | inl e ↦ let P : ℕ → Type 0 = λ v. p v ≡ true in
          subst P (eqb-true d c e) all.0
      | inr f ↦ one_of cs p c f all.1
    ]

-- not the first character of any other kind of token
abbrev is_alone : ℕ → Bool
is_alone c = not (starts_word c) && not (is_ascii_digit c) && not (c == 34) && not (c == 39) && not (c == 40)
    && not (c == 41)
    && not (c == 91) && not (c == 93) && not (c == 123) && not (c == 125)

puncts_alone : list_all is_alone (codes "=<>!~+-*/%^&@.,;:#$?|") ≡ true
unfolding unicode_ident starts_word
puncts_alone = refl

punct_front : (i : Bool) (c : ℕ) (r : List ℕ) → is_punct_char c ≡ true
    → not (c == 47 && begins (λ c. c == 47 || c == 42) r) ≡ true → front_of i (c ∷ r) ≡ found Punct r
unfolding front_of
punct_front i c r h m =
    let a9 = last_two _ (c == 125) (one_of (codes "=<>!~+-*/%^&@.,;:#$?|") is_alone c h puncts_alone) in
    let a8 = last_two _ (c == 123) a9.0 in
    let a7 = last_two _ (c == 93) a8.0 in
    let a6 = last_two _ (c == 91) a7.0 in
    let a5 = last_two _ (c == 41) a6.0 in
    let a4 = last_two _ (c == 40) a5.0 in
    let a3 = last_two _ (c == 39) a4.0 in
    let a2 = last_two _ (c == 34) a3.0 in
    let a1 = last_two _ (is_ascii_digit c) a2.0 in
    let a0 = not-true (starts_word c) a1.0 in
    rw (a0, a1.1, a2.1, a3.1, a4.1, a5.1, a6.1, a7.1, a8.1, a9.1, h) (by_case (c == 47) r m)
  where
    slash_by : (a b : Bool) (d : ℕ) (ds : List ℕ) → not (a || b) ≡ true
        → cond a (line_comment ds) (cond b (block_comment ds) (found Punct (d ∷ ds))) ≡ found Punct (d ∷ ds)
    slash_by true b d ds h = cc
    slash_by false true d ds h = cc
    slash_by false false d ds h = refl

    by_case : (b : Bool) (r : List ℕ) → not (b && begins (λ c. c == 47 || c == 42) r) ≡ true
        → cond b (slash r) (found Punct r) ≡ found Punct r
    by_case false r m = refl
    by_case true [] m = refl
    by_case true (d ∷ ds) m = slash_by (d == 47) (d == 42) d ds m

pub punct_found : (p r : List ℕ) (i : Bool) → Had Punct p r i → front_of i (p ++ r) ≡ found Punct r
unfolding had has_form may_precede
punct_found [] r i h = cc
punct_found (c ∷ d ∷ ds) r i h =
    let parts = and_parts _ _ h in let none = and_parts (is_punct_char c) false parts.0 in cc
punct_found (c ∷ []) r i h =
    let parts =
    and_parts _ _ h in let one = and_parts (is_punct_char c) true parts.0 in punct_front i c r one.0 parts.1

at_one : (i : Bool) (n : ℕ) (k : Kind) (p r : List ℕ) → is_one (λ c. c == n) p ≡ true
    → front_of i (n ∷ r) ≡ found k r → front_of i (p ++ r) ≡ found k r
at_one i n k [] r h e = cc
at_one i n k (c ∷ d ∷ ds) r h e = let none = and_parts (c == n) false h in cc
at_one i n k (c ∷ []) r h e =
    let one =
    and_parts (c == n) true h in let P : ℕ → Type 0 = λ v. front_of i (v ∷ r) ≡ found k r in
    subst P (sym (eqb-true c n one.0)) e

brackets : (i : Bool) (r : List ℕ)
    → (front_of i (40 ∷ r) ≡ found (Opener Paren) r) × (front_of i (91 ∷ r) ≡ found (Opener Bracket) r)
    × (front_of i (123 ∷ r) ≡ found (Opener Brace) r)
    × (front_of i (41 ∷ r) ≡ found (Closer Paren) r) × (front_of i (93 ∷ r) ≡ found (Closer Bracket) r)
    × (front_of i (125 ∷ r) ≡ found (Closer Brace) r)
unfolding front_of unicode_ident starts_word
brackets i r = (refl, refl, refl, refl, refl, refl)

pub opener_found : (d : Delim) (p r : List ℕ) (i : Bool) → Had (Opener d) p r i
    → front_of i (p ++ r) ≡ found (Opener d) r
unfolding had has_form may_precede
opener_found Paren p r i h = at_one i 40 (Opener Paren) p r (and_parts _ _ h).0 (brackets i r).0
opener_found Bracket p r i h = at_one i 91 (Opener Bracket) p r (and_parts _ _ h).0 (brackets i r).1
opener_found Brace p r i h = at_one i 123 (Opener Brace) p r (and_parts _ _ h).0 (brackets i r).2

pub closer_found : (d : Delim) (p r : List ℕ) (i : Bool) → Had (Closer d) p r i
    → front_of i (p ++ r) ≡ found (Closer d) r
unfolding had has_form may_precede
closer_found Paren p r i h = at_one i 41 (Closer Paren) p r (and_parts _ _ h).0 (brackets i r).3
closer_found Bracket p r i h = at_one i 93 (Closer Bracket) p r (and_parts _ _ h).0 (brackets i r).4
closer_found Brace p r i h = at_one i 125 (Closer Brace) p r (and_parts _ _ h).0 (brackets i r).5
