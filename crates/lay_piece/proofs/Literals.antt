-- Literals other than numbers: what follows one doesn't matter to it, and its suffix is determined.
use Rattle.std.proofs.Common.{◌≡◌, inl, inr, ℕ, List, [], ◌∷◌, ◌++◌, Bool, true, false, cond, not, ◌&&◌, ◌||◌, Option, Some, None, sym, refl, ap, ◌∙◌, subst, append_assoc}
use Rattle.std.specs.Prelude.{◌==◌, codes}
use Rattle.std.specs.List.{list_all}
use Rattle.std.proofs.lemmas.Bool.{and_parts, and_from, or_cases, eqb-true, not-true}
use Rattle.unicode_ident.proofs.Computing.{unicode_ident}
use Rattle.unicode_ident.proofs.IdentLemmas.{is_xid_start-is_xid_continue}
use Rattle.lay_piece.specs.Chars.{begins, front, behind, is_nil, is_suffix, begins_suffix, starts_word, in_word}
use Rattle.lay_piece.specs.Scan.{Next, Go, End, Bad, run}
use Rattle.lay_piece.specs.Quoted.{string_step, Plain, char_step, First, raw_step, Hashes}
use Rattle.lay_piece.specs.Forms.{had, Had, has_form, may_precede, after_literal, is_literal_end, is_whole, literal_may_stop}
use Rattle.lay_piece.specs.Found.{after_suffix}
use Rattle.lay_piece.specs.declared.piece.quoted.Contents.TheVariants as of
use Rattle.lay_piece.specs.declared.kind.Kind.{Kind}
use Rattle.lay_piece.specs.declared.kind.Kind.TheVariants.{Char, Str, RawStr, Byte, ByteStr, RawByteStr, CStr, RawCStr}
use Rattle.lay_piece.proofs.Runs.{next, run-nil, run-cons}
use Rattle.lay_piece.proofs.Fronts.{front-after, each-front, after-stops, after-append, begins-append, nil_front}
use Rattle.lay_piece.proofs.Booleans.{not_not, or_right}

underscore_in : in_word 95 ≡ true
unfolding unicode_ident in_word
underscore_in = refl

-- What begins a word may go on with it.
pub starts_in : (c : ℕ) → starts_word c ≡ true → in_word c ≡ true
unfolding starts_word in_word
starts_in c h = elim (or_cases _ _ h) [
  | inl e ↦ is_xid_start-is_xid_continue c e
  | inr e ↦ let P : ℕ → Type 0 = λ m. in_word m ≡ true in subst P (sym (eqb-true c 95 e)) underscore_in
]

-- a form before more
by_append : {S : Type 0} (step : S → ℕ → Next S) (x y z : List ℕ) (n : Next S)
    → ((t : S) → run step t x ≡ Some y → run step t (x ++ z) ≡ Some (y ++ z))
    → next step x n ≡ Some y → next step (x ++ z) n ≡ Some (y ++ z)
by_append step x y z (Go t) more h = more t h
by_append step x y z End more h = let e : x ≡ y = cc in ap (λ l. Some (l ++ z)) e
by_append step x y z Bad more h = cc

pub run-append : {S : Type 0} (step : S → ℕ → Next S) (s : S) (x y z : List ℕ) → run step s x ≡ Some y
    → run step s (x ++ z) ≡ Some (y ++ z)
run-append step s [] y z h = let e = run-nil step s in cc
run-append step s (c ∷ x) y z h =
    run-cons step s c (x ++ z)
    ∙ by_append step x y z (step s c) (λ t e. run-append step t x y z e) (sym (run-cons step s c x) ∙ h)

-- the form that a text begins with, alone
abbrev pub Alone : (List ℕ → Option (List ℕ)) → List ℕ → List ℕ → Type 0
Alone f cs y = (p : List ℕ) × (cs ≡ p ++ y) × (f p ≡ Some [])

by_split : {S : Type 0} (step : S → ℕ → Next S) (c : ℕ) (cs y : List ℕ) (n : Next S)
    → ((t : S) → run step t cs ≡ Some y → Alone (run step t) cs y) → next step cs n ≡ Some y
    → Alone (λ p. next step p n) cs y
by_split step c cs y (Go t) more h = more t h
by_split step c cs y End more h = let e : cs ≡ y = cc in ([], e, refl)
by_split step c cs y Bad more h = cc

pub run-split : {S : Type 0} (step : S → ℕ → Next S) (s : S) (cs y : List ℕ) → run step s cs ≡ Some y
    → Alone (run step s) cs y
run-split step s [] y h = let e = run-nil step s in cc
run-split step s (c ∷ cs) y h =
    let r = by_split step c cs y (step s c) (λ t e. run-split step t cs y e) (sym (run-cons step s c cs) ∙ h) in
    (c ∷ r.0, ap (λ l. c ∷ l) r.1, run-cons step s c r.0 ∙ r.2)

-- after a prefix
abbrev pub Appends : (List ℕ → Option (List ℕ)) → Type 0
Appends f = (x y z : List ℕ) → f x ≡ Some y → f (x ++ z) ≡ Some (y ++ z)

abbrev pub Splits : (List ℕ → Option (List ℕ)) → Type 0
Splits f = (cs y : List ℕ) → f cs ≡ Some y → Alone f cs y

cond_some : (b : Bool) (o : Option (List ℕ)) (y : List ℕ) → cond b o None ≡ Some y → (b ≡ true) × (o ≡ Some y)
cond_some true o y h = (refl, h)
cond_some false o y h = cc

behind-append : (pre : List ℕ) (f : List ℕ → Option (List ℕ)) → Appends f → Appends (behind None pre f)
behind-append [] f a x y z h = a x y z h
behind-append (p ∷ ps) f a [] y z h = cc
behind-append (p ∷ ps) f a (c ∷ x) y z h =
    let r = cond_some (p == c) _ y h in rw r.0 (behind-append ps f a x y z r.1)

behind-split : (pre : List ℕ) (f : List ℕ → Option (List ℕ)) → Splits f → Splits (behind None pre f)
behind-split [] f a cs y h = a cs y h
behind-split (p ∷ ps) f a [] y h = cc
behind-split (p ∷ ps) f a (c ∷ cs) y h =
    let r = cond_some (p == c) _ y h in
    let s = behind-split ps f a cs y r.1 in
    (c ∷ s.0, ap (λ l. c ∷ l) s.1, ap (λ b. cond b (behind None ps f s.0) None) r.0 ∙ s.2)

-- the text begins with the prefix
pub behind_parts : (pre : List ℕ) (f : List ℕ → Option (List ℕ)) (cs y : List ℕ) → behind None pre f cs ≡ Some y
    → (ds : List ℕ) × (cs ≡ pre ++ ds) × (f ds ≡ Some y)
behind_parts [] f cs y h = (cs, refl, h)
behind_parts (p ∷ ps) f [] y h = cc
behind_parts (p ∷ ps) f (c ∷ cs) y h =
    let r = cond_some (p == c) _ y h in
    let s = behind_parts ps f cs y r.1 in
    let same : c ≡ p = sym (eqb-true p c r.0) in
    (s.0, ap (λ v. v ∷ cs) same ∙ ap (λ l. p ∷ l) s.1, s.2)

pub literal-append : (k : Kind) → Appends (after_literal k)
unfolding after_literal
literal-append Char = behind-append (codes "'") (run (char_step of.Chars) First)
    (run-append (char_step of.Chars) First)
literal-append Str = behind-append (codes "\"") (run (string_step of.Chars) Plain)
    (run-append (string_step of.Chars) Plain)
literal-append RawStr =
    behind-append (codes "r") (run (raw_step of.Chars) (Hashes 0)) (run-append (raw_step of.Chars) (Hashes 0))
literal-append Byte = behind-append (codes "b'") (run (char_step of.Bytes) First)
    (run-append (char_step of.Bytes) First)
literal-append ByteStr =
    behind-append (codes "b\"") (run (string_step of.Bytes) Plain) (run-append (string_step of.Bytes) Plain)
literal-append RawByteStr =
    behind-append (codes "br") (run (raw_step of.Bytes) (Hashes 0)) (run-append (raw_step of.Bytes) (Hashes 0))
literal-append CStr = behind-append (codes "c\"") (run (string_step of.CChars) Plain)
    (run-append (string_step of.CChars) Plain)
literal-append RawCStr =
    behind-append (codes "cr") (run (raw_step of.CChars) (Hashes 0)) (run-append (raw_step of.CChars) (Hashes 0))
literal-append _ = λ x y z h. cc

pub literal-split : (k : Kind) → Splits (after_literal k)
unfolding after_literal
literal-split Char = behind-split (codes "'") (run (char_step of.Chars) First)
    (run-split (char_step of.Chars) First)
literal-split Str = behind-split (codes "\"") (run (string_step of.Chars) Plain)
    (run-split (string_step of.Chars) Plain)
literal-split RawStr = behind-split (codes "r") (run (raw_step of.Chars) (Hashes 0))
    (run-split (raw_step of.Chars) (Hashes 0))
literal-split Byte = behind-split (codes "b'") (run (char_step of.Bytes) First)
    (run-split (char_step of.Bytes) First)
literal-split ByteStr =
    behind-split (codes "b\"") (run (string_step of.Bytes) Plain) (run-split (string_step of.Bytes) Plain)
literal-split RawByteStr =
    behind-split (codes "br") (run (raw_step of.Bytes) (Hashes 0)) (run-split (raw_step of.Bytes) (Hashes 0))
literal-split CStr = behind-split (codes "c\"") (run (string_step of.CChars) Plain)
    (run-split (string_step of.CChars) Plain)
literal-split RawCStr =
    behind-split (codes "cr") (run (raw_step of.CChars) (Hashes 0)) (run-split (raw_step of.CChars) (Hashes 0))
literal-split _ = λ cs y h. cc

-- a literal's suffix, before what may follow it
pub suffix_stops : (y r : List ℕ) → is_nil y || is_suffix y ≡ true → literal_may_stop (is_nil y) r ≡ true
    → after_suffix (y ++ r) ≡ r
suffix_stops [] r h m = rw (not-true (begins_suffix r) m) refl
suffix_stops (c ∷ y) r h m =
    let parts = and_parts (starts_word c && list_all in_word y) _ h in
    let word = and_parts (starts_word c) (list_all in_word y) parts.0 in
    let stop : begins in_word r ≡ false = not-true (begins in_word r) m in
    let goes = begins-append in_word y r word.1 stop in
    rw (word.0, goes, not_not (is_nil y), not-true (c == 95 && is_nil y) parts.1, starts_in c word.0)
    (after-append in_word y r word.1 stop)

-- a suffix at the beginning of a text
pub suffix_front : (y : List ℕ) → begins_suffix y ≡ true → is_suffix (front in_word y) ≡ true
suffix_front [] h = cc
suffix_front (c ∷ y) h =
    let parts = and_parts (starts_word c) (not (c == 95 && not (begins in_word y))) h in
    rw (starts_in c parts.0, parts.0, each-front in_word y, nil_front in_word y) parts.1

some_front : (y : List ℕ) → begins_suffix y ≡ true → is_nil (front in_word y) ≡ false
some_front [] h = cc
some_front (c ∷ y) h =
    let parts = and_parts (starts_word c) (not (c == 95 && not (begins in_word y))) h in
    rw (starts_in c parts.0) refl

pub record Suffix (y : List ℕ) : Type 0 where
  pub text : List ℕ
  pub whole : y ≡ text ++ after_suffix y
  pub form : is_nil text || is_suffix text ≡ true
  pub stops : literal_may_stop (is_nil text) (after_suffix y) ≡ true

suffix_by : (y : List ℕ) (b : Bool) → begins_suffix y ≡ b → Suffix y
suffix_by y true e = record {
  text = front in_word y;
  whole = rw e (front-after in_word y);
  form = or_right _ _ (suffix_front y e);
  stops = rw (e, some_front y e, after-stops in_word y) refl;
}
suffix_by y false e = record { text = []; whole = rw e refl; form = refl; stops = rw (e, e) refl }

pub suffix_of : (y : List ℕ) → Suffix y
suffix_of y = suffix_by y (begins_suffix y) refl

-- the kinds that stand here
abbrev pub is_literal : Kind → Bool
is_literal Char = true
is_literal Str = true
is_literal RawStr = true
is_literal Byte = true
is_literal ByteStr = true
is_literal RawByteStr = true
is_literal CStr = true
is_literal RawCStr = true
is_literal _ = false

pub had-literal : (k : Kind) (piece rest : List ℕ) (i : Bool) → is_literal k ≡ true
    → had k piece rest i ≡
    (is_literal_end (after_literal k piece) && literal_may_stop (is_whole (after_literal k piece)) rest)
unfolding had has_form may_precede
had-literal Char piece rest i h = refl
had-literal Str piece rest i h = refl
had-literal RawStr piece rest i h = refl
had-literal Byte piece rest i h = refl
had-literal ByteStr piece rest i h = refl
had-literal RawByteStr piece rest i h = refl
had-literal CStr piece rest i h = refl
had-literal RawCStr piece rest i h = refl
had-literal _ piece rest i h = cc

-- A literal at the beginning of a text is had, with the suffix that follows it.
pub literal_had : (k : Kind) (cs y : List ℕ) (i : Bool) → is_literal k ≡ true → after_literal k cs ≡ Some y
    → (piece : List ℕ) × (cs ≡ piece ++ after_suffix y) × Had k piece (after_suffix y) i
literal_had k cs y i l h =
    let s = literal-split k cs y h in
    let x = suffix_of y in
    let piece = s.0 ++ x.text in
    let whole : cs ≡ piece ++ after_suffix y = s.1 ∙ ap (λ v. s.0 ++ v) x.whole
    ∙ sym (append_assoc s.0 x.text (after_suffix y)) in
    let alone : after_literal k piece ≡ Some x.text = literal-append k s.0 [] x.text s.2 in
    (piece, whole, had-literal k piece (after_suffix y) i l ∙ (rw alone (and_from _ _ x.form x.stops)))

-- and a literal that is had is the one that its text begins with.
pub literal_found : (k : Kind) (piece rest : List ℕ) (i : Bool) → is_literal k ≡ true → Had k piece rest i
    → (y : List ℕ) × (after_literal k (piece ++ rest) ≡ Some y) × (after_suffix y ≡ rest)
literal_found k piece rest i l h =
    let parts = and_parts _ _ (sym (had-literal k piece rest i l) ∙ h) in
    go (after_literal k piece) refl parts.0 parts.1
  where
    go : (o : Option (List ℕ)) → after_literal k piece ≡ o → is_literal_end o ≡ true
        → literal_may_stop (is_whole o) rest ≡ true
        → (y : List ℕ) × (after_literal k (piece ++ rest) ≡ Some y) × (after_suffix y ≡ rest)
    go None e f m = cc
    go (Some y) e f m = (y ++ rest, literal-append k piece y rest e, suffix_stops y rest f m)
