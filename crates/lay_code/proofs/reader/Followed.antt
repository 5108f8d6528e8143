-- What follows an expression: either nothing that goes on with it, or, where it ends within braces
-- that the syntax tree doesn't hold, anything but an operator. The second is told of the form, so
-- it goes from an operand to what ends in it, and back.
use Rattle.std.proofs.Common.{◌≡◌, ℕ, zero, suc, ◌≤◌, ◌<◌, Bool, true, false, not, ◌&&◌, ◌||◌, List, [], ◌∷◌, length, codes, Option, Some, None, ◌⊎◌, inl, inr, if◌then◌else◌, refl, ap, subst, ◌-◌, arith, le-leb}
use Rattle.std.specs.Prelude.{◌==◌, nat_le, IsTrue}
use Rattle.std.proofs.lemmas.Bool.{and_parts, and_from, eqb-true, leb-true, or_cases}
use Rattle.lay_piece.specs.declared.kind.Delim.TheVariants.{Paren, Bracket}
use Rattle.lay_form.specs.BracedEnds.{EndsBraced}
use Rattle.lay_form.specs.Form.{Bit, Blank, Fixed, Operator, Semicolons, Form, Done, Piece, Leaf, Listed, ListedDoc, Brk, LastComma, Group, Part, Deeper, Optional, Docs, Body, comma}
use Rattle.lay_form.specs.Spelled.{AreBits, Spells, Then, cost}
use Rattle.lay_form.proofs.BracedEnds.{spelled, deeper as braced_deeper}
use Rattle.lay_form.proofs.FormLaws.{behind_end, bits_end, closes_end, deeper as raise, doc_end, may_be_end, opens_end, shorter}
use Rattle.lay_node.specs.Ahead.{Tokens, first, is_keyword, opens}
use Rattle.lay_node.specs.nodes.Types.{is_there}
use Rattle.lay_node.proofs.Fronts.{end_shorter, one_shorter, op_shorter}
use Rattle.lay_code.specs.Operators.{binary, is_dot_or_try, strength, strength_by}
use Rattle.lay_code.specs.nodes.Exprs.{ExprFacts, Followed, Tail, root_follows, tail_follows}
use Rattle.lay_code.specs.nodes.Places.{is_whole}
use Rattle.lay_code.specs.declared.exprs.Place.{Place}
use Rattle.lay_code.specs.declared.operators.Op.{Op}

-- ---- forms that can't end within braces that aren't in the tree

abbrev pub takes_bit : Bit → Bool
takes_bit Blank = false
takes_bit (Fixed kind text) = true
takes_bit (Operator text) = is_there text
takes_bit Semicolons = false

-- At least one token is spelled.
abbrev pub takes_bits : List Bit → Bool
takes_bits [] = false
takes_bits (b ∷ bs) = takes_bit b || takes_bits bs

abbrev pub takes : Form → Bool
takes Done = false
takes (Piece bits f) = takes_bits bits || takes f
takes (Leaf kind text f) = true
takes (Listed kind text joint f) = true
takes (ListedDoc inner text f) = true
takes (Brk space f) = takes f
takes (LastComma blanks f) = takes f
takes (Group consistent offset i f) = takes i || takes f
takes (Part i f) = takes i || takes f
takes (Deeper i f) = takes i || takes f
takes (Optional laid bits f) = takes f
takes (Docs inner text f) = takes f
takes (Body braces behind i f) = takes i || takes f

bit_taken : (b : Bit) → takes_bit b ≡ true → (bs : List Bit) (ts rest : Tokens) → AreBits (b ∷ bs) ts rest → length rest < length ts
bit_taken Blank h bs ts rest s = absurd (cc h)
bit_taken (Fixed kind text) h bs ts rest s =
    omega (arith, one_shorter kind text ts s.0 s.1, end_shorter s.0 rest (bits_end bs s.0 rest s.2))
bit_taken (Operator []) h bs ts rest s = absurd (cc h)
bit_taken (Operator (c ∷ cs)) h bs ts rest s =
    omega (arith, op_shorter c cs ts s.0 s.1, end_shorter s.0 rest (bits_end bs s.0 rest s.2))
bit_taken Semicolons h bs ts rest s = absurd (cc h)

bits_left : (bits : List Bit) (ts rest : Tokens) → AreBits bits ts rest → length rest ≤ length ts
bits_left bits ts rest s = end_shorter ts rest (bits_end bits ts rest s)

bits_taken : (bits : List Bit) → takes_bits bits ≡ true → (ts rest : Tokens) → AreBits bits ts rest → length rest < length ts
bits_taken [] h ts rest s = absurd (cc h)
bits_taken (b ∷ bs) h ts rest s = elim (or_cases (takes_bit b) (takes_bits bs) h) [
  | inl g ↦ bit_taken b g bs ts rest s
  | inr g ↦ omega (arith, bits_left (b ∷ []) ts s.0 (s.0, s.1, refl), bits_taken bs g s.0 rest s.2)
]

-- Fewer tokens are left after it.
taken : (f : Form) → takes f ≡ true → (depth : ℕ) (ts rest : Tokens) → Spells f depth ts rest → length rest < length ts
taken Done h depth ts rest s = absurd (cc h)
taken (Piece bits f) h depth ts rest s = elim (or_cases (takes_bits bits) (takes f) h) [
  | inl g ↦ omega (arith, bits_taken bits g ts s.0 s.1, shorter f depth s.0 rest s.2)
  | inr g ↦ omega (arith, bits_left bits ts s.0 s.1, taken f g depth s.0 rest s.2)
]
taken (Leaf kind text f) h depth ts rest s = omega (arith, one_shorter kind text ts s.0 s.1, shorter f depth s.0 rest s.2)
taken (Listed kind text joint f) h depth [] rest s = absurd s.1
taken (Listed kind text joint f) h depth (t ∷ ts) rest s = omega (arith, ap length s.1.3, shorter f depth s.0 rest s.2)
taken (ListedDoc inner text f) h depth [] rest s = absurd s.1
taken (ListedDoc inner text f) h depth (t ∷ ts) rest s = omega (arith, ap length s.1.3, shorter f depth s.0 rest s.2)
taken (Brk space f) h depth ts rest s = taken f h depth ts rest s
taken (LastComma blanks f) h depth ts rest s =
    omega (arith, end_shorter ts s.0 (may_be_end comma ts s.0 s.1), taken f h depth s.0 rest s.2)
taken (Group consistent offset i f) h depth ts rest s = elim (or_cases (takes i) (takes f) h) [
  | inl g ↦ omega (arith, taken i g depth ts s.0 s.1, shorter f depth s.0 rest s.2)
  | inr g ↦ omega (arith, shorter i depth ts s.0 s.1, taken f g depth s.0 rest s.2)
]
taken (Part i f) h depth ts rest s = elim (or_cases (takes i) (takes f) h) [
  | inl g ↦ omega (arith, taken i g depth ts s.0 s.1, shorter f depth s.0 rest s.2)
  | inr g ↦ omega (arith, shorter i depth ts s.0 s.1, taken f g depth s.0 rest s.2)
]
taken (Deeper i f) h zero ts rest s = absurd s
taken (Deeper i f) h (suc depth) ts rest s = elim (or_cases (takes i) (takes f) h) [
  | inl g ↦ omega (arith, taken i g depth ts s.0 s.1, shorter f (suc depth) s.0 rest s.2)
  | inr g ↦ omega (arith, shorter i depth ts s.0 s.1, taken f g (suc depth) s.0 rest s.2)
]
taken (Optional laid bits f) h depth ts rest s =
    omega (arith, end_shorter ts s.0 (may_be_end bits ts s.0 s.1), taken f h depth s.0 rest s.2)
taken (Docs inner text f) h depth ts rest s =
    omega (arith, end_shorter ts s.0 (doc_end inner text ts s.0 s.1), taken f h depth s.0 rest s.2)
taken (Body braces behind i f) h depth ts rest s =
    let braced = s.3.1 in
    let stands = s.3.2 in
    let opened = end_shorter ts braced.0 (opens_end s.0 ts braced.0 braced.1) in
    let closed = end_shorter braced.2.0 s.3.0 (closes_end s.0 braced.2.0 s.3.0 braced.2.2) in
    let behind_it = end_shorter s.3.0 stands.0 (behind_end behind s.0 s.3.0 stands.0 stands.1) in
    elim (or_cases (takes i) (takes f) h) [
      | inl g ↦
          let inner = taken i g (depth - cost s.0) braced.0 braced.2.0 braced.2.1 in
          omega (arith, opened, closed, behind_it, inner, shorter f depth stands.0 rest stands.2)
      | inr g ↦
          let inner = shorter i (depth - cost s.0) braced.0 braced.2.0 braced.2.1 in
          omega (arith, opened, closed, behind_it, inner, taken f g depth stands.0 rest stands.2)
    ]

-- It isn't spelled by nothing.
pub unspelled : (f : Form) → takes f ≡ true → (depth : ℕ) (rest : Tokens) → Spells f depth rest rest → ⊥
unspelled f h depth rest s = omega (arith, taken f h depth rest rest s)

-- No body stands at its end, nor before what may be spelled by nothing there.
abbrev pub bodiless : Form → Bool
bodiless Done = true
bodiless (Piece bits f) = bodiless f
bodiless (Leaf kind text f) = bodiless f
bodiless (Listed kind text joint f) = bodiless f
bodiless (ListedDoc inner text f) = bodiless f
bodiless (Brk space f) = bodiless f
bodiless (LastComma blanks f) = bodiless f
bodiless (Group consistent offset i f) = bodiless f && (takes f || bodiless i)
bodiless (Part i f) = bodiless f && (takes f || bodiless i)
bodiless (Deeper i f) = bodiless f && (takes f || bodiless i)
bodiless (Optional laid bits f) = bodiless f
bodiless (Docs inner text f) = bodiless f
bodiless (Body braces behind i f) = false

-- What ends in no body doesn't end so.
pub no_braced_end : (f : Form) → bodiless f ≡ true → (depth : ℕ) (ts rest : Tokens) → EndsBraced f depth ts rest → ⊥
no_braced_end Done h depth ts rest w = w
no_braced_end (Piece bits f) h depth ts rest w = no_braced_end f h depth w.0 rest w.2
no_braced_end (Leaf kind text f) h depth ts rest w = no_braced_end f h depth w.0 rest w.2
no_braced_end (Listed kind text joint f) h depth ts rest w = no_braced_end f h depth w.0 rest w.2
no_braced_end (ListedDoc inner text f) h depth ts rest w = no_braced_end f h depth w.0 rest w.2
no_braced_end (Brk space f) h depth ts rest w = no_braced_end f h depth ts rest w
no_braced_end (LastComma blanks f) h depth ts rest w = no_braced_end f h depth w.0 rest w.2
no_braced_end (Group consistent offset i f) h depth ts rest (inl w) =
    no_braced_end f (and_parts (bodiless f) (takes f || bodiless i) h).0 depth w.0 rest w.2
no_braced_end (Group consistent offset i f) h depth ts rest (inr w) =
    elim (or_cases (takes f) (bodiless i) (and_parts (bodiless f) (takes f || bodiless i) h).1) [
      | inl g ↦ unspelled f g depth rest w.1
      | inr g ↦ no_braced_end i g depth ts rest w.0
    ]
no_braced_end (Part i f) h depth ts rest (inl w) =
    no_braced_end f (and_parts (bodiless f) (takes f || bodiless i) h).0 depth w.0 rest w.2
no_braced_end (Part i f) h depth ts rest (inr w) =
    elim (or_cases (takes f) (bodiless i) (and_parts (bodiless f) (takes f || bodiless i) h).1) [
      | inl g ↦ unspelled f g depth rest w.1
      | inr g ↦ no_braced_end i g depth ts rest w.0
    ]
no_braced_end (Deeper i f) h zero ts rest w = w
no_braced_end (Deeper i f) h (suc depth) ts rest (inl w) =
    no_braced_end f (and_parts (bodiless f) (takes f || bodiless i) h).0 (suc depth) w.0 rest w.2
no_braced_end (Deeper i f) h (suc depth) ts rest (inr w) =
    elim (or_cases (takes f) (bodiless i) (and_parts (bodiless f) (takes f || bodiless i) h).1) [
      | inl g ↦ unspelled f g (suc depth) rest w.1
      | inr g ↦ no_braced_end i g depth ts rest w.0
    ]
no_braced_end (Optional laid bits f) h depth ts rest w = no_braced_end f h depth w.0 rest w.2
no_braced_end (Docs inner text f) h depth ts rest w = no_braced_end f h depth w.0 rest w.2
no_braced_end (Body braces behind i f) h depth ts rest w = absurd (cc h)

-- ---- what is spelled, before what may follow it

-- What follows it may follow what it ends in, or it ends within braces that aren't in the tree and no operator follows.
-- The flag says that no struct literal may stand there.
abbrev pub Ended : Tail → Form → Bool → ℕ → Tokens → Tokens → Type 0
Ended t f no_struct depth ts rest = IsTrue (tail_follows t no_struct rest) ⊎ (EndsBraced f depth ts rest × IsTrue (strength rest == 0))

-- These tokens spell the form, and it ends so before the rest.
abbrev pub SpelledBefore : Tail → Form → Bool → ℕ → Tokens → Tokens → Type 0
SpelledBefore t f no_struct depth ts rest = Spells f depth ts rest × Ended t f no_struct depth ts rest

module _ (t : Tail) (no_struct : Bool) (depth : ℕ) where
  abbrev Before : Form → Tokens → Tokens → Type 0
  Before f = SpelledBefore t f no_struct depth

  -- What ends in a part ends so where the part does, for each kind of parts; and back.
  pub piece_made : (bits : List Bit) (f : Form) (ts mid rest : Tokens) → AreBits bits ts mid → Before f mid rest → Before (Piece bits f) ts rest
  piece_made bits f ts mid rest b (s, inl h) = ((mid, b, s), inl h)
  piece_made bits f ts mid rest b (s, inr h) = ((mid, b, s), inr ((mid, b, h.0), h.1))

  pub piece_parts : (bits : List Bit) (f : Form) (ts rest : Tokens) → Before (Piece bits f) ts rest → Then (AreBits bits) (Before f) ts rest
  piece_parts bits f ts rest (s, inl h) = (s.0, s.1, (s.2, inl h))
  piece_parts bits f ts rest (s, inr h) = (h.0.0, h.0.1, (spelled f depth h.0.0 rest h.0.2, inr (h.0.2, h.1)))

  pub part_made : (i f : Form) (ts mid rest : Tokens) → Spells i depth ts mid → Before f mid rest → Before (Part i f) ts rest
  part_made i f ts mid rest b (s, inl h) = ((mid, b, s), inl h)
  part_made i f ts mid rest b (s, inr h) = ((mid, b, s), inr (inl (mid, b, h.0), h.1))

  -- where what follows the part isn't spelled by nothing
  pub part_parts : (i f : Form) → ((us : Tokens) → Spells f depth us us → ⊥) → (ts rest : Tokens) → Before (Part i f) ts rest
      → Then (Spells i depth) (Before f) ts rest
  part_parts i f never ts rest (s, inl h) = (s.0, s.1, (s.2, inl h))
  part_parts i f never ts rest (s, inr (inl w, z)) = (w.0, w.1, (spelled f depth w.0 rest w.2, inr (w.2, z)))
  part_parts i f never ts rest (s, inr (inr w, z)) = absurd (never rest w.1)

  pub last_made : (i : Form) (ts rest : Tokens) → Before i ts rest → Before (Part i Done) ts rest
  last_made i ts rest (s, inl h) = ((rest, s, refl), inl h)
  last_made i ts rest (s, inr h) = ((rest, s, refl), inr (inr (h.0, refl), h.1))

  pub last_parts : (i : Form) (ts rest : Tokens) → Before (Part i Done) ts rest → Before i ts rest
  last_parts i ts rest (s, inl h) = (subst (λ us. Spells i depth ts us) s.2 s.1, inl h)
  last_parts i ts rest (s, inr (inl w, z)) = absurd w.2
  last_parts i ts rest (s, inr (inr w, z)) = (spelled i depth ts rest w.0, inr (w.0, z))

  pub group_made : (consistent : Bool) (offset : ℕ) (i : Form) (ts rest : Tokens) → Before i ts rest
      → Before (Group consistent offset i Done) ts rest
  group_made consistent offset i ts rest (s, inl h) = ((rest, s, refl), inl h)
  group_made consistent offset i ts rest (s, inr h) = ((rest, s, refl), inr (inr (h.0, refl), h.1))

  pub group_parts : (consistent : Bool) (offset : ℕ) (i : Form) (ts rest : Tokens) → Before (Group consistent offset i Done) ts rest
      → Before i ts rest
  group_parts consistent offset i ts rest (s, inl h) = (subst (λ us. Spells i depth ts us) s.2 s.1, inl h)
  group_parts consistent offset i ts rest (s, inr (inl w, z)) = absurd w.2
  group_parts consistent offset i ts rest (s, inr (inr w, z)) = (spelled i depth ts rest w.0, inr (w.0, z))

  -- the form of a node, one level deeper
  pub node_made : (i : Form) (ts rest : Tokens) → Before i ts rest → SpelledBefore t (Deeper i Done) no_struct (suc depth) ts rest
  node_made i ts rest (s, inl h) = ((rest, s, refl), inl h)
  node_made i ts rest (s, inr h) = ((rest, s, refl), inr (inr (h.0, refl), h.1))

  pub node_parts : (i : Form) (ts rest : Tokens) → SpelledBefore t (Deeper i Done) no_struct (suc depth) ts rest → Before i ts rest
  node_parts i ts rest (s, inl h) = (subst (λ us. Spells i depth ts us) s.2 s.1, inl h)
  node_parts i ts rest (s, inr (inl w, z)) = absurd w.2
  node_parts i ts rest (s, inr (inr w, z)) = (spelled i depth ts rest w.0, inr (w.0, z))

-- If what may follow one end may follow another, what is spelled before the one is spelled before the other.
pub ended_as : (t u : Tail) (f : Form) (no_struct : Bool) (depth : ℕ) (ts rest : Tokens)
    → (tail_follows t no_struct rest ≡ true → tail_follows u no_struct rest ≡ true) → SpelledBefore t f no_struct depth ts rest
    → SpelledBefore u f no_struct depth ts rest
ended_as t u f no_struct depth ts rest g (s, inl h) = (s, inl (g h))
ended_as t u f no_struct depth ts rest g (s, inr h) = (s, inr h)

-- The same, where it tells that no operator follows.
pub ended_weak : (t u : Tail) (f : Form) (no_struct : Bool) (depth : ℕ) (ts rest : Tokens)
    → (tail_follows t no_struct rest ≡ true → (tail_follows u no_struct rest ≡ true) × (strength rest ≡ 0))
    → SpelledBefore t f no_struct depth ts rest → SpelledBefore u f no_struct depth ts rest × (strength rest ≡ 0)
ended_weak t u f no_struct depth ts rest g (s, inl h) = ((s, inl (g h).0), (g h).1)
ended_weak t u f no_struct depth ts rest g (s, inr h) = ((s, inr h), eqb-true (strength rest) 0 h.1)

-- It does so at each greater depth.
pub before_deeper : (t : Tail) (f : Form) (no_struct : Bool) (depth more : ℕ) (ts rest : Tokens) → depth ≤ more
    → SpelledBefore t f no_struct depth ts rest → SpelledBefore t f no_struct more ts rest
before_deeper t f no_struct depth more ts rest le (s, inl h) = (raise f depth more ts rest le s, inl h)
before_deeper t f no_struct depth more ts rest le (s, inr h) =
    (raise f depth more ts rest le s, inr (braced_deeper f depth more ts rest le h.0, h.1))

-- What ends in no body doesn't end so.
pub bodiless_tail : (t : Tail) (f : Form) (no_struct : Bool) (depth : ℕ) (ts rest : Tokens) → bodiless f ≡ true
    → Ended t f no_struct depth ts rest → tail_follows t no_struct rest ≡ true
bodiless_tail t f no_struct depth ts rest n (inl h) = h
bodiless_tail t f no_struct depth ts rest n (inr h) = absurd (no_braced_end f n depth ts rest h.0)

-- ---- what follows an expression

-- Where nothing goes on, neither `.` nor `?` stands.
weak_no_dot : (ts : Tokens) → strength ts ≡ 0 → is_dot_or_try ts ≡ false
unfolding strength
weak_no_dot ts h = by (binary ts) h
  where
    step : (a b c : Bool) → ◌≡◌ {A = ℕ} (if a then 12 else (if b || c then 14 else 0)) 0 → b ≡ false
    step true b c e = absurd (cc)
    step false true c e = absurd (cc)
    step false false c e = refl

    by : (o : Option Op) → strength_by o ts ≡ 0 → is_dot_or_try ts ≡ false
    by (Some o) e = absurd (cc)
    by None e = step (first (is_keyword (codes "as")) ts) (is_dot_or_try ts) (first (opens Paren) ts || first (opens Bracket) ts) e

-- Where no operator follows nothing goes on with the root.
pub weak_root : (x : ExprFacts) (place : Place) (rest : Tokens) → strength rest ≡ 0 → root_follows x place rest ≡ true
weak_root x place rest z =
    by (is_whole place.start && x.block_like) (rw (weak_no_dot rest z) refl) (le-leb (strength rest) place.level (omega (arith, z)))
  where
    by : (b : Bool) → not (is_dot_or_try rest) ≡ true → nat_le (strength rest) place.level ≡ true
        → (if b then not (is_dot_or_try rest) else nat_le (strength rest) place.level) ≡ true
    by true n l = n
    by false n l = l

module _ (x : ExprFacts) (place : Place) where
  -- What follows it goes on neither with its root nor with what it ends in, or it ends so.
  pub followed : (depth : ℕ) (ts rest : Tokens) → root_follows x place rest ≡ true → Ended x.tail x.form place.no_struct depth ts rest
      → Followed x place depth ts rest
  followed depth ts rest r (inl h) = inl (and_from (root_follows x place rest) (tail_follows x.tail place.no_struct rest) r h)
  followed depth ts rest r (inr h) = inr h

  pub root_of : (depth : ℕ) (ts rest : Tokens) → Followed x place depth ts rest → root_follows x place rest ≡ true
  root_of depth ts rest (inl h) = (and_parts (root_follows x place rest) (tail_follows x.tail place.no_struct rest) h).0
  root_of depth ts rest (inr h) = weak_root x place rest (eqb-true (strength rest) 0 h.1)

  pub ended_of : (depth : ℕ) (ts rest : Tokens) → Followed x place depth ts rest → Ended x.tail x.form place.no_struct depth ts rest
  ended_of depth ts rest (inl h) = inl (and_parts (root_follows x place rest) (tail_follows x.tail place.no_struct rest) h).1
  ended_of depth ts rest (inr h) = inr h

  -- Where it doesn't begin a statement as a block does, no operator above the level of the place follows.
  pub level_of : (depth : ℕ) (ts rest : Tokens) → (is_whole place.start && x.block_like) ≡ false → Followed x place depth ts rest
      → strength rest ≤ place.level
  level_of depth ts rest n h =
      by (is_whole place.start && x.block_like) n (root_of depth ts rest h)
    where
      by : (b : Bool) → b ≡ false → (if b then not (is_dot_or_try rest) else nat_le (strength rest) place.level) ≡ true
          → strength rest ≤ place.level
      by true n l = absurd (cc n)
      by false n l = leb-true (strength rest) place.level l

  -- What follows it at a depth follows it at each greater one.
  pub followed_deeper : (depth more : ℕ) (ts rest : Tokens) → depth ≤ more → Followed x place depth ts rest
      → Followed x place more ts rest
  followed_deeper depth more ts rest le (inl h) = inl h
  followed_deeper depth more ts rest le (inr h) = inr (braced_deeper x.form depth more ts rest le h.0, h.1)
