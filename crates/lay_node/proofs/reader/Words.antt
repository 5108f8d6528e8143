-- Names and words, and the words of a path.
use Rattle.std.proofs.Common.{◌≡◌, ℕ, Bool, true, false, List, [], ◌∷◌, drop, codes, inl, inr, Option, Some, None, is_some, if◌then◌else◌, refl, ap, subst, arith}
use Rattle.lay_token.specs.Lexes.{is_punct}
use Rattle.lay_token.specs.Operators.{is_op}
use Rattle.lay_piece.specs.Word.{class_of}
use Rattle.lay_piece.specs.declared.kind.Kind.{Kind}
use Rattle.lay_piece.specs.declared.kind.Kind.TheVariants.{Ident, RawIdent}
use Rattle.lay_token.specs.declared.token.Token.{Token}
use Rattle.lay_form.specs.Form.{Operator, Form, Piece}
use Rattle.lay_form.specs.Notation.{when}
use Rattle.lay_form.specs.Spelled.{Then, IsOne, IsOperator, Spells}
use Rattle.lay_form.proofs.FormLaws.{one_end, bits_end}
use Rattle.lay_node.specs.Ahead.{Tokens}
use Rattle.lay_node.specs.Words.{is_plain, is_path_class, is_name, is_path_word, are_path_words, colons}
use Rattle.lay_node.specs.nodes.Use.{words_form}
use Rattle.lay_node.specs.reader.Exact.{InText}
use Rattle.lay_node.specs.reader.Loops.{Got}
use Rattle.lay_node.specs.reader.Words.{name_by, name, word_by, word, global, path_word, begins_path_word, path_words}
use Rattle.lay_node.specs.declared.token.Name.{Name}
use Rattle.lay_node.specs.declared.token.Word.{Word}
use Rattle.lay_node.proofs.Fronts.{texts_behind, one_front, one_no_op, one_shorter, op_shorter}
use Rattle.lay_node.proofs.Parts.{Rows, rows_to, rows_pass, rows_with, bit_alone, word_kind, word_kinds, leaf_spelled, leaf_parts}
use Rattle.lay_node.proofs.Steps.{got_same, same_some, chosen, bind_some}
use Rattle.lay_node.proofs.reader.Loops.{SoundStep, Turn, repeat_sound, repeat_complete}

-- ---- one token

-- a name or a word, by its flag and text, and a token's kind and text
abbrev IsLeaf : Kind → List ℕ → (Bool → List ℕ → Bool) → Bool → List ℕ → Type 0
IsLeaf kind text good raw given = (kind ≡ word_kind raw) × (text ≡ given) × (good raw given ≡ true)

pub name_by_is : (k : Kind) (text : List ℕ) (n : Name) → name_by k text ≡ Some n → IsLeaf k text is_name n.raw n.text
name_by_is Ident text n h =
    let one : Name = record { raw = false; text = text } in
    let P : Name → Type 0 = λ m. IsLeaf Ident text is_name m.raw m.text in
    elim (chosen (is_plain (class_of text)) (Some one) None (Some n) h) [
      | inl g ↦ same_some P one n g.1 (refl, refl, g.0)
      | inr g ↦ absurd (cc)
    ]
name_by_is RawIdent text n h =
    let one : Name = record { raw = true; text = text } in
    let P : Name → Type 0 = λ m. IsLeaf RawIdent text is_name m.raw m.text in
    same_some P one n h (refl, refl, refl)
name_by_is _ text n h = absurd (cc)

word_by_is : (k : Kind) (text : List ℕ) (w : Word) → word_by k text ≡ Some w → IsLeaf k text is_path_word w.raw w.text
word_by_is Ident text w h =
    let one : Word = record { raw = false; text = text } in
    let P : Word → Type 0 = λ m. IsLeaf Ident text is_path_word m.raw m.text in
    elim (chosen (is_path_class (class_of text)) (Some one) None (Some w) h) [
      | inl g ↦ same_some P one w g.1 (refl, refl, g.0)
      | inr g ↦ absurd (cc)
    ]
word_by_is RawIdent text w h =
    let one : Word = record { raw = true; text = text } in
    let P : Word → Type 0 = λ m. IsLeaf RawIdent text is_path_word m.raw m.text in
    same_some P one w h (refl, refl, refl)
word_by_is _ text w h = absurd (cc)

abbrev pub GoodName : Name → Tokens → Tokens → Type 0
GoodName n ts rest = IsOne (word_kind n.raw) n.text ts rest × (is_name n.raw n.text ≡ true)

abbrev pub GoodWord : Word → Tokens → Tokens → Type 0
GoodWord w ts rest = IsOne (word_kind w.raw) w.text ts rest × (is_path_word w.raw w.text ≡ true)

pub name_sound : (ts : Tokens) (n : Name) (rest : Tokens) → name ts ≡ Some (n, rest) → GoodName n ts rest
unfolding name
name_sound [] n rest h = absurd (cc)
name_sound (t ∷ ts) n rest h =
    let b = bind_some (name_by t.kind t.text) (λ (m : Name). let found : Option (Name × Tokens) = Some (m, ts) in found) (n, rest) h in
    let e = got_same b.0 n ts rest b.2 in
    let i = name_by_is t.kind t.text b.0 b.1 in
    subst (λ m. GoodName m (t ∷ ts) rest) {x = b.0} e.0 ((i.0, i.1, e.1), i.2)

pub word_sound : (ts : Tokens) (w : Word) (rest : Tokens) → word ts ≡ Some (w, rest) → GoodWord w ts rest
unfolding word
word_sound [] w rest h = absurd (cc)
word_sound (t ∷ ts) w rest h =
    let b = bind_some (word_by t.kind t.text) (λ (m : Word). let found : Option (Word × Tokens) = Some (m, ts) in found) (w, rest) h in
    let e = got_same b.0 w ts rest b.2 in
    let i = word_by_is t.kind t.text b.0 b.1 in
    subst (λ m. GoodWord m (t ∷ ts) rest) {x = b.0} e.0 ((i.0, i.1, e.1), i.2)

pub word_complete : (w : Word) (ts rest : Tokens) → GoodWord w ts rest → word ts ≡ Some (w, rest)
unfolding word
word_complete w ts rest g = at w.raw w.text g.1 g.0
  where
    at : (raw : Bool) (text : List ℕ) → is_path_word raw text ≡ true → IsOne (word_kind raw) text ts rest
        → word ts ≡ Some (record { raw = raw; text = text }, rest)
    at true text h o = rw (one_front RawIdent text ts rest o).1 refl
    at false text h o = rw ((one_front Ident text ts rest o).1, h) refl

pub name_complete : (n : Name) (ts rest : Tokens) → GoodName n ts rest → name ts ≡ Some (n, rest)
unfolding name
name_complete n ts rest g = at n.raw n.text g.1 g.0
  where
    at : (raw : Bool) (text : List ℕ) → is_name raw text ≡ true → IsOne (word_kind raw) text ts rest
        → name ts ≡ Some (record { raw = raw; text = text }, rest)
    at true text h o = rw (one_front RawIdent text ts rest o).1 refl
    at false text h o = rw ((one_front Ident text ts rest o).1, h) refl

pub word_no_op : (op : List ℕ) (raw : Bool) (text : List ℕ) (ts rest : Tokens) → IsOne (word_kind raw) text ts rest → is_op op ts ≡ false
word_no_op op raw text ts rest o = one_no_op op (word_kind raw) text ts rest (word_kinds is_punct refl refl raw) o

-- ---- a `::` that leads

abbrev parted : Bool → Tokens → Bool × Tokens
parted b ts = if b then (true, drop 2 ts) else (false, ts)

abbrev pub LedBy : Bool → Tokens → Tokens → Type 0
LedBy leads ts rest = (f : Form) (depth : ℕ) (end : Tokens) → Spells f depth rest end → Spells (when leads colons f) depth ts end

parted_leads : (b : Bool) (ts : Tokens) → is_op (codes "::") ts ≡ b → LedBy (parted b ts).0 ts (parted b ts).1
parted_leads true ts h f depth end s = (drop 2 ts, (drop 2 ts, (h, refl), refl), s)
parted_leads false ts h f depth end s = s

pub global_leads : (ts : Tokens) → LedBy (global ts).0 ts (global ts).1
global_leads ts = parted_leads (is_op (codes "::") ts) ts refl

parted_texts : (b : Bool) (ts : Tokens) → is_op (codes "::") ts ≡ b → InText ts → InText (parted b ts).1
parted_texts true ts h t = texts_behind ts (drop 2 ts) (bits_end colons ts (drop 2 ts) (drop 2 ts, (h, refl), refl)) t
parted_texts false ts h t = t

pub global_texts : (ts : Tokens) → InText ts → InText (global ts).1
global_texts ts t = parted_texts (is_op (codes "::") ts) ts refl t

-- what is spelled after it, where that doesn't begin so itself
pub global_parts : (leads : Bool) (f : Form) (depth : ℕ) (ts rest : Tokens) → Spells (when leads colons f) depth ts rest
    → ((us : Tokens) → Spells f depth us rest → is_op (codes "::") us ≡ false) → (mid : Tokens) × (global ts ≡ (leads, mid)) × Spells f depth mid rest
global_parts true f depth ts rest s none =
    let o : IsOperator (codes "::") ts s.0 = bit_alone (Operator (codes "::")) ts s.0 s.1 in
    (s.0, rw (o.0, o.1) refl, s.2)
global_parts false f depth ts rest s none = (ts, rw (none ts s) refl, s)

-- ---- the words of a path that have a `::` after them

abbrev pub BeforeColons : Word → Tokens → Tokens → Type 0
BeforeColons w = Then (IsOne (word_kind w.raw) w.text) (IsOperator (codes "::"))

abbrev pub good_word : Word → Bool
good_word w = is_path_word w.raw w.text

abbrev pub PathWord : Word → Tokens → Tokens → Type 0
PathWord w ts rest = BeforeColons w ts rest × (good_word w ≡ true)

path_word_sound : SoundStep path_word PathWord
unfolding path_word
path_word_sound ts w rest t h =
    let go_on : (Word × Tokens) → Got Word = λ m. if is_op (codes "::") m.1 then Some (m.0, drop 2 m.1) else None in
    let b = bind_some (word ts) go_on (w, rest) h in
    elim (chosen (is_op (codes "::") b.0.1) (Some (b.0.0, drop 2 b.0.1)) None (Some (w, rest)) b.2) [
      | inl g ↦
          let i = word_sound ts b.0.0 b.0.1 b.1 in
          let at = b.0.1 in
          let left = texts_behind ts at (one_end (word_kind b.0.0.raw) b.0.0.text ts at i.0) t in
          let behind = texts_behind at (drop 2 at) (bits_end colons at (drop 2 at) (drop 2 at, (g.0, refl), refl)) left in
          same_some (λ (r : Word × Tokens). PathWord r.0 ts r.1 × InText r.1) (b.0.0, drop 2 at) (w, rest) g.1
          (((at, i.0, (g.0, refl)), i.1), behind)
      | inr g ↦ absurd (cc)
    ]

pub path_words_sound : (ts : Tokens) (ws : List Word) (rest : Tokens) → InText ts → path_words ts ≡ Some (ws, rest)
    → Rows PathWord ws ts rest × InText rest
unfolding path_words
path_words_sound ts ws rest t h = let r = repeat_sound begins_path_word path_word PathWord (λ us w left p m g. path_word_sound us w left p g) ts ws rest t h in (r.0, r.1)

pub words_spelled : (ws : List Word) (f : Form) (depth : ℕ) (ts mid rest : Tokens) → Rows PathWord ws ts mid → Spells f depth mid rest
    → Spells (words_form ws f) depth ts rest
words_spelled [] f depth ts mid rest r s = rw r s
words_spelled (w ∷ ws) f depth ts mid rest r s =
    let row = r.1.0 in
    leaf_spelled w.raw w.text (Piece colons (words_form ws f)) depth ts row.0 rest row.1
    (r.0, (r.0, row.2, refl), words_spelled ws f depth r.0 mid rest r.2 s)

pub words_good : (ws : List Word) (ts rest : Tokens) → Rows PathWord ws ts rest → are_path_words ws ≡ true
words_good ws ts rest r = rows_pass good_word BeforeColons ws ts rest r

words_rows : (ws : List Word) (f : Form) (depth : ℕ) (ts rest : Tokens) → Spells (words_form ws f) depth ts rest
    → (mid : Tokens) × Rows BeforeColons ws ts mid × Spells f depth mid rest
words_rows [] f depth ts rest s = (ts, refl, s)
words_rows (w ∷ ws) f depth ts rest s =
    let l = leaf_parts w.raw w.text (Piece colons (words_form ws f)) depth ts rest s in
    let behind = l.2 in
    let o : IsOperator (codes "::") l.0 behind.0 = bit_alone (Operator (codes "::")) l.0 behind.0 behind.1 in
    let r = words_rows ws f depth behind.0 rest behind.2 in
    (r.0, (behind.0, (l.0, l.1, o), r.1), r.2)

path_word_turn : (w : Word) (ts rest : Tokens) → PathWord w ts rest → Turn begins_path_word path_word w ts rest
unfolding path_word
path_word_turn w ts rest p =
    let row = p.0 in
    let o = row.2 in
    let read : path_word ts ≡ Some (w, rest) = rw (word_complete w ts row.0 (row.1, p.1), o.0, o.1) refl in
    (rw read refl, read, omega (arith, one_shorter (word_kind w.raw) w.text ts row.0 row.1, op_shorter 58 (codes ":") row.0 rest o))

-- No `::` follows the word.
pub last_word : (w : Word) (ts rest : Tokens) → GoodWord w ts rest → is_op (codes "::") rest ≡ false → path_word ts ≡ None
unfolding path_word
last_word w ts rest g h = rw (word_complete w ts rest g, h) refl

pub no_word : (ts rest : Tokens) (t : Token) → ts ≡ t ∷ rest → word_by t.kind t.text ≡ None → path_word ts ≡ None
unfolding path_word word
no_word ts rest t e h = rw (e, h) refl

pub path_words_complete : (ws : List Word) (f : Form) (depth : ℕ) (ts rest : Tokens) → are_path_words ws ≡ true → Spells (words_form ws f) depth ts rest
    → ((us : Tokens) → Spells f depth us rest → path_word us ≡ None) → (mid : Tokens) × (path_words ts ≡ Some (ws, mid)) × Spells f depth mid rest
unfolding path_words
path_words_complete ws f depth ts rest g s none =
    let r = words_rows ws f depth ts rest s in
    let turns = rows_to PathWord (Turn begins_path_word path_word) path_word_turn ws ts r.0 (rows_with good_word BeforeColons ws ts r.0 g r.1) in
    (r.0, repeat_complete path_word begins_path_word ws ts r.0 turns (ap is_some (none r.0 r.2)), r.2)
