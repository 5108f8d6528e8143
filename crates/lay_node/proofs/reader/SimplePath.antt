-- Simple paths.
use Rattle.std.proofs.Common.{◌≡◌, ℕ, Bool, true, false, not, List, [], ◌∷◌, drop, codes, Some, refl, subst, arith}
use Rattle.std.proofs.lemmas.Bool.{and_parts, and_from, not-true, false_from_ne_true}
use Rattle.std.specs.Str.{bytes_eq}
use Rattle.lay_token.specs.Operators.{is_op}
use Rattle.lay_piece.specs.Word.{class_of}
use Rattle.lay_piece.specs.declared.kind.Kind.TheVariants.{Ident, RawIdent}
use Rattle.lay_token.proofs.Deciding.{bytes_same}
use Rattle.lay_form.specs.Form.{Operator, Done, Piece}
use Rattle.lay_form.specs.Notation.{when}
use Rattle.lay_form.specs.Spelled.{Then, IsOne, IsOperator, Spells}
use Rattle.lay_form.proofs.FormLaws.{deeper, one_end, bits_end}
use Rattle.lay_node.specs.Ahead.{Tokens, first, is_keyword}
use Rattle.lay_node.specs.Follow.{OfColons, may_follow}
use Rattle.lay_node.specs.Words.{is_path_class, is_path_word, are_path_words, colons}
use Rattle.lay_node.specs.nodes.Facts.{Front}
use Rattle.lay_node.specs.nodes.SimplePath.{are_simple_words, is_simple_path, simple_words_form, simple_path_form, about_simple_path}
use Rattle.lay_node.specs.reader.Exact.{InText, Exact, needless}
use Rattle.lay_node.specs.reader.Loops.{Got, ◌>>=◌, repeat}
use Rattle.lay_node.specs.reader.SimplePath.{begins_colons, further_word, simple_path}
use Rattle.lay_node.specs.reader.Words.{word, global}
use Rattle.lay_node.specs.declared.simple_path.SimplePath.{SimplePath}
use Rattle.lay_node.specs.declared.token.Word.{Word}
use Rattle.lay_node.proofs.Fronts.{texts_behind, one_front, op_front, one_shorter, op_shorter}
use Rattle.lay_node.proofs.Parts.{Rows, rows_to, rows_pass, rows_with, bit_alone, word_kind, leaf_spelled, leaf_parts}
use Rattle.lay_node.proofs.Steps.{same_some, bind_some}
use Rattle.lay_node.proofs.reader.Exact.{Stands, exact, needless_sound, needless_complete}
use Rattle.lay_node.proofs.reader.Loops.{SoundTurn, Turn, repeat_sound, repeat_complete}
use Rattle.lay_node.proofs.reader.Words.{good_word, word_sound, word_complete, word_no_op, global_leads, global_texts, global_parts}

-- a word, by its token
abbrev IsWord : Word → Tokens → Tokens → Type 0
IsWord w = IsOne (word_kind w.raw) w.text

-- a word after its `::`
abbrev BehindColons : Word → Tokens → Tokens → Type 0
BehindColons w = Then (IsOperator (codes "::")) (IsWord w)

abbrev FurtherWord : Word → Tokens → Tokens → Type 0
FurtherWord w ts rest = BehindColons w ts rest × (good_word w ≡ true)

word_texts : (w : Word) (ts rest : Tokens) → IsWord w ts rest → InText ts → InText rest
word_texts w ts rest o t = texts_behind ts rest (one_end (word_kind w.raw) w.text ts rest o) t

-- ---- what is read is spelled

further_sound : SoundTurn begins_colons further_word FurtherWord
further_sound ts w rest t m h =
    let i = word_sound (drop 2 ts) w rest h in
    let o : IsOperator (codes "::") ts (drop 2 ts) = (m, refl) in
    let left = texts_behind ts (drop 2 ts) (bits_end colons ts (drop 2 ts) (drop 2 ts, o, refl)) t in
    (((drop 2 ts, o, i.0), i.1), word_texts w (drop 2 ts) rest i.0 left)

simple_words_spelled : (w : Word) (more : List Word) (depth : ℕ) (ts at rest : Tokens) → IsWord w ts at → Rows FurtherWord more at rest
    → Spells (simple_words_form (w ∷ more) Done) depth ts rest
simple_words_spelled w [] depth ts at rest o r = leaf_spelled w.raw w.text Done depth ts at rest o r
simple_words_spelled w (v ∷ more) depth ts at rest o r =
    let row = r.1.0 in
    leaf_spelled w.raw w.text (Piece colons (simple_words_form (v ∷ more) Done)) depth ts at rest o
    (row.0, (row.0, row.1, refl), simple_words_spelled v more depth row.0 r.0 rest row.2 r.2)

simple_path_stands : (ts : Tokens) (p : SimplePath) (rest : Tokens) → InText ts → simple_path ts ≡ Some (p, rest)
    → Stands (about_simple_path p) 0 ts rest
unfolding simple_path
simple_path_stands ts p rest t h =
    let leads = (global ts).0 in
    let start = (global ts).1 in
    let last : Word → (List Word × Tokens) → Got SimplePath = λ w more. Some (record { global = leads; words = w ∷ more.0 }, more.1) in
    let b = bind_some (word start) (λ w. repeat begins_colons further_word w.1 >>= last w.0) (p, rest) h in
    let c = bind_some (repeat begins_colons further_word b.0.1) (last b.0.0) (p, rest) b.2 in
    let w = b.0.0 in
    let i = word_sound start w b.0.1 b.1 in
    let left = word_texts w start b.0.1 i.0 (global_texts ts t) in
    let r = repeat_sound begins_colons further_word FurtherWord further_sound b.0.1 c.0.0 c.0.1 left c.1 in
    let spelled =
    global_leads ts (simple_words_form (w ∷ c.0.0) Done) 0 c.0.1 (simple_words_spelled w c.0.0 0 start b.0.1 c.0.1 i.0 r.0) in
    let good = and_from (good_word w) (are_path_words c.0.0) i.1 (rows_pass good_word BehindColons c.0.0 b.0.1 c.0.1 r.0) in
    let follows : may_follow (OfColons ∷ []) c.0.1 ≡ true = rw r.2 refl in
    same_some (λ (q : SimplePath × Tokens). Stands (about_simple_path q.0) 0 ts q.1)
    (record { global = leads; words = w ∷ c.0.0 }, c.0.1) (p, rest) c.2 (spelled, good, follows)

-- A simple path is spelled, and no `::` follows.
pub simple_path_sound : (depth : ℕ) (ts : Tokens) (p : SimplePath) (rest : Tokens) → InText ts → simple_path ts ≡ Some (p, rest)
    → Stands (about_simple_path p) depth ts rest
simple_path_sound depth ts p rest t h =
    let s = simple_path_stands ts p rest t h in (deeper (simple_path_form p) 0 depth ts rest (omega arith) s.0, s.1, s.2)

-- ---- what is spelled is read

simple_words_rows : (w : Word) (more : List Word) (depth : ℕ) (ts rest : Tokens) → Spells (simple_words_form (w ∷ more) Done) depth ts rest
    → (at : Tokens) × IsWord w ts at × Rows BehindColons more at rest
simple_words_rows w [] depth ts rest r = leaf_parts w.raw w.text Done depth ts rest r
simple_words_rows w (v ∷ more) depth ts rest r =
    let l = leaf_parts w.raw w.text (Piece colons (simple_words_form (v ∷ more) Done)) depth ts rest r in
    let behind = l.2 in
    let o : IsOperator (codes "::") l.0 behind.0 = bit_alone (Operator (codes "::")) l.0 behind.0 behind.1 in
    let further = simple_words_rows v more depth behind.0 rest behind.2 in
    (l.0, l.1, (further.0, (behind.0, o, further.1), further.2))

further_turn : (w : Word) (ts rest : Tokens) → FurtherWord w ts rest → Turn begins_colons further_word w ts rest
further_turn w ts rest f =
    let row = f.0 in
    let o = row.1 in
    let read : further_word ts ≡ Some (w, rest) = rw o.1 (word_complete w row.0 rest (row.2, f.1)) in
    (o.0, read, omega (arith, op_shorter 58 (codes ":") ts row.0 o, one_shorter (word_kind w.raw) w.text row.0 rest row.2))

pub simple_path_complete : (p : SimplePath) (depth : ℕ) (ts rest : Tokens) → Stands (about_simple_path p) depth ts rest
    → simple_path ts ≡ Some (p, rest)
unfolding simple_path
simple_path_complete p depth ts rest s = at p.global p.words s.0 s.1
  where
    at : (leads : Bool) (words : List Word) → Spells (when leads colons (simple_words_form words Done)) depth ts rest → are_simple_words words ≡ true
        → simple_path ts ≡ Some (record { global = leads; words = words }, rest)
    at leads [] t g = absurd (cc)
    at leads (one ∷ more) t g =
        let goods = and_parts (good_word one) (are_path_words more) g in
        let lead = global_parts leads (simple_words_form (one ∷ more) Done) depth ts rest t (λ us x.
        let r = simple_words_rows one more depth us rest x in word_no_op (codes "::") one.raw one.text us r.0 r.1) in
        let r = simple_words_rows one more depth lead.0 rest lead.2 in
        let turns = rows_to FurtherWord (Turn begins_colons further_word) further_turn more r.0 rest
        (rows_with good_word BehindColons more r.0 rest goods.1 r.2) in
        let none : begins_colons rest ≡ false = not-true (is_op (codes "::") rest) (and_parts (not (is_op (codes "::") rest)) true s.2).0 in
        rw (lead.1, word_complete one lead.0 r.0 (r.1, goods.0), repeat_complete further_word begins_colons more r.0 rest turns none) refl

pub simple_paths : Exact (needless simple_path) (λ (x : SimplePath). Front (about_simple_path x))
simple_paths =
    exact about_simple_path (needless simple_path) (needless_sound about_simple_path simple_path (simple_path_sound 0))
    (needless_complete about_simple_path simple_path simple_path_complete)

-- ---- the beginning of a simple path

pub word_no_keyword : (keyword : List ℕ) → is_path_class (class_of keyword) ≡ false → (raw : Bool) (text : List ℕ) (ts rest : Tokens)
    → is_path_word raw text ≡ true → IsOne (word_kind raw) text ts rest → first (is_keyword keyword) ts ≡ false
word_no_keyword keyword n true text ts rest g o = rw (one_front RawIdent text ts rest o).1 refl
word_no_keyword keyword n false text ts rest g o =
    let differs : bytes_eq text keyword ≡ false = false_from_ne_true (bytes_eq text keyword) (λ e.
    let path_word : is_path_class (class_of keyword) ≡ true =
    subst (λ w. is_path_class (class_of w) ≡ true) (bytes_same text keyword e) g in
    absurd (cc)) in
    rw ((one_front Ident text ts rest o).1, differs) refl

-- No keyword that isn't a word of a path begins a simple path.
pub simple_path_no_keyword : (keyword : List ℕ) → is_path_class (class_of keyword) ≡ false → (p : SimplePath) (depth : ℕ) (ts rest : Tokens)
    → is_simple_path p ≡ true → Spells (simple_path_form p) depth ts rest → first (is_keyword keyword) ts ≡ false
simple_path_no_keyword keyword n p depth ts rest g s = at p.global p.words g s
  where
    at : (leads : Bool) (words : List Word) → are_simple_words words ≡ true → Spells (when leads colons (simple_words_form words Done)) depth ts rest
        → first (is_keyword keyword) ts ≡ false
    at leads [] g s = absurd (cc)
    at true (one ∷ more) g s =
        let o : IsOperator (codes "::") ts s.0 = bit_alone (Operator (codes "::")) ts s.0 s.1 in rw (op_front (codes "::") ts o.0).2 refl
    at false (one ∷ more) g s =
        let w = simple_words_rows one more depth ts rest s in
        word_no_keyword keyword n one.raw one.text ts w.0 (and_parts (good_word one) (are_path_words more) g).0 w.1

-- what a simple path begins with: a `::`, or a word, after which a `::` or what follows the path stands
pub data SimplePathFront (ts rest : Tokens) : Type 0 where
  OfLead : is_op (codes "::") ts ≡ true → SimplePathFront ts rest
  OfWord : (raw : Bool) (text : List ℕ) (at : Tokens) → IsOne (word_kind raw) text ts at → is_op (codes "::") at ≡ true → SimplePathFront ts rest
  OfOne : (raw : Bool) (text : List ℕ) → IsOne (word_kind raw) text ts rest → SimplePathFront ts rest

pub simple_path_front : (p : SimplePath) (depth : ℕ) (ts rest : Tokens) → is_simple_path p ≡ true → Spells (simple_path_form p) depth ts rest
    → SimplePathFront ts rest
simple_path_front p depth ts rest g s = at p.global p.words g s
  where
    at : (leads : Bool) (words : List Word) → are_simple_words words ≡ true → Spells (when leads colons (simple_words_form words Done)) depth ts rest
        → SimplePathFront ts rest
    at leads [] g s = absurd (cc)
    at true (one ∷ more) g s = let o : IsOperator (codes "::") ts s.0 = bit_alone (Operator (codes "::")) ts s.0 s.1 in OfLead o.0
    at false (one ∷ []) g s =
        let w = simple_words_rows one [] depth ts rest s in
        OfOne one.raw one.text (subst (IsOne (word_kind one.raw) one.text ts) w.2 w.1)
    at false (one ∷ two ∷ more) g s =
        let w = simple_words_rows one (two ∷ more) depth ts rest s in
        let row = w.2.1 in
        OfWord one.raw one.text w.0 w.1 row.1.0
