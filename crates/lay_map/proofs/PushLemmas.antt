-- What each word does to what waits, and that a text does what its words do.
use Rattle.std.proofs.Common.{◌≡◌, ℕ, zero, suc, ◌-◌, Bool, true, false, cond, not, ◌||◌, List, [], ◌∷◌, ◌++◌, map, drop, length, refl, sym, ap, ap₂, ◌∙◌, subst, append_assoc, append-nil, arith}
use Rattle.std.specs.Prelude.{◌==◌}
use Rattle.std.proofs.lemmas.Bool.{and_parts, and_from, eqb-true, not-true}
use Rattle.lay_piece.specs.Characters as char
use Rattle.lay_piece.specs.Chars.{is_nil}
use Rattle.lay_piece.specs.declared.kind.Kind.{Kind}
use Rattle.lay_piece.specs.declared.kind.Kind.TheVariants.{Punct}
use Rattle.lay_token.specs.declared.token.Token.{Token}
use Rattle.lay_form.specs.Form.{Bit, Blank, Fixed, Operator, Semicolons}
use Rattle.lay_form.specs.Layout.{text_of_bit, text_of_bits}
use Rattle.lay_map.specs.spelling.Choice.{chosen, closes, is_loose, is_semicolon, leading, opens}
use Rattle.lay_map.specs.spelling.Units as units
use Rattle.lay_map.specs.spelling.Units.{Word, Told, Comment, Documented, said, punct_word, bit_words, bits_words}
use Rattle.lay_map.specs.Flow.{are_proper, is_proper, is_told, same}
use Rattle.lay_map.specs.Marking.{State, first_ahead, raised, words_of, worded}
use Rattle.lay_map.specs.Places.{place_of}
use Rattle.lay_map.specs.Walks.{Place, first_length, more_of, placed, sought_from, taken_from}
use Rattle.lay_map.specs.declared.marking.Within.{Within}
use Rattle.lay_map.specs.declared.marking.Within.TheVariants.{Code}
use Rattle.lay_map.specs.declared.unit.Unit.{Unit}
use Rattle.lay_map.specs.declared.walk.Sought.TheVariants.{First, Docs}
use Rattle.lay_map.proofs.WordLemmas.{brace, braces, braces_before, left, opens_brace, row_found, same_is, seeks_comment, seeks_documented, seeks_told, total, word_found}

-- ---- places and rows

-- a place, and how many opening braces wait
pub record Walk : Type 0 where
  pub place : Place
  pub row : ℕ

-- what is left to be said
abbrev pub words_left : Walk → List Word → List Word
words_left w ws = braces w.row ws

-- It is all found.
abbrev pub Found : Walk → List Word → Type 0
Found w ws = said (left w.place (words_left w ws)) ≡ words_left w ws

abbrev pub all : Walk → List Word → List Unit
all w ws = total w.place (words_left w ws)

-- From the one to the other, by which the first words are found.
pub record Leads (w v : Walk) (ws vs : List Word) : Type 0 where
  pub found : Found v vs
  pub same : all w ws ≡ all v vs

pub leads_on : (w v u : Walk) (xs ys cs : List Word) → Leads w v xs ys → Leads v u ys cs → Leads w u xs cs
leads_on w v u xs ys cs k l = record { found = l.found; same = k.same ∙ l.same }

pub leads_from : (w : Walk) (ws : List Word) → Found w ws → Leads w w ws ws
leads_from w ws h = record { found = h; same = refl }

-- ---- a state that stands so

abbrev pub state : Walk → Bool → Within → Bool → List Bool → State
state w comma within arrow outer = record {
  place = w.place;
  row = w.row;
  comma = comma;
  within = within;
  arrow = arrow;
  outer = outer;
}

-- Nothing waits.
abbrev pub still : Walk → Bool → List Bool → State
still w arrow outer = state w false Code arrow outer

-- ---- one word

-- What a proper word's kind tells of its first character.
told_parts : (kind : Kind) (c : ℕ) (cs : List ℕ) → is_told kind c cs ≡ true
    → (opens kind ≡ (c == char.open_brace)) × (closes kind ≡ (c == char.close_brace)) × (is_semicolon kind (c ∷ cs) ≡ (c == char.semicolon))
    × ((c == char.blank) ≡ false) × ((not (opens kind) || is_nil cs) ≡ true)
told_parts kind c cs h =
    let p = and_parts (same (opens kind) (c == char.open_brace)) _ h in
    let q = and_parts (same (closes kind) (c == char.close_brace)) _ p.1 in
    let r = and_parts (same (is_semicolon kind (c ∷ cs)) (c == char.semicolon)) _ q.1 in
    let u = and_parts (not (c == char.blank)) _ r.1 in (
      same_is (opens kind) (c == char.open_brace) p.0,
      same_is (closes kind) (c == char.close_brace) q.0,
      same_is (is_semicolon kind (c ∷ cs)) (c == char.semicolon) r.0,
      not-true (c == char.blank) u.0,
      u.1,
    )

-- the walk after a word that is no opening brace
abbrev pub walk_behind : Bool → ℕ → Walk → Walk
walk_behind loose c w = record { place = taken_from 0 (sought_from (First c) (placed loose w.row w.place)); row = 0 }

abbrev pub doc_behind : Bool → Walk → Walk
doc_behind inner w = let p = sought_from Docs (placed true w.row w.place) in record { place = taken_from (more_of inner p.ahead) p; row = 0 }

-- a word that is no opening brace: where it leads, and how long its token is
pub record Words (w : Walk) (kind : Kind) (c : ℕ) (cs : List ℕ) (ws : List Word) : Type 0 where
  pub leads : Leads w (walk_behind (not (c == char.semicolon)) c w) (Told kind (c ∷ cs) ∷ ws) ws
  pub length_is : first_length (sought_from (First c) (placed (not (c == char.semicolon)) w.row w.place)).ahead ≡ suc (length cs)

pub word_leads : (w : Walk) (kind : Kind) (c : ℕ) (cs : List ℕ) (ws : List Word) → is_told kind c cs ≡ true → opens kind ≡ false
    → Found w (Told kind (c ∷ cs) ∷ ws) → Words w kind c cs ws
word_leads w kind c cs ws k o h =
    let word = Told kind (c ∷ cs) in
    let parts = told_parts kind c cs k in
    let lead : leading (word ∷ ws) ≡ 0 = ap (λ (b : Bool). cond b (suc (leading ws)) 0) o in
    let loose : is_loose (word ∷ ws) ≡ not (c == char.semicolon) =
    ap (λ (b : Bool). cond b (is_loose ws) (not (is_semicolon kind (c ∷ cs)))) o ∙ ap not parts.2 in
    let p = placed (not (c == char.semicolon)) w.row w.place in
    let row = row_found (not (c == char.semicolon)) w.row w.place.ahead w.place.braces w.place.units (word ∷ ws) lead loose h in
    let found = word_found word (First c) p.ahead p.braces p.units ws (seeks_told kind c cs o parts.1) row.finds in
    record {
      leads = record { found = found.goes.finds; same = row.total ∙ found.goes.total };
      length_is = found.text;
    }

pub comment_leads : (w : Walk) (inner : Bool) (text : List ℕ) (ws : List Word) → Found w (Comment inner text ∷ ws)
    → Leads w (doc_behind inner w) (Comment inner text ∷ ws) ws
comment_leads w inner text ws h =
    let p = placed true w.row w.place in
    let row = row_found true w.row w.place.ahead w.place.braces w.place.units (Comment inner text ∷ ws) refl refl h in
    let found = word_found (Comment inner text) Docs p.ahead p.braces p.units ws (seeks_comment inner text) row.finds in
    record { found = found.goes.finds; same = row.total ∙ found.goes.total }

pub documented_leads : (w : Walk) (inner : Bool) (text : List ℕ) (ws : List Word) → Found w (Documented inner text ∷ ws)
    → Leads w (doc_behind inner w) (Documented inner text ∷ ws) ws
documented_leads w inner text ws h =
    let p = placed true w.row w.place in
    let row = row_found true w.row w.place.ahead w.place.braces w.place.units (Documented inner text ∷ ws) refl refl h in
    let found = word_found (Documented inner text) Docs p.ahead p.braces p.units ws (seeks_documented inner text) row.finds in
    record { found = found.goes.finds; same = row.total ∙ found.goes.total }

-- one more opening brace waits
abbrev higher : Walk → Walk
higher w = record { place = w.place; row = suc w.row }

pub brace_leads : (w : Walk) (ws : List Word) → Found w (brace ∷ ws) → Leads w (higher w) (brace ∷ ws) ws
brace_leads w ws h = record {
  found = subst (λ (x : List Word). said (left w.place x) ≡ x) (braces_before w.row ws) h;
  same = ap (total w.place) (braces_before w.row ws);
}

-- ---- what follows nothing more

-- Where no word is left the braces that wait are all.
pub last_units : (w : Walk) → Found w [] → (placed true w.row w.place).units ≡ all w []
last_units w h =
    let row = row_found true w.row w.place.ahead w.place.braces w.place.units [] refl refl h in
    sym (row.total ∙ none (placed true w.row w.place))
  where
    no_words : (ys : List Bool) (ts : List Token) → chosen 0 ys [] ts ≡ []
    no_words ys [] = refl
    no_words ys (t ∷ ts) = refl

    none : (p : Place) → total p [] ≡ p.units
    none p = ap (λ (x : List units.Unit). p.units ++ map place_of x) (no_words p.braces p.ahead) ∙ append-nil p.units

-- ---- words of a text

pub skipped : (n : ℕ) (cs : List ℕ) (s : State) → words_of n cs s ≡ words_of 0 (drop n cs) s
skipped zero cs s = refl
skipped (suc n) [] s = refl
skipped (suc n) (c ∷ cs) s = skipped n cs s

one_less : (n : ℕ) → suc n - 1 ≡ n
one_less n = omega arith

drop_own : (cs rest : List ℕ) → drop (length cs) (cs ++ rest) ≡ rest
drop_own [] rest = refl
drop_own (c ∷ cs) rest = drop_own cs rest

-- A text of words leads so.
pub record Reads (w : Walk) (arrow : Bool) (outer : List Bool) (text : List ℕ) (words ws : List Word) : Type 0 where
  pub end : Walk
  pub reads : (rest : List ℕ) → words_of 0 (text ++ rest) (still w arrow outer) ≡ words_of 0 rest (still end arrow outer)
  pub leads : Leads w end (words ++ ws) ws

pub reads_none : (w : Walk) (arrow : Bool) (outer : List Bool) (ws : List Word) → Found w ws → Reads w arrow outer [] [] ws
reads_none w arrow outer ws h = record { end = w; reads = λ rest. refl; leads = leads_from w ws h }

reads_two : (w : Walk) (arrow : Bool) (outer : List Bool) (text more : List ℕ) (xs ys ws : List Word)
    → (k : Reads w arrow outer text xs (ys ++ ws)) → Reads k.end arrow outer more ys ws → Reads w arrow outer (text ++ more) (xs ++ ys) ws
reads_two w arrow outer text more xs ys ws k l = record {
  end = l.end;
  reads = λ rest.
      ap (λ (x : List ℕ). words_of 0 x (still w arrow outer)) (append_assoc text more rest) ∙ k.reads (more ++ rest) ∙ l.reads rest;
  leads = subst (λ (x : List Word). Leads w l.end x ws) (sym (append_assoc xs ys ws)) (leads_on w k.end l.end (xs ++ (ys ++ ws)) (ys ++ ws) ws k.leads l.leads);
}

-- the character that begins a word, where its tests are known
first_char : (a b : Bool) (c : ℕ) (cs : List ℕ) (s : State) → (c == char.open_brace) ≡ a → (c == char.blank) ≡ b
    → words_of 0 (c ∷ cs) s ≡ cond a (words_of 0 cs (raised s)) (cond b (words_of 0 cs s) (words_of (first_ahead c s - 1) cs (worded c s)))
first_char a b c cs s e f =
    ap₂ (λ (x y : Bool). cond x (words_of 0 cs (raised s)) (cond y (words_of 0 cs s) (words_of (first_ahead c s - 1) cs (worded c s)))) e f

pub reads_word : (w : Walk) (arrow : Bool) (outer : List Bool) (kind : Kind) (text : List ℕ) (ws : List Word)
    → is_proper (Told kind text) ≡ true → Found w (Told kind text ∷ ws) → Reads w arrow outer text (Told kind text ∷ []) ws
reads_word w arrow outer kind [] ws k h = absurd (cc k)
reads_word w arrow outer kind (c ∷ cs) ws k h = by (opens kind) refl (told_parts kind c cs k)
  where
    by : (o : Bool) → opens kind ≡ o
        → (opens kind ≡ (c == char.open_brace)) × (closes kind ≡ (c == char.close_brace)) × (is_semicolon kind (c ∷ cs) ≡ (c == char.semicolon))
        × ((c == char.blank) ≡ false) × ((not (opens kind) || is_nil cs) ≡ true)
        → Reads w arrow outer (c ∷ cs) (Told kind (c ∷ cs) ∷ []) ws
    by false o parts =
        let l = word_leads w kind c cs ws k o h in
        let end = walk_behind (not (c == char.semicolon)) c w in
        record {
          end = end;
          reads = λ rest.
              first_char false false c (cs ++ rest) (still w arrow outer) (sym parts.0 ∙ o) parts.3
              ∙ ap (λ (n : ℕ). words_of (n - 1) (cs ++ rest) (still end arrow outer)) l.length_is
              ∙ ap (λ (n : ℕ). words_of n (cs ++ rest) (still end arrow outer)) (one_less (length cs))
              ∙ skipped (length cs) (cs ++ rest) (still end arrow outer)
              ∙ ap (λ (x : List ℕ). words_of 0 x (still end arrow outer)) (drop_own cs rest);
          leads = l.leads;
        }
    by true o parts =
        let nil : cs ≡ [] = none cs (ap (λ (b : Bool). not b || is_nil cs) (sym o) ∙ parts.4) in
        let first : c ≡ char.open_brace = same_char c (sym parts.0 ∙ o) in
        let word : Told kind (c ∷ cs) ≡ brace =
        ap₂ (λ (x : Kind) (y : List ℕ). Told x y) (opens_brace kind o) (ap₂ (λ (x : ℕ) (y : List ℕ). x ∷ y) first nil) in
        record {
          end = higher w;
          reads = λ rest.
              first_char true false c (cs ++ rest) (still w arrow outer) (sym parts.0 ∙ o) parts.3
              ∙ ap (λ (x : List ℕ). words_of 0 (x ++ rest) (still (higher w) arrow outer)) nil;
          leads = subst (λ (x : Word). Leads w (higher w) (x ∷ ws) ws) (sym word)
              (brace_leads w ws (subst (λ (x : Word). Found w (x ∷ ws)) word h));
        }
      where
        none : (xs : List ℕ) → is_nil xs ≡ true → xs ≡ []
        none [] h = refl
        none (x ∷ xs) h = absurd (cc h)

        same_char : (n : ℕ) → (n == char.open_brace) ≡ true → n ≡ char.open_brace
        same_char n h = eqb-true n char.open_brace h

-- ---- pieces

reads_op : (w : Walk) (arrow : Bool) (outer : List Bool) (op : List ℕ) (ws : List Word) → are_proper (map punct_word op) ≡ true
    → Found w (map punct_word op ++ ws) → Reads w arrow outer op (map punct_word op) ws
reads_op w arrow outer [] ws k h = reads_none w arrow outer ws h
reads_op w arrow outer (c ∷ cs) ws k h =
    let p = and_parts (is_proper (punct_word c)) (are_proper (map punct_word cs)) k in
    let one = reads_word w arrow outer Punct (c ∷ []) (map punct_word cs ++ ws) p.0 h in
    reads_two w arrow outer (c ∷ []) cs (punct_word c ∷ []) (map punct_word cs) ws one
    (reads_op one.end arrow outer cs ws p.1 one.leads.found)

proper_two : (xs ys : List Word) → are_proper (xs ++ ys) ≡ true → (are_proper xs ≡ true) × (are_proper ys ≡ true)
proper_two [] ys h = (refl, h)
proper_two (w ∷ xs) ys h =
    let p = and_parts (is_proper w) (are_proper (xs ++ ys)) h in
    let q = proper_two xs ys p.1 in
    (and_from (is_proper w) (are_proper xs) p.0 q.0, q.1)

reads_bit : (w : Walk) (arrow : Bool) (outer : List Bool) (b : Bit) (ws : List Word) → are_proper (bit_words b) ≡ true
    → Found w (bit_words b ++ ws) → Reads w arrow outer (text_of_bit b) (bit_words b) ws
reads_bit w arrow outer Blank ws k h = record { end = w; reads = λ rest. refl; leads = leads_from w ws h }
reads_bit w arrow outer (Fixed kind text) ws k h =
    reads_word w arrow outer kind text ws (and_parts (is_proper (Told kind text)) true k).0 h
reads_bit w arrow outer (Operator op) ws k h = reads_op w arrow outer op ws k h
reads_bit w arrow outer Semicolons ws k h = reads_none w arrow outer ws h

pub reads_bits : (w : Walk) (arrow : Bool) (outer : List Bool) (bits : List Bit) (ws : List Word) → are_proper (bits_words bits) ≡ true
    → Found w (bits_words bits ++ ws) → Reads w arrow outer (text_of_bits bits) (bits_words bits) ws
reads_bits w arrow outer [] ws k h = reads_none w arrow outer ws h
reads_bits w arrow outer (b ∷ ys) ws k h =
    let p = proper_two (bit_words b) (bits_words ys) k in
    let one = reads_bit w arrow outer b (bits_words ys ++ ws) p.0
    (subst (λ (x : List Word). Found w x) (append_assoc (bit_words b) (bits_words ys) ws) h) in
    reads_two w arrow outer (text_of_bit b) (text_of_bits ys) (bit_words b) (bits_words ys) ws one
    (reads_bits one.end arrow outer ys ws p.1 one.leads.found)
