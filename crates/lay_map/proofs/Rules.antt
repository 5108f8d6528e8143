-- Forms whose layout tells their units: a rule for each constructor, and one for lists, bodies, fields and braces. What is asked of the
-- words that follow is a part of the rule.
use Rattle.std.proofs.Common.{◌≡◌, ℕ, zero, suc, Bool, true, false, cond, not, ◌&&◌, ◌||◌, List, [], ◌∷◌, ◌++◌, codes, map, refl, sym, ap, ap₂, ◌∙◌, subst, append_assoc}
use Rattle.std.specs.Prelude.{⊤}
use Rattle.std.specs.List.{list_all}
use Rattle.std.specs.Str.{bytes_eq}
use Rattle.std.proofs.lemmas.Bool.{and_parts, and_from, not-true}
use Rattle.lay_piece.specs.declared.kind.Delim.TheVariants.{Brace}
use Rattle.lay_piece.specs.declared.kind.Kind.{Kind}
use Rattle.lay_piece.specs.declared.kind.Kind.TheVariants.{Punct, Doc}
use Rattle.lay_form.specs.Form.{Bit, Blank, Fixed, Operator, Semicolons, Space, Soft, Form, Done, Piece, Leaf, Listed, ListedDoc, Brk, LastComma, Group, Part, Deeper, Optional, Docs, Body, closer}
use Rattle.lay_form.specs.Layout.{text_of_bits}
use Rattle.lay_form.specs.Notation.{each, comma_gap, last_break, comma_list, braces}
use Rattle.lay_form.specs.Pieces.{is_text_of, are_pieces}
use Rattle.lay_map.specs.spelling.Choice.{alike, behind_word, behind_words, calm, calm_bits, clear, clear_bits, closes, firm, firm_bits, is_level, is_settled, none, opens, passes, shuts, top, under, word_closes}
use Rattle.lay_map.specs.spelling.Units.{Word, Told, bits_words, punct_word, words}
use Rattle.lay_map.specs.Flow.{Still, Said, Flow, Lost, At, are_comma, are_proper, is_plain, flow, group_flow, leaf_flow, left, words_flow}
use Rattle.lay_map.proofs.PieceLemmas.{bare_apart, bare_closes, bare_opens, bare_texts, is_bare, semicolon_mark}

-- ---- braces among words

-- Each closing brace among the words closes a kept one. These braces are open before the words, and those after them.
pub record Levels (ws : List Word) (before behind : List Bool) : Type 0 where
  pub shut_is : shuts ws before ≡ true
  pub leaves : behind_words ws before ≡ behind

-- this many kept braces within those that are open
abbrev pub kept_in : ℕ → List Bool → List Bool
kept_in zero stack = stack
kept_in (suc n) stack = true ∷ kept_in n stack

pub no_levels : (stack : List Bool) → Levels [] stack stack
no_levels stack = record { shut_is = refl; leaves = refl }

pub levels_two : (a b : List Word) {x y z : List Bool} → Levels a x y → Levels b y z → Levels (a ++ b) x z
levels_two a b {x} {y} {z} l m = record {
  shut_is = shut_two a x l.shut_is (subst (λ (s : List Bool). shuts b s ≡ true) (sym l.leaves) m.shut_is);
  leaves = behind_two a x ∙ ap (behind_words b) l.leaves ∙ m.leaves;
}
  where
    behind_two : (a : List Word) (x : List Bool) → behind_words (a ++ b) x ≡ behind_words b (behind_words a x)
    behind_two [] x = refl
    behind_two (w ∷ a) x = behind_two a (behind_word w x)

    shut_two : (a : List Word) (x : List Bool) → shuts a x ≡ true → shuts b (behind_words a x) ≡ true → shuts (a ++ b) x ≡ true
    shut_two [] x h k = k
    shut_two (w ∷ a) x h k =
        let p = and_parts (not (word_closes w) || top x) (shuts a (behind_word w x)) h in
        and_from (not (word_closes w) || top x) (shuts (a ++ b) (behind_word w x)) p.0 (shut_two a (behind_word w x) p.1 k)

-- after a word that is no brace
pub levels_behind : (kind : Kind) (text : List ℕ) (ws : List Word) {x y : List Bool} → opens kind ≡ false → closes kind ≡ false → Levels ws x y
    → Levels (Told kind text ∷ ws) x y
levels_behind kind text ws {x} {y} o c l = record {
  shut_is = ap (λ (b : Bool). (not b || top x) && shuts ws (behind_word (Told kind text) x)) c ∙ ap (shuts ws) same_is ∙ l.shut_is;
  leaves = ap (behind_words ws) same_is ∙ l.leaves;
}
  where
    same_is : behind_word (Told kind text) x ≡ x
    same_is = ap₂ (λ (p q : Bool). cond p (true ∷ x) (cond q (under x) x)) o c

marks_level : (op : List ℕ) (x : List Bool) → Levels (map punct_word op) x x
marks_level [] x = no_levels x
marks_level (c ∷ cs) x = levels_behind Punct (c ∷ []) (map punct_word cs) refl refl (marks_level cs x)

pub paired : (ws : List Word) → Levels ws [] [] → is_level ws ≡ true
paired ws l = and_from (shuts ws []) (none (behind_words ws [])) l.shut_is (ap none l.leaves)

-- ---- forms

pub record Telling (Next : List Word → Type 0) (n : ℕ) (f : Form) : Type 0 where
  pub flows : (a : Bool) → flow (At Still a) f ≡ At Still a
  pub clears : (ws : List Word) (b : Bool) → Next ws → clear f ws b ≡ true
  pub levels : (stack : List Bool) → Levels (words f) (kept_in n stack) stack

-- The layout of the form tells its units, before such words. It closes this many braces that were opened before it.
pub record Closing (Next : List Word → Type 0) (n : ℕ) (f : Form) : Type 0 where
  pub go : are_pieces f ≡ true → Telling Next n f

-- the same where its braces are pairs
abbrev pub Tells : (List Word → Type 0) → Form → Type 0
Tells Next f = Closing Next 0 f

-- before any words
abbrev pub Any : List Word → Type 0
Any ws = ⊤

abbrev pub Plain : Form → Type 0
Plain f = Tells Any f

-- The braces of the form are pairs.
pub level_of : {Next : List Word → Type 0} {f : Form} → Tells Next f → are_pieces f ≡ true → is_level (words f) ≡ true
level_of {Next} {f} t w = paired (words f) ((t.go w).levels [])

-- The form begins with a token that isn't dropped, after opening braces of its own.
pub record Firm (f : Form) : Type 0 where
  pub go : are_pieces f ≡ true → (b : Bool) → firm f b ≡ true

-- each of them
abbrev pub All : (Form → Type 0) → List Form → Type 0
All P [] = ⊤
All P (e ∷ es) = P e × All P es

pub all_of : {A : Type 0} (P : Form → Type 0) (form : A → Form) → ((x : A) → P (form x)) → (xs : List A) → All P (map form xs)
all_of P form k [] = tt
all_of P form k (x ∷ xs) = (k x, all_of P form k xs)

-- the same of what is well formed
pub each_of : {A : Type 0} (P : Form → Type 0) (form : A → Form) (is_good : A → Bool) → ((x : A) → is_good x ≡ true → P (form x)) → (xs : List A)
    → list_all is_good xs ≡ true → All P (map form xs)
each_of P form is_good k [] h = tt
each_of P form is_good k (x ∷ xs) h =
    let p = and_parts (is_good x) (list_all is_good xs) h in
    (k x p.0, each_of P form is_good k xs p.1)

-- ---- single signs

pub ends : {Next : List Word → Type 0} → Tells Next Done
ends = record { go = λ w. record { flows = λ a. refl; clears = λ ws b n. refl; levels = no_levels } }

-- what follows may be more than is asked
pub narrower : {Next More : List Word → Type 0} {n : ℕ} {f : Form} → ((ws : List Word) → More ws → Next ws) → Closing Next n f → Closing More n f
narrower k t = record { go = λ w. let u = t.go w in record { flows = u.flows; clears = λ ws b n. u.clears ws b (k ws n); levels = u.levels } }

pub anywhere : {Next : List Word → Type 0} {n : ℕ} {f : Form} → Closing Any n f → Closing Next n f
anywhere t = narrower (λ ws n. tt) t

-- no braces, and nothing that is dropped
abbrev pub are_still : List Bit → Bool
are_still [] = true
are_still (Blank ∷ bs) = are_still bs
are_still (Fixed kind text ∷ bs) = not (opens kind) && (not (closes kind) && are_still bs)
are_still (Operator op ∷ bs) = are_still bs
are_still (Semicolons ∷ bs) = false

-- a piece that decides nothing
abbrev pub tame : List Bit → Bool
tame bits =
    (are_proper (bits_words bits) && is_plain (text_of_bits bits))
    && (not (bytes_eq (text_of_bits bits) (codes ",")) && (not (bytes_eq (text_of_bits bits) (codes " => ")) && are_still bits))

words_still : (ws : List Word) (text : List ℕ) (a : Bool) → bytes_eq text (codes ",") ≡ false → bytes_eq text (codes " => ") ≡ false
    → words_flow ws text Still a ≡ At Still a
words_still ws [] a e f = refl
words_still ws (c ∷ cs) a e f = ap₂ (λ (x y : Bool). cond x (cond (are_comma ws) (At Said a) Lost) (At Still (y || a))) e f

still_clear : (bits : List Bit) (ws : List Word) (b : Bool) → are_still bits ≡ true → clear_bits bits ws b ≡ true
still_clear [] ws b h = refl
still_clear (Blank ∷ bs) ws b h = still_clear bs ws b h
still_clear (Fixed kind text ∷ bs) ws b h =
    let p = and_parts (not (opens kind)) (not (closes kind) && are_still bs) h in
    let q = and_parts (not (closes kind)) (are_still bs) p.1 in
    and_from (is_settled kind (calm_bits bs b)) (clear_bits bs ws b) (ap (λ (x : Bool). x || calm_bits bs b) p.0) (still_clear bs ws b q.1)
still_clear (Operator op ∷ bs) ws b h = still_clear bs ws b h
still_clear (Semicolons ∷ bs) ws b h = absurd (cc h)

still_levels : (bits : List Bit) (x : List Bool) → are_still bits ≡ true → Levels (bits_words bits) x x
still_levels [] x h = no_levels x
still_levels (Blank ∷ bs) x h = still_levels bs x h
still_levels (Fixed kind text ∷ bs) x h =
    let p = and_parts (not (opens kind)) (not (closes kind) && are_still bs) h in
    let q = and_parts (not (closes kind)) (are_still bs) p.1 in
    levels_behind kind text (bits_words bs) (not-true (opens kind) p.0) (not-true (closes kind) q.0) (still_levels bs x q.1)
still_levels (Operator op ∷ bs) x h = levels_two (map punct_word op) (bits_words bs) (marks_level op x) (still_levels bs x h)
still_levels (Semicolons ∷ bs) x h = absurd (cc h)

pub fixed : {Next : List Word → Type 0} {n : ℕ} {f : Form} (bits : List Bit) → tame bits ≡ true → Closing Next n f → Closing Next n (Piece bits f)
fixed {Next} {n} {f} bits h t = record {
  go = λ w.
      let u = t.go w in
      let p = and_parts (are_proper (bits_words bits) && is_plain (text_of_bits bits)) _ h in
      let q = and_parts (not (bytes_eq (text_of_bits bits) (codes ","))) _ p.1 in
      let r = and_parts (not (bytes_eq (text_of_bits bits) (codes " => "))) (are_still bits) q.1 in
      record {
        flows = λ a.
            ap (λ (x : Bool). flow (cond x (words_flow (bits_words bits) (text_of_bits bits) Still a) Lost) f) p.0
            ∙ ap (λ (s : Flow). flow s f)
            (words_still (bits_words bits) (text_of_bits bits) a (not-true (bytes_eq (text_of_bits bits) (codes ",")) q.0)
            (not-true (bytes_eq (text_of_bits bits) (codes " => ")) r.0))
            ∙ u.flows a;
        clears = λ ws b n.
            and_from (clear_bits bits (words f ++ ws) (calm f b)) (clear f ws b) (still_clear bits (words f ++ ws) (calm f b) r.1) (u.clears ws b n);
        levels = λ x. levels_two (bits_words bits) (words f) (still_levels bits (kept_in n x) r.1) (u.levels x);
      };
}

-- the closing brace of a piece of its own
pub shut : {Next : List Word → Type 0} {n : ℕ} {f : Form} → Closing Next n f → Closing Next (suc n) (Piece (closer Brace ∷ []) f)
shut {Next} {n} {f} t = record {
  go = λ w.
      let u = t.go w in
      record {
        flows = λ a. u.flows a;
        clears = λ ws b n. u.clears ws b n;
        levels = λ x. let l = u.levels x in record { shut_is = l.shut_is; leaves = l.leaves };
      };
}

leaf_still : (kind : Kind) (text : List ℕ) (a : Bool) → is_bare kind ≡ true → bytes_eq text (codes ",") ≡ false → bytes_eq text (codes " => ") ≡ false
    → leaf_flow kind text (At Still a) ≡ At Still a
leaf_still (Doc inner block) text a b e f = absurd (cc b)
leaf_still kind text a b e f = ap₂ (λ (x y : Bool). cond x (cond (are_comma (Told kind text ∷ [])) (At Said a) Lost) (At Still (y || a))) e f

pub leaf : {Next : List Word → Type 0} {n : ℕ} {f : Form} (kind : Kind) (text : List ℕ) → is_bare kind ≡ true → Closing Next n f
    → Closing Next n (Leaf kind text f)
leaf {Next} {n} {f} kind text bare t = record {
  go = λ w.
      let p = and_parts (is_text_of kind text) (are_pieces f) w in
      let u = t.go p.1 in
      let q = bare_texts kind text bare p.0 in
      record {
        flows = λ a. ap (λ (s : Flow). flow s f) (leaf_still kind text a bare q.0 q.1) ∙ u.flows a;
        clears = λ ws b n.
            and_from (is_settled kind (calm f b)) (clear f ws b) (ap (λ (x : Bool). not x || calm f b) (bare_opens kind bare)) (u.clears ws b n);
        levels = λ x. levels_behind kind text (words f) (bare_opens kind bare) (bare_closes kind bare) (u.levels x);
      };
}

-- What the part asks of the words after it is given, where what follows it is made of pieces.
pub part_before : {Next Mid : List Word → Type 0} {n : ℕ} {i f : Form} → (are_pieces f ≡ true → (ws : List Word) → Next ws → Mid (words f ++ ws)) → Tells Mid i
    → Closing Next n f → Closing Next n (Part i f)
part_before {Next} {Mid} {n} {i} {f} k s t = record {
  go = λ w.
      let p = and_parts (are_pieces i) (are_pieces f) w in
      let u = s.go p.0 in
      let v = t.go p.1 in
      record {
        flows = λ a. ap (λ (s : Flow). flow s f) (u.flows a) ∙ v.flows a;
        clears = λ ws b m.
            and_from (clear i (words f ++ ws) (calm f b)) (clear f ws b) (u.clears (words f ++ ws) (calm f b) (k p.1 ws m)) (v.clears ws b m);
        levels = λ x. levels_two (words i) (words f) (u.levels (kept_in n x)) (v.levels x);
      };
}

pub part_to : {Next Mid : List Word → Type 0} {n : ℕ} {i f : Form} → ((ws : List Word) → Next ws → Mid (words f ++ ws)) → Tells Mid i → Closing Next n f
    → Closing Next n (Part i f)
part_to k s t = part_before (λ w. k) s t

pub part : {Next : List Word → Type 0} {n : ℕ} {i f : Form} → Plain i → Closing Next n f → Closing Next n (Part i f)
part s t = part_to (λ ws n. tt) s t

pub deep_to : {Next Mid : List Word → Type 0} {n : ℕ} {i f : Form} → ((ws : List Word) → Next ws → Mid (words f ++ ws)) → Tells Mid i → Closing Next n f
    → Closing Next n (Deeper i f)
deep_to {n} {i} {f} k s t = record {
  go = λ w.
      let p = and_parts (are_pieces i) (are_pieces f) w in
      let u = s.go p.0 in
      let v = t.go p.1 in
      record {
        flows = λ a. ap (λ (s : Flow). flow s f) (u.flows a) ∙ v.flows a;
        clears = λ ws b n. and_from (clear i (words f ++ ws) (calm f b)) (clear f ws b) (u.clears (words f ++ ws) (calm f b) (k ws n)) (v.clears ws b n);
        levels = λ x. levels_two (words i) (words f) (u.levels (kept_in n x)) (v.levels x);
      };
}

pub deep : {Next : List Word → Type 0} {n : ℕ} {i f : Form} → Plain i → Closing Next n f → Closing Next n (Deeper i f)
deep s t = deep_to (λ ws n. tt) s t

pub group_to : {Next Mid : List Word → Type 0} {m : ℕ} {i f : Form} (consistent : Bool) (n : ℕ) → ((ws : List Word) → Next ws → Mid (words f ++ ws)) → Tells Mid i
    → Closing Next m f → Closing Next m (Group consistent n i f)
group_to {m} {i} {f} consistent n k s t = record {
  go = λ w.
      let p = and_parts (are_pieces i) (are_pieces f) w in
      let u = s.go p.0 in
      let v = t.go p.1 in
      record {
        flows = λ a. ap (λ (s : Flow). flow (left (At Still a) (group_flow s)) f) (u.flows false) ∙ v.flows a;
        clears = λ ws b n. and_from (clear i (words f ++ ws) (calm f b)) (clear f ws b) (u.clears (words f ++ ws) (calm f b) (k ws n)) (v.clears ws b n);
        levels = λ x. levels_two (words i) (words f) (u.levels (kept_in m x)) (v.levels x);
      };
}

pub group : {Next : List Word → Type 0} {m : ℕ} {i f : Form} (consistent : Bool) (n : ℕ) → Plain i → Closing Next m f → Closing Next m (Group consistent n i f)
group consistent n s t = group_to consistent n (λ ws n. tt) s t

pub brk : {Next : List Word → Type 0} {n : ℕ} {f : Form} (space : Space) → Closing Next n f → Closing Next n (Brk space f)
brk space t = record { go = λ w. let u = t.go w in record { flows = λ a. u.flows a; clears = λ ws b n. u.clears ws b n; levels = u.levels } }

-- a `,` and a break
pub gap : {Next : List Word → Type 0} {n : ℕ} {f : Form} → Closing Next n f → Closing Next n (comma_gap f)
gap {Next} {n} {f} t = record {
  go = λ w.
      let u = t.go w in
      record {
        flows = λ a. u.flows a;
        clears = λ ws b n. u.clears ws b n;
        levels = λ x. levels_behind Punct (codes ",") (words f) refl refl (u.levels x);
      };
}

-- ---- lists

pub each_by : {Next : List Word → Type 0} (lead : Form → Form) (es : List Form) → ((f : Form) → Tells Next f → Tells Next (lead f)) → All Plain es
    → Tells Next (each lead es)
each_by lead [] k t = ends
each_by lead (e ∷ es) k t = k (Part e (each lead es)) (part t.0 (each_by lead es k t.1))

pub gaps : {Next : List Word → Type 0} (es : List Form) → All Plain es → Tells Next (each comma_gap es)
gaps es t = each_by comma_gap es (λ f u. gap u) t

-- The next word isn't a `,`.
abbrev pub NoComma : List Word → Type 0
NoComma ws = passes ws Punct (codes ",") ≡ true

-- a comma that may be spelled
pub last_comma : {Next : List Word → Type 0} {m : ℕ} {f : Form} (n : ℕ) → ((ws : List Word) → Next ws → NoComma (words f ++ ws)) → Closing Next m f
    → Closing Next m (LastComma n f)
last_comma {Next} {m} {f} n k t = record {
  go = λ w.
      let u = t.go w in
      record {
        flows = λ a. u.flows a;
        clears = λ ws b m. and_from (passes (words f ++ ws) Punct (codes ",")) (clear f ws b) (k ws m) (u.clears ws b m);
        levels = u.levels;
      };
}

pub last : {Next : List Word → Type 0} {m : ℕ} {f : Form} (may : Bool) (n : ℕ) → ((ws : List Word) → Next ws → NoComma (words f ++ ws)) → Closing Next m f
    → Closing Next m (last_break may n f)
last true n k t = last_comma n k t
last false n k t = brk (Soft true n) t

-- a list between marks
pub list : {Next : List Word → Type 0} (may : Bool) (opening closing : Bit) (es : List Form) → tame (opening ∷ closing ∷ []) ≡ true
    → tame (opening ∷ []) ≡ true → tame (closing ∷ []) ≡ true → ((ws : List Word) → NoComma (bits_words (closing ∷ []) ++ ws)) → All Plain es
    → Tells Next (comma_list may opening closing es)
list may opening closing [] h k l m t = fixed (opening ∷ closing ∷ []) h ends
list may opening closing (e ∷ es) h k l m t =
    group true 4 (fixed (opening ∷ []) k (brk (Soft false 0) (part t.0 (part (gaps es t.1)
    (last may 0 (λ ws n. subst (λ (x : List Word). NoComma (x ++ ws)) (sym (no_more (bits_words (closing ∷ [])))) (m ws)) (fixed (closing ∷ []) l ends))))))
    ends
  where
    no_more : (ws : List Word) → ws ++ [] ≡ ws
    no_more [] = refl
    no_more (w ∷ ws) = ap (λ (x : List Word). w ∷ x) (no_more ws)

-- ---- firm forms

pub firm_part : {i f : Form} → Firm i → Firm (Part i f)
firm_part {i} {f} t = record { go = λ w b. t.go (and_parts (are_pieces i) (are_pieces f) w).0 (firm f b) }

pub firm_deep : {i f : Form} → Firm i → Firm (Deeper i f)
firm_deep {i} {f} t = record { go = λ w b. t.go (and_parts (are_pieces i) (are_pieces f) w).0 (firm f b) }

pub firm_group : {i f : Form} (consistent : Bool) (n : ℕ) → Firm i → Firm (Group consistent n i f)
firm_group {i} {f} consistent n t = record { go = λ w b. t.go (and_parts (are_pieces i) (are_pieces f) w).0 (firm f b) }

-- after what is nothing
pub firm_behind : {f : Form} → Firm f → Firm (Part Done f)
firm_behind {f} t = record { go = λ w b. t.go (and_parts true (are_pieces f) w).1 b }

pub firm_brk : {f : Form} (space : Space) → Firm f → Firm (Brk space f)
firm_brk space t = record { go = λ w b. t.go w b }

pub firm_docs : {f : Form} (inner : Bool) (text : List ℕ) → Firm (Docs inner text f)
firm_docs inner text = record { go = λ w b. refl }

-- what is firm before anything is so before what is firm
more_firm : (bits : List Bit) (b : Bool) → firm_bits bits false ≡ true → firm_bits bits b ≡ true
more_firm [] b h = absurd (cc h)
more_firm (Blank ∷ bs) b h = more_firm bs b h
more_firm (Fixed kind text ∷ bs) b h =
    let p = and_parts (not (alike (codes ";") text)) (cond (opens kind) (firm_bits bs false) true) h in
    and_from (not (alike (codes ";") text)) (cond (opens kind) (firm_bits bs b) true) p.0 (by (opens kind) p.1 (λ g. more_firm bs b g))
  where
    by : (o : Bool) → cond o (firm_bits bs false) true ≡ true → (firm_bits bs false ≡ true → firm_bits bs b ≡ true) → cond o (firm_bits bs b) true ≡ true
    by true g k = k g
    by false g k = refl
more_firm (Operator [] ∷ bs) b h = more_firm bs b h
more_firm (Operator (c ∷ cs) ∷ bs) b h = h
more_firm (Semicolons ∷ bs) b h = more_firm bs b h

pub firm_fixed : {f : Form} (bits : List Bit) → firm_bits bits false ≡ true → Firm (Piece bits f)
firm_fixed {f} bits h = record { go = λ w b. more_firm bits (firm f b) h }

pub firm_leaf : {f : Form} (kind : Kind) (text : List ℕ) → is_bare kind ≡ true → Firm (Leaf kind text f)
firm_leaf {f} kind text bare = record {
  go = λ w b.
      let p = and_parts (is_text_of kind text) (are_pieces f) w in
      and_from (not (alike (codes ";") text)) (cond (opens kind) (firm f b) true)
      (ap not (bare_apart 59 semicolon_mark kind text bare p.0))
      (ap (λ (x : Bool). cond x (firm f b) true) (bare_opens kind bare));
}

-- ---- what is firm is calm, and its first word isn't a `;`

firm_bits_calm : (bits : List Bit) (x y : Bool) → (x ≡ true → y ≡ true) → firm_bits bits x ≡ true → calm_bits bits y ≡ true
firm_bits_calm [] x y k h = k h
firm_bits_calm (Blank ∷ bs) x y k h = firm_bits_calm bs x y k h
firm_bits_calm (Fixed kind text ∷ bs) x y k h =
    by (opens kind) (and_parts (not (alike (codes ";") text)) (cond (opens kind) (firm_bits bs x) true) h).1 (λ g. firm_bits_calm bs x y k g)
  where
    by : (o : Bool) → cond o (firm_bits bs x) true ≡ true → (firm_bits bs x ≡ true → calm_bits bs y ≡ true) → cond o (calm_bits bs y) true ≡ true
    by true g l = l g
    by false g l = refl
firm_bits_calm (Operator [] ∷ bs) x y k h = firm_bits_calm bs x y k h
firm_bits_calm (Operator (c ∷ cs) ∷ bs) x y k h = refl
firm_bits_calm (Semicolons ∷ bs) x y k h = firm_bits_calm bs x y k h

told_calm : (o x y z : Bool) → (x ≡ true → y ≡ true) → z && cond o x true ≡ true → cond o y true ≡ true
told_calm true x y z k h = k (and_parts z x h).1
told_calm false x y z k h = refl

pub firm_calm : (f : Form) (x y : Bool) → (x ≡ true → y ≡ true) → firm f x ≡ true → calm f y ≡ true
firm_calm Done x y k h = k h
firm_calm (Piece bits f) x y k h = firm_bits_calm bits (firm f x) (calm f y) (λ g. firm_calm f x y k g) h
firm_calm (Leaf kind text f) x y k h = told_calm (opens kind) (firm f x) (calm f y) (not (alike (codes ";") text)) (λ g. firm_calm f x y k g) h
firm_calm (Listed kind text joint f) x y k h = told_calm (opens kind) (firm f x) (calm f y) (not (alike (codes ";") text)) (λ g. firm_calm f x y k g) h
firm_calm (ListedDoc inner text f) x y k h = absurd (cc h)
firm_calm (Brk space f) x y k h = firm_calm f x y k h
firm_calm (LastComma blanks f) x y k h = absurd (cc h)
firm_calm (Group consistent offset i f) x y k h = firm_calm i (firm f x) (calm f y) (λ g. firm_calm f x y k g) h
firm_calm (Part i f) x y k h = firm_calm i (firm f x) (calm f y) (λ g. firm_calm f x y k g) h
firm_calm (Deeper i f) x y k h = firm_calm i (firm f x) (calm f y) (λ g. firm_calm f x y k g) h
firm_calm (Optional laid bits f) x y k h = absurd (cc h)
firm_calm (Docs inner text f) x y k h = refl
firm_calm (Body braces behind i f) x y k h = absurd (cc h)

-- Nothing dropped is the first word.
abbrev pub NoSemicolon : List Word → Type 0
NoSemicolon ws = passes ws Punct (codes ";") ≡ true

firm_bits_first : (bits : List Bit) (x : Bool) (ws : List Word) → (x ≡ true → NoSemicolon ws) → firm_bits bits x ≡ true → NoSemicolon (bits_words bits ++ ws)
firm_bits_first [] x ws k h = k h
firm_bits_first (Blank ∷ bs) x ws k h = firm_bits_first bs x ws k h
firm_bits_first (Fixed kind text ∷ bs) x ws k h = (and_parts (not (alike (codes ";") text)) (cond (opens kind) (firm_bits bs x) true) h).0
firm_bits_first (Operator [] ∷ bs) x ws k h = firm_bits_first bs x ws k h
firm_bits_first (Operator (c ∷ cs) ∷ bs) x ws k h = h
firm_bits_first (Semicolons ∷ bs) x ws k h = firm_bits_first bs x ws k h

both : (xs ys ws : List Word) → NoSemicolon (xs ++ (ys ++ ws)) → NoSemicolon ((xs ++ ys) ++ ws)
both xs ys ws h = subst NoSemicolon (sym (append_assoc xs ys ws)) h

pub firm_first : (f : Form) (x : Bool) (ws : List Word) → (x ≡ true → NoSemicolon ws) → firm f x ≡ true → NoSemicolon (words f ++ ws)
firm_first Done x ws k h = k h
firm_first (Piece bits f) x ws k h =
    both (bits_words bits) (words f) ws (firm_bits_first bits (firm f x) (words f ++ ws) (λ g. firm_first f x ws k g) h)
firm_first (Leaf kind text f) x ws k h = (and_parts (not (alike (codes ";") text)) (cond (opens kind) (firm f x) true) h).0
firm_first (Listed kind text joint f) x ws k h = (and_parts (not (alike (codes ";") text)) (cond (opens kind) (firm f x) true) h).0
firm_first (ListedDoc inner text f) x ws k h = absurd (cc h)
firm_first (Brk space f) x ws k h = firm_first f x ws k h
firm_first (LastComma blanks f) x ws k h = absurd (cc h)
firm_first (Group consistent offset i f) x ws k h =
    both (words i) (words f) ws (firm_first i (firm f x) (words f ++ ws) (λ g. firm_first f x ws k g) h)
firm_first (Part i f) x ws k h = both (words i) (words f) ws (firm_first i (firm f x) (words f ++ ws) (λ g. firm_first f x ws k g) h)
firm_first (Deeper i f) x ws k h = both (words i) (words f) ws (firm_first i (firm f x) (words f ++ ws) (λ g. firm_first f x ws k g) h)
firm_first (Optional laid bits f) x ws k h = absurd (cc h)
firm_first (Docs inner text f) x ws k h = refl
firm_first (Body braces behind i f) x ws k h = absurd (cc h)
