-- Rules for what a form begins with, and for what may be left out before it.
use Rattle.std.proofs.Common.{◌≡◌, ℕ, Bool, true, false, not, ◌&&◌, List, [], ◌∷◌, ◌++◌, codes, refl, sym, subst, append_assoc}
use Rattle.std.proofs.lemmas.Bool.{and_parts, and_from}
use Rattle.lay_piece.specs.Forms.{closing, opening}
use Rattle.lay_piece.specs.declared.kind.Delim.{Delim}
use Rattle.lay_piece.specs.declared.kind.Kind.{Kind}
use Rattle.lay_piece.specs.declared.kind.Kind.TheVariants.{Ident, Punct, RawIdent, Opener, Closer}
use Rattle.lay_form.specs.Form.{Bit, Operator, Form, Done, Piece, Leaf, Group, Part, Deeper, Optional, opener, closer, comma}
use Rattle.lay_form.specs.Notation.{comma_list, when}
use Rattle.lay_form.specs.Pieces.{is_text_of, are_pieces}
use Rattle.lay_node.specs.Words.{leaf_of}
use Rattle.lay_node.specs.nodes.Types.{greater, less}
use Rattle.lay_map.specs.spelling.Choice.{alike, clear, passes, passes_each, skips}
use Rattle.lay_map.specs.spelling.Units.{Word, Told, bits_words, words}
use Rattle.lay_map.proofs.PieceLemmas.{bar_mark, bare_apart, comma_mark, greater_mark, is_bare, less_mark}
use Rattle.lay_map.proofs.Rules.{Closing, NoComma}

-- Before any words, those of the form begin so.
pub record Leads (Next : List Word → Type 0) (f : Form) : Type 0 where
  pub go : are_pieces f ≡ true → (ws : List Word) → Next (words f ++ ws)

-- So does a token that is no mark and no delimiter.
pub record Marks (Next : List Word → Type 0) : Type 0 where
  pub leaf_is : (kind : Kind) (text : List ℕ) (ws : List Word) → is_bare kind ≡ true → is_text_of kind text ≡ true → Next (Told kind text ∷ ws)

-- The next word is said by none of these bits.
abbrev pub Skipped : List Bit → List Word → Type 0
Skipped bits ws = skips bits ws ≡ true

-- The first word of the form is said by none of these bits.
abbrev pub Apart : List Bit → Form → Type 0
Apart bits f = Leads (Skipped bits) f

abbrev pub bar : List Bit
bar = Operator (codes "|") ∷ []

-- a bar, and a comma
abbrev pub edges : List Bit
edges = Operator (codes "|") ∷ comma

abbrev pub angles : List Bit
angles = less ∷ greater ∷ []

pub edge_marks : Marks (Skipped edges)
edge_marks = record {
  leaf_is = λ kind text ws b h.
      by (alike (codes "|") text) (alike (codes ",") text) (bare_apart 124 bar_mark kind text b h) (bare_apart 44 comma_mark kind text b h);
}
  where
    by : (x y : Bool) → x ≡ false → y ≡ false → (not x && true) && ((true && not y) && true) ≡ true
    by false false e f = refl
    by true y e f = absurd (cc e)
    by false true e f = absurd (cc f)

-- What begins with neither begins with no bar, and with no comma.
pub edge_bar : (ws : List Word) → Skipped edges ws → Skipped bar ws
edge_bar ws h = and_from (passes_each ws (codes "|")) true (and_parts (passes_each ws (codes "|")) _ h).0 refl

pub edge_comma : (ws : List Word) → Skipped edges ws → NoComma ws
edge_comma ws h = (and_parts (passes ws Punct (codes ",")) true (and_parts (passes_each ws (codes "|")) (passes ws Punct (codes ",") && true) h).1).0

pub angle_marks : Marks (Skipped angles)
angle_marks = record {
  leaf_is = λ kind text ws b h.
      by (alike (codes "<") text) (alike (codes ">") text) (bare_apart 60 less_mark kind text b h) (bare_apart 62 greater_mark kind text b h);
}
  where
    by : (x y : Bool) → x ≡ false → y ≡ false → (true && not x) && ((true && not y) && true) ≡ true
    by false false e f = refl
    by true y e f = absurd (cc e)
    by false true e f = absurd (cc f)

-- ---- what the first part begins with

first_part : (Next : List Word → Type 0) (i f : Form) (ws : List Word) → Next (words i ++ (words f ++ ws)) → Next ((words i ++ words f) ++ ws)
first_part Next i f ws h = subst Next (sym (append_assoc (words i) (words f) ws)) h

pub leads_part : {Next : List Word → Type 0} {i f : Form} → Leads Next i → Leads Next (Part i f)
leads_part {Next} {i} {f} t = record { go = λ w ws. first_part Next i f ws (t.go (and_parts (are_pieces i) (are_pieces f) w).0 (words f ++ ws)) }

pub leads_deep : {Next : List Word → Type 0} {i f : Form} → Leads Next i → Leads Next (Deeper i f)
leads_deep {Next} {i} {f} t = record { go = λ w ws. first_part Next i f ws (t.go (and_parts (are_pieces i) (are_pieces f) w).0 (words f ++ ws)) }

pub leads_group : {Next : List Word → Type 0} {i f : Form} (consistent : Bool) (n : ℕ) → Leads Next i → Leads Next (Group consistent n i f)
leads_group {Next} {i} {f} consistent n t = record {
  go = λ w ws. first_part Next i f ws (t.go (and_parts (are_pieces i) (are_pieces f) w).0 (words f ++ ws));
}

-- after what is nothing
pub leads_behind : {Next : List Word → Type 0} {f : Form} → Leads Next f → Leads Next (Part Done f)
leads_behind {Next} {f} t = record { go = λ w ws. t.go (and_parts true (are_pieces f) w).1 ws }

pub leads_fixed : {Next : List Word → Type 0} {f : Form} (ps : List Bit) → ((ws : List Word) → Next (bits_words ps ++ ws)) → Leads Next (Piece ps f)
leads_fixed {Next} {f} ps h = record {
  go = λ w ws. subst Next (sym (append_assoc (bits_words ps) (words f) ws)) (h (words f ++ ws));
}

pub leads_when : {Next : List Word → Type 0} {f : Form} (there : Bool) (ps : List Bit) → ((ws : List Word) → Next (bits_words ps ++ ws)) → Leads Next f
    → Leads Next (when there ps f)
leads_when true ps h t = leads_fixed ps h
leads_when false ps h t = t

pub leads_leaf : {Next : List Word → Type 0} {f : Form} (kind : Kind) (text : List ℕ) → Marks Next → is_bare kind ≡ true → Leads Next (Leaf kind text f)
leads_leaf {Next} {f} kind text m bare = record {
  go = λ w ws. m.leaf_is kind text (words f ++ ws) bare (and_parts (is_text_of kind text) (are_pieces f) w).0;
}

pub leads_word : {Next : List Word → Type 0} (f : Form) (raw : Bool) (text : List ℕ) → Marks Next → Leads Next (leaf_of raw text f)
leads_word f true text m = leads_leaf RawIdent text m refl
leads_word f false text m = leads_leaf Ident text m refl

-- a list in delimiters
pub list_leads : {Next : List Word → Type 0} (may : Bool) (d : Delim) (es : List Form) → ((ws : List Word) → Next (Told (Opener d) (opening d ∷ []) ∷ ws))
    → Leads Next (comma_list may (opener d) (closer d) es)
list_leads may d [] k = leads_fixed (opener d ∷ closer d ∷ []) (λ ws. k (Told (Closer d) (closing d ∷ []) ∷ ws))
list_leads may d (e ∷ es) k = leads_group true 4 (leads_fixed (opener d ∷ []) k)

-- ---- what may be left out

-- bits that may be spelled before the form, and aren't laid out
pub left_out : {Next : List Word → Type 0} {n : ℕ} {f : Form} (bits : List Bit)
    → (are_pieces f ≡ true → (ws : List Word) → Next ws → Skipped bits (words f ++ ws)) → Closing Next n f → Closing Next n (Optional false bits f)
left_out {Next} {n} {f} bits k t = record {
  go = λ w.
      let u = t.go w in
      record {
        flows = λ a. u.flows a;
        clears = λ ws b m. and_from (skips bits (words f ++ ws)) (clear f ws b) (k w ws m) (u.clears ws b m);
        levels = u.levels;
      };
}
