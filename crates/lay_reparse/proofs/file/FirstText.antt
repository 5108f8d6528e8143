-- What the text of a file begins with: no byte order mark, and no shebang but its own.
use Rattle.std.proofs.Common.{◌≡◌, inl, inr, ℕ, ◌+◌, min, List, [], ◌∷◌, ◌++◌, Bool, true, false, cond, not, replicate, append_assoc, append-nil, sym, refl, ap, ◌∙◌, subst, codes, IsUtf8}
use Rattle.std.specs.Prelude.{◌==◌}
use Rattle.std.specs.Str.{chars, is_utf8}
use Rattle.std.proofs.lemmas.Bool.{and_parts, both_ways, ne_eqb}
use Rattle.std.proofs.lemmas.Str.{IsUtf8-from_is_utf8}
use Rattle.unicode_ident.proofs.Computing.{unicode_ident}
use Rattle.lay_layout.specs.Document.{Document, Empty, AddText, AddBreak, AddGroup, State, write, put_mark, line, newline, skip, shift}
use Rattle.lay_piece.specs.Forms.{has_form, doc_opening}
use Rattle.lay_token.specs.Source.{without_mark, is_in_line, is_shebang, is_no_command}
use Rattle.lay_piece.specs.Chars.{begins, behind, front, after, is_white, is_word, starts_word}
use Rattle.lay_layout.specs.declared.layout.Break.{Break}
use Rattle.lay_layout.specs.declared.layout.Frame.{Frame}
use Rattle.lay_layout.specs.declared.layout.Mark.{Mark}
use Rattle.lay_layout.specs.declared.layout.Mark.TheVariants.{Absent, Comma, OpenBrace, CloseBrace}
use Rattle.lay_piece.specs.declared.kind.Delim.{Delim}
use Rattle.lay_piece.specs.declared.kind.Delim.TheVariants.{Paren, Bracket, Brace}
use Rattle.lay_piece.specs.declared.kind.Kind.TheVariants.{Ident}
use Rattle.lay_form.specs.Form.{Form, Done, Piece, Part}
use Rattle.lay_form.specs.Layout.{laid_out}
use Rattle.lay_form.specs.Notation.{when}
use Rattle.lay_form.specs.Pieces.{is_text_of, are_pieces}
use Rattle.lay_node.specs.Words.{leaf_of, colons}
use Rattle.lay_node.specs.nodes.Attr.{attr_form}
use Rattle.lay_node.specs.nodes.Call.{bang, call_form}
use Rattle.lay_node.specs.nodes.SimplePath.{simple_words_form}
use Rattle.lay_node.specs.tokens.Lists.{group_form}
use Rattle.lay_node.specs.declared.attr.Attr.{Attr}
use Rattle.lay_node.specs.declared.attr.Attr.TheVariants as attr
use Rattle.lay_node.specs.declared.token.Word.{Word}
use Rattle.lay_node.specs.declared.tokens.MacroCall.{MacroCall}
use Rattle.lay_layout.specs.Anyway.{indent_of, Leads}
use Rattle.lay_reparse.proofs.texts.Laid.{as_block}
use Rattle.lay_reparse.proofs.texts.Characters.{is_low, low_chars, low_utf8}

-- ---- a text only grows

abbrev Grows : State → State → Type 0
Grows s t = (more : List ℕ) × (t.text ≡ s.text ++ more)

grows_then : (s m t : State) → Grows s m → Grows m t → Grows s t
grows_then s m t a b = (a.0 ++ b.0, b.1 ∙ ap (λ z. z ++ b.0) a.1 ∙ append_assoc s.text a.0 b.0)

mark_grows : (m : Mark) (s : State) → Grows s (put_mark m s)
mark_grows Absent s = ([], sym (append-nil s.text))
mark_grows Comma s = (_, refl)
mark_grows OpenBrace s = (_, refl)
mark_grows CloseBrace s = (_, refl)

newline_grows : (b : Break) (i : ℕ) (s : State) → Grows s (newline b i s)
newline_grows b i s =
    let m = put_mark b.before s in
    let l = line (shift i b.offset) m in
    grows_then s m (newline b i s) (mark_grows b.before s)
    (grows_then m l (newline b i s) (10 ∷ [], refl) (mark_grows b.after l))

waiting : Break → State → State
waiting b s = record {
  text = s.text;
  pending = min (s.pending + b.blank) 1000000;
  room = s.room;
  used =
      s.used + b.blank;
}

skip_grows : (b : Break) (s : State) → Grows s (skip b s)
unfolding waiting
skip_grows b s = mark_grows b.instead (waiting b s)

leads_grow : (f : Frame) (d : Document) (s t : State) → Leads f d s t → Grows s t
leads_grow f Empty s t l = ([], ap (λ (z : State). z.text) (sym l) ∙ sym (append-nil s.text))
leads_grow f (AddText x rest) s t l = grows_then s (write x s) t (_, refl) (leads_grow f rest (write x s) t l)
leads_grow f (AddBreak b rest) s t (inl l) =
    grows_then s (newline b (indent_of f) s) t (newline_grows b (indent_of f) s) (leads_grow f rest _ t l.1)
leads_grow f (AddBreak b rest) s t (inr l) = grows_then s (skip b s) t (skip_grows b s) (leads_grow f rest _ t l.1)
leads_grow f (AddGroup c o inner rest) s t l =
    grows_then s l.1 t (leads_grow l.0 inner s l.1 l.3) (leads_grow f rest l.1 t l.4)

-- ---- its first text

abbrev pub first_text : Document → List ℕ
first_text Empty = []
first_text (AddText x rest) = x
first_text (AddBreak b rest) = []
first_text (AddGroup c o inner rest) = first_text inner

pub leads_first : (f : Frame) (d : Document) (s t : State) → s.pending ≡ 0 → Leads f d s t
    → (more : List ℕ) × (t.text ≡ s.text ++ (first_text d ++ more))
leads_first f Empty s t p l = leads_grow f Empty s t l
leads_first f (AddText x rest) s t p l =
    let g = leads_grow f rest (write x s) t l in
    let w : (write x s).text ≡ s.text ++ x = ap (λ (n : ℕ). s.text ++ (replicate n 32 ++ x)) p in
    (g.0, g.1 ∙ ap (λ z. z ++ g.0) w ∙ append_assoc s.text x g.0)
leads_first f (AddBreak b rest) s t p l = leads_grow f (AddBreak b rest) s t l
leads_first f (AddGroup c o inner rest) s t p l =
    let a = leads_first l.0 inner s l.1 p l.3 in
    let g = leads_grow f rest l.1 t l.4 in (
      a.0 ++ g.0,
      g.1 ∙ ap (λ z. z ++ g.0) a.1 ∙ append_assoc s.text (first_text inner ++ a.0) g.0
          ∙ ap (λ z. s.text ++ z) (append_assoc (first_text inner) a.0 g.0),
    )

-- ---- texts that begin a file

-- whatever follows, no byte order mark and no shebang stands there
pub record Fair (x : List ℕ) : Type 0 where
  pub utf8 : IsUtf8 x
  pub mark : (r : List ℕ) → without_mark (chars x ++ r) ≡ chars x ++ r
  pub plain : (r : List ℕ) → is_shebang (front is_in_line (chars x ++ r)) ≡ false

pub low_fair : (x : List ℕ) → is_low x ≡ true → ((r : List ℕ) → without_mark (x ++ r) ≡ x ++ r)
    → ((r : List ℕ) → is_shebang (front is_in_line (x ++ r)) ≡ false) → Fair x
low_fair x l m p =
    let e = sym (low_chars x l) in
    record {
      utf8 = low_utf8 x l;
      mark = λ r. subst (λ z. without_mark (z ++ r) ≡ z ++ r) e (m r);
      plain = λ r. subst (λ z. is_shebang (front is_in_line (z ++ r)) ≡ false) e (p r);
    }

doc_fair : (inner block : Bool) → Fair (doc_opening inner block)
doc_fair true true = low_fair (codes "/*!") refl (λ r. refl) (λ r. refl)
doc_fair true false = low_fair (codes "//!") refl (λ r. refl) (λ r. refl)
doc_fair false true = low_fair (codes "/**") refl (λ r. refl) (λ r. refl)
doc_fair false false = low_fair (codes "///") refl (λ r. refl) (λ r. refl)

hash : Fair (codes "#[")
hash = low_fair (codes "#[") refl (λ r. refl) (λ r. refl)

inner_hash : Fair (codes "#![")
inner_hash = low_fair (codes "#![") refl (λ r. refl) (λ r. refl)

-- ---- a word

no_start : (starts_word 65279 ≡ false) × (starts_word 35 ≡ false)
unfolding unicode_ident starts_word
no_start = (refl, refl)

other_than : (c d : ℕ) → starts_word c ≡ true → starts_word d ≡ false → c == d ≡ false
other_than c d h n = ne_eqb c d (λ e. both_ways (starts_word d) n (sym (ap starts_word e) ∙ h))

starts_fair : (c : ℕ) (x : List ℕ) → starts_word c ≡ true
    → (without_mark (c ∷ x) ≡ c ∷ x) × (is_shebang (front is_in_line (c ∷ x)) ≡ false)
starts_fair c x h =
    (ap (λ b. cond b x (c ∷ x)) (other_than c 65279 h no_start.0), by (is_in_line c) (front is_in_line x))
  where
    no_hash : 35 == c ≡ false
    no_hash = ne_eqb 35 c (λ e. both_ways (starts_word 35) no_start.1 (ap starts_word e ∙ h))

    by : (b : Bool) (y : List ℕ) → is_shebang (cond b (c ∷ y) []) ≡ false
    by true y =
        ap (λ b. cond b (behind false (codes "!") (λ cs. not (is_no_command (after is_white cs))) y) false) no_hash
    by false y = refl

ident_start : (x : List ℕ) → has_form Ident x ≡ true → begins starts_word x ≡ true
unfolding has_form
ident_start [] h = cc
ident_start (c ∷ x) h = (and_parts (starts_word c) _ (and_parts (is_word (c ∷ x)) _ h).0).0

word_fair : (t : List ℕ) → is_text_of Ident t ≡ true → Fair t
unfolding is_text_of
word_fair t h =
    let a = and_parts (is_utf8 t) _ h in
    let s = ident_start (chars t) a.1 in
    record {
      utf8 = IsUtf8-from_is_utf8 t a.0;
      mark = λ r. (by (chars t) r s).0;
      plain = λ r. (by (chars t) r s).1;
    }
  where
    by : (x r : List ℕ) → begins starts_word x ≡ true
        → (without_mark (x ++ r) ≡ x ++ r) × (is_shebang (front is_in_line (x ++ r)) ≡ false)
    by [] r s = cc
    by (c ∷ x) r s = starts_fair c (x ++ r) s

leaf_fair : (raw : Bool) (t : List ℕ) (f : Form) (d : Document) → are_pieces (leaf_of raw t f) ≡ true
    → Fair (first_text (laid_out false (leaf_of raw t f) d))
leaf_fair true t f d w = low_fair (codes "r#") refl (λ r. refl) (λ r. refl)
leaf_fair false t f d w = word_fair t (and_parts (is_text_of Ident t) _ w).0

-- ---- attributes and macro calls

pub attr_fair : (a : Attr) (d : Document) → Fair (first_text (laid_out false (attr_form a) d))
attr_fair (attr.Doc inner t) d = doc_fair inner (as_block inner t)
attr_fair (attr.Meta true path given) d = inner_hash
attr_fair (attr.Meta false path given) d = hash

bang_fair : (d : Delim) (f : Form) (rest : Document) → Fair (first_text (laid_out false (Piece (bang d) f) rest))
bang_fair Paren f rest = low_fair (codes "!") refl (λ r. refl) (λ r. refl)
bang_fair Bracket f rest = low_fair (codes "!") refl (λ r. refl) (λ r. refl)
bang_fair Brace f rest = low_fair (codes "! ") refl (λ r. refl) (λ r. refl)

pub call_fair : (call : MacroCall) (d : Document) → are_pieces (call_form call) ≡ true
    → Fair (first_text (laid_out false (call_form call) d))
call_fair call d w = by call.path.global call.path.words w
  where
    behind_path : Form
    behind_path = Piece (bang call.tokens.delim) (group_form call.tokens Done)

    by : (global : Bool) (words : List Word)
        → are_pieces (Part (when global colons (simple_words_form words Done)) behind_path) ≡ true
        → Fair (first_text (laid_out false (Part (when global colons (simple_words_form words Done)) behind_path) d))
    by true words w = low_fair (codes "::") refl (λ r. refl) (λ r. refl)
    by false [] w = bang_fair call.tokens.delim (group_form call.tokens Done) d
    by false (one ∷ []) w = leaf_fair one.raw one.text Done _
        (and_parts (are_pieces (simple_words_form (one ∷ []) Done)) _ w).0
    by false (one ∷ two ∷ more) w = leaf_fair one.raw one.text (Piece colons (simple_words_form (two ∷ more) Done)) _
        (and_parts (are_pieces (simple_words_form (one ∷ two ∷ more) Done)) _ w).0
