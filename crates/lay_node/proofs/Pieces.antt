-- Tokens that are pieces of their kinds: a form that they spell is made of pieces.
use Rattle.std.proofs.Common.{◌≡◌, inl, inr, ℕ, zero, suc, ◌-◌, List, [], ◌∷◌, Bool, true, refl, sym, ap, ◌∙◌}
use Rattle.std.specs.Str.{chars, is_utf8}
use Rattle.std.proofs.lemmas.Bool.{and_parts, and_from}
use Rattle.std.proofs.lemmas.List.Folds.{list_all-append}
use Rattle.std.proofs.lemmas.Str.{IsUtf8-from_is_utf8, scalars-chars}
use Rattle.lay_piece.specs.declared.kind.Kind.{Kind}
use Rattle.lay_piece.specs.declared.kind.Kind.TheVariants.{Doc}
use Rattle.lay_token.specs.declared.token.Token.{Token}
use Rattle.lay_form.specs.Form.{Form, Done, Piece, Leaf, Listed, ListedDoc, Brk, LastComma, Group, Part, Deeper, Optional, Docs, Body, comma}
use Rattle.lay_form.specs.Pieces.{is_text_of, are_pieces}
use Rattle.lay_form.specs.Spelled.{IsOne, IsListed, IsComment, IsString, IsDoc, cost, Spells}
use Rattle.lay_form.proofs.FormLaws.{IsEnd, bits_end, doc_opening_end, may_be_end, one_end, listed_end, comment_end, doc_end, opens_end, closes_end, behind_end, is_end}
use Rattle.lay_node.specs.tokens.Texts.{are_texts}
use Rattle.lay_node.proofs.Scalars.{text_utf8, value_scalars}

behind_texts : {ts rest : List Token} → IsEnd rest ts → are_texts ts ≡ true → are_texts rest ≡ true
behind_texts {ts} {rest} e h =
    let p : Token → Bool = λ (t : Token). is_text_of t.kind t.text in
    (and_parts (are_texts e.before) (are_texts rest) (sym (list_all-append p e.before rest) ∙ sym (ap are_texts e.whole) ∙ h)).1

first_text : (t : Token) (ts : List Token) → are_texts (t ∷ ts) ≡ true → is_text_of t.kind t.text ≡ true
first_text t ts h = (and_parts (is_text_of t.kind t.text) (are_texts ts) h).0

-- the text of a piece is UTF-8
pub piece_utf8 : (kind : Kind) (text : List ℕ) → is_text_of kind text ≡ true → is_utf8 text ≡ true
unfolding is_text_of
piece_utf8 (Doc inner block) text h = h
piece_utf8 _ text h = (and_parts (is_utf8 text) _ h).0

same_text : (kind other : Kind) (text others : List ℕ) → other ≡ kind → others ≡ text → is_text_of other others ≡ true
    → is_text_of kind text ≡ true
same_text kind other text others k e h =
    sym (ap (λ x. is_text_of x text) k) ∙ sym (ap (is_text_of other) e) ∙ h

leaf_text : (kind : Kind) (text : List ℕ) (ts rest : List Token) → IsOne kind text ts rest → are_texts ts ≡ true
    → is_text_of kind text ≡ true
leaf_text kind text [] rest s h = absurd s
leaf_text kind text (t ∷ ts) rest s h = same_text kind t.kind text t.text s.0 s.1 (first_text t ts h)

listed_text : (kind : Kind) (text : List ℕ) (joint : Bool) (ts rest : List Token) → IsListed kind text joint ts rest → are_texts ts ≡ true
    → is_text_of kind text ≡ true
listed_text kind text joint [] rest s h = absurd s
listed_text kind text joint (t ∷ ts) rest s h = same_text kind t.kind text t.text s.0 s.1 (first_text t ts h)

comment_text : (inner : Bool) (text : List ℕ) (ts rest : List Token) → IsComment inner text ts rest → are_texts ts ≡ true
    → is_utf8 text ≡ true
comment_text inner text [] rest s h = absurd s
comment_text inner text (t ∷ ts) rest s h =
    sym (ap is_utf8 s.2) ∙ piece_utf8 t.kind t.text (first_text t ts h)

string_text : (text : List ℕ) (ts rest : List Token) → IsString text ts rest → are_texts ts ≡ true → is_utf8 text ≡ true
string_text text [] rest s h = absurd s
string_text text (t ∷ ts) rest s h =
    let u = IsUtf8-from_is_utf8 t.text (piece_utf8 t.kind t.text (first_text t ts h)) in
    let v = s.0 in
    ap is_utf8 v.2 ∙ text_utf8 v.0 (value_scalars t.kind (chars t.text) v.0 v.1 (scalars-chars t.text u))

doc_text : (inner : Bool) (text : List ℕ) (ts rest : List Token) → IsDoc inner text ts rest → are_texts ts ≡ true
    → is_utf8 text ≡ true
doc_text inner text ts rest (inl s) h = comment_text inner text ts rest s h
doc_text inner text ts rest (inr s) h = string_text text _ _ s.2.1 (behind_texts (doc_opening_end inner _ _ s.1) h)

-- A form that such tokens spell is made of pieces.
pub pieces_spelled : (f : Form) (depth : ℕ) (ts rest : List Token) → are_texts ts ≡ true → Spells f depth ts rest → are_pieces f ≡ true
pieces_spelled Done depth ts rest h s = refl
pieces_spelled (Piece bits f) depth ts rest h s = pieces_spelled f depth _ rest (behind_texts (bits_end bits _ _ s.1) h) s.2
pieces_spelled (Leaf kind text f) depth ts rest h s =
    and_from (is_text_of kind text) (are_pieces f) (leaf_text kind text _ _ s.1 h)
    (pieces_spelled f depth _ rest (behind_texts (one_end kind text _ _ s.1) h) s.2)
pieces_spelled (Listed kind text joint f) depth ts rest h s =
    and_from (is_text_of kind text) (are_pieces f) (listed_text kind text joint _ _ s.1 h)
    (pieces_spelled f depth _ rest (behind_texts (listed_end kind text joint _ _ s.1) h) s.2)
pieces_spelled (ListedDoc inner text f) depth ts rest h s =
    and_from (is_utf8 text) (are_pieces f) (comment_text inner text _ _ s.1 h)
    (pieces_spelled f depth _ rest (behind_texts (comment_end inner text _ _ s.1) h) s.2)
pieces_spelled (Brk space f) depth ts rest h s = pieces_spelled f depth ts rest h s
pieces_spelled (LastComma blanks f) depth ts rest h s = pieces_spelled f depth _ rest (behind_texts (may_be_end comma _ _ s.1) h) s.2
pieces_spelled (Group consistent offset i f) depth ts rest h s =
    and_from (are_pieces i) (are_pieces f) (pieces_spelled i depth _ _ h s.1)
    (pieces_spelled f depth _ rest (behind_texts (is_end i depth _ _ s.1) h) s.2)
pieces_spelled (Part i f) depth ts rest h s =
    and_from (are_pieces i) (are_pieces f) (pieces_spelled i depth _ _ h s.1)
    (pieces_spelled f depth _ rest (behind_texts (is_end i depth _ _ s.1) h) s.2)
pieces_spelled (Deeper i f) zero ts rest h s = absurd s
pieces_spelled (Deeper i f) (suc depth) ts rest h s =
    and_from (are_pieces i) (are_pieces f) (pieces_spelled i depth _ _ h s.1)
    (pieces_spelled f (suc depth) _ rest (behind_texts (is_end i depth _ _ s.1) h) s.2)
pieces_spelled (Optional laid bits f) depth ts rest h s = pieces_spelled f depth _ rest (behind_texts (may_be_end bits _ _ s.1) h) s.2
pieces_spelled (Docs inner text f) depth ts rest h s =
    and_from (is_utf8 text) (are_pieces f) (doc_text inner text _ _ s.1 h)
    (pieces_spelled f depth _ rest (behind_texts (doc_end inner text _ _ s.1) h) s.2)
pieces_spelled (Body braces behind i f) depth ts rest h s =
    let braced = s.3.1 in
    let within = braced.2 in
    let stands = s.3.2 in
    let d = depth - cost s.0 in
    let opened = behind_texts (opens_end s.0 _ _ braced.1) h in
    let left = behind_texts (is_end i d _ _ within.1) opened in
    let closed = behind_texts (closes_end s.0 _ _ within.2) left in
    and_from (are_pieces i) (are_pieces f) (pieces_spelled i d _ _ opened within.1)
    (pieces_spelled f depth _ rest (behind_texts (behind_end behind s.0 _ _ stands.1) closed) stands.2)
