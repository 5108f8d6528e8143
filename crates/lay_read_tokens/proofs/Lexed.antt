-- Tokens of a text: they are pieces of their kinds, and so are those of each part of them.
use Rattle.std.proofs.Common.{◌≡◌, ℕ, ◌&&◌, Bool, true, false, cond, List, [], ◌∷◌, ◌++◌, Option, Some, None, IfSome, IsUtf8, slice_get, Bor, option_copied, refl, sym, ap, ◌∙◌, subst, append_assoc}
use Rattle.std.specs.Str.{chars, is_utf8}
use Rattle.std.proofs.lemmas.Bool.{and_parts}
use Rattle.std.proofs.lemmas.List.Folds.{list_all-append}
use Rattle.std.proofs.lemmas.Str.{IsUtf8-from_is_utf8, encodes-chars}
use Rattle.lay_piece.specs.Forms.{had, has_form, may_precede, after_literal, is_whole}
use Rattle.lay_token.specs.Lexes.{Lexes}
use Rattle.lay_piece.specs.declared.kind.Kind.{Kind}
use Rattle.lay_piece.specs.declared.kind.Kind.TheVariants.{Str, RawStr}
use Rattle.lay_token.specs.declared.token.Token.{Token}
use Rattle.lay_cook.specs.Cooking.{IsPiece, IsString}
use Rattle.lay_form.specs.Pieces.{is_text_of}
use Rattle.lay_node.specs.reader.Exact.{InText}
use Rattle.lay_node.specs.tokens.Texts.{are_texts}
use Rattle.lay_node.proofs.LexedPieces.{lexed_pieces}
use Rattle.lay_node.proofs.Pieces.{piece_utf8}
use Rattle.lay_node.proofs.token_lists.FromText.{in_text}
use Rattle.lay_read_tokens.specs.Answers.{AreLexed}

-- They stand in a row in a text.
pub lexed_in_text : (ts : List Token) → AreLexed ts → InText ts
lexed_in_text ts l = in_text l.bytes l.start l.before ts l.after l.utf8
    (subst (λ (s : List Token). Lexes l.bytes l.start s) (append_assoc l.before ts l.after) l.lexes)

-- ---- pieces of their kinds

pub texts_parts : (s t : List Token) → are_texts (s ++ t) ≡ true → (are_texts s ≡ true) × (are_texts t ≡ true)
texts_parts s t h =
    and_parts (are_texts s) (are_texts t) (sym (list_all-append (λ (u : Token). is_text_of u.kind u.text) s t) ∙ h)

pub lexed_texts : (ts : List Token) → AreLexed ts → are_texts ts ≡ true
lexed_texts ts l =
    let all = lexed_pieces l.bytes l.start (l.before ++ ts ++ l.after) l.utf8 l.lexes in
    (texts_parts l.before ts (texts_parts (l.before ++ ts) l.after all).0).1

-- ---- strings

may_end : (b : Bool) → cond b true true ≡ true
may_end true = refl
may_end false = refl

string_piece : (kind : Kind) (text : List ℕ)
    → (has_form kind (chars text) ≡ true → had kind (chars text) [] false ≡ true)
    → is_utf8 text && has_form kind (chars text) ≡ true → IsPiece kind text
string_piece kind text e h =
    let both = and_parts (is_utf8 text) (has_form kind (chars text)) h in
    let utf8 = IsUtf8-from_is_utf8 text both.0 in
    record {
      piece = chars text;
      rest = [];
      index = false;
      utf8 = utf8;
      spelt = sym (encodes-chars text utf8);
      had = e both.1;
    }

str_had : (cs : List ℕ) → has_form Str cs ≡ true → had Str cs [] false ≡ true
unfolding had has_form may_precede
str_had cs h = rw h (may_end (is_whole (after_literal Str cs)))

raw_had : (cs : List ℕ) → has_form RawStr cs ≡ true → had RawStr cs [] false ≡ true
unfolding had has_form may_precede
raw_had cs h = rw h (may_end (is_whole (after_literal RawStr cs)))

str_piece : (text : List ℕ) → is_text_of Str text ≡ true → IsPiece Str text
unfolding is_text_of
str_piece text h = string_piece Str text (str_had (chars text)) h

raw_piece : (text : List ℕ) → is_text_of RawStr text ≡ true → IsPiece RawStr text
unfolding is_text_of
raw_piece text h = string_piece RawStr text (raw_had (chars text)) h

token_string : (t : Token) → is_text_of t.kind t.text ≡ true → IsString t
token_string t h = record {
  string = λ e. str_piece t.text (ap (λ k. is_text_of k t.text) (sym e) ∙ h);
  raw = λ e. raw_piece t.text (ap (λ k. is_text_of k t.text) (sym e) ∙ h);
}

-- The text of the token at the beginning is UTF-8.
pub front_utf8 : (ts : List Token) (o : Option (Bor Token)) → option_copied o ≡ slice_get ts 0 → are_texts ts ≡ true
    → IfSome o (λ t. IsUtf8 t.now.text)
front_utf8 ts None e h = tt
front_utf8 [] (Some u) e h = absurd (cc)
front_utf8 (t ∷ ts) (Some u) e h =
    let same : t ≡ u.now = cc in
    let text = piece_utf8 t.kind t.text (and_parts (is_text_of t.kind t.text) (are_texts ts) h).0 in
    IsUtf8-from_is_utf8 u.now.text (subst (λ (v : Token). is_utf8 v.text ≡ true) same text)

-- The token at the beginning is a piece of its kind, where it is a string.
pub front_string : (ts : List Token) (o : Option (Bor Token)) → option_copied o ≡ slice_get ts 0 → are_texts ts ≡ true
    → IfSome o (λ t. IsString t.now)
front_string ts None e h = tt
front_string [] (Some u) e h = absurd (cc)
front_string (t ∷ ts) (Some u) e h =
    let same : t ≡ u.now = cc in
    subst IsString same (token_string t (and_parts (is_text_of t.kind t.text) (are_texts ts) h).0)
