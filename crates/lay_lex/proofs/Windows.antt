-- Windows: the tokens of some parts of a text, one window after another.
use Rattle.std.proofs.Common.{◌≡◌, ℕ, ◌+◌, ◌-◌, ◌≤◌, List, [], ◌∷◌, ◌++◌, true, false, sym, refl, ap, ◌∙◌, subst, arith, length, take, drop, IsUtf8, length-append, Err}
use Rattle.std.specs.Str.{chars, encode_utf8_all, IsCharBoundary}
use Rattle.std.proofs.Math.Seq.{drop-append_seam}
use Rattle.std.proofs.lemmas.List.{take-append-drop, append_assoc}
use Rattle.std.proofs.lemmas.Str.{encodes-append, encodes-chars, IsUtf8-drop, IsCharBoundary-at_seam}
use Rattle.lay_piece.specs.declared.kind.Delim.{Delim}
use Rattle.lay_piece.specs.declared.kind.Kind.TheVariants.{Opener, Closer, Punct}
use Rattle.lay_token.specs.Lexes.{Part, spell, Before, Other, Fit, Lexes}
use Rattle.lay_token.specs.declared.token.Token.{Token}
use Rattle.lay_token.proofs.Parts.{spell-out}
use Rattle.lay_text.specs.declared.refusal.FormatError.{FormatError}
use Rattle.lay_text.specs.declared.refusal.FormatError.TheVariants as error
use Rattle.lay_text.specs.declared.refusal.Refusal.TheVariants.{NotUtf8, NoToken, Unbalanced, NoItem}
use Rattle.lay_lex.specs.Lexer.{LexedAs}
use Rattle.lay_lex.specs.Window.{UpTo, WindowAs, GoesTo, is_stop, ends_in_stop, is_end}
use Rattle.lay_lex.specs.declared.window.Stop.{Stop}
use Rattle.lay_lex.specs.declared.window.Stop.TheVariants.{End, More, Opened, Closed}
use Rattle.lay_lex.specs.declared.window.Window.{Window}
use Rattle.lay_lex.proofs.Parts.{SoFar}

-- The last of the tokens is a stop.
pub last_stops : (ts before : List Token) (t : Token) → ts ≡ before ++ t ∷ [] → is_stop t.kind t.text ≡ true → ends_in_stop ts ≡ true
last_stops ts before t e s = ap ends_in_stop e ∙ at before
  where
    at : (us : List Token) → ends_in_stop (us ++ t ∷ []) ≡ true
    at [] = s
    at (u ∷ []) = s
    at (u ∷ v ∷ us) = at (v ∷ us)

pub opener_is_stop : (t : Token) (d : Delim) → t.kind ≡ Opener d → is_stop t.kind t.text ≡ true
opener_is_stop t d e = rw e refl

pub closer_is_stop : (t : Token) (d : Delim) → t.kind ≡ Closer d → is_stop t.kind t.text ≡ true
closer_is_stop t d e = rw e refl

pub semicolon_is_stop : (t : Token) → t.kind ≡ Punct → t.text ≡ 59 ∷ [] → is_stop t.kind t.text ≡ true
semicolon_is_stop t e f = rw (e, f) refl

-- What is left of a text where it is read as far as where `ahead` begins.
pub record Left (text ahead : List ℕ) : Type 0 where
  pub within : length ahead ≤ length text
  pub behind : drop (length text - length ahead) text ≡ ahead
  pub border : IsCharBoundary text (length text - length ahead)

pub left_behind : (start : ℕ) (text ahead : List ℕ) (parts : List Part) → IsUtf8 text → IsCharBoundary text start → IsUtf8 ahead
    → chars (drop start text) ≡ spell parts (chars ahead) → Left text ahead
left_behind start text ahead parts u b ua e =
    let piece = spell parts [] in
    let out : chars (drop start text) ≡ piece ++ chars ahead = e ∙ spell-out parts [] (chars ahead) in
    let bytes : drop start text ≡ encode_utf8_all piece ++ ahead =
    sym (encodes-chars (drop start text) (IsUtf8-drop text start u b)) ∙ ap encode_utf8_all out
    ∙ encodes-append piece (chars ahead) ∙ ap (λ (l : List ℕ). encode_utf8_all piece ++ l) (encodes-chars ahead ua) in
    let front : List ℕ = take start text ++ encode_utf8_all piece in
    let whole : text ≡ front ++ ahead =
    sym (take-append-drop start text) ∙ ap (λ (l : List ℕ). take start text ++ l) bytes
    ∙ sym (append_assoc (take start text) (encode_utf8_all piece) ahead) in
    let len : length text ≡ length front + length ahead = ap length whole ∙ length-append front ahead in
    let place : length text - length ahead ≡ length front = omega (arith, len) in
    record {
      within = omega (arith, len);
      behind = ap (λ (n : ℕ). drop n text) place ∙ ap (drop (length front)) whole ∙ drop-append_seam front ahead;
      border = subst (IsCharBoundary text) (sym place) (IsCharBoundary-at_seam text front ahead whole ua);
    }

-- Where the tokens so far end in a stop, they are those of a window.
pub up_to : {start : ℕ} {text ahead : List ℕ} {tokens : List Token} {before : Before} → IsUtf8 text → IsCharBoundary text start
    → IsUtf8 ahead → SoFar start text ahead tokens before → ends_in_stop tokens ≡ true
    → UpTo text start (length text - length ahead) tokens
up_to {start = start} {text = text} {ahead = ahead} {tokens = tokens} u b ua s stops =
    let l = left_behind start text ahead s.parts u b ua s.whole in
    let same : chars ahead ≡ chars (drop (length text - length ahead) text) = ap chars (sym l.behind) in
    record {
      parts = s.parts;
      whole = s.whole ∙ ap (spell s.parts) same;
      fit = subst (Fit Other s.parts) same s.fit;
      tokens_are = s.tokens_are;
      stops = stops;
      border = l.border;
    }

pub goes_to : (text : List ℕ) (start end : ℕ) (tokens : List Token) (stop : Stop) (window : Window)
    → window ≡ record { tokens = tokens; stop = stop; end = end } → is_end stop ≡ false → UpTo text start end tokens
    → GoesTo text start window window.stop
goes_to text start end tokens stop window e h up =
    subst (λ (w : Window). GoesTo text start w w.stop) (sym e) (by stop h)
  where
    by : (stop : Stop) → is_end stop ≡ false
        → GoesTo text start (record { tokens = tokens; stop = stop; end = end }) stop
    by End h = absurd (let no : true ≡ false = h in cc)
    by More h = up
    by Opened h = up
    by Closed h = up

pub lexes_to : (text : List ℕ) (start end : ℕ) (tokens : List Token) (window : Window)
    → window ≡ record { tokens = tokens; stop = End; end = end } → Lexes text start tokens → GoesTo text start window window.stop
lexes_to text start end tokens window e l = subst (λ (w : Window). GoesTo text start w w.stop) (sym e) l

-- A window that ends with its text has all its tokens.
pub window_lexed : (text : List ℕ) (start : ℕ) (window : Window) → window.stop ≡ End → GoesTo text start window window.stop
    → Lexes text start window.tokens
window_lexed text start window e g = subst (GoesTo text start window) e g

-- What is refused is refused as where all is lexed.
pub refused : (text : List ℕ) (start : ℕ) (e : FormatError) → WindowAs text start (Err e) → LexedAs text start (Err e)
refused text start (error.Refused (NoToken at)) h = h
refused text start (error.Refused (NotUtf8 at)) h = h
refused text start (error.Refused (Unbalanced at)) h = h
refused text start (error.Refused (NoItem at)) h = h
refused text start error.NoMemory h = h
