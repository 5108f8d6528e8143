-- The tokens of a window: what some text lexes to, and the last of them isn't joint.
use Rattle.std.proofs.Common.{◌≡◌, ℕ, ◌+◌, Bool, true, false, not, ◌&&◌, List, [], ◌∷◌, ◌++◌, IsUtf8, refl, sym, ap, ◌∙◌, subst}
use Rattle.std.specs.Str.{IsCharBoundary}
use Rattle.std.proofs.lemmas.Bool.{and_parts}
use Rattle.std.proofs.lemmas.List.{append-nil}
use Rattle.std.proofs.lemmas.List.Folds.{list_all-append}
use Rattle.std.proofs.lemmas.Str.{IsUtf8-drop}
use Rattle.lay_token.specs.Lexes.{Part, Other, Lexes, size, tokens_from, is_punct, is_separator}
use Rattle.lay_piece.specs.Chars.{is_nil}
use Rattle.lay_token.specs.declared.token.Token.{Token}
use Rattle.lay_lex.specs.Window.{UpTo, GoesTo}
use Rattle.lay_lex.specs.declared.window.Stop.{Stop}
use Rattle.lay_lex.specs.declared.window.Stop.TheVariants.{End, More, Opened, Closed}
use Rattle.lay_lex.specs.declared.window.Window.{Window}
use Rattle.lay_lex.proofs.Joined.{lexed_alone}
use Rattle.lay_read_tokens.specs.Answers.{AreLexed}
use Rattle.lay_reparse.proofs.file.Singles.{parts_single}
use Rattle.lay_reparse.proofs.forms.Balance.{is_single, are_single}
use Rattle.lay_files.specs.windows.Windows.{IsBrace, IsQuiet, IsWindow, Unbraced}

-- Punctuation in a text is one character a token.
pub single_lexed : (ts : List Token) → AreLexed ts → are_single ts ≡ true
single_lexed ts l =
    let all = ap are_single l.lexes.3 ∙ parts_single Other l.lexes.0 l.lexes.1 l.start l.lexes.2.fit in
    let front = (and_parts (are_single (l.before ++ ts)) (are_single l.after) (sym (list_all-append is_single (l.before ++ ts) l.after) ∙ all)).0 in
    (and_parts (are_single l.before) (are_single ts) (sym (list_all-append is_single l.before ts) ∙ front)).1

-- ---- joint marks

quiet_from : (at : ℕ) (ps : List Part) → IsQuiet (tokens_from at ps)
quiet_from at [] = tt
quiet_from at (p ∷ []) = refl
quiet_from at (p ∷ q ∷ ps) = quiet_from (at + size p.gap + size p.piece) (q ∷ ps)

abbrev first_joint : List Token → Bool
first_joint [] = false
first_joint (t ∷ ts) = t.joint

abbrev second_punct : List Token → Bool
second_punct [] = false
second_punct (t ∷ []) = false
second_punct (t ∷ u ∷ us) = is_punct u.kind

abbrev tail : List Token → List Token
tail [] = []
tail (t ∷ ts) = ts

unjoint : (a b n s t : Bool) → b ≡ false → a && b && n && s && t ≡ false
unjoint false b n s t e = refl
unjoint true false n s t e = refl
unjoint true true n s t e = absurd (let no : true ≡ false = e in cc)

quiet_front : (ts : List Token) (brace : Token) (at : ℕ) (ps : List Part) → ts ++ brace ∷ [] ≡ tokens_from at ps
    → is_punct brace.kind ≡ false → IsQuiet ts
quiet_front [] brace at ps e n = tt
quiet_front (t ∷ []) brace at [] e n = absurd (let no : ⊥ = cc in no)
quiet_front (t ∷ []) brace at (p ∷ []) e n = absurd (let no : ⊥ = cc in no)
quiet_front (t ∷ []) brace at (p ∷ q ∷ ps) e n =
    ap first_joint e
    ∙ unjoint (is_punct p.kind) (is_punct q.kind) (is_nil q.gap) (not (is_separator p.piece)) (not (is_separator q.piece))
    (sym (ap second_punct e) ∙ n)
quiet_front (t ∷ u ∷ us) brace at [] e n = absurd (let no : ⊥ = cc in no)
quiet_front (t ∷ u ∷ us) brace at (p ∷ ps) e n = quiet_front (u ∷ us) brace (at + size p.gap + size p.piece) ps (ap tail e) n

no_punct : (stop : Stop) (brace : Token) → IsBrace stop brace → is_punct brace.kind ≡ false
no_punct End brace b = absurd b
no_punct More brace b = absurd b
no_punct Opened brace b = ap is_punct b.0
no_punct Closed brace b = ap is_punct b.0

-- ---- windows

module _ (text : List ℕ) (start : ℕ) (u : IsUtf8 text) (b : IsCharBoundary text start) where
  lexed_to : (ts after : List Token) (end : ℕ) → UpTo text start end (ts ++ after) → AreLexed ts
  lexed_to ts after end x =
      let l = lexed_alone text start end (ts ++ after) u b x in
      record { bytes = l.bytes; start = start; before = []; after = after; utf8 = l.utf8; lexes = l.lexes }

  pub lexed_end : (ts : List Token) → Lexes text start ts → AreLexed ts
  lexed_end ts l = record {
    bytes = text;
    start = start;
    before = [];
    after = [];
    utf8 = IsUtf8-drop text start u b;
    lexes = subst (Lexes text start) (sym (append-nil ts)) l;
  }

  -- what is read of a window that is lexed
  pub window_read : (stop : Stop) (tokens rest : List Token) (window : Window) → window.tokens ≡ tokens
      → GoesTo text start window stop → Unbraced stop tokens rest → IsWindow text start rest window.end stop
  window_read End tokens rest window e g r =
      let l : Lexes text start rest = subst (Lexes text start) (e ∙ sym r) g in
      record { lexed = lexed_end rest l; quiet = subst IsQuiet (sym l.3) (quiet_from start l.0); goes = l }
  window_read More tokens rest window e g r =
      let x : UpTo text start window.end rest = subst (UpTo text start window.end) (e ∙ sym r) g in record {
        lexed = lexed_to rest [] window.end (subst (UpTo text start window.end) (sym (append-nil rest)) x);
        quiet = subst IsQuiet (sym x.tokens_are) (quiet_from start x.parts);
        goes = x;
      }
  window_read Opened tokens rest window e g r =
      let x : UpTo text start window.end (rest ++ r.0 ∷ []) = subst (UpTo text start window.end) (e ∙ r.2) g in record {
        lexed = lexed_to rest (r.0 ∷ []) window.end x;
        quiet = quiet_front rest r.0 start x.parts x.tokens_are (no_punct Opened r.0 r.1);
        goes = (r.0, r.1, x);
      }
  window_read Closed tokens rest window e g r =
      let x : UpTo text start window.end (rest ++ r.0 ∷ []) = subst (UpTo text start window.end) (e ∙ r.2) g in record {
        lexed = lexed_to rest (r.0 ∷ []) window.end x;
        quiet = quiet_front rest r.0 start x.parts x.tokens_are (no_punct Closed r.0 r.1);
        goes = (r.0, r.1, x);
      }
