-- One turn of the lexer's loop.
use Rattle.std.proofs.Common.{◌≡◌, ℕ, ◌+◌, ◌-◌, ◌<◌, ◌≤◌, List, [], ◌∷◌, ◌++◌, Bool, false, Some, sym, refl, ap, ◌∙◌, subst, arith, length, drop, IsUtf8, length-drop}
use Rattle.std.specs.Prelude.{IsTrue, ◌==◌}
use Rattle.std.specs.Str.{chars, IsCharBoundary}
use Rattle.std.proofs.lemmas.Bool.{eq-eqb, ne_eqb}
use Rattle.std.proofs.lemmas.Str.{length-le-encodes, IsUtf8-drop}
use Rattle.lay_piece.specs.Chars.{is_nil}
use Rattle.lay_piece.specs.Forms.{Had, had}
use Rattle.lay_piece.specs.Gap.{Outside, is_gap, is_last_gap}
use Rattle.lay_piece.specs.Begins.{BeginsNoGap, BeginsNoPiece}
use Rattle.lay_token.specs.Lexes.{Part, spell, Before, Other, is_index_place, step, steps, Fit, size, tokens_from, is_joint, Lexes, NoTokenAt, PartsBefore}
use Rattle.lay_piece.specs.declared.kind.Kind.{Kind}
use Rattle.lay_token.specs.declared.token.Token.{Token}
use Rattle.lay_piece.proofs.Texts.{length_parts}
use Rattle.lay_token.proofs.Parts.{spell-append, spell-out, steps-append, had_some}
use Rattle.lay_lex.specs.Gap.{rest_of}
use Rattle.lay_lex.specs.Added.{added, before as seen, behind, joined, token_of}
use Rattle.lay_lex.specs.Tokens.{Adds, so_far}
use Rattle.lay_lex.specs.declared.tokens.Tokens.{Tokens}
use Rattle.lay_lex.proofs.Gaps.{longest}
use Rattle.lay_lex.proofs.Lines.{size-append}
use Rattle.lay_lex.proofs.Marks.{behind-token_of, is_joint-tokens}

Fit-append : (b : Before) (ps : List Part) (q : Part) (last : List ℕ) → Fit b ps (q.gap ++ (q.piece ++ last))
    → IsTrue (is_gap q.gap)
    → Had q.kind q.piece last (is_index_place (steps b ps)) → Fit b (ps ++ q ∷ []) last
Fit-append b [] q last f g h = (g, h, tt)
Fit-append b (p ∷ ps) q last f g h =
    let P : List ℕ → Type 0 = λ l. Had p.kind p.piece l (is_index_place b) in
    (f.0, subst P (sym (spell-append ps (q ∷ []) last)) f.1, Fit-append (step b p) ps q last f.2 g h)

-- the token of the next part
abbrev pub next_token : ℕ → List Part → Part → Token
next_token at ps q = token_of (at + size (spell ps q.gap)) q.kind q.piece

tokens_from-append : (at : ℕ) (ps : List Part) (q : Part)
    → tokens_from at (ps ++ q ∷ []) ≡ added (is_nil q.gap) (next_token at ps q) (tokens_from at ps)
tokens_from-append at [] q = refl
tokens_from-append at (p ∷ []) q =
    let here = size-append p.gap (p.piece ++ q.gap) in
    let there = size-append p.piece q.gap in
    let sum : at + size p.gap + size p.piece + size q.gap ≡ at + size (p.gap ++ (p.piece ++ q.gap)) = omega (arith, here, there) in
    let joint = is_joint-tokens p q [] (at + size p.gap) (at + size p.gap + size p.piece + size q.gap) in
    let first : Token = token_of (at + size p.gap) p.kind p.piece in
    ap (λ b. record first { joint = b } ∷ token_of (at + size p.gap + size p.piece + size q.gap) q.kind q.piece ∷ []) joint
    ∙ ap (λ n. joined (is_nil q.gap) (token_of n q.kind q.piece) first ∷ token_of n q.kind q.piece ∷ []) sum
tokens_from-append at (p ∷ r ∷ ps) q =
    let rest : List Part = r ∷ ps in
    let place : ℕ = at + size p.gap + size p.piece in
    let here = size-append p.gap (p.piece ++ spell rest q.gap) in
    let there = size-append p.piece (spell rest q.gap) in
    let sum : place + size (spell rest q.gap) ≡ at + size (p.gap ++ (p.piece ++ spell rest q.gap)) = omega (arith, here, there) in
    ap (λ l. record (token_of (at + size p.gap) p.kind p.piece) { joint = is_joint p rest } ∷ l)
    (tokens_from-append place (r ∷ ps) q ∙ ap (λ n. added (is_nil q.gap) (token_of n q.kind q.piece) (tokens_from place rest)) sum)

-- The text is read as far as where `ahead` begins.
pub record SoFar (start : ℕ) (bytes ahead : List ℕ) (tokens : List Token) (before : Before) : Type 0 where
  pub parts : List Part
  pub whole : chars (drop start bytes) ≡ spell parts (chars ahead)
  pub fit : Fit Other parts (chars ahead)
  pub tokens_are : tokens ≡ tokens_from start parts
  pub before_is : before ≡ steps Other parts

-- It is read as far as where `rest` begins, after the longest gap before `ahead`.
pub record Reached (start : ℕ) (bytes ahead rest : List ℕ) (tokens : List Token) (before : Before) : Type 0 where
  pub parts : List Part
  pub gap : List ℕ
  pub whole : chars (drop start bytes) ≡ spell parts (gap ++ chars rest)
  pub fit : Fit Other parts (gap ++ chars rest)
  pub closed : IsTrue (is_gap gap)
  pub no_more : BeginsNoGap (chars rest)
  pub tokens_are : tokens ≡ tokens_from start parts
  pub before_is : before ≡ steps Other parts
  pub within : length rest ≤ length bytes
  pub place : length bytes - length rest ≡ start + size (spell parts gap)
  pub shorter : length rest ≤ length ahead
  pub touches : length rest == length ahead ≡ is_nil gap

-- a gap is empty where it takes no bytes
touch : (gap : List ℕ) (ahead rest : ℕ) → ahead ≡ size gap + rest → rest == ahead ≡ is_nil gap
touch [] ahead rest e = eq-eqb rest ahead (omega arith)
touch (c ∷ gap) ahead rest e = ne_eqb rest ahead (λ h. absurd (omega (arith, length-le-encodes (c ∷ gap))))

pub reach : {start : ℕ} {tokens : List Token} {before : Before} (bytes ahead rest : List ℕ)
    → SoFar start bytes ahead tokens before → rest_of Outside (chars ahead) (chars ahead) ≡ Some (chars rest)
    → IsUtf8 bytes → IsCharBoundary bytes start → IsUtf8 ahead → IsUtf8 rest → Reached start bytes ahead rest tokens before
reach {start = start} bytes ahead rest s h u b ua ur =
    let l = longest (chars ahead) (chars rest) h in
    let whole = s.whole ∙ ap (spell s.parts) l.whole in
    let out = whole ∙ spell-out s.parts l.gap (chars rest) in
    let sum = length_parts (drop start bytes) rest (spell s.parts l.gap) (IsUtf8-drop bytes start u b) ur out in
    let gap = length_parts ahead rest l.gap ua ur l.whole in
    record {
      parts = s.parts;
      gap = l.gap;
      whole = whole;
      fit = subst (Fit Other s.parts) l.whole s.fit;
      closed = l.closed;
      no_more = l.no_more;
      tokens_are = s.tokens_are;
      before_is = s.before_is;
      within = omega (arith, sum, length-drop start bytes, b.0);
      place = omega (arith, sum, length-drop start bytes, b.0);
      shorter = omega (arith, gap);
      touches = touch l.gap (length ahead) (length rest) gap;
    }

-- the text ends in a gap
pub ended : {start : ℕ} {bytes ahead : List ℕ} {tokens : List Token} {before : Before}
    → SoFar start bytes ahead tokens before
    → IsTrue (is_last_gap (chars ahead)) → Lexes bytes start tokens
ended {ahead = ahead} s l = (s.parts, chars ahead, record { whole = s.whole; fit = s.fit; end = l }, s.tokens_are)

-- no piece stands after the gap
pub stopped : {start : ℕ} {bytes ahead rest : List ℕ} {tokens : List Token} {before : Before}
    → Reached start bytes ahead rest tokens before → BeginsNoPiece (chars rest) (is_index_place before)
    → NoTokenAt bytes start (length bytes - length rest)
stopped {start = start} {bytes = bytes} {rest = rest} r none =
    let P : Before → Type 0 = λ b. BeginsNoPiece (chars rest) (is_index_place b) in
    let stops : PartsBefore (chars (drop start bytes)) r.parts r.gap (chars rest) = record {
      whole = r.whole;
      fit = r.fit;
      closed = r.closed;
      no_gap = r.no_more;
      no_piece = subst P r.before_is none;
    } in
    (r.parts, r.gap, chars rest, stops, r.place)

-- a piece isn't empty
pub piece_size : (k : Kind) (piece rest : List ℕ) (i : Bool) → Had k piece rest i → 1 ≤ size piece
piece_size k [] rest i h = let e : had k [] rest i ≡ false = had_some k rest i in cc
piece_size k (c ∷ cs) rest i h = omega (arith, length-le-encodes (c ∷ cs))

-- a piece takes some of the text
pub shrinks : {start : ℕ} {bytes ahead rest : List ℕ} {tokens : List Token} {before : Before}
    → (k : Kind) (piece more back : List ℕ) (i : Bool) → Reached start bytes ahead rest tokens before
    → chars rest ≡ piece ++ more → Had k piece more i → chars back ≡ more
    → IsUtf8 rest → IsUtf8 back → length back < length ahead
shrinks {rest = rest} k piece more back i r cut had e ur ub =
    let sum = length_parts rest back piece ur ub (cut ∙ ap (λ v. piece ++ v) (sym e)) in
    omega (arith, sum, r.shorter, piece_size k piece more i had)

-- A gap and a piece more are read.
pub turn : {start : ℕ} {bytes ahead rest : List ℕ} {old new : Tokens} (k : Kind) (piece more front back : List ℕ)
    → Reached start bytes ahead rest (so_far old) (seen old.before) → chars rest ≡ piece ++ more
    → Had k piece more (is_index_place (seen old.before)) → chars front ≡ piece → chars back ≡ more
    → Adds (length rest == length ahead) (token_of (length bytes - length rest) k (chars front)) old new
    → SoFar start bytes back (so_far new) (seen new.before)
turn {start = start} {bytes = bytes} {rest = rest} {old = old} {new = new} k piece more front back r cut had f g a =
    let q : Part = record { gap = r.gap; kind = k; piece = piece } in
    let border : r.gap ++ chars rest ≡ r.gap ++ (piece ++ chars back) =
    ap (λ x. r.gap ++ x) (cut ∙ ap (λ x. piece ++ x) (sym g)) in
    let P : Before → Type 0 = λ b. Had k piece (chars back) (is_index_place b) in
    let Q : List ℕ → Type 0 = λ x. Had k piece x (is_index_place (seen old.before)) in
    let next : token_of (length bytes - length rest) k (chars front) ≡ next_token start r.parts q =
    ap (λ n. token_of n k (chars front)) r.place ∙ ap (token_of (start + size (spell r.parts r.gap)) k) f in
    record {
      parts = r.parts ++ q ∷ [];
      whole = r.whole ∙ ap (spell r.parts) border ∙ sym (spell-append r.parts (q ∷ []) (chars back));
      fit = Fit-append Other r.parts q (chars back) (subst (Fit Other r.parts) border r.fit) r.closed
          (subst P r.before_is (subst Q (sym g) had));
      tokens_are = a.tokens
          ∙ ap (λ b. added b (token_of (length bytes - length rest) k (chars front)) (so_far old)) r.touches
          ∙ ap (λ t. added (is_nil r.gap) t (so_far old)) next
          ∙ ap (added (is_nil r.gap) (next_token start r.parts q)) r.tokens_are
          ∙ sym (tokens_from-append start r.parts q);
      before_is = a.before
          ∙ ap (λ b. behind (seen old.before) b (token_of (length bytes - length rest) k (chars front))) r.touches
          ∙ ap (behind (seen old.before) (is_nil r.gap)) next
          ∙ behind-token_of (seen old.before) q (start + size (spell r.parts r.gap))
          ∙ ap (λ b. step b q) r.before_is ∙ sym (steps-append Other r.parts (q ∷ []));
    }
