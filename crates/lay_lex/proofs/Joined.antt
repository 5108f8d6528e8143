-- Windows one after another: their tokens are those of the whole, and those of one window are what some text lexes to.
use Rattle.std.proofs.Common.{◌≡◌, ℕ, ◌+◌, List, [], ◌∷◌, ◌++◌, Bool, true, false, not, ◌||◌, ◌&&◌, ◌⊎◌, inl, inr, sym, refl, ap, ◌∙◌, subst, arith, length, take, drop, IsUtf8, length-drop}
use Rattle.std.specs.Prelude.{◌==◌, codes, cond}
use Rattle.std.specs.Str.{bytes_eq, chars, encode_utf8_all, IsCharBoundary}
use Rattle.std.proofs.lemmas.Bool.{and_parts, eqb-true}
use Rattle.std.proofs.lemmas.List.{drop_at, length-take-le}
use Rattle.std.proofs.lemmas.Slice.Eq.{bytes_eq-Decides}
use Rattle.std.proofs.lemmas.Str.{IsUtf8-drop}
use Rattle.std.specs.List.{list_all}
use Rattle.std.specs.Char.{is_ascii_digit}
use Rattle.lay_piece.specs.Chars.{begins, begins_suffix, is_nil, starts_word, in_word, after}
use Rattle.lay_piece.specs.Number.{begins_point, ends_in_point, is_bare_int, is_index}
use Rattle.lay_piece.specs.Forms.{Had, had, has_form, may_precede, is_one, opening, closing, is_whole, after_literal, is_number_kind, is_int_kind}
use Rattle.lay_piece.specs.declared.kind.Delim.{Delim}
use Rattle.lay_piece.specs.declared.kind.Delim.TheVariants.{Paren, Bracket, Brace}
use Rattle.lay_piece.specs.declared.kind.Kind.{Kind}
use Rattle.lay_piece.specs.declared.kind.Kind.TheVariants.{Ident, RawIdent, Underscore, Lifetime, Int, Float, Punct, Opener, Closer, Doc}
use Rattle.lay_piece.proofs.Ascii.{ascii_starts}
use Rattle.lay_piece.proofs.Texts.{length_parts}
use Rattle.lay_token.specs.Lexes.{Part, spell, Before, Other, is_index_place, step, steps, Fit, size, tokens_from, Lexes, is_joint, is_punct, is_separator, text_of_piece}
use Rattle.lay_token.specs.declared.token.Token.{Token}
use Rattle.lay_token.proofs.Parts.{spell-append, spell-out, had_some}
use Rattle.lay_lex.specs.Window.{UpTo, is_stop, ends_in_stop}
use Rattle.lay_lex.proofs.Cuts.{cut_at}
use Rattle.lay_lex.proofs.Lines.{size-append}
use Rattle.lay_lex.proofs.Marks.{same_test}

-- ---- stops

-- No word begins with the character, and it is no point.
abbrev IsLone : ℕ → Type 0
IsLone c = (starts_word c ≡ false) × (c == 46 ≡ false)

-- The piece is one such character, is joint with nothing, and no point, and anything may follow it.
record IsStop (k : Kind) (piece : List ℕ) : Type 0 where
  alone : is_punct k && not (is_separator piece) ≡ false
  no_point : is_punct k && bytes_eq piece (codes ".") ≡ false
  first : ℕ
  one : piece ≡ first ∷ []
  lone : IsLone first
  may : (rest : List ℕ) (i : Bool) → Had k piece rest i

semicolon : (cs : List ℕ) → bytes_eq (encode_utf8_all cs) (codes ";") ≡ true → cs ≡ codes ";"
semicolon cs h = (bytes_eq-Decides cs (codes ";")).0 (sym (same_test 59 cs (omega arith)) ∙ h)

semicolon_stops : IsStop Punct (codes ";")
unfolding had has_form may_precede
semicolon_stops = record {
  alone = refl;
  no_point = refl;
  first = 59;
  one = refl;
  lone = (ascii_starts 59 (omega arith), refl);
  may = λ rest i. refl;
}

opener_stops : (d : Delim) → IsStop (Opener d) (opening d ∷ [])
unfolding had has_form may_precede
opener_stops Paren = record { alone = refl; no_point = refl; first = 40; one = refl; lone = (ascii_starts 40 (omega arith), refl); may = λ rest i. refl }
opener_stops Bracket = record { alone = refl; no_point = refl; first = 91; one = refl; lone = (ascii_starts 91 (omega arith), refl); may = λ rest i. refl }
opener_stops Brace = record { alone = refl; no_point = refl; first = 123; one = refl; lone = (ascii_starts 123 (omega arith), refl); may = λ rest i. refl }

closer_stops : (d : Delim) → IsStop (Closer d) (closing d ∷ [])
unfolding had has_form may_precede
closer_stops Paren = record { alone = refl; no_point = refl; first = 41; one = refl; lone = (ascii_starts 41 (omega arith), refl); may = λ rest i. refl }
closer_stops Bracket = record { alone = refl; no_point = refl; first = 93; one = refl; lone = (ascii_starts 93 (omega arith), refl); may = λ rest i. refl }
closer_stops Brace = record { alone = refl; no_point = refl; first = 125; one = refl; lone = (ascii_starts 125 (omega arith), refl); may = λ rest i. refl }

only_one : (d : ℕ) (piece : List ℕ) → is_one (λ c. c == d) piece ≡ true → piece ≡ d ∷ []
only_one d [] h = absurd (let no : false ≡ true = h in cc)
only_one d (c ∷ []) h = ap (λ e. e ∷ []) (eqb-true c d (and_parts (c == d) true h).0)
only_one d (c ∷ e ∷ cs) h = absurd (let no : false ≡ true = (and_parts (c == d) false h).1 in cc)

opener_piece : (d : Delim) (piece rest : List ℕ) (i : Bool) → Had (Opener d) piece rest i → piece ≡ opening d ∷ []
unfolding had has_form
opener_piece d piece rest i h = only_one (opening d) piece (and_parts (is_one (λ c. c == opening d) piece) _ h).0

closer_piece : (d : Delim) (piece rest : List ℕ) (i : Bool) → Had (Closer d) piece rest i → piece ≡ closing d ∷ []
unfolding had has_form
closer_piece d piece rest i h = only_one (closing d) piece (and_parts (is_one (λ c. c == closing d) piece) _ h).0

stop_of : (k : Kind) (piece rest : List ℕ) (i : Bool) → is_stop k (encode_utf8_all (text_of_piece k piece)) ≡ true
    → Had k piece rest i → IsStop k piece
stop_of Punct piece rest i s h = subst (IsStop Punct) (sym (semicolon piece s)) semicolon_stops
stop_of (Opener d) piece rest i s h = subst (IsStop (Opener d)) (sym (opener_piece d piece rest i h)) (opener_stops d)
stop_of (Closer d) piece rest i s h = subst (IsStop (Closer d)) (sym (closer_piece d piece rest i h)) (closer_stops d)
stop_of _ piece rest i s h = absurd (let no : false ≡ true = s in cc)

joint_none : (a b n s t : Bool) → a && s ≡ false → a && b && n && s && t ≡ false
joint_none false b n s t h = refl
joint_none true false n s t h = refl
joint_none true true false s t h = refl
joint_none true true true false t h = refl
joint_none true true true true t h = absurd (let no : true ≡ false = h in cc)

stop_joint : (p : Part) (qs : List Part) → IsStop p.kind p.piece → is_joint p qs ≡ false
stop_joint p [] s = refl
stop_joint p (q ∷ qs) s =
    joint_none (is_punct p.kind) (is_punct q.kind) (is_nil q.gap) (not (is_separator p.piece)) (not (is_separator q.piece)) s.alone

stop_step : (b : Before) (p : Part) → IsStop p.kind p.piece → step b p ≡ Other
unfolding step
stop_step b p s = rw s.no_point refl

-- ---- parts whose last is a stop

last_stops : (b : Before) (at : ℕ) (p : Part) (x : List ℕ) → Fit b (p ∷ []) x → ends_in_stop (tokens_from at (p ∷ [])) ≡ true → IsStop p.kind p.piece
last_stops b at p x f e = stop_of p.kind p.piece x (is_index_place b) e f.1

steps_end : (b : Before) (at : ℕ) (ps : List Part) (x : List ℕ) → Fit b ps x → ends_in_stop (tokens_from at ps) ≡ true → steps b ps ≡ Other
steps_end b at [] x f e = absurd (let no : false ≡ true = e in cc)
steps_end b at (p ∷ []) x f e = stop_step b p (last_stops b at p x f e)
steps_end b at (p ∷ q ∷ ps) x f e = steps_end (step b p) _ (q ∷ ps) x f.2 e

fit_joined : (b : Before) (ps qs : List Part) (x : List ℕ) → Fit b ps (spell qs x) → Fit (steps b ps) qs x → Fit b (ps ++ qs) x
fit_joined b [] qs x f g = g
fit_joined b (p ∷ ps) qs x f g =
    let P : List ℕ → Type 0 = λ l. Had p.kind p.piece l (is_index_place b) in
    (f.0, subst P (sym (spell-append ps qs x)) f.1, fit_joined (step b p) ps qs x f.2 g)

-- the token of a part
abbrev token_at : Part → Bool → ℕ → Token
token_at p joint place =
    record { kind = p.kind; text = encode_utf8_all (text_of_piece p.kind p.piece); joint = joint; at = place; len = size p.piece }

tokens_joined : (b : Before) (at : ℕ) (ps qs : List Part) (x : List ℕ) → Fit b ps x → ends_in_stop (tokens_from at ps) ≡ true
    → tokens_from at (ps ++ qs) ≡ tokens_from at ps ++ tokens_from (at + size (spell ps [])) qs
tokens_joined b at [] qs x f e = absurd (let no : false ≡ true = e in cc)
tokens_joined b at (p ∷ []) qs x f e =
    let place : ℕ = at + size p.gap in
    let joint = stop_joint p qs (last_stops b at p x f e) in
    let sum : at + size p.gap + size p.piece ≡ at + size (p.gap ++ (p.piece ++ [])) =
    omega (arith, size-append p.gap (p.piece ++ []), size-append p.piece [], nothing) in
    ap (λ (j : Bool). token_at p j place ∷ tokens_from (place + size p.piece) qs) joint
    ∙ ap (λ (n : ℕ). token_at p false place ∷ tokens_from n qs) sum
  where
    nothing : size [] ≡ 0
    nothing = refl
tokens_joined b at (p ∷ r ∷ ps) qs x f e =
    let rest : List Part = r ∷ ps in
    let place : ℕ = at + size p.gap in
    let sum : place + size p.piece + size (spell rest []) ≡ at + size (p.gap ++ (p.piece ++ spell rest [])) =
    omega (arith, size-append p.gap (p.piece ++ spell rest []), size-append p.piece (spell rest [])) in
    ap (λ (l : List Token). token_at p (is_joint p rest) place ∷ l)
    (tokens_joined (step b p) (place + size p.piece) (r ∷ ps) qs x f.2 e ∙ ap (λ (n : ℕ). tokens_from (place + size p.piece) rest ++ tokens_from n qs) sum)

-- ---- one window after another

ends_last : (ts us : List Token) → ends_in_stop us ≡ true → ends_in_stop (ts ++ us) ≡ true
ends_last [] us e = e
ends_last (t ∷ []) [] e = absurd (let no : false ≡ true = e in cc)
ends_last (t ∷ []) (u ∷ us) e = e
ends_last (t ∷ v ∷ ts) us e = ends_last (v ∷ ts) us e

module _ (text : List ℕ) (from to : ℕ) (ts : List Token) (u : IsUtf8 text) (b : IsCharBoundary text from) (x : UpTo text from to ts) where
  out : chars (drop from text) ≡ spell x.parts [] ++ chars (drop to text)
  out = x.whole ∙ spell-out x.parts [] (chars (drop to text))

  end : ends_in_stop (tokens_from from x.parts) ≡ true
  end = ap ends_in_stop (sym x.tokens_are) ∙ x.stops

  place : from + size (spell x.parts []) ≡ to
  place =
      let sum = length_parts (drop from text) (drop to text) (spell x.parts []) (IsUtf8-drop text from u b) (IsUtf8-drop text to u x.border) out in
      omega (arith, sum, length-drop from text, length-drop to text, b.0, x.border.0)

  fits : (qs : List Part) (last : List ℕ) → chars (drop to text) ≡ spell qs last → Fit Other qs last → Fit Other (x.parts ++ qs) last
  fits qs last e f =
      fit_joined Other x.parts qs last (subst (Fit Other x.parts) e x.fit)
      (subst (λ (s : Before). Fit s qs last) (sym (steps_end Other from x.parts (chars (drop to text)) x.fit end)) f)

  both_tokens : (qs : List Part) (us : List Token) → us ≡ tokens_from to qs → ts ++ us ≡ tokens_from from (x.parts ++ qs)
  both_tokens qs us e =
      ap (λ (l : List Token). l ++ us) x.tokens_are ∙ ap (λ (l : List Token). tokens_from from x.parts ++ l) e
      ∙ ap (λ (n : ℕ). tokens_from from x.parts ++ tokens_from n qs) (sym place)
      ∙ sym (tokens_joined Other from x.parts qs (chars (drop to text)) x.fit end)

  whole_text : (qs : List Part) (last : List ℕ) → chars (drop to text) ≡ spell qs last → chars (drop from text) ≡ spell (x.parts ++ qs) last
  whole_text qs last e = x.whole ∙ ap (spell x.parts) e ∙ sym (spell-append x.parts qs last)

  pub joined : (end : ℕ) (us : List Token) → UpTo text to end us → UpTo text from end (ts ++ us)
  joined end us y = record {
    parts = x.parts ++ y.parts;
    whole = whole_text y.parts (chars (drop end text)) y.whole;
    fit = fits y.parts (chars (drop end text)) y.whole y.fit;
    tokens_are = both_tokens y.parts us y.tokens_are;
    stops = ends_last ts us y.stops;
    border = y.border;
  }

  -- After a window the text lexes to more tokens: it lexes to all of them.
  pub joined_end : (us : List Token) → Lexes text to us → Lexes text from (ts ++ us)
  joined_end us l = (
    x.parts ++ l.0,
    l.1,
    record { whole = whole_text l.0 l.1 l.2.whole; fit = fits l.0 l.1 l.2.whole l.2.fit; end = l.2.end },
    both_tokens l.0 us l.3,
  )

-- ---- what a window alone is lexed of

-- a character that stands alone, or two or more
Shape : List ℕ → Type 0
Shape y = ((c : ℕ) × (y ≡ c ∷ []) × IsLone c) ⊎ ((c d : ℕ) × (ys : List ℕ) × (y ≡ c ∷ d ∷ ys))

shape : (gap piece more : List ℕ) → (piece ≡ [] → ⊥) → (more ≡ [] → (c : ℕ) × (piece ≡ c ∷ []) × IsLone c) → Shape (gap ++ (piece ++ more))
unfolding Shape
shape [] [] more n l = absurd (n refl)
shape [] (e ∷ []) [] n l = inl (l refl)
shape [] (e ∷ []) (m ∷ ms) n l = inr (e, m, ms, refl)
shape [] (e ∷ f ∷ es) more n l = inr (e, f, es ++ more, refl)
shape (g ∷ []) [] more n l = absurd (n refl)
shape (g ∷ []) (e ∷ es) more n l = inr (g, e, es ++ more, refl)
shape (g ∷ h ∷ gs) piece more n l = inr (g, h, gs ++ (piece ++ more), refl)

-- Both begin with the same, as far as a piece before them looks.
record Alike (y z : List ℕ) : Type 0 where
  begins_alike : (p : ℕ → Bool) → begins p y ≡ begins p z
  suffix_alike : begins_suffix y ≡ begins_suffix z
  point_alike : begins_point y ≡ begins_point z

alike : (y x : List ℕ) → Shape y → Alike (y ++ x) y
unfolding Shape
alike y x (inl s) = subst (λ (l : List ℕ). Alike (l ++ x) l) (sym s.1) (record {
  begins_alike = λ p. refl;
  suffix_alike = rw s.2.0 refl;
  point_alike = rw s.2.1 refl;
})
alike y x (inr s) = subst (λ (l : List ℕ). Alike (l ++ x) l) (sym s.3) (record {
  begins_alike = λ p. refl;
  suffix_alike = refl;
  point_alike = refl;
})

may_alike : (k : Kind) (piece y z : List ℕ) → Alike y z → may_precede k piece y ≡ may_precede k piece z
unfolding may_precede
may_alike Ident piece y z a = ap not (a.begins_alike _)
may_alike RawIdent piece y z a = ap not (a.begins_alike _)
may_alike Underscore piece y z a = ap not (a.begins_alike _)
may_alike Lifetime piece y z a = ap not (a.begins_alike _)
may_alike Int piece y z a = (λ i. not (a.begins_alike in_word i) && not (is_bare_int piece && a.point_alike i))
may_alike Float piece y z a =
    (λ i. cond (ends_in_point piece) (not (a.begins_alike (λ c. is_ascii_digit c || c == 46 || starts_word c) i)) (not (a.begins_alike in_word i)))
may_alike Punct piece y z a = (λ i. not (begins (λ c. c == 47) piece && a.begins_alike (λ c. c == 47 || c == 42) i))
may_alike (Opener d) piece y z a = refl
may_alike (Closer d) piece y z a = refl
may_alike (Doc inner block) piece y z a = (λ i. block || not (a.begins_alike (λ c. not (c == 10)) i))
may_alike k piece y z a =
    (λ i. literal_may_stop_by (is_whole (after_literal k piece)) (a.suffix_alike i) (a.begins_alike in_word i))
  where
    literal_may_stop_by : Bool → Bool → Bool → Bool
    literal_may_stop_by bare suffix word = cond bare (not suffix) (not word)

had_alike : (k : Kind) (piece y z : List ℕ) (i : Bool) → Alike y z → had k piece y i ≡ had k piece z i
unfolding had
had_alike k piece y z index a =
    (λ i. cond (is_number_kind k && index && (begins is_ascii_digit piece
    && not (cond (list_all is_ascii_digit piece) (a.begins_alike in_word i) (begins in_word (after is_ascii_digit piece)))))
    (is_int_kind k && is_index piece && not (a.begins_alike in_word i)) (has_form k piece && may_alike k piece y z a i))

had_cut : (k : Kind) (piece y x : List ℕ) (i : Bool) → Shape y → Had k piece (y ++ x) i → Had k piece y i
had_cut k piece y x i s h = sym (had_alike k piece (y ++ x) y i (alike y x s)) ∙ h

some_piece : (k : Kind) (piece rest : List ℕ) (i : Bool) → Had k piece rest i → piece ≡ [] → ⊥
some_piece k [] rest i h e = let no : false ≡ true = sym (had_some k rest i) ∙ h in cc
some_piece k (c ∷ cs) rest i h e = let no : ⊥ = cc in no

part_shape : (b : Before) (at : ℕ) (p : Part) (ps : List Part) (x : List ℕ) → Fit b (p ∷ ps) x
    → ends_in_stop (tokens_from at (p ∷ ps)) ≡ true → Shape (spell (p ∷ ps) [])
part_shape b at p [] x f e =
    let s = last_stops b at p x f e in
    shape p.gap p.piece [] (some_piece p.kind p.piece x (is_index_place b) f.1) (λ n. (s.first, s.one, s.lone))
part_shape b at p (q ∷ qs) x f e =
    shape p.gap p.piece (spell (q ∷ qs) []) (some_piece p.kind p.piece _ (is_index_place b) f.1)
    (λ n. absurd (none (step b p) q qs f.2 n))
  where
    none : (b : Before) (q : Part) (qs : List Part) → Fit b (q ∷ qs) x → q.gap ++ (q.piece ++ spell qs []) ≡ [] → ⊥
    none b q qs f n = by q.gap q.piece (some_piece q.kind q.piece _ (is_index_place b) f.1) n
      where
        by : (gap piece : List ℕ) → (piece ≡ [] → ⊥) → gap ++ (piece ++ spell qs []) ≡ [] → ⊥
        by [] [] s n = s refl
        by [] (c ∷ cs) s n = let no : ⊥ = cc in no
        by (c ∷ cs) piece s n = let no : ⊥ = cc in no

fit_cut : (b : Before) (at : ℕ) (ps : List Part) (x : List ℕ) → Fit b ps x → ends_in_stop (tokens_from at ps) ≡ true → Fit b ps []
fit_cut b at [] x f e = tt
fit_cut b at (p ∷ []) x f e = (f.0, (last_stops b at p x f e).may [] (is_index_place b), tt)
fit_cut b at (p ∷ r ∷ ps) x f e =
    let out : spell (r ∷ ps) x ≡ spell (r ∷ ps) [] ++ x = spell-out (r ∷ ps) [] x in
    let h : Had p.kind p.piece (spell (r ∷ ps) [] ++ x) (is_index_place b) =
    subst (λ (l : List ℕ). Had p.kind p.piece l (is_index_place b)) out f.1 in (
      f.0,
      had_cut p.kind p.piece (spell (r ∷ ps) []) x (is_index_place b) (part_shape (step b p) _ r ps x f.2 e) h,
      fit_cut (step b p) _ (r ∷ ps) x f.2 e,
    )

-- The tokens of a window are what the text up to its end lexes to.
pub record LexedAlone (text : List ℕ) (from : ℕ) (ts : List Token) : Type 0 where
  pub bytes : List ℕ
  pub utf8 : IsUtf8 (drop from bytes)
  pub lexes : Lexes bytes from ts

pub lexed_alone : (text : List ℕ) (from to : ℕ) (ts : List Token) → IsUtf8 text → IsCharBoundary text from → UpTo text from to ts
    → LexedAlone text from ts
lexed_alone text from to ts u b x =
    let piece = spell x.parts [] in
    let c = cut_at (drop from text) piece (chars (drop to text)) (IsUtf8-drop text from u b) (out text from to ts u b x) in
    let front : List ℕ = take from text ++ encode_utf8_all piece in
    let long : length (take from text) ≡ from = length-take-le from text b.0 in
    let behind : drop from front ≡ encode_utf8_all piece = drop_at (take from text) (encode_utf8_all piece) from long in
    record {
      bytes = front;
      utf8 = subst IsUtf8 (sym behind) c.piece_text;
      lexes = (
        x.parts,
        [],
        record {
          whole = ap chars behind ∙ c.front;
          fit = fit_cut Other from x.parts (chars (drop to text)) x.fit (end text from to ts u b x);
          end = refl;
        },
        x.tokens_are,
      );
    }
