-- Join: the parts of two texts are the parts of both joined, where the border lets them be.
use Rattle.std.proofs.Common.{◌≡◌, ◌⊎◌, inl, inr, ℕ, ◌+◌, ◌≤◌, List, [], ◌∷◌, ◌++◌, Bool, true, false, cond, not, ◌&&◌, ◌||◌, sym, refl, ap, ◌∙◌, subst, append_assoc, arith, length, map, length-append, IsUtf8}
use Rattle.std.specs.Prelude.{IsTrue, ◌==◌, nat_le}
use Rattle.std.specs.Str.{chars, encode_utf8_all}
use Rattle.std.proofs.lemmas.Bool.{or_cases, and_parts, eqb-true, leb-true, not-true}
use Rattle.std.proofs.lemmas.Str.{encodes-chars, chars-append}
use Rattle.unicode_ident.proofs.Computing.{unicode_ident}
use Rattle.lay_piece.specs.Chars.{begins, is_white, is_between, starts_word, in_word}
use Rattle.lay_piece.specs.Number.{is_bare_int, fronts_index, is_index}
use Rattle.lay_piece.specs.Forms.{Had, had, has_form, may_precede, after_literal, is_whole, is_number_kind, is_int_kind}
use Rattle.lay_piece.specs.Gap.{Outside, Opening, Spoilt, gap_step, gap_end, is_closed, is_closed_or_line, is_gap, is_last_gap}
use Rattle.lay_token.specs.Lexes.{Part, spell, Before, Other, is_index_place, step, steps, Fit, AreParts, tokens_from, is_joint, size, text_of_piece}
use Rattle.lay_piece.specs.declared.kind.Delim.TheVariants.{Paren, Bracket, Brace}
use Rattle.lay_piece.specs.declared.kind.Kind.{Kind}
use Rattle.lay_piece.specs.declared.kind.Kind.TheVariants.{Ident, RawIdent, Underscore, Lifetime, Char, Str, RawStr, Byte, ByteStr, RawByteStr, CStr, RawCStr, Int, Float, Punct, Opener, Closer, Doc}
use Rattle.lay_token.specs.declared.token.Token.{Token}
use Rattle.lay_piece.proofs.GapLaws.{gap_end-append, closed_is_outside, spoilt}
use Rattle.lay_piece.proofs.Unique.{had_two}
use Rattle.lay_piece.proofs.Characters.{below}
use Rattle.lay_token.proofs.Parts.{spell-append, spell-out, had_some}
use Rattle.lay_reparse.specs.Join.{LastHad, behind_gap, SameIndexes, Joinable, marked, moved, Joins}
use Rattle.lay_reparse.proofs.borders.Border.{size-append}

pub is_gap-append : (x y : List ℕ) → IsTrue (is_gap x) → IsTrue (is_gap y) → IsTrue (is_gap (x ++ y))
is_gap-append x y g h = ap is_closed (gap_end-append Outside x y ∙ ap (λ s. gap_end s y) (closed_is_outside _ g)) ∙ h

pub is_last_gap-append : (x y : List ℕ) → IsTrue (is_gap x) → IsTrue (is_last_gap y) → IsTrue (is_last_gap (x ++ y))
is_last_gap-append x y g h = ap is_closed_or_line
    (gap_end-append Outside x y ∙ ap (λ s. gap_end s y) (closed_is_outside _ g)) ∙ h

pub Fit-append : (b : Before) (ps qs : List Part) (last : List ℕ) → Fit b ps (spell qs last) → Fit (steps b ps) qs last
    → Fit b (ps ++ qs) last
Fit-append b [] qs last f g = g
Fit-append b (p ∷ ps) qs last f g = (
  f.0,
  subst (λ l. Had p.kind p.piece l (is_index_place b)) (sym (spell-append ps qs last)) f.1,
  Fit-append (step b p) ps qs last f.2 g,
)

pub Fit-front : (b : Before) (ps qs : List Part) (last : List ℕ) → Fit b (ps ++ qs) last → Fit b ps (spell qs last)
Fit-front b [] qs last f = tt
Fit-front b (p ∷ ps) qs last f = (
  f.0,
  subst (λ l. Had p.kind p.piece l (is_index_place b)) (spell-append ps qs last) f.1,
  Fit-front (step b p) ps qs last f.2,
)

pub piece_length : (k : Kind) (piece rest : List ℕ) (i : Bool) → Had k piece rest i → 1 ≤ length piece
piece_length k [] rest i h = let e : had k [] rest i ≡ false = had_some k rest i in cc
piece_length k (c ∷ cs) rest i h = omega arith

-- two texts with the same first two characters
pub had_known : (k : Kind) (piece known x y : List ℕ) (i : Bool) → 2 ≤ length known
    → had k piece (known ++ x) i ≡ had k piece (known ++ y) i
had_known k piece [] x y i h = absurd (omega arith)
had_known k piece (c ∷ []) x y i h = absurd (omega arith)
had_known k piece (c ∷ d ∷ known) x y i h = had_two k piece (known ++ x) (known ++ y) c d i

pub known_of : (g a h b x : List ℕ) → g ++ (a ++ (h ++ (b ++ x))) ≡ (g ++ (a ++ (h ++ b))) ++ x
known_of g a h b x = simp append_assoc

pub known_length : (g a h b : List ℕ) → 1 ≤ length a → 1 ≤ length b → 2 ≤ length (g ++ (a ++ (h ++ b)))
known_length g a h b p q = simp length-append (omega arith)

-- The last two pieces may have this rest.
abbrev pub LastMay : Before → List Part → List ℕ → Type 0
LastMay b [] rest = Unit {0}
LastMay b (p ∷ []) rest = Had p.kind p.piece rest (is_index_place b)
LastMay b (p ∷ q ∷ []) rest = Had p.kind p.piece (q.gap ++ (q.piece ++ rest)) (is_index_place b)
    × Had q.kind q.piece rest (is_index_place (step b p))
LastMay b (p ∷ q ∷ r ∷ ps) rest = LastMay (step b p) (q ∷ r ∷ ps) rest

-- parts that fit before one rest fit before another that their last two pieces may have
pub Fit-along : (b : Before) (ps : List Part) (x y : List ℕ) → Fit b ps x → LastMay b ps y → Fit b ps y
Fit-along b [] x y f l = tt
Fit-along b (p ∷ []) x y f l = (f.0, l, tt)
Fit-along b (p ∷ q ∷ []) x y f l = (f.0, l.0, (f.2.0, l.1, tt))
Fit-along b (p ∷ q ∷ r ∷ ps) x y f l =
    let two = known_length q.gap q.piece r.gap r.piece (piece_length _ _ _ _ f.2.1) (piece_length _ _ _ _ f.2.2.1) in
    let e : had p.kind p.piece (spell (q ∷ r ∷ ps) y) (is_index_place b)
    ≡ had p.kind p.piece (spell (q ∷ r ∷ ps) x) (is_index_place b) =
    ap (λ l. had p.kind p.piece l (is_index_place b)) (known_of q.gap q.piece r.gap r.piece (spell ps y))
    ∙ had_known p.kind p.piece (q.gap ++ (q.piece ++ (r.gap ++ r.piece))) (spell ps y) (spell ps x) (is_index_place b)
    two
    ∙ ap (λ l. had p.kind p.piece l (is_index_place b)) (sym (known_of q.gap q.piece r.gap r.piece (spell ps x))) in
    (f.0, e ∙ f.1, Fit-along (step b p) (q ∷ r ∷ ps) x y f.2 l)

-- only a number asks whether it stands at an index
pub same_index : (k : Kind) (piece rest : List ℕ) (i j : Bool) → (IsTrue (is_number_kind k) → i ≡ j)
    → had k piece rest i ≡ had k piece rest j
unfolding had
same_index Int piece rest i j h = ap (λ v. had Int piece rest v) (h refl)
same_index Float piece rest i j h = ap (λ v. had Float piece rest v) (h refl)
same_index Ident piece rest i j h = refl
same_index RawIdent piece rest i j h = refl
same_index Underscore piece rest i j h = refl
same_index Lifetime piece rest i j h = refl
same_index Punct piece rest i j h = refl
same_index (Opener e) piece rest i j h = refl
same_index (Closer e) piece rest i j h = refl
same_index (Doc inner block) piece rest i j h = refl
same_index Char piece rest i j h = refl
same_index Str piece rest i j h = refl
same_index RawStr piece rest i j h = refl
same_index Byte piece rest i j h = refl
same_index ByteStr piece rest i j h = refl
same_index RawByteStr piece rest i j h = refl
same_index CStr piece rest i j h = refl
same_index RawCStr piece rest i j h = refl

pub Fit-before : (b d : Before) (ps : List Part) (rest : List ℕ) → SameIndexes b d ps → Fit b ps rest → Fit d ps rest
Fit-before b d [] rest s f = tt
Fit-before b d (p ∷ ps) rest s f = (
  f.0,
  sym (same_index p.kind p.piece (spell ps rest) _ _ s.0) ∙ f.1,
  Fit-before (step b p) (step d p) ps rest s.1 f.2,
)

abbrev pub last_behind_gap : List ℕ → List Part → List ℕ → List ℕ
last_behind_gap g [] last = g ++ last
last_behind_gap g (p ∷ ps) last = last

pub spell-behind_gap : (g : List ℕ) (ps : List Part) (last : List ℕ)
    → spell (behind_gap g ps) (last_behind_gap g ps last) ≡ g ++ spell ps last
spell-behind_gap g [] last = refl
spell-behind_gap g (p ∷ ps) last = append_assoc g p.gap (p.piece ++ spell ps last)

pub Fit-behind : (g : List ℕ) (ps : List Part) (last : List ℕ) → IsTrue (is_gap g) → Fit Other ps last
    → Fit Other (behind_gap g ps) (last_behind_gap g ps last)
unfolding step
Fit-behind g [] last h f = tt
Fit-behind g (p ∷ ps) last h f = (is_gap-append g p.gap h f.0, f.1, f.2)

last-behind : (g : List ℕ) (ps : List Part) (last : List ℕ) → IsTrue (is_gap g) → IsTrue (is_last_gap last)
    → IsTrue (is_last_gap (last_behind_gap g ps last))
last-behind g [] last h e = is_last_gap-append g last h e
last-behind g (p ∷ ps) last h e = e

-- Join: the texts joined are the parts of both, with the gaps at the border as one.
pub join : (left right : List ℕ) (ps qs : List Part) (g last : List ℕ)
    → AreParts left ps g → AreParts right qs last
    → IsTrue (is_gap g)
    → LastMay Other ps (g ++ right)
    → SameIndexes Other (steps Other ps) (behind_gap g qs)
    → AreParts (left ++ right) (ps ++ behind_gap g qs) (last_behind_gap g qs last)
join left right ps qs g last l r closed may same =
    let more = behind_gap g qs in
    let end = last_behind_gap g qs last in
    let border : spell more end ≡ g ++ right = spell-behind_gap g qs last ∙ ap (λ x. g ++ x) (sym r.whole) in
    record {
      whole = ap (λ x. x ++ right) l.whole ∙ sym (spell-out ps g right) ∙ ap (spell ps) (sym border)
          ∙ sym (spell-append ps more end);
      fit = Fit-append Other ps more end
          (subst (Fit Other ps) (sym border) (Fit-along Other ps g (g ++ right) l.fit may))
          (Fit-before Other (steps Other ps) more end same (Fit-behind g qs last closed r.fit));
      end = last-behind g qs last closed r.end;
    }

-- what a point may not be followed by
abbrev goes_behind_point : ℕ → Bool
goes_behind_point d = d == 46 || starts_word d

at_number : (c n : ℕ) → c ≡ n → goes_behind_point n ≡ false → goes_behind_point c ≡ false
at_number c n e h = let P : ℕ → Type 0 = λ m. goes_behind_point m ≡ false in subst P (sym e) h

white_first : (c : ℕ) → is_white c ≡ true → goes_behind_point c ≡ false
unfolding unicode_ident starts_word
white_first c h = elim (or_cases _ (c == 8233) h) [
  | inr e ↦ at_number c 8233 (eqb-true c 8233 e) refl
  | inl h ↦
      elim (or_cases _ (c == 8232) h) [
        | inr e ↦ at_number c 8232 (eqb-true c 8232 e) refl
        | inl h ↦
            elim (or_cases _ (c == 8207) h) [
              | inr e ↦ at_number c 8207 (eqb-true c 8207 e) refl
              | inl h ↦
                  elim (or_cases _ (c == 8206) h) [
                    | inr e ↦ at_number c 8206 (eqb-true c 8206 e) refl
                    | inl h ↦
                        elim (or_cases _ (c == 133) h) [
                          | inr e ↦ at_number c 133 (eqb-true c 133 e) refl
                          | inl h ↦
                              elim (or_cases (is_between 9 13 c) (c == 32) h) [
                                | inr e ↦ at_number c 32 (eqb-true c 32 e) refl
                                | inl h ↦
                                    let top : c ≤ 13 = leb-true c 13 (and_parts (nat_le 9 c) (nat_le c 13) h).1 in
                                    not-true _ (below 14 (λ d. not (goes_behind_point d)) c refl (omega arith))
                              ]
                        ]
                  ]
            ]
      ]
]

opens : (w s : Bool) (x : List ℕ) → is_closed_or_line (gap_end (cond w Outside (cond s Opening Spoilt)) x) ≡ true
    → (w ≡ true) ⊎ (s ≡ true)
opens true s x h = inl refl
opens false true x h = inr refl
opens false false x h = let e : is_closed_or_line (gap_end Spoilt x) ≡ false = ap is_closed_or_line (spoilt x) in cc

slash_first : goes_behind_point 47 ≡ false
unfolding unicode_ident starts_word
slash_first = refl

-- a last gap doesn't begin with what may follow a point
gap_first : (x : List ℕ) → IsTrue (is_last_gap x) → begins goes_behind_point x ≡ false
unfolding gap_step
gap_first [] h = refl
gap_first (c ∷ x) h = elim (opens (is_white c) (c == 47) x h) [
  | inl e ↦ white_first c e
  | inr e ↦
      at_number c 47 (eqb-true c 47 e) slash_first
]

first_of_four : (a b c d : Bool) → not (a || b || c || d) ≡ true → a ≡ false
first_of_four true b c d h = cc
first_of_four false b c d h = refl

word_stops : (y : List ℕ) → not (begins (λ c. in_word c || c == 34 || c == 39 || c == 35) y) ≡ true
    → begins in_word y ≡ false
word_stops [] h = refl
word_stops (c ∷ y) h = first_of_four (in_word c) (c == 34) (c == 39) (c == 35) h

apart : (b c : Bool) → b ≡ false → b ≡ true → c ≡ false
apart true c e h = cc
apart false c e h = cc

-- one character that is a piece, where it is an underscore
lone_underscore : (k : Kind) (y : List ℕ) (j : Bool) → had k (95 ∷ []) y j ≡ true → begins in_word y ≡ false
unfolding had has_form may_precede unicode_ident starts_word in_word after_literal
lone_underscore Ident y j h = apart (had Ident (95 ∷ []) y j) (begins in_word y) refl h
lone_underscore RawIdent y j h = apart (had RawIdent (95 ∷ []) y j) (begins in_word y) refl h
lone_underscore Lifetime y j h = apart (had Lifetime (95 ∷ []) y j) (begins in_word y) refl h
lone_underscore Char y j h = apart (had Char (95 ∷ []) y j) (begins in_word y) refl h
lone_underscore Str y j h = apart (had Str (95 ∷ []) y j) (begins in_word y) refl h
lone_underscore RawStr y j h = apart (had RawStr (95 ∷ []) y j) (begins in_word y) refl h
lone_underscore Byte y j h = apart (had Byte (95 ∷ []) y j) (begins in_word y) refl h
lone_underscore ByteStr y j h = apart (had ByteStr (95 ∷ []) y j) (begins in_word y) refl h
lone_underscore RawByteStr y j h = apart (had RawByteStr (95 ∷ []) y j) (begins in_word y) refl h
lone_underscore CStr y j h = apart (had CStr (95 ∷ []) y j) (begins in_word y) refl h
lone_underscore RawCStr y j h = apart (had RawCStr (95 ∷ []) y j) (begins in_word y) refl h
lone_underscore Punct y j h = apart (had Punct (95 ∷ []) y j) (begins in_word y) refl h
lone_underscore (Opener Paren) y j h = apart (had (Opener Paren) (95 ∷ []) y j) (begins in_word y) refl h
lone_underscore (Opener Bracket) y j h = apart (had (Opener Bracket) (95 ∷ []) y j) (begins in_word y) refl h
lone_underscore (Opener Brace) y j h = apart (had (Opener Brace) (95 ∷ []) y j) (begins in_word y) refl h
lone_underscore (Closer Paren) y j h = apart (had (Closer Paren) (95 ∷ []) y j) (begins in_word y) refl h
lone_underscore (Closer Bracket) y j h = apart (had (Closer Bracket) (95 ∷ []) y j) (begins in_word y) refl h
lone_underscore (Closer Brace) y j h = apart (had (Closer Brace) (95 ∷ []) y j) (begins in_word y) refl h
lone_underscore (Doc true true) y j h = apart (had (Doc true true) (95 ∷ []) y j) (begins in_word y) refl h
lone_underscore (Doc true false) y j h = apart (had (Doc true false) (95 ∷ []) y j) (begins in_word y) refl h
lone_underscore (Doc false true) y j h = apart (had (Doc false true) (95 ∷ []) y j) (begins in_word y) refl h
lone_underscore (Doc false false) y j h = apart (had (Doc false false) (95 ∷ []) y j) (begins in_word y) refl h
lone_underscore Int y true h = apart (had Int (95 ∷ []) y true) (begins in_word y) refl h
lone_underscore Int y false h = apart (had Int (95 ∷ []) y false) (begins in_word y) refl h
lone_underscore Float y true h = apart (had Float (95 ∷ []) y true) (begins in_word y) refl h
lone_underscore Float y false h = apart (had Float (95 ∷ []) y false) (begins in_word y) refl h
lone_underscore Underscore y j h = word_stops y h

int_one : (w b e gx gy : Bool) → w && not (b && (e && not gx)) ≡ true → gx ≡ false
    → w && not (b && (e && not gy)) ≡ true
int_one false b e gx gy h g = cc
int_one true false e gx gy h g = refl
int_one true true false gx gy h g = refl
int_one true true true true gy h g = cc
int_one true true true false gy h g = cc

lit_one : (bare s e ix iy w : Bool) → cond bare (not (s && not (e && not ix))) (not w) ≡ true → (e ≡ true → iy ≡ false)
    → cond bare (not (s && not (e && not iy))) (not w) ≡ true
lit_one false s e ix iy w h u = h
lit_one true false e ix iy w h u = refl
lit_one true true false ix iy w h u = cc
lit_one true true true ix iy w h u = let f = u refl in rw f refl

-- what a piece asks of the character after it and the one after that
follow_one : (k : Kind) (piece : List ℕ) (c : ℕ) (x y : List ℕ) → may_precede k piece (c ∷ x) ≡ true
    → begins goes_behind_point x ≡ false → (c ≡ 95 → begins in_word y ≡ false) → may_precede k piece (c ∷ y) ≡ true
unfolding may_precede
follow_one Ident piece c x y h g u = h
follow_one RawIdent piece c x y h g u = h
follow_one Underscore piece c x y h g u = h
follow_one Lifetime piece c x y h g u = h
follow_one Float piece c x y h g u = h
follow_one Punct piece c x y h g u = h
follow_one (Opener d) piece c x y h g u = h
follow_one (Closer d) piece c x y h g u = h
follow_one (Doc inner block) piece c x y h g u = h
follow_one Char piece c x y h g u = lit_one (is_whole (after_literal Char piece)) (starts_word c) (c == 95)
    (begins in_word x) (begins in_word y) (in_word c) h (λ e. u (eqb-true c 95 e))
follow_one Str piece c x y h g u = lit_one (is_whole (after_literal Str piece)) (starts_word c) (c == 95)
    (begins in_word x) (begins in_word y) (in_word c) h (λ e. u (eqb-true c 95 e))
follow_one RawStr piece c x y h g u = lit_one (is_whole (after_literal RawStr piece)) (starts_word c) (c == 95)
    (begins in_word x) (begins in_word y) (in_word c) h (λ e. u (eqb-true c 95 e))
follow_one Byte piece c x y h g u = lit_one (is_whole (after_literal Byte piece)) (starts_word c) (c == 95)
    (begins in_word x) (begins in_word y) (in_word c) h (λ e. u (eqb-true c 95 e))
follow_one ByteStr piece c x y h g u = lit_one (is_whole (after_literal ByteStr piece)) (starts_word c) (c == 95)
    (begins in_word x) (begins in_word y) (in_word c) h (λ e. u (eqb-true c 95 e))
follow_one RawByteStr piece c x y h g u =
    lit_one (is_whole (after_literal RawByteStr piece)) (starts_word c) (c == 95) (begins in_word x) (begins in_word y)
    (in_word c) h (λ e. u (eqb-true c 95 e))
follow_one CStr piece c x y h g u = lit_one (is_whole (after_literal CStr piece)) (starts_word c) (c == 95)
    (begins in_word x) (begins in_word y) (in_word c) h (λ e. u (eqb-true c 95 e))
follow_one RawCStr piece c x y h g u = lit_one (is_whole (after_literal RawCStr piece)) (starts_word c) (c == 95)
    (begins in_word x) (begins in_word y) (in_word c) h (λ e. u (eqb-true c 95 e))
follow_one Int piece c x y h g u = int_one (not (in_word c)) (is_bare_int piece) (c == 46) (begins goes_behind_point x)
    (begins goes_behind_point y) h g

cond_more : (t a b d : Bool) → (b ≡ true → d ≡ true) → cond t a b ≡ true → cond t a d ≡ true
cond_more true a b d f h = h
cond_more false a b d f h = f h

and_more : (a b d : Bool) → (b ≡ true → d ≡ true) → a && b ≡ true → a && d ≡ true
and_more true b d f h = f h
and_more false b d f h = cc

had_one : (k : Kind) (piece : List ℕ) (c : ℕ) (x y : List ℕ) (i : Bool) → had k piece (c ∷ x) i ≡ true
    → begins goes_behind_point x ≡ false → (c ≡ 95 → begins in_word y ≡ false) → had k piece (c ∷ y) i ≡ true
unfolding had
had_one k piece c x y i h g u =
    cond_more (is_number_kind k && i && fronts_index piece (c ∷ x)) (is_int_kind k && is_index piece && not (in_word c))
    _ _
    (and_more (has_form k piece) (may_precede k piece (c ∷ x)) (may_precede k piece (c ∷ y))
    (λ m. follow_one k piece c x y m g u)) h

-- two pieces, of which the last may have the rest y
two_had : (k : Kind) (piece g a x y : List ℕ) (i : Bool) (l : Kind) (j : Bool) → had k piece (g ++ (a ++ x)) i ≡ true
    → IsTrue (is_last_gap x) → had l a y j ≡ true → had k piece (g ++ (a ++ y)) i ≡ true
two_had k piece g [] x y i l j h e n = let f : had l [] y j ≡ false = had_some l y j in cc
two_had k piece [] (c ∷ []) x y i l j h e n =
    had_one k piece c x y i h (gap_first x e)
    (λ w. lone_underscore l y j (let P : ℕ → Type 0 = λ m. had l (m ∷ []) y j ≡ true in subst P w n))
two_had k piece [] (c ∷ d ∷ a) x y i l j h e n = had_two k piece (a ++ y) (a ++ x) c d i ∙ h
two_had k piece (b ∷ []) (c ∷ a) x y i l j h e n = had_two k piece (a ++ y) (a ++ x) b c i ∙ h
two_had k piece (b ∷ b2 ∷ g) (c ∷ a) x y i l j h e n = had_two k piece (g ++ (c ∷ a ++ y)) (g ++ (c ∷ a ++ x)) b b2 i
    ∙ h

last_may : (b : Before) (ps : List Part) (x y : List ℕ) → Fit b ps x → IsTrue (is_last_gap x) → LastHad b ps y
    → LastMay b ps y
last_may b [] x y f e l = tt
last_may b (p ∷ []) x y f e l = l
last_may b (p ∷ q ∷ []) x y f e l = (
  two_had p.kind p.piece q.gap q.piece x y (is_index_place b) q.kind
      (is_index_place (step b p)) f.1 e l,
  l,
)
last_may b (p ∷ q ∷ r ∷ ps) x y f e l = last_may (step b p) (q ∷ r ∷ ps) x y f.2 e l

-- Join, of the last piece alone
pub join_last : (left right : List ℕ) (ps qs : List Part) (g last : List ℕ)
    → AreParts left ps g → AreParts right qs last
    → IsTrue (is_gap g)
    → LastHad Other ps (g ++ right)
    → SameIndexes Other (steps Other ps) (behind_gap g qs)
    → AreParts (left ++ right) (ps ++ behind_gap g qs) (last_behind_gap g qs last)
join_last left right ps qs g last l r closed may same =
    join left right ps qs g last l r closed (last_may Other ps g (g ++ right) l.fit l.end may) same

abbrev pub token : ℕ → Part → Bool → Token
token at p joint = record {
  kind = p.kind;
  text = encode_utf8_all (text_of_piece p.kind p.piece);
  joint = joint;
  at =
      at + size p.gap;
  len = size p.piece;
}

-- the tokens of parts before other parts: the last one's mark is by what follows it
abbrev pub tokens_before : ℕ → List Part → List Part → List Token
tokens_before at [] qs = []
tokens_before at (p ∷ ps) qs = token at p (is_joint p (ps ++ qs)) ∷ tokens_before (at + size p.gap + size p.piece) ps qs

tokens_moved : (at k : ℕ) (qs : List Part) → tokens_from (at + k) qs ≡ map (moved k) (tokens_from at qs)
tokens_moved at k [] = refl
tokens_moved at k (q ∷ qs) =
    let here : at + k + size q.gap ≡ at + size q.gap + k = omega arith in
    let there : at + k + size q.gap + size q.piece ≡ at + size q.gap + size q.piece + k = omega arith in
    (λ i. record {
      kind = q.kind;
      text = encode_utf8_all (text_of_piece q.kind q.piece);
      joint = is_joint q qs;
      at =
          here i;
      len = size q.piece;
    } ∷ tokens_from (there i) qs)
    ∙ ap (λ l. record {
      kind = q.kind;
      text = encode_utf8_all (text_of_piece q.kind q.piece);
      joint =
          is_joint q qs;
      at = at + size q.gap + k;
      len = size q.piece;
    } ∷ l)
    (tokens_moved (at + size q.gap + size q.piece) k qs)

pub tokens-append : (at : ℕ) (ps qs : List Part)
    → tokens_from at (ps ++ qs) ≡ tokens_before at ps qs ++ tokens_from (at + size (spell ps [])) qs
tokens-append at [] qs = let e : at ≡ at + 0 = omega arith in ap (λ n. tokens_from n qs) e
tokens-append at (p ∷ ps) qs =
    let a = size-append p.gap (p.piece ++ spell ps []) in
    let b = size-append p.piece (spell ps []) in
    let sum : at + size p.gap + size p.piece + size (spell ps []) ≡ at + size (p.gap ++ (p.piece ++ spell ps [])) =
    omega (arith, a, b) in
    ap (λ l. token at p (is_joint p (ps ++ qs)) ∷ l)
    (tokens-append (at + size p.gap + size p.piece) ps qs
    ∙ ap (λ n. tokens_before (at + size p.gap + size p.piece) ps qs ++ tokens_from n qs) sum)

-- after a gap more, the tokens are moved by it
tokens_behind : (at : ℕ) (g : List ℕ) (qs : List Part) → tokens_from at (behind_gap g qs) ≡ tokens_from (at + size g) qs
tokens_behind at g [] = refl
tokens_behind at g (q ∷ qs) =
    let cut = size-append g q.gap in
    let here : at + size (g ++ q.gap) ≡ at + size g + size q.gap = omega (arith, cut) in
    ap (λ n. record {
      kind = q.kind;
      text = encode_utf8_all (text_of_piece q.kind q.piece);
      joint = is_joint q qs;
      at =
          n;
      len = size q.piece;
    } ∷ tokens_from (n + size q.piece) qs) here

-- Join, of the tokens: those of the left text with the last mark by what follows, then those of the right one, moved.
pub tokens_joined : (ps qs : List Part) (g : List ℕ)
    → tokens_from 0 (ps ++ behind_gap g qs) ≡ tokens_before 0 ps (behind_gap g qs)
    ++ map (moved (size (spell ps g))) (tokens_from 0 qs)
tokens_joined ps qs g =
    let whole : spell ps g ≡ spell ps [] ++ g = spell-out ps [] g in
    let cut = ap size whole ∙ size-append (spell ps []) g in
    let place : 0 + size (spell ps []) + size g ≡ 0 + size (spell ps g) = omega (arith, cut) in
    tokens-append 0 ps (behind_gap g qs)
    ∙ ap (λ l. tokens_before 0 ps (behind_gap g qs) ++ l)
    (tokens_behind (0 + size (spell ps [])) g qs ∙ ap (λ n. tokens_from n qs) place
    ∙ tokens_moved 0 (size (spell ps g)) qs)

-- ---- in bytes

-- the mark of the last part
last_mark : List Part → List Part → Bool
last_mark [] qs = false
last_mark (p ∷ []) qs = is_joint p qs
last_mark (p ∷ r ∷ ps) qs = last_mark (r ∷ ps) qs

before_marked : (at : ℕ) (ps qs : List Part) → tokens_before at ps qs ≡ marked (last_mark ps qs) (tokens_from at ps)
unfolding last_mark
before_marked at [] qs = refl
before_marked at (p ∷ []) qs = refl
before_marked at (p ∷ r ∷ ps) qs = ap (λ l. token at p (is_joint p (r ∷ ps)) ∷ l)
    (before_marked (at + size p.gap + size p.piece) (r ∷ ps) qs)

pub joined : (left right : List ℕ) (a b : List Token) → IsUtf8 left → IsUtf8 right → Joinable left right a b
    → Joins left right a b
joined left right a b u v j =
    let r = join_last (chars left) (chars right) j.parts j.others j.gap j.last j.reads_left j.reads_right j.closed j.may
    j.same in
    let qs = behind_gap j.gap j.others in
    let mark = last_mark j.parts qs in
    let len : size (spell j.parts j.gap) ≡ length left = ap size (sym j.reads_left.whole)
    ∙ ap length (encodes-chars left u) in
    let left_tokens : tokens_before 0 j.parts qs ≡ marked mark a = before_marked 0 j.parts qs
    ∙ ap (marked mark) (sym j.tokens_left) in (
      mark,
      (
        j.parts ++ qs,
        last_behind_gap j.gap j.others j.last,
        subst (λ z. AreParts z (j.parts ++ qs) (last_behind_gap j.gap j.others j.last)) (sym (chars-append left right u))
            r,
        sym (tokens_joined j.parts j.others j.gap ∙ (λ i. left_tokens i ++ map (moved (len i)) (sym j.tokens_right i))),
      ),
    )
