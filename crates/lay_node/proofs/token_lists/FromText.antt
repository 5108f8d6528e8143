-- What a text lexes to fits together, neighbour by neighbour.
use Rattle.std.proofs.Common.{◌≡◌, inl, inr, ℕ, ◌+◌, List, [], ◌∷◌, ◌++◌, Bool, true, false, cond, not, ◌&&◌, ◌||◌, map, drop, codes, refl, sym, ap, ◌∙◌, subst, IsUtf8}
use Rattle.std.specs.Prelude.{◌==◌, nat_lt}
use Rattle.std.specs.Char.{is_ascii_digit}
use Rattle.std.specs.List.{list_all, list_any}
use Rattle.std.specs.Str.{chars, encode_utf8_all, is_utf8, bytes_eq}
use Rattle.std.proofs.lemmas.Bool.{and_parts, and_from, cases_Bool, both_ways, eqb-true, ltb-true, not-true}
use Rattle.std.proofs.lemmas.List.{map-append}
use Rattle.std.proofs.lemmas.List.Folds.{list_all-append}
use Rattle.std.proofs.lemmas.Slice.Eq.{bytes_eq-Decides}
use Rattle.std.proofs.lemmas.Str.{chars-encodes, encode_ascii, scalars-chars}
use lib.Utf8.{scalars}
use Rattle.lay_piece.specs.Chars.{begins, after, is_nil, in_word, in_digits}
use Rattle.lay_piece.specs.Forms.{had, has_form, may_precede, is_number_kind, is_int_kind, is_punct_char, literal_may_stop, is_whole, after_literal}
use Rattle.lay_token.specs.Lexes as lexed
use Rattle.lay_token.specs.Lexes.{Part, Before, Other, Point, Points, spell, is_punct, is_point, is_separator, step, Fit, size, text_of_piece, tokens_from, Lexes}
use Rattle.lay_piece.specs.Number.{is_index, fronts_index, ends_in_point, is_bare_int, is_float, is_float_tail, is_decimal, base_of}
use Rattle.lay_piece.specs.declared.kind.Kind.{Kind}
use Rattle.lay_piece.specs.declared.kind.Kind.TheVariants.{Ident, RawIdent, Underscore, Lifetime, Int, Float, Punct, Opener, Closer, Doc}
use Rattle.lay_token.specs.declared.token.Token.{Token}
use Rattle.lay_token.proofs.Deciding.{punct_is}
use Rattle.lay_token.proofs.Encoding.{scalars_parts}
use Rattle.lay_form.specs.Pieces.{is_text_of}
use Rattle.lay_node.specs.tokens.Lexed.{is_had, is_joinable, may_join, fits, ends_apart}
use Rattle.lay_node.specs.tokens.Listing.{listed_by, as_listed}
use Rattle.lay_node.specs.tokens.Pairs.{Neighbour, Nothing, Single, is_mark, is_joint_mark, is_joint_neighbour, is_punct_neighbour, is_index_place}
use Rattle.lay_node.specs.reader.Exact.{is_loose, InText}
use Rattle.lay_node.specs.declared.token.Listed.{Listed}
use Rattle.lay_node.proofs.LexedPieces.{had_form, raw_again, piece_text}
use Rattle.lay_node.proofs.Scalars.{scalars_drop, text_utf8}

-- ---- a piece that is had is had where nothing follows

and_false : (b : Bool) → b && false ≡ false
and_false true = refl
and_false false = refl

stops : (bare : Bool) → literal_may_stop bare [] ≡ true
stops true = refl
stops false = refl

last_may : (k : Kind) (x : List ℕ) → may_precede k x [] ≡ true
unfolding may_precede
last_may Ident x = refl
last_may RawIdent x = refl
last_may Underscore x = refl
last_may Lifetime x = refl
last_may Int x = ap not (and_false (is_bare_int x))
last_may Float x = either (ends_in_point x)
  where
    either : (b : Bool) → cond b true true ≡ true
    either true = refl
    either false = refl
last_may Punct x = ap not (and_false (begins (λ c. c == 47) x))
last_may (Opener d) x = refl
last_may (Closer d) x = refl
last_may (Doc inner true) x = refl
last_may (Doc inner false) x = refl
last_may k x = stops (is_whole (after_literal k x))

-- digits alone, and what goes on with a word after them, are no number
digits_end : (x : List ℕ) → list_all is_ascii_digit x ≡ true → after in_digits x ≡ []
digits_end [] h = refl
digits_end (c ∷ x) h = let q = and_parts (is_ascii_digit c) _ h in
    by (is_ascii_digit c) (c == 95) (after in_digits x) q.0 (digits_end x q.1)
  where
    by : (a b : Bool) (r : List ℕ) → a ≡ true → r ≡ [] → cond (a || b) r (c ∷ x) ≡ []
    by true b r h e = e
    by false b r h e = cc

no_float : (x : List ℕ) → list_all is_ascii_digit x ≡ true → is_float x ≡ false
no_float x h = ap (λ r. begins is_ascii_digit x && is_decimal (base_of x) && is_float_tail r) (digits_end x h)
    ∙ and_false (begins is_ascii_digit x && is_decimal (base_of x))

no_number : (k : Kind) (x y : List ℕ) → is_number_kind k ≡ true → list_all is_ascii_digit x ≡ true
    → begins in_word y ≡ true → has_form k x && may_precede k x y ≡ false
unfolding has_form may_precede
no_number Int x y n d w = by (has_form Int x) (begins in_word y) _ w
  where
    by : (a b c : Bool) → b ≡ true → a && (not b && c) ≡ false
    by true true c h = refl
    by true false c h = cc
    by false b c h = refl
no_number Float x y n d w = ap (λ z. z && may_precede Float x y) (no_float x d)
no_number _ x y n d w = cc

-- n: a number's kind is Int; d, e: it begins with digits, and has nothing else; b, w: a word goes on after its digits,
-- and after it; m: its form and what follows it; r: its form and nothing after it
at_place : (n d e b w m r : Bool) → cond (d && not (cond e w b)) (n && (d && e) && not w) m ≡ true
    → (e ≡ true → w ≡ true → m ≡ false) → (m ≡ true → r ≡ true)
    → cond (d && not (cond e false b)) (n && (d && e) && true) r ≡ true
at_place true true true b true m r h g k = let f : true ≡ false = sym h ∙ g refl refl in cc
at_place true true true b false m r h g k = refl
at_place false true true b true m r h g k = let f : true ≡ false = sym h ∙ g refl refl in cc
at_place false true true b false m r h g k = cc
at_place n true false true w m r h g k = k h
at_place true true false false w m r h g k = cc
at_place false true false false w m r h g k = cc
at_place n false e b w m r h g k = k h

alone : (k : Kind) (x rest : List ℕ) (place : Bool) → had k x rest place ≡ true → had k x [] place ≡ true
unfolding had
alone k x rest place h = by (is_number_kind k) refl place h
  where
    form : has_form k x && may_precede k x rest ≡ true → has_form k x && may_precede k x [] ≡ true
    form h = and_from (has_form k x) _ (and_parts (has_form k x) _ h).0 (last_may k x)

    by : (n : Bool) → is_number_kind k ≡ n → (p : Bool)
        → cond (n && p && fronts_index x rest) (is_int_kind k && is_index x && not (begins in_word rest))
        (has_form k x && may_precede k x rest) ≡ true
        → cond (n && p && fronts_index x []) (is_int_kind k && is_index x && true)
        (has_form k x && may_precede k x []) ≡ true
    by false e p h = form h
    by true e false h = form h
    by true e true h = at_place (is_int_kind k) (begins is_ascii_digit x) (list_all is_ascii_digit x)
        (begins in_word (after is_ascii_digit x)) (begins in_word rest) _ _ h (no_number k x rest e) form

-- ---- the token of a part

-- the token of a list, of this kind and piece
abbrev token_of : Kind → List ℕ → Bool → Listed
token_of k x joint = listed_by k (encode_utf8_all (text_of_piece k x)) joint

had_token : (k : Kind) (x rest : List ℕ) (joint place : Bool) → scalars x ≡ true → had k x rest place ≡ true
    → is_had place (token_of k x joint) ≡ true
unfolding is_text_of
had_token (Doc inner block) x rest joint place s h =
    piece_text (Doc inner block) x (had_form (Doc inner block) x rest place h) s
had_token RawIdent x rest joint place s h =
    let g = scalars_drop 2 x s in
    let again : codes "r#" ++ chars (encode_utf8_all (drop 2 x)) ≡ x =
    ap (λ z. codes "r#" ++ z) (chars-encodes (drop 2 x) g) ∙ raw_again x (had_form RawIdent x rest place h) in
    and_from (is_utf8 (encode_utf8_all (drop 2 x))) _ (text_utf8 (drop 2 x) g)
    (ap (λ z. had RawIdent z [] place) again ∙ alone RawIdent x rest place h)
had_token k x rest joint place s h =
    and_from (is_utf8 (encode_utf8_all x)) _ (text_utf8 x s)
    (ap (λ z. had k z [] place) (chars-encodes x s) ∙ alone k x rest place h)

-- ---- punctuation

low_among : (signs : List ℕ) (c : ℕ) → list_all (λ d. nat_lt d 128) signs ≡ true → list_any (λ d. d == c) signs ≡ true
    → nat_lt c 128 ≡ true
low_among [] c h g = cc
low_among (d ∷ signs) c h g = elim (cases_Bool (d == c)) [
  | inl e ↦ subst (λ z. nat_lt z 128 ≡ true) (eqb-true d c e) (and_parts (nat_lt d 128) _ h).0
  | inr e ↦ low_among signs c (and_parts (nat_lt d 128) _ h).1 (sym (ap (λ b. b || list_any (λ d. d == c) signs) e) ∙ g)
]

punct_text : (x : List ℕ) → has_form Punct x ≡ true → encode_utf8_all x ≡ x
unfolding has_form
punct_text [] h = cc
punct_text (c ∷ []) h =
    let low = low_among (codes "=<>!~+-*/%^&@.,;:#$?|") c refl (and_parts (is_punct_char c) true h).0 in
    ap (λ z. z ++ []) (encode_ascii c (ltb-true c 128 low))
punct_text (c ∷ d ∷ x) h = let e = (and_parts (is_punct_char c) false h).1 in cc

-- a token of this kind and piece, as a neighbour
abbrev stood : Kind → List ℕ → Bool → Neighbour
stood k x joint = Single (token_of k x joint)

-- The part is this punctuation.
abbrev is_sign : List ℕ → Kind → List ℕ → Bool
is_sign sign k x = is_punct k && bytes_eq x sign

mark_is : (k : Kind) (x rest sign : List ℕ) (joint place : Bool) → had k x rest place ≡ true
    → is_mark sign (stood k x joint) ≡ is_sign sign k x
mark_is Punct x rest sign joint place h =
    ap (λ z. bytes_eq z sign) (punct_text x (had_form Punct x rest place h))
mark_is (Doc inner block) x rest sign joint place h = refl
mark_is _ x rest sign joint place h = refl

punct_of : (k : Kind) (x : List ℕ) (joint : Bool) → is_punct_neighbour (stood k x joint) ≡ is_punct k
punct_of (Doc inner block) x joint = refl
punct_of _ x joint = refl

joint_of : (k : Kind) (x : List ℕ) (joint : Bool) → (is_punct k ≡ false → joint ≡ false)
    → is_joint_neighbour (stood k x joint) ≡ joint
joint_of Punct x joint q = refl
joint_of (Doc inner block) x joint q = sym (q refl)
joint_of _ x joint q = sym (q refl)

-- None but punctuation is joint.
pub loose : (p : Part) (ps : List Part) → is_punct p.kind ≡ false → lexed.is_joint p ps ≡ false
loose p [] n = refl
loose p (q ∷ qs) n = ap (λ z. z && is_punct q.kind && is_nil q.gap && not (is_separator p.piece)
    && not (is_separator q.piece)) n

-- a joint part and the one after it
record Joins (p q : Part) : Type 0 where
  left : is_punct p.kind ≡ true
  right : is_punct q.kind ≡ true
  near : q.gap ≡ []
  left_keeps : not (is_separator p.piece) ≡ true
  right_keeps : not (is_separator q.piece) ≡ true

nil_is : (x : List ℕ) → is_nil x ≡ true → x ≡ []
nil_is [] h = refl
nil_is (c ∷ x) h = cc

joins : (p q : Part) (qs : List Part) → lexed.is_joint p (q ∷ qs) ≡ true → Joins p q
joins p q qs h =
    let a = and_parts _ (not (is_separator q.piece)) h in
    let b = and_parts _ (not (is_separator p.piece)) a.0 in
    let c = and_parts _ (is_nil q.gap) b.0 in
    let d = and_parts (is_punct p.kind) (is_punct q.kind) c.0 in
    record { left = d.0; right = d.1; near = nil_is q.gap c.1; left_keeps = b.1; right_keeps = a.1 }

-- a `/` before a `/` or a `*` is none, since they would begin a comment
no_comment : (x y rest : List ℕ) (place : Bool) → had Punct x (y ++ rest) place ≡ true
    → bytes_eq x (codes "/") && (bytes_eq y (codes "/") || bytes_eq y (codes "*")) ≡ false
unfolding had may_precede
no_comment x y rest place h =
    by (bytes_eq x (codes "/")) (bytes_eq y (codes "/")) (bytes_eq y (codes "*")) refl refl refl
  where
    may : not (begins (λ c. c == 47) x && begins (λ c. c == 47 || c == 42) (y ++ rest)) ≡ true
    may = (and_parts (has_form Punct x) _ h).1

    begun : (z : List ℕ) → x ≡ codes "/" → y ≡ z → begins (λ c. c == 47 || c == 42) (z ++ rest) ≡ true → ⊥
    begun z e f g =
        let P : List ℕ → List ℕ → Type 0 =
        λ v w. not (begins (λ c. c == 47) v && begins (λ c. c == 47 || c == 42) (w ++ rest)) ≡ true in
        both_ways (begins (λ c. c == 47 || c == 42) (z ++ rest))
        (not-true _ (subst (P (codes "/")) f (subst (λ v. P v y) e may))) g

    by : (a b c : Bool) → bytes_eq x (codes "/") ≡ a → bytes_eq y (codes "/") ≡ b → bytes_eq y (codes "*") ≡ c
        → a && (b || c) ≡ false
    by false b c e f g = refl
    by true true c e f g =
        absurd (begun (codes "/") ((bytes_eq-Decides x (codes "/")).0 e) ((bytes_eq-Decides y (codes "/")).0 f) refl)
    by true false true e f g =
        absurd (begun (codes "*") ((bytes_eq-Decides x (codes "/")).0 e) ((bytes_eq-Decides y (codes "*")).0 g) refl)
    by true false false e f g = refl

-- ---- what stands before a place

-- The last token may stand before these parts.
abbrev StandsBefore : Neighbour → List Part → Type 0
StandsBefore last [] = is_joint_neighbour last ≡ false
StandsBefore last (q ∷ qs) =
    ((joint : Bool) → is_joint_neighbour last ≡ true → may_join last (stood q.kind q.piece joint) ≡ true)
    × (is_sign (codes ".") q.kind q.piece ≡ true → is_mark (codes ".") last ≡ true
    → is_joint_neighbour last ≡ is_nil q.gap)

-- What two tokens tell of a place is what the text tells of it.
record Stands (before last : Neighbour) (b : Before) (ps : List Part) : Type 0 where
  place : is_index_place before last ≡ lexed.is_index_place b
  point : is_mark (codes ".") last ≡ is_point b
  next : StandsBefore last ps

-- Punctuation that isn't a `,` or `;` may be joint.
joinable : (k : Kind) (x rest : List ℕ) (joint place : Bool) → had k x rest place ≡ true → is_punct k ≡ true
    → not (is_separator x) ≡ true → is_joinable (stood k x joint) ≡ true
joinable k x rest joint place h p s =
    let m : (sign : List ℕ) → is_mark sign (stood k x joint) ≡ bytes_eq x sign =
    λ sign. mark_is k x rest sign joint place h ∙ ap (λ b. b && bytes_eq x sign) p in
    and_from (is_punct_neighbour (stood k x joint)) _ (punct_of k x joint ∙ p)
    (ap not (λ i. m (codes ",") i || m (codes ";") i) ∙ s)

joined : (p q : Part) (qs : List Part) (last : List ℕ) (b : Before) (left right : Bool) → Fit b (p ∷ q ∷ qs) last
    → lexed.is_joint p (q ∷ qs) ≡ true
    → may_join (stood p.kind p.piece left) (stood q.kind q.piece right) ≡ true
joined p q qs last b left right f h =
    let j = joins p q qs h in
    let behind = spell qs last in
    let place = lexed.is_index_place b in
    let next = lexed.is_index_place (step b p) in
    let near : had p.kind p.piece (q.piece ++ behind) place ≡ true =
    subst (λ g. had p.kind p.piece (g ++ (q.piece ++ behind)) place ≡ true) j.near f.1 in
    let l : (sign : List ℕ) → is_mark sign (stood p.kind p.piece left) ≡ bytes_eq p.piece sign =
    λ sign. mark_is p.kind p.piece (q.piece ++ behind) sign left place near
    ∙ ap (λ b. b && bytes_eq p.piece sign) j.left in
    let r : (sign : List ℕ) → is_mark sign (stood q.kind q.piece right) ≡ bytes_eq q.piece sign =
    λ sign. mark_is q.kind q.piece behind sign right next f.2.1 ∙ ap (λ b. b && bytes_eq q.piece sign) j.right in
    let apart = no_comment p.piece q.piece behind place
    (subst (λ k. had k p.piece (q.piece ++ behind) place ≡ true) (punct_is p.kind j.left) near) in
    and_from (is_joinable (stood p.kind p.piece left) && is_joinable (stood q.kind q.piece right)) _
    (and_from (is_joinable (stood p.kind p.piece left)) _
    (joinable p.kind p.piece (q.piece ++ behind) left place near j.left j.left_keeps)
    (joinable q.kind q.piece behind right next f.2.1 j.right j.right_keeps))
    (ap not ((λ i. l (codes "/") i && (r (codes "/") i || r (codes "*") i)) ∙ apart))

-- A point directly before a point is joint.
near_point : (p q : Part) (qs : List Part) → is_sign (codes ".") p.kind p.piece ≡ true
    → is_sign (codes ".") q.kind q.piece ≡ true → lexed.is_joint p (q ∷ qs) ≡ is_nil q.gap
near_point p q qs d e =
    let x = and_parts (is_punct p.kind) _ d in
    let y = and_parts (is_punct q.kind) _ e in
    let l : p.piece ≡ codes "." = (bytes_eq-Decides p.piece (codes ".")).0 x.1 in
    let r : q.piece ≡ codes "." = (bytes_eq-Decides q.piece (codes ".")).0 y.1 in
    (λ i. x.0 i && y.0 i && is_nil q.gap && not (is_separator (l i)) && not (is_separator (r i))) ∙ all (is_nil q.gap)
  where
    all : (g : Bool) → true && true && g && true && true ≡ g
    all true = refl
    all false = refl

stands_before : (p : Part) (ps : List Part) (last : List ℕ) (b : Before) → Fit b (p ∷ ps) last
    → StandsBefore (stood p.kind p.piece (lexed.is_joint p ps)) ps
stands_before p [] last b f = joint_of p.kind p.piece false (λ n. refl)
stands_before p (q ∷ qs) last b f =
    let joint = lexed.is_joint p (q ∷ qs) in
    let same = joint_of p.kind p.piece joint (loose p (q ∷ qs)) in
    let m = mark_is p.kind p.piece (spell (q ∷ qs) last) (codes ".") joint (lexed.is_index_place b) f.1 in (
      (λ right e. joined p q qs last b joint right f (sym same ∙ e)),
      (λ d e. same ∙ near_point p q qs (sym m ∙ e) d),
    )

place_step : (d a j b n : Bool) → a ≡ b → (d ≡ true → a ≡ true → j ≡ n)
    → d && not (a && j) ≡ lexed.is_index_place (cond d (cond (b && n) Points Point) Other)
place_step false a j b n e f = refl
place_step true true j true n e f = ap not (f refl refl) ∙ by n
  where
    by : (n : Bool) → not n ≡ lexed.is_index_place (cond n Points Point)
    by true = refl
    by false = refl
place_step true true j false n e f = cc
place_step true false j true n e f = cc
place_step true false j false n e f = refl

point_step : (d b n : Bool) → d ≡ is_point (cond d (cond (b && n) Points Point) Other)
point_step false b n = refl
point_step true true true = refl
point_step true true false = refl
point_step true false n = refl

-- after one more token
stands_behind : (before before_it : Neighbour) (b : Before) (p : Part) (ps : List Part) (last : List ℕ)
    → Stands before before_it b (p ∷ ps) → Fit b (p ∷ ps) last
    → Stands before_it (stood p.kind p.piece (lexed.is_joint p ps)) (step b p) ps
unfolding step
stands_behind before before_it b p ps last s f =
    let joint = lexed.is_joint p ps in
    let m = mark_is p.kind p.piece (spell ps last) (codes ".") joint (lexed.is_index_place b) f.1 in
    record {
      place = ap (λ z. z && not (is_joint_mark (codes ".") before_it)) m
          ∙ place_step (is_sign (codes ".") p.kind p.piece) (is_mark (codes ".") before_it)
          (is_joint_neighbour before_it) (is_point b) (is_nil p.gap) s.point s.next.1;
      point = m ∙ point_step (is_sign (codes ".") p.kind p.piece) (is_point b) (is_nil p.gap);
      next = stands_before p ps last b f;
    }

-- ---- all tokens

may_stand : (j m : Bool) → (j ≡ true → m ≡ true) → not j || m ≡ true
may_stand true m h = h refl
may_stand false m h = refl

parts_fit : (before last : Neighbour) (b : Before) (ps : List Part) (end : List ℕ) (at : ℕ) → Fit b ps end
    → scalars (spell ps end) ≡ true → Stands before last b ps
    → fits before last (map as_listed (tokens_from at ps)) ≡ true
parts_fit before last b [] end at f h s = refl
parts_fit before last b (p ∷ ps) end at f h s =
    let joint = lexed.is_joint p ps in
    let t = token_of p.kind p.piece joint in
    let behind = (scalars_parts p.gap (p.piece ++ spell ps end) h).1 in
    let more = scalars_parts p.piece (spell ps end) behind in
    let had_there : is_had (is_index_place before last) t ≡ true = ap (λ i. is_had i t) s.place
    ∙ had_token p.kind p.piece (spell ps end) joint (lexed.is_index_place b) more.0 f.1 in
    let may = may_stand (is_joint_neighbour last) (may_join last (Single t)) (s.next.0 joint) in
    and_from ((not (is_joint_neighbour last) || may_join last (Single t)) && is_had (is_index_place before last) t) _
    (and_from (not (is_joint_neighbour last) || may_join last (Single t)) _ may had_there)
    (parts_fit last (Single t) (step b p) ps end ((at + size p.gap) + size p.piece) f.2 more.1
    (stands_behind before last b p ps end s f))

parts_end : (last : Neighbour) (b : Before) (ps : List Part) (end : List ℕ) (at : ℕ) → Fit b ps end
    → StandsBefore last ps
    → ends_apart last (map as_listed (tokens_from at ps)) ≡ true
parts_end last b [] end at f s = ap not s
parts_end last b (p ∷ ps) end at f s =
    parts_end (stood p.kind p.piece (lexed.is_joint p ps)) (step b p) ps end
    ((at + size p.gap) + size p.piece) f.2 (stands_before p ps end b f)

nothing_before : (ps : List Part) → StandsBefore Nothing ps
nothing_before [] = refl
nothing_before (q ∷ qs) = ((λ joint e. cc), (λ d e. cc))

at_front : (ps : List Part) → Stands Nothing Nothing Other ps
at_front ps = record { place = refl; point = refl; next = nothing_before ps }

parts_loose : (ps : List Part) (at : ℕ) → list_all is_loose (tokens_from at ps) ≡ true
parts_loose [] at = refl
parts_loose (p ∷ ps) at =
    and_from (is_punct p.kind || not (lexed.is_joint p ps)) _
    (one (is_punct p.kind) (lexed.is_joint p ps) (loose p ps)) (parts_loose ps ((at + size p.gap) + size p.piece))
  where
    one : (a j : Bool) → (a ≡ false → j ≡ false) → a || not j ≡ true
    one true j h = refl
    one false j h = ap not (h refl)

-- The tokens of a text fit, and the last isn't joint.
pub record Row (ts : List Token) : Type 0 where
  pub fit : fits Nothing Nothing (map as_listed ts) ≡ true
  pub apart : ends_apart Nothing (map as_listed ts) ≡ true
  pub loose : list_all is_loose ts ≡ true

pub text_row : (bytes : List ℕ) (start : ℕ) (tokens : List Token) → IsUtf8 (drop start bytes) → Lexes bytes start tokens
    → Row tokens
text_row bytes start tokens u l =
    let fine : scalars (spell l.0 l.1) ≡ true = sym (ap scalars l.2.whole) ∙ scalars-chars (drop start bytes) u in
    record {
      fit = ap (λ ts. fits Nothing Nothing (map as_listed ts)) l.3
          ∙ parts_fit Nothing Nothing Other l.0 l.1 start l.2.fit fine (at_front l.0);
      apart = ap (λ ts. ends_apart Nothing (map as_listed ts)) l.3
          ∙ parts_end Nothing Other l.0 l.1 start l.2.fit (nothing_before l.0);
      loose = ap (list_all is_loose) l.3 ∙ parts_loose l.0 start;
    }

-- ---- a part of the tokens

-- What two lists tell, one after the other.
pub record TwoRows (before last : Neighbour) (us vs : List Listed) : Type 0 where
  pub front : fits before last us ≡ true
  pub before_back : Neighbour
  pub last_front : Neighbour
  pub back : fits before_back last_front vs ≡ true

pub two_rows : (before last : Neighbour) (us vs : List Listed) → fits before last (us ++ vs) ≡ true
    → TwoRows before last us vs
two_rows before last [] vs h = record { front = refl; before_back = before; last_front = last; back = h }
two_rows before last (u ∷ us) vs h =
    let fit = (not (is_joint_neighbour last) || may_join last (Single u)) && is_had (is_index_place before last) u in
    let a = and_parts fit (fits last (Single u) (us ++ vs)) h in
    let more = two_rows last (Single u) us vs a.1 in
    record {
      front = and_from fit _ a.0 more.front;
      before_back = more.before_back;
      last_front = more.last_front;
      back = more.back;
    }

-- Tokens that stand in a row in what a text lexes to.
pub in_text : (bytes : List ℕ) (start : ℕ) (before tokens behind : List Token) → IsUtf8 (drop start bytes)
    → Lexes bytes start (before ++ (tokens ++ behind)) → InText tokens
in_text bytes start before tokens behind u l =
    let row = text_row bytes start (before ++ (tokens ++ behind)) u l in
    let a = two_rows Nothing Nothing (map as_listed before) (map as_listed (tokens ++ behind))
    (ap (fits Nothing Nothing) (sym (map-append as_listed before (tokens ++ behind))) ∙ row.fit) in
    let b = two_rows a.before_back a.last_front (map as_listed tokens) (map as_listed behind)
    (ap (fits a.before_back a.last_front) (sym (map-append as_listed tokens behind)) ∙ a.back) in
    let c = and_parts (list_all is_loose before) (list_all is_loose (tokens ++ behind))
    (sym (list_all-append is_loose before (tokens ++ behind)) ∙ row.loose) in
    let d = and_parts (list_all is_loose tokens) (list_all is_loose behind)
    (sym (list_all-append is_loose tokens behind) ∙ c.1) in
    record { before = a.before_back; last = a.last_front; fit = b.front; loose = d.0 }
