-- A token list passes where neighbour by neighbour it is lexed as it stands.
use Rattle.std.proofs.Common.{◌≡◌, ℕ, inl, inr, List, [], ◌∷◌, ◌++◌, Bool, true, false, cond, not, ◌&&◌, ◌||◌, sym, refl, ap, ◌∙◌, subst, append-nil, codes, Option, Some, None}
use Rattle.std.specs.Prelude.{◌==◌}
use Rattle.std.specs.Str.{chars, encode_utf8_all, bytes_eq}
use Rattle.std.proofs.lemmas.Bool.{and_parts, and_from, or_cases, not-true}
use Rattle.lay_piece.specs.Chars.{begins, is_nil}
use Rattle.lay_piece.specs.Number.{is_bare_int, fronts_index}
use Rattle.lay_piece.specs.Forms.{is_number_kind, opening, closing}
use Rattle.lay_token.specs.Lexes.{is_punct, text_of_piece}
use Rattle.lay_piece.specs.declared.kind.Delim.{Delim}
use Rattle.lay_piece.specs.declared.kind.Delim.TheVariants.{Paren, Bracket, Brace}
use Rattle.lay_piece.specs.declared.kind.Kind.{Kind}
use Rattle.lay_piece.specs.declared.kind.Kind.TheVariants.{RawIdent, Int, Float, Punct, Opener, Closer, Doc}
use Rattle.lay_token.proofs.Deciding.{bytes_same}
use Rattle.lay_form.specs.Form.{Bit, Form, Done, Piece, Part, opener, closer}
use Rattle.lay_form.specs.Layout.{token_ends_in_point, ends_behind_point}
use Rattle.lay_form.specs.Notation.{I0, C4, piece}
use Rattle.lay_node.specs.declared.token.Listed.{Listed}
use Rattle.lay_node.specs.declared.token.Listed.TheVariants as listed
use Rattle.lay_node.specs.tokens.Listing.{is_doc_kind, kind_of, text_of, is_joint, listed_form, Grouping, NoMore, OneToken, OneGroup, in_groups}
use Rattle.lay_node.specs.tokens.Lists.{opened_by, closed_by, enclosed_form, form_of_grouping, token_list, ended_by, ends_in_line}
use Rattle.lay_node.specs.tokens.Pairs.{Neighbour, Nothing, Single, Enclosed, Seen, Separation, NoBreak, SoftBreak, HardBreak, between, leads, is_mark, is_joint_mark, is_joint_neighbour, is_punct_neighbour, is_nothing, is_line_doc, is_index_place, seen_token, seen_all, behind_group, at_start}
use Rattle.lay_reparse.proofs.borders.Need.{Text, begins_dot, Word, RawWord, Life, Literal, Number, IntBare, FloatWord, Solidus, LineDoc, Loose, all, keeps, suits, asks, int_asks}
use Rattle.lay_reparse.proofs.borders.Border.{Other, Point, Points, is_dot, Border, Spot, Unsure, Clear, At, extras, and_false, apart_spot, spot_behind, behind_gap, beyond}
use Rattle.lay_reparse.proofs.forms.Opened.{turned, bits_open, even, is_even}
use Rattle.lay_reparse.proofs.texts.Laid.{as_block, laid, raw, is_laid}
use Rattle.lay_reparse.proofs.borders.Move.{under, among, spot_under}
use Rattle.lay_reparse.proofs.forms.Passes.{Passes, plain, at_index, fits_token, asks_token, mark_asks, token_passes, behind_token}
use Rattle.lay_reparse.proofs.forms.Rules.{tables, under-refl}
use Rattle.lay_reparse.proofs.tokens.Neighbours.{laid_kind, laid_text, is_named, own, own_punct, own_right, left_needs, left_point, mark_ok, core, gap_core, line_core, mark_punct, joint_no_doc, line_first, first_of}
use Rattle.lay_reparse.proofs.tokens.Table.{Way, AtStart, BehindLine, ByDoc, BehindJoint, ByTokens, way, Glue, BySeparator, ByRow, glue_of}

abbrev spot_by : Bool → Bool → Spot
spot_by a j = cond a (cond j (At Points) (At Point)) (At Other)

abbrev border_of : Seen → Border
border_of s = record {
  needs = left_needs s.last s.place;
  spot =
      spot_by (is_mark (codes ".") s.last) (is_joint_mark (codes ".") s.before);
}

abbrev pub tok_ok : Bool → Listed → Bool
tok_ok p u = fits_token (cond p (At Point) (At Other)) (laid_kind u) (laid_text u)
    && (bytes_eq (encode_utf8_all (text_of_piece (laid_kind u) (laid_text u))) (text_of u)
    && (not (is_nil (laid_text u))
    && ((not (is_joint u) || (is_punct (laid_kind u) && keeps (laid_text u))) && is_laid (kind_of u) (text_of u))))

fits_spot : (a j : Bool) (k : Kind) (x : Text)
    → fits_token (spot_by a j) k x ≡ fits_token (cond (a && not j) (At Point) (At Other)) k x
fits_spot true true k x = refl
fits_spot true false k x = refl
fits_spot false j k x = refl

fits_apart : (a j : Bool) (k : Kind) (x : Text)
    → fits_token (apart_spot (spot_by a j)) k x ≡ fits_token (cond (a && not j) (At Point) (At Other)) k x
fits_apart true true k x = refl
fits_apart true false k x = refl
fits_apart false j k x = refl

index_spot : (a j : Bool) → at_index (spot_by a j) ≡ a && not j
index_spot true true = refl
index_spot true false = refl
index_spot false j = refl

index_apart : (a j : Bool) → at_index (apart_spot (spot_by a j)) ≡ a && not j
index_apart true true = refl
index_apart true false = refl
index_apart false j = refl

dot_same : (u : Listed) → own (Single u) ≡ true → is_dot (laid_kind u) (laid_text u) ≡ is_mark (codes ".") (Single u)
dot_same u w = at (kind_of u) refl
  where
    at : (k : Kind) → kind_of u ≡ k
        → is_dot (laid k (text_of u)) (raw k (text_of u)) ≡ is_punct k && bytes_eq (text_of u) (46 ∷ [])
    at RawIdent e = refl
    at (Doc inner block) e = refl
    at Punct e = ap (λ z. bytes_eq z (46 ∷ [])) (own_punct u w (ap is_punct e))
    at _ e = refl

glued_spot : (a j l q : Bool) (k : Kind) (x : Text) → is_dot k x ≡ q → (q ≡ true → a ≡ true → l ≡ true)
    → spot_behind (spot_by a j) k x ≡ spot_by q (a && l)
glued_spot true true true true k x e h = ap (λ z. At (cond z (cond true Points Point) Other)) e
glued_spot true false true true k x e h = ap (λ z. At (cond z (cond true Points Point) Other)) e
glued_spot true j false true k x e h = let f : false ≡ true = h refl refl in cc
glued_spot true true l false k x e h = ap (λ z. At (cond z (cond true Points Point) Other)) e
glued_spot true false l false k x e h = ap (λ z. At (cond z (cond true Points Point) Other)) e
glued_spot false j l true k x e h = ap (λ z. At (cond z (cond false Points Point) Other)) e
glued_spot false j l false k x e h = ap (λ z. At (cond z (cond false Points Point) Other)) e

apart_behind : (a j l q : Bool) (k : Kind) (x : Text) → is_dot k x ≡ q → a && l ≡ false
    → spot_behind (apart_spot (spot_by a j)) k x ≡ spot_by q (a && l)
apart_behind true true l true k x e h = ap (λ z. At (cond z (cond false Points Point) Other)) e
    ∙ ap (λ z. spot_by true z) (sym h)
apart_behind true false l true k x e h = ap (λ z. At (cond z (cond false Points Point) Other)) e
    ∙ ap (λ z. spot_by true z) (sym h)
apart_behind true true l false k x e h = ap (λ z. At (cond z (cond false Points Point) Other)) e
apart_behind true false l false k x e h = ap (λ z. At (cond z (cond false Points Point) Other)) e
apart_behind false j l true k x e h = ap (λ z. At (cond z (cond false Points Point) Other)) e
apart_behind false j l false k x e h = ap (λ z. At (cond z (cond false Points Point) Other)) e

under-eq : (b c : Border) → b.needs ≡ c.needs → b.spot ≡ c.spot → under b c ≡ true
under-eq b c e f =
    let q = and_parts (all (among b.needs) b.needs) _ (under-refl b) in
    and_from (all (among c.needs) b.needs) _ (subst (λ z. all (among z) b.needs ≡ true) e q.0)
    (subst (λ z. spot_under b.spot z ≡ true) f q.1)

-- two points in a row are glued only where the first is joint
abbrev first_char : Text → ℕ
first_char [] = 0
first_char (c ∷ cs) = c

two_marks : (c d : ℕ) (r : Neighbour) → is_mark (c ∷ []) r ≡ true → is_mark (d ∷ []) r ≡ true → c ≡ d
two_marks c d Nothing h g = cc
two_marks c d (Enclosed e) h g = cc
two_marks c d (Single u) h g =
    ap first_char (sym (bytes_same (text_of u) (c ∷ []) (and_parts (is_punct (kind_of u)) _ h).1)
    ∙ bytes_same (text_of u) (d ∷ []) (and_parts (is_punct (kind_of u)) _ g).1)

no_mark : (c : ℕ) (l : Neighbour) → is_nothing l ≡ true → is_mark (c ∷ []) l ≡ false
no_mark c Nothing h = refl
no_mark c (Single u) h = cc
no_mark c (Enclosed d) h = cc

dots_joint : (s : Seen) (r : Neighbour) → is_mark (codes ".") r ≡ true → is_mark (codes ".") s.last ≡ true
    → Way s r NoBreak → is_joint_neighbour s.last ≡ true
dots_joint s r q a (AtStart h e) = let z : true ≡ false = sym a ∙ no_mark 46 s.last h in cc
dots_joint s r q a (BehindLine h e) = cc
dots_joint s r q a (ByDoc n h e) = cc
dots_joint s r q a (BehindJoint h e) = h
dots_joint s r q a (ByTokens k e) = by (glue_of s r e)
  where
    by : Glue s r → is_joint_neighbour s.last ≡ true
    by (BySeparator h) = elim (or_cases (is_mark (codes ",") r) (is_mark (codes ";") r) h) [
      | inl e ↦ let z : true ≡ false = ap (λ n. n == 44) (two_marks 44 46 r e q) in cc
      | inr e ↦ let z : true ≡ false = ap (λ n. n == 59) (two_marks 59 46 r e q) in cc
    ]
    by (ByRow n m row) =
        let z : true ≡ false =
        sym (and_from (is_punct_neighbour s.last) _ (mark_punct 46 s.last a) (mark_punct 46 r q)) ∙ n in cc

-- one token after a border
token_at : (b : Border) (v : Bool) (u : Listed) (p : Bool) → tok_ok p u ≡ true
    → fits_token b.spot (laid_kind u) (laid_text u)
    ≡ fits_token (cond p (At Point) (At Other)) (laid_kind u) (laid_text u)
    → all (λ n. suits n (laid_kind u) (laid_text u)) b.needs ≡ true
    → begins_dot (laid_text u) && v ≡ false
    → token_passes b v (laid_kind u) (laid_text u) (is_joint u) (text_of u) && is_laid (kind_of u) (text_of u) ≡ true
token_at b v u p h f s d =
    let k = laid_kind u in
    let x = laid_text u in
    let t : Bool = bytes_eq (encode_utf8_all (text_of_piece k x)) (text_of u) in
    let h1 = and_parts (fits_token (cond p (At Point) (At Other)) k x) _ h in
    let h2 = and_parts t _ h1.1 in
    let h3 = and_parts (not (is_nil x)) _ h2.1 in
    let h4 = and_parts (not (is_joint u) || (is_punct k && keeps x)) _ h3.1 in
    and_from (token_passes b v k x (is_joint u) (text_of u)) _
    (and_from (fits_token b.spot k x) _ (f ∙ h1.0) (and_from t _ h2.0 (and_from (not (is_nil x)) _ h3.0
    (and_from (not (begins_dot x && v)) _ (ap not d)
    (and_from (not (is_joint u) || (is_punct k && keeps x)) _ h4.0 s)))))
    h4.1

needs_at : (b : Border) (u : Listed) (p : Bool) → at_index b.spot ≡ p → extras (laid_text u) b.needs ≡ []
    → (behind_token b (laid_kind u) (laid_text u) (is_joint u)).needs ≡ left_needs (Single u) p
needs_at b u p e x =
    let k = laid_kind u in
    let t = laid_text u in
    (λ i. asks_token b.spot k t ++ (mark_asks k t (is_joint u) ++ x i))
    ∙ (λ i. asks_token b.spot k t ++ append-nil (mark_asks k t (is_joint u)) i)
    ∙ ap (λ q. cond (is_number_kind k && (q && fronts_index t [])) (Number ∷ []) (asks k t)
    ++ mark_asks k t (is_joint u)) e

-- a token of a list, and what follows it
listed_passes : (u : Listed) (o : Option (List Delim)) (v : Bool) (f : Form) (b c : Border) → is_named u ≡ true
    → token_passes b v (laid_kind u) (laid_text u) (is_joint u) (text_of u)
    && is_laid (kind_of u) (text_of u) ≡ true
    → Passes (turned (kind_of u) o) (token_ends_in_point (kind_of u) (text_of u)) f
    (behind_token b (laid_kind u) (laid_text u) (is_joint u)) c
    → Passes o v (listed_form u f) b c
listed_passes (listed.Token k t joint) o v f b c n h p = (not-true (is_doc_kind k) n, h, p)
listed_passes (listed.Doc inner t) None v f b c n h p = (h, p)
listed_passes (listed.Doc inner t) (Some ds) v f b c n h p = (h, p)

token_then : (z : Border) (s : Seen) (u : Listed) (r : Grouping) (b : Border) (v : Bool) → is_named u ≡ true
    → token_passes b v (laid_kind u) (laid_text u) (is_joint u) (text_of u)
    && is_laid (kind_of u) (text_of u) ≡ true
    → at_index b.spot ≡ is_index_place s.before s.last → extras (laid_text u) b.needs ≡ []
    → spot_behind b.spot (laid_kind u) (laid_text u)
    ≡ (border_of (seen_token s u)).spot
    → turned (kind_of u) even ≡ even
    → Passes even (token_ends_in_point (kind_of u) (text_of u)) (form_of_grouping (seen_token s u) r)
    (border_of (seen_token s u)) z
    → Passes even v (listed_form u (Part (form_of_grouping (seen_token s u) r) Done)) b z
token_then z s u r b v n h i x p o k =
    listed_passes u even v (Part (form_of_grouping (seen_token s u) r) Done) b z n h (
      border_of (seen_token s u),
      z,
      under-eq _ (border_of (seen_token s u)) (needs_at b u (is_index_place s.before s.last) i x) p,
      k,
      and_from (is_even (turned (kind_of u) even)) _ (ap is_even o) (under-refl z),
    )

-- after a break no joint point stands before
gap_joint : (s : Seen) (r : Neighbour) → mark_ok s.last r ≡ true → Way s r SoftBreak
    → is_joint_neighbour s.last ≡ false
gap_joint s r m (AtStart h e) = cc
gap_joint s r m (BehindLine h e) = cc
gap_joint s r m (ByDoc n h e) = joint_no_doc s.last r m h
gap_joint s r m (BehindJoint h e) = cc
gap_joint s r m (ByTokens k e) = k.loose

gap_dot : (s : Seen) (r : Neighbour) → mark_ok s.last r ≡ true → Way s r SoftBreak
    → is_mark (codes ".") s.last && is_joint_neighbour s.last ≡ false
gap_dot s r m g = ap (λ z. is_mark (codes ".") s.last && z) (gap_joint s r m g) ∙ and_false (is_mark (codes ".") s.last)

doc_dot : (l : Neighbour) → is_line_doc l ≡ true → is_mark (codes ".") l ≡ false
doc_dot Nothing h = refl
doc_dot (Enclosed d) h = refl
doc_dot (Single (listed.Token k t joint)) h = cc
doc_dot (Single (listed.Doc inner t)) h = refl

line_dot : (s : Seen) (r : Neighbour) → Way s r HardBreak
    → is_mark (codes ".") s.last && is_joint_neighbour s.last ≡ false
line_dot s r g = ap (λ z. z && is_joint_neighbour s.last) (doc_dot s.last (line_first s r g))

pub named : (s : Seen) (u : Listed) → mark_ok s.last (Single u) ≡ true → is_named u ≡ true
named s u m = (and_parts (is_named u) _ (own_right s.last (Single u) m)).0

-- each way of a break before a token
sep_token : (z : Border) (s : Seen) (u : Listed) (r : Grouping) → mark_ok s.last (Single u) ≡ true
    → (s.opens ≡ true → is_mark (codes "<") s.last ≡ true) → (s.closes ≡ true → is_mark (codes ">") s.last ≡ true)
    → tok_ok (is_index_place s.before s.last) u ≡ true → turned (kind_of u) even ≡ even
    → Passes even (token_ends_in_point (kind_of u) (text_of u)) (form_of_grouping (seen_token s u) r)
    (border_of (seen_token s u)) z
    → (t : Separation) → between s (Single u) ≡ t
    → Passes even (left_point s.last) (leads t (listed_form u (Part (form_of_grouping (seen_token s u) r) Done)))
    (border_of s) z
sep_token z s u r m o c h e k NoBreak b =
    let g = way s (Single u) NoBreak b in
    let f = core s (Single u) m o c g in
    let a = is_mark (codes ".") s.last in
    let j = is_joint_mark (codes ".") s.before in
    token_then z s u r (border_of s) (left_point s.last) (named s u m)
    (token_at (border_of s) (left_point s.last) u (is_index_place s.before s.last) h
    (fits_spot a j (laid_kind u) (laid_text u)) f.0 f.2)
    (index_spot a j) f.1
    (glued_spot a j (is_joint_neighbour s.last) (is_mark (codes ".") (Single u)) _ _
    (dot_same u (own_right s.last (Single u) m))
    (λ q z. dots_joint s (Single u) q z g)) e k
sep_token z s u r m o c h e k SoftBreak b =
    let g = way s (Single u) SoftBreak b in
    let a = is_mark (codes ".") s.last in
    let j = is_joint_mark (codes ".") s.before in (
      gap_core s (Single u) m g,
      token_then z s u r (behind_gap (border_of s)) false (named s u m)
          (token_at (behind_gap (border_of s)) false u (is_index_place s.before s.last) h
          (fits_apart a j (laid_kind u) (laid_text u)) refl (and_false (begins_dot (laid_text u))))
          (index_apart a j) refl
          (apart_behind a j (is_joint_neighbour s.last) (is_mark (codes ".") (Single u)) _ _
          (dot_same u (own_right s.last (Single u) m)) (gap_dot s (Single u) m g)) e k,
    )
sep_token z s u r m o c h e k HardBreak b =
    let g = way s (Single u) HardBreak b in
    let a = is_mark (codes ".") s.last in
    let j = is_joint_mark (codes ".") s.before in (
      line_core s (Single u) g,
      token_then z s u r (behind_gap (border_of s)) false (named s u m)
          (token_at (behind_gap (border_of s)) false u (is_index_place s.before s.last) h
          (fits_apart a j (laid_kind u) (laid_text u)) refl (and_false (begins_dot (laid_text u))))
          (index_apart a j) refl
          (apart_behind a j (is_joint_neighbour s.last) (is_mark (codes ".") (Single u)) _ _
          (dot_same u (own_right s.last (Single u) m)) (line_dot s (Single u) g)) e k,
    )

-- ---- groups

abbrev nine : Border
nine = record {
  needs = Word ∷ RawWord ∷ Life ∷ Literal ∷ Number ∷ IntBare ∷ FloatWord ∷ Solidus ∷ Loose ∷ [];
  spot =
      Unsure;
}

abbrev ten : Border
ten = record { needs = LineDoc ∷ []; spot = Unsure }

abbrev pub inner_end : Bool → Border
inner_end true = ten
inner_end false = nine

closing_passes : (line : Bool) (d : Delim) (w : Bool)
    → Passes (Some (d ∷ [])) w (closed_by line d (piece (closer d ∷ []))) (inner_end line) plain
unfolding tables
closing_passes true Paren w = (refl, (refl, refl))
closing_passes true Bracket w = (refl, (refl, refl))
closing_passes true Brace w = (refl, (refl, refl))
closing_passes false Paren w = (refl, (refl, refl))
closing_passes false Bracket w = (refl, (refl, refl))
closing_passes false Brace w = (refl, (refl, refl))

opening_passes : (line : Bool) (d : Delim) (X : Form) → Passes even false X plain (inner_end line)
    → Passes (Some (d ∷ [])) false (opened_by d (I0 X (closed_by line d (piece (closer d ∷ []))))) plain plain
opening_passes line Paren X x =
    (refl, (plain, inner_end line, refl, x, closing_passes line Paren (ends_behind_point false X)))
opening_passes line Bracket X x =
    (refl, (plain, inner_end line, refl, x, closing_passes line Bracket (ends_behind_point false X)))
opening_passes line Brace X x =
    (refl, (plain, inner_end line, refl, x, closing_passes line Brace (ends_behind_point false X)))

-- The opener may follow directly, and the border after it asks for nothing.
abbrev pub opens_at : Border → Delim → Type 0
opens_at b d = (all (λ n. suits n (Opener d) (opening d ∷ [])) b.needs ≡ true) × (extras (opening d ∷ []) b.needs ≡ [])

open_spot : (o : Spot) (d : Delim) (x : Text) → spot_behind o (Opener d) x ≡ At Other
open_spot Unsure d x = refl
open_spot Clear d x = refl
open_spot (At b) d x = refl

opened_border : (b : Border) (d : Delim) → extras (opening d ∷ []) b.needs ≡ [] → plain ≡ beyond b (opener d ∷ [])
opened_border b d x = (λ i. record { needs = sym x i; spot = sym (open_spot b.spot d (opening d ∷ [])) i })

opener_passes : (b : Border) (v : Bool) (d : Delim) (f : Form) → opens_at b d
    → Passes (Some (d ∷ [])) false f plain plain → Passes even v (Piece (opener d ∷ []) f) b plain
unfolding tables
opener_passes b v Paren f h k = (
  and_from (all (λ n. suits n (Opener Paren) (40 ∷ [])) b.needs) true h.0 refl,
  subst (λ z. Passes (Some (Paren ∷ [])) false f z plain) (opened_border b Paren h.1) k,
)
opener_passes b v Bracket f h k = (
  and_from (all (λ n. suits n (Opener Bracket) (91 ∷ [])) b.needs) true h.0 refl,
  subst (λ z. Passes (Some (Bracket ∷ [])) false f z plain) (opened_border b Bracket h.1) k,
)
opener_passes b v Brace f h k = (
  and_from (all (λ n. suits n (Opener Brace) (123 ∷ [])) b.needs) true h.0 refl,
  subst (λ z. Passes (Some (Brace ∷ [])) false f z plain) (opened_border b Brace h.1) k,
)

abbrev both_bits : Delim → List Bit
both_bits d = opener d ∷ closer d ∷ []

emptied : (b : Border) (d : Delim) → extras (opening d ∷ []) b.needs ≡ [] → plain ≡ beyond b (both_bits d)
emptied b d x = (λ i. record {
  needs = sym (ap (extras (closing d ∷ [])) x) i;
  spot =
      sym (ap (λ o. spot_behind o (Closer d) (closing d ∷ [])) (open_spot b.spot d (opening d ∷ []))) i;
})

both_open : (o : Option (List Delim)) (d : Delim) → o ≡ bits_open o (both_bits d)
both_open None d = refl
both_open (Some ds) Paren = refl
both_open (Some ds) Bracket = refl
both_open (Some ds) Brace = refl

closer_suits : (b : Border) (d : Delim) → extras (opening d ∷ []) b.needs ≡ []
    → all (λ n. suits n (Closer d) (closing d ∷ [])) (extras (opening d ∷ []) b.needs) && true ≡ true
closer_suits b d x = subst (λ ns. all (λ n. suits n (Closer d) (closing d ∷ [])) ns && true ≡ true) (sym x) refl

behind_both : (o : Option (List Delim)) (b : Border) (d : Delim) (f : Form) (c : Border)
    → extras (opening d ∷ []) b.needs ≡ [] → Passes o false f plain c
    → Passes (bits_open o (both_bits d)) false f (beyond b (both_bits d)) c
behind_both o b d f c x k = subst (λ q. Passes q false f (beyond b (both_bits d)) c) (both_open o d)
    (subst (λ z. Passes o false f z c) (emptied b d x) k)

empty_passes : (o : Option (List Delim)) (b : Border) (v : Bool) (d : Delim) → opens_at b d
    → (c : Border) (f : Form) → Passes o false f plain c → Passes o v (Piece (both_bits d) f) b c
unfolding tables
empty_passes o b v Paren h c f k = (
  and_from (all (λ n. suits n (Opener Paren) (40 ∷ [])) b.needs) _ h.0 (closer_suits b Paren h.1),
  behind_both o b Paren f c h.1 k,
)
empty_passes o b v Bracket h c f k = (
  and_from (all (λ n. suits n (Opener Bracket) (91 ∷ [])) b.needs) _ h.0 (closer_suits b Bracket h.1),
  behind_both o b Bracket f c h.1 k,
)
empty_passes o b v Brace h c f k = (
  and_from (all (λ n. suits n (Opener Brace) (123 ∷ [])) b.needs) _ h.0 (closer_suits b Brace h.1),
  behind_both o b Brace f c h.1 k,
)

inner_point : (line : Bool) (d : Delim) (v : Bool) (X : Form)
    → false
    ≡ ends_behind_point v (Piece (opener d ∷ []) (opened_by d (I0 X (closed_by line d (piece (closer d ∷ []))))))
inner_point true Paren v X = refl
inner_point true Bracket v X = refl
inner_point true Brace v X = refl
inner_point false Paren v X = refl
inner_point false Bracket v X = refl
inner_point false Brace v X = refl

full_passes : (o : Option (List Delim)) (b : Border) (v : Bool) (d : Delim) (line : Bool) (X f : Form) (z : Border)
    → opens_at b d → Passes even false X plain (inner_end line) → Passes o false f plain z
    → Passes o v (C4 (Piece (opener d ∷ []) (opened_by d (I0 X (closed_by line d (piece (closer d ∷ [])))))) f) b z
full_passes o b v d line X f z h p k = (
  b,
  plain,
  under-refl b,
  opener_passes b v d (opened_by d (I0 X (closed_by line d (piece (closer d ∷ []))))) h (opening_passes line d X p),
  subst (λ w. Passes o w f plain z) (inner_point line d v X) k,
)

-- a group after a border, and what follows it
pub enclosed_passes : (o : Option (List Delim)) (b : Border) (v : Bool) (d : Delim) (i : Grouping) (line : Bool)
    (X f : Form) (z : Border) → opens_at b d → Passes even false X plain (inner_end line) → Passes o false f plain z
    → Passes o v (enclosed_form d i line X f) b z
enclosed_passes o b v d NoMore line X f z h p k = empty_passes o b v d h z f k
enclosed_passes o b v d (OneToken u r) line X f z h p k = full_passes o b v d line X f z h p k
enclosed_passes o b v d (OneGroup e i r) line X f z h p k = full_passes o b v d line X f z h p k

sep_group : (s : Seen) (d : Delim) (i : Grouping) (line : Bool) (X f : Form) (z : Border)
    → mark_ok s.last (Enclosed d) ≡ true
    → (s.opens ≡ true → is_mark (codes "<") s.last ≡ true) → (s.closes ≡ true → is_mark (codes ">") s.last ≡ true)
    → Passes even false X plain (inner_end line) → Passes even false f plain z → (t : Separation)
    → between s (Enclosed d) ≡ t
    → Passes even (left_point s.last) (leads t (enclosed_form d i line X f)) (border_of s) z
sep_group s d i line X f z m op cl p k NoBreak b =
    let q = core s (Enclosed d) m op cl (way s (Enclosed d) NoBreak b) in
    enclosed_passes even (border_of s) (left_point s.last) d i line X f z (q.0, q.1) p k
sep_group s d i line X f z m op cl p k SoftBreak b = (
  gap_core s (Enclosed d) m (way s (Enclosed d) SoftBreak b),
  enclosed_passes even (behind_gap (border_of s)) false d i line X f z (refl, refl) p k,
)
sep_group s d i line X f z m op cl p k HardBreak b = (
  line_core s (Enclosed d) (way s (Enclosed d) HardBreak b),
  enclosed_passes even (behind_gap (border_of s)) false d i line X f z (refl, refl) p k,
)

-- ---- lists

-- What is lexed as it stands, neighbour by neighbour.
abbrev pub LexOk : Seen → Grouping → Type 0
LexOk s NoMore = is_joint_neighbour s.last ≡ false
LexOk s (OneToken u r) = (mark_ok s.last (Single u) ≡ true) × (tok_ok (is_index_place s.before s.last) u ≡ true)
    × (turned (kind_of u) even ≡ even) × LexOk (seen_token s u) r
LexOk s (OneGroup d i r) = (mark_ok s.last (Enclosed d) ≡ true) × LexOk (at_start s.count) i
    × LexOk (behind_group d (seen_all (at_start s.count) i).count) r

end_joint : (i : Grouping) (s : Seen) → LexOk s i → is_joint_neighbour (seen_all s i).last ≡ false
end_joint NoMore s h = h
end_joint (OneToken u r) s h = end_joint r (seen_token s u) h.3
end_joint (OneGroup d i r) s h = end_joint r (behind_group d (seen_all (at_start s.count) i).count) h.2

end_own : (i : Grouping) (s : Seen) → own s.last ≡ true → LexOk s i → own (seen_all s i).last ≡ true
end_own NoMore s w h = w
end_own (OneToken u r) s w h = end_own r (seen_token s u) (own_right s.last (Single u) h.0) h.3
end_own (OneGroup d i r) s w h = end_own r (behind_group d (seen_all (at_start s.count) i).count) refl h.2

-- what a list's last one asks
last_asks : (k : Kind) (t : Text) (p : Bool) → is_doc_kind k ≡ false
    → all (among nine.needs) (cond (is_number_kind (laid k t) && p) (Number ∷ []) (asks (laid k t) (raw k t))
    ++ mark_asks (laid k t) (raw k t) false) ≡ true
last_asks (Doc inner block) t p h = cc
last_asks Punct t p h = at (begins (λ c. c == 47) (chars t)) (keeps (chars t))
  where
    at : (a b : Bool) → all (among nine.needs) (cond a (Solidus ∷ []) [] ++ cond b (Loose ∷ []) []) ≡ true
    at true true = refl
    at true false = refl
    at false true = refl
    at false false = refl
last_asks Int t true h = refl
last_asks Int t false h = int_asks (among nine.needs) (is_bare_int (chars t)) refl refl
last_asks Float t true h = refl
last_asks Float t false h = refl
last_asks _ t p h = refl

doc_asks : (b line : Bool) → not b ≡ line → all (among (inner_end line).needs) (cond b [] (LineDoc ∷ []) ++ []) ≡ true
doc_asks true line h = refl
doc_asks false true h = refl
doc_asks false false h = cc

end_under : (l : Neighbour) (p : Bool) (o : Spot) (line : Bool) → own l ≡ true → is_line_doc l ≡ line
    → is_joint_neighbour l ≡ false → under (record { needs = left_needs l p; spot = o }) (inner_end line) ≡ true
end_under Nothing p o true w e j = cc
end_under Nothing p o false w e j = refl
end_under (Enclosed d) p o true w e j = cc
end_under (Enclosed d) p o false w e j = refl
end_under (Single (listed.Token k t joint)) p o true w e j = cc
end_under (Single (listed.Token k t joint)) p o false w e j =
    and_from (all (among nine.needs) (left_needs (Single (listed.Token k t joint)) p)) true
    (subst (λ z. all (among nine.needs) (cond
    (is_number_kind (laid k t) && (p && fronts_index (raw k t) [])) (Number ∷ [])
    (asks (laid k t) (raw k t)) ++ mark_asks (laid k t) (raw k t) z) ≡ true)
    (sym j) (last_asks k t _ (not-true (is_doc_kind k) (and_parts (not (is_doc_kind k)) _ w).0))) refl
end_under (Single (listed.Doc inner t)) p o true w e j = and_from _ true (doc_asks (as_block inner t) true e) refl
end_under (Single (listed.Doc inner t)) p o false w e j = and_from _ true (doc_asks (as_block inner t) false e) refl

-- What is lexed as it stands may be laid out.
row_passes : (z : Border) (i : Grouping) (s : Seen) → (s.opens ≡ true → is_mark (codes "<") s.last ≡ true)
    → (s.closes ≡ true → is_mark (codes ">") s.last ≡ true) → LexOk s i
    → under (border_of (seen_all s i)) z ≡ true → Passes even (left_point s.last) (form_of_grouping s i) (border_of s) z
row_passes z NoMore s o c h u = u
row_passes z (OneToken t r) s o c h u =
    sep_token z s t r h.0 o c h.1 h.2
    (row_passes z r (seen_token s t) (λ e. first_of (is_mark (codes "<") (Single t)) _ e)
    (λ e. first_of (is_mark (codes ">") (Single t)) _ (first_of _ _ e)) h.3 u)
    (between s (Single t)) refl
row_passes z (OneGroup d i r) s o c h u =
    let inner = at_start s.count in
    let t = seen_all inner i in
    let g = behind_group d t.count in
    let line = is_line_doc t.last in
    sep_group s d i line (form_of_grouping inner i) (Part (form_of_grouping g r) Done) z h.0 o c
    (row_passes (inner_end line) i inner (λ e. cc) (λ e. cc) h.1
    (end_under t.last t.place _ line (end_own i inner refl h.1) refl (end_joint i inner h.1)))
    (plain, z, refl, row_passes z r g (λ e. cc) (λ e. cc) h.2 u, under-refl z)
    (between s (Enclosed d)) refl

-- all of a list, or of what stands in a group
pub all_passes : (us : List Listed) → LexOk (at_start 0) (in_groups us)
    → Passes even false (form_of_grouping (at_start 0) (in_groups us)) plain (inner_end (ends_in_line us))
all_passes us h =
    let i = in_groups us in
    let t = seen_all (at_start 0) i in
    row_passes (inner_end (ends_in_line us)) i (at_start 0) (λ q. cc) (λ q. cc) h
    (end_under t.last t.place _ (ends_in_line us) (end_own i (at_start 0) refl h) refl (end_joint i (at_start 0) h))

-- a token list
abbrev pub list_end : Bool → Border
list_end true = record { needs = []; spot = Unsure }
list_end false = nine

end_passes : (line w : Bool) → Passes even w (ended_by line) (inner_end line) (list_end line)
end_passes true w = (refl, refl)
end_passes false w = refl

pub list_passes : (us : List Listed) → LexOk (at_start 0) (in_groups us)
    → Passes even false (token_list us) plain (list_end (ends_in_line us))
list_passes us h = (
  plain,
  inner_end (ends_in_line us),
  refl,
  all_passes us h,
  end_passes (ends_in_line us) (ends_behind_point false (form_of_grouping (at_start 0) (in_groups us))),
)
