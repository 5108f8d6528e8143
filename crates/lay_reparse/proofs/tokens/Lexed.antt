-- A list that passes the test of token lists is lexed, neighbour by neighbour, as it stands: so it may be laid out.
use Rattle.std.proofs.Common.{◌≡◌, ℕ, List, [], ◌∷◌, Bool, true, false, cond, not, ◌&&◌, ◌||◌, sym, refl, ap, ◌∙◌, subst, codes, Some}
use Rattle.std.specs.Prelude.{◌==◌}
use Rattle.std.specs.List.{list_all}
use Rattle.std.specs.Str.{chars, encode_utf8_all, is_utf8, bytes_eq}
use Rattle.std.proofs.lemmas.Bool.{and_parts, and_from, both_ways, or_right, not-true}
use Rattle.std.proofs.lemmas.Slice.Eq.{bytes_eq-Decides}
use Rattle.lay_piece.specs.Chars.{begins, is_nil}
use Rattle.lay_piece.specs.Forms.{had, has_form, may_precede, is_number_kind, is_int_kind, is_one, is_punct_char}
use Rattle.lay_token.specs.Lexes.{is_punct, text_of_piece}
use Rattle.lay_piece.specs.Number.{is_index, fronts_index}
use Rattle.lay_piece.specs.declared.kind.Delim.{Delim}
use Rattle.lay_piece.specs.declared.kind.Kind.{Kind}
use Rattle.lay_piece.specs.declared.kind.Kind.TheVariants.{RawIdent, Punct, Opener, Closer, Doc}
use Rattle.lay_token.proofs.Deciding.{punct_is}
use Rattle.lay_token.proofs.Parts.{had_some}
use Rattle.lay_node.specs.tokens.Lexed.{piece_of, is_had, is_joinable, may_join, fits, ends_apart, may_be_laid, is_token_list}
use Rattle.lay_node.specs.tokens.Listing as listing
use Rattle.lay_node.specs.tokens.Listing.{is_doc_kind, kind_of, text_of, balances, is_balanced, Grouping, NoMore, OneToken, OneGroup, Nested, nested_by, nested, in_groups}
use Rattle.lay_node.specs.tokens.Pairs.{Neighbour, Nothing, Single, Enclosed, Seen, is_mark, is_joint_mark, is_joint_neighbour, is_punct_neighbour, is_index_place, seen_token, behind_group, at_start}
use Rattle.lay_node.specs.declared.token.Listed.{Listed}
use Rattle.lay_node.specs.declared.token.Listed.TheVariants as listed
use Rattle.lay_node.proofs.LexedPieces.{had_form}
use Rattle.lay_node.proofs.token_lists.Balance.{closed_is, turns}
use Rattle.lay_node.proofs.token_lists.Spelling.{list_parts}
use Rattle.lay_reparse.proofs.borders.Need.{Text, keeps}
use Rattle.lay_reparse.proofs.borders.Border.{At, Other, Point}
use Rattle.lay_reparse.proofs.file.Singles.{low_among}
use Rattle.lay_reparse.proofs.forms.Opened.{turned, even}
use Rattle.lay_reparse.proofs.forms.Passes.{fits_token, knows, at_index}
use Rattle.lay_reparse.proofs.texts.Characters.{is_low, is_low_char, low_encodes}
use Rattle.lay_reparse.proofs.texts.Laid.{as_block, laid, raw, is_laid, laid_same, text_chars}
use Rattle.lay_reparse.proofs.texts.LaidTokens.{form_laid, doc_laid}
use Rattle.lay_reparse.proofs.tokens.Neighbours.{laid_kind, laid_text, kind_at, own, joint_ok}
use Rattle.lay_reparse.proofs.tokens.Rows.{tok_ok, LexOk}

-- ---- a token

-- what is had at a place has its form there
had_fits : (p : Bool) (k : Kind) (x : Text) → had k x [] p ≡ true
    → fits_token (cond p (At Point) (At Other)) k x ≡ true
unfolding had
had_fits p k x h = by (is_number_kind k) p (fronts_index x []) h
  where
    by : (n p f : Bool)
        → cond (n && p && f) (is_int_kind k && is_index x && true) (has_form k x && may_precede k x []) ≡ true
        → cond n (knows (cond p (At Point) (At Other)) && cond (at_index (cond p (At Point) (At Other)) && f)
        (is_int_kind k && is_index x) (has_form k x)) (has_form k x) ≡ true
    by false p f h = (and_parts (has_form k x) _ h).0
    by true false f h = (and_parts (has_form k x) _ h).0
    by true true false h = (and_parts (has_form k x) _ h).0
    by true true true h = (and_parts (is_int_kind k && is_index x) true h).0

not_nil : (k : Kind) (x : Text) (p : Bool) → had k x [] p ≡ true → not (is_nil x) ≡ true
not_nil k [] p h = absurd (both_ways (had k [] [] p) (had_some k [] p) h)
not_nil k (c ∷ x) p h = refl

raw_piece : (k : Kind) (t : List ℕ) → is_doc_kind k ≡ false → piece_of k t ≡ raw k t
raw_piece (Doc inner block) t n = cc
raw_piece RawIdent t n = refl
raw_piece _ t n = refl

shown : (k : Kind) (t : List ℕ) → is_doc_kind k ≡ false → is_utf8 t ≡ true
    → encode_utf8_all (text_of_piece k (raw k t)) ≡ t
shown (Doc inner block) t n u = cc
shown RawIdent t n u = text_chars t u
shown _ t n u = text_chars t u

-- what the test tells of a token that is no documentation
record Told (place : Bool) (k : Kind) (t : List ℕ) : Type 0 where
  plain : is_doc_kind k ≡ false
  utf8 : is_utf8 t ≡ true
  stands : had k (raw k t) [] place ≡ true

told : (place : Bool) (k : Kind) (t : List ℕ) (j : Bool) → is_had place (listed.Token k t j) ≡ true → Told place k t
told place k t j h =
    let a = and_parts (not (is_doc_kind k) && is_utf8 t) _ h in
    let b = and_parts (not (is_doc_kind k)) _ a.0 in
    let n = not-true (is_doc_kind k) b.0 in
    record { plain = n; utf8 = b.1; stands = ap (λ x. had k x [] place) (sym (raw_piece k t n)) ∙ a.1 }

plain_fine : (i j : Bool) (k : Kind) (t : List ℕ) → Told i k t → not j || (is_punct k && keeps (raw k t)) ≡ true
    → tok_ok i (listed.Token k t j) ≡ true
plain_fine i j k t o m =
    let x = raw k t in
    let P : Kind → Type 0 = λ l. fits_token (cond i (At Point) (At Other)) l x
    && (bytes_eq (encode_utf8_all (text_of_piece l x)) t
    && (not (is_nil x) && ((not j || (is_punct l && keeps x)) && is_laid k t))) ≡ true in
    subst P (sym (laid_same k t o.plain)) (and_from (fits_token (cond i (At Point) (At Other)) k x) _
    (had_fits i k x o.stands)
    (and_from (bytes_eq (encode_utf8_all (text_of_piece k x)) t) _
    ((bytes_eq-Decides (encode_utf8_all (text_of_piece k x)) t).1 (shown k t o.plain o.utf8))
    (and_from (not (is_nil x)) _ (not_nil k x i o.stands) (and_from (not j || (is_punct k && keeps x)) _ m
    (form_laid k t o.plain o.utf8 (had_form k x [] i o.stands))))))

doc_not_nil : (inner block : Bool) (x : Text) → has_form (Doc inner block) x ≡ true → not (is_nil x) ≡ true
unfolding has_form
doc_not_nil true true [] h = cc
doc_not_nil true false [] h = cc
doc_not_nil false true [] h = cc
doc_not_nil false false [] h = cc
doc_not_nil inner block (c ∷ x) h = refl

doc_fine : (i inner : Bool) (t : List ℕ) → is_utf8 t ≡ true → may_be_laid (listed.Doc inner t) ≡ true
    → tok_ok i (listed.Doc inner t) ≡ true
doc_fine i inner t u d =
    let k : Kind = Doc inner (as_block inner t) in
    let x = raw (Doc inner false) t in
    let f = doc_laid inner t u d in
    and_from (has_form k x) _ f.form (and_from (bytes_eq (encode_utf8_all (text_of_piece k x)) t) _
    ((bytes_eq-Decides (encode_utf8_all (text_of_piece k x)) t).1 f.text)
    (and_from (not (is_nil x)) _ (doc_not_nil inner (as_block inner t) x f.form) f.laid))

-- the mark of a joint token is kept
abbrev joint_fine : Listed → Bool
joint_fine u = not (listing.is_joint u) || (is_punct (laid_kind u) && keeps (laid_text u))

tok_fine : (i : Bool) (u : Listed) → is_had i u ≡ true → may_be_laid u ≡ true → joint_fine u ≡ true → tok_ok i u ≡ true
tok_fine i (listed.Doc inner t) h d m = doc_fine i inner t h d
tok_fine i (listed.Token k t j) h d m =
    let o = told i k t j h in
    plain_fine i j k t o (ap (λ l. not j || (is_punct l && keeps (raw k t))) (sym (laid_same k t o.plain)) ∙ m)

-- ---- punctuation is one character, its own piece

one_low : (x : Text) → is_one is_punct_char x ≡ true → is_low x ≡ true
one_low [] h = cc
one_low (c ∷ []) h = and_from (is_low_char c) true
    (low_among (codes "=<>!~+-*/%^&@.,;:#$?|") c refl (and_parts (is_punct_char c) true h).0) refl
one_low (c ∷ d ∷ x) h = let e = (and_parts (is_punct_char c) false h).1 in cc

punct_one : (x : Text) → has_form Punct x ≡ true → is_one is_punct_char x ≡ true
unfolding has_form
punct_one x h = h

-- a token of punctuation
record IsSign (u : Listed) : Type 0 where
  kind : kind_of u ≡ Punct
  own_text : chars (text_of u) ≡ text_of u
  one : is_one is_punct_char (text_of u) ≡ true

sign_of : (place : Bool) (u : Listed) → is_had place u ≡ true → is_punct (kind_of u) ≡ true → IsSign u
sign_of place (listed.Doc inner t) h p = cc
sign_of place (listed.Token k t j) h p =
    let o = told place k t j h in
    let e = punct_is k p in
    let one : is_one is_punct_char (chars t) ≡ true = punct_one (chars t) (subst (λ l. has_form l (raw l t) ≡ true) e
    (had_form k (raw k t) [] place o.stands)) in
    let same : chars t ≡ t = sym (low_encodes (chars t) (one_low (chars t) one)) ∙ text_chars t o.utf8 in
    record { kind = e; own_text = same; one = subst (λ x. is_one is_punct_char x ≡ true) same one }

own_of : (place : Bool) (u : Listed) → is_had place u ≡ true → own (Single u) ≡ true
own_of place (listed.Doc inner t) h = and_from (is_utf8 t) true h refl
own_of place (listed.Token k t j) h =
    let o = told place k t j h in
    and_from (not (is_doc_kind k)) _ (ap not o.plain) (and_from (is_utf8 t) _ o.utf8 (by (is_punct k) refl))
  where
    by : (b : Bool) → is_punct k ≡ b → not (is_punct k) || bytes_eq (chars t) t ≡ true
    by true e = or_right (not (is_punct k)) _
        ((bytes_eq-Decides (chars t) t).1 (sign_of place (listed.Token k t j) h e).own_text)
    by false e = ap (λ z. not z || bytes_eq (chars t) t) e

sign_kind : (u : Listed) → IsSign u → laid_kind u ≡ Punct
sign_kind u m = ap (λ k. laid k (text_of u)) m.kind

sign_text : (u : Listed) → IsSign u → laid_text u ≡ text_of u
sign_text u m = ap (λ k. raw k (text_of u)) m.kind ∙ m.own_text

sign_mark : (u : Listed) (sign : List ℕ) → IsSign u → bytes_eq (text_of u) sign ≡ is_mark sign (Single u)
sign_mark u sign m = ap (λ k. is_punct k && bytes_eq (text_of u) sign) (sym m.kind)

-- what may be joint keeps its mark
joinable_keeps : (u : Listed) → IsSign u → is_joinable (Single u) ≡ true → keeps (laid_text u) ≡ true
joinable_keeps u m h =
    ap keeps (sign_text u m) ∙ ap not (λ i. sign_mark u (codes ",") m i || sign_mark u (codes ";") m i)
    ∙ (and_parts (is_punct_neighbour (Single u)) _ h).1

joinable_sign : (place : Bool) (u : Listed) → is_had place u ≡ true → is_joinable (Single u) ≡ true → IsSign u
joinable_sign place u h j = sign_of place u h (and_parts (is_punct_neighbour (Single u)) _ j).0

-- ---- what may be joint, as it is laid out

one_char : (c d : ℕ) → d == c ≡ bytes_eq (d ∷ []) (c ∷ [])
one_char c d = sym (and_true (d == c))
  where
    and_true : (b : Bool) → b && true ≡ b
    and_true true = refl
    and_true false = refl

begins_sign : (x : Text) (c : ℕ) → is_one is_punct_char x ≡ true → begins (λ d. d == c) x ≡ bytes_eq x (c ∷ [])
begins_sign [] c h = cc
begins_sign (d ∷ []) c h = one_char c d
begins_sign (d ∷ e ∷ x) c h = let z = (and_parts (is_punct_char d) false h).1 in cc

begins_either : (x : Text) (b c : ℕ) → is_one is_punct_char x ≡ true
    → begins (λ d. d == b || d == c) x ≡ bytes_eq x (b ∷ []) || bytes_eq x (c ∷ [])
begins_either [] b c h = cc
begins_either (d ∷ []) b c h = (λ i. one_char b d i || one_char c d i)
begins_either (d ∷ e ∷ x) b c h = let z = (and_parts (is_punct_char d) false h).1 in cc

-- a `/` and what follows it directly are no comment
no_comment : (u t : Listed) → IsSign u → IsSign t
    → begins (λ c. c == 47) (laid_text u) && begins (λ c. c == 47 || c == 42) (laid_text t)
    ≡ is_mark (codes "/") (Single u) && (is_mark (codes "/") (Single t) || is_mark (codes "*") (Single t))
no_comment u t m n =
    let l : begins (λ c. c == 47) (laid_text u) ≡ is_mark (codes "/") (Single u) =
    ap (begins (λ c. c == 47)) (sign_text u m) ∙ begins_sign (text_of u) 47 m.one ∙ sign_mark u (codes "/") m in
    let r : begins (λ c. c == 47 || c == 42) (laid_text t)
    ≡ is_mark (codes "/") (Single t) || is_mark (codes "*") (Single t) =
    ap (begins (λ c. c == 47 || c == 42)) (sign_text t n) ∙ begins_either (text_of t) 47 42 n.one
    ∙ (λ i. sign_mark t (codes "/") n i || sign_mark t (codes "*") n i) in
    (λ i. l i && r i)

-- The token is a piece of its kind at some place.
abbrev IsHad : Listed → Type 0
IsHad u = (place : Bool) × (is_had place u ≡ true)

joined : (u t : Listed) → IsHad u → IsHad t → may_join (Single u) (Single t) ≡ true
    → is_punct (laid_kind u) && (is_punct (laid_kind t) && (keeps (laid_text t) && (not (is_nil (laid_text t))
    && not (begins (λ c. c == 47) (laid_text u) && begins (λ c. c == 47 || c == 42) (laid_text t))))) ≡ true
joined u t hu ht h =
    let a = and_parts (is_joinable (Single u) && is_joinable (Single t)) _ h in
    let b = and_parts (is_joinable (Single u)) _ a.0 in
    let m = joinable_sign hu.0 u hu.1 b.0 in
    let n = joinable_sign ht.0 t ht.1 b.1 in
    and_from (is_punct (laid_kind u)) _ (ap is_punct (sign_kind u m))
    (and_from (is_punct (laid_kind t)) _ (ap is_punct (sign_kind t n))
    (and_from (keeps (laid_text t)) _ (joinable_keeps t n b.1)
    (and_from (not (is_nil (laid_text t))) _ (ap (λ x. not (is_nil x)) (sign_text t n) ∙ some (text_of t) n.one)
    (ap not (no_comment u t m n) ∙ a.1))))
  where
    some : (x : Text) → is_one is_punct_char x ≡ true → not (is_nil x) ≡ true
    some [] h = cc
    some (c ∷ x) h = refl

-- ---- what stands before a place, in the list and in its groups

-- The last neighbour is the last token of the list, or stands for a delimiter or for nothing.
abbrev LastIs : Neighbour → Neighbour → Type 0
LastIs (Single u) l = (Single u ≡ l) × IsHad u
LastIs _ l = (is_punct_neighbour l ≡ false) × (is_joint_neighbour l ≡ false)

record Stands (s : Seen) (before last : Neighbour) : Type 0 where
  before_is : is_joint_mark (codes ".") s.before ≡ is_joint_mark (codes ".") before
  last_is : LastIs s.last last

last_own : (r l : Neighbour) → LastIs r l → own r ≡ true
last_own Nothing l k = refl
last_own (Enclosed d) l k = refl
last_own (Single u) l k = own_of k.1.0 u k.1.1

last_joint : (r l : Neighbour) → LastIs r l → is_joint_neighbour r ≡ is_joint_neighbour l
last_joint Nothing l k = sym k.1
last_joint (Enclosed d) l k = sym k.1
last_joint (Single u) l k = ap is_joint_neighbour k.0

no_mark : (sign : List ℕ) (l : Neighbour) → is_punct_neighbour l ≡ false → is_mark sign l ≡ false
no_mark sign Nothing h = refl
no_mark sign (Enclosed d) h = refl
no_mark sign (Single u) h = ap (λ b. b && bytes_eq (text_of u) sign) h

last_mark : (sign : List ℕ) (r l : Neighbour) → LastIs r l → is_mark sign r ≡ is_mark sign l
last_mark sign Nothing l k = sym (no_mark sign l k.0)
last_mark sign (Enclosed d) l k = sym (no_mark sign l k.0)
last_mark sign (Single u) l k = ap (is_mark sign) k.0

last_joint_mark : (sign : List ℕ) (r l : Neighbour) → LastIs r l → is_joint_mark sign r ≡ is_joint_mark sign l
last_joint_mark sign r l k = (λ i. last_mark sign r l k i && last_joint r l k i)

same_place : (s : Seen) (before last : Neighbour) → Stands s before last
    → is_index_place before last ≡ is_index_place s.before s.last
same_place s before last k =
    (λ i. sym (last_mark (codes ".") s.last last k.last_is) i && not (sym k.before_is i))

-- the last one may stand before the token
last_before : (r l : Neighbour) (t : Listed) → LastIs r l → IsHad t
    → not (is_joint_neighbour l) || may_join l (Single t) ≡ true → joint_ok r (Single t) ≡ true
last_before Nothing l t k h m = refl
last_before (Enclosed d) l t k h m = refl
last_before (Single u) l t k h m = by (listing.is_joint u) refl
  where
    here : not (listing.is_joint u) || may_join (Single u) (Single t) ≡ true
    here = subst (λ n. not (is_joint_neighbour n) || may_join n (Single t) ≡ true) (sym k.0) m

    by : (j : Bool) → listing.is_joint u ≡ j → joint_ok (Single u) (Single t) ≡ true
    by false e = ap (λ j. not j || (is_punct (laid_kind u) && (is_punct (laid_kind t) && (keeps (laid_text t)
        && (not (is_nil (laid_text t))
        && not (begins (λ c. c == 47) (laid_text u) && begins (λ c. c == 47 || c == 42) (laid_text t))))))) e
    by true e = or_right (not (listing.is_joint u)) _
        (joined u t k.1 h (sym (ap (λ j. not j || may_join (Single u) (Single t)) e) ∙ here))

-- None that is joint stands before a token that is no punctuation.
unjoined : (l : Neighbour) (t : Listed) → is_punct (kind_of t) ≡ false
    → not (is_joint_neighbour l) || may_join l (Single t) ≡ true → is_joint_neighbour l ≡ false
unjoined l t n m = by (is_joint_neighbour l) m
  where
    no : may_join l (Single t) ≡ true → ⊥
    no h = both_ways (is_punct (kind_of t)) n (and_parts (is_punct_neighbour (Single t)) _
        (and_parts (is_joinable l) _ (and_parts (is_joinable l && is_joinable (Single t)) _ h).0).1).0

    by : (j : Bool) → not j || may_join l (Single t) ≡ true → j ≡ false
    by true h = absurd (no h)
    by false h = refl

behind_token : (s : Seen) (before last : Neighbour) (t : Listed) → Stands s before last → IsHad t
    → Stands (seen_token s t) last (Single t)
behind_token s before last t k h =
    record { before_is = last_joint_mark (codes ".") s.last last k.last_is; last_is = (refl, h) }

-- after an opener and after a closer
behind_delimiter : (s : Seen) (last : Neighbour) (t : Listed) → is_joint_mark (codes ".") s.before ≡ false
    → LastIs s.last (Single t) → is_joint_neighbour last ≡ false → Stands s last (Single t)
behind_delimiter s last t b l j = record {
  before_is = b ∙ sym (ap (λ z. is_mark (codes ".") last && z) j ∙ and_false (is_mark (codes ".") last));
  last_is = l;
}
  where
    and_false : (b : Bool) → b && false ≡ false
    and_false true = refl
    and_false false = refl

-- ---- the rest of a list

-- what a token that is joint tells of itself
rest_joint : (before : Neighbour) (t : Listed) (ts : List Listed) → fits before (Single t) ts ≡ true
    → ends_apart (Single t) ts ≡ true → not (listing.is_joint t) || is_joinable (Single t) ≡ true
rest_joint before t [] f e = by (listing.is_joint t) e
  where
    by : (j : Bool) → not j ≡ true → not j || is_joinable (Single t) ≡ true
    by true h = cc
    by false h = refl
rest_joint before t (u ∷ us) f e =
    by (listing.is_joint t) (and_parts (not (listing.is_joint t) || may_join (Single t) (Single u)) _
    (and_parts _ (fits (Single t) (Single u) us) f).0).0
  where
    by : (j : Bool) → not j || may_join (Single t) (Single u) ≡ true → not j || is_joinable (Single t) ≡ true
    by true h =
        (and_parts (is_joinable (Single t)) _ (and_parts (is_joinable (Single t) && is_joinable (Single u)) _ h).0).0
    by false h = refl

rest_fine : (t : Listed) → IsHad t → not (listing.is_joint t) || is_joinable (Single t) ≡ true → joint_fine t ≡ true
rest_fine t h m = by (listing.is_joint t) m
  where
    by : (j : Bool) → not j || is_joinable (Single t) ≡ true
        → not j || (is_punct (laid_kind t) && keeps (laid_text t)) ≡ true
    by true m = let s = joinable_sign h.0 t h.1 m in
        and_from (is_punct (laid_kind t)) _ (ap is_punct (sign_kind t s)) (joinable_keeps t s m)
    by false m = refl

rest_loose : (t : Listed) → is_punct (kind_of t) ≡ false → not (listing.is_joint t) || is_joinable (Single t) ≡ true
    → listing.is_joint t ≡ false
rest_loose t n m = by (listing.is_joint t) m
  where
    by : (j : Bool) → not j || is_joinable (Single t) ≡ true → j ≡ false
    by true m = absurd (both_ways (is_punct (kind_of t)) n (and_parts (is_punct_neighbour (Single t)) _ m).0)
    by false m = refl

-- ---- the groups of a list

-- After each group that a place is in stands what is lexed as it stands.
abbrev OuterOk : List Delim → List Grouping → Type 0
OuterOk [] [] = Unit {0}
OuterOk [] (g ∷ gs) = ⊥
OuterOk (d ∷ ds) [] = ⊥
OuterOk (d ∷ ds) (g ∷ gs) = ((n : ℕ) → LexOk (behind_group d n) g) × OuterOk ds gs

record NestedOk (left : List Delim) (before last : Neighbour) (n : Nested) : Type 0 where
  here : (s : Seen) → Stands s before last → LexOk s n.grouping
  outer : OuterOk left n.outer

-- a token that fits after two others, and what its rest tells of it
record Fitting (before last : Neighbour) (t : Listed) : Type 0 where
  may : not (is_joint_neighbour last) || may_join last (Single t) ≡ true
  stands : is_had (is_index_place before last) t ≡ true
  laid : may_be_laid t ≡ true
  joint : not (listing.is_joint t) || is_joinable (Single t) ≡ true

opened : (d : Delim) (left : List Delim) (before last : Neighbour) (t : Listed) (n : Nested)
    → is_punct (kind_of t) ≡ false → Fitting before last t → NestedOk (d ∷ left) last (Single t) n
    → NestedOk left before last (nested_by (Opener d) t n)
opened d left before last t n p f r = by n.outer r.outer
  where
    j : is_joint_neighbour last ≡ false
    j = unjoined last t p f.may

    by : (outer : List Grouping) → OuterOk (d ∷ left) outer
        → NestedOk left before last (nested_by (Opener d) t (record { grouping = n.grouping; outer = outer }))
    by [] o = absurd o
    by (g ∷ gs) o = record {
      here = λ s k. (
        and_from (own s.last) _ (last_own s.last last k.last_is)
            (ap (λ z. not z || (is_punct (kind_at s.last) && false)) (last_joint s.last last k.last_is ∙ j)),
        r.here (at_start s.count)
            (behind_delimiter (at_start s.count) last t refl (p, rest_loose t p f.joint) j),
        o.0 _,
      );
      outer = o.1;
    }

closed : (d : Delim) (left : List Delim) (before last : Neighbour) (t : Listed) (n : Nested)
    → is_punct (kind_of t) ≡ false → Fitting before last t → NestedOk left last (Single t) n
    → NestedOk (d ∷ left) before last (nested_by (Closer d) t n)
closed d left before last t n p f r =
    let j = unjoined last t p f.may in
    record {
      here = λ s k. last_joint s.last last k.last_is ∙ j;
      outer = (
        (λ m. r.here (behind_group d m)
            (behind_delimiter (behind_group d m) last t refl (p, rest_loose t p f.joint) j)),
        r.outer,
      );
    }

single : (left : List Delim) (before last : Neighbour) (t : Listed) (n : Nested) → turned (kind_of t) even ≡ even
    → Fitting before last t → NestedOk left last (Single t) n
    → NestedOk left before last (record { grouping = OneToken t n.grouping; outer = n.outer })
single left before last t n e f r =
    let h : IsHad t = (is_index_place before last, f.stands) in
    record {
      here = λ s k. (
        and_from (own s.last) _ (last_own s.last last k.last_is) (and_from (own (Single t)) _ (own_of h.0 t h.1)
            (last_before s.last last t k.last_is h f.may)),
        tok_fine (is_index_place s.before s.last) t
            (subst (λ i. is_had i t ≡ true) (same_place s before last k) f.stands)
            f.laid (rest_fine t h f.joint),
        e,
        r.here (seen_token s t) (behind_token s before last t k h),
      );
      outer = r.outer;
    }

nested_ok : (left : List Delim) (before last : Neighbour) (us : List Listed) → fits before last us ≡ true
    → ends_apart last us ≡ true → balances left us ≡ true → list_all may_be_laid us ≡ true
    → NestedOk left before last (nested us)
nested_ok [] before last [] f e b d = record {
  here = λ s k. last_joint s.last last k.last_is ∙ not-true (is_joint_neighbour last) e;
  outer = tt;
}
nested_ok (x ∷ left) before last [] f e b d = cc
nested_ok left before last (t ∷ ts) f e b d =
    let may = not (is_joint_neighbour last) || may_join last (Single t) in
    let a = and_parts (may && is_had (is_index_place before last) t) (fits last (Single t) ts) f in
    let c = and_parts may _ a.0 in
    let l = and_parts (may_be_laid t) _ d in
    let s = turns left t ts b in
    by (kind_of t) refl s.more s.turn
    (record { may = c.0; stands = c.1; laid = l.0; joint = rest_joint last t ts a.1 e })
    (nested_ok s.more last (Single t) ts a.1 e s.rest l.1)
  where
    by : (k : Kind) → kind_of t ≡ k → (more : List Delim) → listing.turned k left ≡ Some more → Fitting before last t
        → NestedOk more last (Single t) (nested ts) → NestedOk left before last (nested_by k t (nested ts))
    by (Opener d) k more g f r =
        opened d left before last t (nested ts) (ap is_punct k) f
        (subst (λ m. NestedOk m last (Single t) (nested ts)) (let m : more ≡ d ∷ left = cc in m) r)
    by (Closer d) k more g f r =
        subst (λ m. NestedOk m before last (nested_by (Closer d) t (nested ts))) (sym (closed_is d left more g).opens)
        (closed d more before last t (nested ts) (ap is_punct k) f r)
    by k is more g f r =
        single left before last t (nested ts) (ap (λ l. turned l even) is) f
        (subst (λ m. NestedOk m last (Single t) (nested ts)) (let m : more ≡ left = cc in m) r)

pub lex_ok : (us : List Listed) → is_token_list us ≡ true → LexOk (at_start 0) (in_groups us)
lex_ok us h =
    let t = list_parts us h in
    (nested_ok [] Nothing Nothing us t.fit t.apart t.balanced t.docs).here (at_start 0)
    (record { before_is = refl; last_is = (refl, refl) })
