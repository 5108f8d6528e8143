-- A balanced list is made of groups: its groups list it again.
use Rattle.std.proofs.Common.{◌≡◌, ℕ, List, [], ◌∷◌, ◌++◌, Bool, true, false, not, ◌&&◌, ◌||◌, Some, map, refl, sym, ap, ◌∙◌, subst, append_assoc, append-nil}
use Rattle.std.specs.Prelude.{◌==◌}
use Rattle.std.specs.Str.{chars, encode_utf8_all, is_utf8}
use Rattle.std.specs.List.{list_all}
use Rattle.std.proofs.lemmas.Bool.{and_parts, and_from, or_left, or_right, eqb-true}
use Rattle.std.proofs.lemmas.Str.{encodes-chars, IsUtf8-from_is_utf8}
use lib.Utf8.{encode}
use Rattle.lay_token.specs.Delimiters.{is_opener, is_closer}
use Rattle.lay_piece.specs.Forms.{had, has_form, may_precede, is_one, opening, closing}
use Rattle.lay_token.specs.Lexes.{is_punct}
use Rattle.lay_piece.specs.declared.kind.Delim.{Delim}
use Rattle.lay_piece.specs.declared.kind.Delim.TheVariants.{Paren, Bracket, Brace}
use Rattle.lay_piece.specs.declared.kind.Kind.{Kind}
use Rattle.lay_piece.specs.declared.kind.Kind.TheVariants.{Punct, Opener, Closer, Doc}
use Rattle.lay_token.specs.declared.token.Token.{Token}
use Rattle.lay_node.specs.tokens.Lexed.{is_had, may_join, fits, ends_apart, is_token_list}
use Rattle.lay_node.specs.tokens.Listing.{kind_of, turned, balances, is_balanced, Grouping, NoMore, OneToken, OneGroup, Nested, nested_by, nested, in_groups, as_listed, listed_by}
use Rattle.lay_node.specs.tokens.Pairs.{Neighbour, Nothing, Single, is_joint_neighbour, is_index_place}
use Rattle.lay_node.specs.declared.token.Listed.{Listed}
use Rattle.lay_node.specs.declared.token.Listed.TheVariants as listed
use Rattle.lay_node.specs.reader.Exact.{InText}
use Rattle.lay_node.proofs.token_lists.Balance.{closed_is, turns}

-- ---- what groups list

abbrev pub opener_token : Delim → Listed
opener_token d = listed.Token (Opener d) (opening d ∷ []) false

abbrev pub closer_token : Delim → Listed
closer_token d = listed.Token (Closer d) (closing d ∷ []) false

-- the tokens of groups, in order
abbrev pub flat : Grouping → List Listed
flat NoMore = []
flat (OneToken t r) = t ∷ flat r
flat (OneGroup d i r) = opener_token d ∷ (flat i ++ closer_token d ∷ flat r)

-- No single token is a delimiter.
abbrev pub InGroups : Grouping → Type 0
InGroups NoMore = Unit {0}
InGroups (OneToken t r) = (is_opener (kind_of t) ≡ false) × (is_closer (kind_of t) ≡ false) × InGroups r
InGroups (OneGroup d i r) = InGroups i × InGroups r

-- ---- delimiters with their texts

-- A delimiter has its text, and isn't joint.
abbrev pub IsDelimiter : Kind → Listed → Type 0
IsDelimiter (Opener d) t = t ≡ opener_token d
IsDelimiter (Closer d) t = t ≡ closer_token d
IsDelimiter _ t = Unit {0}

abbrev pub HaveDelimiters : List Listed → Type 0
HaveDelimiters [] = Unit {0}
HaveDelimiters (t ∷ ts) = IsDelimiter (kind_of t) t × HaveDelimiters ts

-- After these the list lists what these groups do, each with the closer of its delimiter before it.
abbrev AreBehind : List Delim → List Grouping → List Listed → Type 0
AreBehind [] [] ts = ts ≡ []
AreBehind [] (g ∷ gs) ts = ⊥
AreBehind (d ∷ ds) [] ts = ⊥
AreBehind (d ∷ ds) (g ∷ gs) ts =
    (rest : List Listed) × (ts ≡ closer_token d ∷ (flat g ++ rest)) × InGroups g × AreBehind ds gs rest

-- A list after these open delimiters is in groups.
record Regrouped (left : List Delim) (ts : List Listed) (s : Nested) : Type 0 where
  rest : List Listed
  whole : ts ≡ flat s.grouping ++ rest
  groups : InGroups s.grouping
  behind : AreBehind left s.outer rest

opened : (d : Delim) (left : List Delim) (t : Listed) (ts : List Listed) (s : Nested) → t ≡ opener_token d
    → Regrouped (d ∷ left) ts s → Regrouped left (t ∷ ts) (nested_by (Opener d) t s)
opened d left t ts s e r = by s.outer r.behind
  where
    by : (outer : List Grouping) → AreBehind (d ∷ left) outer r.rest
        → Regrouped left (t ∷ ts) (nested_by (Opener d) t (record { grouping = s.grouping; outer = outer }))
    by [] a = absurd a
    by (g ∷ gs) a = record {
      rest = a.0;
      whole = (λ i. e i ∷ r.whole i) ∙ ap (λ l. opener_token d ∷ (flat s.grouping ++ l)) a.1
          ∙ ap (λ l. opener_token d ∷ l) (sym (append_assoc (flat s.grouping) (closer_token d ∷ flat g) a.0));
      groups = (r.groups, a.2);
      behind = a.3;
    }

closed : (d : Delim) (left : List Delim) (t : Listed) (ts : List Listed) (s : Nested) → t ≡ closer_token d
    → Regrouped left ts s → Regrouped (d ∷ left) (t ∷ ts) (nested_by (Closer d) t s)
closed d left t ts s e r = record {
  rest = t ∷ ts;
  whole = refl;
  groups = tt;
  behind = (r.rest, (λ i. e i ∷ r.whole i), r.groups, r.behind);
}

single : (left : List Delim) (t : Listed) (ts : List Listed) (s : Nested) → is_opener (kind_of t) ≡ false
    → is_closer (kind_of t) ≡ false → Regrouped left ts s
    → Regrouped left (t ∷ ts) (record { grouping = OneToken t s.grouping; outer = s.outer })
single left t ts s o c r = record {
  rest = r.rest;
  whole = ap (λ l. t ∷ l) r.whole;
  groups = (o, c, r.groups);
  behind = r.behind;
}

regrouped : (left : List Delim) (ts : List Listed) → balances left ts ≡ true → HaveDelimiters ts
    → Regrouped left ts (nested ts)
regrouped [] [] h d = record { rest = []; whole = refl; groups = tt; behind = refl }
regrouped (d ∷ left) [] h e = cc
regrouped left (t ∷ ts) h e =
    let s = turns left t ts h in
    by (kind_of t) refl e.0 s.more s.turn (regrouped s.more ts s.rest e.1)
  where
    by : (k : Kind) → kind_of t ≡ k → IsDelimiter k t → (more : List Delim) → turned k left ≡ Some more
        → Regrouped more ts (nested ts) → Regrouped left (t ∷ ts) (nested_by k t (nested ts))
    by (Opener d) k e more g r =
        opened d left t ts (nested ts) e (subst (λ m. Regrouped m ts (nested ts)) (let m : more ≡ d ∷ left = cc in m) r)
    by (Closer d) k e more g r =
        subst (λ m. Regrouped m (t ∷ ts) (nested_by (Closer d) t (nested ts))) (sym (closed_is d left more g).opens)
        (closed d more t ts (nested ts) e r)
    by k is e more g r =
        single left t ts (nested ts) (ap is_opener is) (ap is_closer is)
        (subst (λ m. Regrouped m ts (nested ts)) (let m : more ≡ left = cc in m) r)

-- A list is in groups as it is listed.
pub record Grouped (us : List Listed) : Type 0 where
  pub groups : InGroups (in_groups us)
  pub whole : flat (in_groups us) ≡ us

pub grouped : (us : List Listed) → is_balanced us ≡ true → HaveDelimiters us → Grouped us
grouped us h d =
    let r = regrouped [] us h d in
    by (nested us).outer r.behind
  where
    by : (outer : List Grouping) → AreBehind [] outer (regrouped [] us h d).rest → Grouped us
    by [] a = let r = regrouped [] us h d in record {
      groups = r.groups;
      whole = sym (r.whole ∙ ap (λ l. flat (in_groups us) ++ l) a ∙ append-nil (flat (in_groups us)));
    }
    by (g ∷ gs) a = absurd a

-- ---- delimiters of lists that fit

one_is : (x : ℕ) (cs : List ℕ) → is_one (λ c. c == x) cs ≡ true → cs ≡ x ∷ []
one_is x [] h = cc
one_is x (c ∷ []) h = ap (λ z. z ∷ []) (eqb-true c x (and_parts (c == x) true h).0)
one_is x (c ∷ d ∷ cs) h = let e = (and_parts (c == x) false h).1 in cc

-- A text is the one character that it has.
text_one : (x : ℕ) (text : List ℕ) → encode_utf8_all (x ∷ []) ≡ x ∷ [] → is_utf8 text ≡ true → chars text ≡ x ∷ []
    → text ≡ x ∷ []
text_one x text low u e = sym (encodes-chars text (IsUtf8-from_is_utf8 text u)) ∙ ap encode_utf8_all e ∙ low

opening_low : (d : Delim) → encode_utf8_all (opening d ∷ []) ≡ opening d ∷ []
unfolding encode
opening_low Paren = refl
opening_low Bracket = refl
opening_low Brace = refl

closing_low : (d : Delim) → encode_utf8_all (closing d ∷ []) ≡ closing d ∷ []
unfolding encode
closing_low Paren = refl
closing_low Bracket = refl
closing_low Brace = refl

delimiter : (k : Kind) (text : List ℕ) (joint place : Bool) → is_had place (listed.Token k text joint) ≡ true
    → joint ≡ false → IsDelimiter k (listed.Token k text joint)
unfolding had has_form may_precede
delimiter (Opener d) text joint place h j =
    let a = and_parts (is_utf8 text) _ h in
    let one = one_is (opening d) (chars text) (and_parts (is_one (λ c. c == opening d) (chars text)) true a.1).0 in
    let e = text_one (opening d) text (opening_low d) a.0 one in
    (λ i. listed.Token (Opener d) (e i) (j i))
delimiter (Closer d) text joint place h j =
    let a = and_parts (is_utf8 text) _ h in
    let one = one_is (closing d) (chars text) (and_parts (is_one (λ c. c == closing d) (chars text)) true a.1).0 in
    let e = text_one (closing d) text (closing_low d) a.0 one in
    (λ i. listed.Token (Closer d) (e i) (j i))
delimiter _ text joint place h j = tt

-- No delimiter is joint.
abbrev pub is_loose : Listed → Bool
is_loose t = not (is_joint_neighbour (Single t)) || is_punct (kind_of t)

loose_delimiter : (t : Listed) (place : Bool) → is_had place t ≡ true → is_loose t ≡ true → IsDelimiter (kind_of t) t
loose_delimiter (listed.Token (Opener d) text joint) place h l =
    delimiter (Opener d) text joint place h (unjoint joint l)
  where
    unjoint : (b : Bool) → not b || false ≡ true → b ≡ false
    unjoint true h = cc
    unjoint false h = refl
loose_delimiter (listed.Token (Closer d) text joint) place h l =
    delimiter (Closer d) text joint place h (unjoint joint l)
  where
    unjoint : (b : Bool) → not b || false ≡ true → b ≡ false
    unjoint true h = cc
    unjoint false h = refl
loose_delimiter (listed.Token _ text joint) place h l = tt
loose_delimiter (listed.Doc inner text) place h l = tt

loose_delimiters : (before last : Neighbour) (us : List Listed) → fits before last us ≡ true
    → list_all is_loose us ≡ true → HaveDelimiters us
loose_delimiters before last [] f l = tt
loose_delimiters before last (u ∷ us) f l =
    let may = not (is_joint_neighbour last) || may_join last (Single u) in
    let a = and_parts (may && is_had (is_index_place before last) u) (fits last (Single u) us) f in
    let b = and_parts (is_loose u) (list_all is_loose us) l in (
      loose_delimiter u (is_index_place before last) (and_parts may _ a.0).1 b.0,
      loose_delimiters last (Single u) us a.1 b.1,
    )

-- A token that is joint is punctuation, since one more follows it and both are joined.
pub row_loose : (before last : Neighbour) (us : List Listed) → fits before last us ≡ true → ends_apart last us ≡ true
    → list_all is_loose us ≡ true
row_loose before last [] f e = refl
row_loose before last (u ∷ us) f e =
    let may = not (is_joint_neighbour last) || may_join last (Single u) in
    let a = and_parts (may && is_had (is_index_place before last) u) (fits last (Single u) us) f in
    and_from (is_loose u) (list_all is_loose us) (first us a.1 e) (row_loose last (Single u) us a.1 e)
  where
    by : (j p m : Bool) → not j || (p && m) ≡ true → not j || p ≡ true
    by true true m h = refl
    by true false m h = cc
    by false p m h = refl

    first : (vs : List Listed) → fits last (Single u) vs ≡ true → ends_apart (Single u) vs ≡ true → is_loose u ≡ true
    first [] g n = or_left (not (is_joint_neighbour (Single u))) (is_punct (kind_of u)) n
    first (v ∷ vs) g n = let j = is_joint_neighbour (Single u) in
        by j (is_punct (kind_of u)) _ (and_joins j (is_punct (kind_of u)) _ _ _
        (and_parts (not j || may_join (Single u) (Single v)) _ (and_parts _ (fits (Single u) (Single v) vs) g).0).0)
      where
        and_joins : (j p m n o : Bool) → not j || (((p && m) && n) && o) ≡ true → not j || (p && m) ≡ true
        and_joins true true true n o h = refl
        and_joins true true false n o h = cc
        and_joins true false m n o h = cc
        and_joins false p m n o h = refl

-- The delimiters of a token list have their texts.
pub list_delimiters : (us : List Listed) → is_token_list us ≡ true → HaveDelimiters us
list_delimiters us h =
    let a = and_parts (fits Nothing Nothing us && ends_apart Nothing us && is_balanced us) _ h in
    let b = and_parts (fits Nothing Nothing us && ends_apart Nothing us) _ a.0 in
    let c = and_parts (fits Nothing Nothing us) _ b.0 in
    loose_delimiters Nothing Nothing us c.0 (row_loose Nothing Nothing us c.0 c.1)

-- A token list is in groups as it is listed.
pub list_grouped : (us : List Listed) → is_token_list us ≡ true → Grouped us
list_grouped us h =
    let a = and_parts (fits Nothing Nothing us && ends_apart Nothing us && is_balanced us) _ h in
    grouped us (and_parts (fits Nothing Nothing us && ends_apart Nothing us) _ a.0).1 (list_delimiters us h)

listed_loose : (ts : List Token) → list_all is_loose (map as_listed ts) ≡ true
listed_loose [] = refl
listed_loose (t ∷ ts) = and_from (is_loose (as_listed t)) _ (one t.kind t.joint) (listed_loose ts)
  where
    one : (k : Kind) (joint : Bool) → is_loose (listed_by k t.text joint) ≡ true
    one Punct joint = or_right (not joint) true refl
    one (Doc inner block) joint = refl
    one _ joint = refl

-- Those of tokens that stand in a text have them too.
pub text_delimiters : (ts : List Token) → InText ts → HaveDelimiters (map as_listed ts)
text_delimiters ts i = loose_delimiters i.before i.last (map as_listed ts) i.fit (listed_loose ts)
