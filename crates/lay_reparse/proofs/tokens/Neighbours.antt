-- Where the table of neighbours leaves no break, the right one may follow the left one directly.
use Rattle.std.proofs.Common.{◌≡◌, ℕ, inl, inr, List, [], ◌∷◌, ◌++◌, Bool, true, false, cond, not, ◌&&◌, ◌||◌, sym, refl, ap, ◌∙◌, subst, codes}
use Rattle.std.specs.Prelude.{◌==◌}
use Rattle.std.specs.List.{list_all}
use Rattle.std.specs.Char.{is_ascii_digit}
use Rattle.std.specs.Str.{chars, is_utf8, bytes_eq}
use Rattle.std.proofs.lemmas.Bool.{and_parts, and_from, or_cases, cases_Bool, not-true}
use Rattle.lay_piece.specs.Chars.{is_nil, begins}
use Rattle.lay_piece.specs.Number.{is_bare_int, is_index, fronts_index}
use Rattle.lay_piece.specs.Forms.{is_number_kind, opening}
use Rattle.lay_token.specs.Lexes.{is_punct}
use Rattle.lay_piece.specs.declared.kind.Delim.TheVariants.{Paren, Bracket, Brace}
use Rattle.lay_piece.specs.declared.kind.Kind.{Kind}
use Rattle.lay_piece.specs.declared.kind.Kind.TheVariants.{Ident, RawIdent, Int, Float, Punct, Opener, Closer, Doc}
use Rattle.lay_token.proofs.Deciding.{punct_is, bytes_same}
use Rattle.lay_form.specs.Layout.{token_ends_in_point}
use Rattle.lay_node.specs.declared.token.Listed.{Listed}
use Rattle.lay_node.specs.declared.token.Listed.TheVariants as listed
use Rattle.lay_node.specs.tokens.Listing as listing
use Rattle.lay_node.specs.tokens.Listing.{is_doc_kind, kind_of, text_of, is_joint}
use Rattle.lay_node.specs.tokens.Pairs.{Neighbour, Nothing, Single, Enclosed, Seen, NoBreak, SoftBreak, HardBreak, is_mark, is_joint_neighbour, is_punct_neighbour, is_doc, is_line_doc, is_free_word, is_number, is_nothing, is_bracket, is_paren, opens_turbofish, ends_turbofish, is_strict}
use Rattle.lay_reparse.proofs.borders.Need.{Text, begins_dot, point_of, Need, Word, RawWord, Life, Literal, Number, IntBare, FloatWord, Solidus, LineDoc, IntPoint, Joint, Loose, glue, all, all_by, keeps, suits, more, asks, int_asks, blank_ok, line_ok}
use Rattle.lay_reparse.proofs.borders.Border.{extras, and_false}
use Rattle.lay_reparse.proofs.texts.Laid.{as_block, laid, raw}
use Rattle.lay_reparse.proofs.borders.Move.{same_need, among}
use Rattle.lay_reparse.proofs.forms.Passes.{mark_asks}
use Rattle.lay_reparse.proofs.forms.Rules.{tables, same_need-is}
use Rattle.lay_reparse.proofs.texts.DocTexts.{index_own}
use Rattle.lay_reparse.proofs.tokens.Table.{last_rows, Settled, Way, AtStart, BehindLine, ByDoc, BehindJoint, ByTokens, AnyRow, Glue, BySeparator, ByRow, glue_of, later_soft}

-- a token as it is laid out
abbrev pub laid_kind : Listed → Kind
laid_kind u = laid (kind_of u) (text_of u)

abbrev pub laid_text : Listed → Text
laid_text u = raw (kind_of u) (text_of u)

-- the pieces of the neighbours
abbrev pub kind_at : Neighbour → Kind
kind_at Nothing = Closer Brace
kind_at (Single u) = laid_kind u
kind_at (Enclosed d) = Opener d

abbrev pub text_at : Neighbour → Text
text_at Nothing = []
text_at (Single u) = laid_text u
text_at (Enclosed d) = opening d ∷ []

-- A token that isn't told to be documentation is of no such kind.
abbrev pub is_named : Listed → Bool
is_named (listed.Token kind text joint) = not (is_doc_kind kind)
is_named (listed.Doc inner text) = true

-- The kind is told, the text is UTF-8, and that of punctuation is its own characters.
abbrev pub own : Neighbour → Bool
own (Single u) = is_named u
    && (is_utf8 (text_of u) && (not (is_punct (kind_of u)) || bytes_eq (chars (text_of u)) (text_of u)))
own _ = true

pub own_utf8 : (u : Listed) → own (Single u) ≡ true → is_utf8 (text_of u) ≡ true
own_utf8 u h = (and_parts (is_utf8 (text_of u)) _ (and_parts (is_named u) _ h).1).0

-- It is a token of a kind of documentation.
abbrev has_doc_kind : Neighbour → Bool
has_doc_kind (Single u) = is_doc_kind (kind_of u)
has_doc_kind _ = false

no_doc_kind : (l : Neighbour) → own l ≡ true → is_doc l ≡ false → has_doc_kind l ≡ false
no_doc_kind Nothing w h = refl
no_doc_kind (Enclosed d) w h = refl
no_doc_kind (Single (listed.Token kind text joint)) w h =
    not-true (is_doc_kind kind) (and_parts (not (is_doc_kind kind)) _ w).0
no_doc_kind (Single (listed.Doc inner text)) w h = cc

pub own_punct : (u : Listed) → own (Single u) ≡ true → is_punct (kind_of u) ≡ true → chars (text_of u) ≡ text_of u
own_punct u h p = at (is_punct (kind_of u)) p (and_parts (is_utf8 (text_of u)) _ (and_parts (is_named u) _ h).1).1
  where
    at : (b : Bool) → b ≡ true → not b || bytes_eq (chars (text_of u)) (text_of u) ≡ true
        → chars (text_of u) ≡ text_of u
    at true e h = bytes_same (chars (text_of u)) (text_of u) h
    at false e h = cc

-- what the left one asks; place: it stands at an index place
abbrev pub left_needs : Neighbour → Bool → List Need
left_needs (Single u) place =
    cond (is_number_kind (laid_kind u) && (place && fronts_index (laid_text u) [])) (Number ∷ [])
    (asks (laid_kind u) (laid_text u))
    ++ mark_asks (laid_kind u) (laid_text u) (is_joint u)
left_needs _ place = []

abbrev pub left_point : Neighbour → Bool
left_point (Single u) = token_ends_in_point (kind_of u) (text_of u)
left_point _ = false

-- a piece may follow directly
abbrev pub Follows : List Need → Bool → Kind → Text → Type 0
Follows ns v k x = (all (λ n. suits n k x) ns ≡ true) × (extras x ns ≡ []) × (begins_dot x && v ≡ false)

abbrev seven : List Need
seven = Word ∷ RawWord ∷ Life ∷ Literal ∷ Number ∷ IntBare ∷ FloatWord ∷ []

abbrev six : List Need
six = Word ∷ RawWord ∷ Life ∷ Literal ∷ Number ∷ []

or_both : (a b : Bool) → a || b ≡ false → (a ≡ false) × (b ≡ false)
or_both true b h = cc
or_both false b h = (refl, h)

all_of : (p : Need → Bool) (ms ns : List Need) → all p ms ≡ true → all (among ms) ns ≡ true → all p ns ≡ true
all_of p ms [] h a = refl
all_of p ms (n ∷ ns) h a = let q = and_parts (among ms n) _ a in and_from (p n) _ (one ms h q.0) (all_of p ms ns h q.1)
  where
    one : (ms : List Need) → all p ms ≡ true → among ms n ≡ true → p n ≡ true
    one [] h a = cc
    one (m ∷ ms) h a = let q = and_parts (p m) _ h in at (same_need n m) refl a q.0 (λ k. one ms q.1 k)
      where
        at : (b : Bool) → same_need n m ≡ b → b || among ms n ≡ true → p m ≡ true → (among ms n ≡ true → p n ≡ true)
            → p n ≡ true
        at true e a h f = subst (λ z. p z ≡ true) (sym (same_need-is n m e)) h
        at false e a h f = f a

-- no IntPoint where no bare Int comes before a point
more_none : (n : Need) (x : Text) → begins_dot x ≡ false → more n x ≡ []
more_none IntBare [] h = refl
more_none IntBare (c ∷ []) h = ap (λ b. cond b (IntPoint ∷ []) []) h
more_none IntBare (c ∷ d ∷ x) h = refl
more_none _ x h = refl

extras_none : (x : Text) (ns : List Need) → begins_dot x ≡ false → extras x ns ≡ []
extras_none x [] h = refl
extras_none x (n ∷ ns) h = (λ i. more_none n x h i ++ extras_none x ns h i)

-- a left one that is no Punct and no doc asks for some of seven
plain_asks : (k : Kind) (x : Text) (i j : Bool) → is_punct k ≡ false → is_doc_kind k ≡ false
    → all (among seven) (cond (is_number_kind k && i) (Number ∷ []) (asks k x) ++ mark_asks k x j) ≡ true
plain_asks Punct x i j p d = cc
plain_asks (Doc inner block) x i j p d = cc
plain_asks Int x true j p d = refl
plain_asks Int x false j p d = int_asks (among seven) (is_bare_int x) refl refl
plain_asks Float x true j p d = refl
plain_asks Float x false j p d = refl
plain_asks _ x i j p d = refl

pub laid_punct : (k : Kind) (t : Text) → is_punct (laid k t) ≡ is_punct k
laid_punct (Doc inner block) t = refl
laid_punct _ t = refl

laid_doc : (k : Kind) (t : Text) → is_doc_kind (laid k t) ≡ is_doc_kind k
laid_doc (Doc inner block) t = refl
laid_doc _ t = refl

left_asks : (l : Neighbour) (i : Bool) → is_punct_neighbour l ≡ false → has_doc_kind l ≡ false
    → all (among seven) (left_needs l i) ≡ true
left_asks Nothing i p d = refl
left_asks (Enclosed e) i p d = refl
left_asks (Single u) i p d = plain_asks (laid_kind u) (laid_text u) _ (is_joint u)
    (laid_punct (kind_of u) (text_of u) ∙ p) (laid_doc (kind_of u) (text_of u) ∙ d)

-- the right one begins with no point and suits the seven
pub plain_left : (l : Neighbour) (i : Bool) (k : Kind) (x : Text) → is_punct_neighbour l ≡ false
    → has_doc_kind l ≡ false
    → all (λ n. suits n k x) seven ≡ true → begins_dot x ≡ false → Follows (left_needs l i) (left_point l) k x
plain_left l i k x p d s e = (
  all_of (λ n. suits n k x) seven (left_needs l i) s (left_asks l i p d),
  extras_none x (left_needs l i) e,
  ap
      (λ b. b && left_point l) e,
)

-- a point after no number but an index
index_front : (x : Text) → is_index x ≡ true → fronts_index x [] ≡ true
index_front x h = at (begins is_ascii_digit x) (list_all is_ascii_digit x) _ h
  where
    at : (d e b : Bool) → d && e ≡ true → d && not (cond e false b) ≡ true
    at true true b h = refl
    at true false b h = cc
    at false e b h = cc

point_asks : (k : Kind) (x : Text) (place j : Bool) → is_punct k ≡ false → is_doc_kind k ≡ false
    → elim k [ Int ↦ not (place && is_index x) | Float ↦ true | _ ↦ false ] ≡ false
    → (all (among six) (cond (is_number_kind k && (place && fronts_index x [])) (Number ∷ []) (asks k x)
    ++ mark_asks k x j) ≡ true) × (point_of k x ≡ false)
point_asks Punct x i j p d n = cc
point_asks (Doc inner block) x i j p d n = cc
point_asks Int x place j p d n = (at place (is_index x) (fronts_index x []) (is_bare_int x) n (index_front x), refl)
  where
    at : (w i f bare : Bool) → not (w && i) ≡ false → (i ≡ true → f ≡ true)
        → all (among six) (cond (true && (w && f)) (Number ∷ []) (cond bare (IntBare ∷ []) (Number ∷ [])) ++ []) ≡ true
    at true true true bare h g = refl
    at true true false bare h g = let e : false ≡ true = g refl in cc
    at true false f bare h g = cc
    at false i f bare h g = cc
point_asks Float x i j p d n = cc
point_asks _ x i j p d n = (refl, refl)

six_more : (ns : List Need) → all (among six) ns ≡ true → extras (46 ∷ []) ns ≡ []
six_more [] h = refl
six_more (n ∷ ns) h = let q = and_parts (among six n) _ h in at n (six_more ns q.1) q.0
  where
    at : (n : Need) → extras (46 ∷ []) ns ≡ [] → among six n ≡ true → more n (46 ∷ []) ++ extras (46 ∷ []) ns ≡ []
    at IntBare e a = cc
    at _ e a = e

dot_token : (k : Kind) (t : Text) (place j : Bool) → is_utf8 t ≡ true → is_punct k ≡ false → is_doc_kind k ≡ false
    → elim k [ Int ↦ not (place && is_index t) | Float ↦ true | _ ↦ false ] ≡ false
    → (all (among six) (cond (is_number_kind (laid k t) && (place && fronts_index (raw k t) [])) (Number ∷ [])
    (asks (laid k t) (raw k t)) ++ mark_asks (laid k t) (raw k t) j) ≡ true)
    × (token_ends_in_point k t ≡ false)
dot_token Punct t i j w p d n = cc
dot_token (Doc inner block) t i j w p d n = cc
dot_token Int t i j w p d n = ((point_asks Int (chars t) i j p d (ap (λ z. not (i && z)) (index_own t w) ∙ n)).0, refl)
dot_token Float t i j w p d n = cc
dot_token _ t i j w p d n = (refl, refl)

six_suit : all (λ n. suits n Punct (46 ∷ [])) six ≡ true
unfolding tables
six_suit = refl

dot_left : (l : Neighbour) (i : Bool) → own l ≡ true → is_punct_neighbour l ≡ false → has_doc_kind l ≡ false
    → is_number i l ≡ false
    → Follows (left_needs l i) (left_point l) Punct (46 ∷ [])
dot_left Nothing i w p d n = (refl, refl, refl)
dot_left (Enclosed e) i w p d n = (refl, refl, refl)
dot_left (Single u) i w p d n =
    let q = dot_token (kind_of u) (text_of u) i (is_joint u) (own_utf8 u w) p d n in (
      all_of (λ m. suits m Punct (46 ∷ [])) six (left_needs (Single u) i) six_suit q.0,
      six_more
          (left_needs (Single u) i) q.0,
      q.1,
    )

loose_follows : (a b : Bool) (k : Kind) (x : Text) → a ≡ false → is_punct k ≡ false
    → Follows (cond a (Solidus ∷ []) [] ++ cond b (Loose ∷ []) []) false k x
loose_follows true b k x h p = cc
loose_follows false true k x h p = (
  and_from _ true (ap (λ z. not (z && keeps x)) p) refl,
  refl,
  and_false
      (begins_dot x),
)
loose_follows false false k x h p = (refl, refl, and_false (begins_dot x))

abbrev LeftFollows : Bool → Kind → Text → Kind → Text → Bool → Type 0
LeftFollows i k x l t j =
    Follows (cond (is_number_kind (laid l t) && (i && fronts_index (raw l t) [])) (Number ∷ [])
    (asks (laid l t) (raw l t)) ++ mark_asks (laid l t) (raw l t) j) (token_ends_in_point l t) k x

abbrev PunctFollows : Kind → Text → Text → Bool → Type 0
PunctFollows k x z j = Follows (asks Punct z ++ mark_asks Punct z j) false k x

mark_left : (c : ℕ) (l : Neighbour) (i : Bool) (k : Kind) (x : Text) → own l ≡ true → is_mark (c ∷ []) l ≡ true
    → is_joint_neighbour l ≡ false → c == 47 ≡ false → is_punct k ≡ false → Follows (left_needs l i) (left_point l) k x
mark_left c Nothing i k x w h j e p = cc
mark_left c (Enclosed d) i k x w h j e p = cc
mark_left c (Single u) i k x w h j e p =
    let q = and_parts (is_punct (kind_of u)) _ h in
    let t : chars (text_of u) ≡ c ∷ [] = own_punct u w q.0 ∙ bytes_same (text_of u) (c ∷ []) q.1 in
    subst (λ l. LeftFollows i k x l (text_of u) (is_joint u)) (sym (punct_is (kind_of u) q.0))
    (subst (λ z. PunctFollows k x z (is_joint u)) (sym t)
    (subst (λ z. PunctFollows k x (c ∷ []) z) (sym j) (loose_follows (c == 47) (keeps (c ∷ [])) k x e p)))

comma_at : (a b : Bool) → Follows (cond a (Solidus ∷ []) [] ++ cond b (Loose ∷ []) []) false Punct (44 ∷ [])
unfolding tables
comma_at true true = (refl, refl, refl)
comma_at true false = (refl, refl, refl)
comma_at false true = (refl, refl, refl)
comma_at false false = (refl, refl, refl)

semi_at : (a b : Bool) → Follows (cond a (Solidus ∷ []) [] ++ cond b (Loose ∷ []) []) false Punct (59 ∷ [])
unfolding tables
semi_at true true = (refl, refl, refl)
semi_at true false = (refl, refl, refl)
semi_at false true = (refl, refl, refl)
semi_at false false = (refl, refl, refl)

seven_at : (all (λ n. suits n Punct (44 ∷ [])) seven ≡ true) × (all (λ n. suits n Punct (59 ∷ [])) seven ≡ true)
    × (all (λ n. suits n Punct (63 ∷ [])) seven ≡ true)
    × (all (λ n. suits n Punct (58 ∷ [])) seven ≡ true) × (all (λ n. suits n Punct (33 ∷ [])) seven ≡ true)
    × (all (λ n. suits n Punct (60 ∷ [])) seven ≡ true)
    × (all (λ n. suits n Punct (62 ∷ [])) seven ≡ true) × (all (λ n. suits n (Opener Paren) (40 ∷ [])) seven ≡ true)
    × (all (λ n. suits n (Opener Bracket) (91 ∷ [])) seven ≡ true)
unfolding tables
seven_at = (refl, refl, refl, refl, refl, refl, refl, refl, refl)

-- a separator after any left one that is not joint
separator_left : (l : Neighbour) (i : Bool) (c : ℕ) → is_joint_neighbour l ≡ false → has_doc_kind l ≡ false
    → all (λ n. suits n Punct (c ∷ [])) seven ≡ true → begins_dot (c ∷ []) ≡ false
    → ((a b : Bool) → Follows (cond a (Solidus ∷ []) [] ++ cond b (Loose ∷ []) []) false Punct (c ∷ []))
    → Follows (left_needs l i) (left_point l) Punct (c ∷ [])
separator_left Nothing i c j d s e f = plain_left Nothing i Punct (c ∷ []) refl d s e
separator_left (Enclosed g) i c j d s e f = plain_left (Enclosed g) i Punct (c ∷ []) refl d s e
separator_left (Single u) i c j d s e f = elim (cases_Bool (is_punct (kind_of u))) [
  | inr p ↦ plain_left (Single u) i Punct (c ∷ []) p d s e
  | inl p ↦ subst (λ l. LeftFollows i Punct (c ∷ []) l (text_of u) (is_joint u)) (sym (punct_is (kind_of u) p))
      (subst (λ z. LeftFollows i Punct (c ∷ []) Punct (text_of u) z) (sym j)
      (f (begins (λ d. d == 47) (chars (text_of u))) (keeps (chars (text_of u)))))
]

-- a joint one on the left
abbrev pub joint_ok : Neighbour → Neighbour → Bool
joint_ok l r = not (is_joint_neighbour l)
    || (is_punct (kind_at l) && (is_punct (kind_at r) && (keeps (text_at r) && (not (is_nil (text_at r))
    && not (begins (λ c. c == 47) (text_at l) && begins (λ c. c == 47 || c == 42) (text_at r))))))

abbrev pub mark_ok : Neighbour → Neighbour → Bool
mark_ok l r = own l && (own r && joint_ok l r)

pub own_left : (l r : Neighbour) → mark_ok l r ≡ true → own l ≡ true
own_left l r m = (and_parts (own l) _ m).0

pub own_right : (l r : Neighbour) → mark_ok l r ≡ true → own r ≡ true
own_right l r m = (and_parts (own r) _ (and_parts (own l) _ m).1).0

joint_of : (l r : Neighbour) → mark_ok l r ≡ true → joint_ok l r ≡ true
joint_of l r m = (and_parts (own r) _ (and_parts (own l) _ m).1).1

solidus_glue : (x : Text) → not (is_nil x) ≡ true → not (begins (λ c. c == 47 || c == 42) x) ≡ true
    → glue Solidus x ≡ true
unfolding tables
solidus_glue [] n h = cc
solidus_glue (c ∷ []) n h = h
solidus_glue (c ∷ d ∷ x) n h = h

joint_follows : (a b : Bool) (x : Text) → keeps x ≡ true → not (is_nil x) ≡ true
    → not (a && begins (λ c. c == 47 || c == 42) x) ≡ true
    → Follows (cond a (Solidus ∷ []) [] ++ cond b (Joint ∷ []) []) false Punct x
joint_follows true true x k n h = (
  and_from _ _ (solidus_glue x n h) (and_from (keeps x) true k refl),
  refl,
  and_false
      (begins_dot x),
)
joint_follows true false x k n h = (and_from _ true (solidus_glue x n h) refl, refl, and_false (begins_dot x))
joint_follows false true x k n h = (and_from (keeps x) true k refl, refl, and_false (begins_dot x))
joint_follows false false x k n h = (refl, refl, and_false (begins_dot x))

or_rest : (a b : Bool) → a ≡ true → not a || b ≡ true → b ≡ true
or_rest true b e h = h
or_rest false b e h = cc

joint_left : (l r : Neighbour) (i : Bool) → is_joint_neighbour l ≡ true → mark_ok l r ≡ true
    → Follows (left_needs l i) (left_point l) (kind_at r) (text_at r)
joint_left Nothing r i j m = cc
joint_left (Enclosed d) r i j m = cc
joint_left (Single u) r i j m =
    let m1 = or_rest (is_joint u) _ j (joint_of (Single u) r m) in
    let q1 = and_parts (is_punct (laid_kind u)) _ m1 in
    let q2 = and_parts (is_punct (kind_at r)) _ q1.1 in
    let q3 = and_parts (keeps (text_at r)) _ q2.1 in
    let q4 = and_parts (not (is_nil (text_at r))) _ q3.1 in
    let k : kind_of u ≡ Punct = punct_is (kind_of u) (sym (laid_punct (kind_of u) (text_of u)) ∙ q1.0) in
    subst (λ z. Follows (left_needs (Single u) i) (left_point (Single u)) z (text_at r))
    (sym (punct_is (kind_at r) q2.0))
    (subst (λ l. LeftFollows i Punct (text_at r) l (text_of u) (is_joint u)) (sym k)
    (subst (λ z. LeftFollows i Punct (text_at r) Punct (text_of u) z) (sym j)
    (joint_follows (begins (λ d. d == 47) (chars (text_of u))) (keeps (chars (text_of u))) (text_at r) q3.0 q4.0
    (subst (λ l. not (begins (λ c. c == 47) (raw l (text_of u)) && begins (λ c. c == 47 || c == 42) (text_at r))
    ≡ true) k
    q4.1))))

-- the right one, where it is a certain Punct; where it is none
right_mark : (c : ℕ) (r : Neighbour) → own r ≡ true → is_mark (c ∷ []) r ≡ true
    → (kind_at r ≡ Punct) × (c ∷ [] ≡ text_at r)
right_mark c Nothing w h = cc
right_mark c (Enclosed d) w h = cc
right_mark c (Single u) w h =
    let q = and_parts (is_punct (kind_of u)) _ h in
    let k = punct_is (kind_of u) q.0 in (
      subst (λ z. laid z (text_of u) ≡ Punct) (sym k) refl,
      subst (λ z. c ∷ [] ≡ raw z (text_of u)) (sym k)
          (sym (own_punct u w q.0 ∙ bytes_same (text_of u) (c ∷ []) q.1)),
    )

right_punct : (r : Neighbour) → is_punct_neighbour r ≡ false → is_punct (kind_at r) ≡ false
right_punct Nothing h = refl
right_punct (Enclosed d) h = refl
right_punct (Single u) h = laid_punct (kind_of u) (text_of u) ∙ h

at_right : (c : ℕ) (l r : Neighbour) (i : Bool) → own r ≡ true → is_mark (c ∷ []) r ≡ true
    → Follows (left_needs l i) (left_point l) Punct (c ∷ [])
    → Follows (left_needs l i) (left_point l) (kind_at r) (text_at r)
at_right c l r i w h f =
    let q = right_mark c r w h in
    subst (λ z. Follows (left_needs l i) (left_point l) z (text_at r)) (sym q.0)
    (subst (λ z. Follows (left_needs l i) (left_point l) Punct z) q.1 f)

pub mark_punct : (c : ℕ) (r : Neighbour) → is_mark (c ∷ []) r ≡ true → is_punct_neighbour r ≡ true
mark_punct c Nothing h = cc
mark_punct c (Enclosed d) h = cc
mark_punct c (Single u) h = (and_parts (is_punct (kind_of u)) _ h).0

and_left_false : (a b : Bool) → a && b ≡ false → b ≡ true → a ≡ false
and_left_false true b h e = let f : true ≡ false = sym e ∙ h in cc
and_left_false false b h e = refl

and_right_false : (a b : Bool) → a && b ≡ false → a ≡ true → b ≡ false
and_right_false true b h e = h
and_right_false false b h e = cc

free_word_left : (l : Neighbour) → is_free_word l || is_paren l || is_bracket l ≡ true → is_punct_neighbour l ≡ false
free_word_left Nothing h = refl
free_word_left (Enclosed d) h = refl
free_word_left (Single u) h = at (kind_of u) (or_first _ h)
  where
    or_first : (a : Bool) → a || false || false ≡ true → a ≡ true
    or_first true h = refl
    or_first false h = cc

    at : (k : Kind) → elim k [ Ident ↦ not (is_strict (text_of u)) | RawIdent ↦ true | _ ↦ false ] ≡ true
        → is_punct k ≡ false
    at Punct h = cc
    at _ h = refl

group_right : (l r : Neighbour) (i : Bool) → is_paren r || is_bracket r ≡ true → is_punct_neighbour l ≡ false
    → has_doc_kind l ≡ false
    → Follows (left_needs l i) (left_point l) (kind_at r) (text_at r)
group_right l Nothing i h p d = cc
group_right l (Single u) i h p d = cc
group_right l (Enclosed Brace) i h p d = cc
group_right l (Enclosed Paren) i h p d = plain_left l i (Opener Paren) (40 ∷ []) p d seven_at.7 refl
group_right l (Enclosed Bracket) i h p d = plain_left l i (Opener Bracket) (91 ∷ []) p d seven_at.8 refl

nothing_left : (l : Neighbour) (i : Bool) (k : Kind) (x : Text) → is_nothing l ≡ true
    → Follows (left_needs l i) (left_point l) k x
nothing_left Nothing i k x h = (refl, refl, and_false (begins_dot x))
nothing_left (Single u) i k x h = cc
nothing_left (Enclosed d) i k x h = cc

pub first_of : (a b : Bool) → a && b ≡ true → a ≡ true
first_of true b h = refl
first_of false b h = cc

-- ---- where the table leaves no break

-- The right one may follow directly.
abbrev pub Glued : Seen → Neighbour → Type 0
Glued s r = Follows (left_needs s.last s.place) (left_point s.last) (kind_at r) (text_at r)

-- after the first four rows
module _ (s : Seen) (r : Neighbour) (m : mark_ok s.last r ≡ true) (k : Settled s r) where
  doc_free : has_doc_kind s.last ≡ false
  doc_free = no_doc_kind s.last (own_left s.last r m) (or_both _ _ k.no_doc).0

  separated : is_mark (codes ",") r || is_mark (codes ";") r ≡ true → Glued s r
  separated h = elim (or_cases (is_mark (codes ",") r) (is_mark (codes ";") r) h) [
    | inl e ↦ at_right 44 s.last r s.place (own_right s.last r m) e
        (separator_left s.last s.place 44 k.loose doc_free seven_at.0 refl comma_at)
    | inr e ↦ at_right 59 s.last r s.place (own_right s.last r m) e
        (separator_left s.last s.place 59 k.loose doc_free seven_at.1 refl semi_at)
  ]

  -- where they aren't both punctuation
  module _ (a : is_punct_neighbour s.last && is_punct_neighbour r ≡ false) where
    behind_mark : (c : ℕ) → c == 47 ≡ false → is_mark (c ∷ []) s.last ≡ true → Glued s r
    behind_mark c n e = mark_left c s.last s.place (kind_at r) (text_at r) (own_left s.last r m) e k.loose n
        (right_punct r (and_right_false _ _ a (mark_punct c s.last e)))

    before_mark : (c : ℕ) → all (λ n. suits n Punct (c ∷ [])) seven ≡ true → begins_dot (c ∷ []) ≡ false
        → is_mark (c ∷ []) r ≡ true → Glued s r
    before_mark c t d e = at_right c s.last r s.place (own_right s.last r m) e
        (plain_left s.last s.place Punct (c ∷ []) (and_left_false _ _ a (mark_punct c r e)) doc_free t d)

    before_point : is_mark (codes ".") r && is_number s.place s.last ≡ false → is_mark (codes ".") r ≡ true → Glued s r
    before_point n e = at_right 46 s.last r s.place (own_right s.last r m) e
        (dot_left s.last s.place (own_left s.last r m) (and_left_false _ _ a (mark_punct 46 r e)) doc_free
        (and_right_false (is_mark (codes ".") r) _ n e))

    by_row : (s.opens ≡ true → is_mark (codes "<") s.last ≡ true)
        → (s.closes ≡ true → is_mark (codes ">") s.last ≡ true)
        → is_mark (codes ".") r && is_number s.place s.last ≡ false → AnyRow (last_rows s r) → Glued s r
    by_row o c n (inl h) = elim (or_cases (is_mark (codes ".") r || is_mark (codes "?") r) _ h) [
      | inr e ↦ before_mark 58 seven_at.3 refl e
      | inl e ↦ elim (or_cases (is_mark (codes ".") r) _ e) [
        | inl e ↦ before_point n e
        | inr e ↦ before_mark 63 seven_at.2 refl e
      ]
    ]
    by_row o c n (inr (inl h)) = before_mark 33 seven_at.4 refl (first_of _ _ (first_of _ _ h))
    by_row o c n (inr (inr (inl h))) = elim (or_cases (is_mark (codes ".") s.last) _ h) [
      | inl e ↦ behind_mark 46 refl e
      | inr e ↦ behind_mark 58 refl (first_of _ _ (first_of _ _ e))
    ]
    by_row o c n (inr (inr (inr (inl h)))) = elim (or_cases (is_mark (codes "!") s.last) _ (first_of _ _ h)) [
      | inl e ↦ behind_mark 33 refl e
      | inr e ↦ behind_mark 36 refl e
    ]
    by_row o c n (inr (inr (inr (inr (inl h))))) = behind_mark 35 refl (first_of _ _ h)
    by_row o c n (inr (inr (inr (inr (inr (inl h)))))) =
        elim (or_cases (is_mark (codes "&") s.last || is_mark (codes "*") s.last) _ (first_of _ _ (first_of _ _ h))) [
          | inr e ↦ behind_mark 45 refl e
          | inl e ↦ elim (or_cases (is_mark (codes "&") s.last) _ e) [
            | inl e ↦ behind_mark 38 refl e
            | inr e ↦ behind_mark 42 refl e
          ]
        ]
    by_row o c n (inr (inr (inr (inr (inr (inr (inl h))))))) =
        elim (or_cases (s.opens || opens_turbofish s r || ends_turbofish s r) _ h) [
          | inr e ↦ behind_mark 62 refl (c (first_of _ _ e))
          | inl e ↦ elim (or_cases (s.opens || opens_turbofish s r) _ e) [
            | inr e ↦ before_mark 62 seven_at.6 refl (first_of (is_mark (codes ">") r) _ e)
            | inl e ↦ elim (or_cases s.opens _ e) [
              | inl e ↦ behind_mark 60 refl (o e)
              | inr e ↦ before_mark 60 seven_at.5 refl (first_of (is_mark (codes "<") r) _ e)
            ]
          ]
        ]
    by_row o c n (inr (inr (inr (inr (inr (inr (inr (inl h)))))))) =
        let q = and_parts (is_paren r || is_bracket r) _ h in
        group_right s.last r s.place q.0 (free_word_left s.last q.1) doc_free
    by_row o c n (inr (inr (inr (inr (inr (inr (inr (inr h)))))))) = absurd h

pub core : (s : Seen) (r : Neighbour) → mark_ok s.last r ≡ true → (s.opens ≡ true → is_mark (codes "<") s.last ≡ true)
    → (s.closes ≡ true → is_mark (codes ">") s.last ≡ true) → Way s r NoBreak → Glued s r
core s r m o c (AtStart h e) = nothing_left s.last s.place (kind_at r) (text_at r) h
core s r m o c (BehindLine h e) = cc
core s r m o c (ByDoc n h e) = cc
core s r m o c (BehindJoint h e) = joint_left s.last r s.place h m
core s r m o c (ByTokens k e) = by (glue_of s r e)
  where
    by : Glue s r → Glued s r
    by (BySeparator h) = separated s r m k h
    by (ByRow a n row) = by_row s r m k a o c n row

-- ---- where it leaves a break

-- a left one that is no line doc and not joint
plain_blank : (k : Kind) (t : Text) (i : Bool) → is_doc_kind k ≡ false
    → all (λ n. blank_ok n && line_ok n)
    (cond (is_number_kind (laid k t) && i) (Number ∷ []) (asks (laid k t) (raw k t))
    ++ mark_asks (laid k t) (raw k t) false) ≡ true
plain_blank (Doc inner block) t i h = cc
plain_blank Punct t i h = at (begins (λ c. c == 47) (chars t)) (keeps (chars t))
  where
    at : (a b : Bool) → all (λ n. blank_ok n && line_ok n) (cond a (Solidus ∷ []) [] ++ cond b (Loose ∷ []) []) ≡ true
    at true true = refl
    at true false = refl
    at false true = refl
    at false false = refl
plain_blank Int t true h = refl
plain_blank Int t false h = int_asks (λ n. blank_ok n && line_ok n) (is_bare_int (chars t)) refl refl
plain_blank Float t true h = refl
plain_blank Float t false h = refl
plain_blank _ t i h = refl

doc_blank : (b : Bool) → not b ≡ false → all (λ n. blank_ok n && line_ok n) (cond b [] (LineDoc ∷ []) ++ []) ≡ true
doc_blank true h = refl
doc_blank false h = cc

left_blank : (l : Neighbour) (i : Bool) → own l ≡ true → is_line_doc l ≡ false → is_joint_neighbour l ≡ false
    → all (λ n. blank_ok n && line_ok n) (left_needs l i) ≡ true
left_blank Nothing i w d j = refl
left_blank (Enclosed g) i w d j = refl
left_blank (Single (listed.Doc inner t)) i w d j = doc_blank (as_block inner t) d
left_blank (Single (listed.Token k t joint)) i w d j =
    subst (λ z. all (λ n. blank_ok n && line_ok n)
    (cond (is_number_kind (laid k t) && (i && fronts_index (raw k t) [])) (Number ∷ [])
    (asks (laid k t) (raw k t)) ++ mark_asks (laid k t) (raw k t) z) ≡ true)
    (sym j) (plain_blank k t _ (no_doc_kind (Single (listed.Token k t joint)) w refl))

doc_line : (b : Bool) → all line_ok (cond b [] (LineDoc ∷ []) ++ []) ≡ true
doc_line true = refl
doc_line false = refl

left_line : (l : Neighbour) (i : Bool) → is_line_doc l ≡ true → all line_ok (left_needs l i) ≡ true
left_line Nothing i h = cc
left_line (Enclosed g) i h = cc
left_line (Single (listed.Token k t joint)) i h = cc
left_line (Single (listed.Doc inner t)) i h = doc_line (as_block inner t)

-- no joint one is before a doc, or one
pub joint_no_doc : (l r : Neighbour) → mark_ok l r ≡ true → is_doc l || is_doc r ≡ true → is_joint_neighbour l ≡ false
joint_no_doc Nothing r m d = refl
joint_no_doc (Enclosed g) r m d = refl
joint_no_doc (Single u) r m d = elim (cases_Bool (is_joint u)) [
  | inr e ↦ e
  | inl e ↦
      let m1 = or_rest (is_joint u) _ e (joint_of (Single u) r m) in
      let q1 = and_parts (is_punct (laid_kind u)) _ m1 in
      let q2 = and_parts (is_punct (kind_at r)) _ q1.1 in
      absurd (elim (or_cases (listing.is_doc u) (is_doc r) d) [ inl h ↦ left u e h | inr h ↦ right r q2.0 h ])
]
  where
    left : (u : Listed) → is_joint u ≡ true → listing.is_doc u ≡ true → ⊥
    left (listed.Token k t joint) e h = cc
    left (listed.Doc inner t) e h = cc

    right : (r : Neighbour) → is_punct (kind_at r) ≡ true → is_doc r ≡ true → ⊥
    right Nothing p d = cc
    right (Enclosed g) p d = cc
    right (Single (listed.Token k t joint)) p d = cc
    right (Single (listed.Doc inner t)) p d = cc

-- a blank and a newline may stand after the left one
pub gap_core : (s : Seen) (r : Neighbour) → mark_ok s.last r ≡ true → Way s r SoftBreak
    → all blank_ok (left_needs s.last s.place) && all line_ok (left_needs s.last s.place) ≡ true
gap_core s r m w =
    let ns = left_needs s.last s.place in
    let both : all (λ n. blank_ok n && line_ok n) ns ≡ true = by w in
    and_from (all blank_ok ns) _
    (all_by (λ n. blank_ok n && line_ok n) blank_ok ns (λ n q. (and_parts (blank_ok n) _ q).0) both)
    (all_by (λ n. blank_ok n && line_ok n) line_ok ns (λ n q. (and_parts (blank_ok n) _ q).1) both)
  where
    by : Way s r SoftBreak → all (λ n. blank_ok n && line_ok n) (left_needs s.last s.place) ≡ true
    by (AtStart h e) = cc
    by (BehindLine h e) = cc
    by (ByDoc n h e) = left_blank s.last s.place (own_left s.last r m) n (joint_no_doc s.last r m h)
    by (BehindJoint h e) = cc
    by (ByTokens k e) = left_blank s.last s.place (own_left s.last r m) k.no_line k.loose

pub line_first : (s : Seen) (r : Neighbour) → Way s r HardBreak → is_line_doc s.last ≡ true
line_first s r (AtStart h e) = cc
line_first s r (BehindLine h e) = h
line_first s r (ByDoc n h e) = cc
line_first s r (BehindJoint h e) = cc
line_first s r (ByTokens k e) = absurd (later_soft s r e)

pub line_core : (s : Seen) (r : Neighbour) → Way s r HardBreak → all line_ok (left_needs s.last s.place) ≡ true
line_core s r h = left_line s.last s.place (line_first s r h)
