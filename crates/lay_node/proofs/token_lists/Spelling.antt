-- What spells the groups of a list: its tokens, one by one.
use Rattle.std.proofs.Common.{◌≡◌, ℕ, Bool, true, false, not, ◌&&◌, ◌||◌, List, [], ◌∷◌, ◌++◌, refl, sym, ap, ◌∙◌, subst, append_assoc}
use Rattle.std.specs.List.{list_all}
use Rattle.std.specs.Str.{is_utf8}
use Rattle.std.proofs.lemmas.Bool.{and_parts, not-true}
use Rattle.lay_piece.specs.Forms.{opening, closing}
use Rattle.lay_token.specs.Lexes.{is_punct}
use Rattle.lay_piece.specs.declared.kind.Delim.{Delim}
use Rattle.lay_piece.specs.declared.kind.Delim.TheVariants.{Paren, Bracket, Brace}
use Rattle.lay_piece.specs.declared.kind.Kind.{Kind}
use Rattle.lay_piece.specs.declared.kind.Kind.TheVariants.{Punct, Opener, Closer, Doc}
use Rattle.lay_token.specs.declared.token.Token.{Token}
use Rattle.lay_form.specs.Form.{Form, Done, Piece, Part, opener, closer}
use Rattle.lay_form.specs.Notation.{C4, I0, piece}
use Rattle.lay_form.specs.Spelled.{IsOne, Spells}
use Rattle.lay_node.specs.Ahead.{Tokens}
use Rattle.lay_node.specs.reader.Exact.{is_loose}
use Rattle.lay_node.specs.tokens.Lists.{opened_by, closed_by, enclosed_form, form_of_grouping}
use Rattle.lay_node.specs.tokens.Lexed.{is_had, may_join, fits, ends_apart, may_be_laid, is_token_list}
use Rattle.lay_node.specs.tokens.Listing.{is_doc_kind, is_balanced, in_groups, kind_of, text_of, listed_form, listed_by, as_listed, Grouping, NoMore, OneToken, OneGroup}
use Rattle.lay_node.specs.tokens.Pairs.{Neighbour, Nothing, is_joint_neighbour, is_index_place, Seen, Single, Enclosed, Separation, NoBreak, SoftBreak, HardBreak, between, leads, is_line_doc, seen_token, behind_group, seen_all, at_start}
use Rattle.lay_node.specs.declared.token.Listed.{Listed}
use Rattle.lay_node.specs.declared.token.Listed.TheVariants as listed
use Rattle.lay_node.proofs.token_lists.Decided.{listed_token}
use Rattle.lay_node.proofs.token_lists.Grouped as grouped
use Rattle.lay_node.proofs.token_lists.Grouped.{opener_token, closer_token, flat, list_grouped}

-- ---- a row of tokens

-- The beginning of the tokens, up to the rest, is listed so.
abbrev pub IsRow : List Listed → Tokens → Tokens → Type 0
IsRow [] ts rest = ts ≡ rest
IsRow (u ∷ us) [] rest = ⊥
IsRow (u ∷ us) (t ∷ ts) rest = (as_listed t ≡ u) × IsRow us ts rest

pub row_joined : (us vs : List Listed) (ts mid rest : Tokens) → IsRow us ts mid → IsRow vs mid rest → IsRow (us ++ vs) ts rest
row_joined [] vs ts mid rest r s = subst (λ z. IsRow vs z rest) (sym r) s
row_joined (u ∷ us) vs [] mid rest r s = absurd r
row_joined (u ∷ us) vs (t ∷ ts) mid rest r s = (r.0, row_joined us vs ts mid rest r.1 s)

pub row_parts : (us vs : List Listed) (ts rest : Tokens) → IsRow (us ++ vs) ts rest
    → (mid : Tokens) × IsRow us ts mid × IsRow vs mid rest
row_parts [] vs ts rest r = (ts, refl, r)
row_parts (u ∷ us) vs [] rest r = absurd r
row_parts (u ∷ us) vs (t ∷ ts) rest r = let p = row_parts us vs ts rest r.1 in (p.0, (r.0, p.1), p.2)

row_loose : (us : List Listed) (ts rest : Tokens) → IsRow us ts rest → list_all is_loose ts ≡ true → list_all is_loose rest ≡ true
row_loose [] ts rest r l = subst (λ z. list_all is_loose z ≡ true) r l
row_loose (u ∷ us) [] rest r l = absurd r
row_loose (u ∷ us) (t ∷ ts) rest r l = row_loose us ts rest r.1 (and_parts (is_loose t) (list_all is_loose ts) l).1

-- ---- one token

-- A token of the list tells all that a token of a text does.
abbrev pub IsTold : Listed → Type 0
IsTold (listed.Token kind text joint) = listed_by kind text joint ≡ listed.Token kind text joint
IsTold (listed.Doc inner text) = Unit {0}

one_row : (u : Listed) (f : Form) (n : ℕ) (ts rest : Tokens) → IsTold u → Spells (listed_form u f) n ts rest
    → (mid : Tokens) × IsRow (u ∷ []) ts mid × Spells f n mid rest
one_row (listed.Token k x j) f n [] rest m s = absurd s.1
one_row (listed.Token k x j) f n (t ∷ ts) rest m s =
    let q = s.1 in (s.0, ((λ v. listed_by (q.0 v) (q.1 v) (q.2 v)) ∙ m, q.3), s.2)
one_row (listed.Doc inner x) f n [] rest m s = absurd s.1
one_row (listed.Doc inner x) f n (t ∷ ts) rest m s =
    let q = s.1 in (s.0, ((λ v. listed_by (q.1 v) (q.2 v) t.joint), q.3), s.2)

one_spelled : (t : Token) (f : Form) (n : ℕ) (ts rest : Tokens) → is_loose t ≡ true → Spells f n ts rest
    → Spells (listed_form (as_listed t) f) n (t ∷ ts) rest
one_spelled t f n ts rest l s = by t.kind refl
  where
    plain : (k : Kind) → t.kind ≡ k → is_punct k ≡ false → Spells (listed_form (listed.Token k t.text (is_punct k && t.joint)) f) n (t ∷ ts) rest
    plain k e p =
        let unjoint : t.joint ≡ false = not-true t.joint (sym (ap (λ z. z || not t.joint) (ap is_punct e ∙ p)) ∙ l) in
        (ts, (e, refl, unjoint ∙ sym (ap (λ z. z && t.joint) p), refl), s)

    by : (k : Kind) → t.kind ≡ k → Spells (listed_form (listed_by k t.text t.joint) f) n (t ∷ ts) rest
    by (Doc inner block) e = (ts, (block, e, refl, refl), s)
    by Punct e = (ts, (e, refl, refl, refl), s)
    by k e = plain k e refl

opener_row : (d : Delim) (ts mid : Tokens) → IsOne (Opener d) (opening d ∷ []) ts mid → IsRow (opener_token d ∷ []) ts mid
opener_row d [] mid o = o
opener_row d (t ∷ ts) mid o = ((λ v. listed_by (o.0 v) (o.1 v) t.joint), o.2)

closer_row : (d : Delim) (ts mid : Tokens) → IsOne (Closer d) (closing d ∷ []) ts mid → IsRow (closer_token d ∷ []) ts mid
closer_row d [] mid o = o
closer_row d (t ∷ ts) mid o = ((λ v. listed_by (o.0 v) (o.1 v) t.joint), o.2)

pub opener_one : (d : Delim) (t : Token) (ts : Tokens) → as_listed t ≡ opener_token d → IsOne (Opener d) (opening d ∷ []) (t ∷ ts) ts
opener_one d t ts e = by t.kind refl
  where
    by : (k : Kind) → t.kind ≡ k → IsOne (Opener d) (opening d ∷ []) (t ∷ ts) ts
    by (Doc inner block) i = let f : listed.Doc inner t.text ≡ opener_token d = sym (ap (λ z. listed_by z t.text t.joint) i) ∙ e in absurd (cc)
    by k i = let f : listed_by k t.text t.joint ≡ opener_token d = sym (ap (λ z. listed_by z t.text t.joint) i) ∙ e in
        (i ∙ ap kind_of f, ap text_of f, refl)

pub closer_one : (d : Delim) (t : Token) (ts : Tokens) → as_listed t ≡ closer_token d → IsOne (Closer d) (closing d ∷ []) (t ∷ ts) ts
closer_one d t ts e = by t.kind refl
  where
    by : (k : Kind) → t.kind ≡ k → IsOne (Closer d) (closing d ∷ []) (t ∷ ts) ts
    by (Doc inner block) i = let f : listed.Doc inner t.text ≡ closer_token d = sym (ap (λ z. listed_by z t.text t.joint) i) ∙ e in absurd (cc)
    by k i = let f : listed_by k t.text t.joint ≡ closer_token d = sym (ap (λ z. listed_by z t.text t.joint) i) ∙ e in
        (i ∙ ap kind_of f, ap text_of f, refl)

-- ---- groups

-- The tokens of these groups tell all that tokens of a text do.
abbrev pub AreTold : Grouping → Type 0
AreTold NoMore = Unit {0}
AreTold (OneToken t r) = IsTold t × AreTold r
AreTold (OneGroup d i r) = AreTold i × AreTold r

behind_break : (s : Separation) (f : Form) (n : ℕ) (ts rest : Tokens) → Spells (leads s f) n ts rest → Spells f n ts rest
behind_break NoBreak f n ts rest s = s
behind_break SoftBreak f n ts rest s = s
behind_break HardBreak f n ts rest s = s

led : (s : Separation) (f : Form) (n : ℕ) (ts rest : Tokens) → Spells f n ts rest → Spells (leads s f) n ts rest
led NoBreak f n ts rest s = s
led SoftBreak f n ts rest s = s
led HardBreak f n ts rest s = s

-- what stands between the delimiters of a group with tokens, and after it
abbrev Inside : Delim → Form → ℕ → Tokens → Tokens → Type 0
Inside d x n ts rest = (mid : Tokens) × Spells x n ts mid × IsOne (Closer d) (closing d ∷ []) mid rest

inside_of : (line : Bool) (d : Delim) (x : Form) (n : ℕ) (ts rest : Tokens)
    → Spells (opened_by d (I0 x (closed_by line d (piece (closer d ∷ []))))) n ts rest → Inside d x n ts rest
inside_of true Paren x n ts rest s = (s.0, s.1, subst (IsOne _ _ s.0) (s.2.1.2 ∙ s.2.2) s.2.1.1)
inside_of true Bracket x n ts rest s = (s.0, s.1, subst (IsOne _ _ s.0) (s.2.1.2 ∙ s.2.2) s.2.1.1)
inside_of true Brace x n ts rest s = (s.0, s.1, subst (IsOne _ _ s.0) (s.2.1.2 ∙ s.2.2) s.2.1.1)
inside_of false Paren x n ts rest s = (s.0, s.1, subst (IsOne _ _ s.0) (s.2.1.2 ∙ s.2.2) s.2.1.1)
inside_of false Bracket x n ts rest s = (s.0, s.1, subst (IsOne _ _ s.0) (s.2.1.2 ∙ s.2.2) s.2.1.1)
inside_of false Brace x n ts rest s = (s.0, s.1, subst (IsOne _ _ s.0) (s.2.1.2 ∙ s.2.2) s.2.1.1)

inside_spelled : (line : Bool) (d : Delim) (x : Form) (n : ℕ) (ts mid rest : Tokens) → Spells x n ts mid
    → IsOne (Closer d) (closing d ∷ []) mid rest
    → Spells (opened_by d (I0 x (closed_by line d (piece (closer d ∷ []))))) n ts rest
inside_spelled true Paren x n ts mid rest s o = (mid, s, (rest, (rest, o, refl), refl))
inside_spelled true Bracket x n ts mid rest s o = (mid, s, (rest, (rest, o, refl), refl))
inside_spelled true Brace x n ts mid rest s o = (mid, s, (rest, (rest, o, refl), refl))
inside_spelled false Paren x n ts mid rest s o = (mid, s, (rest, (rest, o, refl), refl))
inside_spelled false Bracket x n ts mid rest s o = (mid, s, (rest, (rest, o, refl), refl))
inside_spelled false Brace x n ts mid rest s o = (mid, s, (rest, (rest, o, refl), refl))

abbrev pub grouped_tokens : Delim → Grouping → List Listed
grouped_tokens d i = opener_token d ∷ (flat i ++ closer_token d ∷ [])

split : (d : Delim) (i r : Grouping) → grouped_tokens d i ++ flat r ≡ flat (OneGroup d i r)
split d i r = ap (λ z. opener_token d ∷ z) (append_assoc (flat i) (closer_token d ∷ []) (flat r))

-- a group, and what follows it
module _ (d : Delim) (line : Bool) (x f : Form) (n : ℕ) where
  full_row : (i : Grouping) (ts rest : Tokens) → ((us vs : Tokens) → Spells x n us vs → IsRow (flat i) us vs)
      → Spells (C4 (Piece (opener d ∷ []) (opened_by d (I0 x (closed_by line d (piece (closer d ∷ [])))))) f) n ts rest
      → (mid : Tokens) × IsRow (grouped_tokens d i) ts mid × Spells f n mid rest
  full_row i ts rest g s =
      let q = s.1 in
      let o : IsOne (Opener d) (opening d ∷ []) ts q.0 = subst (IsOne (Opener d) (opening d ∷ []) ts) q.1.2 q.1.1 in
      let p = inside_of line d x n q.0 s.0 q.2 in (
        s.0,
        row_joined (opener_token d ∷ []) (flat i ++ closer_token d ∷ []) ts q.0 s.0 (opener_row d ts q.0 o)
            (row_joined (flat i) (closer_token d ∷ []) q.0 p.0 s.0 (g q.0 p.0 p.1) (closer_row d p.0 s.0 p.2)),
        s.2,
      )

  pub enclosed_row : (i : Grouping) (ts rest : Tokens) → ((us vs : Tokens) → Spells x n us vs → IsRow (flat i) us vs)
      → Spells (enclosed_form d i line x f) n ts rest → (mid : Tokens) × IsRow (grouped_tokens d i) ts mid × Spells f n mid rest
  enclosed_row NoMore ts rest g s =
      let q = s.1 in
      let c = q.2 in (
        s.0,
        row_joined (opener_token d ∷ []) (closer_token d ∷ []) ts q.0 s.0 (opener_row d ts q.0 q.1)
            (closer_row d q.0 s.0 (subst (IsOne (Closer d) (closing d ∷ []) q.0) c.2 c.1)),
        s.2,
      )
  enclosed_row (OneToken t r) ts rest g s = full_row (OneToken t r) ts rest g s
  enclosed_row (OneGroup e j r) ts rest g s = full_row (OneGroup e j r) ts rest g s

  full_spelled : (i : Grouping) (ts mid rest : Tokens) → list_all is_loose ts ≡ true
      → ((us vs : Tokens) → list_all is_loose us ≡ true → IsRow (flat i) us vs → Spells x n us vs)
      → IsRow (grouped_tokens d i) ts mid → Spells f n mid rest
      → Spells (C4 (Piece (opener d ∷ []) (opened_by d (I0 x (closed_by line d (piece (closer d ∷ [])))))) f) n ts rest
  full_spelled i [] mid rest l g r s = absurd r
  full_spelled i (t ∷ ts) mid rest l g r s =
      let p = row_parts (flat i) (closer_token d ∷ []) ts mid r.1 in
      let loose = (and_parts (is_loose t) (list_all is_loose ts) l).1 in
      (mid, (ts, (ts, opener_one d t ts r.0, refl), inside_spelled line d x n ts p.0 mid (g ts p.0 loose p.1) (closer_here p.0 p.2)), s)
    where
      closer_here : (us : Tokens) → IsRow (closer_token d ∷ []) us mid → IsOne (Closer d) (closing d ∷ []) us mid
      closer_here [] r = absurd r
      closer_here (u ∷ us) r = subst (IsOne (Closer d) (closing d ∷ []) (u ∷ us)) r.1 (closer_one d u us r.0)

  pub enclosed_spelled : (i : Grouping) (ts mid rest : Tokens) → list_all is_loose ts ≡ true
      → ((us vs : Tokens) → list_all is_loose us ≡ true → IsRow (flat i) us vs → Spells x n us vs)
      → IsRow (grouped_tokens d i) ts mid → Spells f n mid rest → Spells (enclosed_form d i line x f) n ts rest
  enclosed_spelled NoMore [] mid rest l g r s = absurd r
  enclosed_spelled NoMore (t ∷ []) mid rest l g r s = absurd r.1
  enclosed_spelled NoMore (t ∷ u ∷ ts) mid rest l g r s =
      (mid, (u ∷ ts, opener_one d t (u ∷ ts) r.0, (mid, subst (IsOne (Closer d) (closing d ∷ []) (u ∷ ts)) r.1.1 (closer_one d u ts r.1.0), refl)), s)
  enclosed_spelled (OneToken t r) ts mid rest l g w s = full_spelled (OneToken t r) ts mid rest l g w s
  enclosed_spelled (OneGroup e j r) ts mid rest l g w s = full_spelled (OneGroup e j r) ts mid rest l g w s

-- a part with nothing after it
part_alone : (f : Form) (n : ℕ) (ts rest : Tokens) → Spells (Part f Done) n ts rest → Spells f n ts rest
part_alone f n ts rest s = subst (λ z. Spells f n ts z) s.2 s.1

-- ---- lists

pub groups_row : (g : Grouping) (s : Seen) (n : ℕ) (ts rest : Tokens) → AreTold g → Spells (form_of_grouping s g) n ts rest
    → IsRow (flat g) ts rest
groups_row NoMore s n ts rest a e = e
groups_row (OneToken t r) s n ts rest a e =
    let f = Part (form_of_grouping (seen_token s t) r) Done in
    let q = one_row t f n ts rest a.0 (behind_break (between s (Single t)) (listed_form t f) n ts rest e) in
    row_joined (t ∷ []) (flat r) ts q.0 rest q.1
    (groups_row r (seen_token s t) n q.0 rest a.1 (part_alone (form_of_grouping (seen_token s t) r) n q.0 rest q.2))
groups_row (OneGroup d i r) s n ts rest a e =
    let last = seen_all (at_start s.count) i in
    let x = form_of_grouping (at_start s.count) i in
    let y = form_of_grouping (behind_group d last.count) r in
    let q = enclosed_row d (is_line_doc last.last) x (Part y Done) n i ts rest
    (λ us vs p. groups_row i (at_start s.count) n us vs a.0 p)
    (behind_break (between s (Enclosed d)) (enclosed_form d i (is_line_doc last.last) x (Part y Done)) n ts rest e) in
    subst (λ z. IsRow z ts rest) (split d i r)
    (row_joined (grouped_tokens d i) (flat r) ts q.0 rest q.1
    (groups_row r (behind_group d last.count) n q.0 rest a.1 (part_alone y n q.0 rest q.2)))

pub groups_spelled : (g : Grouping) (s : Seen) (n : ℕ) (ts rest : Tokens) → list_all is_loose ts ≡ true → IsRow (flat g) ts rest
    → Spells (form_of_grouping s g) n ts rest
groups_spelled NoMore s n ts rest l r = r
groups_spelled (OneToken t g) s n [] rest l r = absurd r
groups_spelled (OneToken t g) s n (u ∷ ts) rest l r =
    let f = Part (form_of_grouping (seen_token s t) g) Done in
    let k = and_parts (is_loose u) (list_all is_loose ts) l in
    let more : Spells f n ts rest = (rest, groups_spelled g (seen_token s t) n ts rest k.1 r.1, refl) in
    led (between s (Single t)) (listed_form t f) n (u ∷ ts) rest
    (subst (λ z. Spells (listed_form z f) n (u ∷ ts) rest) r.0 (one_spelled u f n ts rest k.0 more))
groups_spelled (OneGroup d i g) s n ts rest l r =
    let last = seen_all (at_start s.count) i in
    let x = form_of_grouping (at_start s.count) i in
    let y = form_of_grouping (behind_group d last.count) g in
    let p = row_parts (grouped_tokens d i) (flat g) ts rest (subst (λ z. IsRow z ts rest) (sym (split d i g)) r) in
    let more : Spells (Part y Done) n p.0 rest =
    (rest, groups_spelled g (behind_group d last.count) n p.0 rest (row_loose (grouped_tokens d i) ts p.0 p.1 l) p.2, refl) in
    led (between s (Enclosed d)) (enclosed_form d i (is_line_doc last.last) x (Part y Done)) n ts rest
    (enclosed_spelled d (is_line_doc last.last) x (Part y Done) n i ts p.0 rest l
    (λ us vs k q. groups_spelled i (at_start s.count) n us vs k q) p.1 more)

-- ---- lists that texts lex to

abbrev AllTold : List Listed → Type 0
AllTold [] = Unit {0}
AllTold (u ∷ us) = IsTold u × AllTold us

told_behind : (us vs : List Listed) → AllTold (us ++ vs) → AllTold us × AllTold vs
told_behind [] vs a = (tt, a)
told_behind (u ∷ us) vs a = let m = told_behind us vs a.1 in ((a.0, m.0), m.1)

told_in : (g : Grouping) → AllTold (flat g) → AreTold g
told_in NoMore a = tt
told_in (OneToken t r) a = (a.0, told_in r a.1)
told_in (OneGroup d i r) a =
    let m = told_behind (flat i) (closer_token d ∷ flat r) a.1 in (told_in i m.0, told_in r m.1.1)

told_one : (u : Listed) (place : Bool) → is_had place u ≡ true → grouped.is_loose u ≡ true → IsTold u
told_one (listed.Token kind text joint) place h l =
    listed_token kind text joint (not-true (is_doc_kind kind) (and_parts (not (is_doc_kind kind)) _ (and_parts (not (is_doc_kind kind) && is_utf8 text) _ h).0).0)
    (unjoint joint (is_punct kind) l)
  where
    unjoint : (j p : Bool) → not j || p ≡ true → p ≡ false → j ≡ false
    unjoint true true l e = absurd (cc)
    unjoint true false l e = absurd (cc)
    unjoint false p l e = refl
told_one (listed.Doc inner text) place h l = tt

all_told : (before last : Neighbour) (us : List Listed) → fits before last us ≡ true → list_all grouped.is_loose us ≡ true → AllTold us
all_told before last [] f l = tt
all_told before last (u ∷ us) f l =
    let may = not (is_joint_neighbour last) || may_join last (Single u) in
    let a = and_parts (may && is_had (is_index_place before last) u) (fits last (Single u) us) f in
    let b = and_parts (grouped.is_loose u) (list_all grouped.is_loose us) l in
    (told_one u (is_index_place before last) (and_parts may _ a.0).1 b.0, all_told last (Single u) us a.1 b.1)

-- the four conditions of the test
pub record ListParts (us : List Listed) : Type 0 where
  pub fit : fits Nothing Nothing us ≡ true
  pub apart : ends_apart Nothing us ≡ true
  pub balanced : is_balanced us ≡ true
  pub docs : list_all may_be_laid us ≡ true

pub list_parts : (us : List Listed) → is_token_list us ≡ true → ListParts us
list_parts us h =
    let a = and_parts (fits Nothing Nothing us && ends_apart Nothing us && is_balanced us) _ h in
    let b = and_parts (fits Nothing Nothing us && ends_apart Nothing us) _ a.0 in
    let c = and_parts (fits Nothing Nothing us) _ b.0 in
    record { fit = c.0; apart = c.1; balanced = b.1; docs = a.1 }

list_told : (us : List Listed) → is_token_list us ≡ true → AreTold (in_groups us)
list_told us h =
    let p = list_parts us h in
    told_in (in_groups us) (subst AllTold (sym (list_grouped us h).whole)
    (all_told Nothing Nothing us p.fit (grouped.row_loose Nothing Nothing us p.fit p.apart)))

pub list_row : (us : List Listed) (s : Seen) (n : ℕ) (ts rest : Tokens) → is_token_list us ≡ true
    → Spells (form_of_grouping s (in_groups us)) n ts rest → IsRow us ts rest
list_row us s n ts rest h e =
    subst (λ z. IsRow z ts rest) (list_grouped us h).whole (groups_row (in_groups us) s n ts rest (list_told us h) e)

pub list_spelled : (us : List Listed) (s : Seen) (n : ℕ) (ts rest : Tokens) → is_token_list us ≡ true
    → list_all is_loose ts ≡ true → IsRow us ts rest → Spells (form_of_grouping s (in_groups us)) n ts rest
list_spelled us s n ts rest h l r =
    groups_spelled (in_groups us) s n ts rest l (subst (λ z. IsRow z ts rest) (sym (list_grouped us h).whole) r)
