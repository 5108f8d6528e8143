-- Token lists and groups: what is read is spelled, and well formed, and what is spelled is read.
use Rattle.std.proofs.Common.{◌≡◌, ℕ, ◌<◌, Bool, true, false, not, ◌&&◌, ◌||◌, List, [], ◌∷◌, ◌++◌, length, map, Some, None, inl, inr, if◌then◌else◌, refl, sym, ap, ◌∙◌, subst, append-nil, length-append, codes, arith}
use Rattle.std.specs.List.{list_all}
use Rattle.std.specs.Str.{bytes_eq}
use Rattle.std.proofs.lemmas.Bool.{and_parts, and_from, or_parts}
use Rattle.std.proofs.lemmas.List.{map-append}
use Rattle.lay_token.specs.Delimiters.{is_opener, is_closer}
use Rattle.lay_piece.specs.Forms.{opening, closing}
use Rattle.lay_token.specs.Lexes.{is_punct}
use Rattle.lay_piece.specs.declared.kind.Delim.{Delim}
use Rattle.lay_piece.specs.declared.kind.Kind.{Kind}
use Rattle.lay_piece.specs.declared.kind.Kind.TheVariants.{Punct, Opener, Closer, Doc}
use Rattle.lay_token.specs.declared.token.Token.{Token}
use Rattle.lay_form.specs.Form.{Form}
use Rattle.lay_form.specs.Spelled.{Spells}
use Rattle.lay_node.specs.Ahead as ahead
use Rattle.lay_node.specs.Ahead.{Tokens, first, tail, closes}
use Rattle.lay_node.specs.reader.Exact.{InText}
use Rattle.lay_node.specs.reader.Loops.{Got, ◌>>=◌, passed}
use Rattle.lay_node.specs.reader.Tokens.{ends_run, run, tokens, tokens_of, group}
use Rattle.lay_node.specs.tokens.Lexed.{may_join, is_had, fits, ends_apart, may_be_laid, is_token_list}
use Rattle.lay_node.specs.nodes.Call.{is_group}
use Rattle.lay_node.specs.tokens.Lists.{form_of_grouping, ends_in_line, group_form}
use Rattle.lay_node.specs.tokens.Listing.{as_listed, listed_by, kind_of, text_of, turned, balances, is_balanced, in_groups}
use Rattle.lay_node.specs.tokens.Pairs.{at_start, Neighbour, Nothing, Single, is_mark, is_joint_mark, is_joint_neighbour, is_index_place}
use Rattle.lay_node.specs.declared.token.Listed.{Listed}
use Rattle.lay_node.specs.declared.tokens.Group.{Group}
use Rattle.lay_node.proofs.Fronts.{closer_kind, passed_first}
use Rattle.lay_node.proofs.InText.{only_text, IsText, behind, behind_all, text_one}
use Rattle.lay_node.proofs.Steps.{got_same, chosen, bind_some}
use Rattle.lay_node.proofs.token_lists.Balance.{same_delim_self, balances_turned, turned_listed}
use Rattle.lay_node.proofs.token_lists.Commas.{Commaless, CommaApart, commaless_joined, commaless_none, level_turned}
use Rattle.lay_node.proofs.token_lists.Runs.{run_over}
use Rattle.lay_node.proofs.token_lists.FromText.{two_rows}
use Rattle.lay_node.proofs.token_lists.Grouped.{opener_token, closer_token, flat, list_grouped}
use Rattle.lay_node.proofs.token_lists.Spelling.{IsRow, row_joined, row_parts, opener_one, closer_one, grouped_tokens, enclosed_row, enclosed_spelled, groups_spelled, list_parts, list_row}

-- ---- a run

-- A run stops there: nothing is left, or a closer comes next, or a comma where the run goes on to one.
abbrev pub StopsAt : Bool → Tokens → Type 0
StopsAt to_comma [] = Unit {0}
StopsAt to_comma (t ∷ ts) = ends_run to_comma [] t ≡ true

-- what a run is
pub record IsRun (to_comma : Bool) (within : List Delim) (ts xs rest : Tokens) : Type 0 where
  pub whole : ts ≡ xs ++ rest
  pub balanced : balances within (map as_listed xs) ≡ true
  pub commaless : Commaless to_comma (length within) (map as_listed xs)
  pub stops : StopsAt to_comma rest

pub run_is : (to_comma : Bool) (within : List Delim) (ts xs rest : Tokens) → run to_comma within ts ≡ Some (xs, rest) → IsRun to_comma within ts xs rest
unfolding run
run_is to_comma [] [] xs rest h =
    let e = got_same [] xs [] rest h in
    record {
      whole = subst (λ z. [] ≡ z ++ rest) e.0 e.1;
      balanced = subst (λ z. balances [] (map as_listed z) ≡ true) e.0 refl;
      commaless = subst (λ z. Commaless to_comma 0 (map as_listed z)) e.0 (commaless_none to_comma 0);
      stops = subst (StopsAt to_comma) e.1 tt;
    }
run_is to_comma (d ∷ within) [] xs rest h = absurd (cc)
run_is to_comma within (t ∷ ts) xs rest h =
    let go_on : Got (List Token) = goes_on within t in
    elim (chosen (ends_run to_comma within t) (Some ([], t ∷ ts)) go_on (Some (xs, rest)) (unfolded within t h)) [
      | inl g ↦
          let e = got_same [] xs (t ∷ ts) rest g.1 in
          let c = closes_there within t g.0 in
          record {
            whole = subst (λ z. t ∷ ts ≡ z ++ rest) e.0 e.1;
            balanced = subst (λ z. balances within (map as_listed z) ≡ true) e.0 (nothing within t g.0);
            commaless = subst (λ z. Commaless to_comma (length within) (map as_listed z)) e.0 (commaless_none to_comma (length within));
            stops = subst (StopsAt to_comma) e.1 c;
          }
      | inr g ↦
          let b = bind_some (turned t.kind within) (λ more. run to_comma more ts >>= (λ r. Some (t ∷ r.0, r.1))) (xs, rest) g.1 in
          let c = bind_some (run to_comma b.0 ts) (λ r. Some (t ∷ r.0, r.1)) (xs, rest) b.2 in
          let e = got_same (t ∷ c.0.0) xs c.0.1 rest c.2 in
          let r = run_is to_comma b.0 ts c.0.0 c.0.1 c.1 in
          let behind = subst (λ n. Commaless to_comma n (map as_listed c.0.0)) (sym (level_turned t.kind within b.0 b.1)) r.commaless in
          record {
            whole = ap (λ z. t ∷ z) r.whole ∙ ap (λ z. z ++ c.0.1) e.0 ∙ ap (λ z. xs ++ z) e.1;
            balanced =
                subst (λ z. balances within (map as_listed z) ≡ true) e.0
                (balances_turned within b.0 (as_listed t) (map as_listed c.0.0) (turned_listed t.kind t.text t.joint within ∙ b.1) ∙ r.balanced);
            commaless =
                subst (λ z. Commaless to_comma (length within) (map as_listed z)) e.0
                (commaless_joined to_comma (length within) t (map as_listed c.0.0) (apart to_comma within t g.0) behind);
            stops = subst (StopsAt to_comma) e.1 r.stops;
          }
    ]
  where
    goes_on : (within : List Delim) (t : Token) → Got (List Token)
    goes_on within t = turned t.kind within >>= (λ more. run to_comma more ts >>= (λ r. Some (t ∷ r.0, r.1)))

    unfolded : (within : List Delim) (t : Token) → run to_comma within (t ∷ ts) ≡ Some (xs, rest)
        → (if ends_run to_comma within t then Some ([], t ∷ ts) else goes_on within t) ≡ Some (xs, rest)
    unfolded [] t h = h
    unfolded (d ∷ within) t h = h

    closes_there : (within : List Delim) (t : Token) → ends_run to_comma within t ≡ true → ends_run to_comma [] t ≡ true
    closes_there [] t h = h
    closes_there (d ∷ within) t h = absurd (cc)

    nothing : (within : List Delim) (t : Token) → ends_run to_comma within t ≡ true → balances within [] ≡ true
    nothing [] t h = refl
    nothing (d ∷ within) t h = absurd (cc)

    apart : (to_comma : Bool) (within : List Delim) (t : Token) → ends_run to_comma within t ≡ false → CommaApart to_comma (length within) t
    apart true [] t h = (or_parts (is_closer t.kind) (ahead.is_mark (codes ",") t) h).1
    apart true (d ∷ within) t h = refl
    apart false within t h = tt

pub run_there : (to_comma : Bool) (xs rest : Tokens) → is_balanced (map as_listed xs) ≡ true → Commaless to_comma 0 (map as_listed xs)
    → StopsAt to_comma rest → run to_comma [] (xs ++ rest) ≡ Some (xs, rest)
unfolding run
run_there to_comma xs [] b c s = run_over to_comma [] xs [] b c ∙ ap (λ z. Some (z, [])) (append-nil xs)
run_there to_comma xs (t ∷ rest) b c s = run_over to_comma [] xs (t ∷ rest) b c ∙ rw s (ap (λ z. Some (z, t ∷ rest)) (append-nil xs))

-- ---- a token list

-- what a token list is, read
pub record ListTo (to_comma : Bool) (ts : Tokens) (us : List Listed) (rest : Tokens) : Type 0 where
  pub read : Tokens
  pub there : IsRun to_comma [] ts read rest
  pub listed : map as_listed read ≡ us
  pub docs : list_all may_be_laid us ≡ true

abbrev pub IsList : Tokens → List Listed → Tokens → Type 0
IsList = ListTo false

pub tokens_is : (to_comma : Bool) (ts : Tokens) (us : List Listed) (rest : Tokens) → tokens_of to_comma ts ≡ Some (us, rest) → ListTo to_comma ts us rest
unfolding tokens_of
tokens_is to_comma ts us rest h =
    let b = bind_some (run to_comma [] ts) (λ r. if list_all may_be_laid (map as_listed r.0) then Some (map as_listed r.0, r.1) else None) (us, rest) h in
    let xs = b.0.0 in
    elim (chosen (list_all may_be_laid (map as_listed xs)) (Some (map as_listed xs, b.0.1)) None (Some (us, rest)) b.2) [
      | inl g ↦
          let e = got_same (map as_listed xs) us b.0.1 rest g.1 in
          record {
            read = xs;
            there = subst (IsRun to_comma [] ts xs) e.1 (run_is to_comma [] ts xs b.0.1 b.1);
            listed = e.0;
            docs = subst (λ z. list_all may_be_laid z ≡ true) e.0 g.0;
          }
      | inr g ↦ absurd (cc)
    ]

pub tokens_there : (to_comma : Bool) (xs rest : Tokens) (us : List Listed) → map as_listed xs ≡ us → is_balanced us ≡ true → Commaless to_comma 0 us
    → list_all may_be_laid us ≡ true → StopsAt to_comma rest → tokens_of to_comma (xs ++ rest) ≡ Some (us, rest)
unfolding tokens_of
tokens_there to_comma xs rest us e b c d s =
    let r = run_there to_comma xs rest (ap is_balanced e ∙ b) (subst (Commaless to_comma 0) (sym e) c) s in
    rw (r, e, d) refl

-- Where its last neighbour is no point, nothing before it decides of a list.
fits_before : (b c l : Neighbour) (us : List Listed) → is_joint_mark (codes ".") b ≡ is_joint_mark (codes ".") c
    → fits b l us ≡ fits c l us
fits_before b c l [] e = refl
fits_before b c l (u ∷ us) e =
    ap (λ z. (not (is_joint_neighbour l) || may_join l (Single u)) && is_had (is_mark (codes ".") l && not z) u && fits l (Single u) us) e

from_start : (b l : Neighbour) (us : List Listed) → is_mark (codes ".") l ≡ false → fits b l us ≡ true → fits Nothing Nothing us ≡ true
from_start b l [] n f = refl
from_start b l (u ∷ us) n f =
    let may = not (is_joint_neighbour l) || may_join l (Single u) in
    let a = and_parts (may && is_had (is_index_place b l) u) (fits l (Single u) us) f in
    let h : is_had false u ≡ true =
    sym (ap (λ z. is_had (z && not (is_joint_mark (codes ".") b)) u) n) ∙ (and_parts may _ a.0).1 in
    and_from (is_had false u) (fits Nothing (Single u) us) h
    (fits_before Nothing l (Single u) us (sym (ap (λ z. z && is_joint_neighbour l) n)) ∙ a.1)

-- Before what ends a run no token is joint.
apart_at : (to_comma : Bool) (b : Neighbour) (x c : Token) (xs rest : Tokens) → ends_run to_comma [] c ≡ true
    → fits b (Single (as_listed x)) (map as_listed (xs ++ c ∷ rest)) ≡ true → ends_apart (Single (as_listed x)) (map as_listed xs) ≡ true
apart_at to_comma b x c [] rest k f =
    let l = Single (as_listed x) in
    let may = not (is_joint_neighbour l) || may_join l (Single (as_listed c)) in
    no_join (is_joint_neighbour l) _ (no_end l c (either to_comma c k))
    (and_parts may _ (and_parts (may && is_had (is_index_place b l) (as_listed c)) _ f).0).0
  where
    no_join : (j m : Bool) → m ≡ false → not j || m ≡ true → not j ≡ true
    no_join true m e h = absurd (cc)
    no_join false m e h = refl

    and_false : (a b c : Bool) → b ≡ false → a && b && c ≡ false
    and_false true true c e = absurd (cc)
    and_false true false c e = refl
    and_false false b c e = refl

    either : (to_comma : Bool) (c : Token) → ends_run to_comma [] c ≡ true → ends_run true [] c ≡ true
    either true c k = k
    either false c k = rw k refl

    no_end : (l : Neighbour) (c : Token) → ends_run true [] c ≡ true → may_join l (Single (as_listed c)) ≡ false
    no_end l c k = and_false _ _ _ (by c.kind k)
      where
        by : (k : Kind) → (is_closer k || (is_punct k && bytes_eq c.text (codes ","))) ≡ true
            → is_punct (kind_of (listed_by k c.text c.joint)) && not (is_mark (codes ",") (Single (listed_by k c.text c.joint))
            || is_mark (codes ";") (Single (listed_by k c.text c.joint))) ≡ false
        by Punct e = rw e refl
        by (Doc inner block) e = refl
        by _ e = refl
apart_at to_comma b x c (y ∷ xs) rest k f =
    let l = Single (as_listed x) in
    let may = not (is_joint_neighbour l) || may_join l (Single (as_listed y)) in
    apart_at to_comma l y c xs rest k (and_parts (may && is_had (is_index_place b l) (as_listed y)) _ f).1

apart_before : (to_comma : Bool) (b l : Neighbour) (c : Token) (xs rest : Tokens) → ends_run to_comma [] c ≡ true
    → fits b l (map as_listed (xs ++ c ∷ rest)) ≡ true → ends_apart Nothing (map as_listed xs) ≡ true
apart_before to_comma b l c [] rest k f = refl
apart_before to_comma b l c (x ∷ xs) rest k f =
    let may = not (is_joint_neighbour l) || may_join l (Single (as_listed x)) in
    apart_at to_comma l x c xs rest k (and_parts (may && is_had (is_index_place b l) (as_listed x)) _ f).1

-- What is read up to a closer or a comma, after what is no point, is a token list.
pub list_good : (to_comma : Bool) (ts : Tokens) (us : List Listed) (c : Token) (rest : Tokens) (i : InText ts) → is_mark (codes ".") i.last ≡ false
    → ends_run to_comma [] c ≡ true → ListTo to_comma ts us (c ∷ rest) → is_token_list us ≡ true
list_good to_comma ts us c rest i n k l =
    let xs = l.read in
    let fit : fits i.before i.last (map as_listed (xs ++ c ∷ rest)) ≡ true =
    sym (ap (λ z. fits i.before i.last (map as_listed z)) l.there.whole) ∙ i.fit in
    let front = two_rows i.before i.last (map as_listed xs) (map as_listed (c ∷ rest))
    (ap (fits i.before i.last) (sym (map-append as_listed xs (c ∷ rest))) ∙ fit) in
    let good : is_token_list (map as_listed xs) ≡ true =
    and_from (fits Nothing Nothing (map as_listed xs) && ends_apart Nothing (map as_listed xs) && is_balanced (map as_listed xs)) _
    (and_from (fits Nothing Nothing (map as_listed xs) && ends_apart Nothing (map as_listed xs)) _
    (and_from (fits Nothing Nothing (map as_listed xs)) _ (from_start i.before i.last (map as_listed xs) n front.front)
    (apart_before to_comma i.before i.last c xs rest k fit)) l.there.balanced)
    (ap (list_all may_be_laid) l.listed ∙ l.docs) in
    subst (λ z. is_token_list z ≡ true) l.listed good

-- ---- a row and what is read of it

row_of : (xs rest : Tokens) → IsRow (map as_listed xs) (xs ++ rest) rest
row_of [] rest = refl
row_of (x ∷ xs) rest = (refl, row_of xs rest)

pub record ReadRow (us : List Listed) (ts rest : Tokens) : Type 0 where
  pub read : Tokens
  pub whole : ts ≡ read ++ rest
  pub listed : map as_listed read ≡ us

pub row_read : (us : List Listed) (ts rest : Tokens) → IsRow us ts rest → ReadRow us ts rest
row_read [] ts rest r = record { read = []; whole = r; listed = refl }
row_read (u ∷ us) [] rest r = absurd r
row_read (u ∷ us) (t ∷ ts) rest r = let m = row_read us ts rest r.1 in
    record { read = t ∷ m.read; whole = ap (λ z. t ∷ z) m.whole; listed = (λ v. r.0 v ∷ m.listed v) }

pub list_row_of : (to_comma : Bool) (ts : Tokens) (us : List Listed) (rest : Tokens) → ListTo to_comma ts us rest → IsRow us ts rest
list_row_of to_comma ts us rest l =
    subst (λ z. IsRow z ts rest) l.listed (subst (λ z. IsRow (map as_listed l.read) z rest) (sym l.there.whole) (row_of l.read rest))

-- A token list that stands before a closer is read, or before a comma.
pub row_tokens : (to_comma : Bool) (us : List Listed) (ts : Tokens) (c : Token) (rest : Tokens) → is_token_list us ≡ true
    → Commaless to_comma 0 us → ends_run to_comma [] c ≡ true → IsRow us ts (c ∷ rest) → tokens_of to_comma ts ≡ Some (us, c ∷ rest)
row_tokens to_comma us ts c rest h n k r =
    let p = list_parts us h in
    let m = row_read us ts (c ∷ rest) r in
    ap (tokens_of to_comma) m.whole ∙ tokens_there to_comma m.read (c ∷ rest) us m.listed p.balanced n p.docs k

-- ---- a group

-- what a group is, read
record IsGroup (t : Token) (ts : Tokens) (g : Group) (rest : Tokens) : Type 0 where
  opens : t.kind ≡ Opener g.delim
  last : Token
  list : IsList ts g.tokens (last ∷ rest)
  closed : last.kind ≡ Closer g.delim

group_is : (t : Token) (ts : Tokens) (g : Group) (rest : Tokens) → group (t ∷ ts) ≡ Some (g, rest) → IsGroup t ts g rest
unfolding group
group_is t ts g rest h = by t.kind refl h
  where
    behind_list : Delim → List Listed × Tokens → Got Group
    behind_list d us = passed (closes d) us.1 >>= (λ left. Some (record { delim = d; tokens = us.0 }, left))

    by : (k : Kind) → t.kind ≡ k → group (record t { kind = k } ∷ ts) ≡ Some (g, rest) → IsGroup t ts g rest
    by (Opener d) k h =
        let b = bind_some (tokens ts) (behind_list d) (g, rest) h in
        let c = bind_some (passed (closes d) b.0.1) (λ left. Some (record { delim = d; tokens = b.0.0 }, left)) (g, rest) b.2 in
        let e = got_same (record { delim = d; tokens = b.0.0 }) g c.0 rest c.2 in
        let f = passed_first (closes d) b.0.1 c.0 c.1 in
        ended d b.0.0 b.0.1 k e.0 (tokens_is false ts b.0.0 b.0.1 b.1) f.0 (f.1 ∙ e.1)
      where
        ended : (d : Delim) (us : List Listed) (left : Tokens) → t.kind ≡ Opener d → record { delim = d; tokens = us } ≡ g → IsList ts us left
            → first (closes d) left ≡ true → tail left ≡ rest → IsGroup t ts g rest
        ended d us [] k e l c r = absurd (cc)
        ended d us (c ∷ left) k e l f r = record {
          opens = k ∙ ap (λ (x : Group). Opener x.delim) e;
          last = c;
          list = subst (λ z. IsList ts z (c ∷ rest)) (ap (λ (x : Group). x.tokens) e) (subst (λ z. IsList ts us (c ∷ z)) r l);
          closed = closer_kind d c.kind f ∙ ap (λ (x : Group). Closer x.delim) e;
        }
    by k e h = absurd (cc)

no_point : (t : Token) (k : Kind) → t.kind ≡ k → is_punct k ≡ false → is_mark (codes ".") (Single (as_listed t)) ≡ false
no_point t k e p = ap (λ z. z && bytes_eq (text_of (as_listed t)) (codes ".")) (by t.kind ∙ ap is_punct e ∙ p)
  where
    by : (k : Kind) → is_punct (kind_of (listed_by k t.text t.joint)) ≡ is_punct k
    by (Doc inner block) = refl
    by _ = refl

opener_listed : (t : Token) (ts : Tokens) (d : Delim) → InText (t ∷ ts) → t.kind ≡ Opener d → as_listed t ≡ opener_token d
opener_listed t ts d i k =
    let e : t.text ≡ opening d ∷ [] = subst (λ z. IsText (only_text z) t.text) k (text_one t ts i) in
    (λ v. listed_by (k v) (e v) t.joint)

closer_listed : (t : Token) (ts : Tokens) (d : Delim) → InText (t ∷ ts) → t.kind ≡ Closer d → as_listed t ≡ closer_token d
closer_listed t ts d i k =
    let e : t.text ≡ closing d ∷ [] = subst (λ z. IsText (only_text z) t.text) k (text_one t ts i) in
    (λ v. listed_by (k v) (e v) t.joint)

pub group_sound : (depth : ℕ) (ts : Tokens) (g : Group) (rest : Tokens) (f : Form) (end : Tokens) → InText ts → group ts ≡ Some (g, rest)
    → Spells f depth rest end → Spells (group_form g f) depth ts end × (is_group g ≡ true)
unfolding group
group_sound depth [] g rest f end i h s = absurd (none h)
  where
    none : group [] ≡ Some (g, rest) → ⊥
    none h = cc
group_sound depth (t ∷ ts) g rest f end i h s =
    let r = group_is t ts g rest h in
    let left = behind t ts i in
    let closer : is_closer r.last.kind ≡ true = ap is_closer r.closed in
    let good = list_good false ts g.tokens r.last rest left (no_point t (Opener g.delim) r.opens refl) closer r.list in
    let last = behind_all r.list.read (r.last ∷ rest) (subst InText r.list.there.whole left) in
    let row : IsRow (grouped_tokens g.delim (in_groups g.tokens)) (t ∷ ts) rest = (
      opener_listed t ts g.delim i r.opens,
      row_joined (flat (in_groups g.tokens)) (closer_token g.delim ∷ []) ts (r.last ∷ rest) rest
          (subst (λ z. IsRow z ts (r.last ∷ rest)) (sym (list_grouped g.tokens good).whole) (list_row_of false ts g.tokens (r.last ∷ rest) r.list))
          (closer_listed r.last rest g.delim last r.closed, refl),
    ) in (
      enclosed_spelled g.delim (ends_in_line g.tokens) (form_of_grouping (at_start 0) (in_groups g.tokens)) f depth (in_groups g.tokens)
          (t ∷ ts) rest end i.loose (λ us vs k q. groups_spelled (in_groups g.tokens) (at_start 0) depth us vs k q) row s,
      good,
    )

-- what spells a group and what follows it
pub record SpelledGroup (g : Group) (f : Form) (depth : ℕ) (ts end : Tokens) : Type 0 where
  pub rest : Tokens
  pub read : group ts ≡ Some (g, rest)
  pub after : Spells f depth rest end
  pub begins : first (λ t. is_opener t.kind) ts ≡ true
  pub less : length rest < length ts

pub group_complete : (g : Group) (f : Form) (depth : ℕ) (ts end : Tokens) → Spells (group_form g f) depth ts end → is_group g ≡ true
    → SpelledGroup g f depth ts end
unfolding group
group_complete g f depth ts end s h =
    let i = in_groups g.tokens in
    let q = enclosed_row g.delim (ends_in_line g.tokens) (form_of_grouping (at_start 0) i) f depth i ts end
    (λ us vs p. subst (λ z. IsRow z us vs) (sym (list_grouped g.tokens h).whole) (list_row g.tokens (at_start 0) depth us vs h p)) s in
    by ts q.0 q.1 q.2
  where
    closer_there : (d : Delim) (us rest : Tokens) → IsRow (closer_token d ∷ []) us rest
        → (c : Token) × (us ≡ c ∷ rest) × (c.kind ≡ Closer d)
    closer_there d [] rest r = absurd r
    closer_there d (c ∷ us) rest r = (c, ap (λ z. c ∷ z) r.1, (closer_one d c us r.0).0)

    by : (ts rest : Tokens) → IsRow (grouped_tokens g.delim (in_groups g.tokens)) ts rest → Spells f depth rest end → SpelledGroup g f depth ts end
    by [] rest r s = absurd r
    by (t ∷ ts) rest r s =
        let o = opener_one g.delim t ts r.0 in
        let p = row_parts (flat (in_groups g.tokens)) (closer_token g.delim ∷ []) ts rest r.1 in
        let c = closer_there g.delim p.0 rest p.2 in
        let row : IsRow g.tokens ts (c.0 ∷ rest) = subst (λ z. IsRow g.tokens ts z) c.1 (subst (λ z. IsRow z ts p.0) (list_grouped g.tokens h).whole p.1) in
        let e = row_tokens false g.tokens ts c.0 rest h tt (ap is_closer c.2) row in
        let m = row_read g.tokens ts (c.0 ∷ rest) row in
        record {
          rest = rest;
          read = rw (o.0, e, c.2, same_delim_self g.delim) refl;
          after = s;
          begins = ap is_opener o.0;
          less = omega (arith, ap length m.whole, length-append m.read (c.0 ∷ rest));
        }
