-- How one more token changes the partners found so far.
use Rattle.std.proofs.Common.{◌≡◌, ℕ, ◌-◌, ◌<◌, List, [], ◌∷◌, ◌++◌, Some, length, set, IsTrue, IsFalse, refl, sym, ap, ◌∙◌, arith, append_assoc, append-nil, length-append, inl, inr}
use Rattle.std.specs.List.{slice_get}
use Rattle.std.proofs.Math.Seq.{set-append_seam}
use Rattle.lay_token.specs.Delimiters as delimiters
use Rattle.lay_token.specs.Delimiters.{Trees, Paired, Balanced, LeaveOpen, Stray, Unclosed, UnbalancedAt, tokens_of, is_opener, is_closer, is_pair, is_stray}
use Rattle.lay_token.specs.declared.token.Token.{Token}
use Rattle.lay_nest.specs.Partial.{Partial, Closed, Within, PairedSoFar, SoFar, tokens_so_far, spans_so_far, places_open}
use Rattle.lay_nest.specs.Spans.{Spanned, spans_of}
use Rattle.lay_nest.proofs.Delimiters.{not_pair_stray}
use Rattle.lay_nest.proofs.Steps.{length-spans}

-- trees after trees
abbrev joined : Trees → Trees → Trees
joined delimiters.NoTree more = more
joined (delimiters.One t rest) more = delimiters.One t (joined rest more)
joined (delimiters.Nest o inside c rest) more = delimiters.Nest o inside c (joined rest more)

tokens-joined : (trees more : Trees) → tokens_of (joined trees more) ≡ tokens_of trees ++ tokens_of more
tokens-joined delimiters.NoTree more = refl
tokens-joined (delimiters.One t rest) more = ap (λ ts. t ∷ ts) (tokens-joined rest more)
tokens-joined (delimiters.Nest o inside c rest) more =
    ap (λ ts. o ∷ (tokens_of inside ++ c ∷ ts)) (tokens-joined rest more)
    ∙ ap (λ ts. o ∷ ts) (sym (append_assoc (tokens_of inside) (c ∷ tokens_of rest) (tokens_of more)))

spans-joined : (trees more : Trees) → spans_of (joined trees more) ≡ spans_of trees ++ spans_of more
spans-joined delimiters.NoTree more = refl
spans-joined (delimiters.One t rest) more = ap (λ ns. 0 ∷ ns) (spans-joined rest more)
spans-joined (delimiters.Nest o inside c rest) more =
    ap (λ ns. length (tokens_of inside) ∷ (spans_of inside ++ 0 ∷ ns)) (spans-joined rest more)
    ∙ ap (λ ns. length (tokens_of inside) ∷ ns) (sym (append_assoc (spans_of inside) (0 ∷ spans_of rest) (spans_of more)))

paired-joined : (trees more : Trees) → Paired trees → Paired more → Paired (joined trees more)
paired-joined delimiters.NoTree more p q = q
paired-joined (delimiters.One t rest) more p q = (p.0, p.1, paired-joined rest more p.2 q)
paired-joined (delimiters.Nest o inside c rest) more p q = (p.0, p.1, paired-joined rest more p.2 q)

-- trees after the last of what is read
abbrev with_trees : Partial → Trees → Partial
with_trees (Closed trees) more = Closed (joined trees more)
with_trees (Within before o inside) more = Within before o (joined inside more)

tokens-with_trees : (p : Partial) (more : Trees) → tokens_so_far (with_trees p more) ≡ tokens_so_far p ++ tokens_of more
tokens-with_trees (Closed trees) more = tokens-joined trees more
tokens-with_trees (Within before o inside) more =
    ap (λ ts. tokens_so_far before ++ o ∷ ts) (tokens-joined inside more)
    ∙ sym (append_assoc (tokens_so_far before) (o ∷ tokens_of inside) (tokens_of more))

spans-with_trees : (p : Partial) (more : Trees) → spans_so_far (with_trees p more) ≡ spans_so_far p ++ spans_of more
spans-with_trees (Closed trees) more = spans-joined trees more
spans-with_trees (Within before o inside) more =
    ap (λ ns. spans_so_far before ++ 0 ∷ ns) (spans-joined inside more)
    ∙ sym (append_assoc (spans_so_far before) (0 ∷ spans_of inside) (spans_of more))

places-with_trees : (p : Partial) (more : Trees) → places_open (with_trees p more) ≡ places_open p
places-with_trees (Closed trees) more = refl
places-with_trees (Within before o inside) more = refl

paired-with_trees : (p : Partial) (more : Trees) → PairedSoFar p → Paired more → PairedSoFar (with_trees p more)
paired-with_trees (Closed trees) more p q = paired-joined trees more p q
paired-with_trees (Within before o inside) more p q = (p.0, p.1, paired-joined inside more p.2 q)

-- As many spans as tokens are read.
pub length-so_far : (p : Partial) → length (spans_so_far p) ≡ length (tokens_so_far p)
length-so_far (Closed trees) = length-spans trees
length-so_far (Within before o inside) =
    omega (arith, length-spans inside, length-so_far before, length-append (spans_so_far before) (0 ∷ spans_of inside), length-append (tokens_so_far before) (o ∷ tokens_of inside))

-- the openers that are still open, the last one first
abbrev pub openers : Partial → List Token
openers (Closed trees) = []
openers (Within before o inside) = o ∷ openers before

left-open : (p : Partial) → PairedSoFar p → LeaveOpen (openers p) (tokens_so_far p)
left-open (Closed trees) p = (trees, p, refl)
left-open (Within before o inside) p =
    (tokens_so_far before, tokens_of inside, refl, p.1, left-open before p.0, (inside, p.2, refl))

slice_get-append : {X : Type 0} (xs ys : List X) → slice_get (xs ++ ys) (length xs) ≡ slice_get ys 0
slice_get-append [] ys = refl
slice_get-append (x ∷ xs) ys = slice_get-append xs ys

front_is : {X : Type 0} (ys : List X) (x : X) → slice_get ys 0 ≡ Some x → (more : List X) × (ys ≡ x ∷ more)
front_is [] x e = cc
front_is (y ∷ ys) x e = (ys, cc)

-- the next token, after those read
pub next_is : {tokens : List Token} {spans places : List ℕ} (s : SoFar tokens spans places) (t : Token)
    → slice_get tokens (length spans) ≡ Some t
    → (more : List Token) × (s.behind ≡ t ∷ more)
next_is {tokens} {spans} s t e =
    let n : length spans ≡ length (tokens_so_far s.partial) = ap length s.spans_are ∙ length-so_far s.partial in
    let f : slice_get (tokens_so_far s.partial ++ s.behind) (length (tokens_so_far s.partial)) ≡ Some t = (rw (← s.whole, ← n) e) in
    front_is s.behind t (sym (slice_get-append (tokens_so_far s.partial) s.behind) ∙ f)

whole_with : {tokens : List Token} {spans places : List ℕ} (s : SoFar tokens spans places) (t : Token)
    → slice_get tokens (length spans) ≡ Some t
    → (more : List Token) × (tokens ≡ (tokens_so_far s.partial ++ t ∷ []) ++ more)
whole_with s t e =
    let n = next_is s t e in
    (n.0, s.whole ∙ ap (λ ts. tokens_so_far s.partial ++ ts) n.1 ∙ sym (append_assoc (tokens_so_far s.partial) (t ∷ []) n.0))

-- A token that is no delimiter is read.
pub read_plain : {tokens : List Token} {spans places : List ℕ} → SoFar tokens spans places → (t : Token)
    → slice_get tokens (length spans) ≡ Some t
    → IsFalse (is_opener t.kind)
    → IsFalse (is_closer t.kind)
    → SoFar tokens (spans ++ 0 ∷ []) places
read_plain {tokens} {spans} {places} s t e o c =
    let w = whole_with s t e in
    let tree : Trees = delimiters.One t delimiters.NoTree in
    record {
      partial = with_trees s.partial tree;
      behind = w.0;
      paired = paired-with_trees s.partial tree s.paired (o, c, tt);
      whole = w.1 ∙ ap (λ ts. ts ++ w.0) (sym (tokens-with_trees s.partial tree));
      spans_are = ap (λ ns. ns ++ 0 ∷ []) s.spans_are ∙ sym (spans-with_trees s.partial tree);
      places_are = s.places_are ∙ sym (places-with_trees s.partial tree);
    }

-- An opener is read.
pub read_opener : {tokens : List Token} {spans places : List ℕ} → SoFar tokens spans places → (t : Token)
    → slice_get tokens (length spans) ≡ Some t
    → IsTrue (is_opener t.kind)
    → SoFar tokens (spans ++ 0 ∷ []) (places ++ length spans ∷ [])
read_opener {tokens} {spans} {places} s t e o =
    let w = whole_with s t e in
    let n : length spans ≡ length (tokens_so_far s.partial) = ap length s.spans_are ∙ length-so_far s.partial in
    record {
      partial = Within s.partial t delimiters.NoTree;
      behind = w.0;
      paired = (s.paired, o, tt);
      whole = w.1;
      spans_are = ap (λ ns. ns ++ 0 ∷ []) s.spans_are;
      places_are = ap (λ ns. ns ++ length spans ∷ []) s.places_are ∙ ap (λ k. places_open s.partial ++ k ∷ []) n;
    }

-- The last opener that is still open stands at this place, after the others.
pub record LastOpen (tokens : List Token) (spans others : List ℕ) (at : ℕ) : Type 0 where
  pub before : Partial
  pub opener : Token
  pub inside : Trees
  pub behind : List Token
  pub paired : PairedSoFar before
  pub opens : IsTrue (is_opener opener.kind)
  pub inside_paired : Paired inside
  pub whole : tokens ≡ (tokens_so_far before ++ opener ∷ tokens_of inside) ++ behind
  pub spans_are : spans ≡ spans_so_far before ++ 0 ∷ spans_of inside
  pub others_are : others ≡ places_open before
  pub place : at ≡ length (tokens_so_far before)

last_two : {X : Type 0} (xs ys : List X) (x y : X) → xs ++ x ∷ [] ≡ ys ++ y ∷ [] → (xs ≡ ys) × (x ≡ y)
last_two [] [] x y e = (refl, cc)
last_two [] (z ∷ []) x y e = cc
last_two [] (z ∷ w ∷ ys) x y e = cc
last_two (z ∷ []) [] x y e = cc
last_two (z ∷ w ∷ xs) [] x y e = cc
last_two (z ∷ xs) (w ∷ ys) x y e =
    let rest : xs ++ x ∷ [] ≡ ys ++ y ∷ [] = cc in let p = last_two xs ys x y rest in (let q : xs ≡ ys = p.0 in cc, p.1)

not_nil : {X : Type 0} (xs : List X) (x : X) → xs ++ x ∷ [] ≡ [] → ⊥
not_nil [] x e = cc
not_nil (y ∷ ys) x e = cc

last_in : (tokens : List Token) (spans others : List ℕ) (at : ℕ) (p : Partial) (behind : List Token) → PairedSoFar p
    → tokens ≡ tokens_so_far p ++ behind
    → spans ≡ spans_so_far p
    → others ++ at ∷ [] ≡ places_open p
    → LastOpen tokens spans others at
last_in tokens spans others at (Closed trees) behind p w s e = absurd (not_nil others at e)
last_in tokens spans others at (Within before o inside) behind p w s e =
    let parts = last_two others (places_open before) at (length (tokens_so_far before)) e in
    record {
      before = before;
      opener = o;
      inside = inside;
      behind = behind;
      paired = p.0;
      opens = p.1;
      inside_paired = p.2;
      whole = w;
      spans_are = s;
      others_are = parts.0;
      place = parts.1;
    }

pub last_open : {tokens : List Token} {spans places : List ℕ} (others : List ℕ) (at : ℕ) → SoFar tokens spans places
    → places ≡ others ++ at ∷ []
    → LastOpen tokens spans others at
last_open {tokens} {spans} others at s e =
    last_in tokens spans others at s.partial s.behind s.paired s.whole s.spans_are (sym e ∙ s.places_are)

pub below_tokens : {tokens : List Token} {spans others : List ℕ} {at : ℕ} → LastOpen tokens spans others at
    → at < length tokens
below_tokens l =
    omega (arith, ap length l.whole, l.place, length-append (tokens_so_far l.before ++ l.opener ∷ tokens_of l.inside) l.behind, length-append (tokens_so_far l.before) (l.opener ∷ tokens_of l.inside))

pub below_spans : {tokens : List Token} {spans others : List ℕ} {at : ℕ} → LastOpen tokens spans others at
    → at < length spans
below_spans l =
    omega (arith, ap length l.spans_are, l.place, length-so_far l.before, length-append (spans_so_far l.before) (0 ∷ spans_of l.inside))

pub opener_at : {tokens : List Token} {spans others : List ℕ} {at : ℕ} (l : LastOpen tokens spans others at)
    → slice_get tokens at ≡ Some l.opener
opener_at {tokens} {spans} {others} {at} l =
    ap (λ n. slice_get tokens n) l.place
    ∙ ap (λ ts. slice_get ts (length (tokens_so_far l.before)))
    (l.whole ∙ append_assoc (tokens_so_far l.before) (l.opener ∷ tokens_of l.inside) l.behind)
    ∙ slice_get-append (tokens_so_far l.before) (l.opener ∷ (tokens_of l.inside ++ l.behind))

-- what is read, with the last opener still open
abbrev pub reopened : {tokens : List Token} {spans others : List ℕ} {at : ℕ} → LastOpen tokens spans others at
    → SoFar tokens spans (others ++ at ∷ [])
reopened {tokens} {spans} {others} {at} l = record {
  partial = Within l.before l.opener l.inside;
  behind = l.behind;
  paired = (l.paired, l.opens, l.inside_paired);
  whole = l.whole;
  spans_are = l.spans_are;
  places_are = ap (λ ns. ns ++ at ∷ []) l.others_are ∙ ap (λ n. places_open l.before ++ n ∷ []) l.place;
}

span_closed : (before inside : List ℕ) (spans : List ℕ) (at len : ℕ) → spans ≡ before ++ 0 ∷ inside
    → at ≡ length before
    → len ≡ length inside
    → set spans at (length spans - at - 1) ++ 0 ∷ [] ≡ before ++ len ∷ (inside ++ 0 ∷ [])
span_closed before inside spans at len e a n =
    let m : length spans - at - 1 ≡ len = omega (arith, ap length e, length-append before (0 ∷ inside)) in
    rw (m, e, a, set-append_seam before 0 inside len) (append_assoc before (len ∷ inside) (0 ∷ []))

-- The partner of the last opener still open is read.
pub read_closer : {tokens : List Token} {spans others : List ℕ} {at : ℕ} (l : LastOpen tokens spans others at)
    → (t : Token)
    → slice_get tokens (length spans) ≡ Some t
    → IsTrue (is_pair l.opener.kind t.kind)
    → SoFar tokens (set spans at (length spans - at - 1) ++ 0 ∷ []) others
read_closer {tokens} {spans} {others} {at} l t e h =
    let w = whole_with (reopened l) t e in
    let group : Trees = delimiters.Nest l.opener l.inside t delimiters.NoTree in
    record {
      partial = with_trees l.before group;
      behind = w.0;
      paired = paired-with_trees l.before group l.paired (h, l.inside_paired, tt);
      whole = w.1 ∙ ap (λ ts. ts ++ w.0)
          (append_assoc (tokens_so_far l.before) (l.opener ∷ tokens_of l.inside) (t ∷ []) ∙ sym (tokens-with_trees l.before group));
      spans_are = span_closed (spans_so_far l.before) (spans_of l.inside) spans at (length (tokens_of l.inside)) l.spans_are
          (l.place ∙ sym (length-so_far l.before)) (sym (length-spans l.inside))
          ∙ sym (spans-with_trees l.before group);
      places_are = l.others_are ∙ sym (places-with_trees l.before group);
    }

-- A closer is read that is no partner of the last opener still open.
stray_there : {tokens : List Token} {spans places : List ℕ} (s : SoFar tokens spans places) → (t : Token)
    → slice_get tokens (length spans) ≡ Some t
    → IsTrue (is_stray (openers s.partial) t.kind)
    → UnbalancedAt tokens t.at
stray_there s t e h =
    let n = next_is s t e in
    inl (record {
      before = tokens_so_far s.partial;
      closer = t;
      after = n.0;
      open_ones = openers s.partial;
      whole = s.whole ∙ ap (λ ts. tokens_so_far s.partial ++ ts) n.1;
      left = left-open s.partial s.paired;
      stray = h;
      place = refl;
    })

none_open : (p : Partial) → [] ≡ places_open p → openers p ≡ []
none_open (Closed trees) e = refl
none_open (Within before o inside) e = absurd (not_nil (places_open before) (length (tokens_so_far before)) (sym e))

pub stray_alone : {tokens : List Token} {spans places : List ℕ} (s : SoFar tokens spans places) → (t : Token)
    → slice_get tokens (length spans) ≡ Some t
    → places ≡ []
    → IsTrue (is_closer t.kind)
    → UnbalancedAt tokens t.at
stray_alone s t e none h =
    stray_there s t e (rw (none_open s.partial (sym none ∙ s.places_are)) h)

pub stray_behind : {tokens : List Token} {spans others : List ℕ} {at : ℕ} (l : LastOpen tokens spans others at)
    → (t : Token)
    → slice_get tokens (length spans) ≡ Some t
    → IsTrue (is_closer t.kind)
    → IsFalse (is_pair l.opener.kind t.kind)
    → UnbalancedAt tokens t.at
stray_behind l t e h g = stray_there (reopened l) t e (not_pair_stray l.opener (openers l.before) t.kind h g)

pub nil_by_length : {X : Type 0} (xs : List X) → length xs ≡ 0 → xs ≡ []
nil_by_length [] e = refl
nil_by_length (x ∷ xs) e = absurd (omega (arith, e))

nothing_behind : {X : Type 0} (all read behind : List X) → all ≡ read ++ behind → length read ≡ length all
    → all ≡ read
nothing_behind all read behind e n =
    let b : length behind ≡ 0 = omega (arith, ap length e, length-append read behind) in
    e ∙ ap (λ xs. read ++ xs) (nil_by_length behind b) ∙ append-nil read

-- All is read, and the last opener is still open.
pub unclosed : {tokens : List Token} {spans others : List ℕ} {at : ℕ} (l : LastOpen tokens spans others at)
    → length spans ≡ length tokens
    → UnbalancedAt tokens l.opener.at
unclosed {tokens} {spans} l n =
    let read : length (tokens_so_far l.before ++ l.opener ∷ tokens_of l.inside) ≡ length tokens =
    sym (length-so_far (Within l.before l.opener l.inside)) ∙ ap length (sym l.spans_are) ∙ n in
    inr (record {
      last = l.opener;
      others = openers l.before;
      left = (
        tokens_so_far l.before,
        tokens_of l.inside,
        nothing_behind tokens (tokens_so_far l.before ++ l.opener ∷ tokens_of l.inside) l.behind l.whole read,
        l.opens,
        left-open l.before l.paired,
        (l.inside, l.inside_paired, refl),
      );
      place = refl;
    })

closed : (tokens : List Token) (spans : List ℕ) (p : Partial) → PairedSoFar p → [] ≡ places_open p
    → tokens ≡ tokens_so_far p
    → spans ≡ spans_so_far p
    → Spanned tokens spans
closed tokens spans (Closed trees) p e t n = record {
  trees = trees;
  paired = p;
  tokens_are = t;
  spans_are = n;
}
closed tokens spans (Within before o inside) p e t n =
    absurd (not_nil (places_open before) (length (tokens_so_far before)) (sym e))

-- All is read, and no opener is open.
pub all_closed : {tokens : List Token} {spans places : List ℕ} (s : SoFar tokens spans places) → places ≡ []
    → length spans ≡ length tokens
    → Spanned tokens spans
all_closed {tokens} {spans} s none n =
    let read : length (tokens_so_far s.partial) ≡ length tokens =
    sym (length-so_far s.partial) ∙ ap length (sym s.spans_are) ∙ n in
    closed tokens spans s.partial s.paired (sym none ∙ s.places_are)
    (nothing_behind tokens (tokens_so_far s.partial) s.behind s.whole read) s.spans_are

-- Nothing is read.
pub none_read : (tokens : List Token) → SoFar tokens [] []
none_read tokens = record {
  partial = Closed delimiters.NoTree;
  behind = tokens;
  paired = tt;
  whole = refl;
  spans_are = refl;
  places_are = refl;
}
