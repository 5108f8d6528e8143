-- Token lists and groups, from the token trees that are passed.
use Rattle.std.proofs.Common.{◌≡◌, ℕ, zero, suc, ◌<◌, Bool, true, false, not, ◌&&◌, ◌||◌, codes, if◌then◌else◌, List, [], ◌∷◌, ◌++◌, map, length, get_or, Option, Some, None, Err, arith, refl, sym, ap, ◌∙◌, append_assoc, append-nil}
use Rattle.std.specs.List.{list_all}
use Rattle.std.proofs.lemmas.Bool.{false≢true}
use Rattle.std.proofs.lemmas.List.{map-append}
use Rattle.std.proofs.lemmas.List.Folds.{list_all-append}
use Rattle.lay_token.specs.Delimiters as delimiters
use Rattle.lay_token.specs.Delimiters.{Balanced, NoTree, One, Nest, Paired, Trees, is_closer, is_opener, is_pair}
use Rattle.lay_piece.specs.declared.kind.Delim.{Delim}
use Rattle.lay_piece.specs.declared.kind.Delim.TheVariants.{Paren, Bracket, Brace}
use Rattle.lay_piece.specs.declared.kind.Kind.{Kind}
use Rattle.lay_piece.specs.declared.kind.Kind.TheVariants.{Opener, Closer}
use Rattle.lay_token.specs.declared.token.Token.{Token}
use Rattle.lay_nest.specs.Groups.{AreTree, Grouped, begins_group, begins_tree, is_one}
use Rattle.lay_nest.proofs.Delimiters.{pair_closer}
use Rattle.lay_node.specs.Ahead as ahead
use Rattle.lay_node.specs.Ahead.{Tokens, closes, is_mark}
use Rattle.lay_node.specs.reader.Loops.{Got, ◌>>=◌, passed}
use Rattle.lay_node.specs.reader.Tokens.{ends_run, run, tokens_of, tokens, group}
use Rattle.lay_node.specs.tokens.Lexed.{may_be_laid}
use Rattle.lay_node.specs.tokens.Listing.{as_listed, turned, is_balanced}
use Rattle.lay_node.specs.declared.token.Listed.{Listed}
use Rattle.lay_node.specs.declared.tokens.Group.{Group}
use Rattle.lay_node.proofs.token_lists.Balance.{balanced_behind, balanced_listed, pair_of, turned_closer, turned_plain}
use Rattle.lay_node.proofs.token_lists.Runs.{onto, onto_none, onto_both, run_over, run_inside, run_turned}
use Rattle.lay_read_tokens.specs.Answers.{Stopped, IsLaid, AreListed, AreAdded, are_laid, goes_on, opened_by, front_opener}
use Rattle.lay_read_tokens.specs.declared.stop.ReadNone.{ReadNone}
use Rattle.lay_read_tokens.specs.declared.stop.ReadNone.TheVariants.{NoReading, NoMemory}

-- ---- what a run reads

-- The tokens are those that were read and those that are left.
abbrev pub Whole : Tokens → Got (List Token) → Type 0
Whole ts None = Unit {0}
Whole ts (Some got) = ts ≡ got.0 ++ got.1

whole_one : (t : Token) (ts : Tokens) (got : Got (List Token)) → Whole ts got
    → Whole (t ∷ ts) (got >>= (λ r. let one : Got (List Token) = Some (t ∷ r.0, r.1) in one))
whole_one t ts None h = tt
whole_one t ts (Some r) h = ap (λ (s : Tokens). t ∷ s) h

whole_turned : (to_comma : Bool) (t : Token) (ts : Tokens) (o : Option (List Delim))
    → ((more : List Delim) → Whole ts (run to_comma more ts))
    → Whole (t ∷ ts) (o >>= (λ more. run to_comma more ts
    >>= (λ r. let one : Got (List Token) = Some (t ∷ r.0, r.1) in one)))
whole_turned to_comma t ts None h = tt
whole_turned to_comma t ts (Some more) h = whole_one t ts (run to_comma more ts) (h more)

pub run_whole : (to_comma : Bool) (within : List Delim) (ts : Tokens) → Whole ts (run to_comma within ts)
unfolding run
run_whole to_comma [] [] = refl
run_whole to_comma (d ∷ within) [] = tt
run_whole to_comma within (t ∷ ts) =
    by (ends_run to_comma within t)
    (whole_turned to_comma t ts (turned t.kind within) (λ more. run_whole to_comma more ts))
  where
    by : (b : Bool) → Whole (t ∷ ts) (turned t.kind within >>= (λ more. run to_comma more ts
        >>= (λ r. let got : Got (List Token) = Some (t ∷ r.0, r.1) in got)))
        → Whole (t ∷ ts) (if b then Some ([], t ∷ ts) else (turned t.kind within
        >>= (λ more. run to_comma more ts >>= (λ r. let got : Got (List Token) = Some (t ∷ r.0, r.1) in got))))
    by true h = refl
    by false h = h

-- The list is made of the tokens before those that are left.
pub record ListRead (ts : Tokens) (us : List Listed) (left : Tokens) : Type 0 where
  pub read : List Token
  pub whole : ts ≡ read ++ left
  pub list : us ≡ map as_listed read

pub some_is : {A : Type 0} (x y : A) → ◌≡◌ {A = Option A} (Some x) (Some y) → x ≡ y
some_is x y h = cc

-- the list that is made of what a run gives
abbrev listed_run : List Token × Tokens → Got (List Listed)
listed_run r = if list_all may_be_laid (map as_listed r.0) then Some (map as_listed r.0, r.1) else None

list_by : (ts : Tokens) (got : Got (List Token)) (us : List Listed) (left : Tokens) → Whole ts got
    → (got >>= listed_run) ≡ Some (us, left)
    → ListRead ts us left
list_by ts None us left w h = absurd (cc)
list_by ts (Some r) us left w h = by (list_all may_be_laid (map as_listed r.0)) h
  where
    by : (b : Bool) → (let list : Got (List Listed) = if b then Some (map as_listed r.0, r.1) else None in list) ≡
        Some (us, left) → ListRead ts us left
    by true g =
        let same = some_is {A = List Listed × Tokens} (map as_listed r.0, r.1) (us, left) g in
        record {
          read = r.0;
          whole = w ∙ ap (λ (got : List Listed × Tokens). r.0 ++ got.1) same;
          list =
              sym (ap (λ (got : List Listed × Tokens). got.0) same);
        }
    by false g = absurd (cc)

pub list_read : (ts : Tokens) (us : List Listed) (left : Tokens) → tokens ts ≡ Some (us, left) → ListRead ts us left
unfolding tokens_of
list_read ts us left h = list_by ts (run false [] ts) us left (run_whole false [] ts) h

-- ---- which lists may be laid out, and are balanced

are_laid-append : (xs ys : List Token) → are_laid (xs ++ ys) ≡ (are_laid xs && are_laid ys)
are_laid-append xs ys =
    ap (λ (us : List Listed). list_all may_be_laid us) (map-append as_listed xs ys)
    ∙ list_all-append may_be_laid (map as_listed xs) (map as_listed ys)

balanced_append : (xs ys : List Token) → is_balanced (map as_listed xs) ≡ true → is_balanced (map as_listed ys) ≡ true
    → is_balanced (map as_listed (xs ++ ys)) ≡ true
balanced_append xs ys h g =
    ap is_balanced (map-append as_listed xs ys) ∙ balanced_behind [] (map as_listed xs) (map as_listed ys) h ∙ g

-- ---- where a list ends

ends_or_not : (to_comma : Bool) (t : Token) (ts : Tokens) → goes_on to_comma (t ∷ ts) ≡ not (ends_run to_comma [] t)
ends_or_not false t ts = by (is_closer t.kind)
  where
    by : (b : Bool) → (not b && true) ≡ not b
    by true = refl
    by false = refl
ends_or_not true t ts = by (is_closer t.kind)
  where
    by : (b : Bool) → (not b && not (is_mark (codes ",") t)) ≡ not (b || is_mark (codes ",") t)
    by true = refl
    by false = refl

not_true : (b : Bool) → not b ≡ true → b ≡ false
not_true true h = absurd (false≢true h)
not_true false h = refl

not_false : (b : Bool) → not b ≡ false → b ≡ true
not_false true h = refl
not_false false h = absurd (false≢true (sym h))

run_stops : (to_comma : Bool) (ts : Tokens) → goes_on to_comma ts ≡ false → run to_comma [] ts ≡ Some ([], ts)
unfolding run
run_stops to_comma [] h = refl
run_stops to_comma (t ∷ ts) h =
    let ends : ends_run to_comma [] t ≡ true = not_false (ends_run to_comma [] t) (sym (ends_or_not to_comma t ts) ∙ h) in
    rw ends refl

pub list_end : (to_comma : Bool) (whole read left : Tokens)
    → run to_comma [] whole ≡ onto read (run to_comma [] left) → goes_on to_comma left ≡ false → are_laid read ≡ true
    → tokens_of to_comma whole ≡ Some (map as_listed read, left)
unfolding tokens_of
list_end to_comma whole read left p e l = rw (p, run_stops to_comma left e, append-nil read, l) refl

pub list_lost : (to_comma : Bool) (whole read left : Tokens)
    → run to_comma [] whole ≡ onto read (run to_comma [] left) → are_laid read ≡ false
    → tokens_of to_comma whole ≡ None
unfolding tokens_of
list_lost to_comma whole read left p l = rw p (by (run to_comma [] left))
  where
    by : (got : Got (List Token)) → (onto read got >>= listed_run) ≡ None
    by None = refl
    by (Some r) = rw (are_laid-append read r.0, l) refl

no_tree : (left : Tokens) → begins_tree left ≡ false → goes_on false left ≡ false
no_tree left h = rw h refl

pub tokens_end : (read left : Tokens) → is_balanced (map as_listed read) ≡ true → begins_tree left ≡ false
    → are_laid read ≡ true
    → tokens (read ++ left) ≡ Some (map as_listed read, left)
tokens_end read left b e l = list_end false (read ++ left) read left (run_over false [] read left b tt) (no_tree left e) l

pub tokens_lost : (read left : Tokens) → is_balanced (map as_listed read) ≡ true → are_laid read ≡ false
    → tokens (read ++ left) ≡ None
tokens_lost read left b l = list_lost false (read ++ left) read left (run_over false [] read left b tt) l

-- ---- token trees, one after the other

module _ (to_comma : Bool) where
  token_over : (t : Token) (rest : Tokens) → is_opener t.kind ≡ false → is_closer t.kind ≡ false
      → ends_run to_comma [] t ≡ false → run to_comma [] (t ∷ rest) ≡ onto (t ∷ []) (run to_comma [] rest)
  token_over t rest o c e = run_turned to_comma [] [] t rest e (turned_plain t.kind [] o c)

  group_over : (opener closer : Token) (inside rest : Tokens) → is_pair opener.kind closer.kind ≡ true
      → Balanced inside → ends_run to_comma [] opener ≡ false
      → run to_comma [] (opener ∷ (inside ++ closer ∷ rest))
      ≡ onto (opener ∷ (inside ++ closer ∷ [])) (run to_comma [] rest)
  group_over opener closer inside rest h b e =
      let p = pair_of opener.kind closer.kind h in
      let ended = onto (closer ∷ []) (run to_comma [] rest) in
      run_turned to_comma [] (p.delim ∷ []) opener (inside ++ closer ∷ rest) e (ap (λ k. turned k []) p.opens)
      ∙ ap (onto (opener ∷ [])) (
      run_inside to_comma p.delim [] inside (closer ∷ rest) (balanced_listed inside b)
      ∙ ap (onto inside) (run_turned to_comma (p.delim ∷ []) [] closer rest refl
      (ap (λ k. turned k (p.delim ∷ [])) p.closes ∙ turned_closer p.delim []))
      )
      ∙ onto_both (opener ∷ []) inside ended
      ∙ onto_both (opener ∷ inside) (closer ∷ []) (run to_comma [] rest)

  trees_over : (trees : Trees) (rest : Tokens) → is_one trees ≡ true → Paired trees
      → goes_on to_comma (delimiters.tokens_of trees ++ rest) ≡ true
      → run to_comma [] (delimiters.tokens_of trees ++ rest) ≡ onto (delimiters.tokens_of trees) (run to_comma [] rest)
  trees_over (One t NoTree) rest o p g =
      token_over t rest p.0 p.1 (not_true (ends_run to_comma [] t) (sym (ends_or_not to_comma t rest) ∙ g))
  trees_over (Nest opener inside closer NoTree) rest o p g =
      let all = delimiters.tokens_of inside in
      let shift : (all ++ closer ∷ []) ++ rest ≡ all ++ closer ∷ rest = append_assoc all (closer ∷ []) rest in
      let goes : ends_run to_comma [] opener ≡ false =
      not_true (ends_run to_comma [] opener) (sym (ends_or_not to_comma opener ((all ++ closer ∷ []) ++ rest)) ∙ g) in
      ap (λ (s : Tokens). run to_comma [] (opener ∷ s)) shift
      ∙ group_over opener closer all rest p.0 (inside, p.1, refl) goes
  trees_over _ rest o p g = absurd (false≢true o)

  -- A run passes over a token tree that it goes on to.
  tree_over : (tree rest : Tokens) → AreTree tree → goes_on to_comma (tree ++ rest) ≡ true
      → run to_comma [] (tree ++ rest) ≡ onto tree (run to_comma [] rest)
  tree_over tree rest a g =
      ap (λ (s : Tokens). run to_comma [] (s ++ rest)) a.3
      ∙ trees_over a.0 rest a.1 a.2 (ap (λ (s : Tokens). goes_on to_comma (s ++ rest)) (sym a.3) ∙ g)
      ∙ ap (λ (s : Tokens). onto s (run to_comma [] rest)) (sym a.3)

-- The list is made of balanced tokens, which the run passes over.
pub record ReadFrom (to_comma : Bool) (whole : Tokens) (list : List Listed) (left : Tokens) : Type 0 where
  pub read : List Token
  pub passed : run to_comma [] whole ≡ onto read (run to_comma [] left)
  pub balanced : is_balanced (map as_listed read) ≡ true
  pub list_is : list ≡ map as_listed read
  pub laid : are_laid read ≡ true

pub none_read : (to_comma : Bool) (ts : Tokens) (list : List Listed) → list ≡ [] → ReadFrom to_comma ts list ts
none_read to_comma ts list e = record {
  read = [];
  passed = sym (onto_none (run to_comma [] ts));
  balanced = refl;
  list_is = e;
  laid = refl;
}

module _ (to_comma : Bool) (whole : Tokens) (list : List Listed) (left : Tokens)
    (r : ReadFrom to_comma whole list left) where
  pub list_balanced : is_balanced list ≡ true
  list_balanced = ap is_balanced r.list_is ∙ r.balanced

  pub list_ends : goes_on to_comma left ≡ false → tokens_of to_comma whole ≡ Some (list, left)
  list_ends e = list_end to_comma whole r.read left r.passed e r.laid
      ∙ ap (λ (us : List Listed). let got : Got (List Listed) = Some (us, left) in got) (sym r.list_is)

  module _ (tree behind : Tokens) (e : left ≡ tree ++ behind) (a : AreTree tree) (g : goes_on to_comma left ≡ true) where
    further : run to_comma [] whole ≡ onto (r.read ++ tree) (run to_comma [] behind)
    further =
        r.passed
        ∙ ap (onto r.read) (ap (run to_comma []) e
        ∙ tree_over to_comma tree behind a (ap (goes_on to_comma) (sym e) ∙ g))
        ∙ onto_both r.read tree (run to_comma [] behind)

    pub tree_read : (more : List Listed) → more ≡ list ++ map as_listed tree → are_laid tree ≡ true
        → ReadFrom to_comma whole more behind
    tree_read more h l = record {
      read = r.read ++ tree;
      passed = further;
      balanced = balanced_append r.read tree r.balanced (balanced_listed tree (a.0, a.2, a.3));
      list_is = h ∙ ap (λ (us : List Listed). us ++ map as_listed tree) r.list_is
          ∙ sym (map-append as_listed r.read tree);
      laid = are_laid-append r.read tree ∙ rw (r.laid, l) refl;
    }

    pub tree_stops : (before now : List Listed) (none : ReadNone) → AreAdded before tree (Err none) now
        → Stopped (tokens_of to_comma whole) none
    tree_stops before now NoReading l = list_lost to_comma whole (r.read ++ tree) behind further
        (are_laid-append r.read tree ∙ rw (r.laid, l) refl)
    tree_stops before now NoMemory l = tt

-- ---- tokens, one after the other

and_false : (b : Bool) → (b && false) ≡ false
and_false true = refl
and_false false = refl

item_lost : (tokens : List Token) (i : ℕ) (default : Token) → i < length tokens
    → may_be_laid (as_listed (get_or tokens i default)) ≡ false
    → are_laid tokens ≡ false
item_lost [] i default lt h = absurd (omega arith)
item_lost (t ∷ ts) zero default lt h = rw h refl
item_lost (t ∷ ts) (suc i) default lt h =
    let fewer : i < length ts = omega arith in
    rw (item_lost ts i default fewer h) (and_false (may_be_laid (as_listed t)))

pub item_stops : (before now : List Listed) (tokens : List Token) (i : ℕ) (t : Token) (none : ReadNone)
    → i < length tokens → t ≡ get_or tokens i t
    → IsLaid (as_listed t) (Err none) → AreAdded before tokens (Err none) now
item_stops before now tokens i t NoReading lt e h = item_lost tokens i t lt
    (ap (λ (u : Token). may_be_laid (as_listed u)) (sym e) ∙ h)
item_stops before now tokens i t NoMemory lt e h = tt

-- ---- groups

pub opener_begins : (ts : Tokens) (d : Delim) → front_opener ts ≡ Some d → begins_group ts ≡ true
opener_begins [] d h = absurd (cc)
opener_begins (t ∷ ts) d h = by t.kind h
  where
    by : (k : Kind) → opened_by k ≡ Some d → begins_group (record t { kind = k } ∷ ts) ≡ true
    by (Opener e) g = refl
    by _ g = absurd (cc)

group_step : (k : Kind) (t : Token) (ts : Tokens) (d : Delim) → opened_by k ≡ Some d
    → group (record t { kind = k } ∷ ts)
    ≡ (tokens ts >>= (λ us. passed (closes d) us.1 >>= (λ rest. let got : Got Group =
    Some (record { delim = d; tokens = us.0 }, rest) in got)))
unfolding group
group_step (Opener e) t ts d h = let same : e ≡ d = cc in rw same refl
group_step _ t ts d h = absurd (cc)

partner_closes : (d : Delim) (k : Kind) → is_pair (Opener d) k ≡ true → ahead.is_closer d k ≡ true
partner_closes Paren (Closer Paren) h = refl
partner_closes Bracket (Closer Bracket) h = refl
partner_closes Brace (Closer Brace) h = refl
partner_closes _ _ h = absurd (false≢true h)

pair_closes : (j k : Kind) (d : Delim) → opened_by j ≡ Some d → is_pair j k ≡ true → ahead.is_closer d k ≡ true
pair_closes (Opener e) k d h p = let same : e ≡ d = cc in rw (← same) (partner_closes e k p)
pair_closes _ k d h p = absurd (cc)

module _ (ts inside behind : Tokens) (d : Delim) (g : Grouped ts inside behind) (o : front_opener ts ≡ Some d) where
  opened : opened_by g.opener.kind ≡ Some d
  opened = ap front_opener (sym g.whole) ∙ o

  group_is : group ts ≡ (tokens (inside ++ g.closer ∷ behind) >>= (λ us. passed (closes d) us.1
      >>= (λ rest. let got : Got Group = Some (record { delim = d; tokens = us.0 }, rest) in got)))
  group_is = ap group g.whole ∙ group_step g.opener.kind g.opener (inside ++ g.closer ∷ behind) d opened

  pub group_read : are_laid inside ≡ true → group ts ≡ Some (
    record { delim = d; tokens = map as_listed inside },
    behind,
  )
  group_read l =
      let stops : begins_tree (g.closer ∷ behind) ≡ false = ap not (pair_closer g.opener.kind g.closer.kind g.pair) in
      group_is ∙ rw (
        tokens_end inside (g.closer ∷ behind) (balanced_listed inside g.balanced) stops l,
        pair_closes
            g.opener.kind g.closer.kind d opened g.pair,
      ) refl

  pub group_lost : are_laid inside ≡ false → group ts ≡ None
  group_lost l = group_is ∙ rw (tokens_lost inside (g.closer ∷ behind) (balanced_listed inside g.balanced) l) refl

  module _ (slice : List Token) (e : slice ≡ inside) where
    pub opened_read : (us : List Listed) → us ≡ map as_listed slice → are_laid slice ≡ true
        → group ts ≡ Some (record { delim = d; tokens = us }, behind)
    opened_read us h l =
        group_read (ap are_laid (sym e) ∙ l)
        ∙ ap (λ (v : List Listed). let got : Got Group = Some (record { delim = d; tokens = v }, behind) in got)
        (ap (map as_listed) (sym e) ∙ sym h)

    pub opened_stops : (none : ReadNone) → AreListed slice (Err none) → Stopped (group ts) none
    opened_stops NoReading l = group_lost (ap are_laid (sym e) ∙ l)
    opened_stops NoMemory l = tt

pub no_group : (ts : Tokens) → front_opener ts ≡ None → group ts ≡ None
unfolding group
no_group [] h = refl
no_group (t ∷ ts) h = by t.kind h
  where
    by : (k : Kind) → opened_by k ≡ None → group (record t { kind = k } ∷ ts) ≡ None
    by (Opener e) g = absurd (cc)
    by _ g = refl
