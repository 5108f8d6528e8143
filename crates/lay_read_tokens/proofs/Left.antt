-- What reading leaves: the tokens after those that are read.
use Rattle.std.proofs.Common.{◌≡◌, ℕ, zero, suc, ◌+◌, ◌<◌, ◌≤◌, Bool, true, false, List, [], ◌∷◌, length, map, drop, codes, Option, Some, None, refl, sym, ap, ◌∙◌, if◌then◌else◌, arith, length-append}
use Rattle.std.specs.List.{list_all}
use Rattle.std.proofs.Math.Seq.{drop-append_seam}
use Rattle.std.proofs.lemmas.List.{drop-drop, length-drop}
use Rattle.lay_token.specs.Operators.{op_at, is_op}
use Rattle.lay_piece.specs.declared.kind.Delim.{Delim}
use Rattle.lay_piece.specs.declared.kind.Delim.TheVariants.{Bracket, Brace}
use Rattle.lay_piece.specs.declared.kind.Kind.{Kind}
use Rattle.lay_piece.specs.declared.kind.Kind.TheVariants.{Underscore, Opener}
use Rattle.lay_token.specs.declared.token.Token.{Token}
use Rattle.lay_node.specs.Ahead.{Tokens, first, tail, is_keyword, is_mark, opens, closes}
use Rattle.lay_node.specs.nodes.Attr.{is_empty}
use Rattle.lay_node.specs.reader.Attr.{begins_group, meta_name, value, meta_input, behind_opening, meta_attr, doc_attr, is_doc, attribute, begins_attr, attributes}
use Rattle.lay_node.specs.reader.Call.{behind_bang, call, behind_end}
use Rattle.lay_node.specs.reader.Loops.{Got, ◌>>=◌, passed, element_end, repeat_from, repeat, elements_from, elements}
use Rattle.lay_node.specs.reader.SimplePath.{begins_colons, further_word, simple_path}
use Rattle.lay_node.specs.reader.Tokens.{run, tokens_of, tokens, group}
use Rattle.lay_node.specs.reader.Words.{given_name, name_by, name, word_by, word, global, path_word, begins_path_word, path_words}
use Rattle.lay_node.specs.tokens.Lexed.{may_be_laid}
use Rattle.lay_node.specs.tokens.Listing.{as_listed, is_doc_text}
use Rattle.lay_node.specs.declared.token.GivenName.TheVariants as given
use Rattle.lay_node.specs.declared.token.Name.{Name}
use Rattle.lay_node.specs.declared.token.Word.{Word}
use Rattle.lay_read_tokens.proofs.Lists.{Whole, run_whole}

-- The rest stands after at least n tokens.
pub record Left (n : ℕ) (ts rest : Tokens) : Type 0 where
  pub count : ℕ
  pub dropped : rest ≡ drop count ts
  pub fewer : n + length rest ≤ length ts

-- What reading leaves, if it gives anything, stands after at least n tokens.
abbrev pub Leaves : {A : Type 0} → ℕ → Tokens → Got A → Type 0
Leaves n ts None = Unit {0}
Leaves n ts (Some got) = Left n ts got.1

-- the same of what leaves tokens and gives nothing else
abbrev pub Passes : ℕ → Tokens → Option Tokens → Type 0
Passes n ts None = Unit {0}
Passes n ts (Some rest) = Left n ts rest

pub unread : (ts : Tokens) → Left 0 ts ts
unread ts = record { count = 0; dropped = refl; fewer = omega arith }

pub dropped : (n : ℕ) (ts : Tokens) → Left 0 ts (drop n ts)
dropped n ts = record { count = n; dropped = refl; fewer = omega (arith, length-drop n ts) }

pub one_read : (t : Token) (ts : Tokens) → Left 1 (t ∷ ts) ts
one_read t ts = record { count = 1; dropped = refl; fewer = omega arith }

pub joined : (k m n : ℕ) (ts mid rest : Tokens) → k ≤ m + n → Left m ts mid → Left n mid rest → Left k ts rest
joined k m n ts mid rest e a b = record {
  count = a.count + b.count;
  dropped = b.dropped ∙ ap (drop b.count) a.dropped ∙ drop-drop b.count a.count ts;
  fewer = omega (arith, a.fewer, b.fewer);
}

-- ---- steps

pub further : {A : Type 0} (k m n : ℕ) (ts mid : Tokens) (o : Got A) → k ≤ m + n → Left m ts mid → Leaves n mid o
    → Leaves k ts o
further k m n ts mid None e a b = tt
further k m n ts mid (Some got) e a b = joined k m n ts mid got.1 e a b

pub passes_further : (k m n : ℕ) (ts mid : Tokens) (o : Option Tokens) → k ≤ m + n → Left m ts mid → Passes n mid o
    → Passes k ts o
passes_further k m n ts mid None e a b = tt
passes_further k m n ts mid (Some rest) e a b = joined k m n ts mid rest e a b

pub chain : {A B : Type 0} (k m n : ℕ) (ts : Tokens) (o : Got A) (f : A × Tokens → Got B) → k ≤ m + n → Leaves m ts o
    → ((got : A × Tokens) → Leaves n got.1 (f got)) → Leaves k ts (o >>= f)
chain k m n ts None f e a b = tt
chain k m n ts (Some got) f e a b = further k m n ts got.1 (f got) e a (b got)

pub chain_passed : {B : Type 0} (k m n : ℕ) (ts : Tokens) (o : Option Tokens) (f : Tokens → Got B) → k ≤ m + n
    → Passes m ts o
    → ((rest : Tokens) → Leaves n rest (f rest)) → Leaves k ts (o >>= f)
chain_passed k m n ts None f e a b = tt
chain_passed k m n ts (Some rest) f e a b = further k m n ts rest (f rest) e a (b rest)

pub passed_twice : (k m n : ℕ) (ts : Tokens) (o : Option Tokens) (f : Tokens → Option Tokens) → k ≤ m + n
    → Passes m ts o
    → ((rest : Tokens) → Passes n rest (f rest)) → Passes k ts (o >>= f)
passed_twice k m n ts None f e a b = tt
passed_twice k m n ts (Some rest) f e a b = passes_further k m n ts rest (f rest) e a (b rest)

pub choice : {A : Type 0} (n : ℕ) (ts : Tokens) (b : Bool) (x y : Got A) → (b ≡ true → Leaves n ts x) → Leaves n ts y
    → Leaves n ts (if b then x else y)
choice n ts true x y p q = p refl
choice n ts false x y p q = q

-- ---- the beginning

pub first_read : (p : Token → Bool) (ts : Tokens) → first p ts ≡ true → Left 1 ts (tail ts)
first_read p [] h = absurd (cc)
first_read p (t ∷ ts) h = one_read t ts

pub passed_left : (p : Token → Bool) (ts : Tokens) → Passes 1 ts (passed p ts)
passed_left p [] = tt
passed_left p (t ∷ ts) = by_test (p t)
  where
    by_test : (b : Bool) → Passes 1 (t ∷ ts) (if b then Some ts else None)
    by_test true = one_read t ts
    by_test false = tt

pub op_read : (op : List ℕ) (n : ℕ) (ts : Tokens) → is_op op ts ≡ true → Left 1 ts (drop (suc n) ts)
unfolding op_at
op_read op n [] h = absurd (cc)
op_read op n (t ∷ ts) h = record { count = suc n; dropped = refl; fewer = omega (arith, length-drop n ts) }

pub global_left : (ts : Tokens) → Left 0 ts (global ts).1
global_left ts = by_test (is_op (codes "::") ts) refl
  where
    by_test : (b : Bool) → is_op (codes "::") ts ≡ b → (let pair : Bool × Tokens =
        if b then (true, drop 2 ts) else (false, ts) in Left 0 ts pair.1)
    by_test true h = joined 0 1 0 ts (drop 2 ts) (drop 2 ts) (omega arith) (op_read (codes "::") 1 ts h)
        (unread (drop 2 ts))
    by_test false h = unread ts

-- ---- loops

element_end_left : (closing : Token → Bool) (ts : Tokens) → Passes 0 ts (element_end closing ts)
element_end_left closing [] = tt
element_end_left closing (t ∷ ts) = by_test (is_mark (codes ",") t) (closing t)
  where
    by_test : (comma close : Bool) → Passes 0 (t ∷ ts) (if comma then Some ts else
        (if close then Some (t ∷ ts) else None))
    by_test true close = record { count = 1; dropped = refl; fewer = omega arith }
    by_test false true = unread (t ∷ ts)
    by_test false false = tt

module _ {A : Type 0} (one : Tokens → Got A) (one_left : (ts : Tokens) → Leaves 1 ts (one ts)) where
  repeat_from_left : (more : Tokens → Bool) (n : ℕ) (found : List A) (ts : Tokens)
      → Leaves 0 ts (repeat_from more one n found ts)
  unfolding repeat_from
  repeat_from_left more zero found ts = tt
  repeat_from_left more (suc n) found ts = choice 0 ts (more ts) _ _
      (λ h. chain 0 1 0 ts (one ts) _ (omega arith) (one_left ts) (λ x. repeat_from_left more n _ x.1))
      (unread ts)

  pub repeat_left : (more : Tokens → Bool) (ts : Tokens) → Leaves 0 ts (repeat more one ts)
  unfolding repeat
  repeat_left more ts = repeat_from_left more (suc (length ts)) [] ts

  elements_from_left : (closing : Token → Bool) (n : ℕ) (found : List A) (ts : Tokens)
      → Leaves 1 ts (elements_from closing one n found ts)
  unfolding elements_from
  elements_from_left closing zero found ts = tt
  elements_from_left closing (suc n) found ts = choice 1 ts (first closing ts) _ _ (λ h. first_read closing ts h)
      (chain 1 1 0 ts (one ts) _ (omega arith) (one_left ts)
      (λ x. chain_passed 0 0 1 x.1 (element_end closing x.1) _ (omega arith) (element_end_left closing x.1)
      (λ behind. elements_from_left closing n _ behind)))

  pub elements_left : (closing : Token → Bool) (ts : Tokens) → Leaves 1 ts (elements closing one ts)
  unfolding elements
  elements_left closing ts = elements_from_left closing (suc (length ts)) [] ts

-- ---- names and words

pub name_left : (ts : Tokens) → Leaves 1 ts (name ts)
unfolding name
name_left [] = tt
name_left (t ∷ ts) = by_name (name_by t.kind t.text)
  where
    by_name : (o : Option Name) → Leaves 1 (t ∷ ts) (o >>= (λ n. Some (n, ts)))
    by_name None = tt
    by_name (Some n) = one_read t ts

other_kind_left : (kind : Kind) (t : Token) (ts : Tokens) → Leaves 1 (record t { kind = kind } ∷ ts)
    (given_name (record t { kind = kind } ∷ ts))
unfolding given_name
other_kind_left Underscore t ts = one_read (record t { kind = Underscore }) ts
other_kind_left kind t ts = by_name (name_by kind t.text)
  where
    by_name : (o : Option Name) → Leaves 1 (record t { kind = kind } ∷ ts) (o >>= (λ n. Some (given.Name n, ts)))
    by_name None = tt
    by_name (Some n) = one_read (record t { kind = kind }) ts

pub given_name_left : (ts : Tokens) → Leaves 1 ts (given_name ts)
unfolding given_name
given_name_left [] = tt
given_name_left (t ∷ ts) = other_kind_left t.kind t ts

pub word_left : (ts : Tokens) → Leaves 1 ts (word ts)
unfolding word
word_left [] = tt
word_left (t ∷ ts) = by_word (word_by t.kind t.text)
  where
    by_word : (o : Option Word) → Leaves 1 (t ∷ ts) (o >>= (λ w. Some (w, ts)))
    by_word None = tt
    by_word (Some w) = one_read t ts

pub path_word_left : (ts : Tokens) → Leaves 1 ts (path_word ts)
unfolding path_word
path_word_left ts = chain 1 1 0 ts (word ts) _ (omega arith) (word_left ts) (λ w. ended w.0 w.1)
  where
    ended : (w : Word) (mid : Tokens) → Leaves 0 mid (if is_op (codes "::") mid then Some (w, drop 2 mid) else None)
    ended w mid = choice 0 mid (is_op (codes "::") mid) (Some (w, drop 2 mid)) None
        (λ h. further 0 1 0 mid (drop 2 mid) (Some (w, drop 2 mid)) (omega arith) (op_read (codes "::") 1 mid h)
        (unread (drop 2 mid))) tt

pub path_words_left : (ts : Tokens) → Leaves 0 ts (path_words ts)
unfolding path_words
path_words_left ts = repeat_left path_word path_word_left begins_path_word ts

-- ---- simple paths

pub further_word_left : (ts : Tokens) → Leaves 1 ts (further_word ts)
further_word_left ts = further 1 0 1 ts (drop 2 ts) _ (omega arith) (dropped 2 ts) (word_left (drop 2 ts))

pub simple_path_left : (ts : Tokens) → Leaves 1 ts (simple_path ts)
unfolding simple_path
simple_path_left ts = further 1 0 1 ts (global ts).1 _ (omega arith) (global_left ts)
    (chain 1 1 0 (global ts).1 (word (global ts).1) _ (omega arith) (word_left (global ts).1)
    (λ w. chain 0 0 0 w.1 (repeat begins_colons further_word w.1) _ (omega arith)
    (repeat_left further_word further_word_left begins_colons w.1) (λ more. unread more.1)))

-- ---- token lists, groups and macro calls

whole_left : (ts : Tokens) (got : Got (List Token)) → Whole ts got → Leaves 0 ts got
whole_left ts None h = tt
whole_left ts (Some r) h = record {
  count = length r.0;
  dropped = sym (ap (drop (length r.0)) h ∙ drop-append_seam r.0 r.1);
  fewer = omega (arith, ap length h, length-append r.0 r.1);
}

pub list_left : (to_comma : Bool) (ts : Tokens) → Leaves 0 ts (tokens_of to_comma ts)
unfolding tokens_of
list_left to_comma ts = chain 0 0 0 ts (run to_comma [] ts) _ (omega arith)
    (whole_left ts (run to_comma [] ts) (run_whole to_comma [] ts))
    (λ r. choice 0 r.1 (list_all may_be_laid (map as_listed r.0)) _ None (λ h. unread r.1) tt)

pub tokens_left : (ts : Tokens) → Leaves 0 ts (tokens ts)
tokens_left ts = list_left false ts

group_kind_left : (k : Kind) (t : Token) (ts : Tokens) → Leaves 1 (record t { kind = k } ∷ ts)
    (group (record t { kind = k } ∷ ts))
unfolding group
group_kind_left (Opener d) t ts = further 1 1 0 (record t { kind = Opener d } ∷ ts) ts _ (omega arith)
    (one_read (record t { kind = Opener d }) ts)
    (chain 0 0 0 ts (tokens ts) _ (omega arith) (tokens_left ts)
    (λ us. chain_passed 0 1 0 us.1 (passed (closes d) us.1) _ (omega arith) (passed_left (closes d) us.1) unread))
group_kind_left _ t ts = tt

pub group_left : (ts : Tokens) → Leaves 1 ts (group ts)
unfolding group
group_left [] = tt
group_left (t ∷ ts) = group_kind_left t.kind t ts

bang_left : (ts : Tokens) → Passes 0 ts (behind_bang ts)
bang_left ts = by_test (is_op (codes "!") ts)
  where
    by_test : (b : Bool) → Passes 0 ts (if b then Some (drop 1 ts) else None)
    by_test true = dropped 1 ts
    by_test false = tt

pub call_left : (ts : Tokens) → Leaves 1 ts (call ts)
unfolding call
call_left ts = chain 1 1 0 ts (simple_path ts) _ (omega arith) (simple_path_left ts)
    (λ p. chain_passed 0 0 0 p.1 (behind_bang p.1) _ (omega arith) (bang_left p.1)
    (λ within. chain 0 1 0 within (group within) _ (omega arith) (group_left within) (λ g. unread g.1)))

pub end_left : (d : Delim) (ts : Tokens) → Passes 0 ts (behind_end d ts)
end_left Brace ts = unread ts
end_left _ ts = passes_further 0 0 1 ts ts _ (omega arith) (unread ts) (passed_left (is_mark (codes ";")) ts)

-- ---- attributes

pub meta_name_left : (ts : Tokens) → Leaves 1 ts (meta_name ts)
unfolding meta_name
meta_name_left ts = choice 1 ts (first (is_keyword (codes "unsafe")) ts) _ _
    (λ h. first_read (is_keyword (codes "unsafe")) ts h)
    (chain 1 1 0 ts (simple_path ts) _ (omega arith) (simple_path_left ts) (λ p. unread p.1))

value_left : (ts : Tokens) → Leaves 0 ts (value ts)
unfolding value
value_left ts = further 0 0 0 ts (drop 1 ts) _ (omega arith) (dropped 1 ts)
    (chain 0 0 0 (drop 1 ts) (tokens (drop 1 ts)) _ (omega arith) (tokens_left (drop 1 ts))
    (λ us. choice 0 us.1 (is_empty us.0) None _ (λ h. tt) (unread us.1)))

meta_input_left : (ts : Tokens) → Leaves 0 ts (meta_input ts)
unfolding meta_input
meta_input_left ts = choice 0 ts (is_op (codes "=") ts) _ _
    (λ h. value_left ts)
    (choice 0 ts (first begins_group ts) _ _ (λ h. chain 0 1 0 ts (group ts) _ (omega arith) (group_left ts)
    (λ g. unread g.1))
    (unread ts))

pub opening_left : (inner : Bool) (ts : Tokens) → Passes 1 ts (behind_opening inner ts)
opening_left false ts = passed_twice 1 1 1 ts (passed (is_mark (codes "#")) ts) _ (omega arith)
    (passed_left (is_mark (codes "#")) ts) (λ mark. passed_left (opens Bracket) mark)
opening_left true ts = passed_twice 1 1 1 ts (passed (is_mark (codes "#")) ts) _ (omega arith)
    (passed_left (is_mark (codes "#")) ts)
    (λ mark. passed_twice 1 1 1 mark (passed (is_mark (codes "!")) mark) _ (omega arith)
    (passed_left (is_mark (codes "!")) mark) (λ bang. passed_left (opens Bracket) bang))

meta_attr_left : (inner : Bool) (ts : Tokens) → Leaves 1 ts (meta_attr inner ts)
unfolding meta_attr
meta_attr_left inner ts = chain_passed 1 1 1 ts (behind_opening inner ts) _ (omega arith) (opening_left inner ts)
    (λ inside. chain 1 1 0 inside (meta_name inside) _ (omega arith) (meta_name_left inside)
    (λ path. chain 0 0 0 path.1 (meta_input path.1) _ (omega arith) (meta_input_left path.1)
    (λ given. chain_passed 0 1 0 given.1 (passed (closes Bracket) given.1) _ (omega arith)
    (passed_left (closes Bracket) given.1) unread)))

doc_attr_left : (inner : Bool) (ts : Tokens) → Leaves 1 ts (doc_attr inner ts)
unfolding doc_attr
doc_attr_left inner [] = tt
doc_attr_left inner (t ∷ ts) = choice 1 (t ∷ ts) (is_doc_text inner t.text) _ None (λ h. one_read t ts) tt

pub attribute_left : (inner : Bool) (ts : Tokens) → Leaves 1 ts (attribute inner ts)
unfolding attribute
attribute_left inner ts = choice 1 ts (first (is_doc inner) ts) _ _ (λ h. doc_attr_left inner ts)
    (meta_attr_left inner ts)

pub attributes_left : (inner : Bool) (ts : Tokens) → Leaves 0 ts (attributes inner ts)
unfolding attributes
attributes_left inner ts = repeat_left (attribute inner) (attribute_left inner) (begins_attr inner) ts

-- ---- what is left, where something is read

pub left_by : {A : Type 0} (n : ℕ) (ts : Tokens) (got : Got A) (x : A) (rest : Tokens) → Leaves n ts got
    → got ≡ Some (x, rest) → Left n ts rest
left_by n ts got x rest a e = rw e at a

pub shorter : {A : Type 0} (ts : Tokens) (got : Got A) (x : A) (rest : Tokens) → Leaves 1 ts got
    → got ≡ Some (x, rest) → length rest < length ts
shorter ts got x rest a e = omega (arith, (left_by 1 ts got x rest a e).fewer)

no_longer : (ts : Tokens) (o : Option Tokens) (rest : Tokens) → Passes 0 ts o → o ≡ Some rest → length rest ≤ length ts
no_longer ts None rest a e = absurd (cc)
no_longer ts (Some left) rest a e = let same : left ≡ rest = cc in omega (arith, a.fewer, ap length same)

-- the same after an element and what ends it
pub element_shorter : {A : Type 0} (closing : Token → Bool) (ts : Tokens) (got : Got A) (x : A) (mid behind : Tokens)
    → Leaves 1 ts got
    → got ≡ Some (x, mid) → element_end closing mid ≡ Some behind → length behind < length ts
element_shorter closing ts got x mid behind a h g =
    omega (
      arith,
      shorter ts got x mid a h,
      no_longer mid (element_end closing mid) behind
          (element_end_left closing mid) g,
    )
