-- What reading of patterns leaves: the tokens after those that are read.
use Rattle.std.proofs.Common.{◌≡◌, ℕ, zero, suc, nat_le, ◌&&◌, ◌||◌, Bool, true, false, List, [], ◌∷◌, drop, codes, Option, Some, None, if◌then◌else◌, refl, arith}
use Rattle.std.proofs.lemmas.List.{length-drop}
use Rattle.lay_token.specs.Operators.{op_at, is_op}
use Rattle.lay_piece.specs.declared.kind.Delim.TheVariants.{Paren, Bracket, Brace}
use Rattle.lay_token.specs.declared.token.Token.{Token}
use Rattle.lay_node.specs.Ahead.{Tokens, first, tail, is_keyword, is_mark, opens, closes}
use Rattle.lay_node.specs.Begins.{begins_span_end, begins_value, is_literal_token}
use Rattle.lay_node.specs.Follow.{begins_dots, goes_on_pattern}
use Rattle.lay_node.specs.Words.{is_name}
use Rattle.lay_node.specs.nodes.Patterns.{about_pat, is_self}
use Rattle.lay_node.specs.nodes.Types.{lone_word}
use Rattle.lay_node.specs.reader.Attr.{attributes}
use Rattle.lay_node.specs.reader.Call.{call}
use Rattle.lay_node.specs.reader.Loops.{Got, Read, passed, deepest, elements, open_elements}
use Rattle.lay_node.specs.reader.Patterns as p
use Rattle.lay_node.specs.reader.Patterns.{PatWithin}
use Rattle.lay_node.specs.reader.Types as r
use Rattle.lay_node.specs.reader.Types.{begins_call, flag, literal, within}
use Rattle.lay_node.specs.reader.Words.{name}
use Rattle.lay_node.specs.declared.attr.Attr.{Attr}
use Rattle.lay_node.specs.declared.patterns.Pat.{Pat}
use Rattle.lay_node.specs.declared.patterns.PatPlace.{PatPlace}
use Rattle.lay_node.specs.declared.patterns.PatPlace.TheVariants.{Alternatives, Single}
use Rattle.lay_node.specs.declared.patterns.SpanEnd.{SpanEnd}
use Rattle.lay_node.specs.declared.token.Name.{Name}
use Rattle.lay_node.specs.declared.token.Word.{Word}
use Rattle.lay_node.specs.declared.types.Path.{Path}
use Rattle.lay_node.specs.declared.types.PathStyle.TheVariants.{Code}
use Rattle.lay_read_tokens.proofs.Left.{Left, Leaves, Passes, unread, dropped, joined, further, chain, chain_passed, choice, first_read, passed_left, elements_left, name_left, call_left, attributes_left}
use Rattle.lay_read_parts.proofs.Left.{flag_left, literal_left, chain_left, open_left}
use Rattle.lay_read_types.proofs.Left.{path_left, left_within}
use Rattle.lay_read_pats.specs.Answers.{pats_within}

-- ---- small parts

value_left : (ts : Tokens) → Leaves 1 ts (p.value ts)
unfolding p.value
value_left ts = choice 1 ts (first (is_mark (codes "-")) ts) _ _
    (λ h. further 1 1 0 ts (tail ts) _ (omega arith) (first_read (is_mark (codes "-")) ts h)
    (chain 0 1 0 (tail ts) (literal p.is_number_token (tail ts)) _ (omega arith)
    (literal_left p.is_number_token (tail ts)) (λ l. unread l.1)))
    (chain 1 1 0 ts (literal is_literal_token ts) _ (omega arith) (literal_left is_literal_token ts) (λ l. unread l.1))

call_pat_left : (ts : Tokens) → Leaves 1 ts (p.call_pat ts)
call_pat_left ts = chain 1 1 0 ts (call ts) _ (omega arith) (call_left ts) (λ c. unread c.1)

pub index_left : (ts : Tokens) → Leaves 0 ts (p.index ts)
index_left [] = tt
index_left (t ∷ ts) = choice 0 (t ∷ ts) (p.is_int t.kind && is_op (codes ":") ts) _ None (λ h. dropped 2 (t ∷ ts)) tt

colon_left : (ts : Tokens) → Passes 0 ts (r.operator (codes ":") ts)
colon_left ts = by (is_op (codes ":") ts)
  where
    by : (b : Bool) → Passes 0 ts (if b then Some (drop 1 ts) else None)
    by true = dropped 1 ts
    by false = tt

field_name_left : (ts : Tokens) → Leaves 0 ts (p.field_name ts)
field_name_left ts = chain 0 1 0 ts (name ts) _ (omega arith) (name_left ts)
    (λ n. chain_passed 0 0 0 n.1 (r.operator (codes ":") n.1) _ (omega arith) (colon_left n.1) unread)

bar_left : (ts : Tokens) → Left 0 ts (p.behind_bar ts)
bar_left ts = by (is_op (codes "|") ts)
  where
    by : (b : Bool) → Left 0 ts (if b then drop 1 ts else ts)
    by true = dropped 1 ts
    by false = unread ts

rest_left : (b : Bool) (ts : Tokens) → Left 0 ts (if b then drop 2 ts else ts)
rest_left true ts = dropped 2 ts
rest_left false ts = unread ts

-- after the dots of a span
dots_read : (ts : Tokens) → begins_dots ts ≡ true → (n : ℕ) → Left 1 ts (drop (suc n) ts)
unfolding op_at
dots_read [] h n = absurd (cc)
dots_read (t ∷ ts) h n = record { count = suc n; dropped = refl; fewer = omega (arith, length-drop n ts) }

alternatives_left : (budget : ℕ) (xs : List (Pat × ℕ)) (ts : Tokens) → Leaves 0 ts (p.alternatives_of budget xs ts)
alternatives_left budget [] ts = choice 0 ts (nat_le (suc (deepest {A = Pat} [])) budget) _ None (λ h. unread ts) tt
alternatives_left budget (x ∷ []) ts = unread ts
alternatives_left budget (x ∷ y ∷ more) ts =
    choice 0 ts (nat_le (suc (deepest (x ∷ y ∷ more))) budget) _ None (λ h. unread ts) tt

module _ (budget : ℕ) (one : Tokens → Read Pat) (one_left : (ts : Tokens) → Leaves 1 ts (one ts)) where
  place_left : (place : PatPlace) (ts : Tokens) → Leaves 1 ts (p.pat_in budget one place ts)
  place_left Single ts = one_left ts
  place_left Alternatives ts = further 1 0 1 ts (p.behind_bar ts) _ (omega arith) (bar_left ts)
      (chain 1 1 0 (p.behind_bar ts) (r.chain (codes "|") one (p.behind_bar ts)) _ (omega arith)
      (chain_left one one_left (codes "|") (p.behind_bar ts)) (λ xs. alternatives_left budget xs.0 xs.1))

-- ---- over what is one level deeper

-- Each reader of what is one level deeper passes a token at least.
record LeftWithin (deeper : PatWithin) : Type 0 where
  pats : (place : PatPlace) (ts : Tokens) → Leaves 1 ts (deeper.pats place ts)
  paths : (ts : Tokens) → Leaves 1 ts (r.path deeper.kinds Code ts)

module _ (deeper : PatWithin) (l : LeftWithin deeper) where
  one_end_left : (ts : Tokens) → Leaves 1 ts (p.one_end deeper.kinds ts)
  unfolding p.one_end
  one_end_left ts = choice 1 ts (begins_value ts) _ _
      (λ h. chain 1 1 0 ts (p.value ts) _ (omega arith) (value_left ts) (λ v. unread v.1))
      (chain 1 1 0 ts (r.path deeper.kinds Code ts) _ (omega arith) (l.paths ts) (λ x. unread x.1))

  closed_left : (start : Option SpanEnd) (need : ℕ) (inclusive : Bool) (ts : Tokens)
      → Leaves 0 ts (p.closed_span deeper.kinds start need inclusive ts)
  closed_left start need inclusive ts = chain 0 1 0 ts (p.one_end deeper.kinds ts) _ (omega arith) (one_end_left ts)
      (λ e. unread e.1)

  open_span_left : (start : Option SpanEnd) (need : ℕ) (ts : Tokens) → Leaves 0 ts (p.open_span start need ts)
  open_span_left None need ts = unread ts
  open_span_left (Some start) need ts = unread ts

  span_left : (k : ℕ) (start : Option SpanEnd) (need : ℕ) (ts : Tokens) → ((n : ℕ) → Left k ts (drop (suc n) ts))
      → Leaves k ts (p.span deeper.kinds start need ts)
  unfolding p.span
  span_left k start need ts behind = choice k ts (is_op (codes "..=") ts) _ _
      (λ h. further k k 0 ts (drop 3 ts) _ (omega arith) (behind 2) (closed_left start need true (drop 3 ts)))
      (choice k ts (begins_span_end (drop 2 ts)) _ _
      (λ h. further k k 0 ts (drop 2 ts) _ (omega arith) (behind 1) (closed_left start need false (drop 2 ts)))
      (further k k 0 ts (drop 2 ts) _ (omega arith) (behind 1) (open_span_left start need (drop 2 ts))))

  value_pat_left : (ts : Tokens) → Leaves 1 ts (p.value_pat deeper.kinds ts)
  unfolding p.value_pat
  value_pat_left ts = chain 1 1 0 ts (p.value ts) _ (omega arith) (value_left ts)
      (λ v. choice 0 v.1 (begins_dots v.1) _ _ (λ h. span_left 0 _ 0 v.1 (λ n. dropped (suc n) v.1)) (unread v.1))

  -- ---- names that are bound

  bound_left : (x : Pat × ℕ) (ts : Tokens) → Leaves 0 ts (p.bound x ts)
  bound_left x ts = choice 0 ts (is_op (codes "::") ts || is_op (codes "!") ts) None _ (λ h. tt) (unread ts)

  bind_left : (by_ref mutable : Bool) (n : Name) (ts : Tokens) → Leaves 0 ts (p.bind deeper by_ref mutable n ts)
  unfolding p.bind
  bind_left by_ref mutable n ts = choice 0 ts (is_op (codes "@") ts) _ _
      (λ h. further 0 0 0 ts (drop 1 ts) _ (omega arith) (dropped 1 ts)
      (chain 0 1 0 (drop 1 ts) (deeper.pats Single (drop 1 ts)) _ (omega arith) (l.pats Single (drop 1 ts))
      (λ x. bound_left _ x.1)))
      (bound_left _ ts)

  marked_left : (ts : Tokens) → Leaves 1 ts (p.marked_bind deeper ts)
  unfolding p.marked_bind
  marked_left ts =
      let by_ref = (flag (is_keyword (codes "ref")) ts).1 in
      let mutable = (flag (is_keyword (codes "mut")) by_ref).1 in
      further 1 0 1 ts by_ref _ (omega arith) (flag_left (is_keyword (codes "ref")) ts)
      (further 1 0 1 by_ref mutable _ (omega arith) (flag_left (is_keyword (codes "mut")) by_ref)
      (chain 1 1 0 mutable (name mutable) _ (omega arith) (name_left mutable) (λ n. bind_left _ _ n.0 n.1)))

  -- ---- what begins with a path

  plain_left : (x : Path × ℕ) (ts : Tokens) → Leaves 0 ts (p.plain_path x ts)
  plain_left x ts = choice 0 ts (is_op (codes "!") ts) None _ (λ h. tt) (unread ts)

  word_left : (x : Path × ℕ) (o : Option Word) (ts : Tokens) → Leaves 0 ts (p.word_pat deeper x o ts)
  word_left x None ts = plain_left x ts
  word_left x (Some w) ts = choice 0 ts (is_name w.raw w.text) _ _ (λ h. bind_left false false _ ts)
      (choice 0 ts (is_self w) None _ (λ h. tt) (plain_left x ts))

  elements_of_left : (closing : Token → Bool) (ts : Tokens)
      → Leaves 1 ts (elements closing (deeper.pats Alternatives) ts)
  elements_of_left closing ts = elements_left (deeper.pats Alternatives) (l.pats Alternatives) closing ts

  tuple_struct_left : (x : Path × ℕ) (ts : Tokens) → Leaves 0 ts (p.tuple_struct deeper x ts)
  tuple_struct_left x ts = chain 0 1 0 ts (elements (closes Paren) (deeper.pats Alternatives) ts) _ (omega arith)
      (elements_of_left (closes Paren) ts) (λ xs. unread xs.1)

  short_left : (attrs : List Attr) (ts : Tokens) → Leaves 1 ts (p.short_field deeper attrs ts)
  short_left attrs ts = chain 1 1 0 ts (deeper.pats Single ts) _ (omega arith) (l.pats Single ts)
      (λ x. choice 0 x.1 (about_pat x.0.0).short _ None (λ h. unread x.1) tt)

  full_left : (ts mid : Tokens) → Left 0 ts mid → Leaves 1 ts (deeper.pats Alternatives mid)
  full_left ts mid a = further 1 0 1 ts mid _ (omega arith) a (l.pats Alternatives mid)

  named_left : (attrs : List Attr) (got : Got Name) (ts : Tokens) → Leaves 0 ts got
      → Leaves 1 ts (p.named_field deeper attrs got ts)
  named_left attrs None ts a = short_left attrs ts
  named_left attrs (Some n) ts a = chain 1 1 0 ts (deeper.pats Alternatives n.1) _ (omega arith) (full_left ts n.1 a)
      (λ x. unread x.1)

  field_by_left : (attrs : List Attr) (got : Got (List ℕ)) (ts : Tokens) → Leaves 0 ts got
      → Leaves 1 ts (p.field_by deeper attrs got ts)
  field_by_left attrs None ts a = named_left attrs (p.field_name ts) ts (field_name_left ts)
  field_by_left attrs (Some i) ts a = chain 1 1 0 ts (deeper.pats Alternatives i.1) _ (omega arith) (full_left ts i.1 a)
      (λ x. unread x.1)

  one_field_left : (ts : Tokens) → Leaves 1 ts (p.one_field deeper ts)
  unfolding p.one_field
  one_field_left ts = chain 1 0 1 ts (attributes false ts) _ (omega arith) (attributes_left false ts)
      (λ attrs. field_by_left attrs.0 (p.index attrs.1) attrs.1 (index_left attrs.1))

  fields_left : (ts : Tokens) → Leaves 0 ts (p.fields deeper ts)
  unfolding p.fields
  fields_left ts = chain 0 0 0 ts (open_elements p.begins_field (p.one_field deeper) ts) _ (omega arith)
      (open_left (p.one_field deeper) one_field_left p.begins_field ts)
      (λ fs. let us : Tokens = if fs.0.1 && is_op (codes "..") fs.1 then drop 2 fs.1 else fs.1 in
      further 0 0 0 fs.1 us _ (omega arith) (rest_left (fs.0.1 && is_op (codes "..") fs.1) fs.1)
      (chain_passed 0 1 0 us (passed (closes Brace) us) _ (omega arith) (passed_left (closes Brace) us) unread))

  path_by_left : (x : Path × ℕ) (ts : Tokens) → Leaves 0 ts (p.path_by deeper x ts)
  unfolding p.path_by
  path_by_left x ts = choice 0 ts (first (opens Paren) ts) _ _
      (λ h. further 0 1 0 ts (tail ts) _ (omega arith) (first_read (opens Paren) ts h) (tuple_struct_left x (tail ts)))
      (choice 0 ts (first (opens Brace) ts) _ _
      (λ h. further 0 1 0 ts (tail ts) _ (omega arith) (first_read (opens Brace) ts h)
      (chain 0 0 0 (tail ts) (p.fields deeper (tail ts)) _ (omega arith) (fields_left (tail ts)) (λ fs. unread fs.1)))
      (choice 0 ts (begins_dots ts) _ _ (λ h. span_left 0 _ x.1 ts (λ n. dropped (suc n) ts))
      (word_left x (lone_word x.0) ts)))

  path_pat_left : (ts : Tokens) → Leaves 1 ts (p.path_pat deeper ts)
  unfolding p.path_pat
  path_pat_left ts = chain 1 1 0 ts (r.path deeper.kinds Code ts) _ (omega arith) (l.paths ts)
      (λ x. path_by_left x.0 x.1)

  -- ---- in delimiters, and references

  ref_left : (ts : Tokens) → Leaves 0 ts (p.ref_pat deeper ts)
  unfolding p.ref_pat
  ref_left ts =
      let mid = (flag (is_keyword (codes "mut")) ts).1 in
      further 0 0 1 ts mid _ (omega arith) (flag_left (is_keyword (codes "mut")) ts)
      (chain 1 1 0 mid (deeper.pats Single mid) _ (omega arith) (l.pats Single mid)
      (λ x. choice 0 x.1 (about_pat x.0.0).span None _ (λ h. tt) (unread x.1)))

  tuple_left : (x : Pat × ℕ) (xs : List (Pat × ℕ)) (ts : Tokens) → Leaves 0 ts (p.tuple_of x xs ts)
  tuple_left x [] ts = choice 0 ts (about_pat x.0).rest None _ (λ h. tt) (unread ts)
  tuple_left x (y ∷ more) ts = unread ts

  alone_left : (x : Pat × ℕ) (ts : Tokens) → Leaves 0 ts (p.alone_of x ts)
  alone_left x ts = choice 0 ts (about_pat x.0).rest _ _ (λ h. unread ts) (unread ts)

  paren_by_left : (x : Pat × ℕ) (ts : Tokens) → Leaves 0 ts (p.paren_by deeper x ts)
  paren_by_left x ts = choice 0 ts (first (closes Paren) ts) _ _
      (λ h. further 0 1 0 ts (tail ts) _ (omega arith) (first_read (closes Paren) ts h) (alone_left x (tail ts)))
      (chain_passed 0 1 0 ts (passed (is_mark (codes ",")) ts) _ (omega arith) (passed_left (is_mark (codes ",")) ts)
      (λ behind. chain 0 1 0 behind (elements (closes Paren) (deeper.pats Alternatives) behind) _ (omega arith)
      (elements_of_left (closes Paren) behind) (λ more. tuple_left x more.0 more.1)))

  paren_left : (ts : Tokens) → Leaves 0 ts (p.paren_pat deeper ts)
  unfolding p.paren_pat
  paren_left ts = choice 0 ts (first (closes Paren) ts) _ _
      (λ h. joined 0 1 0 ts (tail ts) (tail ts) (omega arith) (first_read (closes Paren) ts h) (unread (tail ts)))
      (chain 0 1 0 ts (deeper.pats Alternatives ts) _ (omega arith) (l.pats Alternatives ts)
      (λ x. paren_by_left x.0 x.1))

  slice_left : (ts : Tokens) → Leaves 0 ts (p.slice_pat deeper ts)
  unfolding p.slice_pat
  slice_left ts = chain 0 1 0 ts (elements (closes Bracket) (deeper.pats Alternatives) ts) _ (omega arith)
      (elements_of_left (closes Bracket) ts) (λ xs. unread xs.1)

  -- ---- each kind

  word_led_left : (ts : Tokens) → Leaves 1 ts (p.word_led deeper ts)
  word_led_left ts = choice 1 ts (p.begins_bind ts) _ _ (λ h. marked_left ts)
      (choice 1 ts (begins_call ts) _ _ (λ h. call_pat_left ts) (path_pat_left ts))

  pat_by_left : (ts : Tokens) → Leaves 1 ts (p.pat_by deeper ts)
  unfolding p.pat_by
  pat_by_left ts = choice 1 ts (begins_value ts) _ _ (λ h. value_pat_left ts)
      (choice 1 ts (first p.is_underscore ts) _ _ (λ h. first_read p.is_underscore ts h)
      (choice 1 ts (begins_dots ts) _ _ (λ h. span_left 1 None 0 ts (dots_read ts h))
      (choice 1 ts (first (is_mark (codes "&")) ts) _ _
      (λ h. further 1 1 0 ts (tail ts) _ (omega arith) (first_read (is_mark (codes "&")) ts h) (ref_left (tail ts)))
      (choice 1 ts (first (opens Paren) ts) _ _
      (λ h. further 1 1 0 ts (tail ts) _ (omega arith) (first_read (opens Paren) ts h) (paren_left (tail ts)))
      (choice 1 ts (first (opens Bracket) ts) _ _
      (λ h. further 1 1 0 ts (tail ts) _ (omega arith) (first_read (opens Bracket) ts h) (slice_left (tail ts)))
      (word_led_left ts))))))

  single_by_left : (ts : Tokens) → Leaves 1 ts (p.single_by deeper ts)
  single_by_left ts = chain 1 1 0 ts (p.pat_by deeper ts) _ (omega arith) (pat_by_left ts)
      (λ x. choice 0 x.1 (goes_on_pattern x.1) None _ (λ h. tt) (unread x.1))

-- ---- within a depth

pub single_leaves : (depth : ℕ) (ts : Tokens) → Leaves 1 ts (p.single_at depth ts)
unfolding p.single_at
single_leaves zero ts = tt
single_leaves (suc depth) ts = single_by_left (pats_within depth) (record {
  pats = λ place us. place_left depth (p.single_at depth) (single_leaves depth) place us;
  paths = λ us. path_left (within depth) (left_within depth) Code us;
}) ts

pub pats_leave : (depth : ℕ) (place : PatPlace) (ts : Tokens) → Leaves 1 ts (p.pat_at place depth ts)
pats_leave depth place ts = place_left depth (p.single_at depth) (single_leaves depth) place ts

pub alternatives_leave : (depth : ℕ) (ts : Tokens) → Leaves 1 ts (p.pat_at Alternatives depth ts)
alternatives_leave depth ts = pats_leave depth Alternatives ts

pub field_leaves : (depth : ℕ) (ts : Tokens) → Leaves 1 ts (p.one_field (pats_within depth) ts)
field_leaves depth ts = one_field_left (pats_within depth) (record {
  pats = λ place us. pats_leave depth place us;
  paths = λ us. path_left (within depth) (left_within depth) Code us;
}) ts
