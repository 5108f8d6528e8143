-- Every pattern is read where it is spelled, at each budget from its depth on.
use Rattle.std.proofs.Common.{◌≡◌, ℕ, zero, suc, ◌≤◌, ◌<◌, Bool, true, false, not, ◌&&◌, List, [], ◌∷◌, ◌++◌, map, length, drop, codes, option_map, Some, refl, sym, ap, subst, ◌∙◌, arith}
use Rattle.std.specs.Prelude.{nat_le}
use Rattle.std.proofs.lemmas.Bool.{and_parts, not-true, le-leb}
use Rattle.lay_piece.specs.declared.kind.Delim.TheVariants.{Paren, Bracket}
use Rattle.lay_piece.specs.declared.kind.Kind.TheVariants.{Underscore, Punct}
use Rattle.lay_token.specs.Operators.{is_op}
use Rattle.lay_form.specs.Form.{Blank, Fixed, Operator, Form, Done, Piece, Part, keyword, opener, closer}
use Rattle.lay_form.specs.Notation.{I0, when, piece, comma_list, braces}
use Rattle.lay_form.specs.Spelled.{IsOne, IsOperator, Spells}
use Rattle.lay_node.specs.Ahead.{Tokens}
use Rattle.lay_node.specs.Follow.{goes_on_pattern}
use Rattle.lay_node.specs.Words.{is_name, leaf_of}
use Rattle.lay_node.specs.nodes.Call.{about_call}
use Rattle.lay_node.specs.nodes.Facts.{forms, all_good}
use Rattle.lay_node.specs.nodes.Patterns.{PatFacts, pat_form, pat_good, pat_follows, pat_forms, all_pats_good, value_form, dots, first_end, last_end, may_end, has_ends, may_be_path, bound_form, bound_good, rest_form, tuple_form, pat_facts, about_pat, about_field_pat}
use Rattle.lay_node.specs.nodes.Types.{about_path, is_several, joined, lone_word}
use Rattle.lay_node.specs.reader.Loops.{Read, nodes, deepest}
use Rattle.lay_node.specs.reader.Patterns.{PatWithin, pat_by, single_by, alternatives_of, behind_bar, pat_in, single_at, pat_at}
use Rattle.lay_node.specs.reader.Types.{chain, within}
use Rattle.lay_node.specs.declared.patterns.FieldPat.TheOpen.{Pat-F}
use Rattle.lay_node.specs.declared.patterns.Pat.{Pat}
use Rattle.lay_node.specs.declared.patterns.Pat.TheVariants as pat
use Rattle.lay_node.specs.declared.patterns.PatPlace.{PatPlace}
use Rattle.lay_node.specs.declared.patterns.PatPlace.TheVariants.{Alternatives, Single}
use Rattle.lay_node.specs.declared.types.PathStyle.TheVariants.{Code}
use Rattle.lay_node.proofs.Fronts.{op_shorter}
use Rattle.lay_node.proofs.Parts.{Rows, before_blank, piece_bit}
use Rattle.lay_node.proofs.nodes.PatternsLaws.{PatView, IsOr, IsValue, IsWild, IsRest, IsCall, IsPath, IsBind, IsSpan, IsRef, IsStruct, IsTupleStruct, IsTuple, IsParen, IsSlice, pat_view, pat_or_is, pat_value_is, pat_wild_is, pat_rest_is, pat_call_is, pat_path_is, pat_bind_is, pat_span_is, pat_ref_is, pat_struct_is, pat_tuple_struct_is, pat_tuple_is, pat_paren_is, pat_slice_is}
use Rattle.lay_node.proofs.reader.Exact.{IsRead}
use Rattle.lay_node.proofs.reader.Loops.{Turn}
use Rattle.lay_node.proofs.reader.PatternsBegins.{bar, single_begins, bar_parts}
use Rattle.lay_node.proofs.reader.PatternsCompleteFields.{struct_made}
use Rattle.lay_node.proofs.reader.PatternsCompleteLists.{slice_made, tuple_struct_made, paren_made, tuple_made}
use Rattle.lay_node.proofs.reader.PatternsCompletePaths.{PatReads, Made, value_made, wild_made, call_made, path_made, rest_made, span_made, bind_made, ref_made}
use Rattle.lay_node.proofs.reader.PatternsFronts.{Follows, goes_on_none, Fits, follows_fits, bar_follows}
use Rattle.lay_node.proofs.reader.TypesBegins.{opened}
use Rattle.lay_node.proofs.reader.TypesCompleteKinds.{inner_of, within_reads}
use Rattle.lay_node.proofs.reader.TypesLists.{LastFollows, chain_complete}

-- ---- one pattern

module _ (depth : ℕ) (inner : PatWithin) (reads : PatReads depth inner) where
  abbrev Told : Pat → Tokens → Tokens → PatFacts → Type 0
  Told x ts rest F = Spells F.told.form (suc depth) ts rest → pat_good Single F ≡ true → Follows F rest → Made depth inner reads x ts rest

  single_made : (x : Pat) (ts rest : Tokens) → PatView x → Told x ts rest (about_pat x)
  single_made x ts rest v = at x v
    where
      by : (x : Pat) (F : PatFacts) → about_pat x ≡ F → Told x ts rest F → Told x ts rest (about_pat x)
      by x F e f = subst (Told x ts rest) (sym e) f

      one_good : (F : PatFacts) → pat_good Single F ≡ true → F.told.good ≡ true
      one_good F g = (and_parts F.told.good (not F.several) g).0

      no_or : (b : Bool) → (b && false) ≡ true → ⊥
      no_or true e = absurd (cc)
      no_or false e = absurd (cc)

      at : (x : Pat) → PatView x → Told x ts rest (about_pat x)
      at _ (IsOr xs) = by (pat.Or xs) (pat_facts (Pat-F.Or (map about_pat xs))) (pat_or_is xs) (λ s g f. absurd (no_or _ g))
      at _ (IsValue v) = by (pat.Value v) (pat_facts (Pat-F.Value v)) (pat_value_is v)
          (λ s g f. value_made depth inner reads v ts rest (inner_of (value_form v) depth ts rest s) (one_good (pat_facts (Pat-F.Value v)) g) f.dots)
      at _ IsWild = by pat.Wild (pat_facts Pat-F.Wild) pat_wild_is
          (λ s g f.
          let o : IsOne Underscore (codes "_") ts rest =
          piece_bit (Fixed Underscore (codes "_")) depth ts rest (inner_of (piece (Fixed Underscore (codes "_") ∷ [])) depth ts rest s) in
          wild_made depth inner reads ts rest o)
      at _ IsRest = by pat.Rest (pat_facts Pat-F.Rest) pat_rest_is
          (λ s g f.
          let o : IsOperator (codes "..") ts rest =
          piece_bit (Operator (codes "..")) depth ts rest (inner_of (piece (Operator (codes "..") ∷ [])) depth ts rest s) in
          rest_made depth inner reads ts rest o (f.span refl))
      at _ (IsCall c) = by (pat.Call c) (pat_facts (Pat-F.Call c)) (pat_call_is c)
          (λ s g f. call_made depth inner reads c ts rest (inner_of (about_call c).form depth ts rest s) (one_good (pat_facts (Pat-F.Call c)) g))
      at _ (IsPath p) = by (pat.Path p) (pat_facts (Pat-F.Path p)) (pat_path_is p)
          (λ s g f.
          let goods = and_parts (about_path p Code).good (may_be_path (lone_word p)) (one_good (pat_facts (Pat-F.Path p)) g) in
          path_made depth inner reads p ts rest (inner_of (about_path p Code).form depth ts rest s) goods.0 goods.1 f)
      at _ (IsBind r m n of) = by (pat.Bind r m n of) (pat_facts (Pat-F.Bind r m n (option_map about_pat of))) (pat_bind_is r m n of)
          (λ s g f.
          let goods = and_parts (is_name n.raw n.text) (bound_good (option_map about_pat of)) (one_good (pat_facts (Pat-F.Bind r m n (option_map about_pat of))) g) in
          let form : Form =
          when r (keyword (codes "ref") ∷ Blank ∷ []) (when m (keyword (codes "mut") ∷ Blank ∷ []) (leaf_of n.raw n.text (bound_form (option_map about_pat of)))) in
          bind_made depth inner reads r m n of ts rest (inner_of form depth ts rest s) goods.0 goods.1 f)
      at _ (IsSpan a i e) = by (pat.Span a i e) (pat_facts (Pat-F.Span a i e)) (pat_span_is a i e)
          (λ s g f.
          let goods = and_parts (has_ends a i e && may_end a) (may_end e) (one_good (pat_facts (Pat-F.Span a i e)) g) in
          let first_goods = and_parts (has_ends a i e) (may_end a) goods.0 in
          span_made depth inner reads a i e ts rest (inner_of (first_end a (Piece (dots i) (last_end e))) depth ts rest s) first_goods.0 first_goods.1 goods.1 f)
      at _ (IsRef m y) = by (pat.Ref m y) (pat_facts (Pat-F.Ref m (about_pat y))) (pat_ref_is m y)
          (λ s g f.
          let form : Form = Piece (Fixed Punct (codes "&") ∷ []) (when m (keyword (codes "mut") ∷ Blank ∷ []) (Part (pat_form Single (about_pat y)) Done)) in
          ref_made depth inner reads m y ts rest (inner_of form depth ts rest s) (one_good (pat_facts (Pat-F.Ref m (about_pat y))) g) f)
      at _ (IsStruct p fs d) = by (pat.Struct p fs d) (pat_facts (Pat-F.Struct p (map about_field_pat fs) d)) (pat_struct_is p fs d)
          (λ s g f.
          let goods = and_parts (about_path p Code).good (all_good (map about_field_pat fs)) (one_good (pat_facts (Pat-F.Struct p (map about_field_pat fs) d)) g) in
          let form : Form = Part (about_path p Code).form (braces (not d) (forms (map about_field_pat fs) ++ rest_form d)) in
          struct_made depth inner reads p fs d ts rest (inner_of form depth ts rest s) goods.0 goods.1)
      at _ (IsTupleStruct p xs) = by (pat.TupleStruct p xs) (pat_facts (Pat-F.TupleStruct p (map about_pat xs))) (pat_tuple_struct_is p xs)
          (λ s g f.
          let goods =
          and_parts (about_path p Code).good (all_pats_good Alternatives (map about_pat xs)) (one_good (pat_facts (Pat-F.TupleStruct p (map about_pat xs))) g) in
          let form : Form = Part (about_path p Code).form (comma_list true (opener Paren) (closer Paren) (pat_forms Alternatives (map about_pat xs))) in
          tuple_struct_made depth inner reads p xs ts rest (inner_of form depth ts rest s) goods.0 goods.1)
      at _ (IsTuple xs) = by (pat.Tuple xs) (pat_facts (Pat-F.Tuple (map about_pat xs))) (pat_tuple_is xs)
          (λ s g f.
          tuple_made depth inner reads xs ts rest (inner_of (tuple_form (map about_pat xs)) depth ts rest s)
          (one_good (pat_facts (Pat-F.Tuple (map about_pat xs))) g))
      at _ (IsParen y) = by (pat.Paren y) (pat_facts (Pat-F.Paren (about_pat y))) (pat_paren_is y)
          (λ s g f.
          let goods = and_parts (pat_good Alternatives (about_pat y)) (not (about_pat y).rest) (one_good (pat_facts (Pat-F.Paren (about_pat y))) g) in
          let form : Form = Piece (opener Paren ∷ []) (Part (pat_form Alternatives (about_pat y)) (piece (closer Paren ∷ []))) in
          paren_made depth inner reads y ts rest (inner_of form depth ts rest s) goods.0 (not-true (about_pat y).rest goods.1))
      at _ (IsSlice xs) = by (pat.Slice xs) (pat_facts (Pat-F.Slice (map about_pat xs))) (pat_slice_is xs)
          (λ s g f.
          let form : Form = comma_list true (opener Bracket) (closer Bracket) (pat_forms Alternatives (map about_pat xs)) in
          slice_made depth inner reads xs ts rest (inner_of form depth ts rest s) (one_good (pat_facts (Pat-F.Slice (map about_pat xs))) g))

  single_read : (x : Pat) (ts rest : Tokens) → Spells (about_pat x).told.form (suc depth) ts rest → pat_good Single (about_pat x) ≡ true
      → Follows (about_pat x) rest → IsRead (suc depth) (single_by inner) x ts rest
  single_read x ts rest s g f =
      let r = single_made x ts rest (pat_view x) s g f in (r.0, r.1, ended r.0 r.2 (goes_on_none (about_pat x) rest f))
    where
      ended : (n : ℕ) → pat_by inner ts ≡ Some ((x, n), rest) → goes_on_pattern rest ≡ false → single_by inner ts ≡ Some ((x, n), rest)
      ended n h k = rw (h, k) refl

-- At depth 0 no pattern is spelled.
pub no_depth : (x : Pat) (ts rest : Tokens) → Spells (about_pat x).told.form 0 ts rest → ⊥
no_depth x ts rest = at x (pat_view x)
  where
    by : (x : Pat) (F : PatFacts) → about_pat x ≡ F → (Spells F.told.form 0 ts rest → ⊥) → Spells (about_pat x).told.form 0 ts rest → ⊥
    by x F e f = subst (λ (G : PatFacts). Spells G.told.form 0 ts rest → ⊥) (sym e) f

    at : (x : Pat) → PatView x → Spells (about_pat x).told.form 0 ts rest → ⊥
    at _ (IsOr xs) = by (pat.Or xs) (pat_facts (Pat-F.Or (map about_pat xs))) (pat_or_is xs) (λ s. s)
    at _ (IsValue v) = by (pat.Value v) (pat_facts (Pat-F.Value v)) (pat_value_is v) (λ s. s)
    at _ IsWild = by pat.Wild (pat_facts Pat-F.Wild) pat_wild_is (λ s. s)
    at _ IsRest = by pat.Rest (pat_facts Pat-F.Rest) pat_rest_is (λ s. s)
    at _ (IsCall c) = by (pat.Call c) (pat_facts (Pat-F.Call c)) (pat_call_is c) (λ s. s)
    at _ (IsPath p) = by (pat.Path p) (pat_facts (Pat-F.Path p)) (pat_path_is p) (λ s. s)
    at _ (IsBind r m n of) = by (pat.Bind r m n of) (pat_facts (Pat-F.Bind r m n (option_map about_pat of))) (pat_bind_is r m n of) (λ s. s)
    at _ (IsSpan a i e) = by (pat.Span a i e) (pat_facts (Pat-F.Span a i e)) (pat_span_is a i e) (λ s. s)
    at _ (IsRef m y) = by (pat.Ref m y) (pat_facts (Pat-F.Ref m (about_pat y))) (pat_ref_is m y) (λ s. s)
    at _ (IsStruct p fs d) = by (pat.Struct p fs d) (pat_facts (Pat-F.Struct p (map about_field_pat fs) d)) (pat_struct_is p fs d) (λ s. s)
    at _ (IsTupleStruct p xs) = by (pat.TupleStruct p xs) (pat_facts (Pat-F.TupleStruct p (map about_pat xs))) (pat_tuple_struct_is p xs) (λ s. s)
    at _ (IsTuple xs) = by (pat.Tuple xs) (pat_facts (Pat-F.Tuple (map about_pat xs))) (pat_tuple_is xs) (λ s. s)
    at _ (IsParen y) = by (pat.Paren y) (pat_facts (Pat-F.Paren (about_pat y))) (pat_paren_is y) (λ s. s)
    at _ (IsSlice xs) = by (pat.Slice xs) (pat_facts (Pat-F.Slice (map about_pat xs))) (pat_slice_is xs) (λ s. s)

-- ---- alternatives

-- A pattern that is told to be several alternatives is.
several_is : (x : Pat) → (about_pat x).several ≡ true → (xs : List Pat) × (x ≡ pat.Or xs)
several_is x h = at x (pat_view x) h
  where
    no : (x : Pat) → (about_pat x).several ≡ false → (about_pat x).several ≡ true → (xs : List Pat) × (x ≡ pat.Or xs)
    no x n k = let e = sym n ∙ k in absurd (cc)

    at : (x : Pat) → PatView x → (about_pat x).several ≡ true → (xs : List Pat) × (x ≡ pat.Or xs)
    at _ (IsOr xs) k = (xs, refl)
    at _ (IsValue v) k = no (pat.Value v) (ap (λ (F : PatFacts). F.several) (pat_value_is v)) k
    at _ IsWild k = no pat.Wild (ap (λ (F : PatFacts). F.several) pat_wild_is) k
    at _ IsRest k = no pat.Rest (ap (λ (F : PatFacts). F.several) pat_rest_is) k
    at _ (IsCall c) k = no (pat.Call c) (ap (λ (F : PatFacts). F.several) (pat_call_is c)) k
    at _ (IsPath p) k = no (pat.Path p) (ap (λ (F : PatFacts). F.several) (pat_path_is p)) k
    at _ (IsBind r m n of) k = no (pat.Bind r m n of) (ap (λ (F : PatFacts). F.several) (pat_bind_is r m n of)) k
    at _ (IsSpan a i e) k = no (pat.Span a i e) (ap (λ (F : PatFacts). F.several) (pat_span_is a i e)) k
    at _ (IsRef m y) k = no (pat.Ref m y) (ap (λ (F : PatFacts). F.several) (pat_ref_is m y)) k
    at _ (IsStruct p fs d) k = no (pat.Struct p fs d) (ap (λ (F : PatFacts). F.several) (pat_struct_is p fs d)) k
    at _ (IsTupleStruct p xs) k = no (pat.TupleStruct p xs) (ap (λ (F : PatFacts). F.several) (pat_tuple_struct_is p xs)) k
    at _ (IsTuple xs) k = no (pat.Tuple xs) (ap (λ (F : PatFacts). F.several) (pat_tuple_is xs)) k
    at _ (IsParen y) k = no (pat.Paren y) (ap (λ (F : PatFacts). F.several) (pat_paren_is y)) k
    at _ (IsSlice xs) k = no (pat.Slice xs) (ap (λ (F : PatFacts). F.several) (pat_slice_is xs)) k

abbrev LastFits : List Pat → Tokens → Type 0
LastFits xs ts = LastFollows (λ (x : Pat) us. Follows (about_pat x) us) xs ts

-- What may follow alternatives may follow the last of them.
last_fits : (xs : List Pat) (ts : Tokens) → Follows (pat_facts (Pat-F.Or (map about_pat xs))) ts → LastFits xs ts
last_fits [] ts f = tt
last_fits (x ∷ []) ts f = record { paren = f.paren; brace = f.brace; dots = f.dots; span = f.span; at = f.at; refuses = f.refuses }
last_fits (x ∷ y ∷ ys) ts f =
    last_fits (y ∷ ys) ts (record { paren = f.paren; brace = f.brace; dots = f.dots; span = f.span; at = f.at; refuses = f.refuses })

-- One pattern without alternatives is read.
abbrev Singles : ℕ → (Tokens → Read Pat) → Type 0
Singles depth one = (x : Pat) (ts rest : Tokens) → Spells (about_pat x).told.form depth ts rest → pat_good Single (about_pat x) ≡ true
    → Follows (about_pat x) rest → IsRead depth one x ts rest

module _ (depth : ℕ) (one : Tokens → Read Pat) (singles : Singles depth one) where
  abbrev Further : Pat × ℕ → Tokens → Tokens → Type 0
  Further = Turn (is_op (codes "|")) (λ us. one (drop 1 us))

  abbrev RowsRead : Pat → List Pat → Tokens → Tokens → Type 0
  RowsRead x xs ts rest = (mid : Tokens) × IsRead depth one x ts mid × (length mid < length ts)
      × (ys : List (Pat × ℕ)) × (nodes ys ≡ xs) × (deepest ys ≤ depth) × Rows Further ys mid rest

  rows_read : (x : Pat) (xs : List Pat) (ts rest : Tokens) → Spells (joined bar (pat_forms Single (map about_pat (x ∷ xs)))) depth ts rest
      → all_pats_good Single (map about_pat (x ∷ xs)) ≡ true → LastFits (x ∷ xs) rest → RowsRead x xs ts rest
  rows_read x [] ts rest t g f =
      let good = (and_parts (pat_good Single (about_pat x)) true g).0 in
      let u : Spells (about_pat x).told.form depth ts rest = subst (λ us. Spells (about_pat x).told.form depth ts us) t.2 t.1 in
      (rest, singles x ts rest u good f, (single_begins x depth ts rest u good).less, [], refl, omega arith, refl)
  rows_read x (y ∷ ys) ts rest t g f =
      let goods = and_parts (pat_good Single (about_pat x)) (all_pats_good Single (map about_pat (y ∷ ys))) g in
      let mid = t.0 in
      let behind = t.2 in
      let o : IsOperator (codes "|") mid behind.0 = before_blank (Operator (codes "|")) mid behind.0 behind.1 in
      let r = singles x ts mid t.1 goods.0 (bar_follows (about_pat x) mid o.0) in
      let n = rows_read y ys behind.0 rest behind.2 goods.1 f in
      let next = n.1 in
      let read : one (drop 1 mid) ≡ Some ((y, next.0), n.0) = rw o.1 next.2 in
      let shorter_by : length n.0 < length mid = omega (arith, n.2, op_shorter 124 [] mid behind.0 o) in
      (mid, r, (single_begins x depth ts mid t.1 goods.0).less, (y, next.0) ∷ n.3, ap (λ zs. y ∷ zs) n.4, omega (arith, next.1, n.5), (n.0, (o.0, read, shorter_by), n.6))

  abbrev ChainRead : List Pat → Tokens → Tokens → Type 0
  ChainRead xs ts rest = (ys : List (Pat × ℕ)) × (nodes ys ≡ xs) × (deepest ys ≤ depth) × (chain (codes "|") one ts ≡ Some (ys, rest))

  chain_read : (x : Pat) (xs : List Pat) (ts rest : Tokens) → Spells (joined bar (pat_forms Single (map about_pat (x ∷ xs)))) depth ts rest
      → all_pats_good Single (map about_pat (x ∷ xs)) ≡ true → LastFits (x ∷ xs) rest → is_op (codes "|") rest ≡ false → ChainRead (x ∷ xs) ts rest
  chain_read x xs ts rest t g f stops =
      let r = rows_read x xs ts rest t g f in
      let first_read = r.1 in (
        (x, first_read.0) ∷ r.3,
        ap (λ zs. x ∷ zs) r.4,
        omega (arith, first_read.1, r.5),
        chain_complete (codes "|") one (x, first_read.0) r.3 ts r.0 rest first_read.2 r.6 stops,
      )

-- Several that were read are one level above each of them.
several_of : (budget : ℕ) (x y : Pat) (more : List Pat) (ys : List (Pat × ℕ)) (ts : Tokens) → nodes ys ≡ x ∷ y ∷ more → suc (deepest ys) ≤ budget
    → alternatives_of budget ys ts ≡ Some ((pat.Or (x ∷ y ∷ more), suc (deepest ys)), ts)
several_of budget x y more [] ts e le = absurd (cc)
several_of budget x y more (z ∷ []) ts e le = let n = ap length e in absurd (omega (arith, n))
several_of budget x y more (a ∷ b ∷ zs) ts e le =
    let test : nat_le (suc (deepest (a ∷ b ∷ zs))) budget ≡ true = le-leb (suc (deepest (a ∷ b ∷ zs))) budget le in
    rw test (ap (λ (l : List Pat). let found : Read Pat = Some ((pat.Or l, suc (deepest (a ∷ b ∷ zs))), ts) in found) e)

-- A pattern at a place is read, where each one without alternatives is, at no greater depth.
module _ (depth budget : ℕ) (within_budget : depth ≤ budget) (one : Tokens → Read Pat) (singles : (least : ℕ) → least ≤ depth → Singles least one) where
  or_read : (xs : List Pat) (ts rest : Tokens) → Spells (pat_facts (Pat-F.Or (map about_pat xs))).told.form depth ts rest
      → (is_several (map about_pat xs) && all_pats_good Single (map about_pat xs)) ≡ true → Follows (pat_facts (Pat-F.Or (map about_pat xs))) rest
      → is_op (codes "|") rest ≡ false
      → (ys : List (Pat × ℕ)) × (need : ℕ) × (need ≤ depth) × (chain (codes "|") one ts ≡ Some (ys, rest))
      × (alternatives_of budget ys rest ≡ Some ((pat.Or xs, need), rest))
  or_read [] ts rest s g f stops = absurd (cc)
  or_read (x ∷ []) ts rest s g f stops = absurd (cc)
  or_read (x ∷ y ∷ more) ts rest s g f stops =
      let i = opened (I0 (joined bar (pat_forms Single (map about_pat (x ∷ y ∷ more)))) Done) depth ts rest s in
      let t = subst (λ us. Spells (joined bar (pat_forms Single (map about_pat (x ∷ y ∷ more)))) i.0 ts us) i.2.2 i.2.1 in
      let r = chain_read i.0 one (singles i.0 (omega (arith, i.1))) x (y ∷ more) ts rest t g (last_fits (x ∷ y ∷ more) rest f) stops in
      let le : suc (deepest r.0) ≤ depth = omega (arith, r.2, i.1) in
      (r.0, suc (deepest r.0), le, r.3, several_of budget x y more r.0 rest r.1 (omega (arith, le, within_budget)))

  pub place_read : (place : PatPlace) (x : Pat) (ts rest : Tokens) → Spells (pat_form place (about_pat x)) depth ts rest
      → pat_good place (about_pat x) ≡ true → Fits place (about_pat x) rest → IsRead depth (pat_in budget one place) x ts rest
  place_read Single x ts rest s g f = singles depth (omega arith) x ts rest s g f
  place_read Alternatives x ts rest s g f = by (about_pat x).several refl
    where
      b : (mid : Tokens) × (behind_bar ts ≡ mid) × Spells (about_pat x).told.form depth mid rest
      b = bar_parts x depth ts rest s g

      made : (ys : List (Pat × ℕ)) (need : ℕ) → chain (codes "|") one b.0 ≡ Some (ys, rest) → alternatives_of budget ys rest ≡ Some ((x, need), rest)
          → pat_in budget one Alternatives ts ≡ Some ((x, need), rest)
      made ys need h k = rw (b.1, h) k

      by : (several : Bool) → (about_pat x).several ≡ several → IsRead depth (pat_in budget one Alternatives) x ts rest
      by false e =
          let r = singles depth (omega arith) x b.0 rest b.2 (rw (g, e) refl) f.1 in
          (r.0, r.1, made ((x, r.0) ∷ []) r.0 (chain_complete (codes "|") one (x, r.0) [] b.0 rest rest r.2 refl f.0) refl)
      by true e =
          let i = several_is x e in
          let told : about_pat x ≡ pat_facts (Pat-F.Or (map about_pat i.0)) = ap about_pat i.1 ∙ pat_or_is i.0 in
          let r =
          or_read i.0 b.0 rest (subst (λ (F : PatFacts). Spells F.told.form depth b.0 rest) told b.2) (subst (λ (F : PatFacts). F.told.good ≡ true) told g)
          (subst (λ (F : PatFacts). Follows F rest) told f.1) f.0 in
          (r.1, r.2, made r.0 r.1 r.3 (r.4 ∙ ap (λ (y : Pat). let found : Read Pat = Some ((y, r.1), rest) in found) (sym i.1)))

-- ---- at every depth

pub single_reads : (bound depth budget : ℕ) → depth ≤ bound → depth ≤ budget → Singles depth (single_at budget)
unfolding single_at
single_reads bound zero budget h k x ts rest s g f = absurd (no_depth x ts rest s)
single_reads zero (suc depth) budget h k x ts rest s g f = absurd (omega arith)
single_reads (suc bound) (suc depth) zero h k x ts rest s g f = absurd (omega arith)
single_reads (suc bound) (suc depth) (suc budget) h k x ts rest s g f =
    let lower : (least : ℕ) → least ≤ depth → Singles least (single_at budget) =
    λ least le. single_reads bound least budget (omega (arith, le, h)) (omega (arith, le, k)) in
    let reads : PatReads depth (record { pats = λ place us. pat_in budget (single_at budget) place us; kinds = within budget }) =
    record {
      pats = λ place y us end t i e. place_read depth budget (omega (arith, k)) (single_at budget) lower place y us end t i e;
      kinds = within_reads depth budget (omega (arith, k));
    } in
    single_read depth (record { pats = λ place us. pat_in budget (single_at budget) place us; kinds = within budget }) reads x ts rest s g f

-- A pattern that stands there is read.
pub pats_read : (place : PatPlace) (x : Pat) (depth budget : ℕ) (ts rest : Tokens) → depth ≤ budget → Spells (pat_form place (about_pat x)) depth ts rest
    → pat_good place (about_pat x) ≡ true → pat_follows place (about_pat x) rest ≡ true
    → (need : ℕ) × (need ≤ depth) × (pat_at place budget ts ≡ Some ((x, need), rest))
pats_read place x depth budget ts rest h s g f =
    place_read depth budget h (single_at budget) (λ least le. single_reads depth least budget le (omega (arith, le, h))) place x ts rest s g
    (follows_fits place (about_pat x) rest f)
