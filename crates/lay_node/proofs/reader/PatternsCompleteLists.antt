-- Patterns in parentheses and brackets are read where they are spelled, where what is one level deeper is read.
use Rattle.std.proofs.Common.{◌≡◌, ℕ, suc, ◌≤◌, ◌<◌, max, Bool, true, false, List, [], ◌∷◌, map, length, codes, Some, refl, sym, ap, subst, ◌∙◌, arith}
use Rattle.std.specs.List.{list_all}
use Rattle.std.proofs.lemmas.Bool.{and_parts}
use Rattle.std.proofs.lemmas.List.Folds.{list_all-map}
use Rattle.lay_piece.specs.Forms.{opening, closing}
use Rattle.lay_piece.specs.declared.kind.Delim.{Delim}
use Rattle.lay_piece.specs.declared.kind.Delim.TheVariants.{Paren, Bracket}
use Rattle.lay_piece.specs.declared.kind.Kind.TheVariants.{Punct, Opener, Closer}
use Rattle.lay_token.specs.Operators.{is_op}
use Rattle.lay_form.specs.Form.{Bit, Fixed, Form, Piece, Part, opener, closer}
use Rattle.lay_form.specs.Notation.{piece, comma_list}
use Rattle.lay_form.specs.Spelled.{IsOne, IsBit, Spells}
use Rattle.lay_node.specs.Ahead.{Tokens, first, tail, is_mark, opens, closes}
use Rattle.lay_node.specs.Begins.{begins_value}
use Rattle.lay_node.specs.Follow.{begins_dots}
use Rattle.lay_node.specs.nodes.Patterns.{pat_form, pat_good, pat_forms, all_pats_good, tuple_form, one_form, about_pat}
use Rattle.lay_node.specs.nodes.Types.{about_path}
use Rattle.lay_node.specs.reader.Loops.{Read, nodes, deepest, elements}
use Rattle.lay_node.specs.reader.Patterns.{PatWithin, alone_of, tuple_of, paren_by, paren_pat, slice_pat, is_underscore, path_by, pat_by}
use Rattle.lay_node.specs.declared.patterns.Pat.{Pat}
use Rattle.lay_node.specs.declared.patterns.Pat.TheVariants as pat
use Rattle.lay_node.specs.declared.patterns.PatPlace.TheVariants.{Alternatives}
use Rattle.lay_node.specs.declared.types.Path.{Path}
use Rattle.lay_node.specs.declared.types.PathStyle.TheVariants.{Code}
use Rattle.lay_node.proofs.Fronts.{one_front, one_no_op, mark_passed, closer_first}
use Rattle.lay_node.proofs.Parts.{bit_alone, piece_bit}
use Rattle.lay_node.proofs.reader.Exact.{IsRead}
use Rattle.lay_node.proofs.reader.PatternsBegins.{starts}
use Rattle.lay_node.proofs.reader.PatternsCompletePaths.{PatReads, Made, path_there}
use Rattle.lay_node.proofs.reader.PatternsFronts.{ends_fits}
use Rattle.lay_node.proofs.reader.TypesCompleteParts.{one_left}
use Rattle.lay_node.proofs.reader.TypesFronts.{Ends, comma_ends, closer_ends}
use Rattle.lay_node.proofs.reader.TypesLists.{forms_of, closer_closes, some_read, none_read, list_read}

many_of : (x : Pat) (n : ℕ) (y : Pat) (more : List Pat) (ys : List (Pat × ℕ)) (ts : Tokens) → nodes ys ≡ y ∷ more
    → tuple_of (x, n) ys ts ≡ Some ((pat.Tuple (x ∷ y ∷ more), suc (max n (deepest ys))), ts)
many_of x n y more [] ts e = absurd (cc)
many_of x n y more (z ∷ zs) ts e =
    ap (λ (l : List Pat). let found : Read Pat = Some ((pat.Tuple (x ∷ l), suc (max n (deepest (z ∷ zs)))), ts) in found) e

module _ (depth : ℕ) (inner : PatWithin) (reads : PatReads depth inner) where
  -- ---- lists

  abbrev Spelling : Pat → Form
  Spelling x = pat_form Alternatives (about_pat x)

  abbrev Good : Pat → Bool
  Good x = pat_good Alternatives (about_pat x)

  element_read : (x : Pat) (ts rest : Tokens) → Spells (Spelling x) depth ts rest → Good x ≡ true → Ends rest
      → IsRead depth (inner.pats Alternatives) x ts rest
  element_read x ts rest s g e = reads.pats Alternatives x ts rest s g (ends_fits Alternatives (about_pat x) rest e)

  element_starts : (d : Delim) (x : Pat) (ts rest : Tokens) → Spells (Spelling x) depth ts rest → Good x ≡ true
      → (first (closes d) ts ≡ false) × (length rest < length ts)
  element_starts d x ts rest s g = let b = starts Alternatives x depth ts rest s g in (b.closer d, b.less)

  abbrev PatsRead : Delim → List Pat → Tokens → Tokens → Type 0
  PatsRead d xs ts rest = (ys : List (Pat × ℕ)) × (nodes ys ≡ xs) × (deepest ys ≤ depth) × (elements (closes d) (inner.pats Alternatives) ts ≡ Some (ys, rest))

  goods_of : (xs : List Pat) → all_pats_good Alternatives (map about_pat xs) ≡ true → list_all Good xs ≡ true
  goods_of xs g = sym (list_all-map (pat_good Alternatives) about_pat xs) ∙ g

  pats_read : (d : Delim) (o : Bit) (xs : List Pat) (ts rest : Tokens) → all_pats_good Alternatives (map about_pat xs) ≡ true
      → Spells (comma_list true o (closer d) (pat_forms Alternatives (map about_pat xs))) depth ts rest
      → (inside : Tokens) × IsBit o ts inside × PatsRead d xs inside rest
  pats_read d o xs ts rest g s =
      list_read (closer d) (closes d) (closer_closes d) (inner.pats Alternatives) Spelling Good depth element_read (element_starts d) o xs ts rest
      (goods_of xs g) (subst (λ fs. Spells (comma_list true o (closer d) fs) depth ts rest) (forms_of (pat_form Alternatives) about_pat xs) s)

  -- ---- what begins with a delimiter

  open_by : (d : Delim) (ts inside : Tokens) → IsOne (Opener d) (opening d ∷ []) ts inside
      → (begins_value ts ≡ false) × (first is_underscore ts ≡ false) × (begins_dots ts ≡ false) × (first (is_mark (codes "&")) ts ≡ false)
  open_by d ts inside o =
      let f = (one_front (Opener d) (opening d ∷ []) ts inside o).1 in (
        rw f refl,
        rw f refl,
        rw (
          one_no_op (codes "..") (Opener d) (opening d ∷ []) ts inside refl o,
          one_no_op (codes "..=") (Opener d) (opening d ∷ []) ts inside refl o,
        ) refl,
        rw f refl,
      )

  paren_there : (ts inside : Tokens) → IsOne (Opener Paren) (opening Paren ∷ []) ts inside → pat_by inner ts ≡ paren_pat inner inside
  unfolding pat_by
  paren_there ts inside o =
      let n = open_by Paren ts inside o in
      let there : first (opens Paren) ts ≡ true = rw (one_front (Opener Paren) (opening Paren ∷ []) ts inside o).1 refl in
      rw (n.0, n.1, n.2, n.3, there, one_left (Opener Paren) (opening Paren ∷ []) ts inside o) refl

  pub slice_made : (xs : List Pat) (ts rest : Tokens)
      → Spells (comma_list true (opener Bracket) (closer Bracket) (pat_forms Alternatives (map about_pat xs))) depth ts rest
      → all_pats_good Alternatives (map about_pat xs) ≡ true → Made depth inner reads (pat.Slice xs) ts rest
  unfolding pat_by slice_pat
  slice_made xs ts rest s g =
      let l = pats_read Bracket (opener Bracket) xs ts rest g s in
      let inside = l.0 in
      let o : IsOne (Opener Bracket) (opening Bracket ∷ []) ts inside = l.1 in
      let n = open_by Bracket ts inside o in
      let f = (one_front (Opener Bracket) (opening Bracket ∷ []) ts inside o).1 in
      let no_paren : first (opens Paren) ts ≡ false = rw f refl in
      let there : first (opens Bracket) ts ≡ true = rw f refl in
      let ys = l.2 in (
        suc (deepest ys.0),
        omega (arith, ys.2),
        rw (n.0, n.1, n.2, n.3, no_paren, there, one_left (Opener Bracket) (opening Bracket ∷ []) ts inside o, ys.3, ys.1) refl,
      )

  pub tuple_struct_made : (p : Path) (xs : List Pat) (ts rest : Tokens)
      → Spells (Part (about_path p Code).form (comma_list true (opener Paren) (closer Paren) (pat_forms Alternatives (map about_pat xs)))) depth ts rest
      → (about_path p Code).good ≡ true → all_pats_good Alternatives (map about_pat xs) ≡ true → Made depth inner reads (pat.TupleStruct p xs) ts rest
  unfolding path_by
  tuple_struct_made p xs ts rest s g h =
      let mid = s.0 in
      let l = pats_read Paren (opener Paren) xs mid rest h s.2 in
      let inside = l.0 in
      let o : IsOne (Opener Paren) (opening Paren ∷ []) mid inside = l.1 in
      let colons : is_op (codes "::") mid ≡ false = one_no_op (codes "::") (Opener Paren) (opening Paren ∷ []) mid inside refl o in
      let bang : is_op (codes "!") mid ≡ false = one_no_op (codes "!") (Opener Paren) (opening Paren ∷ []) mid inside refl o in
      let t = path_there depth inner reads p ts mid s.1 g (record { colons = colons; bang = bang }) in
      let there : first (opens Paren) mid ≡ true = rw (one_front (Opener Paren) (opening Paren ∷ []) mid inside o).1 refl in
      let ys = l.2 in (
        suc (max t.0 (deepest ys.0)),
        omega (arith, t.1, ys.2),
        rw (t.2, there, one_left (Opener Paren) (opening Paren ∷ []) mid inside o, ys.3, ys.1) refl,
      )

  -- ---- in parentheses

  paren_open : (x : Pat) (n : ℕ) (ts mid : Tokens) (r : Read Pat) → first (closes Paren) ts ≡ false
      → inner.pats Alternatives ts ≡ Some ((x, n), mid) → paren_by inner (x, n) mid ≡ r → paren_pat inner ts ≡ r
  unfolding paren_pat
  paren_open x n ts mid r no_close h e = rw (no_close, h) e

  -- a pattern alone, of which this one is made
  alone_made : (x made : Pat) (ts rest : Tokens) → Spells (Piece (opener Paren ∷ []) (Part (Spelling x) (piece (closer Paren ∷ [])))) depth ts rest
      → Good x ≡ true → ((n : ℕ) → alone_of (x, n) rest ≡ Some ((made, suc n), rest)) → Made depth inner reads made ts rest
  alone_made x made ts rest t g h =
      let inside = t.0 in
      let o : IsOne (Opener Paren) (opening Paren ∷ []) ts inside = bit_alone (opener Paren) ts inside t.1 in
      let p = t.2 in
      let mid = p.0 in
      let close : IsOne (Closer Paren) (closing Paren ∷ []) mid rest = piece_bit (closer Paren) depth mid rest p.2 in
      let r = element_read x inside mid p.1 g (closer_ends Paren mid rest close) in
      let b = starts Alternatives x depth inside mid p.1 g in
      (suc r.0, omega (arith, r.1), paren_there ts inside o ∙ paren_open x r.0 inside mid _ (b.closer Paren) r.2 (by r.0 mid (closer_first Paren mid rest close)))
    where
      by : (k : ℕ) (mid : Tokens) → (first (closes Paren) mid ≡ true) × (tail mid ≡ rest)
          → paren_by inner (x, k) mid ≡ Some ((made, suc k), rest)
      by k mid c = rw (c.0, c.1) (h k)

  pub paren_made : (x : Pat) (ts rest : Tokens) → Spells (Piece (opener Paren ∷ []) (Part (Spelling x) (piece (closer Paren ∷ [])))) depth ts rest
      → Good x ≡ true → (about_pat x).rest ≡ false → Made depth inner reads (pat.Paren x) ts rest
  paren_made x ts rest t g n = alone_made x (pat.Paren x) ts rest t g (λ k. rw n refl)

  comma_by : (x : Pat) (n : ℕ) (mid behind rest : Tokens) (ys : List (Pat × ℕ)) (r : Read Pat) → IsOne Punct (codes ",") mid behind
      → elements (closes Paren) (inner.pats Alternatives) behind ≡ Some (ys, rest) → tuple_of (x, n) ys rest ≡ r → paren_by inner (x, n) mid ≡ r
  comma_by x n mid behind rest ys r o h e =
      let no_close : first (closes Paren) mid ≡ false = rw (one_front Punct (codes ",") mid behind o).1 refl in
      rw (no_close, mark_passed (codes ",") mid behind o, h) e

  one_made : (x : Pat) (ts rest : Tokens) → Spells (one_form false (about_pat x)) depth ts rest → Good x ≡ true → (about_pat x).rest ≡ false
      → Made depth inner reads (pat.Tuple (x ∷ [])) ts rest
  one_made x ts rest t g n =
      let inside = t.0 in
      let o : IsOne (Opener Paren) (opening Paren ∷ []) ts inside = bit_alone (opener Paren) ts inside t.1 in
      let p = t.2 in
      let mid = p.0 in
      let bits = p.2.1 in
      let comma_there : IsOne Punct (codes ",") mid bits.0 = bits.1 in
      let close : IsOne (Closer Paren) (closing Paren ∷ []) bits.0 rest =
      subst (λ us. IsOne (Closer Paren) (closing Paren ∷ []) bits.0 us) p.2.2 (bit_alone (closer Paren) bits.0 p.2.0 bits.2) in
      let r = element_read x inside mid p.1 g (comma_ends mid bits.0 comma_there) in
      let b = starts Alternatives x depth inside mid p.1 g in
      let none = none_read (closer Paren) (closes Paren) (closer_closes Paren) (inner.pats Alternatives) Spelling Good depth element_read (element_starts Paren) bits.0 rest close in (
        suc r.0,
        omega (arith, r.1),
        paren_there ts inside o
            ∙ paren_open x r.0 inside mid _ (b.closer Paren) r.2
            (comma_by x r.0 mid bits.0 rest none.0 _ comma_there none.3 (alone r.0 none.0 none.1)),
      )
    where
      alone : (k : ℕ) (ys : List (Pat × ℕ)) → nodes ys ≡ [] → tuple_of (x, k) ys rest ≡ Some ((pat.Tuple (x ∷ []), suc k), rest)
      alone k [] e = rw n refl
      alone k (y ∷ ys) e = absurd (cc)

  pub tuple_made : (xs : List Pat) (ts rest : Tokens) → Spells (tuple_form (map about_pat xs)) depth ts rest
      → all_pats_good Alternatives (map about_pat xs) ≡ true → Made depth inner reads (pat.Tuple xs) ts rest
  unfolding paren_pat
  tuple_made [] ts rest t g =
      let inside = t.1.0 in
      let o : IsOne (Opener Paren) (opening Paren ∷ []) ts inside = t.1.1 in
      let close : IsOne (Closer Paren) (closing Paren ∷ []) inside rest =
      subst (λ us. IsOne (Closer Paren) (closing Paren ∷ []) inside us) t.2 (bit_alone (closer Paren) inside t.0 t.1.2) in
      let c = closer_first Paren inside rest close in
      let read : paren_pat inner inside ≡ Some ((pat.Tuple [], 1), rest) = rw (c.0, c.1) refl in
      (1, omega arith, paren_there ts inside o ∙ read)
  tuple_made (x ∷ []) ts rest t g = by (about_pat x).rest refl t
    where
      by : (r : Bool) → (about_pat x).rest ≡ r → Spells (one_form r (about_pat x)) depth ts rest → Made depth inner reads (pat.Tuple (x ∷ [])) ts rest
      by true e u = alone_made x (pat.Tuple (x ∷ [])) ts rest u (and_parts (Good x) true g).0 (λ k. rw e refl)
      by false e u = one_made x ts rest u (and_parts (Good x) true g).0 e
  tuple_made (x ∷ y ∷ ys) ts rest u g =
      let t =
      subst (λ fs. Spells (comma_list true (opener Paren) (closer Paren) fs) depth ts rest) (forms_of (pat_form Alternatives) about_pat (x ∷ y ∷ ys)) u in
      let goods = and_parts (Good x) (list_all Good (y ∷ ys)) (goods_of (x ∷ y ∷ ys) g) in
      let inside = t.1.0 in
      let o : IsOne (Opener Paren) (opening Paren ∷ []) ts inside = bit_alone (opener Paren) ts inside t.1.1 in
      let row = t.1.2 in
      let mid = row.0 in
      let more = row.2 in
      let next = more.1 in
      let comma_there : IsOne Punct (codes ",") mid next.0 = bit_alone (Fixed Punct (codes ",")) mid next.0 next.1 in
      let part = next.2 in
      let last = more.2 in
      let close : IsOne (Closer Paren) (closing Paren ∷ []) last.0 rest =
      subst (λ us. IsOne (Closer Paren) (closing Paren ∷ []) last.0 us) t.2 (piece_bit (closer Paren) depth last.0 t.0 last.2) in
      let n =
      some_read (closer Paren) (closes Paren) (closer_closes Paren) (inner.pats Alternatives) Spelling Good depth element_read (element_starts Paren) y ys next.0
      part.0 more.0 rest goods.1 part.1 part.2 (last.0, last.1, close) in
      let r = element_read x inside mid row.1 goods.0 (comma_ends mid next.0 comma_there) in
      let b = starts Alternatives x depth inside mid row.1 goods.0 in
      let made =
      paren_open x r.0 inside mid (Some ((pat.Tuple (x ∷ y ∷ ys), suc (max r.0 (deepest n.0))), rest)) (b.closer Paren) r.2
      (comma_by x r.0 mid next.0 rest n.0 (Some ((pat.Tuple (x ∷ y ∷ ys), suc (max r.0 (deepest n.0))), rest)) comma_there n.3 (many_of x r.0 y ys n.0 rest n.1)) in
      (suc (max r.0 (deepest n.0)), omega (arith, r.1, n.2), paren_there ts inside o ∙ made)
