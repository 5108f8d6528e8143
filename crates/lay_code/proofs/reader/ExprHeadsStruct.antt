-- Struct literals are parsed where they are spelled: their fields, and the base after them.
use Rattle.std.proofs.Common.{◌≡◌, ℕ, suc, ◌≤◌, ◌<◌, max, Bool, true, false, not, ◌&&◌, ◌||◌, List, [], ◌∷◌, ◌++◌, map, length, codes, Option, option_map, Some, None, is_some, inl, inr, refl, sym, ap, subst, ◌∙◌, append-nil, arith}
use Rattle.std.proofs.lemmas.Bool.{and_parts}
use Rattle.std.proofs.lemmas.List.Folds.{list_all-map}
use Rattle.lay_piece.specs.Forms.{opening, closing}
use Rattle.lay_piece.specs.declared.kind.Delim.TheVariants.{Brace}
use Rattle.lay_piece.specs.declared.kind.Kind.TheVariants as kind
use Rattle.lay_piece.specs.declared.kind.Kind.TheVariants.{Punct, Opener, Closer}
use Rattle.lay_token.specs.Operators.{is_op}
use Rattle.lay_form.specs.Form.{Blank, Fixed, Operator, Form, Done, Piece, Leaf, Part, opener, closer}
use Rattle.lay_form.specs.Notation.{each, piece, comma_gap, braces, behind_attrs}
use Rattle.lay_form.specs.Spelled.{IsOne, IsOperator, AreBits, Spells}
use Rattle.lay_form.proofs.FormLaws.{shorter}
use Rattle.lay_node.specs.Ahead.{Tokens, first, is_mark, opens, closes}
use Rattle.lay_node.specs.Words.{is_name, leaf_of}
use Rattle.lay_node.specs.nodes.Attr.{are_attrs, attr_form, about_attr}
use Rattle.lay_node.specs.nodes.Facts.{Facts, all_good}
use Rattle.lay_node.specs.nodes.Types.{about_path, colon}
use Rattle.lay_node.specs.reader.Loops.{nodes, deepest, open_elements}
use Rattle.lay_node.specs.reader.Patterns.{begins_field, index}
use Rattle.lay_node.specs.reader.Words.{name}
use Rattle.lay_node.specs.declared.attr.Attr.{Attr}
use Rattle.lay_node.specs.declared.token.Name.{Name}
use Rattle.lay_node.specs.declared.types.Path.{Path}
use Rattle.lay_node.specs.declared.types.PathStyle.TheVariants.{Code}
use Rattle.lay_node.proofs.Fronts.{one_front, one_no_op, one_shorter, closer_first, closer_passed}
use Rattle.lay_node.proofs.Parts.{Rows, GoodAt, Closed, behind_attrs_rows, bit_alone, behind_blank, piece_bit, part_alone, word_kind, leaf_parts, leaf_alone}
use Rattle.lay_node.proofs.reader.Attr.{attrs_rows}
use Rattle.lay_node.proofs.reader.AttrRead.{attributes_complete}
use Rattle.lay_node.proofs.reader.Exact.{IsRead}
use Rattle.lay_node.proofs.reader.Loops.{Ends}
use Rattle.lay_node.proofs.reader.PatternsCompleteFields.{FieldFront, word_front, word_no_index}
use Rattle.lay_node.proofs.reader.PatternsFronts.{kind_front, code_clear}
use Rattle.lay_node.proofs.reader.TypesCalls.{path_no_call}
use Rattle.lay_node.proofs.reader.TypesComplete.{and_none}
use Rattle.lay_node.proofs.reader.TypesCompleteKinds.{last_part}
use Rattle.lay_node.proofs.reader.TypesCompleteParts.{one_left, colon_operator, attrs_front}
use Rattle.lay_node.proofs.reader.TypesCompletePaths.{path_read}
use Rattle.lay_node.proofs.reader.TypesFronts as types
use Rattle.lay_node.proofs.reader.TypesLists.{forms_of, last_of_all, Ending, open_none, open_read}
use Rattle.lay_node.proofs.reader.Words.{name_complete}
use Rattle.lay_code.specs.Operands.{ByPath}
use Rattle.lay_code.specs.nodes.Code.{about_expr, about_field_expr}
use Rattle.lay_code.specs.nodes.Exprs.{ExprFacts, placed, base_form, base_placed}
use Rattle.lay_code.specs.nodes.Places.{FREE}
use Rattle.lay_code.specs.reader.Exprs.{field_by, one_field, base, struct_expr, path_expr, head_by}
use Rattle.lay_code.specs.reader.Within.{ExprWithin}
use Rattle.lay_code.specs.declared.exprs.Expr.{Expr}
use Rattle.lay_code.specs.declared.blocks.Stmt.TheOpen.{Expr-F}
use Rattle.lay_code.specs.declared.exprs.Expr.TheVariants as expr
use Rattle.lay_code.specs.declared.exprs.FieldExpr.{FieldExpr}
use Rattle.lay_code.specs.declared.exprs.FieldExpr.TheVariants as field
use Rattle.lay_code.proofs.nodes.ExprsLaws.{FieldExprView, IsNamed, IsNumbered, IsShort, field_expr_view, expr_struct_is, field_expr_named_is, field_expr_numbered_is, field_expr_short_is}
use Rattle.lay_code.proofs.reader.ExprFronts.{placed_begins}
use Rattle.lay_code.proofs.reader.ExprHeads.{IsHead, head_of}
use Rattle.lay_code.proofs.reader.ExprHeadsLists.{free_read}
use Rattle.lay_code.proofs.reader.ExprLeads.{expr_no_closer}
use Rattle.lay_code.proofs.reader.ExprQuiet.{closer_ends_expr, element_ends_expr}
use Rattle.lay_code.proofs.reader.ExprReads.{ExprReads}

-- After an element of a list no `:` stands.
ends_no_colon : (ts : Tokens) → Ends Brace ts → is_op (codes ":") ts ≡ false
ends_no_colon ts e = elim e.1 [
  | inl o ↦ (types.comma_ends ts e.0 o).colon
  | inr o ↦ (types.closer_ends Brace ts e.0 o).colon
]

module _ (depth : ℕ) (within : ExprWithin) (reads : ExprReads depth within) where
  -- ---- one field

  record FieldParts (f : FieldExpr) (ts rest : Tokens) : Type 0 where
    pub attrs : List Attr
    pub mid : Tokens
    pub rows : Rows (GoodAt (about_attr false) depth) attrs ts mid
    pub front : FieldFront mid
    pub less : length rest < length mid
    pub read : Ends Brace rest → IsRead depth (λ us. field_by within attrs (index us) us) f mid rest

  abbrev value_form : Expr → Form
  value_form x = Piece colon (Part (about_expr x).form Done)

  -- a value after its `:`
  value_read : (x : Expr) (ts rest : Tokens) → Spells (value_form x) depth ts rest → placed (about_expr x) FREE ≡ true → Ends Brace rest
      → (at : Tokens) × IsOperator (codes ":") ts at × IsRead depth (within.exprs FREE) x at rest
  value_read x ts rest s g e =
      let here = part_alone (about_expr x).form depth s.0 rest s.2 in
      (s.0, colon_operator ts s.0 s.1, free_read depth within reads x s.0 rest here g (element_ends_expr false Brace rest e))

  named_by : (attrs : List Attr) (n : Name) (x : Expr) (k : ℕ) (ts at behind rest : Tokens) → index ts ≡ None → name ts ≡ Some (n, at)
      → IsOperator (codes ":") at behind → within.exprs FREE behind ≡ Some ((x, k), rest)
      → field_by within attrs (index ts) ts ≡ Some ((field.Named attrs n x, k), rest)
  named_by attrs n x k ts at behind rest i h o e = rw (i, h, o.0, o.1, e) refl

  numbered_by : (attrs : List Attr) (number : List ℕ) (x : Expr) (k : ℕ) (ts at behind rest : Tokens) → IsOne kind.Int number ts at
      → IsOperator (codes ":") at behind → within.exprs FREE behind ≡ Some ((x, k), rest)
      → field_by within attrs (index ts) ts ≡ Some ((field.Numbered attrs number x, k), rest)
  numbered_by attrs number x k ts at behind rest i o e =
      let there : index ts ≡ Some (number, behind) = rw ((one_front kind.Int number ts at i).1, o.0, o.1) refl in rw (there, e) refl

  short_by : (attrs : List Attr) (n : Name) (ts rest : Tokens) → index ts ≡ None → name ts ≡ Some (n, rest) → is_op (codes ":") rest ≡ false
      → field_by within attrs (index ts) ts ≡ Some ((field.Short attrs n, 0), rest)
  short_by attrs n ts rest i h c = rw (i, h, c) refl

  attrs_parts : (attrs : List Attr) (f : Form) (ts rest : Tokens) → Spells (behind_attrs (map attr_form attrs) f) depth ts rest
      → are_attrs false attrs ≡ true
      → (mid : Tokens) × Rows (GoodAt (about_attr false) depth) attrs ts mid × Spells f depth mid rest
  attrs_parts attrs f ts rest s g =
      let r = behind_attrs_rows (map attr_form attrs) f depth ts rest s in (r.0, attrs_rows false depth attrs ts r.0 r.1 g, r.2)

  -- Attributes, and a field of one of the three kinds.
  field_parts : (f : FieldExpr) (ts rest : Tokens) → Spells (about_field_expr f).form depth ts rest → (about_field_expr f).good ≡ true
      → FieldParts f ts rest
  field_parts f ts rest s g = by f (field_expr_view f) s g
    where
      by : (f : FieldExpr) → FieldExprView f → Spells (about_field_expr f).form depth ts rest → (about_field_expr f).good ≡ true
          → FieldParts f ts rest
      by _ (IsNamed attrs n x) t h =
          let u = subst (λ (F : Facts). Spells F.form depth ts rest) (field_expr_named_is attrs n x) t in
          let good = subst (λ (F : Facts). F.good ≡ true) (field_expr_named_is attrs n x) h in
          let goods = and_parts (are_attrs false attrs && is_name n.raw n.text) (placed (about_expr x) FREE) good in
          let named = and_parts (are_attrs false attrs) (is_name n.raw n.text) goods.0 in
          let r = attrs_parts attrs (leaf_of n.raw n.text (value_form x)) ts rest u named.0 in
          let mid = r.0 in
          let l = leaf_parts n.raw n.text (value_form x) depth mid rest r.2 in
          record {
            attrs = attrs;
            mid = mid;
            rows = r.1;
            front = word_front n.raw n.text mid l.0 l.1 named.1;
            less = omega (arith, one_shorter (word_kind n.raw) n.text mid l.0 l.1, shorter (value_form x) depth l.0 rest l.2);
            read = λ e.
                let v = value_read x l.0 rest l.2 goods.1 e in
                let one = v.2 in (
                  one.0,
                  one.1,
                  named_by attrs n x one.0 mid l.0 v.0 rest (word_no_index n.raw n.text mid l.0 l.1)
                      (name_complete n mid l.0 (l.1, named.1)) v.1 one.2,
                );
          }
      by _ (IsNumbered attrs number x) t h =
          let u = subst (λ (F : Facts). Spells F.form depth ts rest) (field_expr_numbered_is attrs number x) t in
          let good = subst (λ (F : Facts). F.good ≡ true) (field_expr_numbered_is attrs number x) h in
          let goods = and_parts (are_attrs false attrs) (placed (about_expr x) FREE) good in
          let r = attrs_parts attrs (Leaf kind.Int number (value_form x)) ts rest u goods.0 in
          let mid = r.0 in
          let l = r.2 in
          let o : IsOne kind.Int number mid l.0 = l.1 in
          let f = kind_front kind.Int number refl (λ d. refl) refl mid l.0 o in
          record {
            attrs = attrs;
            mid = mid;
            rows = r.1;
            front = record { attr = rw (one_front kind.Int number mid l.0 o).1 refl; brace = f.closer Brace; rest = f.dots };
            less = omega (arith, one_shorter kind.Int number mid l.0 o, shorter (value_form x) depth l.0 rest l.2);
            read = λ e.
                let v = value_read x l.0 rest l.2 goods.1 e in
                let one = v.2 in
                (one.0, one.1, numbered_by attrs number x one.0 mid l.0 v.0 rest o v.1 one.2);
          }
      by _ (IsShort attrs n) t h =
          let u = subst (λ (F : Facts). Spells F.form depth ts rest) (field_expr_short_is attrs n) t in
          let good = subst (λ (F : Facts). F.good ≡ true) (field_expr_short_is attrs n) h in
          let goods = and_parts (are_attrs false attrs) (is_name n.raw n.text) good in
          let r = attrs_parts attrs (leaf_of n.raw n.text Done) ts rest u goods.0 in
          let mid = r.0 in
          let o = leaf_alone n.raw n.text depth mid rest r.2 in
          record {
            attrs = attrs;
            mid = mid;
            rows = r.1;
            front = word_front n.raw n.text mid rest o goods.1;
            less = one_shorter (word_kind n.raw) n.text mid rest o;
            read = λ e. (
              0,
              omega arith,
              short_by attrs n mid rest (word_no_index n.raw n.text mid rest o)
                  (name_complete n mid rest (o, goods.1)) (ends_no_colon rest e),
            );
          }

  -- A field is read where it is spelled.
  field_read : (f : FieldExpr) (ts rest : Tokens) → Spells (about_field_expr f).form depth ts rest → (about_field_expr f).good ≡ true
      → Ends Brace rest
      → IsRead depth (one_field within) f ts rest
  unfolding one_field
  field_read f ts rest s g e =
      let p = field_parts f ts rest s g in
      let r = p.read e in
      (r.0, r.1, rw (attributes_complete false p.attrs depth ts p.mid p.rows p.front.attr) r.2)

  -- It begins as a field does.
  field_starts : (f : FieldExpr) (ts rest : Tokens) → Spells (about_field_expr f).form depth ts rest → (about_field_expr f).good ≡ true
      → (begins_field ts ≡ true) × (length rest < length ts)
  field_starts f ts rest s g =
      let p = field_parts f ts rest s g in
      let b = attrs_front p.attrs depth ts p.mid p.rows in
      (rw (b.closer Brace p.front.brace, b.rest p.front.rest) refl, omega (arith, b.shorter, p.less))

  -- ---- all fields

  abbrev FieldsRead : List FieldExpr → Bool → Tokens → Tokens → Type 0
  FieldsRead fs last ts rest = (ys : List (FieldExpr × ℕ)) × (nodes ys ≡ fs) × (deepest ys ≤ depth)
      × (open_elements begins_field (one_field within) ts ≡ Some ((ys, last), rest))

  -- fields with commas
  some_fields : (last : Bool) (f : FieldExpr) (fs : List FieldExpr) (ts mid end rest : Tokens)
      → all_good (map about_field_expr (f ∷ fs)) ≡ true
      → Spells (about_field_expr f).form depth ts mid → Spells (each comma_gap (map (λ y. (about_field_expr y).form) fs)) depth mid end
      → Ending begins_field (λ (y : FieldExpr) us. Ends Brace us) last (f ∷ fs) end rest → FieldsRead (f ∷ fs) last ts rest
  some_fields last f fs ts mid end rest g one s ending =
      open_read begins_field (one_field within) (λ y. (about_field_expr y).form) (λ y. (about_field_expr y).good)
      (λ y us. Ends Brace us) depth field_read field_starts
      (λ y us at o h. (at, inl o)) last f fs ts mid end rest
      (sym (list_all-map (λ (x : Facts). x.good) about_field_expr (f ∷ fs)) ∙ g) one s ending

  no_fields : (ts : Tokens) → begins_field ts ≡ false → FieldsRead [] true ts ts
  no_fields ts h = ([], refl, omega arith, open_none begins_field (one_field within) ts h)

  -- ---- a base

  -- what follows the fields up to the `}`, where the flag says that fields have ended
  abbrev BaseRead : Option (Option Expr) → Bool → Tokens → Tokens → Type 0
  BaseRead b last ts rest = IsRead depth (base within last) b ts rest

  close_no_field : (ts rest : Tokens) → Closed Brace ts rest → (begins_field ts ≡ false) × (is_op (codes "..") ts ≡ false)
  close_no_field ts rest o = (
    rw (closer_first Brace ts rest o).0 refl,
    one_no_op (codes "..") (Closer Brace)
        (closing Brace ∷ []) ts rest refl o,
  )

  dots_no_field : (ts : Tokens) → is_op (codes "..") ts ≡ true → begins_field ts ≡ false
  dots_no_field ts h = rw (h, or_true (first (closes Brace) ts)) refl
    where
      or_true : (b : Bool) → (b || true) ≡ true
      or_true true = refl
      or_true false = refl

  -- no base before the `}`
  no_base : (last : Bool) (ts rest : Tokens) → Closed Brace ts rest → BaseRead None last ts ts
  unfolding base
  no_base last ts rest o =
      let n : (last && is_op (codes "..") ts) ≡ false = rw (close_no_field ts rest o).1 (and_none last) in
      (0, omega arith, rw n refl)

  abbrev dotted_form : Option ExprFacts → Form
  dotted_form None = piece (Operator (codes "..") ∷ [])
  dotted_form (Some x) = Piece (Operator (codes "..") ∷ []) (Part x.form Done)

  base_is : (x : Option ExprFacts) → base_form (Some x) ≡ dotted_form x ∷ []
  base_is None = refl
  base_is (Some x) = refl

  -- `..`, and a base or none, before the `}`
  some_base : (x : Option Expr) (ts at rest : Tokens) → Spells (dotted_form (option_map about_expr x)) depth ts at
      → base_placed (Some (option_map about_expr x)) ≡ true → Closed Brace at rest
      → (is_op (codes "..") ts ≡ true) × BaseRead (Some x) true ts at
  unfolding base
  some_base None ts at rest s g o =
      let d : IsOperator (codes "..") ts at = piece_bit (Operator (codes "..")) depth ts at s in
      (d.0, (0, omega arith, rw (d.0, d.1, (closer_first Brace at rest o).0) refl))
  some_base (Some x) ts at rest s g o =
      let d : IsOperator (codes "..") ts s.0 = bit_alone (Operator (codes "..")) ts s.0 s.1 in
      let here = part_alone (about_expr x).form depth s.0 at s.2 in
      let b = placed_begins x FREE depth s.0 at here g in
      let no_close = expr_no_closer Brace s.0 (about_expr x).lead b.lead in
      let r = free_read depth within reads x s.0 at here g (closer_ends_expr false Brace at rest o) in
      (d.0, (r.0, r.1, rw (d.0, d.1, no_close, r.2) refl))

  -- ---- within the braces

  abbrev InBraces : List FieldExpr → Option (Option Expr) → Tokens → Tokens → Type 0
  InBraces fs b ts rest = (inside : Tokens) × IsOne (Opener Brace) (opening Brace ∷ []) ts inside
      × ((p : Path) (n : ℕ) → n ≤ depth → IsRead (suc depth) (struct_expr within (p, n)) (expr.Struct p fs b) inside rest)

  -- fields, a base or none, and the `}`
  braces_made : (fs : List FieldExpr) (b : Option (Option Expr)) (last : Bool) (ts end at rest : Tokens) → FieldsRead fs last ts end
      → BaseRead b last end at
      → Closed Brace at rest → (p : Path) (n : ℕ) → n ≤ depth → IsRead (suc depth) (struct_expr within (p, n)) (expr.Struct p fs b) ts rest
  unfolding struct_expr
  braces_made fs b last ts end at rest f r o p n le =
      (suc (max n (max (deepest f.0) r.0)), omega (arith, le, f.2, r.1), made f.0 f.1 f.3)
    where
      made : (ys : List (FieldExpr × ℕ)) → nodes ys ≡ fs → open_elements begins_field (one_field within) ts ≡ Some ((ys, last), end)
          → struct_expr within (p, n) ts ≡ Some ((expr.Struct p fs b, suc (max n (max (deepest ys) r.0))), rest)
      made ys same h = rw (h, r.2, closer_passed Brace at rest o, same) refl

  brace_opens : (ts rest : Tokens) → AreBits (Blank ∷ opener Brace ∷ []) ts rest → IsOne (Opener Brace) (opening Brace ∷ []) ts rest
  brace_opens ts rest s = bit_alone (opener Brace) ts rest (behind_blank (opener Brace ∷ []) ts rest s)

  abbrev field_forms : List FieldExpr → List Form
  field_forms fs = map (λ (y : FieldExpr). (about_field_expr y).form) fs

  -- fields alone
  without_base : (fs : List FieldExpr) (ts rest : Tokens) → Spells (braces true (field_forms fs)) depth ts rest
      → all_good (map about_field_expr fs) ≡ true
      → InBraces fs None ts rest
  without_base [] ts rest s g =
      let bits = behind_blank (opener Brace ∷ closer Brace ∷ []) ts s.0 s.1 in
      let inside = bits.0 in
      let close : Closed Brace inside rest = subst (λ us. Closed Brace inside us) s.2 (bit_alone (closer Brace) inside s.0 bits.2) in (
        inside,
        bits.1,
        braces_made [] None true inside inside inside rest (no_fields inside (close_no_field inside rest close).0)
            (no_base true inside rest close) close,
      )
  without_base (f ∷ fs) ts rest s g =
      let inside = s.0 in
      let row = s.2.1 in
      let more = row.2 in
      let last = more.2 in
      let closing_there : Closed Brace s.2.0 rest = piece_bit (closer Brace) depth s.2.0 rest s.2.2 in
      let close : Closed Brace last.0 rest = subst (λ us. Closed Brace us rest) (sym last.2) closing_there in
      let n = close_no_field last.0 rest close in
      elim last.1 [
        | inl e ↦
            let no_comma : first (is_mark (codes ",")) last.0 ≡ false =
            rw (one_front (Closer Brace) (closing Brace ∷ []) last.0 rest close).1 refl in
            let r = some_fields false f fs inside row.0 more.0 last.0 g row.1 more.1
            (e, no_comma, last_of_all (Ends Brace) (f ∷ fs) last.0 (rest, inr close)) in (
              inside,
              brace_opens ts inside s.1,
              braces_made (f ∷ fs) None false inside last.0 last.0 rest r
                  (no_base false last.0 rest close) close,
            )
        | inr b ↦
            let here : IsOne Punct (codes ",") more.0 last.0 = bit_alone (Fixed Punct (codes ",")) more.0 last.0 b in
            let r = some_fields true f fs inside row.0 more.0 last.0 g row.1 more.1 (here, n.0) in (
              inside,
              brace_opens ts inside s.1,
              braces_made (f ∷ fs) None true inside last.0 last.0 rest r
                  (no_base true last.0 rest close) close,
            )
      ]

  -- fields and a `..` after them
  with_base : (fs : List FieldExpr) (x : Option Expr) (ts rest : Tokens)
      → Spells (braces false (field_forms fs ++ dotted_form (option_map about_expr x) ∷ [])) depth ts rest
      → all_good (map about_field_expr fs) ≡ true → base_placed (Some (option_map about_expr x)) ≡ true → InBraces fs (Some x) ts rest
  with_base [] x ts rest s g k =
      let inside = s.0 in
      let row = s.2.1 in
      let at = row.0 in
      let more = row.2 in
      let end = s.2.0 in
      let close : Closed Brace at rest =
      subst (λ us. Closed Brace us rest) (sym (more.1 ∙ more.2)) (piece_bit (closer Brace) depth end rest s.2.2) in
      let b = some_base x inside at rest row.1 k close in (
        inside,
        brace_opens ts inside s.1,
        braces_made [] (Some x) true inside inside at rest
            (no_fields inside (dots_no_field inside b.0)) b.1 close,
      )
  with_base (f ∷ fs) x ts rest s g k =
      let inside = s.0 in
      let row = s.2.1 in
      let more = row.2 in
      let end = s.2.0 in
      let l = last_part (field_forms fs) (dotted_form (option_map about_expr x)) depth row.0 more.0 more.1 in
      let close : Closed Brace more.0 rest =
      subst (λ us. Closed Brace us rest) (sym more.2) (piece_bit (closer Brace) depth end rest s.2.2) in
      let b = some_base x l.1 more.0 rest l.4 k close in
      let r = some_fields true f fs inside row.0 l.0 l.1 g row.1 l.2 (l.3, dots_no_field l.1 b.0) in
      (inside, brace_opens ts inside s.1, braces_made (f ∷ fs) (Some x) true inside l.1 more.0 rest r b.1 close)

  -- what stands in the braces
  in_braces : (fs : List FieldExpr) (b : Option (Option Expr)) (ts rest : Tokens)
      → Spells (braces (not (is_some (option_map (option_map about_expr) b)))
      (map (λ (F : Facts). F.form) (map about_field_expr fs) ++ base_form (option_map (option_map about_expr) b))) depth ts rest
      → all_good (map about_field_expr fs) ≡ true → base_placed (option_map (option_map about_expr) b) ≡ true → InBraces fs b ts rest
  in_braces fs None ts rest s g k =
      let same : (map (λ (F : Facts). F.form) (map about_field_expr fs) ++ []) ≡ field_forms fs =
      append-nil (map (λ (F : Facts). F.form) (map about_field_expr fs)) ∙ forms_of (λ (F : Facts). F.form) about_field_expr fs in
      without_base fs ts rest (subst (λ hs. Spells (braces true hs) depth ts rest) same s) g
  in_braces fs (Some x) ts rest s g k =
      let same : (map (λ (F : Facts). F.form) (map about_field_expr fs) ++ base_form
      (Some (option_map about_expr x))) ≡ field_forms fs ++ dotted_form (option_map about_expr x) ∷ [] =
      rw (base_is (option_map about_expr x))
      (ap (λ hs. hs ++ dotted_form (option_map about_expr x) ∷ []) (forms_of (λ (F : Facts). F.form) about_field_expr fs)) in
      with_base fs x ts rest (subst (λ hs. Spells (braces false hs) depth ts rest) same s) g k

  -- ---- struct literals

  -- A path before a `{` is read, and what the braces hold after it, where a struct literal may stand.
  struct_there : (p : Path) (fs : List FieldExpr) (b : Option (Option Expr)) (ts mid rest : Tokens)
      → Spells (about_path p Code).form depth ts mid
      → (about_path p Code).good ≡ true → InBraces fs b mid rest
      → IsRead (suc depth) (head_by within false (Some ByPath)) (expr.Struct p fs b) ts rest
  unfolding path_expr
  struct_there p fs b ts mid rest s g l =
      let o : IsOne (Opener Brace) (opening Brace ∷ []) mid l.0 = l.1 in
      let colons : is_op (codes "::") mid ≡ false = one_no_op (codes "::") (Opener Brace) (opening Brace ∷ []) mid l.0 refl o in
      let bang : is_op (codes "!") mid ≡ false = one_no_op (codes "!") (Opener Brace) (opening Brace ∷ []) mid l.0 refl o in
      let no_call = path_no_call Code p depth ts mid s g colons bang in
      let path = path_read depth within.kinds reads.kinds Code p ts mid s g (code_clear p mid g colons) in
      let there : first (opens Brace) mid ≡ true = rw (one_front (Opener Brace) (opening Brace ∷ []) mid l.0 o).1 refl in
      let r = l.2 p path.0 path.1 in
      (r.0, r.1, rw (no_call, path.2, there, one_left (Opener Brace) (opening Brace ∷ []) mid l.0 o) r.2)

  -- a struct literal
  pub struct_head : (p : Path) (fs : List FieldExpr) (b : Option (Option Expr)) → IsHead depth within (expr.Struct p fs b)
  struct_head p fs b =
      let fields = map about_field_expr fs in
      let last = option_map (option_map about_expr) b in
      head_of depth within (expr.Struct p fs b) (Expr-F.Expr::Struct p fields last) (expr_struct_is p fs b) (λ no_struct first_flag ts rest h.
      let s = h.spelled in
      let goods = and_parts ((about_path p Code).good && all_good fields) (base_placed last) h.inside in
      let good = and_parts (about_path p Code).good (all_good fields) goods.0 in
      let r = struct_there p fs b ts s.0 rest s.1 good.0 (in_braces fs b s.0 rest s.2 good.1 goods.1) in
      rw (free no_struct h.struct_free) r)
    where
      free : (no_struct : Bool) → not (no_struct && true) ≡ true → no_struct ≡ false
      free true e = absurd (cc)
      free false e = refl
