-- Closures are parsed where they are spelled.
use Rattle.std.proofs.Common.{◌≡◌, ℕ, zero, suc, ◌≤◌, ◌<◌, max, Bool, true, false, not, ◌&&◌, List, [], ◌∷◌, ◌++◌, map, length, drop, codes, Option, Some, None, ◌⊎◌, inl, inr, refl, sym, ap, subst, append-nil, append_assoc, arith}
use Rattle.std.specs.Prelude.{if◌then◌else◌}
use Rattle.std.specs.List.{list_all}
use Rattle.std.proofs.lemmas.Bool.{and_parts, not-true}
use Rattle.lay_piece.specs.declared.kind.Kind.TheVariants.{Ident, Punct}
use Rattle.lay_token.specs.Operators.{is_op}
use Rattle.lay_form.specs.Form.{Blank, Fixed, Operator, Form, Done, Piece, Part, keyword}
use Rattle.lay_form.specs.Notation.{comma_gap, comma_list, each}
use Rattle.lay_form.specs.Spelled.{IsOne, IsOperator, MayBe, Spells}
use Rattle.lay_form.specs.Form as form
use Rattle.lay_form.proofs.FormLaws.{shorter}
use Rattle.lay_node.specs.Ahead.{Tokens, first, tail, is_keyword, is_mark}
use Rattle.lay_node.specs.nodes.Attr.{are_attrs, about_attr}
use Rattle.lay_node.specs.nodes.Functions.{may_be_type, self_type}
use Rattle.lay_node.specs.nodes.Patterns.{about_pat, pat_form, pat_good}
use Rattle.lay_node.specs.nodes.Types.{about_type, good_at}
use Rattle.lay_node.specs.reader.Attr.{attributes}
use Rattle.lay_node.specs.reader.Loops.{deepest, element_end, elements, elements_from, nodes}
use Rattle.lay_node.specs.reader.Types.{if_read}
use Rattle.lay_node.specs.declared.patterns.Pat.{Pat}
use Rattle.lay_node.specs.declared.patterns.PatPlace.TheVariants.{Single}
use Rattle.lay_node.specs.declared.types.Ty.{Ty}
use Rattle.lay_node.specs.declared.types.TypePlace.TheVariants.{Bounds, NoBounds}
use Rattle.lay_node.proofs.Fronts.{mark_passed, one_front, one_shorter}
use Rattle.lay_node.proofs.Parts.{Rows, before_blank, behind_blank, bit_alone, part_alone, piece_bit}
use Rattle.lay_node.proofs.reader.AttrRead.{attributes_complete}
use Rattle.lay_node.proofs.reader.Exact.{IsRead}
use Rattle.lay_node.proofs.reader.FunctionsPatterns.{pat_start}
use Rattle.lay_node.proofs.reader.PatternsBegins.{single_begins}
use Rattle.lay_node.proofs.reader.PatternsFronts.{Follows, colon_follows, ends_follows}
use Rattle.lay_node.proofs.reader.TypesBegins.{list_front}
use Rattle.lay_node.proofs.reader.TypesComplete.{quiet_read}
use Rattle.lay_node.proofs.reader.TypesCompleteParts.{attrs_front, blank_left, colon_operator, keyword_there, one_left, param_attrs_rows}
use Rattle.lay_node.proofs.reader.TypesFronts as types
use Rattle.lay_node.proofs.reader.TypesFronts.{comma_ends, no_other_op}
use Rattle.lay_code.specs.nodes.Bodies.{sheds}
use Rattle.lay_code.specs.nodes.Code.{about_block, about_expr}
use Rattle.lay_code.specs.nodes.Exprs as node
use Rattle.lay_code.specs.nodes.Exprs.{Tail, bar, behind_async, closure_head, is_closure_param, placed, shut}
use Rattle.lay_code.specs.nodes.Places.{plain}
use Rattle.lay_code.specs.reader.Blocks.{block_by, body_need}
use Rattle.lay_code.specs.reader.Exprs as reader
use Rattle.lay_code.specs.reader.Exprs.{closure_behind, closure_body, closure_expr, shed}
use Rattle.lay_code.specs.reader.Within.{ExprWithin}
use Rattle.lay_code.specs.declared.blocks.Block.{Block}
use Rattle.lay_code.specs.declared.blocks.Stmt.TheOpen.{Expr-F}
use Rattle.lay_code.specs.declared.exprs.ClosureParam.{ClosureParam}
use Rattle.lay_code.specs.declared.exprs.Expr.{Expr}
use Rattle.lay_code.specs.declared.exprs.Expr.TheVariants as expr
use Rattle.lay_code.proofs.nodes.ExprsLaws.{expr_closure_is, expr_typed_closure_is}
use Rattle.lay_code.proofs.reader.BlockReads.{Fronts}
use Rattle.lay_code.proofs.reader.BlocksComplete.{block_at, block_read}
use Rattle.lay_code.proofs.reader.ClosureBodies.{body_dressed, body_form, body_takes}
use Rattle.lay_code.proofs.reader.ExprHeads.{IsHead, head_of}
use Rattle.lay_code.proofs.reader.ExprHeadsJumps.{taken_follows}
use Rattle.lay_code.proofs.reader.ExprReads.{ExprReads}
use Rattle.lay_code.proofs.reader.Followed.{SpelledBefore, ended_weak, part_parts, piece_parts, unspelled}
use Rattle.lay_code.proofs.reader.PatternEnds.{bar_mark_follows, bar_quiet, brace_quiet, comma_quiet}

-- What follows a parameter: a comma, or the bar that closes them.
abbrev Ends : Tokens → Type 0
Ends ts = (rest : Tokens) × (IsOne Punct (codes ",") ts rest ⊎ IsOne Punct (codes "|") ts rest)

ends_pattern : (x : Pat) (ts : Tokens) → Ends ts → Follows (about_pat x) ts
ends_pattern x ts e = elim e.1 [
  | inl o ↦ ends_follows (about_pat x) ts (comma_ends ts e.0 o)
  | inr o ↦ bar_mark_follows (about_pat x) ts e.0 o
]

ends_type : (ts : Tokens) → Ends ts → types.Quiet ts
ends_type ts e = elim e.1 [
  | inl o ↦ comma_quiet ts e.0 o
  | inr o ↦ bar_quiet ts e.0 o
]

ends_no_colon : (ts : Tokens) → Ends ts → is_op (codes ":") ts ≡ false
ends_no_colon ts e = elim e.1 [
  | inl o ↦ no_other_op 58 [] 44 ts e.0 refl o
  | inr o ↦ no_other_op 58 [] 124 ts e.0 refl o
]

-- the bar after the last of them, where a comma may stand before it
abbrev Last : Tokens → Tokens → Type 0
Last ts rest = (last : Tokens) × MayBe form.comma ts last × IsOne Punct (codes "|") last rest

last_ends : (ts rest : Tokens) → Last ts rest → Ends ts
last_ends ts rest l = elim l.1 [
  | inl e ↦ (rest, inr (rw e l.2))
  | inr b ↦ (l.0, inl (bit_alone (Fixed Punct (codes ",")) ts l.0 b))
]

last_less : (ts rest : Tokens) → Last ts rest → length rest < length ts
last_less ts rest l = elim l.1 [
  | inl e ↦ omega (arith, ap length e, one_shorter Punct (codes "|") l.0 rest l.2)
  | inr b ↦ omega (arith, one_shorter Punct (codes "|") l.0 rest l.2, one_shorter Punct (codes ",") ts l.0 (bit_alone (Fixed Punct (codes ",")) ts l.0 b))
]

module _ (fronts : Fronts) (depth : ℕ) (within : ExprWithin) (reads : ExprReads depth within) where
  -- ---- one parameter

  param_made : (p : ClosureParam) (m n : ℕ) (ts at mid rest : Tokens) → attributes false ts ≡ Some (p.attrs, at) → within.pats Single at ≡ Some ((p.pat, m), mid)
      → if_read (is_op (codes ":") mid) (λ us. within.kinds.types Bounds (drop 1 us)) mid ≡ Some ((p.ty, n), rest)
      → reader.closure_param within ts ≡ Some ((p, max m n), rest)
  unfolding reader.closure_param
  param_made p m n ts at mid rest a q t = rw (a, q, t) refl

  type_read : (ty : Option Ty) (ts rest : Tokens) → Spells (self_type ty) depth ts rest → may_be_type ty ≡ true → Ends rest
      → IsRead depth (λ us. if_read (is_op (codes ":") us) (λ vs. within.kinds.types Bounds (drop 1 vs)) us) ty ts rest
  type_read None ts rest s g e = (0, omega arith, rw (s, ends_no_colon rest e) refl)
  type_read (Some x) ts rest s g e =
      let o = colon_operator ts s.0 s.1 in
      let r = quiet_read depth within.kinds reads.kinds Bounds x s.0 rest (part_alone (about_type x).told.form depth s.0 rest s.2) g (ends_type rest e) in
      (r.0, r.1, rw (o.0, o.1, r.2) refl)

  pat_fits : (x : Pat) (ty : Option Ty) (ts rest : Tokens) → Spells (self_type ty) depth ts rest → Ends rest → Follows (about_pat x) ts
  pat_fits x None ts rest s e = rw s (ends_pattern x rest e)
  pat_fits x (Some y) ts rest s e = colon_follows (about_pat x) ts (colon_operator ts s.0 s.1).0

  record ParamThere (p : ClosureParam) (ts rest : Tokens) : Type 0 where
    pub at : Tokens
    pub mid : Tokens
    pub attrs : Rows (λ a us vs. Spells (about_attr false a).form depth us vs × ((about_attr false a).good ≡ true)) p.attrs ts at
    pub pat : Spells (about_pat p.pat).told.form depth at mid
    pub ty : Spells (self_type p.ty) depth mid rest
    pub good_pat : pat_good Single (about_pat p.pat) ≡ true
    pub good_ty : may_be_type p.ty ≡ true

  param_there : (p : ClosureParam) (ts rest : Tokens) → Spells (node.closure_param p) depth ts rest → is_closure_param p ≡ true → ParamThere p ts rest
  param_there p ts rest s g =
      let g2 = and_parts (are_attrs false p.attrs && pat_good Single (about_pat p.pat)) (may_be_type p.ty) g in
      let g1 = and_parts (are_attrs false p.attrs) (pat_good Single (about_pat p.pat)) g2.0 in
      let typed : Form = Part (self_type p.ty) Done in
      let r = param_attrs_rows p.attrs (Part (pat_form Single (about_pat p.pat)) typed) depth ts rest s g1.0 in
      let q = r.2 in
      record {
        at = r.0;
        mid = q.0;
        attrs = r.1;
        pat = q.1;
        ty = part_alone (self_type p.ty) depth q.0 rest q.2;
        good_pat = g1.1;
        good_ty = g2.1;
      }

  param_read : (p : ClosureParam) (ts rest : Tokens) → Spells (node.closure_param p) depth ts rest → is_closure_param p ≡ true → Ends rest
      → IsRead depth (reader.closure_param within) p ts rest
  param_read p ts rest s g e =
      let t = param_there p ts rest s g in
      let q = reads.pats Single p.pat t.at t.mid t.pat t.good_pat (pat_fits p.pat p.ty t.mid rest t.ty e) in
      let y = type_read p.ty t.mid rest t.ty t.good_ty e in
      let attrs = attributes_complete false p.attrs depth ts t.at t.attrs (pat_start depth p.pat t.at t.mid t.pat t.good_pat).attr in
      (max q.0 y.0, omega (arith, q.1, y.1), param_made p q.0 y.0 ts t.at t.mid rest attrs q.2 y.2)

  param_less : (p : ClosureParam) (ts rest : Tokens) → Spells (node.closure_param p) depth ts rest → is_closure_param p ≡ true → length rest < length ts
  param_less p ts rest s g =
      let t = param_there p ts rest s g in
      omega (
        arith,
        (attrs_front p.attrs depth ts t.at t.attrs).shorter,
        (single_begins p.pat depth t.at t.mid t.pat t.good_pat).less,
        shorter (self_type p.ty) depth t.mid rest t.ty,
      )

  -- ---- all parameters

  abbrev ReadOn : ℕ → List (ClosureParam × ℕ) → List ClosureParam → Tokens → Tokens → Type 0
  ReadOn n found ps ts rest = (ys : List (ClosureParam × ℕ)) × (nodes ys ≡ ps) × (deepest ys ≤ depth)
      × (elements_from (is_mark (codes "|")) (reader.closure_param within) n found ts ≡ Some (found ++ ys, rest))

  closed_read : (n : ℕ) (found : List (ClosureParam × ℕ)) (ts rest : Tokens) → IsOne Punct (codes "|") ts rest → ReadOn (suc n) found [] ts rest
  unfolding elements_from
  closed_read n found ts rest o =
      ([], refl, omega arith, rw ((one_front Punct (codes "|") ts rest o).1, append-nil found) refl)

  bar_kept : (ts rest : Tokens) → IsOne Punct (codes "|") ts rest → element_end (is_mark (codes "|")) ts ≡ Some ts
  bar_kept ts rest o = rw (one_front Punct (codes "|") ts rest o).1 refl

  comma_left : (ts rest : Tokens) → IsOne Punct (codes ",") ts rest → element_end (is_mark (codes "|")) ts ≡ Some rest
  comma_left ts rest o = rw (one_front Punct (codes ",") ts rest o).1 refl

  further_ends : (ps : List ClosureParam) (ts end rest : Tokens) → Spells (each comma_gap (map node.closure_param ps)) depth ts end → Last end rest → Ends ts
  further_ends [] ts end rest s l = rw s (last_ends end rest l)
  further_ends (p ∷ ps) ts end rest s l = (s.0, inl (bit_alone (Fixed Punct (codes ",")) ts s.0 s.1))

  -- further parameters, each after a comma
  further_read : (ps : List ClosureParam) (n : ℕ) (found : List (ClosureParam × ℕ)) (ts end rest : Tokens) → length ts ≤ n
      → list_all is_closure_param ps ≡ true → Spells (each comma_gap (map node.closure_param ps)) depth ts end → Last end rest
      → (behind : Tokens) × (element_end (is_mark (codes "|")) ts ≡ Some behind) × ReadOn n found ps behind rest
  unfolding elements_from
  further_read ps zero found ts end rest le g s l =
      absurd (omega (arith, le, last_less end rest l, shorter (each comma_gap (map node.closure_param ps)) depth ts end s))
  further_read [] (suc n) found ts end rest le g s l = elim l.1 [
    | inl e ↦ let here : IsOne Punct (codes "|") ts rest = rw (s, e) l.2 in (ts, bar_kept ts rest here, closed_read n found ts rest here)
    | inr b ↦
        let here : IsOne Punct (codes ",") ts l.0 = rw s (bit_alone (Fixed Punct (codes ",")) end l.0 b) in
        (l.0, comma_left ts l.0 here, closed_read n found l.0 rest l.2)
  ]
  further_read (p ∷ ps) (suc n) found ts end rest le g s l =
      let here : IsOne Punct (codes ",") ts s.0 = bit_alone (Fixed Punct (codes ",")) ts s.0 s.1 in
      let goods = and_parts (is_closure_param p) (list_all is_closure_param ps) g in
      let q = s.2 in
      let less : length q.0 ≤ n = omega (arith, le, one_shorter Punct (codes ",") ts s.0 here, param_less p s.0 q.0 q.1 goods.0) in
      let r = param_read p s.0 q.0 q.1 goods.0 (further_ends ps q.0 end rest q.2 l) in
      let no_bar = fronts.params p depth s.0 q.0 q.1 goods.0 in
      let more = further_read ps n (found ++ (p, r.0) ∷ []) q.0 end rest less goods.1 q.2 l in
      let go = more.2 in (
        s.0,
        comma_left ts s.0 here,
        (
          (p, r.0) ∷ go.0,
          ap (λ zs. p ∷ zs) go.1,
          omega (arith, r.1, go.2),
          rw (no_bar, r.2, more.1, go.3, append_assoc found ((p, r.0) ∷ []) go.0) refl,
        ),
      )

  abbrev ParamsRead : List ClosureParam → Tokens → Tokens → Type 0
  ParamsRead ps ts rest = (ys : List (ClosureParam × ℕ)) × (nodes ys ≡ ps) × (deepest ys ≤ depth)
      × (elements (is_mark (codes "|")) (reader.closure_param within) ts ≡ Some (ys, rest))

  params_read : (ps : List ClosureParam) (ts rest : Tokens) → Spells (comma_list true bar bar (map node.closure_param ps)) depth ts rest
      → list_all is_closure_param ps ≡ true → (inside : Tokens) × IsOne Punct (codes "|") ts inside × ParamsRead ps inside rest
  unfolding elements elements_from
  params_read [] ts rest s g =
      let inside = s.1.0 in
      let here : IsOne Punct (codes "|") inside rest = subst (λ us. IsOne Punct (codes "|") inside us) s.2 (bit_alone bar inside s.0 s.1.2) in
      (inside, s.1.1, closed_read (length inside) [] inside rest here)
  params_read (p ∷ ps) ts rest s g =
      let inside = s.1.0 in
      let row = s.1.2 in
      let more = row.2 in
      let last = more.2 in
      let here : IsOne Punct (codes "|") last.0 rest = subst (λ us. IsOne Punct (codes "|") last.0 us) s.2 (piece_bit bar depth last.0 s.0 last.2) in
      let end : Last more.0 rest = (last.0, last.1, here) in
      let goods = and_parts (is_closure_param p) (list_all is_closure_param ps) g in
      let r = param_read p inside row.0 row.1 goods.0 (further_ends ps row.0 more.0 rest more.1 end) in
      let less : length row.0 ≤ length inside = omega (arith, param_less p inside row.0 row.1 goods.0) in
      let no_bar = fronts.params p depth inside row.0 row.1 goods.0 in
      let f = further_read ps (length inside) ((p, r.0) ∷ []) row.0 more.0 rest less goods.1 more.1 end in
      let go = f.2 in (
        inside,
        bit_alone bar ts inside s.1.1,
        ((p, r.0) ∷ go.0, ap (λ zs. p ∷ zs) go.1, omega (arith, r.1, go.2), rw (no_bar, r.2, f.1, go.3) refl),
      )

  -- ---- what stands before the body

  head_made : (is_async moves no_struct : Bool) (ps : List ClosureParam) (ys : List (ClosureParam × ℕ)) (x : Expr) (n : ℕ) (ts at inside behind rest : Tokens)
      → first (is_keyword (codes "move")) ts ≡ moves → (if moves then tail ts else ts) ≡ at → IsOne Punct (codes "|") at inside
      → elements (is_mark (codes "|")) (reader.closure_param within) inside ≡ Some (ys, behind) → nodes ys ≡ ps
      → closure_body within no_struct is_async moves ps (deepest ys) behind ≡ Some ((x, n), rest)
      → closure_behind within no_struct is_async ts ≡ Some ((x, n), rest)
  head_made is_async moves no_struct ps ys x n ts at inside behind rest m t o l e r = rw (m, t, mark_passed (codes "|") at inside o, l, e) r

  -- what it needs to be read from there, if it is no more than this
  abbrev BodyRead : Tail → Bool → Bool → Bool → List ClosureParam → Form → Expr → Tokens → Type 0
  BodyRead t is_async moves no_struct ps f x rest = (need : ℕ) (us : Tokens) → need ≤ depth → SpelledBefore t f no_struct depth us rest
      → IsRead (suc depth) (closure_body within no_struct is_async moves ps need) x us rest

  -- What follows the parameters takes a token at least.
  abbrev Takes : Form → Type 0
  Takes f = (us : Tokens) → Spells f depth us us → ⊥

  -- after its `async`
  behind_read : (t : Tail) (is_async moves no_struct : Bool) (ps : List ClosureParam) (f : Form) (x : Expr) (ts rest : Tokens) → Takes f
      → SpelledBefore t (behind_async moves ps f) no_struct depth ts rest → list_all is_closure_param ps ≡ true
      → BodyRead t is_async moves no_struct ps f x rest → IsRead (suc depth) (closure_behind within no_struct is_async) x ts rest
  behind_read t is_async true no_struct ps f x ts rest takes s g body =
      let C = comma_list true bar bar (map node.closure_param ps) in
      let w = piece_parts t no_struct depth (keyword (codes "move") ∷ Blank ∷ []) (Part C f) ts rest s in
      let o : IsOne Ident (codes "move") ts w.0 = before_blank (keyword (codes "move")) ts w.0 w.1 in
      let p = part_parts t no_struct depth C f takes w.0 rest w.2 in
      let l = params_read ps w.0 p.0 p.1 g in
      let ys = l.2 in
      let r = body (deepest ys.0) p.0 ys.2 p.2 in
      (r.0, r.1, head_made is_async true no_struct ps ys.0 x r.0 ts w.0 l.0 p.0 rest (keyword_there (codes "move") ts w.0 o) (one_left Ident (codes "move") ts w.0 o) l.1 ys.3 ys.1 r.2)
  behind_read t is_async false no_struct ps f x ts rest takes s g body =
      let p = part_parts t no_struct depth (comma_list true bar bar (map node.closure_param ps)) f takes ts rest s in
      let l = params_read ps ts p.0 p.1 g in
      let ys = l.2 in
      let no_move : first (is_keyword (codes "move")) ts ≡ false = rw (one_front Punct (codes "|") ts l.0 l.1).1 refl in
      let r = body (deepest ys.0) p.0 ys.2 p.2 in
      (r.0, r.1, head_made is_async false no_struct ps ys.0 x r.0 ts ts l.0 p.0 rest no_move refl l.1 ys.3 ys.1 r.2)

  -- A closure without `async` doesn't begin with it.
  no_async : (moves : Bool) (ps : List ClosureParam) (f : Form) (ts rest : Tokens) → Spells (behind_async moves ps f) depth ts rest
      → first (is_keyword (codes "async")) ts ≡ false
  no_async true ps f ts rest s =
      rw (one_front Ident (codes "move") ts s.0 (before_blank (keyword (codes "move")) ts s.0 s.1)).1 refl
  no_async false ps f ts rest s =
      let l = list_front bar bar (map node.closure_param ps) depth ts s.0 s.1 in rw (one_front Punct (codes "|") ts l.0 l.1).1 refl

  async_read : (no_struct : Bool) (x : Expr) (n : ℕ) (ts at rest : Tokens) → IsOne Ident (codes "async") ts at
      → closure_behind within no_struct true at ≡ Some ((x, n), rest) → closure_expr within no_struct ts ≡ Some ((x, n), rest)
  unfolding closure_expr
  async_read no_struct x n ts at rest o r = rw (keyword_there (codes "async") ts at o, one_left Ident (codes "async") ts at o) r

  sync_read : (no_struct : Bool) (x : Expr) (n : ℕ) (ts rest : Tokens) → first (is_keyword (codes "async")) ts ≡ false
      → closure_behind within no_struct false ts ≡ Some ((x, n), rest) → closure_expr within no_struct ts ≡ Some ((x, n), rest)
  unfolding closure_expr
  sync_read no_struct x n ts rest a r = rw a r

  head_read : (t : Tail) (is_async moves no_struct : Bool) (ps : List ClosureParam) (f : Form) (x : Expr) (ts rest : Tokens) → Takes f
      → SpelledBefore t (closure_head is_async moves ps f) no_struct depth ts rest → list_all is_closure_param ps ≡ true
      → BodyRead t is_async moves no_struct ps f x rest → IsRead (suc depth) (closure_expr within no_struct) x ts rest
  head_read t true moves no_struct ps f x ts rest takes s g body =
      let w = piece_parts t no_struct depth (keyword (codes "async") ∷ Blank ∷ []) (behind_async moves ps f) ts rest s in
      let o : IsOne Ident (codes "async") ts w.0 = before_blank (keyword (codes "async")) ts w.0 w.1 in
      let r = behind_read t true moves no_struct ps f x w.0 rest takes w.2 g body in
      (r.0, r.1, async_read no_struct x r.0 ts w.0 rest o r.2)
  head_read t false moves no_struct ps f x ts rest takes s g body =
      let r = behind_read t false moves no_struct ps f x ts rest takes s g body in
      (r.0, r.1, sync_read no_struct x r.0 ts rest (no_async moves ps f ts rest s.0) r.2)

  -- ---- a closure with a return type

  typed_made : (is_async moves no_struct : Bool) (ps : List ClosureParam) (y : Ty) (b : Block) (need m n : ℕ) (ts at mid rest : Tokens) → IsOperator (codes "->") ts at
      → within.kinds.types NoBounds at ≡ Some ((y, m), mid) → block_by within mid ≡ Some ((b, n), rest)
      → closure_body within no_struct is_async moves ps need ts ≡ Some ((expr.TypedClosure is_async moves ps y b, suc (max need (max m n))), rest)
  typed_made is_async moves no_struct ps y b need m n ts at mid rest o t r = rw (o.0, o.1, t, r) refl

  -- Its body is a block.
  pub typed_closure_head_read : (is_async moves : Bool) (ps : List ClosureParam) (y : Ty) (b : Block) → IsHead depth within (expr.TypedClosure is_async moves ps y b)
  typed_closure_head_read is_async moves ps y b =
      head_of depth within (expr.TypedClosure is_async moves ps y b) (Expr-F.TypedClosure is_async moves ps y (about_block b)) (expr_typed_closure_is is_async moves ps y b)
      (λ no_struct first_flag ts rest h.
      let g2 = and_parts (list_all is_closure_param ps && good_at NoBounds (about_type y)) (about_block b).good h.inside in
      let g1 = and_parts (list_all is_closure_param ps) (good_at NoBounds (about_type y)) g2.0 in
      let body : Form = (about_block b).form true in
      let f : Form = Piece (Blank ∷ Operator (codes "->") ∷ Blank ∷ []) (Part (about_type y).told.form (Part body Done)) in
      let takes : Takes f = λ us s. unspelled f refl depth us s in
      head_read (record shut { closure = true }) is_async moves no_struct ps f (expr.TypedClosure is_async moves ps y b) ts rest takes (h.spelled, h.tail) g1.0
      (λ need us le before.
      let s = before.0 in
      let o : IsOperator (codes "->") us s.0 =
      before_blank (Operator (codes "->")) us s.0 (behind_blank (Operator (codes "->") ∷ Blank ∷ []) us s.0 s.1) in
      let t = s.2 in
      let p = block_at b true depth t.0 rest (part_alone body depth t.0 rest t.2) in
      let q = quiet_read depth within.kinds reads.kinds NoBounds y s.0 t.0 t.1 g1.1 (brace_quiet t.0 p.inside p.opened) in
      let r = block_read fronts depth within reads b t.0 rest p g2.1 in
      (suc (max need (max q.0 r.0)), omega (arith, le, q.1, r.1), typed_made is_async moves no_struct ps y b need q.0 r.0 us s.0 t.0 rest o q.2 r.2)))

module _ (fronts : Fronts) (depth : ℕ) (within : ExprWithin) (reads : (least : ℕ) → least ≤ depth → ExprReads least within) where
  -- ---- a closure without a return type

  plain_made : (is_async moves no_struct : Bool) (ps : List ClosureParam) (w x : Expr) (need n : ℕ) (ts rest : Tokens) → is_op (codes "->") ts ≡ false
      → within.exprs (plain 0 no_struct) ts ≡ Some ((w, n), rest) → shed no_struct (length ts) w ≡ x
      → closure_body within no_struct is_async moves ps need ts
      ≡ Some ((expr.Closure is_async moves ps x, suc (max need (body_need (sheds (about_expr w).kind no_struct) n))), rest)
  plain_made is_async moves no_struct ps w x need n ts rest a r e = rw (a, r, e) refl

  body_spelled : (x : Expr) (no_struct : Bool) → placed (about_expr x) (plain 0 no_struct) ≡ true → (us : Tokens)
      → Spells (Piece (Blank ∷ []) (body_form x)) depth us us → ⊥
  body_spelled x no_struct g us s =
      let b = s.2 in
      let less = body_takes x (λ n ts rest t. (fronts.leads x (plain 0 no_struct) n ts rest t g).1) depth s.0 us b in
      omega (arith, less, ap length (blank_left us s.0 s.1))

  -- Within braces that aren't in the tree its body is read with them, as blocks, and loses them.
  pub closure_head_read : (is_async moves : Bool) (ps : List ClosureParam) (x : Expr) → IsHead depth within (expr.Closure is_async moves ps x)
  closure_head_read is_async moves ps x =
      head_of depth within (expr.Closure is_async moves ps x) (Expr-F.Closure is_async moves ps (about_expr x)) (expr_closure_is is_async moves ps x)
      (λ no_struct first_flag ts rest h.
      let F = about_expr x in
      let B = body_form x in
      let place = plain 0 no_struct in
      let t : Tail = record F.tail { takes_all = true; closure = true } in
      let g2 = and_parts (list_all is_closure_param ps && placed F place) (not (sheds F.kind no_struct)) h.inside in
      let g1 = and_parts (list_all is_closure_param ps) (placed F place) g2.0 in
      let bare = not-true (sheds F.kind no_struct) g2.1 in
      head_read fronts depth within (reads depth (omega arith)) t is_async moves no_struct ps (Piece (Blank ∷ []) B) (expr.Closure is_async moves ps x) ts rest
      (body_spelled x no_struct g1.1) (h.spelled, h.tail) g1.0 (λ need us le s.
      let p = piece_parts t no_struct depth (Blank ∷ []) B us rest s in
      let here = subst (λ vs. SpelledBefore t B no_struct depth vs rest) (sym (blank_left us p.0 p.1)) p.2 in
      let e = ended_weak t F.tail B no_struct depth us rest (taken_follows F.tail no_struct rest) here in
      let d = body_dressed no_struct x g1.1 bare depth us rest e.0 e.1 in
      let r = (reads d.least d.le).exprs place d.whole us rest d.form d.stands d.follows in
      let no_arrow = fronts.bodies d.whole place d.least us rest d.form d.stands in (
        suc (max need (body_need (sheds (about_expr d.whole).kind no_struct) r.0)),
        omega (arith, le, d.need r.0 r.1),
        plain_made is_async moves no_struct ps d.whole x need r.0 us rest no_arrow r.2 d.bare,
      )))
