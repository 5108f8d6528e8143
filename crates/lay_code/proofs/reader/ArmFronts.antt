-- What patterns begin with where arms and closures put them: no attribute. So where an arm or a parameter of a closure begins,
-- its attributes are read up to its pattern; and it isn't what closes the list that it stands in.
use Rattle.std.proofs.Common.{◌≡◌, ℕ, ◌≤◌, ◌<◌, Bool, true, false, not, ◌&&◌, List, [], ◌∷◌, map, length, codes, option_map, Some, inl, inr, refl, sym, ap, subst, ◌∙◌, arith}
use Rattle.std.proofs.lemmas.Bool.{and_parts, not-true}
use Rattle.lay_piece.specs.declared.kind.Delim.TheVariants.{Brace}
use Rattle.lay_token.specs.Operators.{is_op}
use Rattle.lay_form.specs.Form.{Blank, Body, ArmComma, Done, Form, Operator, Part, Piece}
use Rattle.lay_form.specs.Notation.{I0, N}
use Rattle.lay_form.specs.Spelled.{IsOperator, Spells}
use Rattle.lay_form.proofs.FormLaws.{shorter}
use Rattle.lay_node.specs.Ahead.{Tokens, closes, ends_items, first}
use Rattle.lay_node.specs.nodes.Attr.{about_attr, are_attrs, attr_form}
use Rattle.lay_node.specs.nodes.Functions.{may_be_type, self_type as param_type}
use Rattle.lay_node.specs.nodes.Patterns.{PatFacts, about_pat, all_pats_good, pat_facts, pat_form, pat_forms, pat_good}
use Rattle.lay_node.specs.nodes.Types.{is_several, joined}
use Rattle.lay_node.specs.reader.Attr.{attributes, begins_attr}
use Rattle.lay_node.specs.declared.attr.Attr.{Attr}
use Rattle.lay_node.specs.declared.patterns.FieldPat.TheOpen.{Pat-F}
use Rattle.lay_node.specs.declared.patterns.Pat.{Pat}
use Rattle.lay_node.specs.declared.patterns.Pat.TheVariants as pat
use Rattle.lay_node.specs.declared.patterns.PatPlace.{PatPlace}
use Rattle.lay_node.specs.declared.patterns.PatPlace.TheVariants.{Alternatives, Single}
use Rattle.lay_node.proofs.Parts.{GoodAt, Rows, before_blank, behind_attrs_rows, behind_blank, bit_alone, part_alone}
use Rattle.lay_node.proofs.nodes.PatternsLaws.{PatView, IsOr, IsValue, IsWild, IsRest, IsCall, IsPath, IsBind, IsSpan, IsRef, IsStruct, IsTupleStruct, IsTuple, IsParen, IsSlice, pat_view, pat_or_is, pat_value_is, pat_wild_is, pat_rest_is, pat_call_is, pat_path_is, pat_bind_is, pat_span_is, pat_ref_is, pat_struct_is, pat_tuple_struct_is, pat_tuple_is, pat_paren_is, pat_slice_is}
use Rattle.lay_node.proofs.reader.Attr.{attrs_rows}
use Rattle.lay_node.proofs.reader.AttrRead.{attributes_complete, outer_begins_item}
use Rattle.lay_node.proofs.reader.FunctionsPatterns.{pat_start}
use Rattle.lay_node.proofs.reader.PatternsBegins.{bar, starts}
use Rattle.lay_node.proofs.reader.TypesBegins.{opened}
use Rattle.lay_node.proofs.reader.TypesCompleteParts.{attrs_front, param_attrs_rows}
use Rattle.lay_node.proofs.reader.TypesFronts.{op_first}
use Rattle.lay_code.specs.nodes.Bodies.{braces_of, is_lone_body}
use Rattle.lay_code.specs.nodes.Blocks.{guard_form, is_free}
use Rattle.lay_code.specs.nodes.Code.{about_arm, about_expr}
use Rattle.lay_code.specs.nodes.CodeFacts.{ArmFacts}
use Rattle.lay_code.specs.nodes.Exprs.{closure_param, is_closure_param, placed, value_placed}
use Rattle.lay_code.specs.nodes.Places.{statement}
use Rattle.lay_code.specs.declared.blocks.Arm.{Arm}
use Rattle.lay_code.specs.declared.exprs.ClosureParam.{ClosureParam}
use Rattle.lay_code.proofs.nodes.BlocksLaws.{arm_is}

-- ---- patterns

-- alternatives, of which none has a bar before it
several_no_attr : (x : Pat) (depth : ℕ) (ts rest : Tokens) → Spells (about_pat x).told.form depth ts rest → (about_pat x).told.good ≡ true
    → begins_attr false ts ≡ false
several_no_attr x depth ts rest s g = at x (pat_view x) s g
  where
    one : (x : Pat) → (about_pat x).several ≡ false → Spells (about_pat x).told.form depth ts rest → (about_pat x).told.good ≡ true
        → begins_attr false ts ≡ false
    one x n t h = (pat_start depth x ts rest t (rw (h, n) refl)).attr

    or : (xs : List Pat) → Spells (pat_facts (Pat-F.Or (map about_pat xs))).told.form depth ts rest
        → (is_several (map about_pat xs) && all_pats_good Single (map about_pat xs)) ≡ true → begins_attr false ts ≡ false
    or [] t h = absurd (cc)
    or (y ∷ []) t h = absurd (cc)
    or (y ∷ z ∷ more) t h =
        let i = opened (Part (joined bar (pat_forms Single (map about_pat (y ∷ z ∷ more)))) Done) depth ts rest t in
        let row = i.2.1 in
        (pat_start i.0 y ts row.0 row.1 (and_parts (pat_good Single (about_pat y)) (all_pats_good Single (map about_pat (z ∷ more))) h).0).attr

    at : (x : Pat) → PatView x → Spells (about_pat x).told.form depth ts rest → (about_pat x).told.good ≡ true → begins_attr false ts ≡ false
    at _ (IsOr xs) =
        subst (λ (F : PatFacts). Spells F.told.form depth ts rest → F.told.good ≡ true → begins_attr false ts ≡ false) (sym (pat_or_is xs)) (or xs)
    at _ (IsValue v) = one (pat.Value v) (ap (λ (F : PatFacts). F.several) (pat_value_is v))
    at _ IsWild = one pat.Wild (ap (λ (F : PatFacts). F.several) pat_wild_is)
    at _ IsRest = one pat.Rest (ap (λ (F : PatFacts). F.several) pat_rest_is)
    at _ (IsCall c) = one (pat.Call c) (ap (λ (F : PatFacts). F.several) (pat_call_is c))
    at _ (IsPath p) = one (pat.Path p) (ap (λ (F : PatFacts). F.several) (pat_path_is p))
    at _ (IsBind r m n of) = one (pat.Bind r m n of) (ap (λ (F : PatFacts). F.several) (pat_bind_is r m n of))
    at _ (IsSpan a i e) = one (pat.Span a i e) (ap (λ (F : PatFacts). F.several) (pat_span_is a i e))
    at _ (IsRef m y) = one (pat.Ref m y) (ap (λ (F : PatFacts). F.several) (pat_ref_is m y))
    at _ (IsStruct p fields dotted) = one (pat.Struct p fields dotted) (ap (λ (F : PatFacts). F.several) (pat_struct_is p fields dotted))
    at _ (IsTupleStruct p xs) = one (pat.TupleStruct p xs) (ap (λ (F : PatFacts). F.several) (pat_tuple_struct_is p xs))
    at _ (IsTuple xs) = one (pat.Tuple xs) (ap (λ (F : PatFacts). F.several) (pat_tuple_is xs))
    at _ (IsParen y) = one (pat.Paren y) (ap (λ (F : PatFacts). F.several) (pat_paren_is y))
    at _ (IsSlice xs) = one (pat.Slice xs) (ap (λ (F : PatFacts). F.several) (pat_slice_is xs))

-- a pattern at a place
pub pat_no_attr : (place : PatPlace) (x : Pat) (depth : ℕ) (ts rest : Tokens) → Spells (pat_form place (about_pat x)) depth ts rest
    → pat_good place (about_pat x) ≡ true → begins_attr false ts ≡ false
pat_no_attr Single x depth ts rest s g = (pat_start depth x ts rest s g).attr
pat_no_attr Alternatives x depth ts rest s g =
    let t = part_alone (about_pat x).told.form depth s.0 rest s.2 in
    let n = several_no_attr x depth s.0 rest t g in
    elim s.1 [
      | inl e ↦ subst (λ us. begins_attr false us ≡ false) (sym e) n
      | inr b ↦
          let o : IsOperator (codes "|") ts s.0 = bit_alone (Operator (codes "|")) ts s.0 b in bar_no_attr ts o.0
    ]
  where
    bar_no_attr : (us : Tokens) → is_op (codes "|") us ≡ true → begins_attr false us ≡ false
    bar_no_attr us h =
        let f = op_first 124 [] us h in rw f.3 refl

-- ---- arms

five_parts : (a b c d e : Bool) → (a && b && c && d && e) ≡ true → (a ≡ true) × (b ≡ true) × (c ≡ true) × (d ≡ true) × (e ≡ true)
five_parts true true true true true h = (h, h, h, h, h)
five_parts _ _ _ _ _ h = absurd (cc)

-- what spells an arm, and that no item of a list ends before it
pub record ArmParts (a : Arm) (last : Bool) (depth : ℕ) (ts rest : Tokens) : Type 0 where
  pub seen : Tokens
  pub pattern : Tokens
  pub guard : Tokens
  pub arrow : Tokens
  pub read : attributes false ts ≡ Some (a.attrs, seen)
  pub pat_there : Spells (pat_form Alternatives (about_pat a.pat)) depth seen pattern
  pub pat_held : pat_good Alternatives (about_pat a.pat) ≡ true
  pub guard_there : Spells (guard_form (option_map about_expr a.guard)) depth pattern guard
  pub guard_held : value_placed (option_map about_expr a.guard) ≡ true
  pub is_arrow : IsOperator (codes "=>") guard arrow
  pub body_there : Spells (Body (braces_of (about_expr a.body).kind) (ArmComma last (is_free (about_expr a.body))) (about_expr a.body).form Done) depth arrow rest
  pub body_held : placed (about_expr a.body) statement ≡ true
  pub dressed : is_lone_body (about_expr a.body).kind ≡ false
  pub more : ends_items ts ≡ false
  pub less : length rest < length ts

pub arm_parts : (a : Arm) (last : Bool) (depth : ℕ) (ts rest : Tokens) → Spells ((about_arm a).form last) depth ts rest → (about_arm a).good ≡ true
    → ArmParts a last depth ts rest
arm_parts a last depth ts rest s g =
    let is = arm_is a in
    let P = about_pat a.pat in
    let X = about_expr a.body in
    let G = option_map about_expr a.guard in
    let good = five_parts (are_attrs false a.attrs) (pat_good Alternatives P) (value_placed G) (placed X statement) (not (is_lone_body X.kind))
    (sym (ap (λ (F : ArmFacts). F.good) is) ∙ g) in
    let body : Form = Body (braces_of X.kind) (ArmComma last (is_free X)) X.form Done in
    let behind : Form = Piece (Blank ∷ Operator (codes "=>") ∷ Blank ∷ []) (N body) in
    let head : Form = Part (pat_form Alternatives P) (guard_form G) in
    let b = behind_attrs_rows (map attr_form a.attrs) (I0 head behind) depth ts rest (subst (λ (F : ArmFacts). Spells (F.form last) depth ts rest) is s) in
    let t = b.2 in
    let h = t.1 in
    let u = t.2 in
    let o : IsOperator (codes "=>") t.0 u.0 = before_blank (Operator (codes "=>")) t.0 u.0 (behind_blank (Operator (codes "=>") ∷ Blank ∷ []) t.0 u.0 u.1) in
    let rows = attrs_rows false depth a.attrs ts b.0 b.1 good.0 in
    let p = starts Alternatives a.pat depth b.0 h.0 h.1 good.1 in
    let less = shorter behind depth t.0 rest u in
    let mid = shorter (guard_form G) depth h.0 t.0 h.2 in
    let f = front a.attrs b.0 rows (p.closer Brace) (omega (arith, p.less)) in
    record {
      seen = b.0;
      pattern = h.0;
      guard = t.0;
      arrow = u.0;
      read = attributes_complete false a.attrs depth ts b.0 rows (pat_no_attr Alternatives a.pat depth b.0 h.0 h.1 good.1);
      pat_there = h.1;
      pat_held = good.1;
      guard_there = h.2;
      guard_held = good.2;
      is_arrow = o;
      body_there = u.2;
      body_held = good.3;
      dressed = not-true (is_lone_body X.kind) good.4;
      more = f.0;
      less = omega (arith, f.1, p.less, mid, less);
    }
  where
    ends : (us : Tokens) → first (closes Brace) us ≡ false → 1 ≤ length us → ends_items us ≡ false
    ends [] n l = absurd (omega (arith, l))
    ends (u ∷ us) n l = n

    front : (attrs : List Attr) (seen : Tokens) → Rows (GoodAt (about_attr false) depth) attrs ts seen → first (closes Brace) seen ≡ false
        → 1 ≤ length seen → (ends_items ts ≡ false) × (length seen ≤ length ts)
    front [] seen r n l = (subst (λ us. ends_items us ≡ false) (sym r) (ends seen n l), omega (arith, ap length r))
    front (x ∷ more) seen r n l = ((outer_begins_item x depth ts r.0 r.1).0, (attrs_front (x ∷ more) depth ts seen r).shorter)

-- ---- parameters of closures

pub record ParamParts (p : ClosureParam) (depth : ℕ) (ts rest : Tokens) : Type 0 where
  pub seen : Tokens
  pub pattern : Tokens
  pub read : attributes false ts ≡ Some (p.attrs, seen)
  pub pat_there : Spells (pat_form Single (about_pat p.pat)) depth seen pattern
  pub pat_held : pat_good Single (about_pat p.pat) ≡ true
  pub type_there : Spells (param_type p.ty) depth pattern rest
  pub type_held : may_be_type p.ty ≡ true
  pub less : length rest < length ts

pub param_parts : (p : ClosureParam) (depth : ℕ) (ts rest : Tokens) → Spells (closure_param p) depth ts rest → is_closure_param p ≡ true
    → ParamParts p depth ts rest
param_parts p depth ts rest s g =
    let P = about_pat p.pat in
    let g2 = and_parts (are_attrs false p.attrs && pat_good Single P) (may_be_type p.ty) g in
    let g1 = and_parts (are_attrs false p.attrs) (pat_good Single P) g2.0 in
    let r = param_attrs_rows p.attrs (Part (pat_form Single P) (Part (param_type p.ty) Done)) depth ts rest s g1.0 in
    let t = r.2 in
    let ty = part_alone (param_type p.ty) depth t.0 rest t.2 in
    let b = starts Single p.pat depth r.0 t.0 t.1 g1.1 in
    record {
      seen = r.0;
      pattern = t.0;
      read = attributes_complete false p.attrs depth ts r.0 r.1 (pat_no_attr Single p.pat depth r.0 t.0 t.1 g1.1);
      pat_there = t.1;
      pat_held = g1.1;
      type_there = ty;
      type_held = g2.1;
      less = omega (arith, (attrs_front p.attrs depth ts r.0 r.1).shorter, b.less, shorter (param_type p.ty) depth t.0 rest ty);
    }
