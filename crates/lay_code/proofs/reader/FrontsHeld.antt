-- What is held of first tokens, together: of statements, items, expressions, arms and parameters of closures.
use Rattle.std.proofs.Common.{◌≡◌, ℕ, zero, suc, Bool, true, false, not, ◌&&◌, List, [], ◌∷◌, map, codes, Option, option_map, Some, None, inl, inr, refl, sym, ap, subst, ◌∙◌, arith}
use Rattle.std.specs.Str.{bytes_eq}
use Rattle.std.proofs.lemmas.Bool.{and_parts, false_from_ne_true, not-true, or_cases}
use Rattle.lay_piece.specs.declared.kind.Kind.{Kind}
use Rattle.lay_piece.specs.declared.kind.Kind.TheVariants.{Ident, Punct, Doc}
use Rattle.lay_token.specs.Lexes.{is_punct}
use Rattle.lay_token.specs.Operators.{is_op}
use Rattle.lay_token.specs.declared.token.Token.{Token}
use Rattle.lay_form.specs.Form.{ArmComma, Blank, Body, Form, Done, Operator, Piece, Part, keyword}
use Rattle.lay_form.specs.Notation.{N, I0}
use Rattle.lay_form.specs.Spelled.{IsOne, IsOperator, Spells}
use Rattle.lay_form.proofs.FormLaws.{shorter}
use Rattle.lay_node.specs.Ahead.{Tokens, first, tail, is_ident, is_keyword, is_mark, ends_items}
use Rattle.lay_node.specs.nodes.Attr.{about_attr, are_attrs, attr_form}
use Rattle.lay_node.specs.nodes.Functions.{may_be_type, self_type}
use Rattle.lay_node.specs.nodes.Patterns.{about_pat, pat_form, pat_good}
use Rattle.lay_node.specs.reader.Attr.{begins_attr, is_doc, is_doc_kind}
use Rattle.lay_node.specs.declared.attr.Attr.{Attr}
use Rattle.lay_node.specs.declared.heads.Site.TheVariants.{Module}
use Rattle.lay_node.specs.declared.patterns.Pat.{Pat}
use Rattle.lay_node.specs.declared.patterns.PatPlace.TheVariants.{Alternatives, Single}
use Rattle.lay_node.proofs.Fronts.{keyword_one, mark_one, no_op, one_front, one_no_op, other_op}
use Rattle.lay_node.proofs.Parts.{Rows, GoodAt, before_blank, behind_attrs_rows, bit_alone, part_alone}
use Rattle.lay_node.proofs.reader.Attr.{attrs_rows}
use Rattle.lay_node.proofs.reader.AttrRead.{attr_begins, attributes_complete, outer_begins_item}
use Rattle.lay_node.proofs.reader.PatternsBegins.{starts}
use Rattle.lay_node.proofs.reader.TypesCompleteParts.{attrs_front, param_attrs_rows}
use Rattle.lay_node.proofs.reader.TypesFronts.{no_other_op, op_first}
use Rattle.lay_code.specs.Operands.{ExprLead, ByClosure, expr_lead_at}
use Rattle.lay_code.specs.Operators.{is_dot_or_try}
use Rattle.lay_code.specs.nodes.Bodies.{braces_of}
use Rattle.lay_code.specs.nodes.Blocks.{ended_form, guard_form, is_free}
use Rattle.lay_code.specs.nodes.Code.{about_arm, about_expr, about_item, about_stmt, told_of_item}
use Rattle.lay_code.specs.nodes.CodeFacts.{ArmFacts, StmtFacts}
use Rattle.lay_code.specs.nodes.Exprs.{closure_param, is_closure_param, placed}
use Rattle.lay_code.specs.nodes.Places.{statement}
use Rattle.lay_code.specs.reader.Blocks.{begins_item}
use Rattle.lay_code.specs.declared.blocks.Arm.{Arm}
use Rattle.lay_code.specs.declared.blocks.Stmt.{Stmt}
use Rattle.lay_code.specs.declared.exprs.ClosureParam.{ClosureParam}
use Rattle.lay_code.specs.declared.item.Item.{Item}
use Rattle.lay_code.proofs.nodes.BlocksLaws.{StmtView, IsLet, IsItem, IsExpr, arm_is, stmt_view, stmt_let_is, stmt_item_is, stmt_expr_is}
use Rattle.lay_code.proofs.reader.ArrowFronts.{no_arrow}
use Rattle.lay_code.proofs.reader.BlockEnds.{arrow_ends_expr}
use Rattle.lay_code.proofs.reader.BlockFronts.{expr_no_item, expr_start, stmt_front}
use Rattle.lay_code.proofs.reader.BlockReads.{ArmBegun, Begun, Fronts, ItemAhead}
use Rattle.lay_code.proofs.reader.ElseEnds.{else_follows_value}
use Rattle.lay_code.proofs.reader.ExprFronts.{placed_begins}
use Rattle.lay_code.proofs.reader.ExprLeads.{expr_more, expr_no_attr, expr_no_comma, expr_no_keyword, expr_no_semicolon, lone_lead}
use Rattle.lay_code.proofs.reader.ItemBegins.{item_begun}
use Rattle.lay_code.proofs.reader.ItemKinds.{item_none}
use Rattle.lay_code.proofs.reader.PatternLeads.{PatLead, is_closure_lead, pat_leads, single_leads}

-- neither what goes on with a block, nor a comma, nor the end
record Ahead (ts : Tokens) : Type 0 where
  begun : Begun ts
  no_comma : first (is_mark (codes ",")) ts ≡ false
  more : ends_items ts ≡ false

-- ---- leads of expressions

-- Neither `.` nor `?` begins an expression.
mark_lead : (c : ℕ) → bytes_eq (c ∷ []) (codes "::") ≡ false → bytes_eq (c ∷ []) (codes "..") ≡ false → bytes_eq (c ∷ []) (codes "..=") ≡ false
    → ((t : Token) (more : List ℕ) (us : Tokens) → let vs : Tokens = record t { kind = Punct; text = c ∷ more } ∷ us in
    is_op (codes "::") vs ≡ false → is_op (codes "..") vs ≡ false → is_op (codes "..=") vs ≡ false → expr_lead_at vs ≡ None)
    → (ts : Tokens) → is_op (c ∷ []) ts ≡ true → expr_lead_at ts ≡ None
mark_lead c colons dots last none ts h =
    let f = op_first c [] ts h in
    let vs : Tokens = record f.0 { kind = Punct; text = c ∷ f.2 } ∷ f.1 in
    let n : is_op (codes "::") vs ≡ false = subst (λ us. is_op (codes "::") us ≡ false) f.3 (other_op (c ∷ []) (codes "::") colons ts h) in
    let a : is_op (codes "..") vs ≡ false = subst (λ us. is_op (codes "..") us ≡ false) f.3 (other_op (c ∷ []) (codes "..") dots ts h) in
    let b : is_op (codes "..=") vs ≡ false = subst (λ us. is_op (codes "..=") us ≡ false) f.3 (other_op (c ∷ []) (codes "..=") last ts h) in
    subst (λ us. expr_lead_at us ≡ None) (sym f.3) (none f.0 f.2 f.1 n a b)

point_lead : (ts : Tokens) → is_op (codes ".") ts ≡ true → expr_lead_at ts ≡ None
unfolding expr_lead_at
point_lead = mark_lead 46 refl refl refl (λ t more us n a b. rw (n, a, b) refl)

question_lead : (ts : Tokens) → is_op (codes "?") ts ≡ true → expr_lead_at ts ≡ None
unfolding expr_lead_at
question_lead = mark_lead 63 refl refl refl (λ t more us n a b. rw (n, a, b) refl)

lead_no_dot : (ts : Tokens) (l : ExprLead) → expr_lead_at ts ≡ Some l → is_dot_or_try ts ≡ false
lead_no_dot ts l h =
    let a = false_from_ne_true (is_op (codes ".") ts) (λ e. let k : None ≡ Some l = sym (point_lead ts e) ∙ h in absurd (cc)) in
    let b = false_from_ne_true (is_op (codes "?") ts) (λ e. let k : None ≡ Some l = sym (question_lead ts e) ∙ h in absurd (cc)) in
    rw (a, b) refl

lead_ahead : (ts : Tokens) (l : ExprLead) → expr_lead_at ts ≡ Some l → Ahead ts
lead_ahead ts l h = record {
  begun = record {
    mark = expr_no_semicolon ts l h;
    dot = lead_no_dot ts l h;
    no_else = expr_no_keyword (codes "else") (λ us. refl) ts l h;
    attr = expr_no_attr true ts l h;
  };
  no_comma = expr_no_comma ts l h;
  more = expr_more ts l h;
}

-- ---- words, attributes and bars

word_ahead : (word : List ℕ) → bytes_eq word (codes "else") ≡ false → (ts rest : Tokens) → IsOne Ident word ts rest → Ahead ts
word_ahead word other ts rest o =
    let f = (one_front Ident word ts rest o).1 in
    let a = one_no_op (codes ".") Ident word ts rest refl o in
    let b = one_no_op (codes "?") Ident word ts rest refl o in
    record {
      begun = record { mark = rw f refl; dot = rw (a, b) refl; no_else = rw (f, other) refl; attr = rw f refl };
      no_comma = rw f refl;
      more = rw f refl;
    }

item_ahead : (ts : Tokens) → begins_item ts ≡ true → Ahead ts
item_ahead ts h = record {
  begun = record { mark = start.0; dot = start.1; no_else = no_else; attr = start.2 };
  no_comma = start.3;
  more = start.4;
}
  where
    no_else : first (is_keyword (codes "else")) ts ≡ false
    no_else = false_from_ne_true (first (is_keyword (codes "else")) ts) (λ e.
        let f = one_front Ident (codes "else") ts (tail ts) (keyword_one (codes "else") ts e) in
        let n : begins_item ts ≡ false = rw f.1 refl in absurd (cc))

    by : (t : Token) (us : Tokens) (k : Kind) → begins_item (record t { kind = k } ∷ us) ≡ true → let vs : Tokens = record t { kind = k } ∷ us in
        (first (is_mark (codes ";")) vs ≡ false) × (is_dot_or_try vs ≡ false) × (begins_attr true vs ≡ false) × (first (is_mark (codes ",")) vs ≡ false)
        × (ends_items vs ≡ false)
    by t us Ident e =
        let a = no_op (codes ".") (record t { kind = Ident }) us refl in
        let b = no_op (codes "?") (record t { kind = Ident }) us refl in (refl, rw (a, b) refl, refl, refl, refl)
    by t us _ e = absurd (cc)

    whole : (us : Tokens) → begins_item us ≡ true
        → (first (is_mark (codes ";")) us ≡ false) × (is_dot_or_try us ≡ false) × (begins_attr true us ≡ false) × (first (is_mark (codes ",")) us ≡ false)
        × (ends_items us ≡ false)
    whole [] e = absurd (cc)
    whole (t ∷ us) e = by t us t.kind e

    start : (first (is_mark (codes ";")) ts ≡ false) × (is_dot_or_try ts ≡ false) × (begins_attr true ts ≡ false) × (first (is_mark (codes ",")) ts ≡ false)
        × (ends_items ts ≡ false)
    start = whole ts h

-- an outer attribute
record AttrAhead (ts : Tokens) : Type 0 where
  mark : first (is_mark (codes ";")) ts ≡ false
  no_comma : first (is_mark (codes ",")) ts ≡ false
  no_bar : first (is_mark (codes "|")) ts ≡ false
  dot : is_dot_or_try ts ≡ false
  no_else : first (is_keyword (codes "else")) ts ≡ false

attr_ahead : (ts : Tokens) → begins_attr false ts ≡ true → AttrAhead ts
attr_ahead ts h = elim (or_cases (first (is_doc false) ts) (first (is_mark (codes "#")) ts) h) [
  | inl d ↦ doc ts d
  | inr m ↦
      let o = mark_one (codes "#") ts m in
      let f = (one_front Punct (codes "#") ts (tail ts) o).1 in
      let a = no_other_op 46 [] 35 ts (tail ts) refl o in
      let b = no_other_op 63 [] 35 ts (tail ts) refl o in
      record { mark = rw f refl; no_comma = rw f refl; no_bar = rw f refl; dot = rw (a, b) refl; no_else = rw f refl }
]
  where
    kinds : (k : Kind) → is_doc_kind false k ≡ true → (is_punct k ≡ false) × (is_ident k ≡ false)
    kinds (Doc inner block) e = (refl, refl)
    kinds _ e = absurd (cc)

    doc : (us : Tokens) → first (is_doc false) us ≡ true → AttrAhead us
    doc [] e = absurd (cc)
    doc (u ∷ us) e =
        let k = kinds u.kind e in
        let a = no_op (codes ".") u us k.0 in
        let b = no_op (codes "?") u us k.0 in
        record { mark = rw k.0 refl; no_comma = rw k.0 refl; no_bar = rw k.0 refl; dot = rw (a, b) refl; no_else = rw k.1 refl }

attrs_ahead : (attrs : List Attr) (depth : ℕ) (ts mid : Tokens) → Rows (GoodAt (about_attr false) depth) attrs ts mid → Ahead mid → Ahead ts
attrs_ahead [] depth ts mid r h = subst Ahead (sym r) h
attrs_ahead (a ∷ more) depth ts mid r h =
    let b = outer_begins_item a depth ts r.0 r.1 in
    let f = attr_ahead ts (attr_begins false a depth ts r.0 r.1) in
    record { begun = record { mark = f.mark; dot = f.dot; no_else = f.no_else; attr = b.1 }; no_comma = f.no_comma; more = b.0 }

-- ---- statements

stmt_ahead : (s : Stmt) (depth : ℕ) (ts rest : Tokens) → Spells (about_stmt s).form depth ts rest → (about_stmt s).good ≡ true → Ahead ts
stmt_ahead s depth ts rest t g = by s (stmt_view s) t g
  where
    of_item : (depth : ℕ) (i : Item) → GoodAt (about_item Module) depth i ts rest → (told_of_item i).call ≡ false → Ahead ts
    of_item zero i h n = absurd (item_none Module i ts rest h.0)
    of_item (suc d) i h n = let b = item_begun i d ts rest h n in attrs_ahead i.attrs d ts b.seen b.attrs (item_ahead b.seen b.begins)

    by : (s : Stmt) → StmtView s → Spells (about_stmt s).form depth ts rest → (about_stmt s).good ≡ true → Ahead ts
    by _ (IsLet attrs pat ty x o) t g =
        let is = stmt_let_is attrs pat ty x o in
        let spelled = subst (λ (G : StmtFacts). Spells G.form depth ts rest) is t in
        let good = subst (λ (G : StmtFacts). G.good ≡ true) is g in
        let attrs_good = (and_parts (are_attrs false attrs) _ (and_parts _ _ (and_parts _ _ (and_parts _ _ good).0).0).0).0 in
        let b = behind_attrs_rows (map attr_form attrs) _ depth ts rest spelled in
        let u = b.2 in
        let o = before_blank (keyword (codes "let")) b.0 u.0 u.1 in
        attrs_ahead attrs depth ts b.0 (attrs_rows false depth attrs ts b.0 b.1 attrs_good) (word_ahead (codes "let") refl b.0 u.0 o)
    by _ (IsItem i) t g =
        let is = stmt_item_is i in
        let good = and_parts ((told_of_item i).good Module) (not (told_of_item i).call) (subst (λ (G : StmtFacts). G.good ≡ true) is g) in
        of_item depth i (subst (λ (G : StmtFacts). Spells G.form depth ts rest) is t, good.0) (not-true (told_of_item i).call good.1)
    by _ (IsExpr attrs x ended) t g =
        let is = stmt_expr_is attrs x ended in
        let F = about_expr x in
        let spelled = subst (λ (G : StmtFacts). Spells G.form depth ts rest) is t in
        let good = and_parts (are_attrs false attrs) (placed F statement) (subst (λ (G : StmtFacts). G.good ≡ true) is g) in
        let b = behind_attrs_rows (map attr_form attrs) (Part F.form (ended_form ended)) depth ts rest spelled in
        let u = b.2 in
        let l = (placed_begins x statement depth b.0 u.0 u.1 good.1).lead in
        attrs_ahead attrs depth ts b.0 (attrs_rows false depth attrs ts b.0 b.1 good.0) (lead_ahead b.0 F.lead l)

-- ---- items

item_told : (one : Item) (depth : ℕ) (ts rest : Tokens) → GoodAt (about_item Module) depth one ts rest → (told_of_item one).call ≡ false → ItemAhead ts
item_told one zero ts rest h n = absurd (item_none Module one ts rest h.0)
item_told one (suc d) ts rest h n =
    let b = item_begun one d ts rest h n in
    record { attrs = one.attrs; mid = b.seen; read = attributes_complete false one.attrs d ts b.seen b.attrs b.attr; no_let = b.other; item = b.begins }

-- ---- patterns

pat_lead_ahead : (ts : Tokens) → PatLead ts → Ahead ts × (begins_attr false ts ≡ false) × (first (is_mark (codes "|")) ts ≡ false)
pat_lead_ahead ts p = elim p [
  | inl l ↦ (
    lead_ahead ts l.0 l.1,
    expr_no_attr false ts l.0 l.1,
    false_from_ne_true (first (is_mark (codes "|")) ts) (λ e. bar_none ts l.0 l.1 l.2 (mark_one (codes "|") ts e)),
  )
  | inr w ↦ elim w.3 [
    | inl e ↦ of_word ts (codes "ref") w.1 refl (subst (λ (word : List ℕ). IsOne Ident word ts w.1) e w.2)
    | inr e ↦ of_word ts (codes "mut") w.1 refl (subst (λ (word : List ℕ). IsOne Ident word ts w.1) e w.2)
  ]
]
  where
    bar_none : (us : Tokens) (l : ExprLead) → expr_lead_at us ≡ Some l → is_closure_lead l ≡ false → IsOne Punct (codes "|") us (tail us) → ⊥
    bar_none us l h n o =
        let b = lone_lead Punct (codes "|") ByClosure (λ vs. refl) us (tail us) o in
        let e = ap closed (sym b ∙ h) in absurd (cc)
      where
        closed : Option ExprLead → Bool
        closed None = false
        closed (Some m) = is_closure_lead m

    of_word : (us : Tokens) (word : List ℕ) (rest : Tokens) → bytes_eq word (codes "else") ≡ false → IsOne Ident word us rest
        → Ahead us × (begins_attr false us ≡ false) × (first (is_mark (codes "|")) us ≡ false)
    of_word us word rest n o = let f = (one_front Ident word us rest o).1 in (word_ahead word n us rest o, rw f refl, rw f refl)

-- alternatives, before which a bar may stand
pats_ahead : (x : Pat) (depth : ℕ) (ts rest : Tokens) → Spells (pat_form Alternatives (about_pat x)) depth ts rest
    → pat_good Alternatives (about_pat x) ≡ true → Ahead ts × (begins_attr false ts ≡ false)
pats_ahead x depth ts rest s g =
    let t = part_alone (about_pat x).told.form depth s.0 rest s.2 in
    elim s.1 [
      | inl e ↦ let p = pat_lead_ahead s.0 (pat_leads x depth s.0 rest t g) in (subst Ahead (sym e) p.0, subst (λ us. begins_attr false us ≡ false) (sym e) p.1)
      | inr b ↦ barred ts (bit_alone (Operator (codes "|")) ts s.0 b)
    ]
  where
    barred : (us : Tokens) → IsOperator (codes "|") us s.0 → Ahead us × (begins_attr false us ≡ false)
    barred us o =
        let f = op_first 124 [] us o.0 in
        let a = other_op (codes "|") (codes ".") refl us o.0 in
        let b = other_op (codes "|") (codes "?") refl us o.0 in (
          record {
            begun = record { mark = rw f.3 refl; dot = rw (a, b) refl; no_else = rw f.3 refl; attr = rw f.3 refl };
            no_comma = rw f.3 refl;
            more = rw f.3 refl;
          },
          rw f.3 refl,
        )

-- ---- arms and parameters

arm_begun : (a : Arm) (last : Bool) (depth : ℕ) (ts rest : Tokens) → Spells ((about_arm a).form last) depth ts rest → (about_arm a).good ≡ true → ArmBegun ts rest
arm_begun a last depth ts rest s g =
    let G = option_map about_expr a.guard in
    let B = about_expr a.body in
    let spelled = subst (λ (F : ArmFacts). Spells (F.form last) depth ts rest) (arm_is a) s in
    let good = subst (λ (F : ArmFacts). F.good ≡ true) (arm_is a) g in
    let g2 = (and_parts _ _ (and_parts _ _ (and_parts _ _ good).0).0).0 in
    let g1 = and_parts (are_attrs false a.attrs) (pat_good Alternatives (about_pat a.pat)) g2 in
    let head : Form = Part (pat_form Alternatives (about_pat a.pat)) (guard_form G) in
    let body : Form = Body (braces_of B.kind) (ArmComma last (is_free B)) B.form Done in
    let arrow : Form = Piece (Blank ∷ Operator (codes "=>") ∷ Blank ∷ []) (N body) in
    let r = behind_attrs_rows (map attr_form a.attrs) (I0 head arrow) depth ts rest spelled in
    let groups = r.2 in
    let p = groups.1 in
    let h = (pats_ahead a.pat depth r.0 p.0 p.1 g1.1).0 in
    let rows = attrs_rows false depth a.attrs ts r.0 r.1 g1.0 in
    let ahead = attrs_ahead a.attrs depth ts r.0 rows h in
    record {
      begun = ahead.begun;
      no_comma = ahead.no_comma;
      more = rw ahead.more refl;
      less = omega (
        arith,
        (attrs_front a.attrs depth ts r.0 rows).shorter,
        (starts Alternatives a.pat depth r.0 p.0 p.1 g1.1).less,
        shorter (guard_form G) depth p.0 groups.0 p.2,
        shorter arrow depth groups.0 rest groups.2,
      );
    }

param_begun : (p : ClosureParam) (depth : ℕ) (ts rest : Tokens) → Spells (closure_param p) depth ts rest → is_closure_param p ≡ true
    → first (is_mark (codes "|")) ts ≡ false
param_begun p depth ts rest s g =
    let g2 = (and_parts (are_attrs false p.attrs && pat_good Single (about_pat p.pat)) (may_be_type p.ty) g).0 in
    let g1 = and_parts (are_attrs false p.attrs) (pat_good Single (about_pat p.pat)) g2 in
    let r = param_attrs_rows p.attrs (Part (pat_form Single (about_pat p.pat)) (Part (self_type p.ty) Done)) depth ts rest s g1.0 in
    let q = r.2 in
    by p.attrs ts r.0 r.1 (pat_lead_ahead r.0 (single_leads p.pat depth r.0 q.0 q.1 g1.1)).2
  where
    by : (attrs : List Attr) (us mid : Tokens) → Rows (GoodAt (about_attr false) depth) attrs us mid → first (is_mark (codes "|")) mid ≡ false
        → first (is_mark (codes "|")) us ≡ false
    by [] us mid r h = rw r h
    by (a ∷ more) us mid r h = (attr_ahead us (attr_begins false a depth us r.0 r.1)).no_bar

-- ---- all of it

pub fronts : Fronts
fronts = record {
  stmts = λ s depth ts rest t g. let f = stmt_front s depth ts rest t g in record { begun = (stmt_ahead s depth ts rest t g).begun; more = rw f.more refl; less = f.less };
  items = item_told;
  exprs = λ x depth ts rest s w n. let e = expr_start x statement depth ts rest s w in
      record { attr = e.0.outer; no_let = e.1; no_item = expr_no_item x statement depth ts rest s w n };
  leads = λ x place depth ts rest s w. let b = placed_begins x place depth ts rest s w in (b.lead, b.less);
  arms = arm_begun;
  pats = λ x depth ts rest s g. (pats_ahead x depth ts rest s g).1;
  params = param_begun;
  bodies = no_arrow;
  arrows = λ ts h. arrow_ends_expr false ts h;
  elses = λ x depth ts rest s w p h. else_follows_value x depth ts rest (tail rest) s w p (keyword_one (codes "else") rest h);
}
