-- What statements, arms and parameters of closures begin with, what follows their attributes, and the `;` of a block
-- that are dropped.
use Rattle.std.proofs.Common.{◌≡◌, ℕ, zero, suc, ◌<◌, Bool, true, false, not, ◌&&◌, ◌||◌, List, [], ◌∷◌, map, length, codes, Option, option_map, Some, None, inl, inr, refl, sym, ap, subst, ◌∙◌, arith}
use Rattle.std.proofs.lemmas.Bool.{and_parts, cases_Bool, false_from_ne_true, not-true, or_cases, or_left, or_right}
use Rattle.lay_piece.specs.Forms.{closing}
use Rattle.lay_piece.specs.declared.kind.Delim.{Delim}
use Rattle.lay_piece.specs.declared.kind.Delim.TheVariants.{Brace}
use Rattle.lay_piece.specs.declared.kind.Kind.{Kind}
use Rattle.lay_piece.specs.declared.kind.Kind.TheVariants.{Closer, Doc, Ident, Punct}
use Rattle.lay_token.specs.Lexes.{is_punct}
use Rattle.lay_form.specs.Form.{Blank, Fixed, Form, Part, Piece, keyword, semicolon}
use Rattle.lay_form.specs.Notation.{piece}
use Rattle.lay_form.specs.Spelled.{AnySemicolons, AreSemicolons, IsOne, Spells}
use Rattle.lay_form.proofs.FormLaws.{shorter}
use Rattle.lay_node.specs.Ahead.{Tokens, ends_items, first, is_keyword, is_mark, opens, tail}
use Rattle.lay_node.specs.nodes.Attr.{about_attr, are_attrs, attr_form}
use Rattle.lay_node.specs.nodes.Functions.{may_be_type}
use Rattle.lay_node.specs.nodes.Patterns.{about_pat, pat_form, pat_good}
use Rattle.lay_node.specs.reader.Attr.{begins_attr, is_doc, is_doc_kind}
use Rattle.lay_node.specs.reader.Words.{name}
use Rattle.lay_node.specs.declared.attr.Attr.{Attr}
use Rattle.lay_node.specs.declared.heads.Site.TheVariants.{Module}
use Rattle.lay_node.specs.declared.patterns.Pat.{Pat}
use Rattle.lay_node.specs.declared.patterns.PatPlace.TheVariants.{Single}
use Rattle.lay_node.specs.declared.types.Ty.{Ty}
use Rattle.lay_node.proofs.Fronts.{keyword_one, mark_one, one_front, one_no_op, one_shorter}
use Rattle.lay_node.proofs.Parts.{GoodAt, Rows, behind_attrs_rows, before_blank, piece_bit}
use Rattle.lay_node.proofs.reader.Attr.{attrs_rows}
use Rattle.lay_node.proofs.reader.AttrRead.{attr_begins, outer_begins_item}
use Rattle.lay_node.proofs.reader.TypesComplete.{and_none}
use Rattle.lay_node.proofs.reader.TypesCompleteParts.{attrs_front}
use Rattle.lay_node.proofs.reader.TypesFronts.{no_other_op}
use Rattle.lay_code.specs.Operands.{ExprLead, expr_lead_at, expr_lead_of_word}
use Rattle.lay_code.specs.nodes.Blocks.{else_form, else_good, ended_form, let_type}
use Rattle.lay_code.specs.nodes.Code.{about_block, about_expr, about_item, about_stmt, told_of_item}
use Rattle.lay_code.specs.nodes.CodeFacts.{StmtFacts}
use Rattle.lay_code.specs.nodes.Exprs.{placed, value_form, value_placed}
use Rattle.lay_code.specs.nodes.Places.{statement}
use Rattle.lay_code.specs.reader.Blocks.{begins_item, begins_with, behind_semicolons, item_words}
use Rattle.lay_code.specs.reader.ItemLeads.{begins_rules, begins_union}
use Rattle.lay_code.specs.declared.blocks.Block.{Block}
use Rattle.lay_code.specs.declared.blocks.Stmt.{Stmt}
use Rattle.lay_code.specs.declared.blocks.Stmt.TheVariants as stmt
use Rattle.lay_code.specs.declared.exprs.Expr.{Expr}
use Rattle.lay_code.specs.declared.exprs.Place.{Place}
use Rattle.lay_code.specs.declared.item.Item.{Item}
use Rattle.lay_code.proofs.nodes.BlocksLaws.{StmtView, IsLet, IsItem, IsExpr, stmt_view, stmt_let_is, stmt_item_is, stmt_expr_is}
use Rattle.lay_code.proofs.reader.ExprFirst.{NoItem, Plain, named_item, placed_plain}
use Rattle.lay_code.proofs.reader.ExprFronts.{placed_begins}
use Rattle.lay_code.proofs.reader.ExprLeads.{expr_more, expr_no_attr, expr_no_keyword, expr_no_semicolon, one_lead}
use Rattle.lay_code.proofs.reader.ItemBegins.{before_brace, is_async_fn, is_before_brace, item_begun}
use Rattle.lay_code.proofs.reader.ItemKinds.{item_begins, item_none}

-- ---- `;` that are dropped

none_behind : (ts : Tokens) → first (is_mark (codes ";")) ts ≡ false → behind_semicolons ts ≡ ts
none_behind [] h = refl
none_behind (t ∷ ts) h = rw h refl

semicolons_behind : (n : ℕ) (ts rest : Tokens) → AreSemicolons n ts rest → first (is_mark (codes ";")) rest ≡ false → behind_semicolons ts ≡ rest
semicolons_behind zero ts rest s h = rw s (none_behind rest h)
semicolons_behind (suc n) ts rest s h = rw (one_front Punct (codes ";") ts s.0 s.1).1 (semicolons_behind n s.0 rest s.2 h)

-- After any number of `;` what is left begins where no `;` stands.
pub any_behind : (ts rest : Tokens) → AnySemicolons ts rest → first (is_mark (codes ";")) rest ≡ false → behind_semicolons ts ≡ rest
any_behind ts rest s h = semicolons_behind s.0 ts rest s.1 h

-- ---- what ends a statement begins no item after `union`

pub semicolon_no_item : (ts rest : Tokens) → IsOne Punct (codes ";") ts rest → NoItem ts
unfolding name
semicolon_no_item ts rest o =
    let n = no_other_op 33 [] 59 ts rest refl o in (rw (one_front Punct (codes ";") ts rest o).1 refl, rw n refl)

pub closer_no_item : (d : Delim) (ts rest : Tokens) → IsOne (Closer d) (closing d ∷ []) ts rest → NoItem ts
unfolding name
closer_no_item d ts rest o =
    let n = one_no_op (codes "!") (Closer d) (closing d ∷ []) ts rest refl o in
    (rw (one_front (Closer d) (closing d ∷ []) ts rest o).1 refl, rw n refl)

-- ---- expressions where statements stand

-- `const` begins an expression before a `{` alone.
const_opens : (ts : Tokens) (l : ExprLead) → expr_lead_at ts ≡ Some l → first (is_keyword (codes "const")) ts ≡ true
    → first (opens Brace) (tail ts) ≡ true
const_opens ts l h c = by (first (opens Brace) (tail ts)) refl
  where
    lead : expr_lead_at ts ≡ expr_lead_of_word (codes "const") (tail ts)
    lead = one_lead Ident (codes "const") ts (tail ts) (keyword_one (codes "const") ts c)

    by : (b : Bool) → first (opens Brace) (tail ts) ≡ b → b ≡ true
    by true e = refl
    by false e =
        let none : expr_lead_of_word (codes "const") (tail ts) ≡ None = rw e refl in
        let k : None ≡ Some l = sym (lead ∙ none) ∙ h in
        absurd (cc)

none_of : (a b c d e : Bool) → a ≡ false → b ≡ false → c ≡ false → d ≡ false → e ≡ false → (a || b || c || d || e) ≡ false
none_of a b c d e f g h i j = rw (f, g, h, i, j) refl

-- It begins no item, where nothing that makes one stands after it.
pub expr_no_item : (x : Expr) (place : Place) (depth : ℕ) (ts rest : Tokens) → Spells (about_expr x).form depth ts rest
    → placed (about_expr x) place ≡ true → ((about_expr x).block_like ≡ false → NoItem rest) → begins_item ts ≡ false
expr_no_item x place depth ts rest s w behind =
    none_of (begins_with item_words ts) (is_before_brace ts) (is_async_fn ts) (begins_union ts) (begins_rules ts)
    words braces async union rules
  where
    l : ExprLead
    l = (about_expr x).lead

    lead : expr_lead_at ts ≡ Some l
    lead = (placed_begins x place depth ts rest s w).lead

    p : Plain (not (about_expr x).block_like) ts rest
    p = placed_plain x place depth ts rest s w

    words : begins_with item_words ts ≡ false
    words =
        rw (
          expr_no_keyword (codes "pub") (λ us. refl) ts l lead,
          expr_no_keyword (codes "use") (λ us. refl) ts l lead,
          expr_no_keyword (codes "mod") (λ us. refl) ts l lead,
          expr_no_keyword (codes "struct") (λ us. refl) ts l lead,
          expr_no_keyword (codes "enum") (λ us. refl) ts l lead,
          expr_no_keyword (codes "type") (λ us. refl) ts l lead,
          expr_no_keyword (codes "trait") (λ us. refl) ts l lead,
          expr_no_keyword (codes "impl") (λ us. refl) ts l lead,
          expr_no_keyword (codes "fn") (λ us. refl) ts l lead,
          expr_no_keyword (codes "static") (λ us. refl) ts l lead,
          expr_no_keyword (codes "extern") (λ us. refl) ts l lead,
        )
        refl

    braces : is_before_brace ts ≡ false
    braces = elim (cases_Bool (first (opens Brace) (tail ts))) [
      | inl e ↦ rw e (and_none (begins_with before_brace ts))
      | inr e ↦
          let c = false_from_ne_true (first (is_keyword (codes "const")) ts) (λ k. let f = const_opens ts l lead k in absurd (cc)) in
          let u = false_from_ne_true (first (is_keyword (codes "unsafe")) ts) (λ k. let f = p.braced k in absurd (cc)) in
          rw (c, u) refl
    ]

    async : is_async_fn ts ≡ false
    async = elim (cases_Bool (first (is_keyword (codes "async")) ts)) [
      | inl e ↦ rw (p.moved e) (and_none (first (is_keyword (codes "async")) ts))
      | inr e ↦ rw e refl
    ]

    behind_word : named_item ts ≡ true → NoItem (tail ts)
    behind_word h = elim (p.alone h) [
      | inl e ↦ subst NoItem (sym e.1) (behind (not-true (about_expr x).block_like e.0))
      | inr n ↦ n
    ]

    union : begins_union ts ≡ false
    union = elim (cases_Bool (first (is_keyword (codes "union")) ts)) [
      | inl e ↦
          let n = behind_word (or_left (first (is_keyword (codes "union")) ts) (first (is_keyword (codes "macro_rules")) ts) e) in
          rw n.0 (and_none (first (is_keyword (codes "union")) ts))
      | inr e ↦ rw e refl
    ]

    rules : begins_rules ts ≡ false
    rules = elim (cases_Bool (first (is_keyword (codes "macro_rules")) ts)) [
      | inl e ↦
          let n = behind_word (or_right (first (is_keyword (codes "union")) ts) (first (is_keyword (codes "macro_rules")) ts) e) in
          rw e n.1
      | inr e ↦ rw e refl
    ]

-- What stands at the beginning of a statement after its attributes: no attribute, no `;`, and no `}`.
pub record Start (ts : Tokens) : Type 0 where
  pub more : ends_items ts ≡ false
  pub semicolon : first (is_mark (codes ";")) ts ≡ false
  pub outer : begins_attr false ts ≡ false
  pub inner : begins_attr true ts ≡ false

lead_start : (ts : Tokens) (l : ExprLead) → expr_lead_at ts ≡ Some l → Start ts
lead_start ts l h = record {
  more = expr_more ts l h;
  semicolon = expr_no_semicolon ts l h;
  outer = expr_no_attr false ts l h;
  inner = expr_no_attr true ts l h;
}

pub expr_start : (x : Expr) (place : Place) (depth : ℕ) (ts rest : Tokens) → Spells (about_expr x).form depth ts rest
    → placed (about_expr x) place ≡ true → Start ts × (first (is_keyword (codes "let")) ts ≡ false)
expr_start x place depth ts rest s w =
    let l = (about_expr x).lead in
    let lead = (placed_begins x place depth ts rest s w).lead in
    (lead_start ts l lead, expr_no_keyword (codes "let") (λ us. refl) ts l lead)

let_start : (ts rest : Tokens) → IsOne Ident (codes "let") ts rest → Start ts
let_start ts rest o =
    let f = (one_front Ident (codes "let") ts rest o).1 in
    record { more = rw f refl; semicolon = rw f refl; outer = rw f refl; inner = rw f refl }

-- An item begins with a word.
item_start : (ts : Tokens) → begins_item ts ≡ true → Start ts
item_start [] h = absurd (cc)
item_start (t ∷ ts) h = by t.kind h
  where
    by : (k : Kind) → begins_item (record t { kind = k } ∷ ts) ≡ true → Start (record t { kind = k } ∷ ts)
    by Ident e = record { more = refl; semicolon = refl; outer = refl; inner = refl }
    by _ e = absurd (cc)

-- ---- attributes before them

-- at the beginning of a statement: no inner attribute, no `;`, and no `}`; fewer tokens are left
pub record StmtFront (ts rest : Tokens) : Type 0 where
  pub more : ends_items ts ≡ false
  pub semicolon : first (is_mark (codes ";")) ts ≡ false
  pub inner : begins_attr true ts ≡ false
  pub less : length rest < length ts

attr_no_semicolon : (ts : Tokens) → begins_attr false ts ≡ true → first (is_mark (codes ";")) ts ≡ false
attr_no_semicolon ts h = elim (or_cases (first (is_doc false) ts) (first (is_mark (codes "#")) ts) h) [
  | inl d ↦ doc ts d
  | inr m ↦ rw (one_front Punct (codes "#") ts (tail ts) (mark_one (codes "#") ts m)).1 refl
]
  where
    kind : (k : Kind) → is_doc_kind false k ≡ true → is_punct k ≡ false
    kind (Doc inner block) e = refl
    kind _ e = absurd (cc)

    doc : (us : Tokens) → first (is_doc false) us ≡ true → first (is_mark (codes ";")) us ≡ false
    doc [] e = refl
    doc (u ∷ us) e = rw (kind u.kind e) refl

attrs_begin : (attrs : List Attr) (depth : ℕ) (ts mid rest : Tokens) → Rows (GoodAt (about_attr false) depth) attrs ts mid → Start mid
    → length rest < length mid → StmtFront ts rest
attrs_begin [] depth ts mid rest r s less =
    rw r (record { more = s.more; semicolon = s.semicolon; inner = s.inner; less = less })
attrs_begin (a ∷ more) depth ts mid rest r s less =
    let b = outer_begins_item a depth ts r.0 r.1 in
    let f = attrs_front (a ∷ more) depth ts mid r in
    record {
      more = b.0;
      semicolon = attr_no_semicolon ts (attr_begins false a depth ts r.0 r.1);
      inner = b.1;
      less = omega (arith, f.shorter, less);
    }

-- ---- statements, after their attributes

five_good : (a b c d e : Bool) → (a && b && c && d && e) ≡ true → (a ≡ true) × (b ≡ true) × (c ≡ true) × (d ≡ true) × (e ≡ true)
five_good true true true true true h = (h, h, h, h, h)
five_good _ _ _ _ _ h = absurd (cc)

-- what follows `let`
abbrev pub behind_let : Pat → Option Ty → Option Expr → Option Block → Form
behind_let pat ty x o = Part (pat_form Single (about_pat pat))
    (let_type ty (Part (value_form (option_map about_expr x)) (Part (else_form (option_map about_block o)) (piece semicolon))))

pub record LetParts (attrs : List Attr) (pat : Pat) (ty : Option Ty) (x : Option Expr) (o : Option Block) (depth : ℕ) (ts rest : Tokens) : Type 0 where
  pub seen : Tokens
  pub mid : Tokens
  pub attrs_there : Rows (GoodAt (about_attr false) depth) attrs ts seen
  pub word : IsOne Ident (codes "let") seen mid
  pub behind : Spells (behind_let pat ty x o) depth mid rest
  pub start : Start seen
  pub pat_held : pat_good Single (about_pat pat) ≡ true
  pub type_held : may_be_type ty ≡ true
  pub value_held : value_placed (option_map about_expr x) ≡ true
  pub else_held : else_good (option_map about_expr x) (option_map about_block o) ≡ true

pub let_parts : (attrs : List Attr) (pat : Pat) (ty : Option Ty) (x : Option Expr) (o : Option Block) (depth : ℕ) (ts rest : Tokens)
    → Spells (about_stmt (stmt.Let attrs pat ty x o)).form depth ts rest → (about_stmt (stmt.Let attrs pat ty x o)).good ≡ true
    → LetParts attrs pat ty x o depth ts rest
let_parts attrs pat ty x o depth ts rest s g =
    let is = stmt_let_is attrs pat ty x o in
    let value = option_map about_expr x in
    let otherwise = option_map about_block o in
    let good = five_good (are_attrs false attrs) (pat_good Single (about_pat pat)) (may_be_type ty) (value_placed value) (else_good value otherwise)
    (sym (ap (λ (G : StmtFacts). G.good) is) ∙ g) in
    let b = behind_attrs_rows (map attr_form attrs) (Piece (keyword (codes "let") ∷ Blank ∷ []) (behind_let pat ty x o)) depth ts rest
    (subst (λ (G : StmtFacts). Spells G.form depth ts rest) is s) in
    let u = b.2 in
    let w = before_blank (keyword (codes "let")) b.0 u.0 u.1 in
    record {
      seen = b.0;
      mid = u.0;
      attrs_there = attrs_rows false depth attrs ts b.0 b.1 good.0;
      word = w;
      behind = u.2;
      start = let_start b.0 u.0 w;
      pat_held = good.1;
      type_held = good.2;
      value_held = good.3;
      else_held = good.4;
    }

-- an expression and its `;`
pub record ExprParts (attrs : List Attr) (x : Expr) (ended : Bool) (depth : ℕ) (ts rest : Tokens) : Type 0 where
  pub seen : Tokens
  pub mid : Tokens
  pub attrs_there : Rows (GoodAt (about_attr false) depth) attrs ts seen
  pub spelled : Spells (about_expr x).form depth seen mid
  pub placed_there : placed (about_expr x) statement ≡ true
  pub last : Spells (ended_form ended) depth mid rest
  pub start : Start seen
  pub other : first (is_keyword (codes "let")) seen ≡ false
  pub item : begins_item seen ≡ false

pub expr_parts : (attrs : List Attr) (x : Expr) (ended : Bool) (depth : ℕ) (ts rest : Tokens)
    → Spells (about_stmt (stmt.Expr attrs x ended)).form depth ts rest → (about_stmt (stmt.Expr attrs x ended)).good ≡ true
    → ((about_stmt (stmt.Expr attrs x ended)).ends ≡ false → NoItem rest) → ExprParts attrs x ended depth ts rest
expr_parts attrs x ended depth ts rest s g ends =
    let is = stmt_expr_is attrs x ended in
    let F = about_expr x in
    let spelled = subst (λ (G : StmtFacts). Spells G.form depth ts rest) is s in
    let good = and_parts (are_attrs false attrs) (placed F statement) (sym (ap (λ (G : StmtFacts). G.good) is) ∙ g) in
    let b = behind_attrs_rows (map attr_form attrs) (Part F.form (ended_form ended)) depth ts rest spelled in
    let t = b.2 in
    let start = expr_start x statement depth b.0 t.0 t.1 good.1 in
    record {
      seen = b.0;
      mid = t.0;
      attrs_there = attrs_rows false depth attrs ts b.0 b.1 good.0;
      spelled = t.1;
      placed_there = good.1;
      last = t.2;
      start = start.0;
      other = start.1;
      item = expr_no_item x statement depth b.0 t.0 t.1 good.1 (λ n. by ended t.0 t.2 (λ e. ends (ap (λ (G : StmtFacts). G.ends) is ∙ rw (e, n) refl)));
    }
  where
    by : (b : Bool) (mid : Tokens) → Spells (ended_form b) depth mid rest → (b ≡ false → NoItem rest) → NoItem mid
    by true mid t n = semicolon_no_item mid rest (piece_bit (Fixed Punct (codes ";")) depth mid rest t)
    by false mid t n = subst NoItem (sym t) (n refl)

-- ---- the beginning of any statement

pub stmt_front : (s : Stmt) (depth : ℕ) (ts rest : Tokens) → Spells (about_stmt s).form depth ts rest → (about_stmt s).good ≡ true
    → StmtFront ts rest
stmt_front s depth ts rest t g = by s (stmt_view s) t g
  where
    none_left : Tokens
    none_left = []

    of_item : (depth : ℕ) (i : Item) → GoodAt (about_item Module) depth i ts rest → (told_of_item i).call ≡ false → StmtFront ts rest
    of_item zero i h n = absurd (item_none Module i ts rest h.0)
    of_item (suc d) i h n =
        let b = item_begun i d ts rest h n in
        let k = item_begins Module (suc d) i ts rest h in
        let start = item_start b.seen b.begins in
        let f = attrs_begin i.attrs d ts b.seen none_left b.attrs start (there b.seen start.more) in
        record { more = f.more; semicolon = f.semicolon; inner = f.inner; less = k.1 }
      where
        there : (us : Tokens) → ends_items us ≡ false → length none_left < length us
        there [] e = absurd (cc)
        there (u ∷ us) e = omega arith

    by : (s : Stmt) → StmtView s → Spells (about_stmt s).form depth ts rest → (about_stmt s).good ≡ true → StmtFront ts rest
    by _ (IsLet attrs pat ty x o) t g =
        let p = let_parts attrs pat ty x o depth ts rest t g in
        let less = shorter (behind_let pat ty x o) depth p.mid rest p.behind in
        attrs_begin attrs depth ts p.seen rest p.attrs_there p.start (omega (arith, one_shorter Ident (codes "let") p.seen p.mid p.word, less))
    by _ (IsItem i) t g =
        let is = stmt_item_is i in
        let good = and_parts ((told_of_item i).good Module) (not (told_of_item i).call) (sym (ap (λ (G : StmtFacts). G.good) is) ∙ g) in
        of_item depth i (subst (λ (G : StmtFacts). Spells G.form depth ts rest) is t, good.0) (not-true (told_of_item i).call good.1)
    by _ (IsExpr attrs x ended) t g =
        let is = stmt_expr_is attrs x ended in
        let F = about_expr x in
        let spelled = subst (λ (G : StmtFacts). Spells G.form depth ts rest) is t in
        let good = and_parts (are_attrs false attrs) (placed F statement) (sym (ap (λ (G : StmtFacts). G.good) is) ∙ g) in
        let b = behind_attrs_rows (map attr_form attrs) (Part F.form (ended_form ended)) depth ts rest spelled in
        let u = b.2 in
        let start = (expr_start x statement depth b.0 u.0 u.1 good.1).0 in
        let e = (placed_begins x statement depth b.0 u.0 u.1 good.1).less in
        let less = shorter (ended_form ended) depth u.0 rest u.2 in
        attrs_begin attrs depth ts b.0 rest (attrs_rows false depth attrs ts b.0 b.1 good.0) start (omega (arith, e, less))
