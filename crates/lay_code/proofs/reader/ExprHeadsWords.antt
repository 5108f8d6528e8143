-- Literals, paths, macro calls, `_` and `continue` are parsed where they are spelled.
use Rattle.std.proofs.Common.{◌≡◌, ℕ, suc, Bool, true, false, not, ◌&&◌, codes, Option, Some, None, is_some, refl, sym, subst, arith}
use Rattle.std.proofs.lemmas.Bool.{and_parts, not-true}
use Rattle.lay_piece.specs.declared.kind.Delim.TheVariants.{Brace}
use Rattle.lay_piece.specs.declared.kind.Kind.TheVariants as kind
use Rattle.lay_token.specs.Operators.{is_op}
use Rattle.lay_form.specs.Form.{Fixed, Form, Done, keyword}
use Rattle.lay_form.specs.Spelled.{IsOne, Spells}
use Rattle.lay_node.specs.Ahead.{Tokens, first, is_lifetime, opens}
use Rattle.lay_node.specs.Begins.{is_literal_token}
use Rattle.lay_node.specs.Follow.{may_follow}
use Rattle.lay_node.specs.nodes.Types.{PathFacts, about_path}
use Rattle.lay_node.specs.reader.Types.{if_there, lifetime}
use Rattle.lay_node.specs.declared.token.Lifetime.{Lifetime}
use Rattle.lay_node.specs.declared.token.Literal.{Literal}
use Rattle.lay_node.specs.declared.tokens.MacroCall.{MacroCall}
use Rattle.lay_node.specs.declared.types.Path.{Path}
use Rattle.lay_node.specs.declared.types.PathStyle.TheVariants.{Code}
use Rattle.lay_node.proofs.Parts.{bit_alone, piece_bit}
use Rattle.lay_node.proofs.nodes.TypesLaws.{path_is}
use Rattle.lay_node.proofs.reader.Call.{call_complete}
use Rattle.lay_node.proofs.reader.Exact.{IsRead}
use Rattle.lay_node.proofs.reader.TypesCalls.{path_no_call, call_there}
use Rattle.lay_node.proofs.reader.TypesCompleteParts.{one_alone, one_left, blank_left, lifetime_complete, lifetime_alone, literal_complete}
use Rattle.lay_node.proofs.reader.TypesCompletePaths.{path_read}
use Rattle.lay_node.proofs.reader.TypesFronts.{follows_clear}
use Rattle.lay_code.specs.Operands.{ByPath}
use Rattle.lay_code.specs.nodes.Exprs.{ExprLayer, inside, label_form, tail_of}
use Rattle.lay_code.specs.reader.Exprs.{path_expr, continue_expr, head_by}
use Rattle.lay_code.specs.reader.Within.{ExprWithin}
use Rattle.lay_code.specs.declared.blocks.Stmt.TheOpen.{Expr-F}
use Rattle.lay_code.specs.declared.exprs.Expr.TheVariants as expr
use Rattle.lay_code.proofs.nodes.ExprsLaws.{expr_lit_is, expr_path_is, expr_underscore_is, expr_call_is, expr_continue_is}
use Rattle.lay_code.proofs.reader.BodilessKinds.{continue_bare}
use Rattle.lay_code.proofs.reader.BodilessTypes.{path_bare}
use Rattle.lay_code.proofs.reader.ExprHeads.{IsHead, head_of}
use Rattle.lay_code.proofs.reader.ExprQuiet.{tail_fits}
use Rattle.lay_code.proofs.reader.Followed.{bodiless_tail}
use Rattle.lay_code.proofs.reader.ExprReads.{ExprReads}

-- ---- a label that may be there

-- It is read, and what follows it is spelled.
pub label_read : (label : Option Lifetime) (f : Form) (depth : ℕ) (ts rest : Tokens) → Spells (label_form label f) depth ts rest
    → (label ≡ None → first is_lifetime ts ≡ false)
    → (mid : Tokens) × (if_there (first is_lifetime ts) lifetime ts ≡ Some (label, mid)) × Spells f depth mid rest
label_read None f depth ts rest s none = (ts, rw (none refl) refl, s)
label_read (Some l) f depth ts rest s none =
    let part = s.2 in
    let o = lifetime_complete l s.0 part.0 (lifetime_alone l depth s.0 part.0 part.1) in
    let read : if_there (first is_lifetime s.0) lifetime s.0 ≡ Some (Some l, part.0) = rw (o.1, o.0) refl in
    (part.0, subst (λ us. if_there (first is_lifetime us) lifetime us ≡ Some (Some l, part.0)) (sym (blank_left ts s.0 s.1)) read, part.2)

module _ (depth : ℕ) (within : ExprWithin) (reads : ExprReads depth within) where
  -- a literal
  pub lit_head : (l : Literal) → IsHead depth within (expr.Lit l)
  lit_head l = head_of depth within (expr.Lit l) (Expr-F.Lit l) (expr_lit_is l) (λ no_struct first_flag ts rest h.
      let o = one_alone l.kind l.text ts h.spelled.0 rest h.spelled.1 h.spelled.2 in
      let r = literal_complete is_literal_token l ts rest (λ t. h.inside) o in
      (1, omega arith, rw r.0 refl))

  -- `_`
  pub underscore_head : IsHead depth within expr.Underscore
  underscore_head = head_of depth within expr.Underscore Expr-F.Underscore expr_underscore_is (λ no_struct first_flag ts rest h.
      let o : IsOne kind.Underscore (codes "_") ts rest = piece_bit (Fixed kind.Underscore (codes "_")) depth ts rest h.spelled in
      (1, omega arith, rw (one_left kind.Underscore (codes "_") ts rest o) refl))

  -- a macro call
  pub call_head : (c : MacroCall) → IsHead depth within (expr.Call c)
  call_head c = head_of depth within (expr.Call c) (Expr-F.Expr::Call c) (expr_call_is c) (λ no_struct first_flag ts rest h.
      let there = call_there c depth ts rest h.spelled h.inside in
      let r = call_complete c depth ts rest (h.spelled, h.inside, refl) in
      (1, omega arith, rw (there, r.read) refl))

  -- ---- paths

  -- A path is read where neither a `!` nor the `{` of a struct literal follows it.
  path_there : (p : Path) (no_struct : Bool) (ts rest : Tokens) → Spells (about_path p Code).form depth ts rest
      → (about_path p Code).good ≡ true
      → may_follow (about_path p Code).refuses rest ≡ true → is_op (codes "!") rest ≡ false
      → (not no_struct && first (opens Brace) rest) ≡ false
      → IsRead (suc depth) (head_by within no_struct (Some ByPath)) (expr.Path p) ts rest
  unfolding path_expr
  path_there p no_struct ts rest s g f bang brace =
      let k = subst (λ (F : PathFacts). may_follow (F Code).refuses rest ≡ true) (path_is p) f in
      let colons = not-true (is_op (codes "::") rest) (and_parts (not (is_op (codes "::") rest)) _ k).0 in
      let no_call = path_no_call Code p depth ts rest s g colons bang in
      let r = path_read depth within.kinds reads.kinds Code p ts rest s g (follows_clear (about_path p Code).refuses rest f) in
      (suc r.0, omega (arith, r.1), rw (no_call, r.2, brace, bang) refl)

  -- a path
  pub path_head : (p : Path) → IsHead depth within (expr.Path p)
  path_head p = head_of depth within (expr.Path p) (Expr-F.Path p) (expr_path_is p) (λ no_struct first_flag ts rest h.
      let layer : ExprLayer = Expr-F.Path p in
      let fits = tail_fits (tail_of layer) no_struct rest
      (bodiless_tail (tail_of layer) (inside layer) no_struct depth ts rest (path_bare Code p) h.tail) in
      let refuses = and_parts (not (is_op (codes "!") rest)) (may_follow (about_path p Code).refuses rest) fits.refuses in
      path_there p no_struct ts rest h.spelled h.inside refuses.1 (not-true (is_op (codes "!") rest) refuses.0)
      (not-true (not no_struct && first (opens Brace) rest) fits.path))

  -- ---- `continue`

  -- `continue`, with a label or without one
  pub continue_head : (label : Option Lifetime) → IsHead depth within (expr.Continue label)
  unfolding continue_expr
  continue_head label = head_of depth within (expr.Continue label) (Expr-F.Continue label) (expr_continue_is label)
      (λ no_struct first_flag ts rest h.
      let layer : ExprLayer = Expr-F.Continue label in
      let fits = tail_fits (tail_of layer) no_struct rest
      (bodiless_tail (tail_of layer) (inside layer) no_struct depth ts rest (continue_bare label) h.tail) in
      let s = h.spelled in
      let left = one_left kind.Ident (codes "continue") ts s.0 (bit_alone (keyword (codes "continue")) ts s.0 s.1) in
      let r = label_read label Done depth s.0 rest s.2 (λ e. bare label s.0 rest e s.2 fits.label) in
      (1, omega arith, rw (left, r.1, r.2) refl))
    where
      bare : (label : Option Lifetime) (mid rest : Tokens) → label ≡ None → Spells (label_form label Done) depth mid rest
          → not (not (is_some label) && first is_lifetime rest) ≡ true → first is_lifetime mid ≡ false
      bare None mid rest e s h = rw s (not-true (first is_lifetime rest) h)
      bare (Some l) mid rest e s h = absurd (cc)
