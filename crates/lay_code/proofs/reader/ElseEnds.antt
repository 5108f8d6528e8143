-- An expression that ends in branches without an `else` ends in a `}`. So an `else` may follow what doesn't end so.
use Rattle.std.proofs.Common.{◌≡◌, ℕ, zero, suc, ◌-◌, arith, Bool, true, false, not, ◌&&◌, List, [], ◌∷◌, ◌++◌, map, codes, Option, option_map, Some, None, if◌then◌else◌, refl, sym, subst, ◌∙◌}
use Rattle.std.specs.Prelude.{◌==◌}
use Rattle.std.specs.List.{list_all}
use Rattle.std.proofs.lemmas.Bool.{and_parts, false_from_ne_true, not-true}
use Rattle.lay_piece.specs.declared.kind.Kind.TheVariants.{Ident}
use Rattle.lay_form.specs.Form.{Blank, Bare, Body, Braces, Form, Done, Marked, Nothing, Piece, Part, Unseen}
use Rattle.lay_form.specs.Notation.{body, soft}
use Rattle.lay_form.specs.Spelled.{IsOne, Spells, cost}
use Rattle.lay_form.proofs.FormLaws.{deeper}
use Rattle.lay_node.specs.Ahead.{Tokens}
use Rattle.lay_node.specs.Follow.{OfColons}
use Rattle.lay_node.specs.nodes.Attr.{attr_form}
use Rattle.lay_node.specs.nodes.Fields.{blank_if}
use Rattle.lay_node.specs.nodes.Patterns.{dots}
use Rattle.lay_node.specs.nodes.Types.{is_there}
use Rattle.lay_node.specs.declared.attr.Attr.{Attr}
use Rattle.lay_node.specs.declared.token.Lifetime.{Lifetime}
use Rattle.lay_node.proofs.Parts.{part_alone}
use Rattle.lay_code.specs.Operators.{op_level}
use Rattle.lay_code.specs.nodes.Blocks.{attrs_before, block_form, dropped_if, is_plain, precedes_else, soft_form, stmt_form}
use Rattle.lay_code.specs.nodes.Code.{about_arm, about_block, about_branch, about_condition, about_expr, about_field_expr, about_step, about_stmt}
use Rattle.lay_code.specs.nodes.Bodies.{sheds}
use Rattle.lay_code.specs.nodes.CodeFacts.{BlockFacts, BranchFacts, StmtFacts}
use Rattle.lay_code.specs.nodes.Ends.{brace_bits, brace_behind, ends_in_brace}
use Rattle.lay_code.specs.nodes.Exprs.{ExprFacts, ExprLayer, StepFacts, body_braces, branches_form, closure_body, closure_head, end_form, end_placed, expr_facts, inside, is_chain_level, is_field, label_form, level_of_chain, may_chain, more_branches, next_is_angle, operand_form, operand_place, operand_placed, operands_form, operands_placed, placed, prefix_bits, prefixes_form, shut, shut_by, follows, start_placed, tail_of, tail_of_operands, tail_of_steps, targets_form, targets_placed, within_of, is_closure_param, break_placed, is_prefix_lead}
use Rattle.lay_code.specs.nodes.Places.{FREE, begins, before_op, plain}
use Rattle.lay_code.specs.declared.blocks.Block.{Block}
use Rattle.lay_code.specs.declared.blocks.Branch.{Branch}
use Rattle.lay_code.specs.declared.blocks.Stmt.TheOpen.{Expr-F}
use Rattle.lay_code.specs.declared.exprs.ClosureParam.{ClosureParam}
use Rattle.lay_code.specs.declared.exprs.Expr.{Expr}
use Rattle.lay_code.specs.declared.exprs.Expr.TheVariants as expr
use Rattle.lay_code.specs.declared.exprs.Place.{Place}
use Rattle.lay_code.specs.declared.operators.Op.{Op}
use Rattle.lay_code.specs.declared.operators.Prefix.{Prefix}
use Rattle.lay_code.proofs.nodes.BlocksLaws.{block_is, branch_is}
use Rattle.lay_code.proofs.nodes.ExprsLaws.{ExprView, IsLit, IsPath, IsUnderscore, IsCall, IsParen, IsContinue, IsTuple, IsArray, IsRepeat, IsStruct, IsChain, IsCast, IsUnary, IsRange, IsAssign, IsPostfix, IsBlock, IsUnsafe, IsConstBlock, IsAsync, IsIf, IsMatch, IsLoop, IsWhile, IsFor, IsClosure, IsTypedClosure, IsReturn, IsBreak, expr_view, behind_op, before_op as target_of, expr_lit_is, expr_path_is, expr_underscore_is, expr_call_is, expr_paren_is, expr_continue_is, expr_tuple_is, expr_array_is, expr_repeat_is, expr_struct_is, expr_chain_is, expr_cast_is, expr_unary_is, expr_range_is, expr_assign_is, expr_postfix_is, expr_block_is, expr_unsafe_is, expr_const_block_is, expr_async_is, expr_if_is, expr_match_is, expr_loop_is, expr_while_is, expr_for_is, expr_closure_is, expr_typed_closure_is, expr_return_is, expr_break_is}
use Rattle.lay_code.proofs.reader.BlockEnds.{else_follows}
use Rattle.lay_code.proofs.reader.ExprFronts.{no_depth}
use Rattle.lay_code.proofs.reader.ExprSoundLevel.{within_held}

-- A form ends in a `}`, whatever stands before it.
abbrev pub EndsInBrace : Form → Type 0
EndsInBrace f = (before : Bool) → brace_behind before f ≡ true

-- ---- blocks end in a `}`

body_ends : (lead skips : Bool) (fs : List Form) → EndsInBrace (body (blank_if lead) (dropped_if skips) fs)
body_ends true true [] before = refl
body_ends true false [] before = refl
body_ends false true [] before = refl
body_ends false false [] before = refl
body_ends lead skips (f ∷ fs) before = refl

block_form_ends : (attrs : List Attr) (stmts : List StmtFacts) (lead : Bool) → EndsInBrace (block_form attrs stmts lead)
block_form_ends attrs stmts lead = body_ends lead (is_plain attrs) (attrs_before (map attr_form attrs) ++ map stmt_form stmts)

soft_form_ends : (attrs : List Attr) (stmts : List StmtFacts) → EndsInBrace (soft_form attrs stmts)
soft_form_ends [] [] = block_form_ends [] [] true
soft_form_ends [] (s ∷ []) = by s.bare
  where
    by : (b : Bool) → EndsInBrace (if b then soft s.form else block_form [] (s ∷ []) true)
    by true before = refl
    by false before = block_form_ends [] (s ∷ []) true before
soft_form_ends [] (s ∷ t ∷ more) = block_form_ends [] (s ∷ t ∷ more) true
soft_form_ends (a ∷ others) stmts = block_form_ends (a ∷ others) stmts true

pub soft_ends : (b : Block) → EndsInBrace (about_block b).soft
soft_ends b = subst (λ (F : BlockFacts). EndsInBrace F.soft) (sym (block_is b)) (soft_form_ends b.attrs (map about_stmt b.stmts))

branch_soft : (b : Branch) → EndsInBrace (about_branch b).soft
branch_soft b = subst (λ (F : BranchFacts). EndsInBrace F.soft) (sym (branch_is b)) (soft_ends b.body)

-- further branches, after what ends so
more_end : (bs : List Branch) (before : Bool) → before ≡ true → brace_behind before (more_branches (map about_branch bs) Done) ≡ true
more_end [] before h = h
more_end (b ∷ bs) before h = more_end bs (brace_behind _ (about_branch b).soft) (branch_soft b _)

branches_end : (b : Branch) (bs : List Branch) → EndsInBrace (branches_form (map about_branch (b ∷ bs)) Done)
branches_end b bs before = more_end bs (brace_behind _ (about_branch b).soft) (branch_soft b _)

-- ---- forms that end in another

prefixes_end : (ps : List Prefix) (f : Form) → EndsInBrace f → EndsInBrace (prefixes_form ps f)
prefixes_end [] f e before = e before
prefixes_end (p ∷ ps) f e before = prefixes_end ps f e (brace_bits before (prefix_bits p))

targets_end : (ts : List (ExprFacts × Op)) (f : Form) → EndsInBrace f → EndsInBrace (targets_form ts f)
targets_end [] f e before = e before
targets_end (x ∷ more) f e before = targets_end more f e _

start_end : (a : Option ExprFacts) (f : Form) → EndsInBrace f → EndsInBrace (end_form a f)
start_end None f e before = e before
start_end (Some x) f e before = e (brace_behind before x.form)

-- the body of a closure, within braces that aren't in the tree or not
inner_there : (b : Braces) (x : Form) (depth : ℕ) (ts rest : Tokens) → Spells (Body b Nothing x Done) depth ts rest → (at end : Tokens) × Spells x depth at end
inner_there b x depth ts rest s =
    let braced = s.3.1 in
    let within = braced.2 in
    (braced.0, within.0, deeper x (depth - cost s.0) depth braced.0 within.0 (omega (arith)) within.1)

body_there : (b : Braces) (x : Form) (depth : ℕ) (ts rest : Tokens) → Spells (closure_body b x) depth ts rest → (at end : Tokens) × Spells x depth at end
body_there Marked x depth ts rest s = inner_there Marked x depth ts rest s
body_there Bare x depth ts rest s = inner_there Bare x depth ts rest s
body_there Unseen x depth ts rest s = inner_there Unseen x depth ts rest s

closure_body_ends : (b : Braces) (x : Form) → EndsInBrace x → EndsInBrace (closure_body b x)
closure_body_ends Marked x e before = e before
closure_body_ends Bare x e before = e before
closure_body_ends Unseen x e before = e before

-- ---- all kinds

-- branches without an `else` end it
abbrev Branched : ExprFacts → Type 0
Branched F = F.tail.lacks_else ≡ true → EndsInBrace F.form

abbrev AllBranched : ℕ → Type 0
AllBranched depth = (x : Expr) (no_struct begun : Bool) (ts rest : Tokens) → Spells (about_expr x).form depth ts rest
    → (about_expr x).within no_struct begun ≡ true → Branched (about_expr x)

steps_shut : (ss : List StepFacts) → (tail_of_steps ss).lacks_else ≡ false
steps_shut [] = refl
steps_shut (s ∷ []) = by (is_field s.kind)
  where
    by : (b : Bool) → (if b then shut_by (OfColons ∷ []) else shut).lacks_else ≡ false
    by true = refl
    by false = refl
steps_shut (s ∷ t ∷ more) = steps_shut (t ∷ more)

module _ (depth : ℕ) (ih : AllBranched depth) (no_struct begun : Bool) (ts rest : Tokens) where
  -- an expression with these facts, one level less deep
  abbrev Ends : ExprFacts → Type 0
  Ends F = Spells F.form (suc depth) ts rest → F.within no_struct begun ≡ true → Branched F

  told : (x : Expr) (F : ExprLayer) → about_expr x ≡ expr_facts F
      → (Spells (inside F) depth ts rest → within_of F no_struct begun ≡ true → (tail_of F).lacks_else ≡ true → EndsInBrace (inside F)) → Ends (about_expr x)
  told x F e f = subst Ends (sym e) (λ s w l before. f (subst (λ us. Spells (inside F) depth ts us) s.2 s.1) w l before)

  -- one that ends in none
  none : (x : Expr) (F : ExprLayer) → about_expr x ≡ expr_facts F → (tail_of F).lacks_else ≡ false → Ends (about_expr x)
  none x F e n = told x F e (λ s w l. let f = sym n ∙ l in absurd (cc))

  -- another one, at a place
  last : (x : Expr) (place : Place) (us end : Tokens) → Spells (about_expr x).form depth us end → placed (about_expr x) place ≡ true
      → (about_expr x).tail.lacks_else ≡ true → EndsInBrace (about_expr x).form
  last x place us end s w l = ih x place.no_struct (begins place.start) us end s (within_held (about_expr x) place w) l

  operands_end : (level : ℕ) (os : List (Op × Expr)) (us : Tokens) → Spells (operands_form (map behind_op os)) depth us rest
      → operands_placed level no_struct (map behind_op os) ≡ true → (tail_of_operands (map behind_op os)).lacks_else ≡ true
      → EndsInBrace (operands_form (map behind_op os))
  operands_end level [] us s w l before = absurd (cc)
  operands_end level (x ∷ []) us s w l before =
      let place = plain (suc level) no_struct in
      let p = and_parts ((op_level x.0 == level) && placed (about_expr x.1) place) true w in
      let q = and_parts (op_level x.0 == level) (placed (about_expr x.1) place) p.0 in
      let t = s.2 in
      let u = t.2 in
      last x.1 place t.0 u.0 u.1 q.1 l _
  operands_end level (x ∷ y ∷ more) us s w l before =
      let place = operand_place level no_struct (map behind_op (y ∷ more)) in
      let p = and_parts ((op_level x.0 == level) && placed (about_expr x.1) place) (operands_placed level no_struct (map behind_op (y ∷ more))) w in
      let t = s.2 in
      let u = t.2 in
      operands_end level (y ∷ more) u.0 u.2 p.1 l (brace_behind false (about_expr x.1).form)

  chain_ends : (x : Expr) (os : List (Op × Expr)) → Ends (about_expr (expr.Chain x os))
  chain_ends x os = told (expr.Chain x os) (Expr-F.Chain (about_expr x) (map behind_op os)) (expr_chain_is x os) (λ s w l before.
      let fs = map behind_op os in
      let level = level_of_chain fs in
      let place = before_op (suc level) no_struct begun (next_is_angle fs) in
      let p = and_parts (is_chain_level level && may_chain level fs && placed (about_expr x) place) (operands_placed level no_struct fs) w in
      let t : Spells (Part (about_expr x).form (operands_form fs)) depth ts rest =
      subst (λ us. Spells (Part (about_expr x).form (operands_form fs)) depth ts us) s.2 s.1 in
      operands_end level os t.0 t.2 p.1 l (brace_behind before (about_expr x).form))

  behind_prefixes : (ps : List Prefix) (f : Form) (us : Tokens) → Spells (prefixes_form ps (Part f Done)) depth us rest → (at : Tokens) × Spells f depth at rest
  behind_prefixes [] f us s = (us, part_alone f depth us rest s)
  behind_prefixes (p ∷ ps) f us s = behind_prefixes ps f s.0 s.2

  unary_ends : (ps : List Prefix) (x : Expr) → Ends (about_expr (expr.Unary ps x))
  unary_ends ps x = told (expr.Unary ps x) (Expr-F.Unary ps (about_expr x)) (expr_unary_is ps x) (λ s w l.
      let F = about_expr x in
      let u = behind_prefixes ps F.form ts s in
      let w2 = and_parts (is_there ps && placed F (plain 12 no_struct)) (not (is_prefix_lead F.lead)) w in
      let w1 = and_parts (is_there ps) (placed F (plain 12 no_struct)) w2.0 in
      prefixes_end ps (Part F.form Done) (last x (plain 12 no_struct) u.0 rest u.1 w1.1 l))

  behind_start : (a : Option ExprFacts) (f : Form) (us : Tokens) → Spells (end_form a f) depth us rest → (at : Tokens) × Spells f depth at rest
  behind_start None f us s = (us, s)
  behind_start (Some x) f us s = (s.0, s.2)

  range_ends : (a : Option Expr) (inclusive : Bool) (x : Option Expr) → Ends (about_expr (expr.Range a inclusive x))
  range_ends a inclusive None =
      none (expr.Range a inclusive None) (Expr-F.Range (option_map about_expr a) inclusive None) (expr_range_is a inclusive None) refl
  range_ends a inclusive (Some x) =
      told (expr.Range a inclusive (Some x)) (Expr-F.Range (option_map about_expr a) inclusive (Some (about_expr x))) (expr_range_is a inclusive (Some x))
      (λ s w l.
      let F = about_expr x in
      let f : Form = Part F.form Done in
      let t = behind_start (option_map about_expr a) (Piece (dots inclusive) f) ts s in
      let u = t.1 in
      let w2 = and_parts (start_placed (option_map about_expr a) no_struct begun) (end_placed (Some F) inclusive no_struct) w in
      let w1 = and_parts (placed F (plain 2 no_struct)) _ w2.1 in
      let e = last x (plain 2 no_struct) u.0 rest (part_alone F.form depth u.0 rest u.2) w1.0 l in
      start_end (option_map about_expr a) (Piece (dots inclusive) f) (λ before. e _))

  behind_targets : (bs : List (ExprFacts × Op)) (f : Form) (us : Tokens) → Spells (targets_form bs f) depth us rest → (at : Tokens) × Spells f depth at rest
  behind_targets [] f us s = (us, s)
  behind_targets (x ∷ more) f us s =
      let a = s.2 in let b = a.2 in let c = b.2 in behind_targets more f c.0 c.2

  assign_ends : (bs : List (Expr × Op)) (x : Expr) → Ends (about_expr (expr.Assign bs x))
  assign_ends bs x = told (expr.Assign bs x) (Expr-F.Assign (map target_of bs) (about_expr x)) (expr_assign_is bs x) (λ s w l.
      let F = about_expr x in
      let t = behind_targets (map target_of bs) (Part F.form Done) ts s in
      let w2 = and_parts (is_there (map target_of bs) && targets_placed (map target_of bs) no_struct begun) (placed F (plain 1 no_struct)) w in
      targets_end (map target_of bs) (Part F.form Done)
      (last x (plain 1 no_struct) t.0 rest (part_alone F.form depth t.0 rest t.1) w2.1 l))

  return_ends : (x : Option Expr) → Ends (about_expr (expr.Return x))
  return_ends None = none (expr.Return None) (Expr-F.Return None) (expr_return_is None) refl
  return_ends (Some x) = told (expr.Return (Some x)) (Expr-F.Return (Some (about_expr x))) (expr_return_is (Some x)) (λ s w l before.
      let F = about_expr x in
      let t = s.2 in
      let u = t.2 in
      let w1 = and_parts (placed F (plain 0 no_struct)) _ w in
      last x (plain 0 no_struct) t.0 rest (part_alone F.form depth t.0 rest u) w1.0 l _)

  behind_label : (label : Option Lifetime) (f : Form) (us : Tokens) → Spells (label_form label f) depth us rest → (at : Tokens) × Spells f depth at rest
  behind_label None f us s = (us, s)
  behind_label (Some l) f us s = let t = s.2 in (t.0, t.2)

  label_ends : (label : Option Lifetime) (f : Form) → EndsInBrace f → EndsInBrace (label_form label f)
  label_ends None f e before = e before
  label_ends (Some l) f e before = e _

  break_ends : (label : Option Lifetime) (x : Option Expr) → Ends (about_expr (expr.Break label x))
  break_ends label None = none (expr.Break label None) (Expr-F.Break label None) (expr_break_is label None) refl
  break_ends label (Some x) =
      told (expr.Break label (Some x)) (Expr-F.Break label (Some (about_expr x))) (expr_break_is label (Some x)) (λ s w l before.
      let F = about_expr x in
      let t = behind_label label (operand_form (Some F)) s.0 s.2 in
      let u = t.1 in
      let w2 = and_parts (operand_placed (Some F) no_struct) (break_placed label (Some F)) w in
      let w1 = and_parts (placed F (plain 0 no_struct)) _ w2.0 in
      let e = last x (plain 0 no_struct) u.0 rest (part_alone F.form depth u.0 rest u.2) w1.0 l in
      label_ends label (operand_form (Some F)) (λ b. e _) _)

  behind_head : (is_async moves : Bool) (params : List ClosureParam) (f : Form) → Spells (closure_head is_async moves params f) depth ts rest
      → (at : Tokens) × Spells f depth at rest
  behind_head true true params f s = let t = s.2.2 in (t.0, t.2)
  behind_head true false params f s = let t = s.2 in (t.0, t.2)
  behind_head false true params f s = let t = s.2 in (t.0, t.2)
  behind_head false false params f s = (s.0, s.2)

  head_ends : (is_async moves : Bool) (params : List ClosureParam) (f : Form) → EndsInBrace f → EndsInBrace (closure_head is_async moves params f)
  head_ends true true params f e before = e _
  head_ends true false params f e before = e _
  head_ends false true params f e before = e _
  head_ends false false params f e before = e _

  closure_ends : (is_async moves : Bool) (params : List ClosureParam) (x : Expr) → Ends (about_expr (expr.Closure is_async moves params x))
  closure_ends is_async moves params x =
      told (expr.Closure is_async moves params x) (Expr-F.Closure is_async moves params (about_expr x)) (expr_closure_is is_async moves params x) (λ s w l.
      let F = about_expr x in
      let braces = body_braces F in
      let f : Form = Piece (Blank ∷ []) (closure_body braces F.form) in
      let t = behind_head is_async moves params f s in
      let u = t.1 in
      let w2 = and_parts (list_all is_closure_param params && placed F (plain 0 no_struct)) (not (sheds F.kind no_struct)) w in
      let w1 = and_parts (list_all is_closure_param params) (placed F (plain 0 no_struct)) w2.0 in
      let b = body_there braces F.form depth u.0 rest u.2 in
      let e = closure_body_ends braces F.form (last x (plain 0 no_struct) b.0 b.1 b.2 w1.1 l) in
      head_ends is_async moves params f (λ before. e _))

  if_ends : (bs : List Branch) (o : Option Block) → Ends (about_expr (expr.If bs o))
  if_ends bs (Some b) = none (expr.If bs (Some b)) (Expr-F.If (map about_branch bs) (Some (about_block b))) (expr_if_is bs (Some b)) refl
  if_ends [] None = told (expr.If [] None) (Expr-F.If [] None) (expr_if_is [] None) (λ s w. absurd (cc))
  if_ends (b ∷ bs) None = told (expr.If (b ∷ bs) None) (Expr-F.If (map about_branch (b ∷ bs)) None) (expr_if_is (b ∷ bs) None)
      (λ s w l. branches_end b bs)

  ends_view : (x : Expr) → ExprView x → Ends (about_expr x)
  ends_view _ (IsLit l) = none (expr.Lit l) (Expr-F.Lit l) (expr_lit_is l) refl
  ends_view _ (IsPath p) = none (expr.Path p) (Expr-F.Path p) (expr_path_is p) refl
  ends_view _ IsUnderscore = none expr.Underscore Expr-F.Underscore expr_underscore_is refl
  ends_view _ (IsCall c) = none (expr.Call c) (Expr-F.Expr::Call c) (expr_call_is c) refl
  ends_view _ (IsParen x) = none (expr.Paren x) (Expr-F.Paren (about_expr x)) (expr_paren_is x) refl
  ends_view _ (IsContinue label) = none (expr.Continue label) (Expr-F.Continue label) (expr_continue_is label) refl
  ends_view _ (IsTuple xs) = none (expr.Tuple xs) (Expr-F.Tuple (map about_expr xs)) (expr_tuple_is xs) refl
  ends_view _ (IsArray xs) = none (expr.Array xs) (Expr-F.Array (map about_expr xs)) (expr_array_is xs) refl
  ends_view _ (IsRepeat x us) = none (expr.Repeat x us) (Expr-F.Repeat (about_expr x) us) (expr_repeat_is x us) refl
  ends_view _ (IsStruct p fields base) = none (expr.Struct p fields base) (Expr-F.Expr::Struct p (map about_field_expr fields) (option_map (option_map about_expr) base)) (expr_struct_is p fields base) refl
  ends_view _ (IsChain x more) = chain_ends x more
  ends_view _ (IsCast x types) = none (expr.Cast x types) (Expr-F.Cast (about_expr x) types) (expr_cast_is x types) refl
  ends_view _ (IsUnary ps x) = unary_ends ps x
  ends_view _ (IsRange a inclusive x) = range_ends a inclusive x
  ends_view _ (IsAssign bs x) = assign_ends bs x
  ends_view _ (IsPostfix x steps) =
      none (expr.Postfix x steps) (Expr-F.Postfix (about_expr x) (map about_step steps)) (expr_postfix_is x steps) (steps_shut (map about_step steps))
  ends_view _ (IsBlock label b) = none (expr.Block label b) (Expr-F.Block label (about_block b)) (expr_block_is label b) refl
  ends_view _ (IsUnsafe b) = none (expr.Unsafe b) (Expr-F.Unsafe (about_block b)) (expr_unsafe_is b) refl
  ends_view _ (IsConstBlock b) = none (expr.ConstBlock b) (Expr-F.ConstBlock (about_block b)) (expr_const_block_is b) refl
  ends_view _ (IsAsync moves b) = none (expr.Async moves b) (Expr-F.Async moves (about_block b)) (expr_async_is moves b) refl
  ends_view _ (IsIf bs o) = if_ends bs o
  ends_view _ (IsMatch x attrs arms) = none (expr.Match x attrs arms) (Expr-F.Match (about_expr x) attrs (map about_arm arms)) (expr_match_is x attrs arms) refl
  ends_view _ (IsLoop label b) = none (expr.Loop label b) (Expr-F.Loop label (about_block b)) (expr_loop_is label b) refl
  ends_view _ (IsWhile label c b) = none (expr.While label c b) (Expr-F.While label (about_condition c) (about_block b)) (expr_while_is label c b) refl
  ends_view _ (IsFor label pat x b) = none (expr.For label pat x b) (Expr-F.For label pat (about_expr x) (about_block b)) (expr_for_is label pat x b) refl
  ends_view _ (IsClosure is_async moves params x) = closure_ends is_async moves params x
  ends_view _ (IsTypedClosure is_async moves params output b) = none (expr.TypedClosure is_async moves params output b) (Expr-F.TypedClosure is_async moves params output (about_block b)) (expr_typed_closure_is is_async moves params output b) refl
  ends_view _ (IsReturn x) = return_ends x
  ends_view _ (IsBreak label x) = break_ends label x

all_branched : (depth : ℕ) → AllBranched depth
all_branched zero x no_struct begun ts rest s w = absurd (no_depth x ts rest s)
all_branched (suc depth) x no_struct begun ts rest s w = ends_view depth (all_branched depth) no_struct begun ts rest x (expr_view x) s w

-- What doesn't end in a `}` ends in no branches without an `else`.
pub no_branches : (x : Expr) (place : Place) (depth : ℕ) (ts rest : Tokens) → Spells (about_expr x).form depth ts rest
    → placed (about_expr x) place ≡ true → ends_in_brace (about_expr x).form ≡ false → (about_expr x).tail.lacks_else ≡ false
no_branches x place depth ts rest s w n = false_from_ne_true (about_expr x).tail.lacks_else (λ l.
    let e = all_branched depth x place.no_struct (begins place.start) ts rest s (within_held (about_expr x) place w) l false in
    absurd (cc))

-- An `else` may follow a value before which one may stand.
pub else_follows_value : (x : Expr) (depth : ℕ) (ts mid rest : Tokens) → Spells (about_expr x).form depth ts mid
    → placed (about_expr x) FREE ≡ true → precedes_else (Some (about_expr x)) ≡ true → IsOne Ident (codes "else") mid rest
    → follows (about_expr x) FREE mid ≡ true
else_follows_value x depth ts mid rest s w p o =
    let F = about_expr x in
    let last = (and_parts (not (F.level == 2) && not (F.level == 3) && not F.tail.closure) (not (ends_in_brace F.form)) p).1 in
    else_follows F mid rest o (no_branches x FREE depth ts mid s w (not-true (ends_in_brace F.form) last))
