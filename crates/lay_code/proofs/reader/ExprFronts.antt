-- Each expression that is spelled begins with its lead, and takes a token at least.
use Rattle.std.proofs.Common.{◌≡◌, ℕ, zero, suc, ◌<◌, Bool, true, false, not, ◌&&◌, nat_le, List, [], ◌∷◌, ◌++◌, map, length, codes, Option, option_map, Some, None, is_some, refl, sym, ap, subst, ◌∙◌, arith}
use Rattle.std.specs.Prelude.{◌==◌}
use Rattle.std.proofs.lemmas.Bool.{and_parts}
use Rattle.lay_piece.specs.Forms.{opening}
use Rattle.lay_piece.specs.declared.kind.Delim.TheVariants.{Paren, Bracket, Brace}
use Rattle.lay_piece.specs.declared.kind.Kind.{Kind}
use Rattle.lay_piece.specs.declared.kind.Kind.TheVariants.{Ident, Underscore, Lifetime, Punct, Opener}
use Rattle.lay_form.specs.Form.{Bit, Blank, Fixed, Operator, Form, Done, Piece, Part, punct, keyword, closer, semicolon}
use Rattle.lay_form.specs.Notation.{Z, N, I0, piece, when, each, comma_gap, last_break, comma_list, body, braces}
use Rattle.lay_form.specs.Spelled.{IsOne, AreBits, Spells}
use Rattle.lay_form.proofs.FormLaws.{shorter}
use Rattle.lay_node.specs.Ahead.{Tokens, first, tail, opens}
use Rattle.lay_node.specs.nodes.Attr.{attr_form}
use Rattle.lay_node.specs.nodes.Facts.{Facts, all_good}
use Rattle.lay_node.specs.nodes.Patterns.{dots, about_pat, pat_form}
use Rattle.lay_node.specs.nodes.Types.{about_path, about_type, colon, is_there}
use Rattle.lay_node.specs.tokens.Lists.{token_list}
use Rattle.lay_node.specs.declared.patterns.PatPlace.TheVariants.{Alternatives}
use Rattle.lay_node.specs.declared.token.Lifetime.{Lifetime as Label}
use Rattle.lay_node.specs.declared.types.Path.{Path}
use Rattle.lay_node.specs.declared.types.PathStyle.TheVariants.{Code}
use Rattle.lay_node.specs.declared.types.Ty.{Ty}
use Rattle.lay_node.proofs.Fronts.{one_front, one_shorter, op_shorter}
use Rattle.lay_node.proofs.Parts.{before_blank, bit_alone, part_alone}
use Rattle.lay_node.proofs.reader.TypesBegins.{path_begins, call_begins}
use Rattle.lay_code.specs.Operands.{ExprLead, ByPath, ByUnderscore, ByParen, ByBracket, ByPrefix, ByRange, ByContinue, ByBreak, ByReturn, ByLabel, ByBrace, ByBlockWord, ByClosure, async_lead, expr_lead_by, expr_lead_at}
use Rattle.lay_code.specs.Operators.{op_text, op_level}
use Rattle.lay_code.specs.nodes.Code.{about_arm, about_block, about_branch, about_condition, about_expr, about_field_expr, about_step}
use Rattle.lay_code.specs.nodes.CodeFacts.{BranchFacts}
use Rattle.lay_code.specs.nodes.Exprs.{ExprFacts, placed, expr_forms, tuple_form, base_form, operands_form, types_form, prefix_bits, prefixes_form, end_form, targets_form, label_form, operand_form, level_of_chain, next_is_angle, is_chain_level, may_chain, operands_placed, targets_placed, end_placed, base_placed, first_step, is_tuple_index, is_dotted, are_steps, types_good, methods, steps_form, group_if, inside, lead_of, label_or, within_of, expr_facts, ExprLayer, labelled, more_branches, branches_form, else_branch_form, arm_forms, behind_async, body_braces, closure_body, closure_param, closure_head, bar, branches_good, may_be_good}
use Rattle.lay_code.specs.nodes.Places.{plain, begins, before_op}
use Rattle.lay_code.specs.declared.blocks.Block.{Block}
use Rattle.lay_code.specs.declared.exprs.ClosureParam.{ClosureParam}
use Rattle.lay_code.specs.declared.exprs.Expr.{Expr}
use Rattle.lay_code.specs.declared.blocks.Stmt.TheOpen.{Expr-F}
use Rattle.lay_code.specs.declared.exprs.Expr.TheVariants as expr
use Rattle.lay_code.specs.declared.exprs.Place.{Place}
use Rattle.lay_code.specs.declared.exprs.Step.{Step}
use Rattle.lay_code.specs.declared.operators.Op.{Op}
use Rattle.lay_code.specs.declared.operators.Prefix.{Prefix}
use Rattle.lay_code.specs.declared.operators.Prefix.TheVariants as before
use Rattle.lay_code.proofs.nodes.ExprsLaws.{ExprView, IsLit, IsPath, IsUnderscore, IsCall, IsParen, IsContinue, IsTuple, IsArray, IsRepeat, IsStruct, IsChain, IsCast, IsUnary, IsRange, IsAssign, IsPostfix, IsBlock, IsUnsafe, IsConstBlock, IsAsync, IsIf, IsMatch, IsLoop, IsWhile, IsFor, IsClosure, IsTypedClosure, IsReturn, IsBreak, expr_view, behind_op, before_op as target_of, expr_lit_is, expr_path_is, expr_underscore_is, expr_call_is, expr_paren_is, expr_continue_is, expr_tuple_is, expr_array_is, expr_repeat_is, expr_struct_is, expr_chain_is, expr_cast_is, expr_unary_is, expr_range_is, expr_assign_is, expr_postfix_is, expr_block_is, expr_unsafe_is, expr_const_block_is, expr_async_is, expr_if_is, expr_match_is, expr_loop_is, expr_while_is, expr_for_is, expr_closure_is, expr_typed_closure_is, expr_return_is, expr_break_is}
use Rattle.lay_code.proofs.reader.BlockForms.{block_opened, soft_opened}
use Rattle.lay_code.proofs.reader.AsyncFronts.{async_begins, block_no_closure, closure_begins}
use Rattle.lay_code.proofs.reader.ExprLeads.{one_lead, lone_lead, literal_lead, path_lead, range_lead}
use Rattle.lay_code.proofs.reader.ExprSoundLevel.{within_held}

-- how an expression with these facts begins
pub record ExprBegun (x : ExprFacts) (ts rest : Tokens) : Type 0 where
  pub lead : expr_lead_at ts ≡ Some x.lead
  pub less : length rest < length ts

-- ---- the first part

abbrev Begun : ExprLead → Tokens → Tokens → Type 0
Begun l ts rest = (expr_lead_at ts ≡ Some l) × (length rest < length ts)

-- one token of which the kind and the text tell the lead
one_begins : (k : Kind) (text : List ℕ) (l : ExprLead) → ((us : Tokens) → expr_lead_by k text us ≡ Some l)
    → (f : Form) (depth : ℕ) (ts mid rest : Tokens)
    → IsOne k text ts mid → Spells f depth mid rest → Begun l ts rest
one_begins k text l is f depth ts mid rest o s =
    (lone_lead k text l is ts mid o, omega (arith, one_shorter k text ts mid o, shorter f depth mid rest s))

-- a first token after which nothing of the piece stands
bit_begins : (k : Kind) (text : List ℕ) (l : ExprLead) → ((us : Tokens) → expr_lead_by k text us ≡ Some l)
    → (f : Form) (depth : ℕ) (ts rest : Tokens)
    → Spells (Piece (Fixed k text ∷ []) f) depth ts rest → Begun l ts rest
bit_begins k text l is f depth ts rest s = one_begins k text l is f depth ts s.0 rest (bit_alone (Fixed k text) ts s.0 s.1) s.2

list_begins : (k : Kind) (text : List ℕ) (l : ExprLead) → ((us : Tokens) → expr_lead_by k text us ≡ Some l)
    → (c : Bit) (fs : List Form) (depth : ℕ) (ts rest : Tokens)
    → Spells (comma_list true (Fixed k text) c fs) depth ts rest → Begun l ts rest
list_begins k text l is c [] depth ts rest s = one_begins k text l is (piece (c ∷ [])) depth ts s.1.0 rest s.1.1 (s.0, s.1.2, s.2)
list_begins k text l is c (f ∷ fs) depth ts rest s =
    let inner : Form = Z (Part f (Part (each comma_gap fs) (last_break true 0 (piece (c ∷ []))))) in
    subst (λ us. Begun l ts us) s.2 (bit_begins k text l is inner depth ts s.0 s.1)

tuple_begins : (xs : List ExprFacts) (depth : ℕ) (ts rest : Tokens) → Spells (tuple_form xs) depth ts rest → Begun ByParen ts rest
tuple_begins [] depth ts rest s = list_begins (Opener Paren) (opening Paren ∷ []) ByParen (λ us. refl) (closer Paren) [] depth ts rest s
tuple_begins (x ∷ []) depth ts rest s =
    bit_begins (Opener Paren) (opening Paren ∷ []) ByParen (λ us. refl) (Part x.form (piece (punct 44 ∷ closer Paren ∷ []))) depth ts rest s
tuple_begins (x ∷ y ∷ xs) depth ts rest s =
    list_begins (Opener Paren) (opening Paren ∷ []) ByParen (λ us. refl) (closer Paren) (expr_forms (x ∷ y ∷ xs)) depth ts rest s

-- an operator before its operand
prefix_begins : (p : Prefix) (f : Form) (depth : ℕ) (ts rest : Tokens) → Spells (Piece (prefix_bits p) f) depth ts rest
    → Begun ByPrefix ts rest
prefix_begins p f depth ts rest s = by p s.1
  where
    made : (text : List ℕ) → ((us : Tokens) → expr_lead_by Punct text us ≡ Some ByPrefix) → (bs : List Bit)
        → AreBits (Fixed Punct text ∷ bs) ts s.0 → Begun ByPrefix ts rest
    made text is bs b = one_begins Punct text ByPrefix is (Piece bs f) depth ts b.0 rest b.1 (s.0, b.2, s.2)

    by : (p : Prefix) → AreBits (prefix_bits p) ts s.0 → Begun ByPrefix ts rest
    by before.Neg b = made (codes "-") (λ us. refl) [] b
    by before.Deref b = made (codes "*") (λ us. refl) [] b
    by before.Bang b = made (codes "!") (λ us. refl) [] b
    by before.Amp b = made (codes "&") (λ us. refl) [] b
    by before.AmpMut b = made (codes "&") (λ us. refl) (keyword (codes "mut") ∷ Blank ∷ []) b
    by before.RawConst b = made (codes "&") (λ us. refl) (keyword (codes "raw") ∷ Blank ∷ keyword (codes "const") ∷ Blank ∷ []) b
    by before.RawMut b = made (codes "&") (λ us. refl) (keyword (codes "raw") ∷ Blank ∷ keyword (codes "mut") ∷ Blank ∷ []) b

range_begins : (inclusive : Bool) (f : Form) (depth : ℕ) (ts rest : Tokens) → Spells (Piece (dots inclusive) f) depth ts rest
    → Begun ByRange ts rest
range_begins inclusive f depth ts rest s = (range_lead inclusive ts s.0 s.1, by inclusive s.1)
  where
    by : (inclusive : Bool) → AreBits (dots inclusive) ts s.0 → length rest < length ts
    by true b = omega (arith, op_shorter 46 (codes ".=") ts s.0 (bit_alone (Operator (codes "..=")) ts s.0 b), shorter f depth s.0 rest s.2)
    by false b = omega (arith, op_shorter 46 (codes ".") ts s.0 (bit_alone (Operator (codes "..")) ts s.0 b), shorter f depth s.0 rest s.2)

-- `const` before a `{`
const_begins : (b : Block) (depth : ℕ) (ts rest : Tokens) → Spells (Piece (keyword (codes "const") ∷ []) (Part (about_block b).soft Done)) depth ts rest
    → Begun ByBlockWord ts rest
const_begins b depth ts rest s =
    let o : IsOne Ident (codes "const") ts s.0 = bit_alone (keyword (codes "const")) ts s.0 s.1 in
    let c = soft_opened b depth s.0 rest (part_alone (about_block b).soft depth s.0 rest s.2) in
    let f = one_front Ident (codes "const") ts s.0 o in
    let g = one_front (Opener Brace) (opening Brace ∷ []) s.0 c.0 c.1 in
    let left : tail ts ≡ s.0 = rw f.1 refl in
    let opens_there : first (opens Brace) (tail ts) ≡ true = rw (left, g.1) refl in (
      one_lead Ident (codes "const") ts s.0 o ∙ rw opens_there refl,
      omega (arith, one_shorter Ident (codes "const") ts s.0 o, one_shorter (Opener Brace) (opening Brace ∷ []) s.0 c.0 c.1, c.2),
    )

-- ---- what stands in a place

-- An expression has a level at least.
pub no_depth : (x : Expr) (ts rest : Tokens) → Spells (about_expr x).form zero ts rest → ⊥
no_depth x ts rest s = by x (expr_view x) s
  where
    none : (x : Expr) (F : ExprLayer) → about_expr x ≡ expr_facts F → Spells (about_expr x).form zero ts rest → ⊥
    none x F e t = subst (λ (G : ExprFacts). Spells G.form zero ts rest) e t

    by : (x : Expr) → ExprView x → Spells (about_expr x).form zero ts rest → ⊥
    by _ (IsLit l) = none (expr.Lit l) (Expr-F.Lit l) (expr_lit_is l)
    by _ (IsPath path) = none (expr.Path path) (Expr-F.Path path) (expr_path_is path)
    by _ IsUnderscore = none expr.Underscore Expr-F.Underscore expr_underscore_is
    by _ (IsCall call) = none (expr.Call call) (Expr-F.Expr::Call call) (expr_call_is call)
    by _ (IsParen x) = none (expr.Paren x) (Expr-F.Paren (about_expr x)) (expr_paren_is x)
    by _ (IsContinue label) = none (expr.Continue label) (Expr-F.Continue label) (expr_continue_is label)
    by _ (IsTuple xs) = none (expr.Tuple xs) (Expr-F.Tuple (map about_expr xs)) (expr_tuple_is xs)
    by _ (IsArray xs) = none (expr.Array xs) (Expr-F.Array (map about_expr xs)) (expr_array_is xs)
    by _ (IsRepeat x us) = none (expr.Repeat x us) (Expr-F.Repeat (about_expr x) us) (expr_repeat_is x us)
    by _ (IsStruct path fields base) =
        none (expr.Struct path fields base) (Expr-F.Expr::Struct path (map about_field_expr fields) (option_map (option_map about_expr) base))
        (expr_struct_is path fields base)
    by _ (IsChain x more) = none (expr.Chain x more) (Expr-F.Chain (about_expr x) (map behind_op more)) (expr_chain_is x more)
    by _ (IsCast x types) = none (expr.Cast x types) (Expr-F.Cast (about_expr x) types) (expr_cast_is x types)
    by _ (IsUnary ps x) = none (expr.Unary ps x) (Expr-F.Unary ps (about_expr x)) (expr_unary_is ps x)
    by _ (IsRange start inclusive end) =
        none (expr.Range start inclusive end) (Expr-F.Range (option_map about_expr start) inclusive (option_map about_expr end))
        (expr_range_is start inclusive end)
    by _ (IsAssign targets x) = none (expr.Assign targets x) (Expr-F.Assign (map target_of targets) (about_expr x))
        (expr_assign_is targets x)
    by _ (IsPostfix x steps) = none (expr.Postfix x steps) (Expr-F.Postfix (about_expr x) (map about_step steps)) (expr_postfix_is x steps)
    by _ (IsBlock label b) = none (expr.Block label b) (Expr-F.Block label (about_block b)) (expr_block_is label b)
    by _ (IsUnsafe b) = none (expr.Unsafe b) (Expr-F.Unsafe (about_block b)) (expr_unsafe_is b)
    by _ (IsConstBlock b) = none (expr.ConstBlock b) (Expr-F.ConstBlock (about_block b)) (expr_const_block_is b)
    by _ (IsAsync moves b) = none (expr.Async moves b) (Expr-F.Async moves (about_block b)) (expr_async_is moves b)
    by _ (IsIf bs o) = none (expr.If bs o) (Expr-F.If (map about_branch bs) (option_map about_block o)) (expr_if_is bs o)
    by _ (IsMatch x attrs arms) =
        none (expr.Match x attrs arms) (Expr-F.Match (about_expr x) attrs (map about_arm arms)) (expr_match_is x attrs arms)
    by _ (IsLoop label b) = none (expr.Loop label b) (Expr-F.Loop label (about_block b)) (expr_loop_is label b)
    by _ (IsWhile label c b) =
        none (expr.While label c b) (Expr-F.While label (about_condition c) (about_block b)) (expr_while_is label c b)
    by _ (IsFor label pat x b) =
        none (expr.For label pat x b) (Expr-F.For label pat (about_expr x) (about_block b)) (expr_for_is label pat x b)
    by _ (IsClosure is_async moves params x) =
        none (expr.Closure is_async moves params x) (Expr-F.Closure is_async moves params (about_expr x)) (expr_closure_is is_async moves params x)
    by _ (IsTypedClosure is_async moves params output b) =
        none (expr.TypedClosure is_async moves params output b) (Expr-F.TypedClosure is_async moves params output (about_block b))
        (expr_typed_closure_is is_async moves params output b)
    by _ (IsReturn x) = none (expr.Return x) (Expr-F.Return (option_map about_expr x)) (expr_return_is x)
    by _ (IsBreak label x) = none (expr.Break label x) (Expr-F.Break label (option_map about_expr x)) (expr_break_is label x)

-- ---- all kinds

abbrev AllBegin : ℕ → Type 0
AllBegin depth = (x : Expr) (no_struct first : Bool) (ts rest : Tokens) → Spells (about_expr x).form depth ts rest
    → (about_expr x).within no_struct first ≡ true → Begun (about_expr x).lead ts rest

module _ (depth : ℕ) (ih : AllBegin depth) (no_struct first : Bool) (ts rest : Tokens) where
  -- an expression with these facts, one level less deep
  abbrev Begins : ExprFacts → Type 0
  Begins F = Spells F.form (suc depth) ts rest → F.within no_struct first ≡ true → Begun F.lead ts rest

  told : (x : Expr) (F : ExprLayer) → about_expr x ≡ expr_facts F
      → (Spells (inside F) depth ts rest → within_of F no_struct first ≡ true → Begun (lead_of F) ts rest) → Begins (about_expr x)
  told x F e f = subst Begins (sym e) (λ s w. f (subst (λ us. Spells (inside F) depth ts us) s.2 s.1) w)

  -- one that begins with another
  led : (x : Expr) (place : Place) (f : Form) → placed (about_expr x) place ≡ true → Spells (Part (about_expr x).form f) depth ts rest
      → Begun (about_expr x).lead ts rest
  led x place f w s =
      let b = ih x place.no_struct (begins place.start) ts s.0 s.1 (within_held (about_expr x) place w) in
      (b.0, omega (arith, b.1, shorter f depth s.0 rest s.2))

  path_begun : (p : Path) (mid : Tokens) → Spells (about_path p Code).form depth ts mid → (about_path p Code).good ≡ true
      → Begun ByPath ts mid
  path_begun p mid s g = let b = path_begins Code p depth ts mid s g in (path_lead ts b.lead, b.less)

  chain_begun : (x : Expr) (more : List (Op × Expr)) → Begins (about_expr (expr.Chain x more))
  chain_begun x more = told (expr.Chain x more) (Expr-F.Chain (about_expr x) (map behind_op more)) (expr_chain_is x more) (λ s w.
      let os = map behind_op more in
      let level = level_of_chain os in
      let place = before_op (suc level) no_struct first (next_is_angle os) in
      let w4 = and_parts (is_chain_level level && may_chain level os && placed (about_expr x) place)
      (operands_placed level no_struct os) w in
      let w3 = and_parts (is_chain_level level && may_chain level os) (placed (about_expr x) place) w4.0 in
      led x place (operands_form os) w3.1 (subst (λ us. Spells (Part (about_expr x).form (operands_form os)) depth ts us) s.2 s.1))

  cast_begun : (x : Expr) (types : List Ty) → Begins (about_expr (expr.Cast x types))
  cast_begun x types = told (expr.Cast x types) (Expr-F.Cast (about_expr x) types) (expr_cast_is x types) (λ s w.
      let place = before_op 12 no_struct first false in
      let w2 = and_parts (is_there types && placed (about_expr x) place) (types_good (map about_type types)) w in
      led x place (types_form (map about_type types)) (and_parts (is_there types) (placed (about_expr x) place) w2.0).1 s)

  postfix_begun : (x : Expr) (steps : List Step) → Begins (about_expr (expr.Postfix x steps))
  postfix_begun x steps = told (expr.Postfix x steps) (Expr-F.Postfix (about_expr x) (map about_step steps)) (expr_postfix_is x steps)
      (λ s w.
      let F = about_expr x in
      let ss = map about_step steps in
      let several = nat_le 2 (methods ss) in
      let place = before_op 14 no_struct (first && not (first_step is_dotted ss)) false in
      let w1 = and_parts (is_there ss && are_steps ss && not (F.is_number && first_step is_tuple_index ss)) (placed F place) w in
      let form : Form = Part F.form (steps_form several false ss) in
      led x place (steps_form several false ss) w1.1 (ungrouped several form s))
    where
      ungrouped : (b : Bool) (f : Form) → Spells (group_if b f) depth ts rest → Spells f depth ts rest
      ungrouped true f s = subst (λ us. Spells f depth ts us) s.2 s.1
      ungrouped false f s = s

  range_begun : (start : Option Expr) (inclusive : Bool) (end : Option Expr) → Begins (about_expr (expr.Range start inclusive end))
  range_begun None inclusive end =
      told (expr.Range None inclusive end) (Expr-F.Range None inclusive (option_map about_expr end)) (expr_range_is None inclusive end)
      (λ s w.
      range_begins inclusive (end_form (option_map about_expr end) Done) depth ts rest s)
  range_begun (Some x) inclusive end =
      told (expr.Range (Some x) inclusive end) (Expr-F.Range (Some (about_expr x)) inclusive (option_map about_expr end))
      (expr_range_is (Some x) inclusive end) (λ s w.
      let place = before_op 2 no_struct first false in
      led x place (Piece (dots inclusive) (end_form (option_map about_expr end) Done))
      (and_parts (placed (about_expr x) place) (end_placed (option_map about_expr end) inclusive no_struct) w).0 s)

  assign_begun : (targets : List (Expr × Op)) (x : Expr) → Begins (about_expr (expr.Assign targets x))
  assign_begun [] x = told (expr.Assign [] x) (Expr-F.Assign [] (about_expr x)) (expr_assign_is [] x) (λ s w. absurd (cc))
  assign_begun (y ∷ ys) x = told (expr.Assign (y ∷ ys) x) (Expr-F.Assign (map target_of (y ∷ ys)) (about_expr x))
      (expr_assign_is (y ∷ ys) x) (λ s w.
      let place = before_op 1 no_struct first false in
      let more = map target_of ys in
      let t = (and_parts (targets_placed (map target_of (y ∷ ys)) no_struct first) (placed (about_expr x) (plain 1 no_struct)) w).0 in
      let p = (and_parts ((op_level y.1 == 0) && placed (about_expr y.0) place) (targets_placed more no_struct false) t).0 in
      let behind : Form = Piece (Blank ∷ [])
      (Piece (Operator (op_text y.1) ∷ []) (Piece (Blank ∷ []) (N (targets_form more (Part (about_expr x).form Done))))) in
      led y.0 place behind (and_parts (op_level y.1 == 0) (placed (about_expr y.0) place) p).1 s)

  unary_begun : (ps : List Prefix) (x : Expr) → Begins (about_expr (expr.Unary ps x))
  unary_begun [] x = told (expr.Unary [] x) (Expr-F.Unary [] (about_expr x)) (expr_unary_is [] x) (λ s w. absurd (cc))
  unary_begun (p ∷ ps) x = told (expr.Unary (p ∷ ps) x) (Expr-F.Unary (p ∷ ps) (about_expr x)) (expr_unary_is (p ∷ ps) x) (λ s w.
      prefix_begins p (prefixes_form ps (Part (about_expr x).form Done)) depth ts rest s)

  -- a block, of which the braces tell it
  block_begun : (lead : Bool) (b : Block) (us : Tokens) → Spells ((about_block b).form lead) depth us rest → Begun ByBrace us rest
  block_begun lead b us s =
      let o = block_opened b lead depth us rest s in
      (lone_lead (Opener Brace) (opening Brace ∷ []) ByBrace (λ vs. refl) us o.0 o.1, omega (arith, one_shorter (Opener Brace) (opening Brace ∷ []) us o.0 o.1, o.2))

  -- a label, or what stands there without one
  labelled_begun : (l : ExprLead) (f : Form) → (Spells f depth ts rest → Begun l ts rest) → (label : Option Label)
      → Spells (labelled label f) depth ts rest → Begun (label_or l label) ts rest
  labelled_begun l f to None s = to s
  labelled_begun l f to (Some a) s =
      let o : IsOne Lifetime a.text ts s.0 = subst (λ us. IsOne Lifetime a.text ts us) s.1.2 s.1.1 in
      one_begins Lifetime a.text ByLabel (λ us. refl) (Piece colon (Part f Done)) depth ts s.0 rest o s.2

  -- a word before a blank, and a loop that begins with one
  word_begun : (word : List ℕ) → ((us : Tokens) → expr_lead_by Ident word us ≡ Some ByBlockWord) → (bs : List Bit) (f : Form)
      → Spells (Piece (keyword word ∷ bs) f) depth ts rest → Begun ByBlockWord ts rest
  word_begun word is bs f s = one_begins Ident word ByBlockWord is (Piece bs f) depth ts s.1.0 rest s.1.1 (s.0, s.1.2, s.2)

  grouped_word_begun : (word : List ℕ) → ((us : Tokens) → expr_lead_by Ident word us ≡ Some ByBlockWord) → (bs : List Bit) (f g : Form)
      → Spells (I0 (Piece (keyword word ∷ bs) f) g) depth ts rest → Begun ByBlockWord ts rest
  grouped_word_begun word is bs f g s =
      let t = s.1 in
      one_begins Ident word ByBlockWord is (Part (Piece bs f) g) depth ts t.1.0 rest t.1.1 (s.0, (t.0, t.1.2, t.2), s.2)

  -- `async` before a block
  async_begun : (moves : Bool) (b : Block)
      → Spells (Piece (keyword (codes "async") ∷ []) (when moves (Blank ∷ keyword (codes "move") ∷ []) (Part ((about_block b).form true) Done))) depth ts rest
      → Begun ByBlockWord ts rest
  async_begun moves b s =
      let o : IsOne Ident (codes "async") ts s.0 = bit_alone (keyword (codes "async")) ts s.0 s.1 in
      let behind : Form = when moves (Blank ∷ keyword (codes "move") ∷ []) (Part ((about_block b).form true) Done) in
      let none = block_no_closure moves b depth s.0 rest s.2 in
      let led : async_lead s.0 ≡ ByBlockWord = rw none refl in
      (async_begins ts s.0 o ∙ ap Some led, omega (arith, one_shorter Ident (codes "async") ts s.0 o, shorter behind depth s.0 rest s.2))

  -- a closure: `async`, `move`, or the `|` before its parameters
  closure_begun : (is_async moves : Bool) (params : List ClosureParam) (f : Form) → Spells (closure_head is_async moves params f) depth ts rest
      → Begun ByClosure ts rest
  closure_begun true moves params f s =
      let o : IsOne Ident (codes "async") ts s.0 = before_blank (keyword (codes "async")) ts s.0 s.1 in
      let there = closure_begins moves params f depth s.0 rest s.2 in
      let led : async_lead s.0 ≡ ByClosure = rw there refl in (
        async_begins ts s.0 o ∙ ap Some led,
        omega (arith, one_shorter Ident (codes "async") ts s.0 o, shorter (behind_async moves params f) depth s.0 rest s.2),
      )
  closure_begun false true params f s =
      one_begins Ident (codes "move") ByClosure (λ us. refl) (Piece (Blank ∷ []) (Part (comma_list true bar bar (map closure_param params)) f))
      depth ts s.1.0 rest s.1.1 (s.0, s.1.2, s.2)
  closure_begun false false params f s =
      let b = list_begins Punct (codes "|") ByClosure (λ us. refl) bar (map closure_param params) depth ts s.0 s.1 in
      (b.0, omega (arith, b.1, shorter f depth s.0 rest s.2))

  branches_begun : (bs : List BranchFacts) (f : Form) → is_there bs ≡ true → Spells (branches_form bs f) depth ts rest
      → Begun ByBlockWord ts rest
  branches_begun [] f g s = absurd (cc)
  branches_begun (b ∷ bs) f g s =
      grouped_word_begun (codes "if") (λ us. refl) (Blank ∷ []) (Part b.condition Done) (Part b.soft (more_branches bs f)) s

  begun : (x : Expr) → ExprView x → Begins (about_expr x)
  begun _ (IsLit l) = told (expr.Lit l) (Expr-F.Lit l) (expr_lit_is l) (λ s w.
      (literal_lead l.kind l.text ts s.0 w s.1, omega (arith, one_shorter l.kind l.text ts s.0 s.1, ap length s.2)))
  begun _ (IsPath path) = told (expr.Path path) (Expr-F.Path path) (expr_path_is path) (λ s w. path_begun path rest s w)
  begun _ IsUnderscore = told expr.Underscore Expr-F.Underscore expr_underscore_is
      (λ s w. bit_begins Underscore (codes "_") ByUnderscore (λ us. refl) Done depth ts rest s)
  begun _ (IsCall call) = told (expr.Call call) (Expr-F.Expr::Call call) (expr_call_is call)
      (λ s w. let b = call_begins call depth ts rest s w in (path_lead ts b.lead, b.less))
  begun _ (IsParen x) = told (expr.Paren x) (Expr-F.Paren (about_expr x)) (expr_paren_is x) (λ s w.
      bit_begins (Opener Paren) (opening Paren ∷ []) ByParen (λ us. refl)
      (Part (about_expr x).form (piece (closer Paren ∷ []))) depth ts rest s)
  begun _ (IsContinue label) = told (expr.Continue label) (Expr-F.Continue label) (expr_continue_is label) (λ s w.
      bit_begins Ident (codes "continue") ByContinue (λ us. refl) (label_form label Done) depth ts rest s)
  begun _ (IsTuple xs) = told (expr.Tuple xs) (Expr-F.Tuple (map about_expr xs)) (expr_tuple_is xs)
      (λ s w. tuple_begins (map about_expr xs) depth ts rest s)
  begun _ (IsArray xs) = told (expr.Array xs) (Expr-F.Array (map about_expr xs)) (expr_array_is xs) (λ s w.
      list_begins (Opener Bracket) (opening Bracket ∷ []) ByBracket (λ us. refl) (closer Bracket)
      (expr_forms (map about_expr xs)) depth ts rest s)
  begun _ (IsRepeat x us) = told (expr.Repeat x us) (Expr-F.Repeat (about_expr x) us) (expr_repeat_is x us) (λ s w.
      let f : Form = Part (about_expr x).form (Piece (semicolon ++ Blank ∷ []) (Part (token_list us) (piece (closer Bracket ∷ [])))) in
      bit_begins (Opener Bracket) (opening Bracket ∷ []) ByBracket (λ vs. refl) f depth ts rest s)
  begun _ (IsStruct path fields base) =
      told (expr.Struct path fields base) (Expr-F.Expr::Struct path (map about_field_expr fields) (option_map (option_map about_expr) base))
      (expr_struct_is path fields base) (λ s w.
      let fs = map about_field_expr fields in
      let b = option_map (option_map about_expr) base in
      let w2 = and_parts ((about_path path Code).good && all_good fs) (base_placed b) w in
      let p = path_begun path s.0 s.1 (and_parts (about_path path Code).good (all_good fs) w2.0).0 in
      (p.0, omega (arith, p.1, shorter (braces (not (is_some b)) (map (λ (x : Facts). x.form) fs ++ base_form b)) depth s.0 rest s.2)))
  begun _ (IsChain x more) = chain_begun x more
  begun _ (IsCast x types) = cast_begun x types
  begun _ (IsUnary ps x) = unary_begun ps x
  begun _ (IsRange start inclusive end) = range_begun start inclusive end
  begun _ (IsAssign targets x) = assign_begun targets x
  begun _ (IsPostfix x steps) = postfix_begun x steps
  begun _ (IsBlock label b) = told (expr.Block label b) (Expr-F.Block label (about_block b)) (expr_block_is label b) (λ s w.
      labelled_begun ByBrace ((about_block b).form false) (λ t. block_begun false b ts t) label s)
  begun _ (IsUnsafe b) = told (expr.Unsafe b) (Expr-F.Unsafe (about_block b)) (expr_unsafe_is b) (λ s w.
      word_begun (codes "unsafe") (λ us. refl) [] (Part (about_block b).soft Done) s)
  begun _ (IsConstBlock b) = told (expr.ConstBlock b) (Expr-F.ConstBlock (about_block b)) (expr_const_block_is b) (λ s w. const_begins b depth ts rest s)
  begun _ (IsAsync moves b) = told (expr.Async moves b) (Expr-F.Async moves (about_block b)) (expr_async_is moves b) (λ s w.
      async_begun moves b s)
  begun _ (IsIf bs o) = told (expr.If bs o) (Expr-F.If (map about_branch bs) (option_map about_block o)) (expr_if_is bs o) (λ s w.
      let fs = map about_branch bs in
      let w1 = and_parts (is_there fs && branches_good fs) (may_be_good (option_map about_block o)) w in
      branches_begun fs (else_branch_form (option_map about_block o)) (and_parts (is_there fs) (branches_good fs) w1.0).0 s)
  begun _ (IsMatch x attrs arms) =
      told (expr.Match x attrs arms) (Expr-F.Match (about_expr x) attrs (map about_arm arms)) (expr_match_is x attrs arms) (λ s w.
      grouped_word_begun (codes "match") (λ us. refl) (Blank ∷ []) (Part (about_expr x).form Done)
      (body (Blank ∷ []) [] (map attr_form attrs ++ arm_forms (map about_arm arms))) s)
  begun _ (IsLoop label b) = told (expr.Loop label b) (Expr-F.Loop label (about_block b)) (expr_loop_is label b) (λ s w.
      let f : Form = Part ((about_block b).form true) Done in
      labelled_begun ByBlockWord (Piece (keyword (codes "loop") ∷ []) f) (λ t. word_begun (codes "loop") (λ us. refl) [] f t) label s)
  begun _ (IsWhile label c b) =
      told (expr.While label c b) (Expr-F.While label (about_condition c) (about_block b)) (expr_while_is label c b) (λ s w.
      let f : Form = Part (about_condition c).form Done in
      let g : Form = Part ((about_block b).form true) Done in
      labelled_begun ByBlockWord (I0 (Piece (keyword (codes "while") ∷ Blank ∷ []) f) g)
      (λ t. grouped_word_begun (codes "while") (λ us. refl) (Blank ∷ []) f g t) label s)
  begun _ (IsFor label pat x b) =
      told (expr.For label pat x b) (Expr-F.For label pat (about_expr x) (about_block b)) (expr_for_is label pat x b) (λ s w.
      let f : Form = Part (pat_form Alternatives (about_pat pat))
      (Piece (Blank ∷ keyword (codes "in") ∷ Blank ∷ []) (Part (about_expr x).form Done)) in
      let g : Form = Part ((about_block b).form true) Done in
      labelled_begun ByBlockWord (I0 (Piece (keyword (codes "for") ∷ Blank ∷ []) f) g)
      (λ t. grouped_word_begun (codes "for") (λ us. refl) (Blank ∷ []) f g t) label s)
  begun _ (IsClosure is_async moves params x) =
      told (expr.Closure is_async moves params x) (Expr-F.Closure is_async moves params (about_expr x)) (expr_closure_is is_async moves params x) (λ s w.
      closure_begun is_async moves params (Piece (Blank ∷ []) (closure_body (body_braces (about_expr x)) (about_expr x).form)) s)
  begun _ (IsTypedClosure is_async moves params output b) =
      told (expr.TypedClosure is_async moves params output b) (Expr-F.TypedClosure is_async moves params output (about_block b))
      (expr_typed_closure_is is_async moves params output b) (λ s w.
      closure_begun is_async moves params
      (Piece (Blank ∷ Operator (codes "->") ∷ Blank ∷ []) (Part (about_type output).told.form (Part ((about_block b).form true) Done))) s)
  begun _ (IsReturn x) = told (expr.Return x) (Expr-F.Return (option_map about_expr x)) (expr_return_is x) (λ s w.
      bit_begins Ident (codes "return") ByReturn (λ us. refl) (operand_form (option_map about_expr x)) depth ts rest s)
  begun _ (IsBreak label x) = told (expr.Break label x) (Expr-F.Break label (option_map about_expr x)) (expr_break_is label x) (λ s w.
      bit_begins Ident (codes "break") ByBreak (λ us. refl) (label_form label (operand_form (option_map about_expr x))) depth ts rest s)

all_begin : (depth : ℕ) → AllBegin depth
all_begin zero x no_struct first ts rest s w = absurd (no_depth x ts rest s)
all_begin (suc depth) x no_struct first ts rest s w = begun depth (all_begin depth) no_struct first ts rest x (expr_view x) s w

-- The tokens begin with the lead of the expression that they spell.
pub expr_begins : (x : Expr) (no_struct first : Bool) (depth : ℕ) (ts rest : Tokens) → Spells (about_expr x).form depth ts rest
    → (about_expr x).within no_struct first ≡ true → ExprBegun (about_expr x) ts rest
expr_begins x no_struct first depth ts rest s w =
    let b = all_begin depth x no_struct first ts rest s w in record { lead = b.0; less = b.1 }

-- the same of what stands in a place
pub placed_begins : (x : Expr) (place : Place) (depth : ℕ) (ts rest : Tokens) → Spells (about_expr x).form depth ts rest
    → placed (about_expr x) place ≡ true → ExprBegun (about_expr x) ts rest
placed_begins x place depth ts rest s w =
    expr_begins x place.no_struct (begins place.start) depth ts rest s (within_held (about_expr x) place w)
