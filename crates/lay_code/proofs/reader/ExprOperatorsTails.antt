-- What an operand ends in: an expression of level 12 or more that isn't open at its end ends as paths and fields do.
use Rattle.std.proofs.Common.{◌≡◌, ℕ, zero, suc, Bool, true, false, not, ◌&&◌, nat_le, List, [], ◌∷◌, map, Option, option_map, Some, None, refl, sym, ap, subst, ◌∙◌, arith, ◌||◌}
use Rattle.std.proofs.lemmas.Bool.{and_parts, or_parts, not-true, leb-true}
use Rattle.lay_form.specs.Form.{Done, Part}
use Rattle.lay_form.specs.Spelled.{Spells}
use Rattle.lay_node.specs.Ahead.{Tokens}
use Rattle.lay_node.specs.nodes.Types.{ArgsFacts, PathFacts, segment_good, segments_good, segments_refuse, about_path, about_args, is_there}
use Rattle.lay_node.specs.declared.token.Word.{Word}
use Rattle.lay_node.specs.declared.types.Args.{Args}
use Rattle.lay_node.specs.declared.types.Path.{Path}
use Rattle.lay_node.specs.declared.types.PathStyle.TheVariants.{Code}
use Rattle.lay_node.proofs.Parts.{part_alone}
use Rattle.lay_node.proofs.nodes.TypesLaws.{ArgsView, IsNone, IsAngle, IsRound, about_segment, args_view, args_none_is, args_angle_is, args_round_is, path_is}
use Rattle.lay_node.proofs.reader.TypesBegins.{path_goods}
use Rattle.lay_code.specs.nodes.Code.{about_arm, about_block, about_branch, about_condition, about_expr, about_field_expr, about_step}
use Rattle.lay_code.specs.nodes.Exprs.{ExprFacts, StepFacts, Tail, is_open, is_typed, placed, stands, StepKind, OfField, tail_of_steps, tail_of_jump, prefixes_form, level_of_chain, next_is_angle, is_chain_level, may_chain, operands_placed, is_prefix_lead, inside, level_of, tail_of, within_of, expr_facts, ExprLayer}
use Rattle.lay_code.specs.nodes.Places.{plain, is_part, part_if, before_op}
use Rattle.lay_code.specs.declared.exprs.Expr.{Expr}
use Rattle.lay_code.specs.declared.blocks.Stmt.TheOpen.{Expr-F}
use Rattle.lay_code.specs.declared.exprs.Expr.TheVariants as expr
use Rattle.lay_code.specs.declared.exprs.Place.{Place}
use Rattle.lay_code.specs.declared.operators.Op.{Op}
use Rattle.lay_code.specs.declared.operators.Prefix.{Prefix}
use Rattle.lay_code.proofs.nodes.ExprsLaws.{ExprView, IsLit, IsPath, IsUnderscore, IsCall, IsParen, IsContinue, IsTuple, IsArray, IsRepeat, IsStruct, IsChain, IsCast, IsUnary, IsRange, IsAssign, IsPostfix, IsBlock, IsUnsafe, IsConstBlock, IsAsync, IsIf, IsMatch, IsLoop, IsWhile, IsFor, IsClosure, IsTypedClosure, IsReturn, IsBreak, expr_view, behind_op, before_op as target_of, expr_lit_is, expr_path_is, expr_underscore_is, expr_call_is, expr_paren_is, expr_continue_is, expr_tuple_is, expr_array_is, expr_repeat_is, expr_struct_is, expr_chain_is, expr_cast_is, expr_unary_is, expr_range_is, expr_assign_is, expr_postfix_is, expr_block_is, expr_unsafe_is, expr_const_block_is, expr_async_is, expr_if_is, expr_match_is, expr_loop_is, expr_while_is, expr_for_is, expr_closure_is, expr_typed_closure_is, expr_return_is, expr_break_is}
use Rattle.lay_code.proofs.reader.ExprFronts.{no_depth}
use Rattle.lay_code.proofs.reader.ExprOperators.{path_refuses}

-- In code a path refuses `::` and generic arguments alone.
code_refuses : (p : Path) → (about_path p Code).good ≡ true → path_refuses (about_path p Code).refuses ≡ true
code_refuses p g =
    subst (λ (F : PathFacts). path_refuses (F Code).refuses ≡ true) (sym (path_is p)) (segments p.segments (path_goods Code p g).1)
  where
    by : (a : Args) → ArgsView a → (about_args a).code.good ≡ true → path_refuses (about_args a).code.refuses ≡ true
    by _ IsNone h = subst (λ (F : ArgsFacts). path_refuses F.code.refuses ≡ true) (sym args_none_is) refl
    by _ (IsAngle xs) h = subst (λ (F : ArgsFacts). path_refuses F.code.refuses ≡ true) (sym (args_angle_is xs)) refl
    by _ (IsRound xs y) h = let e = sym (ap (λ (F : ArgsFacts). F.code.good) (args_round_is xs y)) ∙ h in absurd (cc)

    segments : (ss : List (Word × Args)) → segments_good Code (map about_segment ss) ≡ true
        → path_refuses (segments_refuse Code (map about_segment ss)) ≡ true
    segments [] h = refl
    segments (s ∷ []) h = by s.1 (args_view s.1) (and_parts _ (about_args s.1).code.good h).1
    segments (s ∷ v ∷ more) h =
        segments (v ∷ more)
        (and_parts (segment_good Code (about_segment s) && not (about_args s.1).returns)
        (segments_good Code (map about_segment (v ∷ more))) h).1

-- A field at the end refuses `::` alone, and other steps nothing.
steps_refuse : (ss : List StepFacts) → path_refuses (tail_of_steps ss).refuses ≡ true
steps_refuse [] = refl
steps_refuse (s ∷ []) = by s.kind
  where
    by : (k : StepKind) → path_refuses (tail_of_steps (record s { kind = k } ∷ [])).refuses ≡ true
    by OfField = refl
    by _ = refl
steps_refuse (s ∷ t ∷ more) = steps_refuse (t ∷ more)

-- What is asked of an expression by its root and its end.
pub record StandsParts (x : ExprFacts) (place : Place) : Type 0 where
  pub level : nat_le place.level x.level ≡ true
  pub shut : not (place.op_after && is_open x.tail) ≡ true
  pub typed : not (place.lt_after && is_typed x.tail) ≡ true
  pub part : not (is_part place.start && x.block_like) ≡ true
  pub struct_free : not (place.no_struct && x.is_struct) ≡ true

-- what it is to stand in a place
pub stands_parts : (x : ExprFacts) (place : Place) → stands x place ≡ true → StandsParts x place
stands_parts x place h =
    let level = nat_le place.level x.level in
    let shut = not (place.op_after && is_open x.tail) in
    let typed = not (place.lt_after && is_typed x.tail) in
    let part = not (is_part place.start && x.block_like) in
    let p = and_parts (level && shut && typed && part) (not (place.no_struct && x.is_struct)) h in
    let q = and_parts (level && shut && typed) part p.0 in
    let r = and_parts (level && shut) typed q.0 in
    let l = and_parts level shut r.0 in
    record { level = l.0; shut = l.1; typed = r.1; part = q.1; struct_free = p.1 }

-- It ends as paths and fields do, where it is of level 12 or more and doesn't take all operators.
abbrev EndsAsPath : ExprFacts → Type 0
EndsAsPath F = nat_le 12 F.level ≡ true → F.tail.takes_all ≡ false → path_refuses F.tail.refuses ≡ true

-- all expressions that are spelled at a depth do
abbrev AllEnd : ℕ → Type 0
AllEnd depth =
    (x : Expr) (no_struct first : Bool) (ts rest : Tokens) → Spells (about_expr x).form depth ts rest
    → (about_expr x).within no_struct first ≡ true
    → EndsAsPath (about_expr x)

module _ (depth : ℕ) (ih : AllEnd depth) (no_struct first : Bool) (ts rest : Tokens) where
  -- an expression with these facts does, one level deeper
  abbrev EndsBy : ExprFacts → Type 0
  EndsBy F = Spells F.form (suc depth) ts rest → F.within no_struct first ≡ true → EndsAsPath F

  -- by the layer of its kind
  told : (x : Expr) (F : ExprLayer) → about_expr x ≡ expr_facts F
      → (Spells (inside F) depth ts rest → within_of F no_struct first ≡ true → EndsAsPath (expr_facts F)) → EndsBy (about_expr x)
  told x F e f = subst EndsBy (sym e) (λ s w. f (subst (λ us. Spells (inside F) depth ts us) s.2 s.1) w)

  -- the operand after operators before it
  prefixes_end : (ps : List Prefix) (x : Expr) (us : Tokens) → Spells (prefixes_form ps (Part (about_expr x).form Done)) depth us rest
      → (at : Tokens) × Spells (about_expr x).form depth at rest
  prefixes_end [] x us s = (us, part_alone (about_expr x).form depth us rest s)
  prefixes_end (p ∷ ps) x us s = prefixes_end ps x s.0 s.2

  -- Chains are of lower levels.
  chain_end : (x : Expr) (more : List (Op × Expr)) → EndsBy (about_expr (expr.Chain x more))
  chain_end x more = told (expr.Chain x more) (Expr-F.Chain (about_expr x) (map behind_op more)) (expr_chain_is x more) (λ s w l t.
      let os = map behind_op more in
      let level = level_of_chain os in
      let place = before_op (suc level) no_struct first (next_is_angle os) in
      let w4 =
      and_parts (is_chain_level level && may_chain level os && placed (about_expr x) place) (operands_placed level no_struct os) w in
      let w3 = and_parts (is_chain_level level && may_chain level os) (placed (about_expr x) place) w4.0 in
      let w2 = and_parts (is_chain_level level) (may_chain level os) w3.0 in
      let most = leb-true level 10 (and_parts (nat_le 2 level) (nat_le level 10) w2.0).1 in
      let least = leb-true 12 level l in
      absurd (omega (arith, most, least)))

  -- A unary expression ends as its operand does.
  unary_end : (ps : List Prefix) (x : Expr) → EndsBy (about_expr (expr.Unary ps x))
  unary_end ps x = told (expr.Unary ps x) (Expr-F.Unary ps (about_expr x)) (expr_unary_is ps x) (λ s w l t.
      let F = about_expr x in
      let u = prefixes_end ps x ts s in
      let w2 = and_parts (is_there ps && placed F (plain 12 no_struct)) (not (is_prefix_lead F.lead)) w in
      let w1 = and_parts (is_there ps) (placed F (plain 12 no_struct)) w2.0 in
      let p = and_parts (stands F (plain 12 no_struct)) (F.within no_struct false) w1.1 in
      ih x no_struct false u.0 rest u.1 p.1 (stands_parts F (plain 12 no_struct) p.0).level t)

  -- an expression that ends in a delimiter, or in nothing that refuses what follows
  shut_end : (x : Expr) (F : ExprLayer) → about_expr x ≡ expr_facts F → path_refuses (tail_of F).refuses ≡ true
      → EndsBy (about_expr x)
  shut_end x F e g = told x F e (λ s w l t. g)

  -- one of a lower level
  low_end : (x : Expr) (F : ExprLayer) → about_expr x ≡ expr_facts F → nat_le 12 (level_of F) ≡ false
      → EndsBy (about_expr x)
  low_end x F e low = told x F e (λ s w l t. let f = sym low ∙ l in absurd (cc))

  -- What `return` and `break` hand back takes all operators.
  jump_end : (x : Expr) (F : ExprLayer) → about_expr x ≡ expr_facts F → (y : Option ExprFacts)
      → tail_of F ≡ tail_of_jump y → EndsBy (about_expr x)
  jump_end x F e None j = told x F e (λ s w l t. subst (λ (z : Tail). path_refuses z.refuses ≡ true) (sym j) refl)
  jump_end x F e (Some y) j = told x F e (λ s w l t. let f = ap (λ (z : Tail). z.takes_all) (sym j) ∙ t in absurd (cc))

  -- A closure takes all operators.
  taking_end : (x : Expr) (F : ExprLayer) → about_expr x ≡ expr_facts F → (tail_of F).takes_all ≡ true → EndsBy (about_expr x)
  taking_end x F e takes = told x F e (λ s w l t. let f = sym takes ∙ t in absurd (cc))

  -- kind by kind
  ends : (x : Expr) → ExprView x → EndsBy (about_expr x)
  ends _ (IsLit l) = shut_end (expr.Lit l) (Expr-F.Lit l) (expr_lit_is l) refl
  ends _ (IsPath path) = told (expr.Path path) (Expr-F.Path path) (expr_path_is path) (λ s w l t. code_refuses path w)
  ends _ IsUnderscore = shut_end expr.Underscore Expr-F.Underscore expr_underscore_is refl
  ends _ (IsCall call) = shut_end (expr.Call call) (Expr-F.Expr::Call call) (expr_call_is call) refl
  ends _ (IsParen x) = shut_end (expr.Paren x) (Expr-F.Paren (about_expr x)) (expr_paren_is x) refl
  ends _ (IsContinue label) = shut_end (expr.Continue label) (Expr-F.Continue label) (expr_continue_is label) refl
  ends _ (IsTuple xs) = shut_end (expr.Tuple xs) (Expr-F.Tuple (map about_expr xs)) (expr_tuple_is xs) refl
  ends _ (IsArray xs) = shut_end (expr.Array xs) (Expr-F.Array (map about_expr xs)) (expr_array_is xs) refl
  ends _ (IsRepeat x us) = shut_end (expr.Repeat x us) (Expr-F.Repeat (about_expr x) us) (expr_repeat_is x us) refl
  ends _ (IsStruct path fields base) =
      shut_end (expr.Struct path fields base) (Expr-F.Expr::Struct path (map about_field_expr fields) (option_map (option_map about_expr) base))
      (expr_struct_is path fields base) refl
  ends _ (IsChain x more) = chain_end x more
  ends _ (IsCast x types) = low_end (expr.Cast x types) (Expr-F.Cast (about_expr x) types) (expr_cast_is x types) refl
  ends _ (IsUnary ps x) = unary_end ps x
  ends _ (IsRange start inclusive end) =
      low_end (expr.Range start inclusive end) (Expr-F.Range (option_map about_expr start) inclusive (option_map about_expr end))
      (expr_range_is start inclusive end) refl
  ends _ (IsAssign targets x) =
      low_end (expr.Assign targets x) (Expr-F.Assign (map target_of targets) (about_expr x)) (expr_assign_is targets x) refl
  ends _ (IsPostfix x steps) =
      shut_end (expr.Postfix x steps) (Expr-F.Postfix (about_expr x) (map about_step steps)) (expr_postfix_is x steps)
      (steps_refuse (map about_step steps))
  ends _ (IsBlock label b) = shut_end (expr.Block label b) (Expr-F.Block label (about_block b)) (expr_block_is label b) refl
  ends _ (IsUnsafe b) = shut_end (expr.Unsafe b) (Expr-F.Unsafe (about_block b)) (expr_unsafe_is b) refl
  ends _ (IsConstBlock b) = shut_end (expr.ConstBlock b) (Expr-F.ConstBlock (about_block b)) (expr_const_block_is b) refl
  ends _ (IsAsync moves b) = shut_end (expr.Async moves b) (Expr-F.Async moves (about_block b)) (expr_async_is moves b) refl
  ends _ (IsIf bs o) = shut_end (expr.If bs o) (Expr-F.If (map about_branch bs) (option_map about_block o)) (expr_if_is bs o) refl
  ends _ (IsMatch x attrs arms) = shut_end (expr.Match x attrs arms) (Expr-F.Match (about_expr x) attrs (map about_arm arms)) (expr_match_is x attrs arms) refl
  ends _ (IsLoop label b) = shut_end (expr.Loop label b) (Expr-F.Loop label (about_block b)) (expr_loop_is label b) refl
  ends _ (IsWhile label c b) = shut_end (expr.While label c b) (Expr-F.While label (about_condition c) (about_block b)) (expr_while_is label c b) refl
  ends _ (IsFor label pat x b) = shut_end (expr.For label pat x b) (Expr-F.For label pat (about_expr x) (about_block b)) (expr_for_is label pat x b) refl
  ends _ (IsClosure is_async moves params x) = taking_end (expr.Closure is_async moves params x) (Expr-F.Closure is_async moves params (about_expr x)) (expr_closure_is is_async moves params x) refl
  ends _ (IsTypedClosure is_async moves params output b) = shut_end (expr.TypedClosure is_async moves params output b) (Expr-F.TypedClosure is_async moves params output (about_block b)) (expr_typed_closure_is is_async moves params output b) refl
  ends _ (IsReturn x) = jump_end (expr.Return x) (Expr-F.Return (option_map about_expr x)) (expr_return_is x) (option_map about_expr x) refl
  ends _ (IsBreak label x) =
      jump_end (expr.Break label x) (Expr-F.Break label (option_map about_expr x)) (expr_break_is label x) (option_map about_expr x) refl

-- and so at every depth
all_end : (depth : ℕ) → AllEnd depth
all_end zero x no_struct first ts rest s w = absurd (no_depth x ts rest s)
all_end (suc depth) x no_struct first ts rest s w = ends depth (all_end depth) no_struct first ts rest x (expr_view x) s w

-- What is spelled, of level 12 or more and not open at its end, ends as paths and fields do.
pub high_refuses : (x : Expr) (no_struct first : Bool) (depth : ℕ) (ts rest : Tokens) → Spells (about_expr x).form depth ts rest
    → (about_expr x).within no_struct first ≡ true → nat_le 12 (about_expr x).level ≡ true → is_open (about_expr x).tail ≡ false
    → path_refuses (about_expr x).tail.refuses ≡ true
high_refuses x no_struct first depth ts rest s w l shut =
    let t = (about_expr x).tail in all_end depth x no_struct first ts rest s w l
    (or_parts t.takes_all t.bare (or_parts (t.takes_all || t.bare) t.closure shut).0).0

-- ---- an operand before an operator

-- An expression with these facts stands before an operator of a level; the flags say that no struct literal may stand
-- there, that it begins a part of what begins a statement, and that the operator is `<` or `<<`.
pub record BeforeOp (x : ExprFacts) (level : ℕ) (no_struct first angle : Bool) : Type 0 where
  pub high : nat_le level x.level ≡ true
  pub shut : is_open x.tail ≡ false
  pub typed : angle ≡ true → is_typed x.tail ≡ false
  pub part : first ≡ true → x.block_like ≡ false
  pub struct_free : not (no_struct && x.is_struct) ≡ true

-- what it is to stand before an operator
pub before_parts : (x : ExprFacts) (level : ℕ) (no_struct first angle : Bool) → stands x (before_op level no_struct first angle) ≡ true
    → BeforeOp x level no_struct first angle
before_parts x level no_struct first angle h =
    let p = stands_parts x (before_op level no_struct first angle) h in
    record {
      high = p.level;
      shut = not-true (is_open x.tail) p.shut;
      typed = λ e. by angle e p.typed;
      part = λ e. starts first e p.part;
      struct_free = p.struct_free;
    }
  where
    by : (a : Bool) → a ≡ true → not (a && is_typed x.tail) ≡ true → is_typed x.tail ≡ false
    by true e g = not-true (is_typed x.tail) g
    by false e g = absurd (cc)

    starts : (a : Bool) → a ≡ true → not (is_part (part_if a) && x.block_like) ≡ true → x.block_like ≡ false
    starts true e g = not-true x.block_like g
    starts false e g = absurd (cc)
