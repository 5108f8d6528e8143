-- Steps after a base.
use Rattle.std.proofs.Common.{◌≡◌, ◌∙◌, ◌≤◌, ◌+◌, max, Bool, true, false, ◌&&◌, ◌||◌, not, if◌then◌else◌, List, [], ◌∷◌, ◌++◌, map, None, refl, sym, ap, subst, arith}
use Rattle.std.specs.Prelude.{nat_le}
use Rattle.std.specs.List.{AllByRecursion}
use Rattle.std.proofs.lemmas.Bool.{and_parts, and_from}
use Rattle.std.proofs.lemmas.List.{map-append}
use Rattle.lay_piece.specs.declared.kind.Delim.TheVariants.{Paren}
use Rattle.lay_form.specs.Depth.{least_depth}
use Rattle.lay_form.specs.Form.{Form, Done, Part, closer, opener}
use Rattle.lay_form.specs.Pieces.{are_pieces}
use Rattle.lay_node.specs.Follow.{OfColons}
use Rattle.lay_node.specs.Words.{is_name}
use Rattle.lay_node.specs.declared.token.Name.{Name}
use Rattle.lay_code.specs.nodes.Code.{about_expr, about_step}
use Rattle.lay_code.specs.nodes.Exprs.{ExprFacts, StepFacts, all_free, are_steps, args_form, break_if, expr_facts, expr_forms, group_if, is_call, is_dotted, is_field, is_method, is_open, is_tuple_index, is_typed, methods, placed, postfix_form, postfix_placed, step_facts, shut, shut_by, steps_form, tail_of_steps}
use Rattle.lay_code.specs.nodes.Layers.{ExprNode, StepNode}
use Rattle.lay_code.specs.nodes.Places.{before_op}
use Rattle.lay_code.specs.declared.blocks.Stmt.TheOpen.{Expr-F, Step-F}
use Rattle.lay_code.specs.declared.blocks.Stmt.TheViews.{out-Expr, out-Step, outs-Paren, roll-Expr, roll-out-Expr, roll-out-Step, rolls-Postfix}
use Rattle.lay_code.specs.declared.exprs.Expr.{Expr}
use Rattle.lay_code.specs.declared.exprs.Expr.TheVariants as expr
use Rattle.lay_code.specs.declared.exprs.Step.{Step}
use Rattle.lay_code.specs.declared.exprs.Step.TheVariants as step
use Rattle.lay_code.proofs.nodes.ExprsLaws as laws
use Rattle.lay_code.proofs.nodes.Layers.{expr_told, step_is, step_told}
use Rattle.lay_depth.specs.nodes.Depths.{greatest}
use Rattle.lay_depth.proofs.nodes_lemmas.Forms.{both_are}
use Rattle.lay_depth.specs.Parts.{step_form}
use Rattle.lay_depth.proofs.ExprLemmas as depths
use Rattle.lay_build_types.specs.Answers.{IsMade}
use Rattle.lay_build_types.specs.Kinds.{IsExpr, StandsFree, form_of_expr}
use Rattle.lay_build_exprs.specs.Nodes as node
use Rattle.lay_build_exprs.proofs.ExprLemmas.{KeptExprs, MadeOperand, Operand, exprs_free, exprs_pieces, made_by, stands_at, told_is, unless_false}
use Rattle.lay_build_types.proofs.PathLemmas.{KeptName}
use Rattle.lay_build_types.proofs.PieceLemmas.{Pieces, ended, front, leaf_pieces, list_pieces}

-- ---- steps

abbrev step_pieces : StepFacts → Type 0
step_pieces s = Pieces s.form

abbrev StepPieces : List StepFacts → Type 0
StepPieces ss = AllByRecursion step_pieces ss

-- What is asked of a step: it is well formed, and no index.
pub record GoodStep (s : StepFacts) : Type 0 where
  pub pieces : Pieces s.form
  pub good : s.good ≡ true
  pub counts : is_tuple_index s.kind ≡ false

-- with a break before it or without
broken : (b : Bool) (f : Form) → are_pieces (break_if b f) ≡ are_pieces f
broken true f = refl
broken false f = refl

steps_there : (several behind : Bool) (ss : List StepFacts) → StepPieces ss → Pieces (steps_form several behind ss)
steps_there several behind [] all = refl
steps_there several behind (s ∷ ss) all =
    let more = steps_form several (behind || is_method s.kind) ss in
    broken (several && (behind && is_method s.kind)) (Part s.form more)
    ∙ and_from (are_pieces s.form) (are_pieces more) all.0 (steps_there several (behind || is_method s.kind) ss all.1)

steps_parts : (several behind : Bool) (ss : List StepFacts) → Pieces (steps_form several behind ss) → StepPieces ss
steps_parts several behind [] h = tt
steps_parts several behind (s ∷ ss) h =
    let more = steps_form several (behind || is_method s.kind) ss in
    let whole = sym (broken (several && (behind && is_method s.kind)) (Part s.form more)) ∙ h in
    let parts = and_parts (are_pieces s.form) (are_pieces more) whole in
    (parts.0, steps_parts several (behind || is_method s.kind) ss parts.1)

grouped : (b : Bool) (f : Form) → Pieces f → Pieces (group_if b f)
grouped true f h = ended (are_pieces f) h
grouped false f h = h

within_group : (b : Bool) (f : Form) → Pieces (group_if b f) → Pieces f
within_group true f h = front (are_pieces f) h
within_group false f h = h

module _ (x : ExprFacts) where
  postfix_there : (ss : List StepFacts) → Pieces x.form → StepPieces ss → Pieces (postfix_form x ss)
  postfix_there ss base all =
      let several = nat_le 2 (methods ss) in
      let steps = steps_form several false ss in
      grouped several (Part x.form steps) (and_from (are_pieces x.form) (are_pieces steps) base (steps_there several false ss all))

  postfix_parts : (ss : List StepFacts) → Pieces (postfix_form x ss) → Pieces x.form × StepPieces ss
  postfix_parts ss h =
      let several = nat_le 2 (methods ss) in
      let steps = steps_form several false ss in
      let parts = and_parts (are_pieces x.form) (are_pieces steps) (within_group several (Part x.form steps) h) in
      (parts.0, steps_parts several false ss parts.1)

-- ---- one more step

-- what the last step is
abbrev last_is : (StepFacts → Bool) → List StepFacts → Bool
last_is p [] = false
last_is p (s ∷ []) = p s
last_is p (s ∷ t ∷ more) = last_is p (t ∷ more)

abbrev is_field_facts : StepFacts → Bool
is_field_facts s = is_field s.kind

more_steps : (ss : List StepFacts) (one : StepFacts) → are_steps ss ≡ true → one.good ≡ true
    → not (last_is is_field_facts ss && is_call one.kind) ≡ true → are_steps (ss ++ one ∷ []) ≡ true
more_steps [] one h good apart = good
more_steps (s ∷ []) one h good apart =
    let joined = not (is_field s.kind && is_call one.kind) in and_from (s.good && joined) one.good (and_from s.good joined h apart) good
more_steps (s ∷ t ∷ more) one h good apart =
    let joined = not (is_field s.kind && is_call t.kind) in
    let parts = and_parts (s.good && joined) (are_steps (t ∷ more)) h in
    and_from (s.good && joined) (are_steps ((t ∷ more) ++ one ∷ [])) parts.0 (more_steps (t ∷ more) one parts.1 good apart)

last_tail : (ss : List StepFacts) (one : StepFacts) → tail_of_steps (ss ++ one ∷ []) ≡ tail_of_steps (one ∷ [])
last_tail [] one = refl
last_tail (s ∷ []) one = refl
last_tail (s ∷ t ∷ more) one = last_tail (t ∷ more) one

one_closed : (one : StepFacts) → is_open (tail_of_steps (one ∷ [])) ≡ false
one_closed one = by (is_field one.kind)
  where
    by : (b : Bool) → is_open (if b then shut_by (OfColons ∷ []) else shut) ≡ false
    by true = refl
    by false = refl

one_untyped : (one : StepFacts) → is_typed (tail_of_steps (one ∷ [])) ≡ false
one_untyped one = by (is_field one.kind)
  where
    by : (b : Bool) → is_typed (if b then shut_by (OfColons ∷ []) else shut) ≡ false
    by true = refl
    by false = refl

all_more : (ss : List StepFacts) (one : StepFacts) → StepPieces ss → Pieces one.form → StepPieces (ss ++ one ∷ [])
all_more [] one all h = (h, tt)
all_more (s ∷ ss) one all h = (all.0, all_more ss one all.1 h)

module _ (x : ExprFacts) (one : StepFacts) (h : GoodStep one) where
  -- the first step after a base of level 14
  first_within : Operand x → 14 ≤ x.level → (n f : Bool) → postfix_placed x (one ∷ []) n f ≡ true
  first_within stands level n f =
      let p = before_op 14 n (f && not (is_dotted one.kind)) false in
      let index = not (x.is_number && is_tuple_index one.kind) in
      and_from (one.good && index) (placed x p)
      (and_from one.good index h.good (unless_false x.is_number (is_tuple_index one.kind) h.counts))
      (stands_at x p stands.free level stands.block stands.literal)

  pub first_stands : Operand x → 14 ≤ x.level → StandsFree (expr_facts (Expr-F.Postfix x (one ∷ [])))
  first_stands stands level = record { within = first_within stands level; closed = one_closed one; untyped = one_untyped one }

  -- a further step after some
  further_within : (ss : List StepFacts) → not (last_is is_field_facts ss && is_call one.kind) ≡ true → (n f : Bool)
      → postfix_placed x ss n f ≡ true → postfix_placed x (ss ++ one ∷ []) n f ≡ true
  further_within [] apart n f old = cc
  further_within (s ∷ more) apart n f old =
      let ss = s ∷ more in
      let index = not (x.is_number && is_tuple_index s.kind) in
      let p = before_op 14 n (f && not (is_dotted s.kind)) false in
      let parts = and_parts (are_steps ss && index) (placed x p) old in
      let goods = and_parts (are_steps ss) index parts.0 in
      and_from (are_steps (ss ++ one ∷ []) && index) (placed x p)
      (and_from (are_steps (ss ++ one ∷ [])) index (more_steps ss one goods.0 h.good apart) goods.1) parts.1

  pub further_stands : (ss : List StepFacts) → not (last_is is_field_facts ss && is_call one.kind) ≡ true
      → StandsFree (expr_facts (Expr-F.Postfix x ss)) → StandsFree (expr_facts (Expr-F.Postfix x (ss ++ one ∷ [])))
  further_stands ss apart old = record {
    within = λ n f. further_within ss apart n f (old.within n f);
    closed = ap is_open (last_tail ss one) ∙ one_closed one;
    untyped = ap is_typed (last_tail ss one) ∙ one_untyped one;
  }

-- ---- over trees

-- whether the last step is a field, by its facts and by the node
field_step : (s : Step) → is_field (about_step s).kind ≡ node.is_field_node (out-Step s)
field_step s = ap (λ (f : StepFacts). is_field f.kind) (ap about_step (sym (roll-out-Step s)) ∙ step_is (out-Step s)) ∙ by (out-Step s)
  where
    by : (y : StepNode) → is_field (step_facts (step_told y)).kind ≡ node.is_field_node y
    by (Step-F.Field name) = refl
    by (Step-F.TupleIndex index) = refl
    by (Step-F.Method name generics args) = refl
    by (Step-F.Apply args) = refl
    by (Step-F.Index index) = refl
    by Step-F.Try = refl
    by Step-F.Await = refl

last_field : (ss : List Step) → last_is is_field_facts (map about_step ss) ≡ node.field_last ss
last_field [] = refl
last_field (s ∷ []) = field_step s
last_field (s ∷ t ∷ more) = last_field (t ∷ more)

-- A call isn't after a field.
abbrev pub Apart : Expr → Step → Type 0
Apart x one = not (node.ends_in_field x && is_call (about_step one).kind) ≡ true

-- A base that has no steps stands at the highest level.
high_root : (y : ExprNode) → node.is_operand_node y ≡ true → node.is_postfix_node y ≡ false → 14 ≤ (expr_facts (expr_told y)).level
high_root (Expr-F.Lit literal) h none = omega arith
high_root (Expr-F.Path path) h none = omega arith
high_root (Expr-F.Paren inner) h none = omega arith
high_root (Expr-F.Tuple elements) h none = omega arith
high_root _ h none = absurd (let no : ⊥ = cc in no)

plain_step : (x : Expr) (one : Step) (y : ExprNode) → node.is_postfix_node y ≡ false → node.stepped_node y x one ≡ expr.Postfix x (one ∷ [])
plain_step x one (Expr-F.Postfix base steps) none = absurd (let no : ⊥ = cc in no)
plain_step x one _ none = refl

-- An operand with a step after it is made.
module _ (x : Expr) (one : Step) (operand : MadeOperand x) (is : node.is_operand x ≡ true) (h : GoodStep (about_step one)) (apart : Apart x one) where
  fresh : node.is_postfix x ≡ false → IsMade form_of_expr IsExpr (expr.Postfix x (one ∷ []))
  fresh none =
      let level = subst (λ (f : ExprFacts). 14 ≤ f.level) (sym (told_is x)) (high_root (out-Expr x) is none) in
      let pieces = postfix_there (about_expr x) (about_step one ∷ []) operand.made.pieces (h.pieces, tt) in
      made_by (expr.Postfix x (one ∷ [])) _ (laws.expr_postfix_is x (one ∷ [])) (ended (are_pieces (postfix_form (about_expr x) (about_step one ∷ []))) pieces)
      (first_stands (about_expr x) (about_step one) h operand.stands level)

  more : (base : Expr) (steps : List Step) → x ≡ expr.Postfix base steps → not (node.field_last steps && is_call (about_step one).kind) ≡ true
      → IsMade form_of_expr IsExpr (expr.Postfix base (steps ++ one ∷ []))
  more base steps same behind =
      let b = about_expr base in
      let ss = map about_step steps in
      let s = about_step one in
      let old : about_expr x ≡ expr_facts (Expr-F.Postfix b ss) = ap about_expr same ∙ laws.expr_postfix_is base steps in
      let parts = postfix_parts b ss (front (are_pieces (postfix_form b ss)) (sym (ap (λ (f : ExprFacts). are_pieces f.form) old) ∙ operand.made.pieces)) in
      let pieces = postfix_there b (ss ++ s ∷ []) parts.0 (all_more ss s parts.1 h.pieces) in
      let behind_last = ap (λ (c : Bool). not (c && is_call s.kind)) (last_field steps) ∙ behind in
      let told : about_expr (expr.Postfix base (steps ++ one ∷ [])) ≡ expr_facts (Expr-F.Postfix b (ss ++ s ∷ [])) =
      laws.expr_postfix_is base (steps ++ one ∷ []) ∙ ap (λ (ts : List StepFacts). expr_facts (Expr-F.Postfix b ts)) (map-append about_step steps (one ∷ [])) in
      made_by (expr.Postfix base (steps ++ one ∷ [])) _ told (ended (are_pieces (postfix_form b (ss ++ s ∷ []))) pieces)
      (further_stands b s h ss behind_last (subst StandsFree old operand.made.holding))

  by_root : (b : Bool) (y : ExprNode) → out-Expr x ≡ y → node.is_postfix_node y ≡ b → IsMade form_of_expr IsExpr (node.stepped_node y x one)
  by_root true (Expr-F.Postfix base steps) same has =
      more base steps (sym (roll-out-Expr x) ∙ ap roll-Expr same ∙ rolls-Postfix base steps)
      (subst (λ (z : ExprNode). not (node.field_ends z && is_call (about_step one).kind) ≡ true) same apart)
  by_root true _ same has = absurd (let no : ⊥ = cc in no)
  by_root false y same none =
      subst (IsMade form_of_expr IsExpr) (sym (plain_step x one y none)) (fresh (ap node.is_postfix_node same ∙ none))

  pub stepped_made : IsMade form_of_expr IsExpr (node.stepped x one)
  stepped_made = by_root (node.is_postfix x) (out-Expr x) refl refl

-- ---- what it needs

-- after the base, and after the steps that it has
pub fresh_need : (x : Expr) (one : Step) → node.is_postfix x ≡ false
    → least_depth (form_of_expr (node.stepped x one)) ≡ max (least_depth (form_of_expr x)) (least_depth (about_step one).form) + 1
fresh_need x one none =
    ap (λ (y : Expr). least_depth (form_of_expr y)) (plain_step x one (out-Expr x) none)
    ∙ (let h = depths.postfix_is (expr.Postfix x (one ∷ [])) x (one ∷ []) refl in omega (arith, h))

further_need : (base : Expr) (steps : List Step) (one : Step)
    → least_depth (form_of_expr (expr.Postfix base (steps ++ one ∷ [])))
    ≡ max (least_depth (form_of_expr (expr.Postfix base steps))) (least_depth (about_step one).form + 1)
further_need base steps one =
    let h = depths.postfix_is (expr.Postfix base (steps ++ one ∷ [])) base (steps ++ one ∷ []) refl in
    let old = depths.postfix_is (expr.Postfix base steps) base steps refl in
    let all = ap greatest (map-append step_form steps (one ∷ [])) ∙ both_are (map step_form steps) (step_form one ∷ []) in
    omega (arith, h, old, all)

pub more_need : (x : Expr) (one : Step) → node.is_postfix x ≡ true
    → least_depth (form_of_expr (node.stepped x one)) ≡ max (least_depth (form_of_expr x)) (least_depth (about_step one).form + 1)
more_need x one has = by (out-Expr x) refl has
  where
    by : (y : ExprNode) → out-Expr x ≡ y → node.is_postfix_node y ≡ true
        → least_depth (form_of_expr (node.stepped_node y x one)) ≡ max (least_depth (form_of_expr x)) (least_depth (about_step one).form + 1)
    by (Expr-F.Postfix base steps) same has =
        let is : x ≡ expr.Postfix base steps = sym (roll-out-Expr x) ∙ ap roll-Expr same ∙ rolls-Postfix base steps in
        further_need base steps one
        ∙ ap (λ (y : Expr). max (least_depth (form_of_expr y)) (least_depth (about_step one).form + 1)) (sym is)
    by _ same has = absurd (let no : ⊥ = cc in no)

-- ---- the steps of the calls

good_by : (s : Step) (facts : StepFacts) → about_step s ≡ facts → GoodStep facts → GoodStep (about_step s)
good_by s facts is h = subst GoodStep (sym is) h

module _ (n : Name) (kept : KeptName n) where
  pub field_good : GoodStep (about_step (step.Field n))
  field_good =
      good_by (step.Field n) _ (laws.step_field_is n)
      (record { pieces = leaf_pieces n.raw n.text Done kept.made.pieces refl; good = kept.made.holding; counts = refl })

  pub method_good : (xs : List Expr) → KeptExprs xs → GoodStep (about_step (step.Method n None xs))
  method_good xs all =
      let args = args_form (map about_expr xs) in
      let free = all_free (map about_expr xs) in
      let listed = list_pieces true (opener Paren) (closer Paren) (expr_forms (map about_expr xs)) (exprs_pieces xs all) in
      good_by (step.Method n None xs) _ (laws.step_method_is n None xs)
      (record {
        pieces = leaf_pieces n.raw n.text (Part args Done) kept.made.pieces (ended (are_pieces args) listed);
        good = and_from (is_name n.raw n.text && true) free (ended (is_name n.raw n.text) kept.made.holding) (exprs_free xs all);
        counts = refl;
      })

pub call_good : (xs : List Expr) → KeptExprs xs → GoodStep (about_step (step.Apply xs))
call_good xs all =
    good_by (step.Apply xs) _ (laws.step_apply_is xs)
    (record {
      pieces = list_pieces true (opener Paren) (closer Paren) (expr_forms (map about_expr xs)) (exprs_pieces xs all);
      good = exprs_free xs all;
      counts = refl;
    })

-- What isn't a call may stand after a field.
pub field_apart : (x : Expr) (n : Name) → Apart x (step.Field n)
field_apart x n =
    unless_false (node.ends_in_field x) (is_call (about_step (step.Field n)).kind) (ap (λ (s : StepFacts). is_call s.kind) (laws.step_field_is n))

pub method_apart : (x : Expr) (n : Name) (xs : List Expr) → Apart x (step.Method n None xs)
method_apart x n xs =
    unless_false (node.ends_in_field x) (is_call (about_step (step.Method n None xs)).kind)
    (ap (λ (s : StepFacts). is_call s.kind) (laws.step_method_is n None xs))

-- ---- bases

paren_root : (x : Expr) → node.is_operand (expr.Paren x) ≡ true
paren_root x = ap node.is_operand_node (outs-Paren x)

paren_ends : (x : Expr) → node.ends_in_field (expr.Paren x) ≡ false
paren_ends x = ap node.field_ends (outs-Paren x)

pub operand_root : (x : Expr) → node.is_operand (node.operand x) ≡ true
operand_root x = by (node.is_operand x) refl
  where
    by : (b : Bool) → node.is_operand x ≡ b → node.is_operand (node.unless b x) ≡ true
    by true h = h
    by false h = paren_root x

module _ (x : Expr) where
  pub callee_root : node.is_operand (node.callee x) ≡ true
  callee_root = by (node.ends_in_field x)
    where
      by : (b : Bool) → node.is_operand (if b then expr.Paren x else node.operand x) ≡ true
      by true = paren_root x
      by false = operand_root x

  operand_ends : node.ends_in_field x ≡ false → node.ends_in_field (node.operand x) ≡ false
  operand_ends h = by (node.is_operand x)
    where
      by : (b : Bool) → node.ends_in_field (node.unless b x) ≡ false
      by true = h
      by false = paren_ends x

  callee_ends : node.ends_in_field (node.callee x) ≡ false
  callee_ends = by (node.ends_in_field x) refl
    where
      by : (b : Bool) → node.ends_in_field x ≡ b → node.ends_in_field (if b then expr.Paren x else node.operand x) ≡ false
      by true h = paren_ends x
      by false h = operand_ends h

  -- No call's base ends in a field.
  pub callee_apart : (one : Step) → Apart (node.callee x) one
  callee_apart one = ap (λ (b : Bool). not (b && is_call (about_step one).kind)) callee_ends
