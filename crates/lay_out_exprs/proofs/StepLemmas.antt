-- The streams of steps, and of the postfix expressions and chains that loops put.
use Rattle.std.proofs.Common.{◌≡◌, ℕ, suc, ◌+◌, ◌==◌, ◌<◌, ◌≤◌, ◌&&◌, ◌||◌, nat_le, Bool, true, false, cond, if◌then◌else◌, List, [], ◌∷◌, ◌++◌, map, length, codes, get_or, drop, drop-cons, add-one, pos, Option, Some, None, refl, sym, ap, ◌∙◌, append-nil, append_assoc, arith, OnOk, Result}
use Rattle.std.proofs.Math.ListN.{drop_of_length-le}
use Rattle.std.proofs.lemmas.Bool.Decides.{nat_tests}
use Rattle.lay_layout.specs.Machine.{IsNested, opened}
use Rattle.lay_layout.specs.declared.layout.Tok.{Tok}
use Rattle.lay_layout.specs.declared.layout.Tok.TheVariants as tok
use Rattle.lay_piece.specs.declared.kind.Delim.TheVariants.{Bracket}
use Rattle.lay_stream.specs.Fed.{Meanings}
use Rattle.lay_stream.proofs.Calls.{opened_append}
use Rattle.lay_form.specs.Form.{Form, Blank, Operator, Done, Part, Piece, Soft, Never, closer}
use Rattle.lay_form.specs.Layout.{break_of, ends_behind_point}
use Rattle.lay_form.specs.Notation.{N, Z-, piece}
use Rattle.lay_form.specs.Stream.{fed, stream_of}
use Rattle.lay_node.specs.Words.{leaf_of}
use Rattle.lay_node.specs.nodes.Types.{about_arg, about_type, angle_form}
use Rattle.lay_node.specs.declared.token.Name.{Name}
use Rattle.lay_node.specs.declared.types.Arg.{Arg}
use Rattle.lay_node.specs.declared.types.Ty.{Ty}
use Rattle.lay_code.specs.Operators.{op_text}
use Rattle.lay_code.specs.nodes.Code.{about_expr, about_step}
use Rattle.lay_code.specs.nodes.Exprs.{ExprFacts, StepFacts, args_form, break_if, expr_forms, generics_form, group_if, is_method, methods, operands_form, steps_form, targets_form, types_form}
use Rattle.lay_code.specs.declared.exprs.Expr.{Expr}
use Rattle.lay_code.specs.declared.exprs.Expr.TheVariants as expr
use Rattle.lay_code.specs.declared.exprs.Step.{Step}
use Rattle.lay_code.specs.declared.exprs.Step.TheVariants as step
use Rattle.lay_code.specs.declared.operators.Op.{Op}
use Rattle.lay_code.proofs.nodes.ExprsLaws.{expr_assign_is, expr_postfix_is, IsApplyStep, IsAwaitStep, IsFieldStep, IsIndexStep, IsMethodStep, IsTryStep, IsTupleIndexStep, StepView, step_apply_is, step_await_is, step_field_is, step_index_is, step_method_is, step_try_is, step_tuple_index_is, step_view}
use Rattle.lay_out_tokens.proofs.StreamParts.{fed_more, leaf_more}
use Rattle.lay_out_types.specs.Calls.{Adds}
use Rattle.lay_out_types.specs.Rows.{comma_between, last_break, list_closed, list_opened, row}
use Rattle.lay_out_types.proofs.Adding.{level_behind, on_ok}
use Rattle.lay_out_types.proofs.FormRows.{one_open}
use Rattle.lay_out_exprs.specs.Parts.{before_op, behind_op, expr_told, steps_closed}
use Rattle.lay_out_exprs.proofs.Feeds.{Any, level_at, no_point, op_fed, part_at}
use Rattle.lay_out_exprs.proofs.ExprLemmas.{operands_any, round_any, round_are, told, told_is, types_any}

-- ---- chains, assignments and casts

-- what a turn puts
pub operand_turn : (x : Op × Expr) (rest : List (Op × Expr))
    → (tok.Break (break_of (Soft false 1)) ∷ tok.Text (op_text x.0) ∷ tok.Text (codes " ") ∷ told false x.1)
    ++ stream_of (operands_form (map behind_op rest)) ≡ stream_of (operands_form (map behind_op (x ∷ rest)))
operand_turn x rest =
    let f = operands_form (map behind_op rest) in
    ap (λ (s : List Tok). tok.Break (break_of (Soft false 1)) ∷ tok.Text (op_text x.0) ∷ tok.Text (codes " ") ∷ s)
    (part_at false (expr_told x.1) f (operands_any (map behind_op rest)))
    ∙ ap (λ (s : List Tok). tok.Break (break_of (Soft false 1)) ∷ s) (sym (op_fed x.0 (Part (expr_told x.1) f) []))

-- A chain may be closed after its operands.
pub may_end_chain : {S F T : Type 0} {m : Meanings S F} {a b : S} {p r : Result T F} (q : Bool) (e f : Form)
    → Adds m p a (tok.Begin false (pos 4) ∷ (fed q e [] ++ stream_of f)) r b → OnOk r (0 < m.groups b)
may_end_chain {m} {a} {p} {r} q e f h =
    on_ok r (λ x is. (one_open (m.groups a) (level_behind p r x h is
    ∙ opened_append (fed q e []) (stream_of f) (suc (m.groups a))
    ∙ ap (opened (stream_of f)) (level_at q e (suc (m.groups a))) ∙ level_at false f (suc (m.groups a)))).0)

-- what follows a target
abbrev behind_target : Op → Form → Form
behind_target o f = Piece (Blank ∷ []) (Piece (Operator (op_text o) ∷ []) (Piece (Blank ∷ []) (N f)))

-- what a turn puts
pub target_turn : (q : Bool) (x : Expr × Op) (rest : List (Expr × Op)) (last : Form)
    → (told q x.0 ++ (tok.Text (codes " ") ∷ tok.Text (op_text x.1) ∷ tok.Text (codes " ") ∷ tok.Break (break_of Never) ∷ []))
    ++ fed false (targets_form (map before_op rest) last) [] ≡ fed q (targets_form (map before_op (x ∷ rest)) last) []
target_turn q x rest last =
    let f = targets_form (map before_op rest) last in
    append_assoc (told q x.0) (tok.Text (codes " ") ∷ tok.Text (op_text x.1) ∷ tok.Text (codes " ") ∷ tok.Break (break_of Never) ∷ [])
    (stream_of f)
    ∙ ap (λ (s : List Tok). told q x.0 ++ s) (by (ends_behind_point q (expr_told x.0)))
    ∙ sym (fed_more q (expr_told x.0) _)
  where
    by : (r : Bool)
        → tok.Text (codes " ") ∷ tok.Text (op_text x.1) ∷ tok.Text (codes " ") ∷ tok.Break (break_of Never)
        ∷ stream_of (targets_form (map before_op rest) last)
        ≡ fed r (behind_target x.1 (targets_form (map before_op rest) last)) []
    by true = ap (λ (s : List Tok). tok.Text (codes " ") ∷ s) (sym (op_fed x.1 (N (targets_form (map before_op rest) last)) []))
    by false = ap (λ (s : List Tok). tok.Text (codes " ") ∷ s) (sym (op_fed x.1 (N (targets_form (map before_op rest) last)) []))

-- all targets, and then the value
pub targets_fed : (q : Bool) (ts : List (Expr × Op)) (f : Form)
    → fed q (targets_form (map before_op ts) Done) [] ++ fed (q && (length ts == 0)) f []
    ≡ fed q (targets_form (map before_op ts) f) []
targets_fed true [] f = refl
targets_fed false [] f = refl
targets_fed q (t ∷ ts) f =
    let put : List Tok = told q t.0
    ++ (tok.Text (codes " ") ∷ tok.Text (op_text t.1) ∷ tok.Text (codes " ") ∷ tok.Break (break_of Never) ∷ []) in
    ap (λ (b : Bool). fed q (targets_form (map before_op (t ∷ ts)) Done) [] ++ fed b f []) (no_point q (length ts))
    ∙ ap (λ (s : List Tok). s ++ fed (false && (length ts == 0)) f []) (sym (target_turn q t ts Done))
    ∙ append_assoc put (stream_of (targets_form (map before_op ts) Done)) (fed (false && (length ts == 0)) f [])
    ∙ ap (λ (s : List Tok). put ++ s) (targets_fed false ts f)
    ∙ target_turn q t ts f

-- an assignment
pub assign_expr : (q r : Bool) (x value put : Expr) (targets more : List (Expr × Op)) → x ≡ expr.Assign targets value
    → more ≡ targets → put ≡ value → r ≡ (q && (length more == 0))
    → fed q (targets_form (map before_op more) Done) [] ++ told r put ≡ told q x
assign_expr q r x value put targets more is e f p =
    rw (p, e, f) (targets_fed q targets (Part (expr_told value) Done)
    ∙ told_is q x (expr.Assign targets value) _ is (expr_assign_is targets value))

-- what a turn puts
pub cast_turn : (x : Ty) (rest : List Ty)
    → (tok.Text (codes " as ") ∷ stream_of (about_type x).told.form) ++ stream_of (types_form (map about_type rest))
    ≡ stream_of (types_form (map about_type (x ∷ rest)))
cast_turn x rest =
    ap (λ (s : List Tok). tok.Text (codes " as ") ∷ s)
    (part_at false (about_type x).told.form (types_form (map about_type rest)) (types_any (map about_type rest)))

-- ---- steps

-- the stream of a step, after a point or not
abbrev pub step_told : Bool → Step → List Tok
step_told q x = fed q (about_step x).form []

-- it is of this kind
step_is : (q : Bool) (x y : Step) (facts : StepFacts) → x ≡ y → about_step y ≡ facts → fed q facts.form [] ≡ step_told q x
step_is q x y facts is e = sym (ap (step_told q) is ∙ ap (λ (z : StepFacts). fed q z.form []) e)

-- the point before a name, and what follows it
dot_fed : (q : Bool) (f : Form)
    → tok.Text (cond q (codes " .") (codes ".")) ∷ stream_of f ≡ fed q (Piece (Operator (codes ".") ∷ []) f) []
dot_fed true f = refl
dot_fed false f = refl

-- a field
pub field_step : (q : Bool) (x : Step) (name : Name) → x ≡ step.Field name
    → tok.Text (cond q (codes " .") (codes ".")) ∷ stream_of (leaf_of name.raw name.text Done) ≡ step_told q x
field_step q x name is =
    dot_fed q (leaf_of name.raw name.text Done) ∙ step_is q x (step.Field name) _ is (step_field_is name)

-- a place in a tuple
pub index_of_tuple : (q : Bool) (x : Step) (index put : List ℕ) → x ≡ step.TupleIndex index → put ≡ index
    → tok.Text (cond q (codes " .") (codes ".")) ∷ tok.Text put ∷ [] ≡ step_told q x
index_of_tuple true x index put is e = rw e (step_is true x (step.TupleIndex index) _ is (step_tuple_index_is index))
index_of_tuple false x index put is e = rw e (step_is false x (step.TupleIndex index) _ is (step_tuple_index_is index))

-- generic arguments, and what follows them
generics_more : (generics : Option (List Arg)) (f : Form) → Any f
    → stream_of (generics_form generics Done) ++ stream_of f ≡ stream_of (generics_form generics f)
generics_more None f any = refl
generics_more (Some args) f any = ap (λ (s : List Tok). tok.Text (codes "::") ∷ s) (part_at false (angle_form (map about_arg args)) f any)

-- a method
pub method_step : (q : Bool) (x : Step) (name : Name) (generics : Option (List Arg)) (args put : List Expr)
    → x ≡ step.Method name generics args → put ≡ args
    → tok.Text (cond q (codes " .") (codes ".")) ∷ (stream_of (leaf_of name.raw name.text Done)
    ++ (stream_of (generics_form generics Done) ++ (row (list_opened (codes "(")) comma_between (map expr_told put)
    ++ list_closed true (length put == 0) (codes "()") (codes ")")))) ≡ step_told q x
method_step q x name generics args put is e =
    let list = Part (args_form (map about_expr args)) Done in
    rw e (ap (λ (s : List Tok). tok.Text (cond q (codes " .") (codes ".")) ∷ s)
    (ap (λ (s : List Tok). stream_of (leaf_of name.raw name.text Done) ++ s)
    (ap (λ (s : List Tok). stream_of (generics_form generics Done) ++ s) (round_are args)
    ∙ generics_more generics list (record { at = (round_any (expr_forms (map about_expr args))).at }))
    ∙ leaf_more name.raw name.text (generics_form generics list))
    ∙ dot_fed q (leaf_of name.raw name.text (generics_form generics list))
    ∙ step_is q x (step.Method name generics args) _ is (step_method_is name generics args))

-- a call
pub apply_step : (q : Bool) (x : Step) (args put : List Expr) → x ≡ step.Apply args → put ≡ args
    → row (list_opened (codes "(")) comma_between (map expr_told put)
    ++ list_closed true (length put == 0) (codes "()") (codes ")") ≡ step_told q x
apply_step q x args put is e =
    rw e (round_are args ∙ sym ((round_any (expr_forms (map about_expr args))).at q)
    ∙ step_is q x (step.Apply args) _ is (step_apply_is args))

-- what closes an index
bracket_fed : (q r : Bool)
    → tok.Break (last_break false) ∷ tok.Text (codes "]") ∷ tok.End ∷ []
    ≡ fed q (Z- (piece (closer Bracket ∷ []))) (tok.End ∷ fed r Done [])
bracket_fed true r = refl
bracket_fed false r = refl

-- an index
pub index_step : (q : Bool) (x : Step) (index : Expr) → x ≡ step.Index index
    → list_opened (codes "[") ++ (told false index ++ list_closed false false (codes "[]") (codes "]")) ≡ step_told q x
index_step true x index is =
    ap (λ (s : List Tok). list_opened (codes "[") ++ s)
    (ap (λ (s : List Tok). told false index ++ s) (bracket_fed (ends_behind_point false (expr_told index)) false)
    ∙ sym (fed_more false (expr_told index) _))
    ∙ step_is true x (step.Index index) _ is (step_index_is index)
index_step false x index is =
    ap (λ (s : List Tok). list_opened (codes "[") ++ s)
    (ap (λ (s : List Tok). told false index ++ s) (bracket_fed (ends_behind_point false (expr_told index)) false)
    ∙ sym (fed_more false (expr_told index) _))
    ∙ step_is false x (step.Index index) _ is (step_index_is index)

-- The bracket may be closed after the index.
pub may_close_index : {S F T : Type 0} {m : Meanings S F} {a b : S} {p r : Result T F} (f : Form)
    → Adds m p a (list_opened (codes "[") ++ stream_of f) r b
    → OnOk r (IsNested (m.groups b) (list_closed false false (codes "[]") (codes "]")))
may_close_index {m} {a} {p} {r} f h =
    on_ok r (λ x e. one_open (m.groups a) (level_behind p r x h e ∙ level_at false f (suc (m.groups a))))

-- `?`
pub try_step : (q : Bool) (x : Step) → x ≡ step.Try → tok.Text (codes "?") ∷ [] ≡ step_told q x
try_step true x is = step_is true x step.Try _ is step_try_is
try_step false x is = step_is false x step.Try _ is step_try_is

-- `.await`
pub await_step : (q : Bool) (x : Step) → x ≡ step.Await
    → tok.Text (cond q (codes " .await") (codes ".await")) ∷ [] ≡ step_told q x
await_step true x is = step_is true x step.Await _ is step_await_is
await_step false x is = step_is false x step.Await _ is step_await_is

-- After a step no point stands.
leaf_shuts : (raw q : Bool) (text : List ℕ) (f : Form) → ends_behind_point false f ≡ false
    → ends_behind_point q (leaf_of raw text f) ≡ false
leaf_shuts true q text f e = e
leaf_shuts false q text f e = e

-- Nor does one stand after parentheses, and after generic arguments and these.
pub round_shuts : (q : Bool) (xs : List ExprFacts) → ends_behind_point q (args_form xs) ≡ false
round_shuts q [] = refl
round_shuts q (x ∷ xs) = refl

generics_shut : (generics : Option (List Arg)) (xs : List ExprFacts)
    → ends_behind_point false (generics_form generics (Part (args_form xs) Done)) ≡ false
generics_shut None xs = round_shuts false xs
generics_shut (Some args) xs = round_shuts _ xs

-- No step ends in a point, whatever its kind.
shut_by_kind : (q : Bool) (x : Step) → StepView x → ends_behind_point q (about_step x).form ≡ false
shut_by_kind q _ (IsFieldStep name) = rw (step_field_is name) (leaf_shuts name.raw false name.text Done refl)
shut_by_kind q _ (IsTupleIndexStep index) = rw (step_tuple_index_is index) refl
shut_by_kind q _ (IsMethodStep name generics args) =
    rw (step_method_is name generics args) (leaf_shuts name.raw false name.text _ (generics_shut generics (map about_expr args)))
shut_by_kind q _ (IsApplyStep args) = rw (step_apply_is args) (round_shuts q (map about_expr args))
shut_by_kind q _ (IsIndexStep index) = rw (step_index_is index) refl
shut_by_kind q _ IsTryStep = rw step_try_is refl
shut_by_kind q _ IsAwaitStep = rw step_await_is refl

pub step_shuts : (q : Bool) (x : Step) → ends_behind_point q (about_step x).form ≡ false
step_shuts q x = shut_by_kind q x (step_view x)

-- what a turn puts
pub step_turn : (q several behind method either : Bool) (x : Step) (rest : List Step)
    → method ≡ is_method (about_step x).kind → either ≡ (behind || method)
    → (cond (several && (behind && method)) (tok.Break (break_of (Soft false 0)) ∷ []) [] ++ step_told q x)
    ++ fed false (steps_form several either (map about_step rest)) []
    ≡ fed q (steps_form several behind (map about_step (x ∷ rest))) []
step_turn q several behind method either x rest e w =
    rw (w, e) (by (several && (behind && is_method (about_step x).kind)))
  where
    f : Form
    f = steps_form several (behind || is_method (about_step x).kind) (map about_step rest)

    shut : step_told q x ++ fed false f [] ≡ fed q (Part (about_step x).form f) []
    shut =
        ap (λ (b : Bool). step_told q x ++ fed b f []) (sym (step_shuts q x))
        ∙ sym (fed_more q (about_step x).form (fed (ends_behind_point q (about_step x).form) f []))

    by : (b : Bool)
        → (cond b (tok.Break (break_of (Soft false 0)) ∷ []) [] ++ step_told q x) ++ fed false f []
        ≡ fed q (break_if b (Part (about_step x).form f)) []
    by true = ap (λ (s : List Tok). tok.Break (break_of (Soft false 0)) ∷ s) shut
    by false = shut

-- ---- postfix expressions

-- a base and its steps, in a group or not
pub postfix_are : (q several : Bool) (e f : Form)
    → cond several (tok.Begin true (pos 4) ∷ []) [] ++ (fed q e [] ++ (fed (ends_behind_point q e) f [] ++ steps_closed several))
    ≡ fed q (group_if several (Part e f)) []
postfix_are q true e f =
    ap (λ (s : List Tok). tok.Begin true (pos 4) ∷ s)
    (ap (λ (s : List Tok). fed q e [] ++ s) (sym (fed_more (ends_behind_point q e) f (tok.End ∷ [])))
    ∙ sym (fed_more q e (fed (ends_behind_point q e) f (tok.End ∷ []))))
postfix_are q false e f =
    ap (λ (s : List Tok). fed q e [] ++ s) (append-nil (fed (ends_behind_point q e) f []))
    ∙ sym (fed_more q e (fed (ends_behind_point q e) f []))

-- a postfix expression
pub postfix_expr : (q several point : Bool) (x base put : Expr) (steps more : List Step) → x ≡ expr.Postfix base steps
    → put ≡ base → more ≡ steps → several ≡ nat_le 2 (methods (map about_step more)) → point ≡ ends_behind_point q (expr_told put)
    → cond several (tok.Begin true (pos 4) ∷ []) [] ++ (told q put
    ++ (fed point (steps_form several false (map about_step more)) [] ++ steps_closed several)) ≡ told q x
postfix_expr q several point x base put steps more is e f k p =
    let f' = steps_form (nat_le 2 (methods (map about_step steps))) false (map about_step steps) in
    rw (k, p, e, f) (postfix_are q (nat_le 2 (methods (map about_step steps))) (expr_told base) f'
    ∙ told_is q x (expr.Postfix base steps) _ is (expr_postfix_is base steps))

-- The group is open after the steps in it.
steps_nested : (q r several : Bool) (e f : Form) (n k : ℕ)
    → k ≡ opened (cond several (tok.Begin true (pos 4) ∷ []) [] ++ (fed q e [] ++ fed r f [])) n → IsNested k (steps_closed several)
steps_nested q r true e f n k is = one_open n (is ∙ opened_append (fed q e []) (fed r f []) (suc n)
    ∙ ap (opened (fed r f [])) (level_at q e (suc n)) ∙ level_at r f (suc n))
steps_nested q r false e f n k is = tt

-- A group may be closed after the steps in it.
pub may_close_steps : {S F T : Type 0} {m : Meanings S F} {a b : S} {p r : Result T F} (q point several : Bool) (e f : Form)
    → Adds m p a (cond several (tok.Begin true (pos 4) ∷ []) [] ++ (fed q e [] ++ fed point f [])) r b
    → OnOk r (IsNested (m.groups b) (steps_closed several))
may_close_steps {p} {r} q point several e f h =
    on_ok r (λ x is. steps_nested q point several e f _ _ (level_behind p r x h is))

-- ---- which steps are methods

-- what a step tells of whether there are several methods, where one was found or none
step_tells : (found method : Bool) (n : ℕ)
    → nat_le (cond found 1 2) ((if method then 1 else 0) + n) ≡ cond (found && method) true (nat_le (cond (found || method) 1 2) n)
step_tells true true n = grind (arith, nat_tests)
step_tells true false n = grind (arith, nat_tests)
step_tells false true n = grind (arith, nat_tests)
step_tells false false n = grind (arith, nat_tests)

-- whether there are several methods, where one was found or none, and these steps are left
abbrev pub are_several : Bool → List Step → Bool
are_several found xs = nat_le (cond found 1 2) (methods (map about_step xs))

-- what a turn tells
pub several_turn : (found method : Bool) (xs : List Step) (i : ℕ) (x : Step) → i < length xs → x ≡ get_or xs i x
    → method ≡ is_method (about_step x).kind
    → are_several found (drop i xs) ≡ cond (found && method) true (are_several (found || method) (drop (i + 1) xs))
several_turn found method xs i x lt is e =
    rw (add-one, e) (ap (are_several found) (drop-cons xs i x lt ∙ ap (λ (y : Step). y ∷ drop (suc i) xs) (sym is))
    ∙ step_tells found (is_method (about_step x).kind) (methods (map about_step (drop (suc i) xs))))

-- At the end of the loop there are no several ones.
pub none_left : (found : Bool) (xs : List Step) (i : ℕ) → length xs ≤ i → are_several found (drop i xs) ≡ false
none_left found xs i h = ap (are_several found) (drop_of_length-le xs h) ∙ by found
  where
    by : (b : Bool) → are_several b [] ≡ false
    by true = refl
    by false = refl

-- It is of this kind, so it is a method or not.
method_of : (x : Step) {facts : StepFacts} → about_step x ≡ facts → is_method facts.kind ≡ is_method (about_step x).kind
method_of x e = sym (ap (λ (z : StepFacts). is_method z.kind) e)

-- A method is one.
pub is_method_step : (x : Step) (name : Name) (generics : Option (List Arg)) (args : List Expr)
    → x ≡ step.Method name generics args → true ≡ is_method (about_step x).kind
is_method_step x name generics args is =
    method_of _ (step_method_is name generics args) ∙ ap (λ (z : Step). is_method (about_step z).kind) (sym is)

-- All else is none.
pub no_method_step : (x : Step)
    → ((name : Name) (generics : Option (List Arg)) (args : List Expr) → x ≡ step.Method name generics args → ⊥)
    → false ≡ is_method (about_step x).kind
no_method_step x other = by x (step_view x) other
  where
    by : (y : Step) → StepView y
        → ((name : Name) (generics : Option (List Arg)) (args : List Expr) → y ≡ step.Method name generics args → ⊥)
        → false ≡ is_method (about_step y).kind
    by _ (IsFieldStep name) other = method_of _ (step_field_is name)
    by _ (IsTupleIndexStep index) other = method_of _ (step_tuple_index_is index)
    by _ (IsMethodStep name generics args) other = absurd (other name generics args refl)
    by _ (IsApplyStep args) other = method_of _ (step_apply_is args)
    by _ (IsIndexStep index) other = method_of _ (step_index_is index)
    by _ IsTryStep other = method_of _ step_try_is
    by _ IsAwaitStep other = method_of _ step_await_is

-- ---- generic arguments of a method

-- generic arguments that are there
pub some_generics : (generics : Option (List Arg)) (args put : List Arg) → generics ≡ Some args → put ≡ args
    → tok.Text (codes "::") ∷ stream_of (angle_form (map about_arg put)) ≡ stream_of (generics_form generics Done)
some_generics generics args put is e = rw (is, e) refl
