-- What statements, arms and closures ask of the whole of an expression stays where it isn't wrapped: kind by kind.
use Rattle.std.proofs.Common.{◌≡◌, suc, Bool, true, false, true≢false, if◌then◌else◌, [], ◌∷◌, map, Some, None, refl, sym, ap, ◌∙◌}
use Rattle.lay_code.specs.Operators.{is_angle_op, op_level}
use Rattle.lay_code.specs.nodes.Bodies.{is_lone_body, is_macro}
use Rattle.lay_code.specs.nodes.Code.{about_expr}
use Rattle.lay_code.specs.nodes.Exprs.{ExprFacts, expr_facts}
use Rattle.lay_code.specs.nodes.Places.{FREE, before_op, begins, plain, statement}
use Rattle.lay_code.specs.nodes.PlacesTable.{as_node}
use Rattle.lay_code.specs.declared.blocks.Stmt.TheOpen.{Expr-F}
use Rattle.lay_code.specs.declared.exprs.Expr.{Expr}
use Rattle.lay_code.specs.declared.exprs.Expr.TheVariants as expr
use Rattle.lay_code.specs.declared.exprs.Place.{Place}
use Rattle.lay_code.proofs.nodes.ExprsLaws as laws
use Rattle.lay_paren_defs.specs.loose.Loose.{shielded_facts}
use Rattle.lay_paren_defs.specs.loose.Slots.{Any, Optional, Prefixed, fits}
use Rattle.lay_paren_defs.proofs.loose_lemmas.SlotLemmas.{whole_fits}
use Rattle.lay_paren.specs.Least.{chosen, least_made, made_of, wrapped}
use Rattle.lay_paren.specs.Made.{Made}
use Rattle.lay_paren_defs.specs.Traversal.{base_place, base_slot, break_slot}
use Rattle.lay_paren.specs.Parts.{expr_made, free_made, operands_made, targets_made}
use Rattle.lay_paren.proofs.ExprStands.{made_arms, made_branches, made_fields, made_operands, made_steps, made_targets, told_steps, trees}
use Rattle.lay_paren.proofs.Kept.{Kept, Whole, expr_layer}
use Rattle.lay_paren.proofs.LooseFolds.{expr_shielded}
use Rattle.lay_paren.specs.Nodes.{expr_parts, made_block, made_condition}

-- as a whole the expression is what this tells
record Alike (x : Expr) (told : ExprFacts) : Type 0 where
  block_like : (about_expr x).block_like ≡ told.block_like
  macro : is_macro (about_expr x).kind ≡ is_macro told.kind
  lone : is_lone_body (about_expr x).kind ≡ is_lone_body told.kind

same : (x : Expr) (F told : ExprFacts) → about_expr x ≡ F → F.block_like ≡ told.block_like → is_macro F.kind ≡ is_macro told.kind
    → is_lone_body F.kind ≡ is_lone_body told.kind → Alike x told
same x F told e block_like macro lone = record {
  block_like = ap (λ (G : ExprFacts). G.block_like) e ∙ block_like;
  macro = ap (λ (G : ExprFacts). is_macro G.kind) e ∙ macro;
  lone = ap (λ (G : ExprFacts). is_lone_body G.kind) e ∙ lone;
}

alike : (y : Kept Expr-F) (p : Place) → Alike (expr_made p (expr_parts (expr_layer y))).result (expr_facts (expr_shielded (expr_layer y)))
alike (Expr-F.Lit l) p = same (expr.Lit l) _ _ (laws.expr_lit_is l) refl refl refl
alike (Expr-F.Path path) p = same (expr.Path path) _ _ (laws.expr_path_is path) refl refl refl
alike Expr-F.Underscore p = same expr.Underscore _ _ laws.expr_underscore_is refl refl refl
alike (Expr-F.Expr::Call call) p = same (expr.Call call) _ _ (laws.expr_call_is call) refl refl refl
alike (Expr-F.Paren x) p =
    let made = (made_of x.0 FREE Any).result in
    same (expr.Paren made) _ _ (laws.expr_paren_is made) refl refl refl
alike (Expr-F.Continue label) p = same (expr.Continue label) _ _ (laws.expr_continue_is label) refl refl refl
alike (Expr-F.Tuple ys) p =
    let made = (free_made (map made_of (trees ys))).result in
    same (expr.Tuple made) _ _ (laws.expr_tuple_is made) refl refl refl
alike (Expr-F.Array ys) p =
    let made = (free_made (map made_of (trees ys))).result in
    same (expr.Array made) _ _ (laws.expr_array_is made) refl refl refl
alike (Expr-F.Repeat x length) p =
    let made = (made_of x.0 FREE Any).result in
    same (expr.Repeat made length) _ _ (laws.expr_repeat_is made length) refl refl refl
alike (Expr-F.Expr::Struct path fields None) p =
    let made = (made_fields fields).result in
    same (expr.Struct path made None) _ _ (laws.expr_struct_is path made None) refl refl refl
alike (Expr-F.Expr::Struct path fields (Some None)) p =
    let made = (made_fields fields).result in
    same (expr.Struct path made (Some None)) _ _ (laws.expr_struct_is path made (Some None)) refl refl refl
alike (Expr-F.Expr::Struct path fields (Some (Some x))) p =
    let made = (made_fields fields).result in
    let base = (made_of x.0 FREE Any).result in
    same (expr.Struct path made (Some (Some base))) _ _ (laws.expr_struct_is path made (Some (Some base))) refl refl refl
alike (Expr-F.Chain x []) p =
    let place = before_op (suc 0) p.no_struct (begins p.start) false in
    let made = (made_of x.0 place Any).result in
    same (expr.Chain made []) _ _ (laws.expr_chain_is made []) refl refl refl
alike (Expr-F.Chain x (o ∷ more)) p =
    let level = op_level o.0 in
    let place = before_op (suc level) p.no_struct (begins p.start) (is_angle_op o.0) in
    let made = (made_of x.0 place Any).result in
    let rest = (operands_made p level (made_operands (o ∷ more))).result in
    same (expr.Chain made rest) _ _ (laws.expr_chain_is made rest) refl refl refl
alike (Expr-F.Cast x types) p =
    let place = before_op 12 p.no_struct (begins p.start) false in
    let made = (made_of x.0 place Any).result in
    same (expr.Cast made types) _ _ (laws.expr_cast_is made types) refl refl refl
alike (Expr-F.Unary ps x) p =
    let made = (made_of x.0 (as_node p 12) Prefixed).result in
    same (expr.Unary ps made) _ _ (laws.expr_unary_is ps made) refl refl refl
alike (Expr-F.Range None inclusive None) p = same (expr.Range None inclusive None) _ _ (laws.expr_range_is None inclusive None) refl refl refl
alike (Expr-F.Range (Some x) inclusive None) p =
    let place = before_op 2 p.no_struct (begins p.start) false in
    let made = (made_of x.0 place Any).result in
    same (expr.Range (Some made) inclusive None) _ _ (laws.expr_range_is (Some made) inclusive None) refl refl refl
alike (Expr-F.Range None inclusive (Some y)) p =
    let end = (made_of y.0 (as_node p 2) Optional).result in
    same (expr.Range None inclusive (Some end)) _ _ (laws.expr_range_is None inclusive (Some end)) refl refl refl
alike (Expr-F.Range (Some x) inclusive (Some y)) p =
    let place = before_op 2 p.no_struct (begins p.start) false in
    let made = (made_of x.0 place Any).result in
    let end = (made_of y.0 (as_node p 2) Optional).result in
    same (expr.Range (Some made) inclusive (Some end)) _ _ (laws.expr_range_is (Some made) inclusive (Some end)) refl refl refl
alike (Expr-F.Assign targets x) p =
    let first = begins p.start in
    let before = (targets_made p first (made_targets targets)).result in
    let made = (made_of x.0 (as_node p 1) Any).result in
    same (expr.Assign before made) _ _ (laws.expr_assign_is before made) refl refl refl
alike (Expr-F.Postfix x steps) p =
    let told = told_steps steps in
    let made = (made_of x.0 (base_place p told) (base_slot told)).result in
    let all = (made_steps steps).result in
    same (expr.Postfix made all) _ _ (laws.expr_postfix_is made all) refl refl refl
alike (Expr-F.Block None b) p =
    let made = (made_block b.0).result in
    same (expr.Block None made) _ _ (laws.expr_block_is None made) refl refl b.1.lone
alike (Expr-F.Block (Some label) b) p =
    let made = (made_block b.0).result in
    same (expr.Block (Some label) made) _ _ (laws.expr_block_is (Some label) made) refl refl refl
alike (Expr-F.Unsafe b) p =
    let made = (made_block b.0).result in
    same (expr.Unsafe made) _ _ (laws.expr_unsafe_is made) refl refl refl
alike (Expr-F.ConstBlock b) p =
    let made = (made_block b.0).result in
    same (expr.ConstBlock made) _ _ (laws.expr_const_block_is made) refl refl refl
alike (Expr-F.Async moves b) p =
    let made = (made_block b.0).result in
    same (expr.Async moves made) _ _ (laws.expr_async_is moves made) refl refl refl
alike (Expr-F.If branches None) p =
    let made = (made_branches branches).result in
    same (expr.If made None) _ _ (laws.expr_if_is made None) refl refl refl
alike (Expr-F.If branches (Some b)) p =
    let made = (made_branches branches).result in
    let block = (made_block b.0).result in
    same (expr.If made (Some block)) _ _ (laws.expr_if_is made (Some block)) refl refl refl
alike (Expr-F.Match x attrs arms) p =
    let made = (made_of x.0 (plain 0 true) Any).result in
    let all = (made_arms arms).result in
    same (expr.Match made attrs all) _ _ (laws.expr_match_is made attrs all) refl refl refl
alike (Expr-F.Loop label b) p =
    let made = (made_block b.0).result in
    same (expr.Loop label made) _ _ (laws.expr_loop_is label made) refl refl refl
alike (Expr-F.While label c b) p =
    let condition = (made_condition c.0).result in
    let made = (made_block b.0).result in
    same (expr.While label condition made) _ _ (laws.expr_while_is label condition made) refl refl refl
alike (Expr-F.For label pat x b) p =
    let made = (made_of x.0 (plain 0 true) Any).result in
    let block = (made_block b.0).result in
    same (expr.For label pat made block) _ _ (laws.expr_for_is label pat made block) refl refl refl
alike (Expr-F.Closure is_async moves params x) p =
    let place = plain 0 p.no_struct in
    let made = (made_of x.0 place Any).result in
    same (expr.Closure is_async moves params made) _ _ (laws.expr_closure_is is_async moves params made) refl refl refl
alike (Expr-F.TypedClosure is_async moves params output b) p =
    let made = (made_block b.0).result in
    same (expr.TypedClosure is_async moves params output made) _ _ (laws.expr_typed_closure_is is_async moves params output made) refl refl refl
alike (Expr-F.Return None) p = same (expr.Return None) _ _ (laws.expr_return_is None) refl refl refl
alike (Expr-F.Return (Some x)) p =
    let place = plain 0 p.no_struct in
    let made = (made_of x.0 place Optional).result in
    same (expr.Return (Some made)) _ _ (laws.expr_return_is (Some made)) refl refl refl
alike (Expr-F.Break label None) p = same (expr.Break label None) _ _ (laws.expr_break_is label None) refl refl refl
alike (Expr-F.Break label (Some x)) p =
    let place = plain 0 p.no_struct in
    let made = (made_of x.0 place (break_slot label)).result in
    same (expr.Break label (Some made)) _ _ (laws.expr_break_is label (Some made)) refl refl refl

paren_body : (x : Expr) → is_lone_body (about_expr (expr.Paren x)).kind ≡ false
paren_body x = ap (λ (F : ExprFacts). is_lone_body F.kind) (laws.expr_paren_is x)

-- The whole of a statement is never wrapped.
chosen_whole : (here free : Made Expr) → chosen here free statement Any ≡ here
chosen_whole here free = ap (λ (b : Bool). if b then here else wrapped free) (whole_fits (about_expr here.result))

pub layer_whole : (y : Kept Expr-F) → Whole (shielded_facts (expr_shielded (expr_layer y))) (least_made (expr_parts (expr_layer y)))
layer_whole y = record {
  block_like = ap (λ (m : Made Expr). (about_expr m.result).block_like) whole ∙ (alike y statement).block_like;
  macro = ap (λ (m : Made Expr). is_macro (about_expr m.result).kind) whole ∙ (alike y statement).macro;
  lone = λ p s h. by p (fits (about_expr (here p).result) p s) h;
}
  where
    here : Place → Made Expr
    here p = expr_made p (expr_parts (expr_layer y))

    whole : chosen (here statement) (here FREE) statement Any ≡ here statement
    whole = chosen_whole (here statement) (here FREE)

    by : (p : Place) (b : Bool) → is_lone_body (about_expr (if b then here p else wrapped (here FREE)).result).kind ≡ true
        → is_lone_body (expr_facts (expr_shielded (expr_layer y))).kind ≡ true
    by p true h = sym (alike y p).lone ∙ h
    by p false h = absurd (true≢false (sym h ∙ paren_body (here FREE).result))
