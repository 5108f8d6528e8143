use Rattle.std.proofs.Common.{List, [], ◌++◌, ◌&&◌, true, false, map, refl, ap, ◌∙◌, ◌∷◌, option_map, codes, sym, nat_le}
use Rattle.lay_form.specs.Form.{Done, semicolon, Part, Form}
use Rattle.lay_form.specs.Stream.{fed, stream_of}
use Rattle.lay_code.specs.nodes.Blocks.{guard_form}
use Rattle.lay_code.specs.nodes.Code.{about_step, about_block, about_expr, about_link, form_of_item, about_condition}
use Rattle.lay_code.specs.nodes.Conditions.{condition_form}
use Rattle.lay_code.specs.nodes.Exprs.{operands_form, steps_form, targets_form, value_form}
use Rattle.lay_code.specs.declared.conditions.Link.{Link}
use Rattle.lay_code.specs.declared.exprs.Expr.{Expr}
use Rattle.lay_code.specs.declared.exprs.FieldExpr.{FieldExpr}
use Rattle.lay_code.specs.declared.exprs.Step.{Step}
use Rattle.lay_code.specs.declared.operators.Op.{Op}
use Rattle.lay_out_tokens.proofs.StreamParts.{loop_done, loop_step}
use Rattle.lay_out_pats.specs.PatternRows.{braces_opened}
use Rattle.lay_out_types.specs.Rows.{comma_between, list_closed, list_opened, row}
use Rattle.lay_out_types.proofs.Adding.{adds, adds_nothing, adds_on}
use Rattle.lay_out_pats.proofs.FieldLemmas.{may_close_braces}
use Rattle.lay_out_types.proofs.FormRows.{may_close, none_is, none_left}
use Rattle.lay_out_types.proofs.RowLemmas.{all_turns, turn}
use Rattle.lay_out_exprs.specs.Parts.{before_op, behind_op, expr_told, field_told}
use Rattle.lay_out_exprs.proofs.Turns.{all_put, nothing_yet, one_turn}
use Rattle.lay_form.specs.Notation.{H, each, piece}
use Rattle.lay_node.specs.nodes.Attr.{attr_form}
use Rattle.lay_node.specs.nodes.Heads.{impl_head_form, trait_head_form, value_head_form}
use Rattle.lay_node.specs.declared.heads.Site.TheVariants.{Module}
use Rattle.lay_code.specs.nodes.Item.{about_file_module, about_function, about_import, about_value, module_head}
use Rattle.lay_code.specs.declared.item.Item.{Item}
use Rattle.lay_code.proofs.nodes.ItemLaws.{alias_is, call_is, enum_is, extern_crate_is, file_module_is, foreign_is, function_is, impl_is, import_is, module_is, rules_is, struct_is, trait_is, union_is, value_is}
use Rattle.lay_out_heads.specs.FieldRows.{line}
use Rattle.lay_out_heads.proofs.Steady.{steady_semicolon}
use Rattle.lay_out_code.specs.Parts.{foreign_head, head_row, import_head, arm_told, branch_told, link_told, stmt_told}
use Rattle.lay_out_code.proofs.OutLemmas.{bare_body, clause_body, full_body, head_body, headed, item_parts, kind_of, line_before, lines_put, may_close_body, bare_is, some_value, valued_head}
use Rattle.lay_node.specs.nodes.Functions.{fn_head_form}
use Rattle.lay_node.specs.nodes.Patterns.{about_pat}
use Rattle.lay_code.specs.declared.blocks.Arm.{Arm}
use Rattle.lay_code.specs.declared.blocks.Branch.{Branch}
use Rattle.lay_code.specs.declared.blocks.Stmt.{Stmt}
use Rattle.lay_out_heads.proofs.Rows.{may_end_head}
use Rattle.lay_out_exprs.specs.Bodies.{seen_as}
use Rattle.lay_out_exprs.specs.Blocks.{else_between, link_between}
use Rattle.lay_out_code.proofs.BlockLemmas.{block_body, each_further, expr_stmt, item_stmt, let_stmt, may_close_soft, no_body, other_block, row_further, same_before, single_block, some_body, some_otherwise, steady_function}
use Rattle.lay_out_code.proofs.BranchLemmas.{arm_parts, attrs_told, branch_parts, may_close_arm, may_end_arm_head, some_else, some_guard}
use Rattle.lay_out_code.proofs.ConditionLemmas.{may_end_condition}
use Rattle.lay_out_code.proofs.ConditionLemmas as conditions
use Rattle.lay_out_exprs.proofs.StructLemmas as fields
use Rattle.lay_out_exprs.proofs.ExprLemmas as of
use Rattle.lay_out_exprs.proofs.StepLemmas as steps
use Rattle.lay_layout.specs.declared.layout.Tok.TheVariants as tok
use Rattle.lay_out_code.proofs.BranchLemmas as branches
use Rattle.lay_code.specs.declared.blocks.Block.{Block}
use Rattle.lay_code.specs.declared.blocks.Stmt.TheViews as views
use Rattle.lay_code.specs.declared.conditions.Condition.{Condition}
use Rattle.lay_paren_defs.specs.Enclosed.{body_part, enclose, enclose_arm, enclose_block, enclose_branch, enclose_condition, enclose_field, enclose_item, enclose_link, enclose_step, enclose_stmt, operand_part, part, shell_arm, shell_block, shell_branch, shell_condition, shell_item, target_part}
use Rattle.lay_paren_defs.proofs.KeptLemmas.{method_kept, methods_kept, single_kept}
use Rattle.lay_paren_defs.proofs.ShellLemmas.{shell_arm_is, shell_block_is, shell_branch_is, shell_condition_is, shell_item_is}
use Rattle.lay_paren_defs.proofs.WholeLemmas.{whole, whole_field, whole_kind, whole_link, whole_step, whole_stmt}
use Rattle.lay_out_code.proofs.PartLemmas.{bare_body_told, bare_part, enclosed_body, enclosed_part, first_kept, kept_below, kept_least, map_twice, same_none}
use Rattle.lay_out_code.proofs.+code.Goals as goal

-- ---- parts and bodies

pub exprs::add_expr-returns-then-on : goal.exprs::add_expr-returns-then-on
exprs::add_expr-returns-then-on g t c =
    adds (adds_on c.add_text-opener.ensures (adds_on c.add_whole-inner.ensures c.add_text.ensures))
    (enclosed_part g.X.Enclose.on c.args.point c.args.node.now (sym c.on.ensures ∙ c.if-on.true))

pub exprs::add_expr-returns : goal.exprs::add_expr-returns
exprs::add_expr-returns g t c =
    adds c.add_whole.ensures (bare_part g.X.Enclose.on c.args.point c.args.node.now (sym c.on.ensures ∙ c.if-on.false))

pub exprs::add_body_part-returns-then-is_body_enclosed : goal.exprs::add_body_part-returns-then-is_body_enclosed
exprs::add_body_part-returns-then-is_body_enclosed g t c =
    adds c.add_expr.ensures
    (enclosed_body g.X.Enclose.on c.args.body.now (sym c.is_body_enclosed.ensures ∙ c.if-is_body_enclosed.true))

pub exprs::add_body_part-returns : goal.exprs::add_body_part-returns
exprs::add_body_part-returns g t c =
    adds c.add_whole.ensures
    (bare_body_told g.X.Enclose.on c.args.body.now (sym c.is_body_enclosed.ensures ∙ c.if-is_body_enclosed.false))

-- ---- operands and targets

pub operands::add_operands-loop-op-init : goal.operands::add_operands-loop-op-init
operands::add_operands-loop-op-init g t c = nothing_yet refl

pub operands::add_operands-loop-op-preserved : goal.operands::add_operands-loop-op-preserved
operands::add_operands-loop-op-preserved g t c =
    let d = g.X.Enclose.on in
    let put = rw c.get.ensures at c.add_expr-done.ensures in
    one_turn c.loop-op.invariant (adds_on c.add_operator-done.ensures put)
    (loop_step (λ (xs : List (Op × Expr)). stream_of (operands_form (map behind_op (map (operand_part d) xs)))) c.args.operands.now _ _ _
    c.loop-op-test.true c.loop-op-item.is (steps.operand_turn (operand_part d _) (map (operand_part d) _)))

pub operands::add_operands-returns : goal.operands::add_operands-returns
operands::add_operands-returns g t c =
    let d = g.X.Enclose.on in
    all_put c.loop-op.invariant
    (loop_done (λ (xs : List (Op × Expr)). stream_of (operands_form (map behind_op (map (operand_part d) xs)))) c.args.operands.now _
    c.loop-op-test.false)

pub operands::add_targets-loop-target-init : goal.operands::add_targets-loop-target-init
operands::add_targets-loop-target-init g t c = nothing_yet refl

pub operands::add_targets-loop-target-preserved : goal.operands::add_targets-loop-target-preserved
operands::add_targets-loop-target-preserved g t c =
    let d = g.X.Enclose.on in
    let put = rw c.get.ensures at c.add_expr-done.ensures in
    one_turn c.loop-target.invariant (adds_on put c.add_assignment-done.ensures)
    (loop_step (λ (xs : List (Expr × Op)). fed c.loop-target.point (targets_form (map before_op (map (target_part d) xs)) Done) [])
    c.args.targets.now _ _ _ c.loop-target-test.true c.loop-target-item.is (steps.target_turn _ (target_part d _) (map (target_part d) _) Done))

pub operands::add_targets-returns : goal.operands::add_targets-returns
operands::add_targets-returns g t c =
    let d = g.X.Enclose.on in
    all_put c.loop-target.invariant
    (loop_done (λ (xs : List (Expr × Op)). fed c.loop-target.point (targets_form (map before_op (map (target_part d) xs)) Done) [])
    c.args.targets.now _ c.loop-target-test.false)

-- ---- expressions in brackets

pub exprs::add_exprs-loop-index-preserved : goal.exprs::add_exprs-loop-index-preserved
exprs::add_exprs-loop-index-preserved g t c =
    let d = g.X.Enclose.on in
    adds (adds_on c.loop-index.invariant (adds_on c.add_lead-done.ensures c.add_expr-done.ensures))
    (turn (λ (x : Expr). expr_told (part d x)) (list_opened c.args.opener.now) comma_between c.args.exprs.now _ _ c.loop-index-test.true
    c.index-exprs-index.is _ refl)

pub exprs::add_exprs-add_close-requires : goal.exprs::add_exprs-add_close-requires
exprs::add_exprs-add_close-requires g t c =
    let d = g.X.Enclose.on in
    may_close c.args.opener.now c.args.both.now c.args.closer.now true _ _
    (none_left (λ (x : Expr). expr_told (part d x)) c.args.exprs.now _ _ c.loop-index-test.false c.is_empty.ensures) c.loop-index.invariant

pub exprs::add_exprs-returns : goal.exprs::add_exprs-returns
exprs::add_exprs-returns g t c =
    let d = g.X.Enclose.on in
    adds (adds_on c.loop-index.invariant c.add_close.ensures)
    (all_turns (λ (xs : List Expr). row (list_opened c.args.opener.now) comma_between (map (λ (x : Expr). expr_told (part d x)) xs)
    ++ list_closed true c.is_empty.result c.args.both.now c.args.closer.now) c.args.exprs.now _ c.loop-index-test.false
    ∙ ap (λ (es : List Form). row (list_opened c.args.opener.now) comma_between es
    ++ list_closed true c.is_empty.result c.args.both.now c.args.closer.now) (map_twice expr_told (part d) c.args.exprs.now)
    ∙ ap (λ (b : _). row (list_opened c.args.opener.now) comma_between (map expr_told (map (part d) c.args.exprs.now))
    ++ list_closed true b c.args.both.now c.args.closer.now) (same_none (part d) _ _ c.is_empty.ensures))

pub exprs::add_tuple-returns-in-empty : goal.exprs::add_tuple-returns-in-empty
exprs::add_tuple-returns-in-empty g t c =
    let d = g.X.Enclose.on in
    adds c.add_text.ensures (of.no_tuple (map (part d) c.args.elements.now) (kept_below (part d) _ c.in-empty.len_below))

pub exprs::add_tuple-returns-in-len1 : goal.exprs::add_tuple-returns-in-len1
exprs::add_tuple-returns-in-len1 g t c =
    let d = g.X.Enclose.on in
    adds (adds_on c.add_text-opener.ensures (adds_on c.add_expr-element.ensures c.add_text-in-len1.ensures))
    (of.one_tuple (map (part d) c.args.elements.now) _ (kept_least (part d) _ c.in-len1.len_at_least) (kept_below (part d) _ c.in-len1.len_below)
    (first_kept (part d) _ _ c.element-item.is))

pub exprs::add_tuple-returns-in-len2-up : goal.exprs::add_tuple-returns-in-len2-up
exprs::add_tuple-returns-in-len2-up g t c =
    let d = g.X.Enclose.on in
    adds c.add_exprs.ensures (of.long_tuple (map (part d) c.args.elements.now) (kept_least (part d) _ c.in-len2-up.len_at_least))

-- ---- struct literals

pub operands::add_field-returns-in-Named : goal.operands::add_field-returns-in-Named
operands::add_field-returns-in-Named g t c =
    let d = g.X.Enclose.on in
    let put = rw c.get.ensures at c.add_expr.ensures in
    adds (adds_on c.add_attrs-attrs.ensures (adds_on c.add_word-name.ensures (adds_on c.add_text-colon.ensures put)))
    (fields.named_field _ c.in-Named.attrs _ c.in-Named.name (part d c.in-Named.value) (whole_field d c.in-Named.is (views.outs-Named _ _ _)) c.as_slice.ensures)

pub operands::add_field-returns-in-Numbered : goal.operands::add_field-returns-in-Numbered
operands::add_field-returns-in-Numbered g t c =
    let d = g.X.Enclose.on in
    let put = rw c.get-in-Numbered.ensures at c.add_expr-in-Numbered.ensures in
    adds (adds_on c.add_attrs-attrs-in-Numbered.ensures (adds_on c.add_text-index.ensures
    (adds_on c.add_text-colon-in-Numbered.ensures put)))
    (fields.numbered_field _ c.in-Numbered.attrs _ c.in-Numbered.index _ (part d c.in-Numbered.value) (whole_field d c.in-Numbered.is (views.outs-Numbered _ _ _))
    c.as_slice-in-Numbered.ensures c.as_bytes.ensures)

pub operands::add_field-returns-in-Short : goal.operands::add_field-returns-in-Short
operands::add_field-returns-in-Short g t c =
    let d = g.X.Enclose.on in
    adds (adds_on c.add_attrs-attrs-in-Short.ensures c.add_word.ensures)
    (fields.short_field _ c.in-Short.attrs _ c.in-Short.name (whole_field d c.in-Short.is (views.outs-Short _ _)) c.as_slice-in-Short.ensures)

pub operands::add_fields-loop-index-preserved : goal.operands::add_fields-loop-index-preserved
operands::add_fields-loop-index-preserved g t c =
    let d = g.X.Enclose.on in
    adds (adds_on c.loop-index.invariant (adds_on c.add_brace-done.ensures c.add_field-done.ensures))
    (turn (λ (x : FieldExpr). field_told (enclose_field d x)) braces_opened comma_between c.args.fields.now _ _ c.loop-index-test.true c.index-fields-index.is _
    refl)

pub operands::add_fields-returns : goal.operands::add_fields-returns
operands::add_fields-returns g t c =
    let d = g.X.Enclose.on in
    adds c.loop-index.invariant
    (all_turns (λ (xs : List FieldExpr). row braces_opened comma_between (map (λ (x : FieldExpr). field_told (enclose_field d x)) xs)) c.args.fields.now _
    c.loop-index-test.false
    ∙ ap (λ (es : List Form). row braces_opened comma_between es) (map_twice field_told (enclose_field d) c.args.fields.now))

pub operands::add_base-returns : goal.operands::add_base-returns
operands::add_base-returns g t c =
    adds (adds_on c.add_brace-lead.ensures (adds_on c.add_text-dots.ensures c.add_optional.ensures)) refl

-- ---- operands that may be left out

pub exprs::add_operand-returns-in-Some : goal.exprs::add_operand-returns-in-Some
exprs::add_operand-returns-in-Some g t c =
    let d = g.X.Enclose.on in
    adds (adds_on c.add_text-blank.ensures c.add_expr.ensures)
    (of.some_operand _ (part d c.in-Some.operand) _ (ap (option_map (part d)) c.in-Some.is) (ap (part d) c.get.ensures))

pub exprs::add_optional-returns-in-None : goal.exprs::add_optional-returns-in-None
exprs::add_optional-returns-in-None g t c =
    let d = g.X.Enclose.on in
    adds adds_nothing (of.no_optional c.args.point _ (ap (option_map (part d)) c.in-None.is))

pub exprs::add_optional-returns-in-Some : goal.exprs::add_optional-returns-in-Some
exprs::add_optional-returns-in-Some g t c =
    let d = g.X.Enclose.on in
    adds c.add_expr.ensures (of.some_optional c.args.point _ (part d c.in-Some.node) _ (ap (option_map (part d)) c.in-Some.is)
    (ap (part d) c.get.ensures))

-- ---- postfix expressions

pub operands::add_steps-loop-step-init : goal.operands::add_steps-loop-step-init
operands::add_steps-loop-step-init g t c = nothing_yet refl

pub operands::add_steps-loop-step-preserved : goal.operands::add_steps-loop-step-preserved
operands::add_steps-loop-step-preserved g t c =
    let d = g.X.Enclose.on in
    one_turn c.loop-step.invariant (adds_on c.add_step_break-done.ensures c.add_step-done.ensures)
    (loop_step (λ (xs : List Step). fed c.loop-step.point (steps_form c.args.several c.loop-step.behind (map about_step (map (enclose_step d) xs))) [])
    c.args.steps.now _ _ _ c.loop-step-test.true c.step-item.is
    (steps.step_turn c.loop-step.point c.args.several c.loop-step.behind c.is_method-method.result _
    (enclose_step d _) (map (enclose_step d) _) (c.is_method-method.ensures ∙ method_kept d _)
    c.either-behind.ensures))

pub operands::add_steps-returns : goal.operands::add_steps-returns
operands::add_steps-returns g t c =
    let d = g.X.Enclose.on in
    all_put c.loop-step.invariant
    (loop_done (λ (xs : List Step). fed c.loop-step.point (steps_form c.args.several c.loop-step.behind (map about_step (map (enclose_step d) xs))) [])
    c.args.steps.now _ c.loop-step-test.false)

pub operands::add_step-returns-in-Field : goal.operands::add_step-returns-in-Field
operands::add_step-returns-in-Field g t c =
    let d = g.X.Enclose.on in
    adds (adds_on c.add_either-dot.ensures c.add_word.ensures)
    (steps.field_step c.args.point _ c.in-Field.name (whole_step d c.in-Field.is (views.outs-Field _)))

pub operands::add_step-returns-in-TupleIndex : goal.operands::add_step-returns-in-TupleIndex
operands::add_step-returns-in-TupleIndex g t c =
    let d = g.X.Enclose.on in
    adds (adds_on c.add_either-dot-in-TupleIndex.ensures c.add_text.ensures)
    (steps.index_of_tuple c.args.point _ c.in-TupleIndex.index _ (whole_step d c.in-TupleIndex.is (views.outs-TupleIndex _)) c.as_bytes.ensures)

pub operands::add_step-returns-in-Method : goal.operands::add_step-returns-in-Method
operands::add_step-returns-in-Method g t c =
    let d = g.X.Enclose.on in
    adds (adds_on c.add_either-dot-in-Method.ensures (adds_on c.add_word-name.ensures
    (adds_on c.add_generics-generics.ensures c.add_exprs.ensures)))
    (steps.method_step c.args.point _ c.in-Method.name c.in-Method.generics (map (part d) c.in-Method.args) _ (whole_step d c.in-Method.is (views.outs-Method _ _ _))
    (ap (map (part d)) c.as_slice.ensures))

pub operands::add_step-returns-in-Apply : goal.operands::add_step-returns-in-Apply
operands::add_step-returns-in-Apply g t c =
    let d = g.X.Enclose.on in
    adds c.add_exprs-in-Apply.ensures
    (steps.apply_step c.args.point _ (map (part d) c.in-Apply.args) _ (whole_step d c.in-Apply.is (views.outs-Apply _)) (ap (map (part d)) c.as_slice-in-Apply.ensures))

pub operands::add_step-add_close-requires : goal.operands::add_step-add_close-requires
operands::add_step-add_close-requires g t c =
    let d = g.X.Enclose.on in
    let put = rw c.get.ensures at c.add_expr-index.ensures in
    steps.may_close_index (expr_told (part d c.in-Index.index)) (adds_on c.add_lead-opener.ensures put)

pub operands::add_step-returns-in-Index : goal.operands::add_step-returns-in-Index
operands::add_step-returns-in-Index g t c =
    let d = g.X.Enclose.on in
    let put = rw c.get.ensures at c.add_expr-index.ensures in
    adds (adds_on c.add_lead-opener.ensures (adds_on put c.add_close.ensures))
    (steps.index_step c.args.point _ (part d c.in-Index.index) (whole_step d c.in-Index.is (views.outs-Index _)))

pub operands::add_step-returns-in-Try : goal.operands::add_step-returns-in-Try
operands::add_step-returns-in-Try g t c =
    let d = g.X.Enclose.on in
    adds c.add_text-in-Try.ensures (steps.try_step c.args.point _ (whole_step d c.in-Try.is views.outs-Try))

pub operands::add_step-returns-in-Await : goal.operands::add_step-returns-in-Await
operands::add_step-returns-in-Await g t c =
    let d = g.X.Enclose.on in
    adds c.add_either.ensures (steps.await_step c.args.point _ (whole_step d c.in-Await.is views.outs-Await))

-- ---- expressions, kind by kind

pub exprs::add_whole-returns-in-Lit : goal.exprs::add_whole-returns-in-Lit
exprs::add_whole-returns-in-Lit g t c =
    let d = g.X.Enclose.on in
    adds c.add_literal.ensures (of.lit_expr c.args.point _ c.in-Lit.literal (whole d c.in-Lit.is (views.outs-Lit _)))

pub exprs::add_whole-returns-in-Path : goal.exprs::add_whole-returns-in-Path
exprs::add_whole-returns-in-Path g t c =
    let d = g.X.Enclose.on in
    adds c.add_path.ensures (of.path_expr c.args.point _ c.in-Path.path (whole d c.in-Path.is (views.outs-Path _)))

pub exprs::add_whole-returns-in-Underscore : goal.exprs::add_whole-returns-in-Underscore
exprs::add_whole-returns-in-Underscore g t c =
    let d = g.X.Enclose.on in
    adds c.add_text.ensures (of.underscore_expr c.args.point _ (whole d c.in-Underscore.is views.outs-Underscore))

pub exprs::add_whole-returns-in-Call : goal.exprs::add_whole-returns-in-Call
exprs::add_whole-returns-in-Call g t c =
    let d = g.X.Enclose.on in
    adds c.add_call.ensures (of.call_expr c.args.point _ c.in-Call.call (whole d c.in-Call.is (views.outs-Expr::Call _)))

pub exprs::add_whole-returns-in-Paren : goal.exprs::add_whole-returns-in-Paren
exprs::add_whole-returns-in-Paren g t c =
    let d = g.X.Enclose.on in
    adds (adds_on c.add_text-opener.ensures (adds_on c.add_expr-inner.ensures c.add_text-in-Paren.ensures))
    (of.paren_expr c.args.point _ (part d c.in-Paren.inner) _ (whole d c.in-Paren.is (views.outs-Paren _)) (ap (part d) c.get.ensures))

pub exprs::add_whole-returns-in-Continue : goal.exprs::add_whole-returns-in-Continue
exprs::add_whole-returns-in-Continue g t c =
    let d = g.X.Enclose.on in
    adds (adds_on c.add_text-word.ensures c.add_label.ensures)
    (of.continue_expr c.args.point _ c.in-Continue.label (whole d c.in-Continue.is (views.outs-Continue _)))

pub exprs::add_whole-returns-in-Tuple : goal.exprs::add_whole-returns-in-Tuple
exprs::add_whole-returns-in-Tuple g t c =
    let d = g.X.Enclose.on in
    adds c.add_tuple.ensures (of.tuple_expr c.args.point _ (map (part d) c.in-Tuple.elements) _ (whole d c.in-Tuple.is (views.outs-Tuple _)) (ap (map (part d)) c.as_slice.ensures))

pub exprs::add_whole-returns-in-Array : goal.exprs::add_whole-returns-in-Array
exprs::add_whole-returns-in-Array g t c =
    let d = g.X.Enclose.on in
    adds c.add_exprs.ensures (of.array_expr c.args.point _ (map (part d) c.in-Array.elements) _ (whole d c.in-Array.is (views.outs-Array _)) (ap (map (part d)) c.as_slice-in-Array.ensures))

pub exprs::add_whole-returns-in-Repeat : goal.exprs::add_whole-returns-in-Repeat
exprs::add_whole-returns-in-Repeat g t c =
    let d = g.X.Enclose.on in
    adds (adds_on c.add_text-opener-in-Repeat.ensures (adds_on c.add_expr-element.ensures
    (adds_on c.add_text-semicolon.ensures (adds_on c.add_tokens-length.ensures c.add_text-in-Repeat.ensures))))
    (of.repeat_expr c.args.point _ (part d c.in-Repeat.element) _ c.in-Repeat.length (whole d c.in-Repeat.is (views.outs-Repeat _ _)) (ap (part d) c.get-in-Repeat.ensures))

pub exprs::add_whole-add_closing_brace-requires : goal.exprs::add_whole-add_closing_brace-requires
exprs::add_whole-add_closing_brace-requires g t c =
    let d = g.X.Enclose.on in
    may_close_braces true _ _ (none_is field_told (map (enclose_field d) _) _ (same_none (enclose_field d) _ _ c.is_empty.ensures)) c.add_fields-inner.ensures

pub exprs::add_whole-returns-in-None : goal.exprs::add_whole-returns-in-None
exprs::add_whole-returns-in-None g t c =
    let d = g.X.Enclose.on in
    adds (adds_on c.add_path-path.ensures (adds_on c.add_fields-inner.ensures c.add_closing_brace.ensures))
    (fields.bare_struct c.args.point _ c.in-Struct.path (map (enclose_field d) c.in-Struct.fields) _
    (option_map (option_map (part d)) c.in-Struct.base) _ (whole d c.in-Struct.is (views.outs-Expr::Struct _ _ _))
    (ap (map (enclose_field d)) c.as_slice-fields.ensures) (same_none (enclose_field d) _ _ c.is_empty.ensures) (ap (option_map (option_map (part d))) c.in-None.is))

pub exprs::add_whole-add_closing_brace-requires-in-Some : goal.exprs::add_whole-add_closing_brace-requires-in-Some
exprs::add_whole-add_closing_brace-requires-in-Some g t c =
    let d = g.X.Enclose.on in
    fields.may_close_base (map (enclose_field d) c.as_slice-fields.result.now) _ (option_map (part d) c.in-Some.base)
    (same_none (enclose_field d) _ _ c.is_empty-in-Some.ensures)
    (adds_on c.add_fields-inner.ensures c.add_base-base.ensures)

pub exprs::add_whole-returns-in-Some : goal.exprs::add_whole-returns-in-Some
exprs::add_whole-returns-in-Some g t c =
    let d = g.X.Enclose.on in
    adds (adds_on c.add_path-path.ensures (adds_on c.add_fields-inner.ensures
    (adds_on c.add_base-base.ensures c.add_closing_brace-in-Some.ensures)))
    (fields.based_struct c.args.point _ c.in-Struct.path (map (enclose_field d) c.in-Struct.fields) _
    (option_map (option_map (part d)) c.in-Struct.base) _ (option_map (part d) c.in-Some.base) (whole d c.in-Struct.is (views.outs-Expr::Struct _ _ _))
    (ap (map (enclose_field d)) c.as_slice-fields.ensures) (same_none (enclose_field d) _ _ c.is_empty-in-Some.ensures) (ap (option_map (option_map (part d))) c.in-Some.is))

pub exprs::add_whole-add_end-requires : goal.exprs::add_whole-add_end-requires
exprs::add_whole-add_end-requires g t c =
    let d = g.X.Enclose.on in
    steps.may_end_chain c.args.point (expr_told (part d c.get-in-Chain.result.now)) (operands_form (map behind_op (map (operand_part d) _)))
    (adds_on c.add_begin-group.ensures (adds_on c.add_expr-first.ensures c.add_operands-rest.ensures))

pub exprs::add_whole-returns-in-Chain : goal.exprs::add_whole-returns-in-Chain
exprs::add_whole-returns-in-Chain g t c =
    let d = g.X.Enclose.on in
    adds (adds_on c.add_begin-group.ensures (adds_on c.add_expr-first.ensures
    (adds_on c.add_operands-rest.ensures c.add_end.ensures)))
    (of.chain_expr c.args.point _ (part d c.in-Chain.first) _ (map (operand_part d) c.in-Chain.rest) _ (whole d c.in-Chain.is (views.outs-Chain _ _)) (ap (part d) c.get-in-Chain.ensures)
    (ap (map (operand_part d)) c.as_slice-in-Chain.ensures))

pub exprs::add_whole-returns-in-Cast : goal.exprs::add_whole-returns-in-Cast
exprs::add_whole-returns-in-Cast g t c =
    let d = g.X.Enclose.on in
    adds (adds_on c.add_expr-operand.ensures c.add_casts.ensures)
    (of.cast_expr c.args.point _ (part d c.in-Cast.operand) _ c.in-Cast.types _ (whole d c.in-Cast.is (views.outs-Cast _ _)) (ap (part d) c.get-in-Cast.ensures)
    c.as_slice-in-Cast.ensures)

pub exprs::add_whole-returns-in-Range : goal.exprs::add_whole-returns-in-Range
exprs::add_whole-returns-in-Range g t c =
    let d = g.X.Enclose.on in
    adds (adds_on c.add_optional-first.ensures (adds_on c.add_dots_behind-dots.ensures c.add_optional.ensures))
    (of.range_expr c.args.point _ (option_map (part d) c.in-Range.start) c.in-Range.inclusive (option_map (part d) c.in-Range.end) _ (whole d c.in-Range.is (views.outs-Range _ _ _))
    c.optional_ends_in_point.ensures)

pub exprs::add_whole-returns-in-Unary : goal.exprs::add_whole-returns-in-Unary
exprs::add_whole-returns-in-Unary g t c =
    let d = g.X.Enclose.on in
    adds (adds_on c.add_prefixes-signs.ensures c.add_expr.ensures)
    (of.unary_expr c.args.point _ _ (part d c.in-Unary.operand) _ c.in-Unary.prefixes _ (whole d c.in-Unary.is (views.outs-Unary _ _)) c.as_slice-prefixes.ensures
    (ap (part d) c.get-in-Unary.ensures) (c.both.ensures ∙ ap (λ b. c.args.point && b) c.is_empty-in-Unary.ensures))

pub exprs::add_whole-returns-in-Assign : goal.exprs::add_whole-returns-in-Assign
exprs::add_whole-returns-in-Assign g t c =
    let d = g.X.Enclose.on in
    adds (adds_on c.add_targets-assigned.ensures c.add_expr-in-Assign.ensures)
    (steps.assign_expr c.args.point _ _ (part d c.in-Assign.value) _ (map (target_part d) c.in-Assign.targets) _ (whole d c.in-Assign.is (views.outs-Assign _ _)) (ap (map (target_part d)) c.as_slice-targets.ensures)
    (ap (part d) c.get-in-Assign.ensures) (c.both-in-Assign.ensures ∙ ap (λ b. c.args.point && b) (same_none (target_part d) _ _ c.is_empty-in-Assign.ensures)))

pub exprs::add_whole-add_steps_end-requires : goal.exprs::add_whole-add_steps_end-requires
exprs::add_whole-add_steps_end-requires g t c =
    let d = g.X.Enclose.on in
    steps.may_close_steps c.args.point c.part_ends_in_point.result c.are_several_methods-several.result
    (expr_told (part d c.get-base.result.now))
    (steps_form c.are_several_methods-several.result false (map about_step (map (enclose_step d) c.as_slice-steps.result.now)))
    (adds_on c.add_steps_start-start.ensures (adds_on c.add_expr-first-in-Postfix.ensures c.add_steps-rest.ensures))

pub exprs::add_whole-returns-in-Postfix : goal.exprs::add_whole-returns-in-Postfix
exprs::add_whole-returns-in-Postfix g t c =
    let d = g.X.Enclose.on in
    adds (adds_on c.add_steps_start-start.ensures (adds_on c.add_expr-first-in-Postfix.ensures
    (adds_on c.add_steps-rest.ensures c.add_steps_end.ensures)))
    (steps.postfix_expr c.args.point _ _ _ (part d c.in-Postfix.base) _ (map (enclose_step d) c.in-Postfix.steps) _ (whole d c.in-Postfix.is (views.outs-Postfix _ _)) (ap (part d) c.get-base.ensures)
    (ap (map (enclose_step d)) c.as_slice-steps.ensures) (c.are_several_methods-several.ensures ∙ ap (nat_le 2) (methods_kept d _)) c.part_ends_in_point.ensures)

pub exprs::add_whole-returns-in-Return : goal.exprs::add_whole-returns-in-Return
exprs::add_whole-returns-in-Return g t c =
    let d = g.X.Enclose.on in
    adds (adds_on c.add_text-word-in-Return.ensures c.add_operand.ensures)
    (of.return_expr c.args.point _ (option_map (part d) c.in-Return.operand) (whole d c.in-Return.is (views.outs-Return _)))

pub exprs::add_whole-returns-in-Break : goal.exprs::add_whole-returns-in-Break
exprs::add_whole-returns-in-Break g t c =
    let d = g.X.Enclose.on in
    adds (adds_on c.add_text-word-in-Break.ensures (adds_on c.add_label-label.ensures c.add_operand-in-Break.ensures))
    (of.break_expr c.args.point _ c.in-Break.label (option_map (part d) c.in-Break.operand) (whole d c.in-Break.is (views.outs-Break _ _)))

-- ---- blocks and statements

pub blocks::add_block-returns-then-both : goal.blocks::add_block-returns-then-both
blocks::add_block-returns-then-both g t c =
    let d = g.X.Enclose.on in
    adds c.add_either.ensures
    (bare_body c.args.lead (map attr_form c.as_slice-attrs.result.now ++ map stmt_told (map (enclose_stmt d) c.as_slice-stmts.result.now)) _
    (bare_is stmt_told c.as_slice-attrs.result.now (map (enclose_stmt d) c.as_slice-stmts.result.now) _ _ _ c.both.ensures c.is_empty.ensures
    (same_none (enclose_stmt d) _ _ c.is_empty-2.ensures)) c.if-both.true
    ∙ block_body c.args.lead (shell_block d c.args.block.now) _ _ c.as_slice-attrs.ensures (ap (map (enclose_stmt d)) c.as_slice-stmts.ensures)
    ∙ ap (λ (b : Block). stream_of ((about_block b).form c.args.lead)) (shell_block_is d c.args.block.now))

pub blocks::add_block-close_body-requires : goal.blocks::add_block-close_body-requires
blocks::add_block-close_body-requires g t c =
    let d = g.X.Enclose.on in
    may_close_body c.args.lead (each H (map attr_form c.as_slice-attrs.result.now)) (each H (map stmt_told (map (enclose_stmt d) c.as_slice-stmts.result.now)))
    (adds_on c.open_body-opened.ensures (adds_on c.add_inner_attrs-attrs.ensures
    (adds c.add_stmts-stmts.ensures (each_further (map stmt_told (map (enclose_stmt d) c.as_slice-stmts.result.now))))))

pub blocks::add_block-returns : goal.blocks::add_block-returns
blocks::add_block-returns g t c =
    let d = g.X.Enclose.on in
    adds (adds_on c.open_body-opened.ensures (adds_on c.add_inner_attrs-attrs.ensures
    (adds_on (adds c.add_stmts-stmts.ensures (each_further (map stmt_told (map (enclose_stmt d) c.as_slice-stmts.result.now)))) c.close_body.ensures)))
    (full_body c.args.lead (map attr_form c.as_slice-attrs.result.now) (map stmt_told (map (enclose_stmt d) c.as_slice-stmts.result.now)) _
    (bare_is stmt_told c.as_slice-attrs.result.now (map (enclose_stmt d) c.as_slice-stmts.result.now) _ _ _ c.both.ensures c.is_empty.ensures
    (same_none (enclose_stmt d) _ _ c.is_empty-2.ensures)) c.if-both.false
    ∙ block_body c.args.lead (shell_block d c.args.block.now) _ _ c.as_slice-attrs.ensures (ap (map (enclose_stmt d)) c.as_slice-stmts.ensures)
    ∙ ap (λ (b : Block). stream_of ((about_block b).form c.args.lead)) (shell_block_is d c.args.block.now))

pub blocks::add_soft-close_soft-requires : goal.blocks::add_soft-close_soft-requires
blocks::add_soft-close_soft-requires g t c = may_close_soft _ _ (adds_on c.open_body-opened.ensures c.add_stmts-stmts.ensures)

pub blocks::add_soft-returns-then-is_single : goal.blocks::add_soft-returns-then-is_single
blocks::add_soft-returns-then-is_single g t c =
    let d = g.X.Enclose.on in
    adds (adds_on c.open_body-opened.ensures (adds_on c.add_stmts-stmts.ensures c.close_soft.ensures))
    (single_block (shell_block d c.args.block.now) _ _ (c.is_single.ensures ∙ single_kept d _ _) c.if-is_single.true
    (ap (map (enclose_stmt d)) c.as_slice.ensures)
    ∙ ap (λ (b : Block). stream_of (about_block b).soft) (shell_block_is d c.args.block.now))

pub blocks::add_soft-returns : goal.blocks::add_soft-returns
blocks::add_soft-returns g t c =
    let d = g.X.Enclose.on in
    adds c.add_block.ensures
    (ap (λ (b : Block). stream_of ((about_block b).form true)) (sym (shell_block_is d c.args.block.now))
    ∙ other_block (shell_block d c.args.block.now) _ (c.is_single.ensures ∙ single_kept d _ _) c.if-is_single.false
    ∙ ap (λ (b : Block). stream_of (about_block b).soft) (shell_block_is d c.args.block.now))

pub blocks::add_stmts-loop-stmt-preserved : goal.blocks::add_stmts-loop-stmt-preserved
blocks::add_stmts-loop-stmt-preserved g t c =
    let d = g.X.Enclose.on in
    adds (adds_on c.loop-stmt.invariant (adds_on c.add_break-done.ensures c.add_stmt-done.ensures))
    (turn (λ (x : Stmt). stmt_told (enclose_stmt d x)) (tok.Break c.args.lead ∷ []) (tok.Break c.args.lead ∷ []) c.args.stmts.now _ _ c.loop-stmt-test.true
    c.stmt-item.is _ (same_before _ (tok.Break c.args.lead ∷ []) _))

pub blocks::add_stmts-returns : goal.blocks::add_stmts-returns
blocks::add_stmts-returns g t c =
    let d = g.X.Enclose.on in
    adds c.loop-stmt.invariant
    (all_turns (λ (xs : List Stmt). row (tok.Break c.args.lead ∷ []) (tok.Break c.args.lead ∷ []) (map (λ (x : Stmt). stmt_told (enclose_stmt d x)) xs))
    c.args.stmts.now _ c.loop-stmt-test.false
    ∙ ap (λ (es : List Form). row (tok.Break c.args.lead ∷ []) (tok.Break c.args.lead ∷ []) es)
    (map_twice stmt_told (enclose_stmt d) c.args.stmts.now)
    ∙ row_further (tok.Break c.args.lead ∷ []) (map stmt_told (map (enclose_stmt d) c.args.stmts.now)))

pub blocks::add_stmt-returns-in-Let : goal.blocks::add_stmt-returns-in-Let
blocks::add_stmt-returns-in-Let g t c =
    let d = g.X.Enclose.on in
    adds (adds_on c.add_attrs-attrs.ensures (adds_on c.add_text-word.ensures (adds_on c.add_pat-pat.ensures
    (adds_on c.add_self_type-ty.ensures (adds_on c.add_value-value.ensures (adds_on c.add_otherwise-otherwise.ensures
    c.add_text.ensures))))))
    (let_stmt _ c.in-Let.attrs _ c.in-Let.pat c.in-Let.ty (option_map (part d) c.in-Let.value)
    (option_map (enclose_block d) c.in-Let.otherwise) (whole_stmt d c.in-Let.is (views.outs-Stmt::Let _ _ _ _ _))
    c.as_slice.ensures)

pub blocks::add_stmt-returns-in-Item : goal.blocks::add_stmt-returns-in-Item
blocks::add_stmt-returns-in-Item g t c =
    let d = g.X.Enclose.on in
    adds c.add_item.ensures (item_stmt _ (enclose_item d c.in-Item.item) _ (whole_stmt d c.in-Item.is (views.outs-Item _)) (ap (enclose_item d) c.get.ensures))

pub blocks::add_stmt-returns-in-Expr : goal.blocks::add_stmt-returns-in-Expr
blocks::add_stmt-returns-in-Expr g t c =
    let d = g.X.Enclose.on in
    let put = rw c.get-in-Expr.ensures at c.add_whole-expr.ensures in
    adds (adds_on c.add_attrs-attrs-in-Expr.ensures (adds_on put c.add_if.ensures))
    (expr_stmt _ c.in-Expr.attrs _ (enclose d c.in-Expr.expr) c.in-Expr.ended (whole_stmt d c.in-Expr.is (views.outs-Stmt::Expr _ _ _)) c.as_slice-in-Expr.ensures)

pub blocks::add_otherwise-returns-in-Some : goal.blocks::add_otherwise-returns-in-Some
blocks::add_otherwise-returns-in-Some g t c =
    let d = g.X.Enclose.on in
    adds (adds_on c.add_text-word.ensures c.add_block.ensures)
    (some_otherwise (option_map (enclose_block d) c.args.otherwise.now) _ (ap (option_map (enclose_block d)) c.in-Some.is))

-- ---- conditions

pub conditions::add_condition-add_end-requires : goal.conditions::add_condition-add_end-requires
conditions::add_condition-add_end-requires g t c =
    let d = g.X.Enclose.on in
    may_end_condition c.args.word.now (condition_form (map about_link (map (enclose_link d) c.as_slice.result.now)))
    (adds_on c.add_condition_lead-lead.ensures c.add_links-links.ensures)

pub conditions::add_condition-returns : goal.conditions::add_condition-returns
conditions::add_condition-returns g t c =
    let d = g.X.Enclose.on in
    let links = adds c.add_links-links.ensures
    (conditions.links_told (shell_condition d c.args.condition.now) _ (ap (map (enclose_link d)) c.as_slice.ensures)
    ∙ ap (λ (x : Condition). stream_of (about_condition x).form) (shell_condition_is d c.args.condition.now)) in
    adds_on c.add_condition_lead-lead.ensures (adds_on links c.add_end.ensures)

pub conditions::add_links-returns-in-empty : goal.conditions::add_links-returns-in-empty
conditions::add_links-returns-in-empty g t c =
    let d = g.X.Enclose.on in
    adds adds_nothing (conditions.no_links (map (enclose_link d) c.args.links.now) (kept_below (enclose_link d) _ c.in-empty.len_below))

pub conditions::add_links-returns-in-len1 : goal.conditions::add_links-returns-in-len1
conditions::add_links-returns-in-len1 g t c =
    let d = g.X.Enclose.on in
    adds c.add_link.ensures (conditions.one_link (map (enclose_link d) c.args.links.now) _ (kept_least (enclose_link d) _ c.in-len1.len_at_least)
    (kept_below (enclose_link d) _ c.in-len1.len_below) (first_kept (enclose_link d) _ _ c.link-item.is))

pub conditions::add_links-add_end-requires : goal.conditions::add_links-add_end-requires
conditions::add_links-add_end-requires g t c =
    let d = g.X.Enclose.on in
    conditions.may_end_links (map (enclose_link d) c.args.links.now) (adds_on c.add_begin-group.ensures c.add_link_row-row.ensures)

pub conditions::add_links-returns-in-len2-up : goal.conditions::add_links-returns-in-len2-up
conditions::add_links-returns-in-len2-up g t c =
    let d = g.X.Enclose.on in
    adds (adds_on c.add_begin-group.ensures (adds_on c.add_link_row-row.ensures c.add_end.ensures))
    (conditions.several_links (map (enclose_link d) c.args.links.now) (kept_least (enclose_link d) _ c.in-len2-up.len_at_least))

pub conditions::add_link_row-loop-index-preserved : goal.conditions::add_link_row-loop-index-preserved
conditions::add_link_row-loop-index-preserved g t c =
    let d = g.X.Enclose.on in
    adds (adds_on c.loop-index.invariant (adds_on c.add_link_lead-done.ensures c.add_link-done.ensures))
    (turn (λ (x : Link). link_told (enclose_link d x)) [] link_between c.args.links.now _ _ c.loop-index-test.true c.index-links-index.is _ refl)

pub conditions::add_link_row-returns : goal.conditions::add_link_row-returns
conditions::add_link_row-returns g t c =
    let d = g.X.Enclose.on in
    adds c.loop-index.invariant
    (all_turns (λ (xs : List Link). row [] link_between (map (λ (x : Link). link_told (enclose_link d x)) xs)) c.args.links.now _ c.loop-index-test.false
    ∙ ap (λ (es : List Form). row [] link_between es) (map_twice link_told (enclose_link d) c.args.links.now))

pub conditions::add_link-returns-in-Expr : goal.conditions::add_link-returns-in-Expr
conditions::add_link-returns-in-Expr g t c =
    let d = g.X.Enclose.on in
    adds c.add_expr.ensures (conditions.expr_link _ (part d c.in-Expr.expr) _ (whole_link d c.in-Expr.is (views.outs-Link::Expr _)) (ap (part d) c.get.ensures))

pub conditions::add_link-returns-in-Let : goal.conditions::add_link-returns-in-Let
conditions::add_link-returns-in-Let g t c =
    let d = g.X.Enclose.on in
    adds (adds_on c.add_let_lead-lead.ensures c.add_expr-in-Let.ensures)
    (conditions.let_link _ c.in-Let.pat (part d c.in-Let.value) _ (whole_link d c.in-Let.is (views.outs-Link::Let _ _)) (ap (part d) c.get-in-Let.ensures))

-- ---- branches and arms

pub branches::add_scrutinee-add_end-requires : goal.branches::add_scrutinee-add_end-requires
branches::add_scrutinee-add_end-requires g t c =
    let d = g.X.Enclose.on in
    may_end_condition (codes "match ") (expr_told (part d c.args.scrutinee.now))
    (adds_on c.add_condition_lead-lead.ensures c.add_expr-scrutinee.ensures)

pub branches::add_scrutinee-returns : goal.branches::add_scrutinee-returns
branches::add_scrutinee-returns g t c =
    adds_on c.add_condition_lead-lead.ensures (adds_on c.add_expr-scrutinee.ensures c.add_end.ensures)

pub branches::add_branches-loop-index-preserved : goal.branches::add_branches-loop-index-preserved
branches::add_branches-loop-index-preserved g t c =
    let d = g.X.Enclose.on in
    adds (adds_on c.loop-index.invariant (adds_on c.add_else_word-done.ensures
    (adds (adds_on c.add_condition-done.ensures c.add_soft-done.ensures) (branch_parts (shell_branch d _)
    ∙ ap (λ (x : Branch). stream_of (branch_told x)) (shell_branch_is d _)))))
    (turn (λ (x : Branch). branch_told (enclose_branch d x)) [] else_between c.args.branches.now _ _ c.loop-index-test.true c.index-branches-index.is _ refl)

pub branches::add_branches-returns : goal.branches::add_branches-returns
branches::add_branches-returns g t c =
    let d = g.X.Enclose.on in
    adds c.loop-index.invariant
    (all_turns (λ (xs : List Branch). row [] else_between (map (λ (x : Branch). branch_told (enclose_branch d x)) xs)) c.args.branches.now _ c.loop-index-test.false
    ∙ ap (λ (es : List Form). row [] else_between es) (map_twice branch_told (enclose_branch d) c.args.branches.now))

pub branches::add_else-returns-in-Some : goal.branches::add_else-returns-in-Some
branches::add_else-returns-in-Some g t c =
    let d = g.X.Enclose.on in
    adds (adds_on c.add_text-word.ensures c.add_soft.ensures) (some_else (option_map (enclose_block d) c.args.otherwise.now) _
    (ap (option_map (enclose_block d)) c.in-Some.is))

pub branches::add_arms-returns-then-both : goal.branches::add_arms-returns-then-both
branches::add_arms-returns-then-both g t c =
    let d = g.X.Enclose.on in
    adds c.add_text.ensures
    (bare_body true (map attr_form c.args.attrs.now ++ map arm_told (map (enclose_arm d) c.args.arms.now)) _
    (bare_is arm_told c.args.attrs.now (map (enclose_arm d) c.args.arms.now) _ _ _ c.both.ensures c.is_empty.ensures (same_none (enclose_arm d) _ _ c.is_empty-2.ensures)) c.if-both.true)

pub branches::add_arms-close_body-requires : goal.branches::add_arms-close_body-requires
branches::add_arms-close_body-requires g t c =
    let d = g.X.Enclose.on in
    may_close_body true (each H (map attr_form c.args.attrs.now)) (each H (map arm_told (map (enclose_arm d) c.args.arms.now)))
    (adds_on c.open_body-opened.ensures (adds_on c.add_inner_attrs-attrs.ensures c.add_arm_lines-arms.ensures))

pub branches::add_arms-returns : goal.branches::add_arms-returns
branches::add_arms-returns g t c =
    let d = g.X.Enclose.on in
    adds (adds_on c.open_body-opened.ensures
    (adds_on c.add_inner_attrs-attrs.ensures (adds_on c.add_arm_lines-arms.ensures c.close_body.ensures)))
    (full_body true (map attr_form c.args.attrs.now) (map arm_told (map (enclose_arm d) c.args.arms.now)) _
    (bare_is arm_told c.args.attrs.now (map (enclose_arm d) c.args.arms.now) _ _ _ c.both.ensures c.is_empty.ensures (same_none (enclose_arm d) _ _ c.is_empty-2.ensures)) c.if-both.false)

pub branches::add_arm_lines-loop-arm-preserved : goal.branches::add_arm_lines-loop-arm-preserved
branches::add_arm_lines-loop-arm-preserved g t c =
    let d = g.X.Enclose.on in
    adds (adds_on c.loop-arm.invariant (adds_on c.add_break-done.ensures c.add_arm-done.ensures))
    (turn (λ (x : Arm). arm_told (enclose_arm d x)) line line c.args.arms.now _ _ c.loop-arm-test.true c.arm-item.is _ (line_before _ _))

pub branches::add_arm_lines-returns : goal.branches::add_arm_lines-returns
branches::add_arm_lines-returns g t c =
    let d = g.X.Enclose.on in
    adds c.loop-arm.invariant
    (all_turns (λ (arms : List Arm). row line line (map (λ (x : Arm). arm_told (enclose_arm d x)) arms)) c.args.arms.now _ c.loop-arm-test.false
    ∙ ap (λ (es : List Form). row line line es) (map_twice arm_told (enclose_arm d) c.args.arms.now)
    ∙ lines_put (map arm_told (map (enclose_arm d) c.args.arms.now)))

pub branches::add_arm-add_end-head-requires : goal.branches::add_arm-add_end-head-requires
branches::add_arm-add_end-head-requires g t c =
    let d = g.X.Enclose.on in
    may_end_arm_head (attrs_told c.as_slice.result.now) (about_pat c.args.arm.now.pat).told.form
    (guard_form (option_map about_expr (option_map (part d) c.args.arm.now.guard)))
    (adds_on c.add_attrs-attrs.ensures (adds_on c.add_group-group.ensures (adds_on c.add_pat-pat.ensures c.add_guard-guard.ensures)))

pub branches::add_arm-close_arm-requires : goal.branches::add_arm-close_arm-requires
branches::add_arm-close_arm-requires g t c =
    let d = g.X.Enclose.on in
    let put = rw c.get-2.ensures at c.add_body_part-inner.ensures in
    may_close_arm (seen_as c.arm_body_braces-braces.result) (expr_told (body_part d c.args.arm.now.body))
    (adds_on c.open_arm-opened.ensures put)

pub branches::add_arm-returns : goal.branches::add_arm-returns
branches::add_arm-returns g t c =
    let d = g.X.Enclose.on in
    let braces = rw c.get.ensures at c.arm_body_braces-braces.ensures in
    let put = rw c.get-2.ensures at c.add_body_part-inner.ensures in
    adds (adds_on c.add_attrs-attrs.ensures (adds_on c.add_group-group.ensures (adds_on c.add_pat-pat.ensures
    (adds_on c.add_guard-guard.ensures (adds_on c.add_end-head.ensures (adds_on c.add_text-arrow.ensures
    (adds_on c.add_break-never.ensures (adds_on c.open_arm-opened.ensures (adds_on put c.close_arm.ensures)))))))))
    (arm_parts (shell_arm d c.args.arm.now) _ _ true c.as_slice.ensures braces
    ∙ ap (λ (x : Arm). stream_of (arm_told x)) (shell_arm_is d c.args.arm.now))

pub branches::add_guard-returns-in-Some : goal.branches::add_guard-returns-in-Some
branches::add_guard-returns-in-Some g t c =
    let d = g.X.Enclose.on in
    let put = rw c.get.ensures at c.add_expr.ensures in
    adds (adds_on c.add_text-word.ensures put) (some_guard (option_map (part d) c.args.guard.now) _ (ap (option_map (part d)) c.in-Some.is))

-- ---- expressions that end in blocks

pub exprs::add_whole-returns-in-Block : goal.exprs::add_whole-returns-in-Block
exprs::add_whole-returns-in-Block g t c =
    let d = g.X.Enclose.on in
    adds (adds_on c.add_labelled-label.ensures c.add_block.ensures)
    (branches.block_expr c.args.point _ c.in-Block.label (enclose_block d c.in-Block.body) (whole d c.in-Block.is (views.outs-Block _ _)))

pub exprs::add_whole-returns-in-Unsafe : goal.exprs::add_whole-returns-in-Unsafe
exprs::add_whole-returns-in-Unsafe g t c =
    let d = g.X.Enclose.on in
    adds (adds_on c.add_text-word-in-Unsafe.ensures c.add_soft.ensures)
    (branches.unsafe_expr c.args.point _ (enclose_block d c.in-Unsafe.body) (whole d c.in-Unsafe.is (views.outs-Unsafe _)))

pub exprs::add_whole-returns-in-ConstBlock : goal.exprs::add_whole-returns-in-ConstBlock
exprs::add_whole-returns-in-ConstBlock g t c =
    let d = g.X.Enclose.on in
    adds (adds_on c.add_text-word-in-ConstBlock.ensures c.add_soft-in-ConstBlock.ensures)
    (branches.const_expr c.args.point _ (enclose_block d c.in-ConstBlock.body) (whole d c.in-ConstBlock.is (views.outs-ConstBlock _)))

pub exprs::add_whole-returns-in-Async : goal.exprs::add_whole-returns-in-Async
exprs::add_whole-returns-in-Async g t c =
    let d = g.X.Enclose.on in
    adds (adds_on c.add_text-word-in-Async.ensures (adds_on c.add_if-word.ensures c.add_block-in-Async.ensures))
    (branches.async_expr c.args.point _ c.in-Async.moves (enclose_block d c.in-Async.body) (whole d c.in-Async.is (views.outs-Async _ _)))

pub exprs::add_whole-returns-in-If : goal.exprs::add_whole-returns-in-If
exprs::add_whole-returns-in-If g t c =
    let d = g.X.Enclose.on in
    adds (adds_on c.add_branches-branches.ensures c.add_else.ensures)
    (branches.if_expr c.args.point _ (map (enclose_branch d) c.in-If.branches) _ (option_map (enclose_block d) c.in-If.otherwise) (whole d c.in-If.is (views.outs-If _ _)) (ap (map (enclose_branch d)) c.as_slice-in-If.ensures))

pub exprs::add_whole-returns-in-Match : goal.exprs::add_whole-returns-in-Match
exprs::add_whole-returns-in-Match g t c =
    let d = g.X.Enclose.on in
    adds (adds_on c.add_scrutinee-head.ensures c.add_arms.ensures)
    (branches.match_expr c.args.point _ (part d c.in-Match.scrutinee) _ c.in-Match.attrs _ (map (enclose_arm d) c.in-Match.arms) _ (whole d c.in-Match.is (views.outs-Match _ _ _))
    (ap (part d) c.get-in-Match.ensures) c.as_slice-in-Match.ensures (ap (map (enclose_arm d)) c.as_slice-in-Match-2.ensures))

pub exprs::add_whole-returns-in-Loop : goal.exprs::add_whole-returns-in-Loop
exprs::add_whole-returns-in-Loop g t c =
    let d = g.X.Enclose.on in
    adds (adds_on c.add_labelled-label-in-Loop.ensures (adds_on c.add_text-word-in-Loop.ensures c.add_block-in-Loop.ensures))
    (branches.loop_expr c.args.point _ c.in-Loop.label (enclose_block d c.in-Loop.body) (whole d c.in-Loop.is (views.outs-Loop _ _)))

pub exprs::add_whole-returns-in-While : goal.exprs::add_whole-returns-in-While
exprs::add_whole-returns-in-While g t c =
    let d = g.X.Enclose.on in
    adds (adds_on c.add_labelled-label-in-While.ensures (adds_on c.add_condition-head.ensures c.add_block-in-While.ensures))
    (branches.while_expr c.args.point _ c.in-While.label (enclose_condition d c.in-While.condition) (enclose_block d c.in-While.body) (whole d c.in-While.is (views.outs-While _ _ _)))

pub exprs::add_whole-add_end-head-requires : goal.exprs::add_whole-add_end-head-requires
exprs::add_whole-add_end-head-requires g t c =
    let d = g.X.Enclose.on in
    branches.may_end_for (about_pat c.in-For.pat).told.form (expr_told (part d c.get-in-For.result.now))
    (adds_on c.add_group-group.ensures (adds_on c.add_text-word-in-For.ensures (adds_on c.add_pat-pat.ensures
    (adds_on c.add_text-word-in-For-2.ensures c.add_expr-iterated.ensures))))

pub exprs::add_whole-returns-in-For : goal.exprs::add_whole-returns-in-For
exprs::add_whole-returns-in-For g t c =
    let d = g.X.Enclose.on in
    adds (adds_on c.add_labelled-label-in-For.ensures (adds_on c.add_group-group.ensures (adds_on c.add_text-word-in-For.ensures
    (adds_on c.add_pat-pat.ensures (adds_on c.add_text-word-in-For-2.ensures (adds_on c.add_expr-iterated.ensures
    (adds_on c.add_end-head.ensures c.add_block-in-For.ensures)))))))
    (branches.for_expr c.args.point _ c.in-For.label c.in-For.pat (part d c.in-For.iterated) _ (enclose_block d c.in-For.body) (whole d c.in-For.is (views.outs-For _ _ _ _))
    (ap (part d) c.get-in-For.ensures))

pub exprs::add_closure_body-close_closure-requires : goal.exprs::add_closure_body-close_closure-requires
exprs::add_closure_body-close_closure-requires g t c =
    let d = g.X.Enclose.on in
    branches.may_close_closure (seen_as c.closure_body_braces-braces.result) (expr_told (body_part d c.args.body.now))
    (adds_on c.open_closure-opened.ensures c.add_body_part-inner.ensures)

pub exprs::add_closure_body-returns : goal.exprs::add_closure_body-returns
exprs::add_closure_body-returns g t c =
    let d = g.X.Enclose.on in
    adds (adds_on c.open_closure-opened.ensures (adds_on c.add_body_part-inner.ensures c.close_closure.ensures))
    (branches.closure_parts (body_part d c.args.body.now) _ c.closure_body_braces-braces.ensures)

pub exprs::add_whole-returns-in-Closure : goal.exprs::add_whole-returns-in-Closure
exprs::add_whole-returns-in-Closure g t c =
    let d = g.X.Enclose.on in
    adds (adds_on c.add_closure_head-head.ensures (adds_on c.add_text-blank.ensures c.add_closure_body.ensures))
    (branches.closure_expr c.args.point _ c.in-Closure.is_async c.in-Closure.moves c.in-Closure.params _ (body_part d c.in-Closure.body) _ (whole d c.in-Closure.is (views.outs-Closure _ _ _ _))
    c.as_slice-in-Closure.ensures (ap (body_part d) c.get-in-Closure.ensures))

pub exprs::add_whole-returns-in-TypedClosure : goal.exprs::add_whole-returns-in-TypedClosure
exprs::add_whole-returns-in-TypedClosure g t c =
    let d = g.X.Enclose.on in
    adds (adds_on c.add_closure_head-head-in-TypedClosure.ensures (adds_on c.add_text-arrow.ensures
    (adds_on c.add_type-output.ensures c.add_block-in-TypedClosure.ensures)))
    (branches.typed_closure_expr c.args.point _ c.in-TypedClosure.is_async c.in-TypedClosure.moves c.in-TypedClosure.params _ c.in-TypedClosure.output
    (enclose_block d c.in-TypedClosure.body) (whole d c.in-TypedClosure.is (views.outs-TypedClosure _ _ _ _ _)) c.as_slice-in-TypedClosure.ensures)

-- ---- items

pub items::add_item-returns : goal.items::add_item-returns
items::add_item-returns g t c =
    let d = g.X.Enclose.on in
    let put = rw c.get.ensures at c.add_kind.ensures in
    adds (adds_on c.add_attrs-attrs.ensures put)
    (item_parts (shell_item d c.args.item.now) _ c.as_slice.ensures
    ∙ ap (λ (x : Item). stream_of (form_of_item x)) (shell_item_is d c.args.item.now))

pub items::add_kind-returns-in-ExternCrate : goal.items::add_kind-returns-in-ExternCrate
items::add_kind-returns-in-ExternCrate g t c =
    let d = g.X.Enclose.on in
    adds c.add_extern_crate.ensures (kind_of c.args.vis.now (whole_kind d c.in-ExternCrate.is (views.outs-ExternCrate _)) (extern_crate_is _))

pub items::add_kind-returns-in-Import : goal.items::add_kind-returns-in-Import
items::add_kind-returns-in-Import g t c =
    let d = g.X.Enclose.on in
    adds c.add_ended.ensures
    (ap (λ tree. head_row c.args.vis.now (import_head tree) ++ stream_of (piece semicolon)) c.get.ensures
    ∙ headed c.args.vis.now (about_import c.in-Import.tree) steady_semicolon
    ∙ kind_of c.args.vis.now (whole_kind d c.in-Import.is (views.outs-Import _)) (import_is _))

pub items::add_kind-returns-in-FileModule : goal.items::add_kind-returns-in-FileModule
items::add_kind-returns-in-FileModule g t c =
    let d = g.X.Enclose.on in
    adds c.add_ended-in-FileModule.ensures
    (headed c.args.vis.now (about_file_module c.in-FileModule.name) steady_semicolon
    ∙ kind_of c.args.vis.now (whole_kind d c.in-FileModule.is (views.outs-FileModule _)) (file_module_is _))

pub items::add_kind-returns-in-Module : goal.items::add_kind-returns-in-Module
items::add_kind-returns-in-Module g t c =
    let d = g.X.Enclose.on in
    adds (adds_on c.add_head-head.ensures c.add_body.ensures)
    (head_body c.args.vis.now (module_head c.in-Module.name) c.in-Module.attrs _ (map (enclose_item d) c.in-Module.items) _
    c.as_slice.ensures (ap (map (enclose_item d)) c.as_slice-in-Module.ensures)
    ∙ kind_of c.args.vis.now (whole_kind d c.in-Module.is (views.outs-Module _ _ _)) (module_is _ _ _))

pub items::add_kind-returns-in-Function : goal.items::add_kind-returns-in-Function
items::add_kind-returns-in-Function g t c =
    let d = g.X.Enclose.on in
    adds c.add_function.ensures
    (headed c.args.vis.now (about_function Module c.in-Function.head c.in-Function.wheres (option_map about_block (option_map (enclose_block d) c.in-Function.body)))
    (steady_function c.in-Function.wheres (option_map (enclose_block d) c.in-Function.body))
    ∙ kind_of c.args.vis.now (whole_kind d c.in-Function.is (views.outs-Function _ _ _)) (function_is _ _ _))

pub items::add_function-returns-in-None : goal.items::add_function-returns-in-None
items::add_function-returns-in-None g t c =
    let d = g.X.Enclose.on in
    adds c.add_ended_clause.ensures
    (no_body (head_row c.args.vis.now (fn_head_form c.args.head.now)) c.args.wheres.now (option_map (enclose_block d) c.args.body.now)
    (ap (option_map (enclose_block d)) c.in-None.is))

pub items::add_function-returns-in-Some : goal.items::add_function-returns-in-Some
items::add_function-returns-in-Some g t c =
    let d = g.X.Enclose.on in
    adds (adds_on c.add_clause-clause.ensures c.add_block.ensures)
    (some_body (head_row c.args.vis.now (fn_head_form c.args.head.now)) c.args.wheres.now _ (option_map (enclose_block d) c.args.body.now) _
    (ap (option_map (enclose_block d)) c.in-Some.is) c.leads.ensures)

pub items::add_kind-returns-in-Alias : goal.items::add_kind-returns-in-Alias
items::add_kind-returns-in-Alias g t c =
    let d = g.X.Enclose.on in
    adds c.add_alias.ensures (kind_of c.args.vis.now (whole_kind d c.in-Alias.is (views.outs-Alias _)) (alias_is _))

pub items::add_kind-returns-in-Struct : goal.items::add_kind-returns-in-Struct
items::add_kind-returns-in-Struct g t c =
    let d = g.X.Enclose.on in
    adds c.add_struct.ensures (kind_of c.args.vis.now (whole_kind d c.in-Struct.is (views.outs-ItemKind::Struct _)) (struct_is _))

pub items::add_kind-returns-in-Union : goal.items::add_kind-returns-in-Union
items::add_kind-returns-in-Union g t c =
    let d = g.X.Enclose.on in
    adds c.add_union.ensures (kind_of c.args.vis.now (whole_kind d c.in-Union.is (views.outs-Union _)) (union_is _))

pub items::add_kind-returns-in-Enum : goal.items::add_kind-returns-in-Enum
items::add_kind-returns-in-Enum g t c =
    let d = g.X.Enclose.on in
    adds c.add_enum.ensures (kind_of c.args.vis.now (whole_kind d c.in-Enum.is (views.outs-Enum _)) (enum_is _))

pub items::add_kind-returns-in-Value : goal.items::add_kind-returns-in-Value
items::add_kind-returns-in-Value g t c =
    let d = g.X.Enclose.on in
    adds c.add_valued.ensures
    (headed c.args.vis.now (about_value Module c.in-Value.head (option_map about_expr (option_map (part d) c.in-Value.value))) steady_semicolon
    ∙ kind_of c.args.vis.now (whole_kind d c.in-Value.is (views.outs-Value _ _)) (value_is _ _))

pub items::add_kind-returns-in-Trait : goal.items::add_kind-returns-in-Trait
items::add_kind-returns-in-Trait g t c =
    let d = g.X.Enclose.on in
    adds (adds_on c.add_clause-clause.ensures c.add_body-in-Trait.ensures)
    (clause_body c.args.vis.now (trait_head_form c.in-Trait.head) c.in-Trait.wheres _ c.in-Trait.attrs _ (map (enclose_item d) c.in-Trait.items) _
    c.leads.ensures c.as_slice-in-Trait.ensures (ap (map (enclose_item d)) c.as_slice-in-Trait-2.ensures)
    ∙ kind_of c.args.vis.now (whole_kind d c.in-Trait.is (views.outs-Trait _ _ _ _)) (trait_is _ _ _ _))

pub items::add_kind-returns-in-Impl : goal.items::add_kind-returns-in-Impl
items::add_kind-returns-in-Impl g t c =
    let d = g.X.Enclose.on in
    adds (adds_on c.add_clause-clause-in-Impl.ensures c.add_body-in-Impl.ensures)
    (clause_body c.args.vis.now (impl_head_form c.in-Impl.head) c.in-Impl.wheres _ c.in-Impl.attrs _ (map (enclose_item d) c.in-Impl.items) _
    c.leads-in-Impl.ensures c.as_slice-in-Impl.ensures (ap (map (enclose_item d)) c.as_slice-in-Impl-2.ensures)
    ∙ kind_of c.args.vis.now (whole_kind d c.in-Impl.is (views.outs-Impl _ _ _ _)) (impl_is _ _ _ _))

pub items::add_kind-returns-in-Foreign : goal.items::add_kind-returns-in-Foreign
items::add_kind-returns-in-Foreign g t c =
    let d = g.X.Enclose.on in
    adds (adds_on c.add_foreign_head-head.ensures c.add_body-in-Foreign.ensures)
    (head_body c.args.vis.now (foreign_head c.in-Foreign.is_unsafe c.in-Foreign.abi) c.in-Foreign.attrs _
    (map (enclose_item d) c.in-Foreign.items) _ c.as_slice-in-Foreign.ensures (ap (map (enclose_item d)) c.as_slice-in-Foreign-2.ensures)
    ∙ kind_of c.args.vis.now (whole_kind d c.in-Foreign.is (views.outs-Foreign _ _ _ _)) (foreign_is _ _ _ _))

pub items::add_kind-returns-in-MacroRules : goal.items::add_kind-returns-in-MacroRules
items::add_kind-returns-in-MacroRules g t c =
    let d = g.X.Enclose.on in
    adds c.add_macro_rules.ensures (kind_of c.args.vis.now (whole_kind d c.in-MacroRules.is (views.outs-MacroRules _ _)) (rules_is _ _))

pub items::add_kind-returns-in-Call : goal.items::add_kind-returns-in-Call
items::add_kind-returns-in-Call g t c =
    let d = g.X.Enclose.on in
    adds c.add_call_item.ensures (kind_of c.args.vis.now (whole_kind d c.in-Call.is (views.outs-ItemKind::Call _)) (call_is _))

pub items::add_body-returns-then-both : goal.items::add_body-returns-then-both
items::add_body-returns-then-both g t c =
    let d = g.X.Enclose.on in
    adds c.add_either.ensures
    (bare_body c.args.lead (map attr_form c.args.attrs.now ++ map form_of_item (map (enclose_item d) c.args.items.now)) _
    (bare_is form_of_item c.args.attrs.now (map (enclose_item d) c.args.items.now) _ _ _ c.both.ensures c.is_empty.ensures (same_none (enclose_item d) _ _ c.is_empty-2.ensures)) c.if-both.true)

pub items::add_body-close_body-requires : goal.items::add_body-close_body-requires
items::add_body-close_body-requires g t c =
    let d = g.X.Enclose.on in
    may_close_body c.args.lead (each H (map attr_form c.args.attrs.now)) (each H (map form_of_item (map (enclose_item d) c.args.items.now)))
    (adds_on c.open_body-opened.ensures (adds_on c.add_inner_attrs-attrs.ensures c.add_lines-items.ensures))

pub items::add_body-returns : goal.items::add_body-returns
items::add_body-returns g t c =
    let d = g.X.Enclose.on in
    adds (adds_on c.open_body-opened.ensures
    (adds_on c.add_inner_attrs-attrs.ensures (adds_on c.add_lines-items.ensures c.close_body.ensures)))
    (full_body c.args.lead (map attr_form c.args.attrs.now) (map form_of_item (map (enclose_item d) c.args.items.now)) _
    (bare_is form_of_item c.args.attrs.now (map (enclose_item d) c.args.items.now) _ _ _ c.both.ensures c.is_empty.ensures (same_none (enclose_item d) _ _ c.is_empty-2.ensures)) c.if-both.false)

pub items::add_lines-loop-item-preserved : goal.items::add_lines-loop-item-preserved
items::add_lines-loop-item-preserved g t c =
    let d = g.X.Enclose.on in
    adds (adds_on c.loop-item.invariant (adds_on c.add_break-done.ensures c.add_item-done.ensures))
    (turn (λ (x : Item). form_of_item (enclose_item d x)) line line c.args.items.now _ _ c.loop-item-test.true c.item-item.is _ (line_before _ _))

pub items::add_lines-returns : goal.items::add_lines-returns
items::add_lines-returns g t c =
    let d = g.X.Enclose.on in
    adds c.loop-item.invariant
    (all_turns (λ (items : List Item). row line line (map (λ (x : Item). form_of_item (enclose_item d x)) items)) c.args.items.now _ c.loop-item-test.false
    ∙ ap (λ (es : List Form). row line line es) (map_twice form_of_item (enclose_item d) c.args.items.now)
    ∙ lines_put (map form_of_item (map (enclose_item d) c.args.items.now)))

pub items::add_valued-add_end-whole-requires : goal.items::add_valued-add_end-whole-requires
items::add_valued-add_end-whole-requires g t c =
    let d = g.X.Enclose.on in
    may_end_head c.args.vis.now (Part (value_head_form c.args.head.now) (value_form (option_map about_expr (option_map (part d) c.args.value.now))))
    (adds_on c.open_head-opened.ensures
    (adds (adds_on c.add-head.ensures c.add_value-value.ensures)
    (valued_head c.args.head.now (option_map about_expr (option_map (part d) c.args.value.now)))))

pub items::add_valued-returns : goal.items::add_valued-returns
items::add_valued-returns g t c =
    let d = g.X.Enclose.on in
    adds_on (adds_on c.open_head-opened.ensures
    (adds_on (adds (adds_on c.add-head.ensures c.add_value-value.ensures)
    (valued_head c.args.head.now (option_map about_expr (option_map (part d) c.args.value.now))))
    c.add_end-whole.ensures)) c.add_text.ensures

pub blocks::add_value-returns-in-Some : goal.blocks::add_value-returns-in-Some
blocks::add_value-returns-in-Some g t c =
    let d = g.X.Enclose.on in
    let put = rw c.get.ensures at c.add_expr.ensures in
    adds (adds_on c.add_text-equals.ensures (adds_on c.add_break-lead.ensures put))
    (some_value (option_map (part d) c.args.value.now) _ (ap (option_map (part d)) c.in-Some.is))
