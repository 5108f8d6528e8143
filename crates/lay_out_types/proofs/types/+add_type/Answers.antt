use Rattle.std.proofs.Common.{List, [], ◌∷◌, ◌++◌, map, cond, codes, pos, true, false, refl, ap, ◌∙◌, append_assoc}
use Rattle.lay_layout.specs.declared.layout.Tok.{Tok}
use Rattle.lay_layout.specs.declared.layout.Tok.TheVariants as tok
use Rattle.lay_form.specs.Stream.{stream_of}
use Rattle.lay_node.specs.nodes.Types.{about_arg, about_bound, about_func_param, about_start}
use Rattle.lay_node.specs.declared.token.Word.{Word}
use Rattle.lay_node.specs.declared.types.Arg.{Arg}
use Rattle.lay_node.specs.declared.types.Args.{Args}
use Rattle.lay_node.specs.declared.types.Bound.{Bound}
use Rattle.lay_node.specs.declared.types.FuncParam.{FuncParam}
use Rattle.lay_node.specs.declared.types.Ty.{Ty}
use Rattle.lay_out_types.specs.Rows.{comma_between, list_closed, list_opened, plus_between, row}
use Rattle.lay_out_types.proofs.Adding.{adds, adds_nothing, adds_on}
use Rattle.lay_out_types.proofs.FormRows.{may_close, may_end, none_is, none_left, one_there}
use Rattle.lay_out_types.proofs.RowLemmas.{all_turns, turn}
use Rattle.lay_out_types.proofs.TypeLemmas as of
use Rattle.lay_out_types.proofs.TypeLemmas.{form_of, segment_part, told_form}
use Rattle.lay_out_types.proofs.types.+add_type.Goals as goal

pub add_angles-loop-index-preserved : goal.add_angles-loop-index-preserved
add_angles-loop-index-preserved g t c =
    adds (adds_on c.loop-index.invariant (adds_on c.add_lead-done.ensures c.add_arg-done.ensures))
    (turn (form_of about_arg) (list_opened
    (codes "<")) comma_between c.args.args.now _ _ c.loop-index-test.true c.index-args-index.is _ refl)

pub add_angles-add_close-requires : goal.add_angles-add_close-requires
add_angles-add_close-requires g t c =
    may_close (codes "<") (codes "<>") (codes ">") true _ _
    (none_left (form_of about_arg) c.args.args.now _ _ c.loop-index-test.false c.is_empty.ensures)
    c.loop-index.invariant

pub add_angles-returns : goal.add_angles-returns
add_angles-returns g t c =
    adds (adds_on c.loop-index.invariant c.add_close.ensures)
    (all_turns (λ (xs : List Arg). row (list_opened (codes "<")) comma_between (map (form_of about_arg) xs)
    ++ list_closed true c.is_empty.result (codes "<>") (codes ">")) c.args.args.now _ c.loop-index-test.false
    ∙ of.args_are c.args.args.now _ (none_is (form_of about_arg) c.args.args.now _ c.is_empty.ensures))

pub add_arg-returns-in-Region : goal.add_arg-returns-in-Region
add_arg-returns-in-Region g t c =
    adds c.add_text.ensures
    (of.region_arg _ c.in-Region.lifetime _ c.in-Region.is c.as_bytes.ensures)

pub add_arg-returns-in-Plain : goal.add_arg-returns-in-Plain
add_arg-returns-in-Plain g t c =
    adds c.add_type.ensures
    (of.plain_arg _ c.in-Plain.ty c.in-Plain.is)

pub add_arg-returns-in-Const : goal.add_arg-returns-in-Const
add_arg-returns-in-Const g t c =
    adds c.add_const.ensures
    (of.const_arg _ c.in-Const.value c.in-Const.is)

pub add_arg-returns-in-Named : goal.add_arg-returns-in-Named
add_arg-returns-in-Named g t c =
    adds (adds_on c.add_word-name.ensures (adds_on c.add_args-args.ensures c.add_constraint.ensures))
    (of.named_arg _ c.in-Named.name c.in-Named.args c.in-Named.constraint c.in-Named.is)

pub add_args-returns-in-None : goal.add_args-returns-in-None
add_args-returns-in-None g t c =
    adds adds_nothing (of.no_args _ c.args.style c.in-None.is)

pub add_args-returns-in-Code : goal.add_args-returns-in-Code
add_args-returns-in-Code g t c =
    adds (adds_on c.add_text-colons.ensures c.add_angles.ensures)
    (of.code_angles _ _ c.in-Angle.args _ c.in-Angle.is c.in-Code.is c.as_slice.ensures)

pub add_args-returns-in-Kind : goal.add_args-returns-in-Kind
add_args-returns-in-Kind g t c =
    adds c.add_angles-in-Kind.ensures
    (of.kind_angles _ _ c.in-Angle.args _ c.in-Angle.is c.in-Kind.is c.as_slice-in-Kind.ensures)

pub add_args-returns-in-Round : goal.add_args-returns-in-Round
add_args-returns-in-Round g t c =
    adds (adds_on c.add_types-inputs.ensures c.add_output.ensures)
    (of.round_args _ c.args.style c.in-Round.inputs _ c.in-Round.output c.in-Round.is c.as_slice-in-Round.ensures)

pub add_bound-returns-in-Outlives : goal.add_bound-returns-in-Outlives
add_bound-returns-in-Outlives g t c =
    adds c.add_text.ensures
    (of.outlives_bound _ c.in-Outlives.lifetime _ c.in-Outlives.is c.as_bytes.ensures)

pub add_bound-returns-in-Meets : goal.add_bound-returns-in-Meets
add_bound-returns-in-Meets g t c =
    adds (adds_on c.add_if-opener.ensures
    (adds_on c.add_if-question.ensures (adds_on c.add_binder-binder.ensures
    (adds_on c.add_path-path.ensures c.add_if.ensures))))
    (of.meets_bound _ c.in-Meets.parens c.in-Meets.maybe c.in-Meets.binder c.in-Meets.path c.in-Meets.is)

pub add_bound-returns-in-Captures : goal.add_bound-returns-in-Captures
add_bound-returns-in-Captures g t c =
    adds (adds_on c.add_text-word.ensures c.add_captures.ensures)
    (of.captures_bound _ c.in-Captures.captured _ c.in-Captures.is c.as_slice.ensures)

pub add_bounds-loop-index-preserved : goal.add_bounds-loop-index-preserved
add_bounds-loop-index-preserved g t c =
    adds (adds_on c.loop-index.invariant (adds_on c.add_plus-done.ensures c.add_bound-done.ensures))
    (ap (λ (s : List Tok). tok.Begin false (pos 4) ∷ s)
    (turn (form_of about_bound) [] plus_between c.args.bounds.now _ _ c.loop-index-test.true c.index-bounds-index.is _
    refl))

pub add_bounds-add_end-requires : goal.add_bounds-add_end-requires
add_bounds-add_end-requires g t c =
    may_end (map (form_of about_bound) _) c.loop-index.invariant

pub add_bounds-returns : goal.add_bounds-returns
add_bounds-returns g t c =
    adds (adds_on c.loop-index.invariant c.add_end.ensures)
    (all_turns (λ (xs : List Bound). (tok.Begin false (pos 4) ∷ row [] plus_between (map (form_of about_bound) xs))
    ++ (tok.End ∷ [])) c.args.bounds.now _ c.loop-index-test.false
    ∙ of.all_bounds c.args.bounds.now)

pub add_constraint-returns-in-Equal : goal.add_constraint-returns-in-Equal
add_constraint-returns-in-Equal g t c =
    adds (adds_on c.add_text-equals.ensures c.add_type.ensures)
    (of.equal_constraint _ c.in-Equal.ty c.in-Equal.is)

pub add_constraint-returns-in-EqualConst : goal.add_constraint-returns-in-EqualConst
add_constraint-returns-in-EqualConst g t c =
    adds (adds_on c.add_text-equals-in-EqualConst.ensures c.add_const.ensures)
    (of.const_constraint _ c.in-EqualConst.value c.in-EqualConst.is)

pub add_constraint-returns-in-Limit : goal.add_constraint-returns-in-Limit
add_constraint-returns-in-Limit g t c =
    adds (adds_on c.add_text-colon.ensures c.add_bounds.ensures)
    (of.limit_constraint _ c.in-Limit.bounds _ c.in-Limit.is c.as_slice.ensures)

pub add_output-returns-in-Some : goal.add_output-returns-in-Some
add_output-returns-in-Some g t c =
    adds (adds_on c.add_text-arrow.ensures c.add_type.ensures)
    (of.some_output _ c.in-Some.ty _ c.in-Some.is c.get.ensures)

pub add_params-loop-index-preserved : goal.add_params-loop-index-preserved
add_params-loop-index-preserved g t c =
    adds (adds_on c.loop-index.invariant (adds_on c.add_lead-done.ensures (adds_on c.add_param_attrs-done.ensures
    (adds_on c.add_param_name-done.ensures c.add_type-done.ensures))))
    (turn (form_of about_func_param) (list_opened
    (codes "(")) comma_between c.args.params.now _ _ c.loop-index-test.true
    c.index-params-index.is _ (of.param_turn _ c.index-params-index.result _ c.as_slice.ensures))

pub add_params-add_close-requires : goal.add_params-add_close-requires
add_params-add_close-requires g t c =
    may_close (codes "(") (codes "()") (codes ")") false _ false (one_there _ _)
    (adds (adds_on c.loop-index.invariant (adds_on c.add_lead-lead.ensures c.add_text-dots.ensures))
    (of.dots_are _ _ (none_left (form_of about_func_param) c.args.params.now _ _ c.loop-index-test.false
    c.is_empty.ensures)))

pub add_params-returns-then-variadic : goal.add_params-returns-then-variadic
add_params-returns-then-variadic g t c =
    adds (adds_on c.loop-index.invariant
    (adds_on c.add_lead-lead.ensures (adds_on c.add_text-dots.ensures c.add_close.ensures)))
    (all_turns (λ (xs : List FuncParam). row (list_opened (codes "(")) comma_between (map (form_of about_func_param) xs)
    ++ (cond c.is_empty.result (list_opened (codes "(")) comma_between ++ (tok.Text (codes "...") ∷ of.variadic_close)))
    c.args.params.now _ c.loop-index-test.false
    ∙ of.variadic_are c.args.params.now _ _ c.if-variadic.true
    (none_is (form_of about_func_param) c.args.params.now _ c.is_empty.ensures))

pub add_params-add_close-requires-2 : goal.add_params-add_close-requires-2
add_params-add_close-requires-2 g t c =
    may_close (codes "(") (codes "()") (codes ")") true _ _
    (none_left (form_of about_func_param) c.args.params.now _ _ c.loop-index-test.false c.is_empty-2.ensures)
    c.loop-index.invariant

pub add_params-returns : goal.add_params-returns
add_params-returns g t c =
    adds (adds_on c.loop-index.invariant c.add_close-2.ensures)
    (all_turns (λ (xs : List FuncParam). row (list_opened (codes "(")) comma_between (map (form_of about_func_param) xs)
    ++ list_closed true c.is_empty-2.result (codes "()") (codes ")")) c.args.params.now _ c.loop-index-test.false
    ∙ of.params_are c.args.params.now _ _ c.if-variadic.false
    (none_is (form_of about_func_param) c.args.params.now _ c.is_empty-2.ensures))

pub add_path-loop-index-preserved : goal.add_path-loop-index-preserved
add_path-loop-index-preserved g t c =
    adds (adds_on c.loop-index.invariant
    (adds_on c.add_if-done.ensures (adds_on c.add_word-done.ensures c.add_args-done.ensures)))
    (append_assoc (stream_of (about_start c.args.path.now.start).form) _ _
    ∙ ap (λ (s : List Tok). stream_of (about_start c.args.path.now.start).form ++ s)
    (turn (segment_part c.args.style) [] (tok.Text (codes "::") ∷ []) c.as_slice-segments.result.now _ _
    c.loop-index-test.true c.index-segments-index.is _ (of.segment_turn c.args.style _ c.index-segments-index.result)))

pub add_path-returns : goal.add_path-returns
add_path-returns g t c =
    adds c.loop-index.invariant
    (all_turns (λ (xs : List (Word × Args)). stream_of (about_start c.args.path.now.start).form
    ++ row [] (tok.Text (codes "::") ∷ []) (map (segment_part c.args.style) xs)) c.as_slice-segments.result.now _
    c.loop-index-test.false
    ∙ of.path_parts c.args.path.now c.args.style _ c.as_slice-segments.ensures)

pub add_start-returns-in-Local : goal.add_start-returns-in-Local
add_start-returns-in-Local g t c =
    adds adds_nothing (of.local_start _ c.in-Local.is)

pub add_start-returns-in-Global : goal.add_start-returns-in-Global
add_start-returns-in-Global g t c =
    adds c.add_text.ensures
    (of.global_start _ c.in-Global.is)

pub add_start-returns-in-None : goal.add_start-returns-in-None
add_start-returns-in-None g t c =
    adds (adds_on c.add_text-opener.ensures (adds_on c.add_type-ty.ensures c.add_text-in-None.ensures))
    (of.bare_start _ c.in-Qualified.ty _ c.in-Qualified.of c.in-Qualified.is c.get.ensures c.in-None.is)

pub add_start-returns-in-Some : goal.add_start-returns-in-Some
add_start-returns-in-Some g t c =
    adds (adds_on c.add_text-opener.ensures
    (adds_on c.add_type-ty.ensures (adds_on c.add_text-word.ensures
    (adds_on c.add_path-path.ensures c.add_text-in-Some.ensures))))
    (of.qualified_start _ c.in-Qualified.ty _ c.in-Qualified.of c.in-Some.path _ c.in-Qualified.is c.get.ensures
    c.in-Some.is c.get-in-Some.ensures)

pub add_type-returns-in-Path : goal.add_type-returns-in-Path
add_type-returns-in-Path g t c =
    adds c.add_path.ensures
    (of.path_type _ c.in-Path.path c.in-Path.is)

pub add_type-returns-in-Call : goal.add_type-returns-in-Call
add_type-returns-in-Call g t c =
    adds c.add_call.ensures
    (of.call_type _ c.in-Call.call c.in-Call.is)

pub add_type-returns-in-Paren : goal.add_type-returns-in-Paren
add_type-returns-in-Paren g t c =
    adds (adds_on c.add_text-opener.ensures (adds_on c.add_type-inner.ensures c.add_text.ensures))
    (of.paren_type _ c.in-Paren.inner _ c.in-Paren.is c.get.ensures)

pub add_type-returns-in-empty : goal.add_type-returns-in-empty
add_type-returns-in-empty g t c =
    adds c.add_text-in-empty.ensures
    (of.no_types _ c.in-Tuple.elements _ c.in-Tuple.is c.as_slice-elements.ensures c.in-empty.len_below)

pub add_type-returns-in-len1 : goal.add_type-returns-in-len1
add_type-returns-in-len1 g t c =
    adds (adds_on c.add_text-opener-in-len1.ensures (adds_on c.add_type-element.ensures c.add_text-in-len1.ensures))
    (of.one_type _ c.in-Tuple.elements _ _ c.in-Tuple.is c.as_slice-elements.ensures c.in-len1.len_at_least
    c.in-len1.len_below c.element-item.is)

pub add_type-returns-in-len2-up : goal.add_type-returns-in-len2-up
add_type-returns-in-len2-up g t c =
    adds c.add_types.ensures
    (of.tuple_type _ c.in-Tuple.elements _ c.in-Tuple.is c.as_slice-elements.ensures c.in-len2-up.len_at_least)

pub add_type-returns-in-Never : goal.add_type-returns-in-Never
add_type-returns-in-Never g t c =
    adds c.add_text-in-Never.ensures
    (of.never_type _ c.in-Never.is)

pub add_type-returns-in-Infer : goal.add_type-returns-in-Infer
add_type-returns-in-Infer g t c =
    adds c.add_text-in-Infer.ensures
    (of.infer_type _ c.in-Infer.is)

pub add_type-returns-in-Ptr : goal.add_type-returns-in-Ptr
add_type-returns-in-Ptr g t c =
    adds (adds_on c.add_either-word.ensures c.add_type.ensures)
    (of.pointer_type _ c.in-Ptr.mutable c.in-Ptr.inner _ c.in-Ptr.is c.get-in-Ptr.ensures)

pub add_type-returns-in-Ref : goal.add_type-returns-in-Ref
add_type-returns-in-Ref g t c =
    adds (adds_on c.add_reference-lifetime.ensures (adds_on c.add_if-word.ensures c.add_type-in-Ref.ensures))
    (of.reference_type _ c.in-Ref.lifetime c.in-Ref.mutable c.in-Ref.inner _ c.in-Ref.is c.get-in-Ref.ensures)

pub add_type-returns-in-Slice : goal.add_type-returns-in-Slice
add_type-returns-in-Slice g t c =
    adds (adds_on c.add_text-opener-in-Slice.ensures
    (adds_on c.add_type-inner-in-Slice.ensures c.add_text-in-Slice.ensures))
    (of.slice_type _ c.in-Slice.inner _ c.in-Slice.is c.get-in-Slice.ensures)

pub add_type-returns-in-Array : goal.add_type-returns-in-Array
add_type-returns-in-Array g t c =
    adds (adds_on c.add_text-opener-in-Array.ensures
    (adds_on c.add_type-inner-in-Array.ensures
    (adds_on c.add_text-semicolon.ensures (adds_on c.add_tokens-length.ensures c.add_text-in-Array.ensures))))
    (of.array_type _ c.in-Array.inner _ c.in-Array.length c.in-Array.is c.get-in-Array.ensures)

pub add_type-returns-in-Func : goal.add_type-returns-in-Func
add_type-returns-in-Func g t c =
    let binder = rw c.get-in-Func.ensures at c.add_binder-binder.ensures in
    let abi = rw c.get-in-Func-2.ensures at c.add_abi-abi.ensures in
    adds (adds_on binder
    (adds_on c.add_if-word-in-Func.ensures
    (adds_on abi (adds_on c.add_text-word.ensures
    (adds_on c.add_params-params.ensures c.add_output.ensures)))))
    (of.function_type _ c.in-Func.binder c.in-Func.is_unsafe c.in-Func.abi c.in-Func.params _ c.in-Func.variadic
    c.in-Func.output c.in-Func.is c.as_slice.ensures)

pub add_type-returns-in-Bounds : goal.add_type-returns-in-Bounds
add_type-returns-in-Bounds g t c =
    adds (adds_on c.add_either-word-in-Bounds.ensures c.add_bounds.ensures)
    (of.bounds_type _ c.in-Bounds.dynamic c.in-Bounds.bounds _ c.in-Bounds.is c.as_slice-in-Bounds.ensures)

pub add_types-loop-index-preserved : goal.add_types-loop-index-preserved
add_types-loop-index-preserved g t c =
    adds (adds_on c.loop-index.invariant (adds_on c.add_lead-done.ensures c.add_type-done.ensures))
    (turn told_form (list_opened (codes "(")) comma_between c.args.types.now _ _ c.loop-index-test.true
    c.index-types-index.is _ refl)

pub add_types-add_close-requires : goal.add_types-add_close-requires
add_types-add_close-requires g t c =
    may_close (codes "(") (codes "()") (codes ")") true _ _
    (none_left told_form c.args.types.now _ _ c.loop-index-test.false c.is_empty.ensures)
    c.loop-index.invariant

pub add_types-returns : goal.add_types-returns
add_types-returns g t c =
    adds (adds_on c.loop-index.invariant c.add_close.ensures)
    (all_turns (λ (xs : List Ty). row (list_opened (codes "(")) comma_between (map told_form xs)
    ++ list_closed true c.is_empty.result (codes "()") (codes ")")) c.args.types.now _ c.loop-index-test.false
    ∙ of.types_are c.args.types.now _ (none_is told_form c.args.types.now _ c.is_empty.ensures))
