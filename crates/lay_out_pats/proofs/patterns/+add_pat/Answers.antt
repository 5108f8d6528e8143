use Rattle.std.proofs.Common.{List, [], ◌∷◌, ◌++◌, true, false, cond, map, codes, pos, refl, ap, ◌∙◌}
use Rattle.lay_layout.specs.declared.layout.Tok.{Tok}
use Rattle.lay_layout.specs.declared.layout.Tok.TheVariants as tok
use Rattle.lay_node.specs.declared.patterns.FieldPat.{FieldPat}
use Rattle.lay_node.specs.declared.patterns.Pat.{Pat}
use Rattle.lay_out_pats.specs.PatternRows.{bar_between, braces_closed, braces_opened, field_told, pat_told}
use Rattle.lay_out_types.specs.Rows.{comma_between, list_closed, list_opened, row}
use Rattle.lay_out_types.proofs.Adding.{adds, adds_on}
use Rattle.lay_out_pats.proofs.FieldLemmas as fields
use Rattle.lay_out_types.proofs.FormRows.{may_close, none_left}
use Rattle.lay_out_pats.proofs.PatternLemmas as of
use Rattle.lay_out_types.proofs.RowLemmas.{all_turns, turn}
use Rattle.lay_out_pats.proofs.patterns.+add_pat.Goals as goal

pub add_alternatives-loop-index-preserved : goal.add_alternatives-loop-index-preserved
add_alternatives-loop-index-preserved g t c =
    adds (adds_on c.loop-index.invariant (adds_on c.add_bar-done.ensures c.add_pat-done.ensures))
    (ap (λ (s : List Tok). tok.Begin false (pos 0) ∷ s)
    (turn pat_told [] bar_between c.args.alternatives.now _ _ c.loop-index-test.true
    c.index-alternatives-index.is _ refl))

pub add_alternatives-add_end-requires : goal.add_alternatives-add_end-requires
add_alternatives-add_end-requires g t c = fields.may_end_alternatives (map pat_told _) c.loop-index.invariant

pub add_alternatives-returns : goal.add_alternatives-returns
add_alternatives-returns g t c =
    adds (adds_on c.loop-index.invariant c.add_end.ensures)
    (all_turns (λ (xs : List Pat). (tok.Begin false (pos 0) ∷ row [] bar_between (map pat_told xs)) ++ (tok.End ∷ []))
    c.args.alternatives.now _ c.loop-index-test.false
    ∙ fields.alternatives_are (map pat_told c.args.alternatives.now))

pub add_field-returns-in-Named : goal.add_field-returns-in-Named
add_field-returns-in-Named g t c =
    adds (adds_on c.add_attrs-attrs.ensures (adds_on c.add_word-name.ensures
    (adds_on c.add_text-colon.ensures c.add_pat.ensures)))
    (fields.named_field _ c.in-Named.attrs _ c.in-Named.name c.in-Named.pat c.in-Named.is c.as_slice.ensures)

pub add_field-returns-in-Index : goal.add_field-returns-in-Index
add_field-returns-in-Index g t c =
    adds (adds_on c.add_attrs-attrs-in-Index.ensures (adds_on c.add_text-index.ensures
    (adds_on c.add_text-colon-in-Index.ensures c.add_pat-in-Index.ensures)))
    (fields.index_field _ c.in-Index.attrs _ c.in-Index.index _ c.in-Index.pat c.in-Index.is
    c.as_slice-in-Index.ensures c.as_bytes.ensures)

pub add_field-returns-in-Short : goal.add_field-returns-in-Short
add_field-returns-in-Short g t c =
    adds (adds_on c.add_attrs-attrs-in-Short.ensures c.add_pat-in-Short.ensures)
    (fields.short_field _ c.in-Short.attrs _ c.in-Short.pat c.in-Short.is c.as_slice-in-Short.ensures)

pub add_fields-loop-index-preserved : goal.add_fields-loop-index-preserved
add_fields-loop-index-preserved g t c =
    adds (adds_on c.loop-index.invariant (adds_on c.add_brace-done.ensures c.add_field-done.ensures))
    (turn field_told braces_opened comma_between c.args.fields.now _ _ c.loop-index-test.true c.index-fields-index.is _
    refl)

pub add_fields-add_closing_brace-requires : goal.add_fields-add_closing_brace-requires
add_fields-add_closing_brace-requires g t c =
    fields.may_close_rest (map field_told _) _
    (none_left field_told c.args.fields.now _ _ c.loop-index-test.false c.is_empty.ensures)
    (adds_on c.loop-index.invariant (adds_on c.add_brace-lead.ensures c.add_text-dots.ensures))

pub add_fields-returns-then-rest : goal.add_fields-returns-then-rest
add_fields-returns-then-rest g t c =
    adds (adds_on c.loop-index.invariant
    (adds_on c.add_brace-lead.ensures (adds_on c.add_text-dots.ensures c.add_closing_brace.ensures)))
    (all_turns (λ (xs : List FieldPat). row braces_opened comma_between (map field_told xs)
    ++ (cond c.is_empty.result braces_opened comma_between ++ (tok.Text (codes "..") ∷ braces_closed false false)))
    c.args.fields.now _ c.loop-index-test.false
    ∙ fields.with_rest c.args.fields.now _ _ c.is_empty.ensures c.if-rest.true)

pub add_fields-add_closing_brace-requires-2 : goal.add_fields-add_closing_brace-requires-2
add_fields-add_closing_brace-requires-2 g t c =
    fields.may_close_braces true _ _
    (none_left field_told c.args.fields.now _ _ c.loop-index-test.false c.is_empty-2.ensures) c.loop-index.invariant

pub add_fields-returns : goal.add_fields-returns
add_fields-returns g t c =
    adds (adds_on c.loop-index.invariant c.add_closing_brace-2.ensures)
    (all_turns (λ (xs : List FieldPat). row braces_opened comma_between (map field_told xs)
    ++ braces_closed true c.is_empty-2.result) c.args.fields.now _ c.loop-index-test.false
    ∙ fields.without_rest c.args.fields.now _ _ c.is_empty-2.ensures c.if-rest.false)

pub add_pats-loop-index-preserved : goal.add_pats-loop-index-preserved
add_pats-loop-index-preserved g t c =
    adds (adds_on c.loop-index.invariant (adds_on c.add_lead-done.ensures c.add_pat-done.ensures))
    (turn pat_told (list_opened c.args.opener.now) comma_between c.args.pats.now _ _ c.loop-index-test.true
    c.index-pats-index.is _ refl)

pub add_pats-add_close-requires : goal.add_pats-add_close-requires
add_pats-add_close-requires g t c =
    may_close c.args.opener.now c.args.both.now c.args.closer.now true _ _
    (none_left pat_told c.args.pats.now _ _ c.loop-index-test.false c.is_empty.ensures) c.loop-index.invariant

pub add_pats-returns : goal.add_pats-returns
add_pats-returns g t c =
    adds (adds_on c.loop-index.invariant c.add_close.ensures)
    (all_turns (λ (xs : List Pat). row (list_opened c.args.opener.now) comma_between (map pat_told xs)
    ++ list_closed true c.is_empty.result c.args.both.now c.args.closer.now) c.args.pats.now _ c.loop-index-test.false
    ∙ ap (λ (b : _). row (list_opened c.args.opener.now) comma_between (map pat_told c.args.pats.now)
    ++ list_closed true b c.args.both.now c.args.closer.now) c.is_empty.ensures)

pub add_single-returns : goal.add_single-returns
add_single-returns g t c =
    adds (adds_on c.add_text-opener.ensures (adds_on c.add_pat-element.ensures c.add_either.ensures))
    (of.one_single c.args.element.now _ c.is_rest-rest.ensures)

pub add_pat-returns-in-Or : goal.add_pat-returns-in-Or
add_pat-returns-in-Or g t c =
    adds c.add_alternatives.ensures (of.or_pat _ c.in-Or.alternatives _ c.in-Or.is c.as_slice.ensures)

pub add_pat-returns-in-Value : goal.add_pat-returns-in-Value
add_pat-returns-in-Value g t c = adds c.add_value.ensures (of.value_pat _ c.in-Value.value c.in-Value.is)

pub add_pat-returns-in-Wild : goal.add_pat-returns-in-Wild
add_pat-returns-in-Wild g t c = adds c.add_text.ensures (of.wild_pat _ c.in-Wild.is)

pub add_pat-returns-in-Rest : goal.add_pat-returns-in-Rest
add_pat-returns-in-Rest g t c = adds c.add_text-in-Rest.ensures (of.rest_pat _ c.in-Rest.is)

pub add_pat-returns-in-Call : goal.add_pat-returns-in-Call
add_pat-returns-in-Call g t c = adds c.add_call.ensures (of.call_pat _ c.in-Call.call c.in-Call.is)

pub add_pat-returns-in-Path : goal.add_pat-returns-in-Path
add_pat-returns-in-Path g t c = adds c.add_path.ensures (of.path_pat _ c.in-Path.path c.in-Path.is)

pub add_pat-returns-in-None : goal.add_pat-returns-in-None
add_pat-returns-in-None g t c =
    adds (adds_on c.add_if-reference.ensures (adds_on c.add_if-word.ensures c.add_word-name.ensures))
    (of.bare_bind _ c.in-Bind.by_ref c.in-Bind.mutable c.in-Bind.name _ c.in-Bind.is c.in-None.is)

pub add_pat-returns-in-Some : goal.add_pat-returns-in-Some
add_pat-returns-in-Some g t c =
    adds (adds_on c.add_if-reference.ensures (adds_on c.add_if-word.ensures (adds_on c.add_word-name.ensures
    (adds_on c.add_text-sign.ensures c.add_pat.ensures))))
    (of.full_bind _ c.in-Bind.by_ref c.in-Bind.mutable c.in-Bind.name _ c.in-Some.pat _ c.in-Bind.is c.in-Some.is
    c.get.ensures)

pub add_pat-returns-in-Span : goal.add_pat-returns-in-Span
add_pat-returns-in-Span g t c =
    let start = rw c.get-in-Span.ensures at c.add_dots-dots.ensures in
    let end = rw c.get-in-Span-2.ensures at c.add_last_end.ensures in
    adds (adds_on start end)
    (of.span_pat _ c.in-Span.start c.in-Span.inclusive c.in-Span.end c.in-Span.is)

pub add_pat-returns-in-Ref : goal.add_pat-returns-in-Ref
add_pat-returns-in-Ref g t c =
    adds (adds_on c.add_text-reference.ensures (adds_on c.add_if-word-in-Ref.ensures c.add_pat-in-Ref.ensures))
    (of.ref_pat _ c.in-Ref.mutable c.in-Ref.inner _ c.in-Ref.is c.get-in-Ref.ensures)

pub add_pat-returns-in-Struct : goal.add_pat-returns-in-Struct
add_pat-returns-in-Struct g t c =
    adds (adds_on c.add_path-path.ensures c.add_fields.ensures)
    (fields.struct_pat _ c.in-Struct.path c.in-Struct.fields _ c.in-Struct.rest c.in-Struct.is
    c.as_slice-in-Struct.ensures)

pub add_pat-returns-in-TupleStruct : goal.add_pat-returns-in-TupleStruct
add_pat-returns-in-TupleStruct g t c =
    adds (adds_on c.add_path-path-in-TupleStruct.ensures c.add_pats.ensures)
    (of.tuple_struct_pat _ c.in-TupleStruct.path c.in-TupleStruct.elements _ _ c.in-TupleStruct.is
    c.as_slice-in-TupleStruct.ensures refl)

pub add_pat-returns-in-empty : goal.add_pat-returns-in-empty
add_pat-returns-in-empty g t c =
    adds c.add_text-in-empty.ensures
    (of.no_tuple _ c.in-Tuple.elements _ c.in-Tuple.is c.as_slice-elements.ensures c.in-empty.len_below)

pub add_pat-returns-in-len1 : goal.add_pat-returns-in-len1
add_pat-returns-in-len1 g t c =
    adds c.add_single.ensures
    (of.one_tuple _ c.in-Tuple.elements _ _ c.in-Tuple.is c.as_slice-elements.ensures c.in-len1.len_at_least
    c.in-len1.len_below c.element-item.is)

pub add_pat-returns-in-len2-up : goal.add_pat-returns-in-len2-up
add_pat-returns-in-len2-up g t c =
    adds c.add_pats-in-len2-up.ensures
    (of.tuple_pat _ c.in-Tuple.elements _ _ c.in-Tuple.is c.as_slice-elements.ensures c.in-len2-up.len_at_least refl)

pub add_pat-returns-in-Paren : goal.add_pat-returns-in-Paren
add_pat-returns-in-Paren g t c =
    adds (adds_on c.add_text-opener.ensures (adds_on c.add_pat-inner.ensures c.add_text-in-Paren.ensures))
    (of.paren_pat _ c.in-Paren.inner _ c.in-Paren.is c.get-in-Paren.ensures)

pub add_pat-returns-in-Slice : goal.add_pat-returns-in-Slice
add_pat-returns-in-Slice g t c =
    adds c.add_pats-in-Slice.ensures
    (of.slice_pat _ c.in-Slice.elements _ _ c.in-Slice.is c.as_slice-in-Slice.ensures refl)
