-- The facts about patterns and about their fields, kind by kind.
use Rattle.std.proofs.Common.{◌≡◌, ℕ, Bool, List, map, Option, option_map, Some, None, sym, ap, ◌∙◌, subst}
use Rattle.lay_node.specs.nodes.Facts.{Facts}
use Rattle.lay_node.specs.nodes.Patterns.{PatFacts, field_facts, pat_facts, about_pat, about_field_pat}
use Rattle.lay_node.specs.declared.attr.Attr.{Attr}
use Rattle.lay_node.specs.declared.patterns.FieldPat.{FieldPat}
use Rattle.lay_node.specs.declared.patterns.FieldPat.TheFolds.{fold-roll-FieldPat, fold-roll-Pat}
use Rattle.lay_node.specs.declared.patterns.FieldPat.TheOpen.{FieldPat-F, Pat-F}
use Rattle.lay_node.specs.declared.patterns.FieldPat.TheVariants as field
use Rattle.lay_node.specs.declared.patterns.FieldPat.TheViews as views
use Rattle.lay_node.specs.declared.patterns.Pat.{Pat}
use Rattle.lay_node.specs.declared.patterns.Pat.TheVariants as pat
use Rattle.lay_node.specs.declared.patterns.PatValue.{PatValue}
use Rattle.lay_node.specs.declared.patterns.SpanEnd.{SpanEnd}
use Rattle.lay_node.specs.declared.token.Name.{Name}
use Rattle.lay_node.specs.declared.tokens.MacroCall.{MacroCall}
use Rattle.lay_node.specs.declared.types.Path.{Path}

-- ---- which kind it is

pub data PatView : Pat → Type 0 where
  IsOr : (alternatives : List Pat) → PatView (pat.Or alternatives)
  IsValue : (value : PatValue) → PatView (pat.Value value)
  IsWild : PatView pat.Wild
  IsRest : PatView pat.Rest
  IsCall : (call : MacroCall) → PatView (pat.Call call)
  IsPath : (path : Path) → PatView (pat.Path path)
  IsBind : (by_ref : Bool) (mutable : Bool) (name : Name) (of : Option Pat) → PatView (pat.Bind by_ref mutable name of)
  IsSpan : (start : Option SpanEnd) (inclusive : Bool) (end : Option SpanEnd) → PatView (pat.Span start inclusive end)
  IsRef : (mutable : Bool) (inner : Pat) → PatView (pat.Ref mutable inner)
  IsStruct : (path : Path) (fields : List FieldPat) (rest : Bool) → PatView (pat.Struct path fields rest)
  IsTupleStruct : (path : Path) (elements : List Pat) → PatView (pat.TupleStruct path elements)
  IsTuple : (elements : List Pat) → PatView (pat.Tuple elements)
  IsParen : (inner : Pat) → PatView (pat.Paren inner)
  IsSlice : (elements : List Pat) → PatView (pat.Slice elements)

pub data FieldPatView : FieldPat → Type 0 where
  IsNamed : (attrs : List Attr) (name : Name) (inner : Pat) → FieldPatView (field.Named attrs name inner)
  IsIndex : (attrs : List Attr) (index : List ℕ) (inner : Pat) → FieldPatView (field.Index attrs index inner)
  IsShort : (attrs : List Attr) (inner : Pat) → FieldPatView (field.Short attrs inner)

pat_layer : (layer : Pat-F FieldPat Pat) → PatView (views.roll-Pat layer)
pat_layer (Pat-F.Or alternatives) = subst PatView (sym (views.rolls-Or alternatives)) (IsOr alternatives)
pat_layer (Pat-F.Value value) = subst PatView (sym (views.rolls-Value value)) (IsValue value)
pat_layer Pat-F.Wild = subst PatView (sym views.rolls-Wild) IsWild
pat_layer Pat-F.Rest = subst PatView (sym views.rolls-Rest) IsRest
pat_layer (Pat-F.Call call) = subst PatView (sym (views.rolls-Call call)) (IsCall call)
pat_layer (Pat-F.Path path) = subst PatView (sym (views.rolls-Path path)) (IsPath path)
pat_layer (Pat-F.Bind by_ref mutable name of) = subst PatView (sym (views.rolls-Bind by_ref mutable name of)) (IsBind by_ref mutable name of)
pat_layer (Pat-F.Span start inclusive end) = subst PatView (sym (views.rolls-Span start inclusive end)) (IsSpan start inclusive end)
pat_layer (Pat-F.Ref mutable inner) = subst PatView (sym (views.rolls-Ref mutable inner)) (IsRef mutable inner)
pat_layer (Pat-F.Struct path fields rest) = subst PatView (sym (views.rolls-Struct path fields rest)) (IsStruct path fields rest)
pat_layer (Pat-F.TupleStruct path elements) = subst PatView (sym (views.rolls-TupleStruct path elements)) (IsTupleStruct path elements)
pat_layer (Pat-F.Tuple elements) = subst PatView (sym (views.rolls-Tuple elements)) (IsTuple elements)
pat_layer (Pat-F.Paren inner) = subst PatView (sym (views.rolls-Paren inner)) (IsParen inner)
pat_layer (Pat-F.Slice elements) = subst PatView (sym (views.rolls-Slice elements)) (IsSlice elements)

field_layer : (layer : FieldPat-F FieldPat Pat) → FieldPatView (views.roll-FieldPat layer)
field_layer (FieldPat-F.Named attrs name inner) = subst FieldPatView (sym (views.rolls-Named attrs name inner)) (IsNamed attrs name inner)
field_layer (FieldPat-F.Index attrs index inner) = subst FieldPatView (sym (views.rolls-Index attrs index inner)) (IsIndex attrs index inner)
field_layer (FieldPat-F.Short attrs inner) = subst FieldPatView (sym (views.rolls-Short attrs inner)) (IsShort attrs inner)

pub pat_view : (x : Pat) → PatView x
pat_view x = subst PatView (views.roll-out-Pat x) (pat_layer (views.out-Pat x))

pub field_pat_view : (x : FieldPat) → FieldPatView x
field_pat_view x = subst FieldPatView (views.roll-out-FieldPat x) (field_layer (views.out-FieldPat x))

-- ---- the facts about it

pub pat_or_is : (alternatives : List Pat) → about_pat (pat.Or alternatives) ≡ pat_facts (Pat-F.Or (map about_pat alternatives))
unfolding about_pat about_field_pat
pat_or_is alternatives =
    ap about_pat (sym (views.rolls-Or alternatives)) ∙ fold-roll-Pat Facts PatFacts field_facts pat_facts (Pat-F.Or alternatives)

pub pat_value_is : (value : PatValue) → about_pat (pat.Value value) ≡ pat_facts (Pat-F.Value value)
unfolding about_pat about_field_pat
pat_value_is value =
    ap about_pat (sym (views.rolls-Value value)) ∙ fold-roll-Pat Facts PatFacts field_facts pat_facts (Pat-F.Value value)

pub pat_wild_is : about_pat pat.Wild ≡ pat_facts Pat-F.Wild
unfolding about_pat about_field_pat
pat_wild_is =
    ap about_pat (sym views.rolls-Wild) ∙ fold-roll-Pat Facts PatFacts field_facts pat_facts Pat-F.Wild

pub pat_rest_is : about_pat pat.Rest ≡ pat_facts Pat-F.Rest
unfolding about_pat about_field_pat
pat_rest_is =
    ap about_pat (sym views.rolls-Rest) ∙ fold-roll-Pat Facts PatFacts field_facts pat_facts Pat-F.Rest

pub pat_call_is : (call : MacroCall) → about_pat (pat.Call call) ≡ pat_facts (Pat-F.Call call)
unfolding about_pat about_field_pat
pat_call_is call =
    ap about_pat (sym (views.rolls-Call call)) ∙ fold-roll-Pat Facts PatFacts field_facts pat_facts (Pat-F.Call call)

pub pat_path_is : (path : Path) → about_pat (pat.Path path) ≡ pat_facts (Pat-F.Path path)
unfolding about_pat about_field_pat
pat_path_is path =
    ap about_pat (sym (views.rolls-Path path)) ∙ fold-roll-Pat Facts PatFacts field_facts pat_facts (Pat-F.Path path)

pub pat_bind_is : (by_ref : Bool) (mutable : Bool) (name : Name) (of : Option Pat) → about_pat (pat.Bind by_ref mutable name of) ≡ pat_facts (Pat-F.Bind by_ref mutable name (option_map about_pat of))
unfolding about_pat about_field_pat
pat_bind_is by_ref mutable name None =
    ap about_pat (sym (views.rolls-Bind by_ref mutable name None))
    ∙ fold-roll-Pat Facts PatFacts field_facts pat_facts (Pat-F.Bind by_ref mutable name None)
pat_bind_is by_ref mutable name (Some x) =
    ap about_pat (sym (views.rolls-Bind by_ref mutable name (Some x)))
    ∙ fold-roll-Pat Facts PatFacts field_facts pat_facts (Pat-F.Bind by_ref mutable name (Some x))

pub pat_span_is : (start : Option SpanEnd) (inclusive : Bool) (end : Option SpanEnd) → about_pat (pat.Span start inclusive end) ≡ pat_facts (Pat-F.Span start inclusive end)
unfolding about_pat about_field_pat
pat_span_is start inclusive end =
    ap about_pat (sym (views.rolls-Span start inclusive end)) ∙ fold-roll-Pat Facts PatFacts field_facts pat_facts (Pat-F.Span start inclusive end)

pub pat_ref_is : (mutable : Bool) (inner : Pat) → about_pat (pat.Ref mutable inner) ≡ pat_facts (Pat-F.Ref mutable (about_pat inner))
unfolding about_pat about_field_pat
pat_ref_is mutable inner =
    ap about_pat (sym (views.rolls-Ref mutable inner)) ∙ fold-roll-Pat Facts PatFacts field_facts pat_facts (Pat-F.Ref mutable inner)

pub pat_struct_is : (path : Path) (fields : List FieldPat) (rest : Bool) → about_pat (pat.Struct path fields rest) ≡ pat_facts (Pat-F.Struct path (map about_field_pat fields) rest)
unfolding about_pat about_field_pat
pat_struct_is path fields rest =
    ap about_pat (sym (views.rolls-Struct path fields rest)) ∙ fold-roll-Pat Facts PatFacts field_facts pat_facts (Pat-F.Struct path fields rest)

pub pat_tuple_struct_is : (path : Path) (elements : List Pat) → about_pat (pat.TupleStruct path elements) ≡ pat_facts (Pat-F.TupleStruct path (map about_pat elements))
unfolding about_pat about_field_pat
pat_tuple_struct_is path elements =
    ap about_pat (sym (views.rolls-TupleStruct path elements)) ∙ fold-roll-Pat Facts PatFacts field_facts pat_facts (Pat-F.TupleStruct path elements)

pub pat_tuple_is : (elements : List Pat) → about_pat (pat.Tuple elements) ≡ pat_facts (Pat-F.Tuple (map about_pat elements))
unfolding about_pat about_field_pat
pat_tuple_is elements =
    ap about_pat (sym (views.rolls-Tuple elements)) ∙ fold-roll-Pat Facts PatFacts field_facts pat_facts (Pat-F.Tuple elements)

pub pat_paren_is : (inner : Pat) → about_pat (pat.Paren inner) ≡ pat_facts (Pat-F.Paren (about_pat inner))
unfolding about_pat about_field_pat
pat_paren_is inner =
    ap about_pat (sym (views.rolls-Paren inner)) ∙ fold-roll-Pat Facts PatFacts field_facts pat_facts (Pat-F.Paren inner)

pub pat_slice_is : (elements : List Pat) → about_pat (pat.Slice elements) ≡ pat_facts (Pat-F.Slice (map about_pat elements))
unfolding about_pat about_field_pat
pat_slice_is elements =
    ap about_pat (sym (views.rolls-Slice elements)) ∙ fold-roll-Pat Facts PatFacts field_facts pat_facts (Pat-F.Slice elements)

pub field_named_is : (attrs : List Attr) (name : Name) (inner : Pat) → about_field_pat (field.Named attrs name inner) ≡ field_facts (FieldPat-F.Named attrs name (about_pat inner))
unfolding about_pat about_field_pat
field_named_is attrs name inner =
    ap about_field_pat (sym (views.rolls-Named attrs name inner)) ∙ fold-roll-FieldPat Facts PatFacts field_facts pat_facts (FieldPat-F.Named attrs name inner)

pub field_index_is : (attrs : List Attr) (index : List ℕ) (inner : Pat) → about_field_pat (field.Index attrs index inner) ≡ field_facts (FieldPat-F.Index attrs index (about_pat inner))
unfolding about_pat about_field_pat
field_index_is attrs index inner =
    ap about_field_pat (sym (views.rolls-Index attrs index inner)) ∙ fold-roll-FieldPat Facts PatFacts field_facts pat_facts (FieldPat-F.Index attrs index inner)

pub field_short_is : (attrs : List Attr) (inner : Pat) → about_field_pat (field.Short attrs inner) ≡ field_facts (FieldPat-F.Short attrs (about_pat inner))
unfolding about_pat about_field_pat
field_short_is attrs inner =
    ap about_field_pat (sym (views.rolls-Short attrs inner)) ∙ fold-roll-FieldPat Facts PatFacts field_facts pat_facts (FieldPat-F.Short attrs inner)
