-- Patterns tell their units, by the induction of their family.
use Rattle.std.proofs.Common.{◌≡◌, List, ◌++◌, true, subst, map, Some, None}
use Rattle.lay_form.specs.Pieces.{are_pieces}
use Rattle.lay_node.specs.nodes.Patterns.{about_field_pat, about_pat, pat_form, pat_good}
use Rattle.lay_node.specs.declared.patterns.FieldPat.{FieldPat}
use Rattle.lay_node.specs.declared.patterns.FieldPat.TheFolds as pat_fold
use Rattle.lay_node.specs.declared.patterns.FieldPat.TheOpen.{FieldPat-F, Pat-F}
use Rattle.lay_node.specs.declared.patterns.FieldPat.TheViews as views
use Rattle.lay_node.specs.declared.patterns.Pat.{Pat}
use Rattle.lay_node.specs.declared.patterns.PatPlace.{PatPlace}
use Rattle.lay_node.proofs.nodes.PatternsLaws as laws
use Rattle.lay_map.specs.spelling.Units.{Word, words}
use Rattle.lay_map.proofs.BodyRules.{Calms}
use Rattle.lay_map.proofs.Rules.{NoComma, Tells}
use Rattle.lay_map.proofs.nodes.PatternKinds.{FieldTells, PatTells, bind_pat, call_pat, index_field, named_field, or_pat, paren_pat, path_pat, placed_calm, placed_no_comma, placed_tells, reference_pat, rest_pat, short_field, slice_pat, span_pat, struct_pat, tuple_pat, tuple_struct_pat, value_pat, wild_pat}
use Rattle.lay_map.proofs.nodes.Types.{kept, told}

-- ---- each node

abbrev FieldIs : FieldPat → Type 0
FieldIs x = FieldTells (about_field_pat x)

abbrev PatIs : Pat → Type 0
PatIs x = PatTells (about_pat x)

-- a node that tells its units
abbrev KeptField : Type 0
KeptField = (x : FieldPat) × FieldIs x

abbrev KeptPat : Type 0
KeptPat = (x : Pat) × PatIs x

-- one layer of a node, of one of nodes that tell their units
abbrev field_layer : FieldPat-F KeptField KeptPat → FieldPat-F FieldPat Pat
field_layer y = pat_fold.map-FieldPat KeptField KeptPat FieldPat Pat (λ y. y.0) (λ y. y.0) y

abbrev pat_layer : Pat-F KeptField KeptPat → Pat-F FieldPat Pat
pat_layer y = pat_fold.map-Pat KeptField KeptPat FieldPat Pat (λ y. y.0) (λ y. y.0) y

abbrev pats_of : List KeptPat → List Pat
pats_of ys = map (λ (y : KeptPat). y.0) ys

abbrev fields_of : List KeptField → List FieldPat
fields_of ys = map (λ (y : KeptField). y.0) ys

field_step : (y : FieldPat-F KeptField KeptPat) → FieldIs (views.roll-FieldPat (field_layer y))
field_step (FieldPat-F.Named attrs name x) =
    told FieldTells about_field_pat (views.rolls-Named attrs name x.0) (laws.field_named_is attrs name x.0) (named_field attrs name (about_pat x.0) x.1)
field_step (FieldPat-F.Index attrs index x) =
    told FieldTells about_field_pat (views.rolls-Index attrs index x.0) (laws.field_index_is attrs index x.0) (index_field attrs index (about_pat x.0) x.1)
field_step (FieldPat-F.Short attrs x) =
    told FieldTells about_field_pat (views.rolls-Short attrs x.0) (laws.field_short_is attrs x.0) (short_field attrs (about_pat x.0) x.1)

pat_step : (y : Pat-F KeptField KeptPat) → PatIs (views.roll-Pat (pat_layer y))
pat_step (Pat-F.Or xs) =
    told PatTells about_pat (views.rolls-Or (pats_of xs)) (laws.pat_or_is (pats_of xs)) (or_pat (map about_pat (pats_of xs)) (kept PatTells about_pat xs))
pat_step (Pat-F.Value v) = told PatTells about_pat (views.rolls-Value v) (laws.pat_value_is v) (value_pat v)
pat_step Pat-F.Wild = told PatTells about_pat views.rolls-Wild laws.pat_wild_is wild_pat
pat_step Pat-F.Rest = told PatTells about_pat views.rolls-Rest laws.pat_rest_is rest_pat
pat_step (Pat-F.Call call) = told PatTells about_pat (views.rolls-Call call) (laws.pat_call_is call) (call_pat call)
pat_step (Pat-F.Path path) = told PatTells about_pat (views.rolls-Path path) (laws.pat_path_is path) (path_pat path)
pat_step (Pat-F.Bind by_ref mutable name None) =
    told PatTells about_pat (views.rolls-Bind by_ref mutable name None) (laws.pat_bind_is by_ref mutable name None) (bind_pat by_ref mutable name None tt)
pat_step (Pat-F.Bind by_ref mutable name (Some x)) =
    told PatTells about_pat (views.rolls-Bind by_ref mutable name (Some x.0)) (laws.pat_bind_is by_ref mutable name (Some x.0))
    (bind_pat by_ref mutable name (Some (about_pat x.0)) x.1)
pat_step (Pat-F.Span start inclusive end) =
    told PatTells about_pat (views.rolls-Span start inclusive end) (laws.pat_span_is start inclusive end) (span_pat start inclusive end)
pat_step (Pat-F.Ref mutable x) =
    told PatTells about_pat (views.rolls-Ref mutable x.0) (laws.pat_ref_is mutable x.0) (reference_pat mutable (about_pat x.0) x.1)
pat_step (Pat-F.Struct path fields rest) =
    told PatTells about_pat (views.rolls-Struct path (fields_of fields) rest) (laws.pat_struct_is path (fields_of fields) rest)
    (struct_pat path (map about_field_pat (fields_of fields)) rest (kept FieldTells about_field_pat fields))
pat_step (Pat-F.TupleStruct path xs) =
    told PatTells about_pat (views.rolls-TupleStruct path (pats_of xs)) (laws.pat_tuple_struct_is path (pats_of xs))
    (tuple_struct_pat path (map about_pat (pats_of xs)) (kept PatTells about_pat xs))
pat_step (Pat-F.Tuple xs) =
    told PatTells about_pat (views.rolls-Tuple (pats_of xs)) (laws.pat_tuple_is (pats_of xs)) (tuple_pat (map about_pat (pats_of xs)) (kept PatTells about_pat xs))
pat_step (Pat-F.Paren x) = told PatTells about_pat (views.rolls-Paren x.0) (laws.pat_paren_is x.0) (paren_pat (about_pat x.0) x.1)
pat_step (Pat-F.Slice xs) =
    told PatTells about_pat (views.rolls-Slice (pats_of xs)) (laws.pat_slice_is (pats_of xs)) (slice_pat (map about_pat (pats_of xs)) (kept PatTells about_pat xs))

-- ---- and so each does

pat_told : (x : Pat) → PatIs x
pat_told = pat_fold.ind-Pat FieldIs PatIs
    (λ x y is. subst (λ z. FieldIs (views.roll-FieldPat z)) is (field_step y))
    (λ x y is. subst (λ z. PatIs (views.roll-Pat z)) is (pat_step y))

pub pat_tells : {Next : List Word → Type 0} (place : PatPlace) (x : Pat) → pat_good place (about_pat x) ≡ true → Tells Next (pat_form place (about_pat x))
pat_tells place x g = placed_tells place (about_pat x) (pat_told x) g

pub pat_calm : (place : PatPlace) (x : Pat) → pat_good place (about_pat x) ≡ true → Calms (pat_form place (about_pat x))
pat_calm place x g = placed_calm place (about_pat x) (pat_told x) g

pub pat_no_comma : (place : PatPlace) (x : Pat) → pat_good place (about_pat x) ≡ true → are_pieces (pat_form place (about_pat x)) ≡ true → (ws : List Word)
    → NoComma (words (pat_form place (about_pat x)) ++ ws)
pat_no_comma place x g w ws = placed_no_comma place (about_pat x) (pat_told x) g w ws
