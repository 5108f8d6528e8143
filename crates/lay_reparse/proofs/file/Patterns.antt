-- Patterns pass, by the induction of their family: at each place, from each border where a pattern may begin to the end
-- of one.
use Rattle.std.proofs.Common.{◌≡◌, List, [], ◌∷◌, true, refl, subst, codes, map, Some, None}
use Rattle.std.specs.List.{list_all}
use Rattle.lay_piece.specs.declared.kind.Delim.TheVariants.{Paren, Bracket, Brace}
use Rattle.lay_piece.specs.declared.kind.Kind.TheVariants as kind
use Rattle.lay_form.specs.Form.{Bit, Blank, Fixed, Operator, keyword, opener, closer, comma}
use Rattle.lay_form.specs.Pieces.{are_pieces}
use Rattle.lay_node.specs.nodes.Patterns.{pat_form, pat_good, about_pat, about_field_pat}
use Rattle.lay_node.specs.nodes.Types.{colon, equals}
use Rattle.lay_node.specs.declared.patterns.FieldPat.{FieldPat}
use Rattle.lay_node.specs.declared.patterns.FieldPat.TheFolds as pat_fold
use Rattle.lay_node.specs.declared.patterns.FieldPat.TheOpen.{FieldPat-F, Pat-F}
use Rattle.lay_node.specs.declared.patterns.FieldPat.TheViews as views
use Rattle.lay_node.specs.declared.patterns.Pat.{Pat}
use Rattle.lay_node.specs.declared.patterns.PatPlace.{PatPlace}
use Rattle.lay_node.proofs.nodes.PatternsLaws as laws
use Rattle.lay_reparse.proofs.borders.Border.{Border, beyond}
use Rattle.lay_reparse.proofs.forms.Passes.{plain}
use Rattle.lay_reparse.proofs.forms.Rules.{tables, From}
use Rattle.lay_reparse.proofs.file.TypeArgs.{Passing}
use Rattle.lay_reparse.proofs.file.Types.{frees, kept, told}
use Rattle.lay_reparse.proofs.file.PatternParts.{ends_pat, begins_pat}
use Rattle.lay_reparse.proofs.file.PatternKinds.{PatPasses, placed, or_pass, value_pass, wild_pass, rest_pass, call_pass, path_pass, bind_pass, span_pass, ref_pass, struct_pass, tuple_struct_pass, tuple_pass, paren_pass, slice_pass, named_pass, index_pass, short_pass}

-- ---- each node

abbrev FieldIs : FieldPat → Type 0
FieldIs x = Passing plain ends_pat (about_field_pat x)

abbrev PatIs : Pat → Type 0
PatIs x = PatPasses (about_pat x)

-- a node that passes
abbrev KeptField : Type 0
KeptField = (x : FieldPat) × FieldIs x

abbrev KeptPat : Type 0
KeptPat = (x : Pat) × PatIs x

-- one layer of a node, of one whose nodes within it pass
abbrev field_layer : FieldPat-F KeptField KeptPat → FieldPat-F FieldPat Pat
field_layer y = pat_fold.map-FieldPat KeptField KeptPat FieldPat Pat (λ y. y.0) (λ y. y.0) y

abbrev pat_layer : Pat-F KeptField KeptPat → Pat-F FieldPat Pat
pat_layer y = pat_fold.map-Pat KeptField KeptPat FieldPat Pat (λ y. y.0) (λ y. y.0) y

abbrev pats_of : List KeptPat → List Pat
pats_of ys = map (λ (y : KeptPat). y.0) ys

abbrev fields_of : List KeptField → List FieldPat
fields_of ys = map (λ (y : KeptField). y.0) ys

field_step : (y : FieldPat-F KeptField KeptPat) → FieldIs (views.roll-FieldPat (field_layer y))
field_step (FieldPat-F.Named attrs name x) =
    told (Passing plain ends_pat) about_field_pat (views.rolls-Named attrs name x.0)
    (laws.field_named_is attrs name x.0)
    (named_pass attrs name (about_pat x.0) x.1)
field_step (FieldPat-F.Index attrs index x) =
    told (Passing plain ends_pat) about_field_pat (views.rolls-Index attrs index x.0)
    (laws.field_index_is attrs index x.0)
    (index_pass attrs index (about_pat x.0) x.1)
field_step (FieldPat-F.Short attrs x) =
    told (Passing plain ends_pat) about_field_pat (views.rolls-Short attrs x.0) (laws.field_short_is attrs x.0)
    (short_pass attrs (about_pat x.0) x.1)

pat_step : (y : Pat-F KeptField KeptPat) → PatIs (views.roll-Pat (pat_layer y))
pat_step (Pat-F.Or xs) =
    told PatPasses about_pat (views.rolls-Or (pats_of xs)) (laws.pat_or_is (pats_of xs))
    (or_pass (map about_pat (pats_of xs)) (kept PatPasses about_pat xs))
pat_step (Pat-F.Value v) =
    told PatPasses about_pat (views.rolls-Value v) (laws.pat_value_is v)
    (value_pass v)
pat_step Pat-F.Wild =
    told PatPasses about_pat views.rolls-Wild laws.pat_wild_is
    wild_pass
pat_step Pat-F.Rest =
    told PatPasses about_pat views.rolls-Rest laws.pat_rest_is
    rest_pass
pat_step (Pat-F.Call call) =
    told PatPasses about_pat (views.rolls-Call call) (laws.pat_call_is call)
    (call_pass call)
pat_step (Pat-F.Path path) =
    told PatPasses about_pat (views.rolls-Path path) (laws.pat_path_is path)
    (path_pass path)
pat_step (Pat-F.Bind by_ref mutable name None) =
    told PatPasses about_pat (views.rolls-Bind by_ref mutable name None) (laws.pat_bind_is by_ref mutable name None)
    (bind_pass by_ref mutable name None tt)
pat_step (Pat-F.Bind by_ref mutable name (Some x)) =
    told PatPasses about_pat (views.rolls-Bind by_ref mutable name (Some x.0))
    (laws.pat_bind_is by_ref mutable name (Some x.0))
    (bind_pass by_ref mutable name (Some (about_pat x.0)) x.1)
pat_step (Pat-F.Span start inclusive end) =
    told PatPasses about_pat (views.rolls-Span start inclusive end) (laws.pat_span_is start inclusive end)
    (span_pass start inclusive end)
pat_step (Pat-F.Ref mutable x) =
    told PatPasses about_pat (views.rolls-Ref mutable x.0) (laws.pat_ref_is mutable x.0)
    (ref_pass mutable (about_pat x.0) x.1)
pat_step (Pat-F.Struct path fields rest) =
    told PatPasses about_pat (views.rolls-Struct path (fields_of fields) rest)
    (laws.pat_struct_is path (fields_of fields) rest)
    (struct_pass path (map about_field_pat (fields_of fields)) rest
    (kept (Passing plain ends_pat) about_field_pat fields))
pat_step (Pat-F.TupleStruct path xs) =
    told PatPasses about_pat (views.rolls-TupleStruct path (pats_of xs)) (laws.pat_tuple_struct_is path (pats_of xs))
    (tuple_struct_pass path (map about_pat (pats_of xs)) (kept PatPasses about_pat xs))
pat_step (Pat-F.Tuple xs) =
    told PatPasses about_pat (views.rolls-Tuple (pats_of xs)) (laws.pat_tuple_is (pats_of xs))
    (tuple_pass (map about_pat (pats_of xs)) (kept PatPasses about_pat xs))
pat_step (Pat-F.Paren x) =
    told PatPasses about_pat (views.rolls-Paren x.0) (laws.pat_paren_is x.0)
    (paren_pass (about_pat x.0) x.1)
pat_step (Pat-F.Slice xs) =
    told PatPasses about_pat (views.rolls-Slice (pats_of xs)) (laws.pat_slice_is (pats_of xs))
    (slice_pass (map about_pat (pats_of xs)) (kept PatPasses about_pat xs))

-- the same, of a layer that is this one
field_rolled : (x : FieldPat-F FieldPat Pat) (y : FieldPat-F KeptField KeptPat) → field_layer y ≡ x
    → FieldIs (views.roll-FieldPat x)
field_rolled x y is = subst (λ z. FieldIs (views.roll-FieldPat z)) is (field_step y)

pat_rolled : (x : Pat-F FieldPat Pat) (y : Pat-F KeptField KeptPat) → pat_layer y ≡ x → PatIs (views.roll-Pat x)
pat_rolled x y is = subst (λ z. PatIs (views.roll-Pat z)) is (pat_step y)

-- ---- and so each does

pub field_pat_passes : (x : FieldPat) → Passing plain ends_pat (about_field_pat x)
field_pat_passes = pat_fold.ind-FieldPat FieldIs PatIs field_rolled pat_rolled

pub pat_passes : (x : Pat) → PatPasses (about_pat x)
pat_passes = pat_fold.ind-Pat FieldIs PatIs field_rolled pat_rolled

-- at each place, from each border where a pattern may begin
pub pat_passes_at : (b : Border) → begins_pat b ≡ true → (place : PatPlace) (x : Pat)
    → pat_good place (about_pat x) ≡ true → are_pieces (pat_form place (about_pat x)) ≡ true
    → From b (pat_form place (about_pat x)) ends_pat
pat_passes_at b h place x g w = placed place (about_pat x) (pat_passes x) b h g w

abbrev pub bar : Bit
bar = Fixed kind.Punct (codes "|")

-- After these a pattern may begin, as it may where nothing is asked.
abbrev pub before_pat : List (List Bit)
before_pat =
    [] ∷ (Blank ∷ []) ∷ (opener Paren ∷ []) ∷ (opener Bracket ∷ []) ∷ (Blank ∷ opener Brace ∷ Blank ∷ []) ∷ comma
    ∷ (bar ∷ []) ∷ (Fixed kind.Punct (codes "&") ∷ []) ∷ (keyword (codes "let") ∷ Blank ∷ [])
    ∷ (Blank ∷ Operator (codes "@") ∷ Blank ∷ []) ∷ (Operator (codes "|") ∷ []) ∷ colon ∷ []

pub pat_begins : list_all (λ p. begins_pat (beyond plain p)) before_pat ≡ true
unfolding tables
pat_begins = refl

-- These stand after a pattern, and lead to where nothing is asked.
abbrev pub behind_pat : List (List Bit)
behind_pat =
    comma ∷ colon ∷ equals ∷ (closer Paren ∷ []) ∷ (closer Bracket ∷ []) ∷ (bar ∷ []) ∷ (Blank ∷ [])
    ∷ (Blank ∷ closer Brace ∷ []) ∷ (Blank ∷ Operator (codes "=>") ∷ Blank ∷ [])
    ∷ (Blank ∷ keyword (codes "in") ∷ Blank ∷ []) ∷ (Blank ∷ keyword (codes "if") ∷ Blank ∷ []) ∷ []

pub pat_followed : list_all (frees ends_pat) behind_pat ≡ true
unfolding tables
pat_followed = refl
