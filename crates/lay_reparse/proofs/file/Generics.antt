-- Generic parameters and where clauses pass: parameters after a name or a word, a where clause after what may stand
-- before it.
use Rattle.std.proofs.Common.{◌≡◌, List, [], ◌∷◌, true, false, not, ◌&&◌, ◌||◌, refl, codes, map, Option, Some, None, is_some}
use Rattle.std.specs.List.{list_all}
use Rattle.std.proofs.lemmas.Bool.{and_parts, and_from}
use Rattle.lay_form.specs.Form as form
use Rattle.lay_form.specs.Form.{Blank, Form, Done, Piece, keyword}
use Rattle.lay_form.specs.Notation.{each, comma_gap, where_body, where_semicolon}
use Rattle.lay_form.specs.Pieces.{are_pieces}
use Rattle.lay_node.specs.Words.{is_name, leaf_of}
use Rattle.lay_node.specs.nodes.Attr.{are_attrs}
use Rattle.lay_node.specs.nodes.Generics.{bounded_form, are_bounds, default_form, is_default, const_default_form, is_const_default, param_form, is_param, is_generics, params_list, generics_form}
use Rattle.lay_node.specs.nodes.Types.{about_bound, about_type, bounds_form, colon, const_form, greater, is_binder, is_there, less, lifetime_form}
use Rattle.lay_node.specs.nodes.Where.{outlives_form, meets_form, predicate_form, is_predicate, are_predicates, wheres_before_body, wheres_before_semicolon}
use Rattle.lay_node.specs.declared.generics.ConstDefault.{ConstDefault}
use Rattle.lay_node.specs.declared.generics.ConstDefault.TheVariants as const_default
use Rattle.lay_node.specs.declared.generics.GenericParam.{GenericParam}
use Rattle.lay_node.specs.declared.generics.GenericParam.TheVariants as param
use Rattle.lay_node.specs.declared.generics.Generics.{Generics}
use Rattle.lay_node.specs.declared.generics.Predicate.{Predicate}
use Rattle.lay_node.specs.declared.generics.Predicate.TheVariants as predicate
use Rattle.lay_node.specs.declared.generics.Wheres.{Wheres}
use Rattle.lay_node.specs.declared.token.Lifetime.{Lifetime}
use Rattle.lay_node.specs.declared.types.Bound.{Bound}
use Rattle.lay_node.specs.declared.types.Ty.{Ty}
use Rattle.lay_reparse.proofs.borders.Need as need
use Rattle.lay_reparse.proofs.borders.Need.{RawWord, Grow}
use Rattle.lay_reparse.proofs.borders.Border.{Other, Border, At}
use Rattle.lay_reparse.proofs.forms.Passes.{plain}
use Rattle.lay_reparse.proofs.forms.Rules.{tables, From, All, wider, ends, fixed, part, left_out, list_fits, list, where_fits, where_both}
use Rattle.lay_reparse.proofs.file.Nodes.{ends_name, word, rest_pieces, list_pieces, each_pieces}
use Rattle.lay_reparse.proofs.file.TypeParts.{ends_lifetime, ends_type, ends_arg, lifetime_passes, outlived_passes, lifetime_param_passes, param_attrs_pass, param_attrs_pieces, binder_passes, binder_pieces, const_passes}
use Rattle.lay_reparse.proofs.file.TypeArgs.{Each, Passing, bounds_pass}
use Rattle.lay_reparse.proofs.file.Types.{type_passes, bound_passes}

-- ---- bounds and defaults

each_bound : (bs : List Bound) → Each (Passing plain ends_type) (map about_bound bs)
each_bound [] = tt
each_bound (b ∷ bs) = (bound_passes b, each_bound bs)

-- bounds of a tree
pub bounds_list_passes : (bs : List Bound) → are_bounds bs ≡ true → is_there bs ≡ true
    → are_pieces (bounds_form (map about_bound bs)) ≡ true → From plain (bounds_form (map about_bound bs)) ends_type
bounds_list_passes [] g h w = cc
bounds_list_passes (b ∷ bs) g h w = bounds_pass (map about_bound (b ∷ bs)) (each_bound (b ∷ bs)) g w

pub bounded_passes : (bs : List Bound) → are_bounds bs ≡ true → are_pieces (bounded_form bs) ≡ true
    → From ends_name (bounded_form bs) ends_type
unfolding tables
bounded_passes [] g w = left_out refl refl (ends refl)
bounded_passes (b ∷ bs) g w =
    let p = (and_parts (are_pieces (bounds_form (map about_bound (b ∷ bs)))) true w).0 in
    fixed refl (part plain ends_type refl (bounds_list_passes (b ∷ bs) g refl p) (ends refl))

pub default_passes : (x : Option Ty) → is_default x ≡ true → are_pieces (default_form x) ≡ true
    → From ends_type (default_form x) ends_type
unfolding tables
default_passes None g w = ends refl
default_passes (Some x) g w =
    let p = (and_parts (are_pieces (about_type x).told.form) true w).0 in
    fixed refl (part plain ends_type refl ((type_passes x).go g p) (ends refl))

const_default_passes : (x : Option ConstDefault) → is_const_default x ≡ true
    → are_pieces (const_default_form x) ≡ true → From ends_type (const_default_form x) ends_arg
unfolding tables
const_default_passes None g w = ends refl
const_default_passes (Some (const_default.Arg value)) g w =
    fixed refl (part plain ends_arg refl
    (const_passes value g (and_parts (are_pieces (const_form value)) true w).0) (ends refl))
const_default_passes (Some (const_default.Name n)) g w =
    fixed refl (word n.raw n.text refl w (ends refl) (ends refl))

-- ---- parameters

pub param_passes : (p : GenericParam) → is_param p ≡ true → are_pieces (param_form p) ≡ true
    → From plain (param_form p) ends_arg
unfolding tables
param_passes (param.Region l) g w = wider refl (lifetime_param_passes l g w)
param_passes (param.Named attrs name bounds default) g w =
    let n1 = and_parts (are_attrs false attrs && is_name name.raw name.text && are_bounds bounds) (is_default default)
    g in
    let n2 = and_parts (are_attrs false attrs && is_name name.raw name.text) (are_bounds bounds) n1.0 in
    let n3 = and_parts (are_attrs false attrs) (is_name name.raw name.text) n2.0 in
    let e = form.Part (bounded_form bounds) (form.Part (default_form default) Done) in
    let p = param_attrs_pieces attrs (leaf_of name.raw name.text e) w in
    let q = and_parts (are_pieces (bounded_form bounds)) _ (rest_pieces name.raw name.text e p) in
    let a = bounded_passes bounds n2.1 q.0 in
    let d = default_passes default n1.1 (and_parts (are_pieces (default_form default)) true q.1).0 in
    let z : From ends_type (form.Part (default_form default) Done) ends_arg =
    part ends_type ends_type refl d (ends refl) in
    param_attrs_pass attrs n3.0 w (word name.raw name.text refl p
    (part ends_name ends_type refl a z) (part ends_name ends_type refl a z))
param_passes (param.Const attrs name x default) g w =
    let n1 = and_parts (are_attrs false attrs && is_name name.raw name.text && (about_type x).told.good)
    (is_const_default default) g in
    let n2 = and_parts (are_attrs false attrs && is_name name.raw name.text) (about_type x).told.good n1.0 in
    let n3 = and_parts (are_attrs false attrs) (is_name name.raw name.text) n2.0 in
    let e = Piece colon (form.Part (about_type x).told.form (form.Part (const_default_form default) Done)) in
    let h = Piece (keyword (codes "const") ∷ Blank ∷ []) (leaf_of name.raw name.text e) in
    let p = param_attrs_pieces attrs h w in
    let q = and_parts (are_pieces (about_type x).told.form) _ (rest_pieces name.raw name.text e p) in
    let a = (type_passes x).go n2.1 q.0 in
    let d = const_default_passes default n1.1 (and_parts (are_pieces (const_default_form default)) true q.1).0 in
    let z : From plain (form.Part (about_type x).told.form (form.Part (const_default_form default) Done)) ends_arg =
    part plain ends_type refl a (part ends_type ends_arg refl d (ends refl)) in
    param_attrs_pass attrs n3.0 w (fixed refl (word name.raw name.text refl p (fixed refl z) (fixed refl z)))

params_pass : (ps : List GenericParam) → list_all is_param ps ≡ true
    → list_all are_pieces (map param_form ps) ≡ true → All plain (map param_form ps) ends_arg
params_pass [] g w = tt
params_pass (p ∷ ps) g w =
    let n = and_parts (is_param p) _ g in
    let q = and_parts (are_pieces (param_form p)) _ w in
    (param_passes p n.0 q.0, params_pass ps n.1 q.1)

params_fit : list_fits true less greater ends_name plain ends_arg ends_name ≡ true
unfolding tables
params_fit = refl

-- parameters in `<` and `>`, after a word as `impl` or a name
pub params_list_passes : (generics : Generics) → is_generics generics ≡ true → are_pieces (params_list generics) ≡ true
    → From ends_name (params_list generics) ends_name
params_list_passes generics g w =
    let es = map param_form generics.params in
    list true less greater es plain ends_arg params_fit
    (params_pass generics.params g (list_pieces true less greater es w))

-- the same, or nothing where there are none
pub generics_pass : (generics : Generics) → is_generics generics ≡ true → are_pieces (generics_form generics) ≡ true
    → From ends_name (generics_form generics) ends_name
unfolding tables
generics_pass generics g w = by generics.params g w
  where
    by : (ps : List GenericParam) → is_generics (record { params = ps }) ≡ true
        → are_pieces (generics_form (record { params = ps })) ≡ true
        → From ends_name (generics_form (record { params = ps })) ends_name
    by [] g w = left_out refl refl (ends refl)
    by (p ∷ ps) g w = params_list_passes (record { params = p ∷ ps }) g w

-- ---- where clauses

-- a predicate may have ended, also in the `:` of one that asks nothing
abbrev pub ends_predicate : Border
ends_predicate = record { needs = need.Word ∷ RawWord ∷ need.Life ∷ Grow (codes ":") ∷ []; spot = At Other }

outlives_pass : (ls : List Lifetime) → are_pieces (outlives_form ls) ≡ true
    → From ends_lifetime (outlives_form ls) ends_predicate
unfolding tables
outlives_pass [] w = fixed refl (ends refl)
outlives_pass (l ∷ ls) w = fixed refl (wider refl (outlived_passes (l ∷ ls) w))

meets_pass : (bs : List Bound) → are_bounds bs ≡ true → are_pieces (meets_form bs) ≡ true
    → From ends_type (meets_form bs) ends_predicate
unfolding tables
meets_pass [] g w = fixed refl (ends refl)
meets_pass (b ∷ bs) g w =
    let p = (and_parts (are_pieces (bounds_form (map about_bound (b ∷ bs)))) true w).0 in
    fixed refl (part plain ends_type refl (bounds_list_passes (b ∷ bs) g refl p) (ends refl))

pub predicate_passes : (p : Predicate) → is_predicate p ≡ true → are_pieces (predicate_form p) ≡ true
    → From plain (predicate_form p) ends_predicate
predicate_passes (predicate.Region l ls) g w =
    let p = and_parts (are_pieces (lifetime_form l)) _ w in
    part plain ends_lifetime refl (lifetime_passes l p.0) (outlives_pass ls p.1)
predicate_passes (predicate.Bounded binder x bs) g w =
    let n1 = and_parts (is_binder binder && (about_type x).told.good && (is_some binder || not (about_type x).binds))
    (are_bounds bs) g in
    let n2 = and_parts (is_binder binder && (about_type x).told.good) _ n1.0 in
    let n3 = and_parts (is_binder binder) (about_type x).told.good n2.0 in
    let e = form.Part (about_type x).told.form (meets_form bs) in
    let p = and_parts (are_pieces (about_type x).told.form) _ (binder_pieces binder e w) in
    binder_passes binder n3.0 w
    (part plain ends_type refl ((type_passes x).go n3.1 p.0) (meets_pass bs n1.1 p.1))

predicates_pass : (ps : List Predicate) → list_all is_predicate ps ≡ true
    → list_all are_pieces (map predicate_form ps) ≡ true → All plain (map predicate_form ps) ends_predicate
predicates_pass [] g w = tt
predicates_pass (p ∷ ps) g w =
    let n = and_parts (is_predicate p) _ g in
    let q = and_parts (are_pieces (predicate_form p)) _ w in
    (predicate_passes p n.0 q.0, predicates_pass ps n.1 q.1)

body_pieces : (es : List Form) → are_pieces (where_body es) ≡ true → list_all are_pieces es ≡ true
body_pieces [] w = refl
body_pieces (e ∷ es) w =
    let p = and_parts (are_pieces e) _ (and_parts _ true w).0 in
    let q = (and_parts (are_pieces (each comma_gap es)) true p.1).0 in
    and_from (are_pieces e) (list_all are_pieces es) p.0 (each_pieces comma_gap (λ f. refl) es q)

semicolon_pieces : (es : List Form) → are_pieces (where_semicolon es) ≡ true → are_pieces (where_body es) ≡ true
semicolon_pieces [] w = refl
semicolon_pieces (e ∷ es) w = w

-- A where clause, before a body and before a `;`, passes from each border that its test names. It ends as what stands
-- before it, or as a predicate.
pub body_wheres_pass : {b z : Border} (wheres : Wheres) → where_fits b plain ends_predicate z ≡ true
    → are_predicates wheres ≡ true → are_pieces (wheres_before_body wheres) ≡ true
    → From b (wheres_before_body wheres) z
body_wheres_pass wheres fit g w =
    let es = map predicate_form wheres.predicates in
    (where_both es plain ends_predicate fit (predicates_pass wheres.predicates g (body_pieces es w))).0

pub semicolon_wheres_pass : {b z : Border} (wheres : Wheres) → where_fits b plain ends_predicate z ≡ true
    → are_predicates wheres ≡ true → are_pieces (wheres_before_semicolon wheres) ≡ true
    → From b (wheres_before_semicolon wheres) z
semicolon_wheres_pass wheres fit g w =
    let es = map predicate_form wheres.predicates in
    (where_both es plain ends_predicate fit
    (predicates_pass wheres.predicates g (body_pieces es (semicolon_pieces es w)))).1

-- the borders that a where clause follows: parameters, or a name; a type; a closing delimiter
pub behind_generics : where_fits ends_name plain ends_predicate ends_predicate ≡ true
unfolding tables
behind_generics = refl

pub behind_type : where_fits ends_type plain ends_predicate ends_predicate ≡ true
unfolding tables
behind_type = refl

pub behind_delimiter : where_fits plain plain ends_predicate ends_predicate ≡ true
unfolding tables
behind_delimiter = refl
