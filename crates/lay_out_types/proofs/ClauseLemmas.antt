-- The streams of generic parameters and where clauses.
use Rattle.std.proofs.Common.{◌≡◌, ℕ, ◌==◌, Bool, true, false, cond, List, [], ◌∷◌, ◌++◌, map, length, codes, Option}
use Rattle.std.proofs.Common.{Some, None, refl, sym, ap, ◌∙◌}
use Rattle.std.proofs.Math.Dec.{eqb-suc-zero}
use Rattle.lay_layout.specs.declared.layout.Tok.{Tok}
use Rattle.lay_layout.specs.declared.layout.Tok.TheVariants as tok
use Rattle.lay_form.specs.Form.{Blank, Done, Piece, Part, keyword}
use Rattle.lay_form.specs.Notation.{comma_list}
use Rattle.lay_form.specs.Stream.{fed, stream_of}
use Rattle.lay_node.specs.Words.{leaf_of}
use Rattle.lay_node.specs.nodes.Generics.{bounded_form, const_default_form, default_form, generics_form, param_form}
use Rattle.lay_node.specs.nodes.Types.{about_bound, about_type, binder_form, bounds_form, colon, const_form, greater}
use Rattle.lay_node.specs.nodes.Types.{less, outlived_form, param_attrs}
use Rattle.lay_node.specs.nodes.Where.{meets_form, predicate_form, wheres_before_body, wheres_before_semicolon}
use Rattle.lay_node.specs.declared.attr.Attr.{Attr}
use Rattle.lay_node.specs.declared.generics.ConstDefault.{ConstDefault}
use Rattle.lay_node.specs.declared.generics.ConstDefault.TheVariants as const_default
use Rattle.lay_node.specs.declared.generics.GenericParam.{GenericParam}
use Rattle.lay_node.specs.declared.generics.GenericParam.TheVariants as param
use Rattle.lay_node.specs.declared.generics.Generics.{Generics}
use Rattle.lay_node.specs.declared.generics.Predicate.{Predicate}
use Rattle.lay_node.specs.declared.generics.Predicate.TheVariants as predicate
use Rattle.lay_node.specs.declared.generics.Wheres.{Wheres}
use Rattle.lay_node.specs.declared.token.Lifetime.{Lifetime}
use Rattle.lay_node.specs.declared.token.Name.{Name}
use Rattle.lay_node.specs.declared.types.Binder.{Binder}
use Rattle.lay_node.specs.declared.types.Bound.{Bound}
use Rattle.lay_node.specs.declared.types.ConstArg.{ConstArg}
use Rattle.lay_node.specs.declared.types.Ty.{Ty}
use Rattle.lay_out_tokens.proofs.StreamParts.{leaf_more}
use Rattle.lay_out_types.specs.Rows.{comma_between, row, wheres_closed, wheres_opened}
use Rattle.lay_out_types.proofs.FormRows.{are_none, part_more, predicates_are}
use Rattle.lay_out_types.proofs.PartLemmas.{attrs_more, binder_more}

-- a list with an element isn't empty, and one without is
not_none : {A : Type 0} (x : A) (xs : List A) (b : Bool) → b ≡ (length (x ∷ xs) == 0) → b ≡ true → ⊥
not_none x xs b e is = let no : true ≡ false = sym is ∙ e ∙ eqb-suc-zero (length xs) in cc

-- ---- generic parameters

pub no_generics : (generics : Generics) (put : List GenericParam) (b : Bool) → put ≡ generics.params
    → b ≡ (length put == 0) → b ≡ true → [] ≡ stream_of (generics_form generics)
no_generics generics put b same e is = by generics.params
    (ap (λ (ps : List GenericParam). length ps == 0) (sym same) ∙ sym e ∙ is)
  where
    by : (ps : List GenericParam) → (length ps == 0) ≡ true
        → [] ≡ stream_of (generics_form (record { params = ps }))
    by [] h = refl
    by (p ∷ ps) h = absurd (not_none p ps true (sym h) refl)

pub some_generics : (generics : Generics) (put : List GenericParam) (b : Bool) → put ≡ generics.params
    → b ≡ (length put == 0) → b ≡ false
    → stream_of (comma_list true less greater (map param_form put)) ≡ stream_of (generics_form generics)
some_generics generics put b same e is =
    rw same (by generics.params (ap (λ (ps : List GenericParam). length ps == 0) (sym same) ∙ sym e ∙ is))
  where
    by : (ps : List GenericParam) → (length ps == 0) ≡ false
        → stream_of (comma_list true less greater (map param_form ps))
        ≡ stream_of (generics_form (record { params = ps }))
    by [] h = cc
    by (p ∷ ps) h = refl

pub no_bounds : (bounds : List Bound) (b : Bool) → b ≡ (length bounds == 0) → b ≡ true
    → [] ≡ stream_of (bounded_form bounds)
no_bounds [] b e is = refl
no_bounds (x ∷ xs) b e is = absurd (not_none x xs b e is)

pub some_bounds : (bounds : List Bound) (b : Bool) → b ≡ (length bounds == 0) → b ≡ false
    → tok.Text (codes ": ") ∷ stream_of (bounds_form (map about_bound bounds)) ≡ stream_of (bounded_form bounds)
some_bounds [] b e is = cc
some_bounds (x ∷ xs) b e is = refl

pub default_is : (x : Option Ty) (y : Ty) → x ≡ Some y
    → tok.Text (codes " = ") ∷ stream_of (about_type y).told.form ≡ stream_of (default_form x)
default_is x y is = rw is refl

pub default_const : (x : Option ConstDefault) (y : ConstDefault) (value : ConstArg) → x ≡ Some y
    → y ≡ const_default.Arg value → tok.Text (codes " = ") ∷ stream_of (const_form value) ≡ stream_of
    (const_default_form x)
default_const x y value is same = rw (is, same) refl

pub default_name : (x : Option ConstDefault) (y : ConstDefault) (name : Name) → x ≡ Some y
    → y ≡ const_default.Name name
    → tok.Text (codes " = ") ∷ stream_of (leaf_of name.raw name.text Done) ≡ stream_of (const_default_form x)
default_name x y name is same = rw (is, same) refl

pub default_any : (x : Option Ty) (q : Bool) → fed q (default_form x) [] ≡ stream_of (default_form x)
default_any None q = refl
default_any (Some x) true = refl
default_any (Some x) false = refl

const_default_any : (x : Option ConstDefault) (q : Bool)
    → fed q (const_default_form x) [] ≡ stream_of (const_default_form x)
const_default_any None q = refl
const_default_any (Some (const_default.Arg value)) true = refl
const_default_any (Some (const_default.Arg value)) false = refl
const_default_any (Some (const_default.Name name)) true = refl
const_default_any (Some (const_default.Name name)) false = refl

pub named_param : (x : GenericParam) (attrs put_attrs : List Attr) (name : Name) (bounds put : List Bound)
    (default : Option Ty) → x ≡ param.Named attrs name bounds default → put_attrs ≡ attrs → put ≡ bounds
    → stream_of (param_attrs put_attrs Done) ++ (stream_of (leaf_of name.raw name.text Done)
    ++ (stream_of (bounded_form put) ++ stream_of (default_form default))) ≡ stream_of (param_form x)
named_param x attrs put_attrs name bounds put default is e f =
    let rest = Part (bounded_form bounds) (Part (default_form default) Done) in
    rw (is, e, f) (ap (λ (s : List Tok). stream_of (param_attrs attrs Done) ++ s)
    (ap (λ (s : List Tok). stream_of (leaf_of name.raw name.text Done) ++ s)
    (part_more (bounded_form bounds) (default_form default) (default_any default))
    ∙ leaf_more name.raw name.text rest)
    ∙ attrs_more attrs (leaf_of name.raw name.text rest))

pub const_param : (x : GenericParam) (attrs put_attrs : List Attr) (name : Name) (inner : Ty)
    (default : Option ConstDefault) → x ≡ param.Const attrs name inner default → put_attrs ≡ attrs
    → stream_of (param_attrs put_attrs Done) ++ (tok.Text (codes "const ") ∷
    (stream_of (leaf_of name.raw name.text Done) ++ (tok.Text (codes ": ") ∷
    (stream_of (about_type inner).told.form ++ stream_of (const_default_form default))))) ≡ stream_of (param_form x)
const_param x attrs put_attrs name inner default is e =
    let f = (about_type inner).told.form in
    let rest = Piece colon (Part f (Part (const_default_form default) Done)) in
    rw (is, e) (ap (λ (s : List Tok). stream_of (param_attrs attrs Done) ++ s)
    (ap (λ (s : List Tok). tok.Text (codes "const ") ∷ s)
    (ap (λ (s : List Tok). stream_of (leaf_of name.raw name.text Done) ++ (tok.Text (codes ": ") ∷ s))
    (part_more f (const_default_form default) (const_default_any default))
    ∙ leaf_more name.raw name.text rest))
    ∙ attrs_more attrs (Piece (keyword (codes "const") ∷ Blank ∷ []) (leaf_of name.raw name.text rest)))

-- ---- where clauses

pub wheres_are : (wheres : Wheres) (put : List Predicate) (body bare : Bool) → put ≡ wheres.predicates
    → bare ≡ are_none (map predicate_form put)
    → row wheres_opened comma_between (map predicate_form put) ++ wheres_closed body bare
    ≡ stream_of (cond body (wheres_before_body wheres) (wheres_before_semicolon wheres))
wheres_are wheres put body bare same is =
    predicates_are body (map predicate_form put) bare is
    ∙ ap (λ (ps : List Predicate). stream_of (cond body (wheres_before_body (record { predicates = ps }))
    (wheres_before_semicolon (record { predicates = ps })))) same

pub bare_region : (x : Predicate) (l : Lifetime) (text : List ℕ) (bounds put : List Lifetime) (b : Bool)
    → x ≡ predicate.Region l bounds → text ≡ l.text → put ≡ bounds → b ≡ (length put == 0) → b ≡ true
    → tok.Text text ∷ tok.Text (codes ":") ∷ [] ≡ stream_of (predicate_form x)
bare_region x l text bounds [] b is e same none h = rw (is, e, sym same) refl
bare_region x l text bounds (p ∷ ps) b is e same none h = absurd (not_none p ps b none h)

pub region_is : (x : Predicate) (l : Lifetime) (text : List ℕ) (bounds put : List Lifetime) (b : Bool)
    → x ≡ predicate.Region l bounds → text ≡ l.text → put ≡ bounds → b ≡ (length put == 0) → b ≡ false
    → tok.Text text ∷ stream_of (outlived_form put) ≡ stream_of (predicate_form x)
region_is x l text bounds [] b is e same none h = cc
region_is x l text bounds (p ∷ ps) b is e same none h = rw (is, e, sym same) refl

meets_any : (bounds : List Bound) (q : Bool) → fed q (meets_form bounds) [] ≡ stream_of (meets_form bounds)
meets_any [] true = refl
meets_any [] false = refl
meets_any (x ∷ xs) true = refl
meets_any (x ∷ xs) false = refl

bounded_by : (binder : Option Binder) (y : Ty) (bounds : List Bound)
    → stream_of (binder_form binder Done) ++ (stream_of (about_type y).told.form ++ stream_of (meets_form bounds))
    ≡ stream_of (predicate_form (predicate.Bounded binder y bounds))
bounded_by binder y bounds =
    ap (λ (s : List Tok). stream_of (binder_form binder Done) ++ s)
    (part_more (about_type y).told.form (meets_form bounds) (meets_any bounds))
    ∙ binder_more binder (Part (about_type y).told.form (meets_form bounds))

pub bare_bounded : (x : Predicate) (binder : Option Binder) (y : Ty) (bounds put : List Bound) (b : Bool)
    → x ≡ predicate.Bounded binder y bounds → put ≡ bounds → b ≡ (length put == 0) → b ≡ true
    → stream_of (binder_form binder Done) ++ (stream_of (about_type y).told.form ++ (tok.Text (codes ":") ∷ []))
    ≡ stream_of (predicate_form x)
bare_bounded x binder y bounds [] b is same none h = rw (is, sym same) (bounded_by binder y [])
bare_bounded x binder y bounds (p ∷ ps) b is same none h = absurd (not_none p ps b none h)

pub bounded_is : (x : Predicate) (binder : Option Binder) (y : Ty) (bounds put : List Bound) (b : Bool)
    → x ≡ predicate.Bounded binder y bounds → put ≡ bounds → b ≡ (length put == 0) → b ≡ false
    → stream_of (binder_form binder Done) ++ (stream_of (about_type y).told.form ++ stream_of (bounded_form put))
    ≡ stream_of (predicate_form x)
bounded_is x binder y bounds [] b is same none h = cc
bounded_is x binder y bounds (p ∷ ps) b is same none h = rw (is, sym same) (bounded_by binder y (p ∷ ps))
