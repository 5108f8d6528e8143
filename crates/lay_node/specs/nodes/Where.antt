-- Where clauses: when they are well formed, their forms, and what may follow (Rust Reference,
-- "Where clauses").
use Rattle.std.specs.Prelude.{ℕ, ◌&&◌, ◌||◌, not, Bool, true, List, [], ◌∷◌, map, codes, is_some}
use Rattle.std.specs.List.{list_all}
use Rattle.lay_token.specs.Operators.{is_op}
use Rattle.lay_form.specs.Form.{Operator, Form, Done, Piece, Part}
use Rattle.lay_form.specs.LastParts.{last_follows}
use Rattle.lay_form.specs.Notation.{piece, where_body, where_semicolon, wheres_spelled}
use Rattle.lay_form.specs.Spelled as spelled
use Rattle.lay_node.specs.Ahead.{Tokens, first, is_keyword, is_lifetime, is_mark}
use Rattle.lay_node.specs.Begins.{begins_bound, begins_predicate}
use Rattle.lay_node.specs.nodes.Generics.{are_bounds}
use Rattle.lay_node.specs.nodes.Types.{about_bound, about_type, binder_form, bounds_follow, bounds_form, colon, deeper, good_at, is_binder, lifetime_form, lifetimes_form}
use Rattle.lay_node.specs.declared.generics.Predicate.{Predicate}
use Rattle.lay_node.specs.declared.generics.Predicate.TheVariants as predicate
use Rattle.lay_node.specs.declared.generics.Wheres.{Wheres}
use Rattle.lay_node.specs.declared.token.Lifetime.{Lifetime}
use Rattle.lay_node.specs.declared.types.Bound.{Bound}
use Rattle.lay_node.specs.declared.types.TypePlace.TheVariants.{Bounds}

abbrev pub bare_colon : Form
bare_colon = piece (Operator (codes ":") ∷ [])

abbrev pub outlives_form : List Lifetime → Form
outlives_form [] = bare_colon
outlives_form (l ∷ ls) = Piece colon (lifetimes_form (l ∷ ls))

abbrev pub meets_form : List Bound → Form
meets_form [] = bare_colon
meets_form (b ∷ bs) = Piece colon (Part (bounds_form (map about_bound (b ∷ bs))) Done)

abbrev pub predicate_form : Predicate → Form
predicate_form (predicate.Region l ls) = Part (lifetime_form l) (outlives_form ls)
predicate_form (predicate.Bounded binder x bs) = binder_form binder (Part (about_type x).told.form (meets_form bs))

-- A binder before a function type is the predicate's own.
abbrev pub is_predicate : Predicate → Bool
is_predicate (predicate.Region l ls) = true
is_predicate (predicate.Bounded binder x bs) =
    is_binder binder && good_at Bounds (about_type x) && (is_some binder || not (about_type x).binds) && are_bounds bs

-- what may follow a predicate: without lifetimes or bounds none of these; else nothing that
-- continues the last one
abbrev pub outlives_follow : List Lifetime → Tokens → Bool
outlives_follow [] ts = not (first is_lifetime ts)
outlives_follow (l ∷ ls) ts = not (is_op (codes "+") ts)

abbrev pub meets_follow : List Bound → Tokens → Bool
meets_follow [] ts = not (begins_bound ts)
meets_follow (b ∷ bs) ts = bounds_follow (b ∷ bs) ts

abbrev pub predicate_follow : Predicate → Tokens → Bool
predicate_follow (predicate.Region l ls) ts = outlives_follow ls ts
predicate_follow (predicate.Bounded binder x bs) ts = meets_follow bs ts

abbrev pub last_predicate_follow : List Predicate → Tokens → Bool
last_predicate_follow [] ts = true
last_predicate_follow (p ∷ []) ts = predicate_follow p ts
last_predicate_follow (p ∷ q ∷ ps) ts = last_predicate_follow (q ∷ ps) ts

-- what would continue a where clause whose last part is left out: a comma, or a `where` before no
-- predicates
abbrev pub begins_last_part : List Predicate → Tokens → Bool
begins_last_part [] ts = first (is_keyword (codes "where")) ts
begins_last_part (p ∷ ps) ts = first (is_mark (codes ",")) ts || not (last_predicate_follow (p ∷ ps) ts)

abbrev pub are_predicates : Wheres → Bool
are_predicates wheres = list_all is_predicate wheres.predicates

-- WB and WS
abbrev pub wheres_before_body : Wheres → Form
wheres_before_body wheres = where_body (map predicate_form wheres.predicates)

abbrev pub wheres_before_semicolon : Wheres → Form
wheres_before_semicolon wheres = where_semicolon (map predicate_form wheres.predicates)

-- A where clause by itself stands at the start of the tokens. `last` says that its last part is
-- spelled.
abbrev pub WheresAt : Bool → Wheres → Tokens → ℕ → ℕ → Type 0
WheresAt last wheres ts n depth =
    spelled.Front (deeper (wheres_spelled last (map predicate_form wheres.predicates))) (are_predicates wheres)
    (last_follows last (begins_last_part wheres.predicates) begins_predicate) ts n depth

abbrev pub WheresFront : Wheres → Tokens → ℕ → ℕ → Type 0
WheresFront wheres ts n depth = (last : Bool) × WheresAt last wheres ts n depth
