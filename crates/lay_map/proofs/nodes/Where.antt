-- Where clauses tell their units.
use Rattle.std.proofs.Common.{◌≡◌, true, false, not, ◌&&◌, ◌||◌, List, [], ◌∷◌, ◌++◌, codes, map, refl, is_some}
use Rattle.std.proofs.lemmas.Bool.{and_parts, and_from}
use Rattle.lay_piece.specs.declared.kind.Kind.TheVariants.{Punct}
use Rattle.lay_form.specs.Form.{Operator, Soft, Never, Form, Done, LastComma, Optional, comma}
use Rattle.lay_form.specs.Notation.{predicates, where_word}
use Rattle.lay_node.specs.nodes.Generics.{are_bounds}
use Rattle.lay_node.specs.nodes.Types.{about_bound, about_type, colon, greater, is_binder}
use Rattle.lay_node.specs.nodes.Where.{are_predicates, is_predicate, meets_form, outlives_form, predicate_form, wheres_before_body, wheres_before_semicolon}
use Rattle.lay_node.specs.declared.generics.Predicate.{Predicate}
use Rattle.lay_node.specs.declared.generics.Predicate.TheVariants as predicate
use Rattle.lay_node.specs.declared.generics.Wheres.{Wheres}
use Rattle.lay_node.specs.declared.token.Lifetime.{Lifetime}
use Rattle.lay_node.specs.declared.types.Bound.{Bound}
use Rattle.lay_map.specs.spelling.Choice.{passes, skips}
use Rattle.lay_map.specs.spelling.Units.{Word, words}
use Rattle.lay_map.proofs.FrontRules.{Skipped, angles, left_out}
use Rattle.lay_map.proofs.Rules.{All, NoComma, Plain, Tells, brk, each_of, ends, fixed, gaps, group_to, last_comma, part}
use Rattle.lay_map.proofs.nodes.Generics.{NoAngles, each_bound}
use Rattle.lay_map.proofs.nodes.TypeArgs.{bounds_tell}
use Rattle.lay_map.proofs.nodes.TypeParts.{NoColon, binder_tells, lifetime_tells, lifetimes_tell}
use Rattle.lay_map.proofs.nodes.Types.{type_tells}

-- ---- predicates

outlives_tell : {Next : List Word → Type 0} (ls : List Lifetime) → Tells Next (outlives_form ls)
outlives_tell [] = fixed (Operator (codes ":") ∷ []) refl ends
outlives_tell (l ∷ ls) = fixed colon refl (lifetimes_tell (l ∷ ls))

meets_tell : {Next : List Word → Type 0} (bs : List Bound) → are_bounds bs ≡ true → Tells Next (meets_form bs)
meets_tell [] g = fixed (Operator (codes ":") ∷ []) refl ends
meets_tell (b ∷ bs) g = fixed colon refl (part (bounds_tell (map about_bound (b ∷ bs)) (each_bound (b ∷ bs)) g) ends)

predicate_tells : {Next : List Word → Type 0} (p : Predicate) → is_predicate p ≡ true → Tells Next (predicate_form p)
predicate_tells (predicate.Region l ls) g = part (lifetime_tells l) (outlives_tell ls)
predicate_tells (predicate.Bounded binder x bs) g =
    let n1 = and_parts (is_binder binder && (about_type x).told.good && (is_some binder || not (about_type x).binds)) (are_bounds bs) g in
    let n2 = and_parts (is_binder binder && (about_type x).told.good) (is_some binder || not (about_type x).binds) n1.0 in
    let n3 = and_parts (is_binder binder) (about_type x).told.good n2.0 in
    binder_tells binder n3.0 (part (type_tells x n3.1) (meets_tell bs n1.1))

-- ---- clauses

-- The next word is no `,`, and doesn't begin as `where` does.
abbrev pub BehindWheres : List Word → Type 0
BehindWheres ws = Skipped (comma ++ where_word) ws

behind_comma : (ws : List Word) → BehindWheres ws → NoComma ws
behind_comma ws n = (and_parts (passes ws Punct (codes ",")) (skips where_word ws) n).0

behind_where : (ws : List Word) → BehindWheres ws → Skipped where_word ws
behind_where ws n = (and_parts (passes ws Punct (codes ",")) (skips where_word ws) n).1

-- predicates after `where`, before what ends them
predicates_tell : (end : Form) (es : List Form) → Tells NoComma end → All Plain es → Tells BehindWheres (predicates end es)
predicates_tell end [] e t = left_out where_word (λ w ws n. behind_where ws n) ends
predicates_tell end (p ∷ ps) e t =
    brk Never (group_to true 4 behind_comma
    (brk (Soft true 1) (fixed where_word refl (brk (Soft false 1) (part t.0 (part (gaps ps t.1) e))))) ends)

pub wheres_body_tell : (w : Wheres) → are_predicates w ≡ true → Tells BehindWheres (wheres_before_body w)
wheres_body_tell w g =
    predicates_tell (LastComma 1 Done) (map predicate_form w.predicates) (last_comma 1 (λ ws n. n) ends)
    (each_of Plain predicate_form is_predicate (λ p h. predicate_tells p h) w.predicates g)

pub wheres_semicolon_tell : (w : Wheres) → are_predicates w ≡ true → Tells BehindWheres (wheres_before_semicolon w)
wheres_semicolon_tell w g =
    predicates_tell (Optional false comma Done) (map predicate_form w.predicates)
    (left_out comma (λ v ws n. and_from (passes ws Punct (codes ",")) true n refl) ends)
    (each_of Plain predicate_form is_predicate (λ p h. predicate_tells p h) w.predicates g)

-- ---- between a head and a where clause

-- The next word is none of `<`, `>` and `:`.
abbrev pub AfterHead : List Word → Type 0
AfterHead ws = Skipped (angles ++ Operator (codes ":") ∷ []) ws

pub head_angles : (ws : List Word) → AfterHead ws → NoAngles ws
head_angles ws n =
    let p = and_parts (passes ws Punct (codes "<")) (skips (greater ∷ Operator (codes ":") ∷ []) ws) n in
    let q = and_parts (passes ws Punct (codes ">")) (skips (Operator (codes ":") ∷ []) ws) p.1 in
    and_from (passes ws Punct (codes "<")) (skips (greater ∷ []) ws) p.0 (and_from (passes ws Punct (codes ">")) true q.0 refl)

pub head_colon : (ws : List Word) → AfterHead ws → NoColon ws
head_colon ws n =
    let p = and_parts (passes ws Punct (codes "<")) (skips (greater ∷ Operator (codes ":") ∷ []) ws) n in
    (and_parts (passes ws Punct (codes ">")) (skips (Operator (codes ":") ∷ []) ws) p.1).1

after_head : (end : Form) (es : List Form) (ws : List Word) → AfterHead ws → AfterHead (words (predicates end es) ++ ws)
after_head end [] ws n = n
after_head end (e ∷ es) ws n = refl

pub after_head_body : (w : Wheres) (ws : List Word) → AfterHead ws → AfterHead (words (wheres_before_body w) ++ ws)
after_head_body w ws n = after_head (LastComma 1 Done) (map predicate_form w.predicates) ws n

pub after_head_semicolon : (w : Wheres) (ws : List Word) → AfterHead ws → AfterHead (words (wheres_before_semicolon w) ++ ws)
after_head_semicolon w ws n = after_head (Optional false comma Done) (map predicate_form w.predicates) ws n
