-- Lists of parts, each pair of which can be left out.
use Rattle.std.proofs.Common.{◌≡◌, ℕ, Bool, false, List, [], ◌∷◌, ◌++◌, map, refl, ap₂}
use Rattle.lay_code.specs.nodes.Places.{FREE, before_op}
use Rattle.lay_code.specs.declared.exprs.Expr.{Expr}
use Rattle.lay_code.specs.declared.exprs.Place.{Place}
use Rattle.lay_code.specs.declared.operators.Op.{Op}
use Rattle.lay_paren_defs.specs.loose.Slots.{Any}
use Rattle.lay_paren.specs.LeftOut.{own}
use Rattle.lay_paren.specs.Least.{made_of}
use Rattle.lay_paren.specs.Made.{Made, all, both, one}
use Rattle.lay_paren_defs.specs.Traversal.{operand_at}
use Rattle.lay_paren.specs.Parts.{Placed, free_made, operands_made, targets_made}
use Rattle.lay_paren.proofs.Counted.{Counted, CountedExpr}

-- ---- no pair

pub none_mapped : {A B : Type 0} (f : A → B) (xs : List A) → map f xs ≡ [] → xs ≡ []
none_mapped f [] h = refl
none_mapped f (x ∷ xs) h = absurd (let no : ⊥ = cc in no)

pub none_joined : {A : Type 0} (xs ys : List A) → (xs ++ ys) ≡ [] → (xs ≡ []) × (ys ≡ [])
none_joined [] ys h = (refl, h)
none_joined (x ∷ xs) ys h = absurd (let no : ⊥ = cc in no)

pub one_bare : {A B : Type 0} (f : A → B) (m : Made A) → (one f m).cuts ≡ [] → m.cuts ≡ []
one_bare f m h = none_mapped f m.cuts h

pub both_bare : {A B C : Type 0} (f : A → B → C) (m : Made A) (n : Made B) → (both f m n).cuts ≡ [] → (m.cuts ≡ []) × (n.cuts ≡ [])
both_bare f m n h =
    let c = none_joined (map (λ x. f x n.result) m.cuts) (map (λ y. f m.result y) n.cuts) h in
    (none_mapped (λ x. f x n.result) m.cuts c.0, none_mapped (λ y. f m.result y) n.cuts c.1)

-- ---- lists

abbrev pub trees : List CountedExpr → List Expr
trees ys = map (λ (y : CountedExpr). y.0) ys

pub free_counted : (ys : List CountedExpr) → (free_made (map own (trees ys))).cuts ≡ []
    → free_made (map own (free_made (map made_of (trees ys))).result) ≡ free_made (map made_of (trees ys))
free_counted [] h = refl
free_counted (y ∷ ys) h =
    let c = both_bare (λ z zs. z ∷ zs) (own y.0 FREE Any) (free_made (map own (trees ys))) h in
    ap₂ (both (λ z zs. z ∷ zs)) (y.1 FREE Any c.0 FREE FREE Any Any) (free_counted ys c.1)

-- of nodes that are no expressions
pub list_counted : {N : Type 0} (Is : N → Type 0) (is made : N → Made N) → ((x : N) → Is x → Counted is (is x) (made x))
    → (ys : List ((x : N) × Is x)) → let xs = map (λ (y : (x : N) × Is x). y.0) ys in
    (all (map is xs)).cuts ≡ [] → all (map is (all (map made xs)).result) ≡ all (map made xs)
list_counted Is is made each [] h = refl
list_counted {N = N} Is is made each (y ∷ ys) h =
    let xs = map (λ (y : (x : N) × Is x). y.0) ys in
    let c = both_bare (λ z zs. z ∷ zs) (is y.0) (all (map is xs)) h in
    ap₂ (both (λ z zs. z ∷ zs)) (each y.0 y.1 c.0) (list_counted Is is made each ys c.1)

abbrev pub operands_of : List (Op × CountedExpr) → List (Op × Expr)
operands_of ys = map (λ (y : Op × CountedExpr). (y.0, y.1.0)) ys

abbrev pub own_operands : List (Op × Expr) → List (Op × Placed)
own_operands xs = map (λ (x : Op × Expr). (x.0, own x.1)) xs

abbrev pub made_operands : List (Op × Expr) → List (Op × Placed)
made_operands xs = map (λ (x : Op × Expr). (x.0, made_of x.1)) xs

pub operands_counted : (p : Place) (level other : ℕ) (ys : List (Op × CountedExpr)) → (operands_made FREE other (own_operands (operands_of ys))).cuts ≡ []
    → operands_made FREE other (own_operands (operands_made p level (made_operands (operands_of ys))).result)
    ≡ operands_made p level (made_operands (operands_of ys))
operands_counted p level other [] h = refl
operands_counted p level other (y ∷ ys) h =
    let rest = own_operands (operands_of ys) in
    let c = both_bare (λ z zs. (y.0, z) ∷ zs) (own y.1.0 (operand_at FREE other rest) Any) (operands_made FREE other rest) h in
    ap₂ (both (λ z zs. (y.0, z) ∷ zs))
    (y.1.1 (operand_at FREE other rest) Any c.0 (operand_at p level (made_operands (operands_of ys)))
    (operand_at FREE other (own_operands (operands_made p level (made_operands (operands_of ys))).result)) Any Any)
    (operands_counted p level other ys c.1)

abbrev pub targets_of : List (CountedExpr × Op) → List (Expr × Op)
targets_of ys = map (λ (y : CountedExpr × Op). (y.0.0, y.1)) ys

abbrev pub own_targets : List (Expr × Op) → List (Placed × Op)
own_targets xs = map (λ (x : Expr × Op). (own x.0, x.1)) xs

abbrev pub made_targets : List (Expr × Op) → List (Placed × Op)
made_targets xs = map (λ (x : Expr × Op). (made_of x.0, x.1)) xs

pub targets_counted : (p : Place) (first other : Bool) (ys : List (CountedExpr × Op)) → (targets_made FREE other (own_targets (targets_of ys))).cuts ≡ []
    → targets_made FREE other (own_targets (targets_made p first (made_targets (targets_of ys))).result)
    ≡ targets_made p first (made_targets (targets_of ys))
targets_counted p first other [] h = refl
targets_counted p first other (y ∷ ys) h =
    let c = both_bare (λ z zs. (z, y.1) ∷ zs) (own y.0.0 (before_op 1 false other false) Any) (targets_made FREE false (own_targets (targets_of ys))) h in
    ap₂ (both (λ z zs. (z, y.1) ∷ zs))
    (y.0.1 (before_op 1 false other false) Any c.0 (before_op 1 p.no_struct first false) (before_op 1 false other false) Any Any)
    (targets_counted p false false ys c.1)
