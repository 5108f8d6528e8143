-- Lists of nodes that are taken from their ends, one at a turn.
use Rattle.std.proofs.Common.{◌≡◌, ◌∙◌, ◌≤◌, ℕ, max, List, [], ◌∷◌, ◌++◌, map, reverse, refl, sym, ap, arith, append_assoc}
use Rattle.std.specs.List.{AllByRecursion}
use Rattle.std.proofs.lemmas.List.{map-append, reverse-append}
use Rattle.lay_form.specs.Depth.{least_depth}
use Rattle.lay_form.specs.Form.{Form}
use Rattle.lay_depth.specs.nodes.Depths.{greatest}
use Rattle.lay_depth.proofs.nodes_lemmas.Forms.{both_are}
use Rattle.lay_build_types.specs.Answers.{IsKept}
use Rattle.lay_build_types.proofs.PieceLemmas.{all_behind}

-- The last of those that are left is the next of the list.
pub turned : {A : Type 0} (all before left : List A) (x : A) → all ≡ before ++ reverse (left ++ x ∷ [])
    → all ≡ (before ++ x ∷ []) ++ reverse left
turned all before left x is =
    is ∙ ap (λ xs. before ++ xs) (reverse-append left (x ∷ [])) ∙ sym (append_assoc before (x ∷ []) (reverse left))

pub one_deeper : {A : Type 0} (form : A → Form) (before : List A) (x : A)
    → greatest (map form (before ++ x ∷ [])) ≡ max (greatest (map form before)) (least_depth (form x))
one_deeper form before x =
    ap greatest (map-append form before (x ∷ [])) ∙ both_are (map form before) (form x ∷ []) ∙ omega arith

pub one_kept : {A : Type 0} (form : A → Form) (Holds : A → Type 0) (before : List A) (x : A) → AllByRecursion (IsKept form Holds) before
    → IsKept form Holds x → AllByRecursion (IsKept form Holds) (before ++ x ∷ [])
one_kept form Holds before x all one = all_behind (IsKept form Holds) before (x ∷ []) all (one, tt)

-- What is made of the last of those that are left is the next of what is made.
pub one_made : {A B : Type 0} (make : A → B) (made : List B) (left : List A) (x : A)
    → made ++ map make (reverse (left ++ x ∷ [])) ≡ (made ++ make x ∷ []) ++ map make (reverse left)
one_made make made left x =
    ap (λ xs. made ++ map make xs) (reverse-append left (x ∷ [])) ∙ sym (append_assoc made (make x ∷ []) (map make (reverse left)))
