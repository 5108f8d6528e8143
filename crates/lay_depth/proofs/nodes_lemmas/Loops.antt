-- Loops over lists of nodes: the depth so far is that of the deepest node so far.
use Rattle.std.proofs.Common.{◌≡◌, ◌∙◌, ℕ, zero, suc, ◌+◌, ◌<◌, ◌≤◌, max, List, [], ◌∷◌, map, length, take, get_or, refl, ap, arith, add-one}
use Rattle.lay_form.specs.Depth.{least_depth}
use Rattle.lay_form.specs.Form.{Form}
use Rattle.lay_node.specs.nodes.Facts.{Facts, forms}
use Rattle.lay_depth.specs.nodes.Depths.{counted, greatest}

-- the nodes so far, and one more
greatest_more : {A : Type 0} (form : A → Form) (xs : List A) (i : ℕ) (x : A) → i < length xs → x ≡ get_or xs i x
    → greatest (map form (take (suc i) xs)) ≡ max (greatest (map form (take i xs))) (least_depth (form x))
greatest_more form [] i x lt is = absurd (omega arith)
greatest_more form (y ∷ ys) zero x lt is = let m = ap (λ z. least_depth (form z)) is in omega (arith, m)
greatest_more form (y ∷ ys) (suc i) x lt is =
    ap (max (least_depth (form y))) (greatest_more form ys i x (omega arith) is) ∙ omega arith

-- One turn counts one node more.
pub turn : {A : Type 0} (form : A → Form) (xs : List A) (i most one after : ℕ) (x : A) → i < length xs → x ≡ get_or xs i x
    → most ≡ counted (greatest (map form (take i xs))) → one ≡ counted (least_depth (form x)) → after ≡ max most one
    → after ≡ counted (greatest (map form (take (i + 1) xs)))
turn form xs i most one after x lt is before this now =
    rw add-one (let m = greatest_more form xs i x lt is in omega (arith, m, before, this, now))

take_all : {A : Type 0} (xs : List A) (i : ℕ) → length xs ≤ i → take i xs ≡ xs
take_all [] zero h = refl
take_all [] (suc i) h = refl
take_all (x ∷ xs) zero h = absurd (omega arith)
take_all (x ∷ xs) (suc i) h = ap (λ (ys : List _). x ∷ ys) (take_all xs i (omega arith))

-- At the end of the loop none is left.
pub all_turns : {A : Type 0} (form : A → Form) (xs : List A) (i most : ℕ) → length xs ≤ i
    → most ≡ counted (greatest (map form (take i xs))) → most ≡ counted (greatest (map form xs))
all_turns form xs i most h e = e ∙ ap (λ ys. counted (greatest (map form ys))) (take_all xs i h)

-- ---- nodes with these facts

-- the form of a node
abbrev pub form_of : {A : Type 0} → (A → Facts) → A → Form
form_of about x = (about x).form

-- the facts about each, and then its form
forms_are : {A : Type 0} (about : A → Facts) (xs : List A) → map (form_of about) xs ≡ forms (map about xs)
forms_are about [] = refl
forms_are about (x ∷ xs) = ap (λ (es : List Form). form_of about x ∷ es) (forms_are about xs)

pub all_told : {A : Type 0} (about : A → Facts) (xs : List A) (i most : ℕ) → length xs ≤ i
    → most ≡ counted (greatest (map (form_of about) (take i xs))) → most ≡ counted (greatest (forms (map about xs)))
all_told about xs i most h e = all_turns (form_of about) xs i most h e ∙ ap (λ es. counted (greatest es)) (forms_are about xs)
