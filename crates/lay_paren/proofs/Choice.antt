-- What is chosen of a node is written in its place, and isn't without one of the pairs that were put in, where this holds of its
-- parts.
use Rattle.std.proofs.Common.{◌≡◌, ◌≤◌, Bool, true, false, not, ◌&&◌, if◌then◌else◌, List, [], ◌∷◌, ◌++◌, map, refl, sym, ap, ap₂, subst, ◌∙◌}
use Rattle.std.specs.List.{list_all}
use Rattle.std.proofs.lemmas.Bool.{and_parts, and_from}
use Rattle.lay_code.specs.nodes.Code.{about_expr}
use Rattle.lay_code.specs.nodes.Exprs.{ExprFacts, expr_facts, may, placed, stands}
use Rattle.lay_code.specs.nodes.Places.{FREE}
use Rattle.lay_code.specs.declared.blocks.Stmt.TheOpen.{Expr-F}
use Rattle.lay_code.specs.declared.exprs.Expr.{Expr}
use Rattle.lay_code.specs.declared.exprs.Expr.TheVariants as expr
use Rattle.lay_code.specs.declared.exprs.Place.{Place}
use Rattle.lay_code.proofs.nodes.ExprsLaws.{expr_paren_is}
use Rattle.lay_code.proofs.nodes.PlacesTable.{paren_row}
use Rattle.lay_paren_defs.specs.loose.Slots.{Any, Slot, fits, slot_fits}
use Rattle.lay_paren_defs.proofs.loose_lemmas.SlotLemmas.{paren_fits}
use Rattle.lay_paren.specs.Least.{chosen, wrapped}
use Rattle.lay_paren.specs.Made.{Made, all, both, kept, one}

-- ---- tests that fail

pub refuted : (a b : Bool) → (a ≡ true → b ≡ true) → not b ≡ true → not a ≡ true
refuted false b f h = refl
refuted true b f h = subst (λ (c : Bool). not c ≡ true) (f refl) h

-- none of these meets the test
abbrev pub none : {A : Type 0} → (A → Bool) → List A → Bool
none test xs = list_all (λ x. not (test x)) xs

pub all_joined : {A : Type 0} (test : A → Bool) (xs ys : List A) → list_all test xs ≡ true → list_all test ys ≡ true
    → list_all test (xs ++ ys) ≡ true
all_joined test [] ys h k = k
all_joined test (x ∷ xs) ys h k =
    let c = and_parts (test x) (list_all test xs) h in
    and_from (test x) (list_all test (xs ++ ys)) c.0 (all_joined test xs ys c.1 k)

pub all_weaker : {A : Type 0} (test other : A → Bool) → ((x : A) → test x ≡ true → other x ≡ true) → (xs : List A)
    → list_all test xs ≡ true → list_all other xs ≡ true
all_weaker test other each [] h = refl
all_weaker test other each (x ∷ xs) h =
    let c = and_parts (test x) (list_all test xs) h in
    and_from (other x) (list_all other xs) (each x c.0) (all_weaker test other each xs c.1)

pub all_mapped : {A B : Type 0} (test : A → Bool) (other : B → Bool) (f : A → B) → ((x : A) → test x ≡ true → other (f x) ≡ true)
    → (xs : List A) → list_all test xs ≡ true → list_all other (map f xs) ≡ true
all_mapped test other f each [] h = refl
all_mapped test other f each (x ∷ xs) h =
    let c = and_parts (test x) (list_all test xs) h in
    and_from (other (f x)) (list_all other (map f xs)) (each x c.0) (all_mapped test other f each xs c.1)

-- ---- cuts of a node, where these are cuts of its parts

pub one_none : {A B : Type 0} (part : A → Bool) (node : B → Bool) (f : A → B) → ((x : A) → node (f x) ≡ true → part x ≡ true)
    → (m : Made A) → none part m.cuts ≡ true → none node (one f m).cuts ≡ true
one_none part node f down m h =
    all_mapped (λ x. not (part x)) (λ y. not (node y)) f (λ x. refuted (node (f x)) (part x) (down x)) m.cuts h

-- what holds of a node with a cut of either part
pub both_all : {A B C : Type 0} (left : A → Bool) (right : B → Bool) (node : C → Bool) (f : A → B → C) (m : Made A) (n : Made B)
    → ((x : A) → left x ≡ true → node (f x n.result) ≡ true) → ((y : B) → right y ≡ true → node (f m.result y) ≡ true)
    → list_all left m.cuts ≡ true → list_all right n.cuts ≡ true → list_all node (both f m n).cuts ≡ true
both_all left right node f m n one other h k =
    all_joined node (map (λ x. f x n.result) m.cuts) (map (λ y. f m.result y) n.cuts)
    (all_mapped left node (λ x. f x n.result) one m.cuts h) (all_mapped right node (λ y. f m.result y) other n.cuts k)

pub both_none : {A B C : Type 0} (left : A → Bool) (right : B → Bool) (node : C → Bool) (f : A → B → C) (m : Made A) (n : Made B)
    → ((x : A) → node (f x n.result) ≡ true → left x ≡ true) → ((y : B) → node (f m.result y) ≡ true → right y ≡ true)
    → none left m.cuts ≡ true → none right n.cuts ≡ true → none node (both f m n).cuts ≡ true
both_none left right node f m n one other h k =
    both_all (λ x. not (left x)) (λ y. not (right y)) (λ z. not (node z)) f m n
    (λ x. refuted (node (f x n.result)) (left x) (one x)) (λ y. refuted (node (f m.result y)) (right y) (other y)) h k

-- ---- nodes that lack nothing

-- None of the cuts meets the test, and what meets it gets no pair.
pub record Sure {A : Type 0} (test : A → Bool) (made : Made A) (x : A) : Type 0 where
  pub needed : none test made.cuts ≡ true
  pub keeps : test x ≡ true → made ≡ kept x

pub kept_sure : {A : Type 0} (test : A → Bool) (x : A) → Sure test (kept x) x
kept_sure test x = record { needed = refl; keeps = λ h. refl }

-- a tree, by its layer
pub by_layer : {A B : Type 0} (test : B → Bool) (roll : A → B) (layer : A) (m : Made B) (x : B) → roll layer ≡ x → Sure test m x
    → Sure test m (roll layer)
by_layer test roll layer m x e sure = subst (λ z. Sure test m z) (sym e) sure

pub one_sure : {A B : Type 0} (part : A → Bool) (node : B → Bool) (f : A → B) → ((x : A) → node (f x) ≡ true → part x ≡ true)
    → (m : Made A) (x : A) → Sure part m x → Sure node (one f m) (f x)
one_sure part node f down m x sure = record {
  needed = one_none part node f down m sure.needed;
  keeps = λ h. ap (one f) (sure.keeps (down x h));
}

pub both_sure : {A B C : Type 0} (left : A → Bool) (right : B → Bool) (node : C → Bool) (f : A → B → C)
    → ((x : A) (y : B) → node (f x y) ≡ true → (left x ≡ true) × (right y ≡ true)) → (m : Made A) (n : Made B) (x : A) (y : B)
    → Sure left m x → Sure right n y → Sure node (both f m n) (f x y)
both_sure left right node f down m n x y sure other = record {
  needed =
      both_none left right node f m n (λ z h. (down z n.result h).0) (λ z h. (down m.result z h).1) sure.needed other.needed;
  keeps = λ h. ap₂ (both f) (sure.keeps (down x y h).0) (other.keeps (down x y h).1);
}

-- A list of parts fails where one of them does.
pub list_sure : {N : Type 0} {Is : N → Type 0} (part : N → Bool) (list : List N → Bool)
    → ((x : N) (xs : List N) → list (x ∷ xs) ≡ true → (part x ≡ true) × (list xs ≡ true))
    → (made : N → Made N) → ((x : N) → Is x → Sure part (made x) x)
    → (ys : List ((x : N) × Is x)) → let trees = map (λ (y : (x : N) × Is x). y.0) ys in Sure list (all (map made trees)) trees
list_sure part list down made each [] = kept_sure list []
list_sure {N = N} {Is = Is} part list down made each (y ∷ ys) =
    let trees = map (λ (y : (x : N) × Is x). y.0) ys in
    both_sure part list list (λ z zs. z ∷ zs) down (made y.0) (all (map made trees)) y.0 trees (each y.0 y.1)
    (list_sure part list down made each ys)

-- ---- in a place and a slot

abbrev pub meets : ExprFacts → Place → Slot → Bool
meets x p s = placed x p && slot_fits s p.no_struct x

abbrev pub written : Place → Slot → Expr → Bool
written p s x = meets (about_expr x) p s

abbrev pub unwritten : Place → Slot → Expr → Bool
unwritten p s x = not (written p s x)

-- what is asked of nothing but its place
pub any : (x : ExprFacts) (p : Place) → placed x p ≡ true → meets x p Any ≡ true
any x p h = and_from (placed x p) true h refl

pub in_place : (x : ExprFacts) (p : Place) (s : Slot) → meets x p s ≡ true → placed x p ≡ true
in_place x p s h = (and_parts (placed x p) (slot_fits s p.no_struct x) h).0

pub in_slot : (x : ExprFacts) (p : Place) (s : Slot) → meets x p s ≡ true → slot_fits s p.no_struct x ≡ true
in_slot x p s h = (and_parts (placed x p) (slot_fits s p.no_struct x) h).1

-- ---- parentheses

paren_meets : (x : ExprFacts) (p : Place) (s : Slot) → p.level ≤ 14 → placed x FREE ≡ true → meets (expr_facts (Expr-F.Paren x)) p s ≡ true
paren_meets x p s h free =
    let F = expr_facts (Expr-F.Paren x) in
    let f = and_parts (may F p) (slot_fits s p.no_struct F) (paren_fits x p s h) in
    and_from (placed F p) (slot_fits s p.no_struct F) (paren_row p x ∙ and_from (may F p) (placed x FREE) f.0 free) f.1

paren_within : (x : ExprFacts) (p : Place) (s : Slot) → meets (expr_facts (Expr-F.Paren x)) p s ≡ true → meets x FREE Any ≡ true
paren_within x p s h =
    let F = expr_facts (Expr-F.Paren x) in
    any x FREE (and_parts (stands F p) (placed x FREE) (in_place F p s h)).1

pub paren_written : (g : Expr) (p : Place) (s : Slot) → p.level ≤ 14 → placed (about_expr g) FREE ≡ true → written p s (expr.Paren g) ≡ true
paren_written g p s h free =
    subst (λ (F : ExprFacts). meets F p s ≡ true) (sym (expr_paren_is g)) (paren_meets (about_expr g) p s h free)

pub paren_unwritten : (p : Place) (s : Slot) (g : Expr) → unwritten FREE Any g ≡ true → unwritten p s (expr.Paren g) ≡ true
paren_unwritten p s g =
    refuted (written p s (expr.Paren g)) (written FREE Any g)
    (λ h. paren_within (about_expr g) p s (subst (λ (F : ExprFacts). meets F p s ≡ true) (expr_paren_is g) h))

-- ---- the choice

module _ (here free : Made Expr) (p : Place) (s : Slot) where
  pub chosen_written : p.level ≤ 14 → (may (about_expr here.result) p ≡ true → placed (about_expr here.result) p ≡ true)
      → placed (about_expr free.result) FREE ≡ true → written p s (chosen here free p s).result ≡ true
  chosen_written h there enclosed = by (fits (about_expr here.result) p s) refl
    where
      by : (b : Bool) → fits (about_expr here.result) p s ≡ b → written p s (if b then here else wrapped free).result ≡ true
      by true is =
          let F = about_expr here.result in
          let f = and_parts (may F p) (slot_fits s p.no_struct F) is in
          and_from (placed F p) (slot_fits s p.no_struct F) (there f.0) f.1
      by false is = paren_written free.result p s h enclosed

  -- What fits with its parts as they are gets no pair.
  pub chosen_kept : (x : Expr) → here ≡ kept x → fits (about_expr x) p s ≡ true → chosen here free p s ≡ kept x
  chosen_kept x is fit =
      ap (λ (b : Bool). if b then here else wrapped free) (ap (λ (m : Made Expr). fits (about_expr m.result) p s) is ∙ fit) ∙ is

  pub chosen_needed : list_all (unwritten p s) here.cuts ≡ true → list_all (unwritten FREE Any) free.cuts ≡ true
      → (fits (about_expr here.result) p s ≡ false → unwritten p s free.result ≡ true) → list_all (unwritten p s) (chosen here free p s).cuts ≡ true
  chosen_needed of_here of_free fails = by (fits (about_expr here.result) p s) refl
    where
      by : (b : Bool) → fits (about_expr here.result) p s ≡ b → list_all (unwritten p s) (if b then here else wrapped free).cuts ≡ true
      by true is = of_here
      by false is =
          and_from (unwritten p s free.result) (list_all (unwritten p s) (map expr.Paren free.cuts)) (fails is)
          (all_mapped (unwritten FREE Any) (unwritten p s) expr.Paren (paren_unwritten p s) free.cuts of_free)
