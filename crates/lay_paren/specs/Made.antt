-- A node that gets parentheses: the result, and a cut for each pair that was added, which is the
-- result without that pair.
use Rattle.std.specs.Prelude.{Bool, false, List, [], ◌∷◌, ◌++◌, map, Option, Some, None}
use Rattle.lay_paren_defs.specs.Traversal.{Ways}

pub record Made (A : Type 0) : Type 0 where
  pub result : A
  pub cuts : List A

-- a node that gets no parentheses
abbrev pub kept : {A : Type 0} → A → Made A
kept x = record { result = x; cuts = [] }

-- a node of one part
abbrev pub one : {A B : Type 0} → (A → B) → Made A → Made B
one f x = record { result = f x.result; cuts = map f x.cuts }

-- A node of two parts. Each cut leaves out a pair in one of them.
abbrev pub both : {A B C : Type 0} → (A → B → C) → Made A → Made B → Made C
both f x y = record {
  result = f x.result y.result;
  cuts = map (λ z. f z y.result) x.cuts ++ map (λ z. f x.result z) y.cuts;
}

abbrev pub all : {A : Type 0} → List (Made A) → Made (List A)
all [] = kept []
all (x ∷ xs) = both (λ y ys. y ∷ ys) x (all xs)

-- an optional part
abbrev pub may_be : {A : Type 0} → Option (Made A) → Made (Option A)
may_be None = kept None
may_be (Some x) = one Some x

abbrev pub base : {A : Type 0} → Option (Option (Made A)) → Made (Option (Option A))
base None = kept None
base (Some None) = kept (Some None)
base (Some (Some x)) = one (λ y. Some (Some y)) x

abbrev pub row : {A B C : Type 0} → (A → B → C) → (Bool → A → List A → Made B) → Bool → List A
    → Made (List C)
row put part first [] = kept []
row put part first (x ∷ more) =
    both (λ y ys. put x y ∷ ys) (part first x more) (row put part false more)

abbrev pub making : Ways Made
making = record {
  kept = λ x. kept x;
  one = λ f x. one f x;
  both = λ f x y. both f x y;
  all = λ xs. all xs;
  may_be = λ x. may_be x;
  base = λ x. base x;
  row = λ put part first xs. row put part first xs;
}
