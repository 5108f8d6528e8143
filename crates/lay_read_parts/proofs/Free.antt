-- Parts that need no depth, read by the loops of those that do.
use Rattle.std.proofs.Common.{◌≡◌, ℕ, zero, suc, Bool, true, false, List, [], ◌∷◌, ◌++◌, length, drop, codes, Some, None, refl, sym, ap, ◌∙◌, if◌then◌else◌, Option}
use Rattle.std.proofs.lemmas.List.{map-append}
use Rattle.lay_token.specs.Operators.{is_op}
use Rattle.lay_token.specs.declared.token.Token.{Token}
use Rattle.lay_node.specs.Ahead.{Tokens, first, is_mark, is_lifetime}
use Rattle.lay_node.specs.reader.Exact.{needless}
use Rattle.lay_node.specs.reader.Loops.{Got, Read, ◌>>=◌, nodes, element_end, repeat_from, repeat, elements_from, elements}
use Rattle.lay_node.specs.reader.Types.{chain, lifetime, lifetimes, lifetime_param, one_capture}
use Rattle.lay_node.specs.declared.token.Lifetime.{Lifetime}
use Rattle.lay_node.specs.declared.types.Capture.{Capture}
use Rattle.lay_node.specs.declared.types.LifetimeParam.{LifetimeParam}

-- the parts alone
abbrev bare : {A : Type 0} → List (A × ℕ) × Tokens → Got (List A)
bare xs = Some (nodes xs.0, xs.1)

module _ {A : Type 0} (one : Tokens → Got A) where
  free : Tokens → Read A
  free ts = needless one 0 ts

  nodes_more : (found : List (A × ℕ)) (x : A) → nodes (found ++ (x, 0) ∷ []) ≡ nodes found ++ x ∷ []
  nodes_more found x = map-append (λ (y : A × ℕ). y.0) found ((x, 0) ∷ [])

  repeat_turn : (b : Bool) (o : Got A) (f : List A → Tokens → Got (List A))
      (g : List (A × ℕ) → Tokens → Got (List (A × ℕ))) (found : List (A × ℕ)) (ts : Tokens)
      → ((fs : List (A × ℕ)) (rest : Tokens) → f (nodes fs) rest ≡ (g fs rest >>= bare))
      → (if b then (o >>= (λ x. f (nodes found ++ x.0 ∷ []) x.1)) else Some (nodes found, ts))
      ≡ ((if b then ((o >>= (λ x. let got : Read A = Some ((x.0, 0), x.1) in got)) >>= (λ x. g (found ++ x.0 ∷ []) x.1))
      else Some (found, ts)) >>= bare)
  repeat_turn true None f g found ts h = refl
  repeat_turn true (Some x) f g found ts h =
      ap (λ xs. f xs x.1) (sym (nodes_more found x.0)) ∙ h (found ++ (x.0, 0) ∷ []) x.1
  repeat_turn false o f g found ts h = refl

  repeat_free : (more : Tokens → Bool) (n : ℕ) (found : List (A × ℕ)) (ts : Tokens)
      → repeat_from more one n (nodes found) ts ≡ (repeat_from more (needless one 0) n found ts >>= bare)
  unfolding repeat_from
  repeat_free more zero found ts = refl
  repeat_free more (suc n) found ts = repeat_turn (more ts) (one ts) (repeat_from more one n)
      (repeat_from more (needless one 0) n) found ts (λ fs rest. repeat_free more n fs rest)

  elements_turn : (b : Bool) (o : Got A) (end : Tokens → Option Tokens) (f : List A → Tokens → Got (List A))
      (g : List (A × ℕ) → Tokens → Got (List (A × ℕ))) (found : List (A × ℕ)) (ts : Tokens)
      → ((fs : List (A × ℕ)) (rest : Tokens) → f (nodes fs) rest ≡ (g fs rest >>= bare))
      → (if b then Some (nodes found, ts) else (o >>= (λ x. end x.1 >>= (λ behind. f (nodes found ++ x.0 ∷ []) behind))))
      ≡ ((if b then Some (found, ts)
      else ((o >>= (λ x. let got : Read A = Some ((x.0, 0), x.1) in got))
      >>= (λ x. end x.1 >>= (λ behind. g (found ++ x.0 ∷ []) behind)))) >>= bare)
  elements_turn true o end f g found ts h = refl
  elements_turn false None end f g found ts h = refl
  elements_turn false (Some x) end f g found ts h = by (end x.1)
    where
      by : (e : Option Tokens) → (e >>= (λ behind. f (nodes found ++ x.0 ∷ []) behind))
          ≡ ((e >>= (λ behind. g (found ++ (x.0, 0) ∷ []) behind)) >>= bare)
      by None = refl
      by (Some behind) = ap (λ xs. f xs behind) (sym (nodes_more found x.0)) ∙ h (found ++ (x.0, 0) ∷ []) behind

  elements_free : (closing : Token → Bool) (n : ℕ) (found : List (A × ℕ)) (ts : Tokens)
      → elements_from closing one n (nodes found) ts ≡ (elements_from closing (needless one 0) n found ts >>= bare)
  unfolding elements_from
  elements_free closing zero found ts = refl
  elements_free closing (suc n) found ts = elements_turn (first closing ts) (one ts) (element_end closing)
      (elements_from closing one n) (elements_from closing (needless one 0) n) found _
      (λ fs rest. elements_free closing n fs rest)

-- what is read after the first part of a chain
abbrev others : {A : Type 0} → A → Got (List A) → Got (List A)
others x got = got >>= (λ more. Some (x ∷ more.0, more.1))

others_bare : {A : Type 0} (x : A) (got : Got (List (A × ℕ))) → others x (got >>= bare) ≡ (others (x, 0) got >>= bare)
others_bare x None = refl
others_bare x (Some more) = refl

joint_free : {A : Type 0} (one : Tokens → Got A) (op : List ℕ) (ts : Tokens)
    → repeat (is_op op) (λ us. one (drop (length op) us)) ts
    ≡ (repeat (is_op op) (λ us. needless one 0 (drop (length op) us)) ts >>= bare)
unfolding repeat
joint_free one op ts = repeat_free (λ us. one (drop (length op) us)) (is_op op) (suc (length ts)) [] ts

chain_by : {A : Type 0} (one : Tokens → Got A) (op : List ℕ) (o : Got A)
    → (o >>= (λ x. others x.0 (repeat (is_op op) (λ us. one (drop (length op) us)) x.1)))
    ≡ (((o >>= (λ x. let got : Read A = Some ((x.0, 0), x.1) in got))
    >>= (λ x. others x.0 (repeat (is_op op) (λ us. needless one 0 (drop (length op) us)) x.1))) >>= bare)
chain_by one op None = refl
chain_by one op (Some x) = ap (others x.0) (joint_free one op x.1)
    ∙ others_bare x.0 (repeat (is_op op) (λ us. needless one 0 (drop (length op) us)) x.1)

pub chain_free : {A : Type 0} (one : Tokens → Got A) (op : List ℕ) (ts : Tokens)
    → chain op one ts ≡ (chain op (needless one 0) ts >>= bare)
unfolding chain
chain_free one op ts = chain_by one op (one ts)

pub all_free : {A : Type 0} (one : Tokens → Got A) (closing : Token → Bool) (ts : Tokens)
    → elements closing one ts ≡ (elements closing (needless one 0) ts >>= bare)
unfolding elements
all_free one closing ts = elements_free one closing (suc (length ts)) [] ts

-- ---- lifetimes and binders

pub no_lifetimes : (ts : Tokens) → first is_lifetime ts ≡ true → chain (codes "+") (needless lifetime 0) ts ≡ None
    → lifetimes ts ≡ None
no_lifetimes ts h e = rw h (chain_free lifetime (codes "+") ts ∙ rw e refl)

pub some_lifetimes : (ts : Tokens) (read : List (Lifetime × ℕ)) (rest : Tokens) (xs : List Lifetime)
    → first is_lifetime ts ≡ true
    → chain (codes "+") (needless lifetime 0) ts ≡ Some (read, rest) → nodes read ≡ xs → lifetimes ts ≡ Some (xs, rest)
some_lifetimes ts read rest xs h e n = rw (h, ← n) (chain_free lifetime (codes "+") ts ∙ rw e refl)

-- what follows `for` and `<`
abbrev pub params_behind : Tokens → Got (List LifetimeParam)
params_behind ts = elements (is_mark (codes ">")) lifetime_param ts

pub no_params : (ts : Tokens) → elements (is_mark (codes ">")) (needless lifetime_param 0) ts ≡ None
    → params_behind ts ≡ None
no_params ts e = all_free lifetime_param (is_mark (codes ">")) ts ∙ rw e refl

pub some_params : (ts : Tokens) (read : List (LifetimeParam × ℕ)) (rest : Tokens) (xs : List LifetimeParam)
    → elements (is_mark (codes ">")) (needless lifetime_param 0) ts ≡ Some (read, rest) → nodes read ≡ xs
    → params_behind ts ≡ Some (xs, rest)
some_params ts read rest xs e n = rw (← n) (all_free lifetime_param (is_mark (codes ">")) ts ∙ rw e refl)

-- what follows `use` and `<`
abbrev pub captured_behind : Tokens → Got (List Capture)
captured_behind ts = elements (is_mark (codes ">")) one_capture ts

pub none_captured : (ts : Tokens) → elements (is_mark (codes ">")) (needless one_capture 0) ts ≡ None
    → captured_behind ts ≡ None
none_captured ts e = all_free one_capture (is_mark (codes ">")) ts ∙ rw e refl

pub some_captured : (ts : Tokens) (read : List (Capture × ℕ)) (rest : Tokens) (xs : List Capture)
    → elements (is_mark (codes ">")) (needless one_capture 0) ts ≡ Some (read, rest) → nodes read ≡ xs
    → captured_behind ts ≡ Some (xs, rest)
some_captured ts read rest xs e n = rw (← n) (all_free one_capture (is_mark (codes ">")) ts ∙ rw e refl)
