-- The loops of the rules, turn by turn, with what they hold.
use Rattle.std.proofs.Common.{◌≡◌, ℕ, zero, suc, ◌<◌, ◌≤◌, max, Bool, true, false, List, [], ◌∷◌, ◌++◌, length, drop, codes, Some, None, refl, sym, ap, ◌∙◌, arith}
use Rattle.lay_token.specs.Operators.{is_op}
use Rattle.lay_node.specs.Ahead.{Tokens, first, tail, is_mark}
use Rattle.lay_node.specs.reader.Loops.{Got, Read, repeat_from, repeat, open_elements_from, open_elements}
use Rattle.lay_node.specs.reader.Types.{chain}
use Rattle.lay_read_tokens.proofs.Holding.{Holding, holding_more}
use Rattle.lay_read_tokens.proofs.Turns.{Turn, Held, repeat-start, repeat-end, repeat-none, repeat-step}

-- ---- parts with an operator between them

-- The first part was read, and this many others after it.
pub record Chained {A : Type 0} (op : List ℕ) (one : Tokens → Read A) (whole : Tokens) (held : List A) (need : ℕ)
    (ts : Tokens) : Type 0 where
  pub head : A × ℕ
  pub behind : Tokens
  pub begun : one whole ≡ Some (head, behind)
  pub others : Held (λ more. Turn (repeat_from (is_op op) (λ us. one (drop (length op) us)))
      (repeat (is_op op) (λ us. one (drop (length op) us)) behind) more ts) (λ more. Holding held need (head ∷ more))

module _ {A : Type 0} (op : List ℕ) (one : Tokens → Read A) where
  next : Tokens → Read A
  next us = one (drop (length op) us)

  pub chain-start : (ts : Tokens) (held : List A) (x : A) (n : ℕ) (rest : Tokens) → held ≡ x ∷ []
      → one ts ≡ Some ((x, n), rest) → Chained op one ts held n rest
  chain-start ts held x n rest h e = record {
    head = (x, n);
    behind = rest;
    begun = e;
    others = record { found = []; turn = repeat-start (is_op op) (λ us. one (drop (length op) us)) rest; holds = (sym h, omega arith) };
  }

  pub chain-first : (ts : Tokens) → one ts ≡ None → chain op one ts ≡ None
  unfolding chain
  chain-first ts e = rw e refl

  module _ (whole : Tokens) (held : List A) (need : ℕ) (ts : Tokens) (c : Chained op one whole held need ts) where
    pub chain-none : is_op op ts ≡ true → one (drop (length op) ts) ≡ None → chain op one whole ≡ None
    unfolding chain
    chain-none h e =
        let none = repeat-none (is_op op) (λ us. one (drop (length op) us)) _ c.others.found ts c.others.turn h e in
        rw (c.begun, none) refl

    pub chain-step : (now : List A) (x : A) (n : ℕ) (rest : Tokens) → is_op op ts ≡ true
        → one (drop (length op) ts) ≡ Some ((x, n), rest) → length rest < length ts
        → now ≡ held ++ x ∷ [] → Chained op one whole now (max need n) rest
    chain-step now x n rest h e less k = record {
      head = c.head;
      behind = c.behind;
      begun = c.begun;
      others = record {
        found = c.others.found ++ (x, n) ∷ [];
        turn = repeat-step (is_op op) (λ us. one (drop (length op) us)) _ c.others.found ts c.others.turn (x, n) rest h e less;
        holds = rw k (holding_more held need (c.head ∷ c.others.found) x n c.others.holds);
      };
    }

    pub chain-end : is_op op ts ≡ false
        → (read : List (A × ℕ)) × (chain op one whole ≡ Some (read, ts)) × Holding held need read
    unfolding chain
    chain-end h =
        let all = repeat-end (is_op op) (λ us. one (drop (length op) us)) _ c.others.found ts c.others.turn h in
        (c.head ∷ c.others.found, rw (c.begun, all) refl, c.others.holds)

-- ---- elements as long as one begins

-- This many turns after this one suffice, and make this of what is found.
pub record Turning {A : Type 0} (turns_make : ℕ → List A → Tokens → Got (List A × Bool)) (whole : Got (List A × Bool))
    (found : List A) (ts : Tokens) : Type 0 where
  pub turns : ℕ
  pub enough : length ts ≤ turns
  pub same : whole ≡ turns_make (suc turns) found ts

module _ {A : Type 0} (begins : Tokens → Bool) (one : Tokens → Got A) where
  some_turns : (n : ℕ) (whole : Got (List A × Bool)) (found : List A) (ts : Tokens) → length ts < n
      → whole ≡ open_elements_from begins one n found ts → Turning (open_elements_from begins one) whole found ts
  some_turns zero whole found ts lt e = absurd (omega arith)
  some_turns (suc n) whole found ts lt e = record { turns = n; enough = omega arith; same = e }

  pub open-start : (ts : Tokens) → Turning (open_elements_from begins one) (open_elements begins one ts) [] ts
  unfolding open_elements
  open-start ts = record { turns = length ts; enough = omega arith; same = refl }

  module _ (whole : Got (List A × Bool)) (found : List A) (ts : Tokens)
      (t : Turning (open_elements_from begins one) whole found ts) where
    pub open-end : begins ts ≡ false → whole ≡ Some ((found, true), ts)
    unfolding open_elements_from
    open-end h = t.same ∙ rw h refl

    pub open-none : begins ts ≡ true → one ts ≡ None → whole ≡ None
    unfolding open_elements_from
    open-none h e = t.same ∙ rw (h, e) refl

    pub open-last : (x : A) (rest : Tokens) → begins ts ≡ true → one ts ≡ Some (x, rest)
        → first (is_mark (codes ",")) rest ≡ false → whole ≡ Some ((found ++ x ∷ [], false), rest)
    unfolding open_elements_from
    open-last x rest h e c = t.same ∙ rw (h, e, c) refl

    pub open-step : (x : A) (mid rest : Tokens) → begins ts ≡ true → one ts ≡ Some (x, mid)
        → first (is_mark (codes ",")) mid ≡ true → rest ≡ tail mid → length rest < length ts
        → Turning (open_elements_from begins one) whole (found ++ x ∷ []) rest
    unfolding open_elements_from
    open-step x mid rest h e c k less =
        let fewer : length rest < t.turns = omega (arith, t.enough) in
        some_turns t.turns whole (found ++ x ∷ []) rest fewer
        (t.same ∙ rw (h, e, c) (ap (open_elements_from begins one t.turns (found ++ x ∷ [])) (sym k)))
