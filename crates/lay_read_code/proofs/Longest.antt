-- The loops of a file, turn by turn: the longest run is what the turns that are left make of what is found.
use Rattle.std.proofs.Common.{◌≡◌, ℕ, zero, suc, ◌<◌, ◌≤◌, true, List, [], ◌∷◌, ◌++◌, length, Option, Some, None, Ok, refl, ◌∙◌, arith}
use Rattle.lay_node.specs.Ahead.{Tokens}
use Rattle.lay_node.specs.reader.Loops.{Got, ◌>>=◌}
use Rattle.lay_node.specs.reader.Attr.{attribute}
use Rattle.lay_node.specs.declared.attr.Attr.{Attr}
use Rattle.lay_node.specs.declared.heads.Site.TheVariants.{Module}
use Rattle.lay_node.proofs.Steps.{bind_some, got_same}
use Rattle.lay_code.specs.reader.File.{file_item, front, longest, longest_from}
use Rattle.lay_code.specs.reader.Code.{item_at}
use Rattle.lay_code.specs.declared.item.Item.{Item}
use Rattle.lay_code.proofs.reader.Longest.{longest_end}
use Rattle.lay_read_tokens.proofs.Left.{shorter}
use Rattle.lay_read_code.specs.Answers.{IsNext}
use Rattle.lay_read_shared.proofs.Left.{item_left}

-- This many turns suffice, and make this of what is found.
pub record Turn {A : Type 0} (one : Tokens → Got A) (whole : List A × Tokens) (found : List A) (ts : Tokens) : Type 0 where
  pub turns : ℕ
  pub enough : length ts ≤ turns
  pub same : whole ≡ longest_from one turns found ts

module _ {A : Type 0} (one : Tokens → Got A) where
  pub longest-start : (ts : Tokens) → Turn one (longest one ts) [] ts
  unfolding longest
  longest-start ts = record { turns = length ts; enough = omega arith; same = refl }

  some_turns : (n : ℕ) (whole : List A × Tokens) (found : List A) (ts : Tokens) (x : A) (rest : Tokens) → length ts ≤ n
      → one ts ≡ Some (x, rest) → length rest < length ts → whole ≡ longest_from one n found ts → Turn one whole (found ++ x ∷ []) rest
  unfolding longest_from
  some_turns zero whole found ts x rest enough e less same = absurd (omega (arith, enough, less))
  some_turns (suc n) whole found ts x rest enough e less same =
      record { turns = n; enough = omega (arith, enough, less); same = same ∙ rw e refl }

  module _ (whole : List A × Tokens) (found : List A) (ts : Tokens) (t : Turn one whole found ts) where
    pub longest-end : one ts ≡ None → whole ≡ (found, ts)
    longest-end e = t.same ∙ longest_end one t.turns found ts e

    pub longest-step : (x : A) (rest : Tokens) → one ts ≡ Some (x, rest) → length rest < length ts
        → Turn one whole (found ++ x ∷ []) rest
    longest-step x rest e less = some_turns t.turns whole found ts x rest t.enough e less t.same

-- An item of a file leaves fewer tokens.
pub item_shorter : (depth : ℕ) (ts : Tokens) (one : Item) (rest : Tokens) → file_item depth ts ≡ Some (one, rest) → length rest < length ts
item_shorter depth ts one rest e =
    let b = bind_some (item_at Module depth ts) (λ x. let found : Got Item = Some (x.0.0, x.1) in found) (one, rest) e in
    let same = got_same b.0.0.0 one b.0.1 rest b.2 in
    let less = shorter ts (item_at Module depth ts) b.0.0 b.0.1 (item_left depth Module ts) b.1 in
    rw (← same.1) less

-- what stands next, where it was read, and where there is none
pub next_some : {A : Type 0} (got : Got A) (o : Option A) (ahead left : Tokens) (a : A) → IsNext got (Ok o) ahead left → o ≡ Some a
    → got ≡ Some (a, left)
next_some got o ahead left a h e = let there : got ≡ Some (a, left) = rw e at h in there

pub next_none : {A : Type 0} (got : Got A) (o : Option A) (ahead left : Tokens) → IsNext got (Ok o) ahead left → o ≡ None
    → (got ≡ None) × (left ≡ ahead)
next_none got o ahead left h e = let there : (got ≡ None) × (left ≡ ahead) = rw e at h in there

-- both runs, one after the other
pub front_is : (depth : ℕ) (ts mid rest : Tokens) (attrs : List Attr) (items : List Item) → longest (attribute true) ts ≡ (attrs, mid)
    → longest (file_item depth) mid ≡ (items, rest) → front depth ts ≡ ((attrs, items), rest)
unfolding front
front_is depth ts mid rest attrs items a i = rw (a, i) refl
