-- What the parsers of patterns require of the function that they call, and what they answer.
use Rattle.std.specs.Prelude.{ℕ, suc, max, nat_le, ◌≡◌, ◌+◌, ◌^◌, ◌<◌, ◌≤◌, if◌then◌else◌, List, [], ◌∷◌, Option, Some, None, Result, Ok, Err, IfOk}
use Rattle.std.specs.declared.alloc.Global.{Global}
use denote.Ref.{MutBor}
use Rattle.lay_node.specs.Ahead.{Tokens}
use Rattle.lay_node.specs.nodes.Patterns.{about_pat}
use Rattle.lay_node.specs.reader.Loops.{Got, Read}
use Rattle.lay_node.specs.reader.Patterns.{PatWithin, field_by, named_field, pat_at}
use Rattle.lay_node.specs.reader.Types.{within}
use Rattle.lay_node.specs.declared.attr.Attr.{Attr}
use Rattle.lay_node.specs.declared.patterns.FieldPat.{FieldPat}
use Rattle.lay_node.specs.declared.patterns.Pat.{Pat}
use Rattle.lay_node.specs.declared.patterns.Pat.TheVariants as pat
use Rattle.lay_node.specs.declared.patterns.PatPlace.{PatPlace}
use Rattle.lay_node.specs.declared.token.Name.{Name}
use Rattle.lay_node.specs.declared.token.Word.{Word}
use Rattle.lay_read_tokens.specs.Answers.{IsFound}
use Rattle.lay_read_tokens.specs.declared.found.Found.{Found}
use Rattle.lay_read_tokens.specs.declared.stop.ReadNone.{ReadNone}
use Rattle.lay_read_tokens.specs.declared.stop.ReadNone.TheVariants.{NoReading, NoMemory}

-- the parsers of patterns, of types and of the arguments of paths, at most this deep
abbrev pub pats_within : ℕ → PatWithin
pats_within depth = record { pats = λ place ts. pat_at place depth ts; kinds = within depth }

-- This function parses patterns at this depth. The depth plus one fits in 32 bits.
pub record ArePats (depth : ℕ) (may_read : Global → MutBor Tokens → PatPlace → ℕ → Type 0)
    (reads : Global → MutBor Tokens → PatPlace → ℕ → Result (Found Pat) ReadNone → MutBor Tokens → Type 0) : Type 0 where
  pub room : depth + 1 < 2 ^ 32
  pub readable : (alloc : Global) (old : MutBor Tokens) (place : PatPlace) → may_read alloc old place depth
  pub read : (alloc : Global) (old new : MutBor Tokens) (place : PatPlace) (r : Result (Found Pat) ReadNone)
      → reads alloc old place depth r new → IsFound (pat_at place depth old.now) r new.now
  pub within_read : (alloc : Global) (old new : MutBor Tokens) (place : PatPlace) (r : Result (Found Pat) ReadNone)
      → reads alloc old place depth r new → IfOk r (λ found. found.need ≤ depth)

-- What was parsed is the answer. If nothing was, the answer says so and the cursor stays. Memory
-- may run out.
abbrev pub IsTried : {A : Type 0} → Got A → Tokens → Result (Option A) ReadNone → Tokens → Type 0
IsTried got ahead (Ok (Some a)) left = got ≡ Some (a, left)
IsTried got ahead (Ok None) left = (got ≡ None) × (left ≡ ahead)
IsTried got ahead (Err NoReading) left = ⊥
IsTried got ahead (Err NoMemory) left = Unit {0}

-- ---- fields

-- a field with a number as its name, after the `:`
abbrev pub index_field : PatWithin → List Attr → List ℕ → Tokens → Read FieldPat
index_field deeper attrs index ts = field_by deeper attrs (Some (index, ts)) ts

-- a field with a name, after the `:`
abbrev pub full_field : PatWithin → List Attr → Name → Tokens → Read FieldPat
full_field deeper attrs name ts = named_field deeper attrs (Some (name, ts)) ts

-- the name that this word is
abbrev pub word_name : Word → Name
word_name w = record { raw = w.raw; text = w.text }

-- ---- in delimiters

-- a tuple of its first element and the others, where this is the greatest need of the others
abbrev pub tuple_behind : Pat × ℕ → List Pat → ℕ → Tokens → Read Pat
tuple_behind x [] need ts = if (about_pat x.0).rest then None else Some ((pat.Tuple (x.0 ∷ []), suc (max x.1 need)), ts)
tuple_behind x (y ∷ more) need ts = Some ((pat.Tuple (x.0 ∷ y ∷ more), suc (max x.1 need)), ts)

-- ---- alternatives

-- The pattern itself if it is the only one, and otherwise an alternative of them all, within a
-- budget. Their greatest need is given.
abbrev pub alternatives_behind : ℕ → List Pat → ℕ → Tokens → Read Pat
alternatives_behind budget (x ∷ []) need ts = Some ((x, need), ts)
alternatives_behind budget xs need ts = if nat_le (suc need) budget then Some ((pat.Or xs, suc need), ts) else None
