-- What loops require of the functions that they call, and what the parsers answer.
use Rattle.std.specs.Prelude.{ℕ, ◌≡◌, ◌≤◌, Bool, if◌then◌else◌, List, [], ◌∷◌, codes, Some, None, Result, Ok, Err, IfOk}
use denote.Ref.{Bor, MutBor}
use Rattle.lay_token.specs.declared.token.Token.{Token}
use Rattle.lay_node.specs.Ahead.{Tokens, closes, is_mark}
use Rattle.lay_node.specs.Begins.{begins_predicate}
use Rattle.lay_node.specs.reader.Functions.{begins_fn_param}
use Rattle.lay_node.specs.reader.Loops.{Got, Read, ◌>>=◌, nodes, deepest}
use Rattle.lay_node.specs.reader.Patterns.{begins_field}
use Rattle.lay_node.specs.reader.Types.{begins_param}
use Rattle.lay_node.specs.declared.token.Literal.{Literal}
use Rattle.lay_read_tokens.proofs.Left.{Leaves}
use Rattle.lay_read_tokens.specs.Answers.{IsFound, IsSole, StandsBefore}
use Rattle.lay_read_tokens.specs.declared.found.Found.{Found}
use Rattle.lay_read_tokens.specs.declared.stop.ReadNone.{ReadNone}
use Rattle.lay_read_tokens.specs.declared.stop.ReadNone.TheVariants.{NoReading, NoMemory}
use Rattle.lay_read_parts.specs.declared.loops.Closer.{Closer}
use Rattle.lay_read_parts.specs.declared.loops.Closer.TheVariants as closer
use Rattle.lay_read_parts.specs.declared.loops.Joint.{Joint}
use Rattle.lay_read_parts.specs.declared.loops.Joint.TheVariants as joint
use Rattle.lay_read_parts.specs.declared.loops.Opening.{Opening}
use Rattle.lay_read_parts.specs.declared.loops.Opening.TheVariants as opening

-- This function parses one part at this place, by these rules. A part has at least one token.
pub record ReadsParts {R X T : Type 0} (depth : ℕ) (rules : R) (place : X) (one : Tokens → Read T)
    (may_read : Bor R → MutBor Tokens → X → Type 0)
    (reads : Bor R → MutBor Tokens → X → Result (Found T) ReadNone → MutBor Tokens → Type 0) : Type 0 where
  pub readable : (by : Bor R) (old : MutBor Tokens) → by.now ≡ rules → may_read by old place
  pub read : (by : Bor R) (old new : MutBor Tokens) (r : Result (Found T) ReadNone)
      → reads by old place r new → by.now ≡ rules → IsFound (one old.now) r new.now
  pub within_read : (by : Bor R) (old new : MutBor Tokens) (r : Result (Found T) ReadNone)
      → reads by old place r new → by.now ≡ rules → IfOk r (λ found. found.need ≤ depth)
  pub leaves : (ts : Tokens) → Leaves 1 ts (one ts)

-- ---- what ends a list, stands between its parts, or goes on

abbrev pub closed_by : Closer → Token → Bool
closed_by (closer.Group delim) t = closes delim t
closed_by closer.Angle t = is_mark (codes ">") t
closed_by closer.Bar t = is_mark (codes "|") t

abbrev pub joined_by : Joint → List ℕ
joined_by joint.Plus = codes "+"
joined_by joint.Colons = codes "::"
joined_by joint.Bar = codes "|"

abbrev pub begins_part : Opening → Tokens → Bool
begins_part opening.Param ts = begins_param ts
begins_part opening.Predicate ts = begins_predicate ts
begins_part opening.Field ts = begins_field ts
begins_part opening.FnParam ts = begins_fn_param ts

-- What a loop has found: these nodes, whether a comma follows the last one, and the greatest depth
-- that one needs. The nodes were parsed as long as one began.
abbrev pub AreFoundOpen : {A : Type 0} → List (A × ℕ) × Bool → Found (List A × Bool) → Type 0
AreFoundOpen read found = (nodes read.0 ≡ found.node.0) × (read.1 ≡ found.node.1) × (deepest read.0 ≡ found.need)

-- ---- literals

-- the first token as a literal, if it passes
abbrev pub literal_if : Bool → Tokens → Got Literal
literal_if passes [] = None
literal_if passes (t ∷ ts) = if passes then Some (record { kind = t.kind; text = t.text }, ts) else None

-- ---- lists

-- the nodes, with the greatest depth that one of them needs
abbrev pub gathered : {A : Type 0} → Got (List (A × ℕ)) → Read (List A)
gathered got = do xs ← got; Some ((nodes xs.0, deepest xs.0), xs.1)

-- the same for nodes that no delimiter ends
abbrev pub gathered_open : {A : Type 0} → Got (List (A × ℕ) × Bool) → Read (List A × Bool)
gathered_open got = do xs ← got; Some (((nodes xs.0.0, xs.0.1), deepest xs.0.0), xs.1)

-- ---- what comes next

-- What the parser of a node answers. If it parses a node, the node is the only one that stands at
-- the beginning at this depth, and the cursor moves past it. Otherwise no node stands there, or
-- memory ran out, and the cursor stays.
abbrev pub IsReadAt : {A : Type 0} → ℕ → (A → Tokens → ℕ → ℕ → Type 0) → Tokens → Result A ReadNone → Tokens → Type 0
IsReadAt depth Front ahead (Ok node) left = StandsBefore Front depth ahead node left × IsSole (StandsBefore Front depth ahead) node left
IsReadAt {A} depth Front ahead (Err NoReading) left = (left ≡ ahead) × ((node : A) (n : ℕ) → Front node ahead n depth → ⊥)
IsReadAt depth Front ahead (Err NoMemory) left = left ≡ ahead
