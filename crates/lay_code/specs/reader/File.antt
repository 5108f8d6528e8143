-- Parsing files: the longest prefix of inner attributes and then items.
use Rattle.std.specs.Prelude.{ℕ, zero, suc, true, List, [], ◌∷◌, ◌++◌, length, Some, None}
use Rattle.lay_node.specs.Ahead.{Tokens}
use Rattle.lay_node.specs.reader.Attr.{attribute}
use Rattle.lay_node.specs.reader.Loops.{Got, ◌>>=◌}
use Rattle.lay_node.specs.declared.attr.Attr.{Attr}
use Rattle.lay_node.specs.declared.heads.Site.TheVariants.{Module}
use Rattle.lay_code.specs.reader.Code.{item_at}
use Rattle.lay_code.specs.declared.item.Item.{Item}

-- The nodes found so far and the tokens that are left. If one more node was parsed, more may
-- follow; if none was, the row ends.
abbrev pub behind_one : {A : Type 0} → (List A → Tokens → List A × Tokens) → List A → Tokens → Got A → List A × Tokens
behind_one more found ts None = (found, ts)
behind_one more found ts (Some x) = more (found ++ x.0 ∷ []) x.1

-- Parses nodes one by one and appends them to those found, until none is parsed or the turns run
-- out.
unfoldable pub longest_from : {A : Type 0} → (Tokens → Got A) → ℕ → List A → Tokens → List A × Tokens
longest_from one zero found ts = (found, ts)
longest_from one (suc n) found ts = behind_one (longest_from one n) found ts (one ts)

-- Parses nodes one by one until none is parsed. Each node leaves fewer tokens, so as many turns as
-- there are tokens suffice.
unfoldable pub longest : {A : Type 0} → (Tokens → Got A) → Tokens → List A × Tokens
longest one ts = longest_from one (length ts) [] ts

-- an item of a file, parsed at this depth
abbrev pub file_item : ℕ → Tokens → Got Item
file_item depth ts = do x ← item_at Module depth ts; Some (x.0.0, x.1)

-- the longest prefix of inner attributes and then items, and the tokens that are left
unfoldable pub front : ℕ → Tokens → (List Attr × List Item) × Tokens
front depth ts =
    let attrs = longest (attribute true) ts in
    let items = longest (file_item depth) attrs.1 in ((attrs.0, items.0), items.1)
