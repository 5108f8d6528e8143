-- The facts about a node: its form, whether it is well formed, and which tokens it refuses after
-- it.
use Rattle.std.specs.Prelude.{ℕ, Bool, List, map}
use Rattle.std.specs.List.{list_all}
use Rattle.lay_form.specs.Form.{Form, Done, Deeper}
use Rattle.lay_form.specs.Spelled as spelled
use Rattle.lay_node.specs.Ahead.{Tokens}
use Rattle.lay_node.specs.Follow.{Begin, may_follow}

pub record Facts : Type 0 where
  pub form : Form
  -- The node is normal and meets the conditions of its form, and so does all that is within it.
  pub good : Bool
  pub refuses : List Begin

abbrev pub forms : List Facts → List Form
forms nodes = map (λ (x : Facts). x.form) nodes

abbrev pub all_good : List Facts → Bool
all_good nodes = list_all (λ (x : Facts). x.good) nodes

-- A node with these facts stands at the start of the tokens. The first n tokens spell it at the
-- depth, it is well formed, and the rest may follow it.
abbrev pub Front : Facts → Tokens → ℕ → ℕ → Type 0
Front x ts n depth = spelled.Front x.form x.good (may_follow x.refuses) ts n depth

-- The same facts, where a test of its own says which tokens may follow the node.
pub record Told : Type 0 where
  pub form : Form
  pub good : Bool
  pub follows : Tokens → Bool

-- A node that isn't counted, parsed by itself: what is within it is one level deeper.
abbrev pub by_itself : Told → Told
by_itself x = record { form = Deeper x.form Done; good = x.good; follows = x.follows }

abbrev pub ToldFront : Told → Tokens → ℕ → ℕ → Type 0
ToldFront x ts n depth = spelled.Front x.form x.good x.follows ts n depth
