-- What the calls that build nodes keep and answer, for a kind of nodes with its form and with what
-- holds of its nodes.
use Rattle.std.specs.Prelude.{ℕ, ◌≡◌, ◌≤◌, ◌<◌, ◌⊎◌, IsTrue, List, map, Option, Some, None, Result, Ok, Err}
use Rattle.std.specs.List.{AllByRecursion}
use Rattle.lay_form.specs.Depth.{least_depth}
use Rattle.lay_form.specs.Form.{Form}
use Rattle.lay_form.specs.Pieces.{are_pieces}
use Rattle.lay_code.specs.Reading.{top}
use Rattle.lay_depth.specs.nodes.Depths.{greatest}
use Rattle.lay_build_types.specs.declared.built.BuildError.{BuildError}
use Rattle.lay_build_types.specs.declared.built.BuildError.TheVariants as error

-- ---- what is kept

-- The names and literals of the node are pieces of their kinds, and what holds of its kind holds of
-- it.
pub record IsMade {N : Type 0} (form : N → Form) (Holds : N → Type 0) (node : N) : Type 0 where
  pub pieces : IsTrue (are_pieces (form node))
  pub holding : Holds node

-- The node was built, and needs no greater depth than a file may have.
pub record IsKept {N : Type 0} (form : N → Form) (Holds : N → Type 0) (node : N) : Type 0 where
  pub made : IsMade form Holds node
  pub within : least_depth (form node) ≤ top

-- A node and the depth that it needs, before that depth is checked.
pub record IsPart {N : Type 0} (form : N → Form) (Holds : N → Type 0) (part : N × ℕ) : Type 0 where
  pub made : IsMade form Holds part.0
  pub need : part.1 ≡ least_depth (form part.0)

-- the nodes of a list, with the greatest depth that one of them needs
pub record AreParts {N : Type 0} (form : N → Form) (Holds : N → Type 0) (nodes : List N) (parts : List N × ℕ) : Type 0 where
  pub same : parts.0 ≡ nodes
  pub need : parts.1 ≡ greatest (map form nodes)
  pub within : parts.1 ≤ top
  pub kept : AllByRecursion (IsKept form Holds) nodes

-- the depth that an optional node needs
abbrev pub need_if : {N : Type 0} → (N → Form) → Option N → ℕ
need_if form None = 0
need_if form (Some node) = least_depth (form node)

-- ---- what is answered

-- The predicate holds of the answer, unless memory ran out.
abbrev pub Gives : {A : Type 0} → Result A BuildError → (A → Type 0) → Type 0
Gives (Ok x) P = P x
Gives (Err why) P = why ≡ error.NoMemory

-- The answer is the node, unless the node is too deep or memory ran out. It is refused as too deep
-- only if it is.
abbrev pub Makes : {N : Type 0} → (N → Form) → N → Result N BuildError → Type 0
Makes form node (Ok built) = (built ≡ node) × (least_depth (form node) ≤ top)
Makes form node (Err error.TooDeep) = top < least_depth (form node)
Makes form node (Err error.NoMemory) = Unit {0}
Makes form node (Err _) = ⊥

-- The answer to a part: its node unless it is too deep, or the reason why the part couldn't be
-- made.
abbrev pub Answers : {N : Type 0} → (N → Form) → Result (N × ℕ) BuildError → Result N BuildError → Type 0
Answers form (Ok part) result = Makes form part.0 result
Answers form (Err why) result = result ≡ Err why

-- The call refuses for this reason, or memory ran out.
abbrev pub Refuses : {N : Type 0} → BuildError → Result N BuildError → Type 0
Refuses why (Ok built) = ⊥
Refuses why (Err e) = (e ≡ why) ⊎ (e ≡ error.NoMemory)
