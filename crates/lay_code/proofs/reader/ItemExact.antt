-- Items are read exactly where they stand.
use Rattle.std.proofs.Common.{◌≡◌, ℕ}
use Rattle.lay_node.specs.Ahead.{Tokens}
use Rattle.lay_node.specs.nodes.Facts.{Front}
use Rattle.lay_node.specs.reader.Exact.{Exact}
use Rattle.lay_node.specs.declared.heads.Site.{Site}
use Rattle.lay_node.proofs.reader.Exact.{exact, one_at_most}
use Rattle.lay_code.specs.nodes.Code.{about_item}
use Rattle.lay_code.specs.reader.Code.{item_at}
use Rattle.lay_code.specs.declared.item.Item.{Item}
use Rattle.lay_code.proofs.reader.CodeComplete.{item_complete}
use Rattle.lay_code.proofs.reader.CodeSound.{item_sound}
use Rattle.lay_code.proofs.reader.FrontsHeld.{fronts}

pub items_exact : (at : Site) → Exact (item_at at) (λ (x : Item). Front (about_item at x))
items_exact at = exact (about_item at) (item_at at) (item_sound at) (item_complete fronts at)

-- So at most one item and one count of tokens fit.
pub one_item : (at : Site) (node other : Item) (ts : Tokens) (n m depth : ℕ) → Front (about_item at node) ts n depth → Front (about_item at other) ts m depth
    → (node ≡ other) × (n ≡ m)
one_item at = one_at_most (about_item at) (item_at at) (items_exact at)
