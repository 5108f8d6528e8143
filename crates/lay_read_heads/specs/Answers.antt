-- What stands next in the tokens, as a kind of item.
use Rattle.std.specs.Prelude.{ℕ, ◌≡◌, ◌⊎◌}
use Rattle.lay_node.specs.Ahead.{Tokens}
use Rattle.lay_node.specs.nodes.Facts.{Told, ToldFront, by_itself}
use Rattle.lay_node.specs.nodes.Heads.{about_struct, about_union, headed}
use Rattle.lay_code.specs.declared.item.ItemKind.{ItemKind}
use Rattle.lay_code.specs.declared.item.ItemKind.TheVariants as item

-- The item is a node of this kind, and the first `n` tokens are that node.
abbrev pub OfKind : {A : Type 0} → (A → ItemKind) → (A → Told) → ItemKind → Tokens → ℕ → ℕ → Type 0
OfKind {A} make about k ts n depth = (x : A) × (k ≡ make x) × ToldFront (about x) ts n depth

-- The item is a struct or a union, and the first `n` tokens are that node.
abbrev pub StructFront : ItemKind → Tokens → ℕ → ℕ → Type 0
StructFront k ts n depth =
    OfKind item.Struct (λ x. by_itself (headed (about_struct x))) k ts n depth
    ⊎ OfKind item.Union (λ x. by_itself (headed (about_union x))) k ts n depth
