-- At most one head of an item and one count of tokens fit at a place.
use Rattle.std.proofs.Common.{◌≡◌, ℕ, Bool, ap}
use Rattle.lay_node.specs.Ahead.{Tokens}
use Rattle.lay_node.specs.nodes.Facts.{Told, ToldFront, by_itself}
use Rattle.lay_node.specs.nodes.Functions.{about_fn_head}
use Rattle.lay_node.specs.nodes.Heads.{TraitHeadAt, TraitHeadFront, about_alias, about_enum, about_extern_crate, about_impl_head, about_struct, about_union, about_value_head, headed}
use Rattle.lay_node.specs.nodes.Vis.{about_vis}
use Rattle.lay_node.specs.reader.Exact.{Exact, needless}
use Rattle.lay_node.specs.reader.Functions.{fn_head, head_at}
use Rattle.lay_node.specs.reader.Heads.{alias, enum, extern_crate, impl_head, struct, trait_head, union, value_head}
use Rattle.lay_node.specs.reader.Loops.{Read}
use Rattle.lay_node.specs.reader.Vis.{visibility}
use Rattle.lay_node.specs.declared.functions.FnHead.{FnHead}
use Rattle.lay_node.specs.declared.heads.Alias.{Alias}
use Rattle.lay_node.specs.declared.heads.Enum.{Enum}
use Rattle.lay_node.specs.declared.heads.ExternCrate.{ExternCrate}
use Rattle.lay_node.specs.declared.heads.ImplHead.{ImplHead}
use Rattle.lay_node.specs.declared.heads.Site.{Site}
use Rattle.lay_node.specs.declared.heads.Struct.{Struct}
use Rattle.lay_node.specs.declared.heads.TraitHead.{TraitHead}
use Rattle.lay_node.specs.declared.heads.Union.{Union}
use Rattle.lay_node.specs.declared.heads.ValueHead.{ValueHead}
use Rattle.lay_node.proofs.reader.AliasComplete.{aliases_exact}
use Rattle.lay_node.proofs.reader.Exact.{one_by_reading}
use Rattle.lay_node.proofs.reader.FunctionsComplete.{fn_heads_exact}
use Rattle.lay_node.proofs.reader.ImplHeadsComplete.{impl_heads_exact}
use Rattle.lay_node.proofs.reader.OutsideExact.{extern_crates_exact}
use Rattle.lay_node.proofs.reader.StructsExact.{enums_exact, structs_exact, unions_exact}
use Rattle.lay_node.proofs.reader.TraitHeads.{trait_heads_exact}
use Rattle.lay_node.proofs.reader.ValueHeads.{value_heads_exact}
use Rattle.lay_node.proofs.reader.Vis.{vis_exact}

-- This is told of one node at most that stands there.
abbrev OneAtMost : {A : Type 0} → (A → Told) → Type 0
OneAtMost {A} about = (node other : A) (ts : Tokens) (n m depth : ℕ) → ToldFront (about node) ts n depth → ToldFront (about other) ts m depth
    → (node ≡ other) × (n ≡ m)

one_told : {A : Type 0} (about : A → Told) (read : ℕ → Tokens → Read A) → Exact read (λ x. ToldFront (about x)) → OneAtMost about
one_told about read exactly = one_by_reading (λ x. ToldFront (about x)) read (λ x ts n depth f. f.0) exactly

pub one_vis : OneAtMost about_vis
one_vis = one_told about_vis (needless visibility) vis_exact

pub one_extern_crate : OneAtMost (λ (x : ExternCrate). headed (about_extern_crate x))
one_extern_crate = one_told (λ (x : ExternCrate). headed (about_extern_crate x)) (needless extern_crate) extern_crates_exact

pub one_alias : (site : Site) → OneAtMost (λ (x : Alias). by_itself (headed (about_alias site x)))
one_alias site = one_told (λ (x : Alias). by_itself (headed (about_alias site x))) (head_at (λ w ts. alias site w.kinds ts)) (aliases_exact site)

pub one_struct : OneAtMost (λ (x : Struct). by_itself (headed (about_struct x)))
one_struct = one_told (λ (x : Struct). by_itself (headed (about_struct x))) (head_at (λ w ts. struct w.kinds ts)) structs_exact

pub one_union : OneAtMost (λ (x : Union). by_itself (headed (about_union x)))
one_union = one_told (λ (x : Union). by_itself (headed (about_union x))) (head_at (λ w ts. union w.kinds ts)) unions_exact

pub one_enum : OneAtMost (λ (x : Enum). by_itself (headed (about_enum x)))
one_enum = one_told (λ (x : Enum). by_itself (headed (about_enum x))) (head_at (λ w ts. enum w.kinds ts)) enums_exact

pub one_fn_head : (site : Site) → OneAtMost (λ (x : FnHead). by_itself (about_fn_head site x))
one_fn_head site = one_told (λ (x : FnHead). by_itself (about_fn_head site x)) (head_at (fn_head site)) (fn_heads_exact site)

pub one_value_head : OneAtMost (λ (x : ValueHead). by_itself (about_value_head x))
one_value_head = one_told (λ (x : ValueHead). by_itself (about_value_head x)) (head_at (λ w ts. value_head w.kinds ts)) value_heads_exact

pub one_impl_head : OneAtMost (λ (x : ImplHead). by_itself (about_impl_head x))
one_impl_head = one_told (λ (x : ImplHead). by_itself (about_impl_head x)) (head_at (λ w ts. impl_head w.kinds ts)) impl_heads_exact

-- Whichever way its last parts are spelled, the reading tells it with the node.
pub one_trait_head : (node other : TraitHead) (ts : Tokens) (n m depth : ℕ) → TraitHeadFront node ts n depth → TraitHeadFront other ts m depth
    → (node ≡ other) × (n ≡ m)
one_trait_head node other ts n m depth f g =
    let one = one_by_reading (λ (x : TraitHead × (Bool × Bool)). TraitHeadAt x.1.0 x.1.1 x.0) (head_at (λ w us. trait_head w.kinds us)) (λ x us k d h. h.0)
    trait_heads_exact (node, (f.0, f.1)) (other, (g.0, g.1)) ts n m depth f.2 g.2 in
    (ap (λ (x : TraitHead × (Bool × Bool)). x.0) one.0, one.1)
