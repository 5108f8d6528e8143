-- Items.
use Rattle.std.proofs.Common.{◌≡◌, Bool, true, false, ◌&&◌, ◌||◌, List, map, Some, None, is_some, refl, sym, ap, ap₂, ◌∙◌}
use Rattle.lay_node.specs.Words.{is_name}
use Rattle.lay_node.specs.nodes.Attr.{are_attrs}
use Rattle.lay_node.specs.nodes.Functions.{is_fn_head}
use Rattle.lay_node.specs.nodes.Heads.{is_impl_head, is_trait_head, is_value_head}
use Rattle.lay_node.specs.nodes.Types.{is_abi_name}
use Rattle.lay_node.specs.nodes.Vis.{is_vis}
use Rattle.lay_node.specs.nodes.Where.{are_predicates}
use Rattle.lay_node.specs.declared.attr.Attr.{Attr}
use Rattle.lay_node.specs.declared.heads.Site.{Site}
use Rattle.lay_node.specs.declared.heads.Site.TheVariants as site
use Rattle.lay_node.specs.declared.vis.Vis.{Vis}
use Rattle.lay_code.specs.nodes.Code.{told_of_item, told_of_kind}
use Rattle.lay_code.specs.nodes.CodeFacts.{ItemFacts, KindFacts}
use Rattle.lay_code.specs.nodes.Item.{in_module, is_inherited, item_facts, items_good, kind_facts, may_be_bodied, may_be_valued}
use Rattle.lay_code.specs.nodes.Layers.{ItemNode, KindNode}
use Rattle.lay_code.specs.declared.blocks.Block.{Block}
use Rattle.lay_code.specs.declared.blocks.Stmt.TheOpen.{Item-F, ItemKind-F}
use Rattle.lay_code.specs.declared.blocks.Stmt.TheViews as views
use Rattle.lay_code.specs.declared.exprs.Expr.{Expr}
use Rattle.lay_code.specs.declared.item.Item.{Item}
use Rattle.lay_code.specs.declared.item.ItemKind.{ItemKind}
use Rattle.lay_code.specs.declared.item.ItemKind.TheVariants as kind
use Rattle.lay_code.proofs.nodes.ItemLaws as laws
use Rattle.lay_paren_defs.specs.Enclosed.{enclose_block, enclose_item, enclose_kind, item_shell, kind_shell, part}
use Rattle.lay_paren.proofs.ErasedFolds.{item_erased, item_without, item_without_is, kind_erased, kind_without, kind_without_is}
use Rattle.lay_paren.proofs.LooseFolds.{item_shielded, kind_shielded, loose_item}
use Rattle.lay_paren.proofs.loose_laws_lemmas.Kept.{ItemGood, ItemIs, Kept, KeptItem, KindGood, item_layer, kind_layer}
use Rattle.lay_paren.proofs.loose_laws_lemmas.PartLemmas.{at_free, nodes_erased, nodes_good, part_erased}

-- ---- items in a list

abbrev item_trees : List KeptItem → List Item
item_trees ys = map (λ (y : KeptItem). y.0) ys

abbrev items : List KeptItem → List Item
items ys = map (enclose_item true) (item_trees ys)

items_alike : (s : Site) (ys : List KeptItem) → items_good s (map told_of_item (items ys)) ≡ items_good s (map loose_item (item_trees ys))
items_alike s = nodes_good ItemIs loose_item (enclose_item true) told_of_item (λ (F : ItemFacts). F.good s) (λ (F : ItemFacts). F.good s) (λ x is. is.good s)

items_erased : (ys : List KeptItem) → map item_erased (items ys) ≡ map item_erased (item_trees ys)
items_erased = nodes_erased ItemIs (enclose_item true) item_erased (λ x is. is.erases)

-- ---- what an item is

like_kind : (x : ItemKind) (F loose : KindFacts) (erased : ItemKind) → told_of_kind x ≡ F → is_some F.head ≡ is_some loose.head → F.call ≡ loose.call
    → ((s : Site) → F.good s ≡ loose.good s) → kind_erased x ≡ erased → KindGood loose x erased
like_kind x F loose erased e head call good erases = record {
  head = ap (λ (G : KindFacts). is_some G.head) e ∙ head;
  call = ap (λ (G : KindFacts). G.call) e ∙ call;
  good = λ s. ap (λ (G : KindFacts). G.good s) e ∙ good s;
  erases = erases;
}

kind_out : (layer : KindNode) (x : ItemKind) → views.roll-ItemKind layer ≡ x → kind_erased x ≡ views.roll-ItemKind (kind_without layer)
kind_out layer x rolls = ap kind_erased (sym rolls) ∙ kind_without_is layer

pub kind_step : (y : Kept ItemKind-F)
    → KindGood (kind_facts (kind_shielded (kind_layer y))) (kind_shell true (kind_layer y)) (views.roll-ItemKind (kind_without (kind_layer y)))
kind_step (ItemKind-F.ExternCrate x) =
    like_kind (kind.ExternCrate x) _ _ _ (laws.extern_crate_is x) refl refl (λ s. refl)
    (kind_out (ItemKind-F.ExternCrate x) (kind.ExternCrate x) (views.rolls-ExternCrate x))
kind_step (ItemKind-F.Import tree) =
    like_kind (kind.Import tree) _ _ _ (laws.import_is tree) refl refl (λ s. refl)
    (kind_out (ItemKind-F.Import tree) (kind.Import tree) (views.rolls-Import tree))
kind_step (ItemKind-F.FileModule name) =
    like_kind (kind.FileModule name) _ _ _ (laws.file_module_is name) refl refl (λ s. refl)
    (kind_out (ItemKind-F.FileModule name) (kind.FileModule name) (views.rolls-FileModule name))
kind_step (ItemKind-F.Module name attrs ys) =
    like_kind (kind.Module name attrs (items ys)) _ _ _ (laws.module_is name attrs (items ys)) refl refl
    (λ s. ap (λ (b : Bool). is_name name.raw name.text && are_attrs true attrs && b && in_module s) (items_alike site.Module ys))
    (kind_out (ItemKind-F.Module name attrs (items ys)) (kind.Module name attrs (items ys)) (views.rolls-Module name attrs (items ys))
    ∙ ap (λ (zs : List Item). views.roll-ItemKind (ItemKind-F.Module name attrs zs)) (items_erased ys))
kind_step (ItemKind-F.Function head wheres None) =
    like_kind (kind.Function head wheres None) _ _ _ (laws.function_is head wheres None) refl refl (λ s. refl)
    (kind_out (ItemKind-F.Function head wheres None) (kind.Function head wheres None) (views.rolls-Function head wheres None))
kind_step (ItemKind-F.Function head wheres (Some b)) =
    let c = enclose_block true b.0 in
    like_kind (kind.Function head wheres (Some c)) _ _ _ (laws.function_is head wheres (Some c)) refl refl
    (λ s. ap (λ (d : Bool). is_fn_head s head && are_predicates wheres && may_be_bodied s true && d) b.1.good)
    (kind_out (ItemKind-F.Function head wheres (Some c)) (kind.Function head wheres (Some c)) (views.rolls-Function head wheres (Some c))
    ∙ ap (λ (z : Block). views.roll-ItemKind (ItemKind-F.Function head wheres (Some z))) b.1.erases)
kind_step (ItemKind-F.Alias x) =
    like_kind (kind.Alias x) _ _ _ (laws.alias_is x) refl refl (λ s. refl)
    (kind_out (ItemKind-F.Alias x) (kind.Alias x) (views.rolls-Alias x))
kind_step (ItemKind-F.ItemKind::Struct x) =
    like_kind (kind.Struct x) _ _ _ (laws.struct_is x) refl refl (λ s. refl)
    (kind_out (ItemKind-F.ItemKind::Struct x) (kind.Struct x) (views.rolls-ItemKind::Struct x))
kind_step (ItemKind-F.Union x) =
    like_kind (kind.Union x) _ _ _ (laws.union_is x) refl refl (λ s. refl)
    (kind_out (ItemKind-F.Union x) (kind.Union x) (views.rolls-Union x))
kind_step (ItemKind-F.Enum x) =
    like_kind (kind.Enum x) _ _ _ (laws.enum_is x) refl refl (λ s. refl)
    (kind_out (ItemKind-F.Enum x) (kind.Enum x) (views.rolls-Enum x))
kind_step (ItemKind-F.Value head None) =
    like_kind (kind.Value head None) _ _ _ (laws.value_is head None) refl refl (λ s. refl)
    (kind_out (ItemKind-F.Value head None) (kind.Value head None) (views.rolls-Value head None))
kind_step (ItemKind-F.Value head (Some x)) =
    let z = part true x.0 in
    like_kind (kind.Value head (Some z)) _ _ _ (laws.value_is head (Some z)) refl refl
    (λ s. ap (λ (b : Bool). is_value_head head && may_be_valued s head true && b) (at_free x))
    (kind_out (ItemKind-F.Value head (Some z)) (kind.Value head (Some z)) (views.rolls-Value head (Some z))
    ∙ ap (λ (v : Expr). views.roll-ItemKind (ItemKind-F.Value head (Some v))) (part_erased x))
kind_step (ItemKind-F.Trait head wheres attrs ys) =
    like_kind (kind.Trait head wheres attrs (items ys)) _ _ _ (laws.trait_is head wheres attrs (items ys)) refl refl
    (λ s. ap (λ (b : Bool). is_trait_head head && are_predicates wheres && are_attrs true attrs && b && in_module s) (items_alike site.TraitMember ys))
    (kind_out (ItemKind-F.Trait head wheres attrs (items ys)) (kind.Trait head wheres attrs (items ys)) (views.rolls-Trait head wheres attrs (items ys))
    ∙ ap (λ (zs : List Item). views.roll-ItemKind (ItemKind-F.Trait head wheres attrs zs)) (items_erased ys))
kind_step (ItemKind-F.Impl head wheres attrs ys) =
    like_kind (kind.Impl head wheres attrs (items ys)) _ _ _ (laws.impl_is head wheres attrs (items ys)) refl refl
    (λ s. ap (λ (b : Bool). is_impl_head head && are_predicates wheres && are_attrs true attrs && b && in_module s) (items_alike site.Member ys))
    (kind_out (ItemKind-F.Impl head wheres attrs (items ys)) (kind.Impl head wheres attrs (items ys)) (views.rolls-Impl head wheres attrs (items ys))
    ∙ ap (λ (zs : List Item). views.roll-ItemKind (ItemKind-F.Impl head wheres attrs zs)) (items_erased ys))
kind_step (ItemKind-F.Foreign is_unsafe abi attrs ys) =
    like_kind (kind.Foreign is_unsafe abi attrs (items ys)) _ _ _ (laws.foreign_is is_unsafe abi attrs (items ys)) refl refl
    (λ s. ap (λ (b : Bool). is_abi_name abi && are_attrs true attrs && b && in_module s) (items_alike site.Foreign ys))
    (kind_out (ItemKind-F.Foreign is_unsafe abi attrs (items ys)) (kind.Foreign is_unsafe abi attrs (items ys)) (views.rolls-Foreign is_unsafe abi attrs (items ys))
    ∙ ap (λ (zs : List Item). views.roll-ItemKind (ItemKind-F.Foreign is_unsafe abi attrs zs)) (items_erased ys))
kind_step (ItemKind-F.MacroRules name rules) =
    like_kind (kind.MacroRules name rules) _ _ _ (laws.rules_is name rules) refl refl (λ s. refl)
    (kind_out (ItemKind-F.MacroRules name rules) (kind.MacroRules name rules) (views.rolls-MacroRules name rules))
kind_step (ItemKind-F.ItemKind::Call call) =
    like_kind (kind.Call call) _ _ _ (laws.call_is call) refl refl (λ s. refl)
    (kind_out (ItemKind-F.ItemKind::Call call) (kind.Call call) (views.rolls-ItemKind::Call call))

-- ---- an item

abbrev of_kind : List Attr → Vis → ItemKind → Item
of_kind attrs vis k = record { attrs = attrs; vis = vis; kind = k }

abbrev item_node : List Attr → Vis → ItemKind → ItemNode
item_node attrs vis k = record { attrs = attrs; vis = vis; kind = k }

pub item_step : (y : Kept Item-F)
    → ItemGood (item_facts (item_shielded (item_layer y))) (item_shell true (item_layer y)) (views.roll-Item (item_without (item_layer y)))
item_step y =
    let k = enclose_kind true y.kind.0 in
    let told = laws.item_is (of_kind y.attrs y.vis k) in
    record {
      call = ap (λ (F : ItemFacts). F.call) told ∙ y.kind.1.call;
      good = λ s.
          ap (λ (F : ItemFacts). F.good s) told
          ∙ ap₂ (λ (a b : Bool). are_attrs false y.attrs && is_vis y.vis && (a || is_inherited y.vis) && b) y.kind.1.head (y.kind.1.good s);
      erases =
          item_without_is (item_node y.attrs y.vis k) ∙ ap (λ (z : ItemKind). views.roll-Item (item_node y.attrs y.vis z)) y.kind.1.erases;
    }
