-- Items that are enclosed.
use Rattle.std.proofs.Common.{◌≡◌, ◌+◌, ◌*◌, ◌≤◌, inl, inr, true, map, Some, None, refl, ap, arith}
use Rattle.lay_code.specs.declared.blocks.Stmt.TheOpen.{Item-F, ItemKind-F}
use Rattle.lay_code.specs.declared.blocks.Stmt.TheViews as views
use Rattle.lay_code.specs.declared.item.ItemKind.{ItemKind}
use Rattle.lay_code.specs.declared.item.ItemKind.TheVariants as kind
use Rattle.lay_paren_defs.specs.Enclosed.{enclose_block, enclose_item, item_shell, kind_shell, part}
use Rattle.lay_depth.proofs.ItemLemmas as of
use Rattle.lay_paren.proofs.loose_laws_lemmas.DepthKept.{AllDeep, item_depth, item_layer, kind_depth, kind_layer}
use Rattle.lay_paren.proofs.loose_laws_lemmas.DepthParts.{items, items_deep, part_deep}

-- one with no part that is enclosed
leaf_step : (x y : ItemKind) → y ≡ x → kind_depth x ≤ 2 * kind_depth y + 1
leaf_step x y is = let m = ap kind_depth is in omega (arith, m)

pub kind_step : (y : AllDeep ItemKind-F) → kind_depth (kind_shell true (kind_layer y)) ≤ 2 * kind_depth (views.roll-ItemKind (kind_layer y)) + 1
kind_step (ItemKind-F.ExternCrate x) = leaf_step (kind.ExternCrate x) (views.roll-ItemKind (ItemKind-F.ExternCrate x)) (views.rolls-ExternCrate x)
kind_step (ItemKind-F.Import tree) = leaf_step (kind.Import tree) (views.roll-ItemKind (ItemKind-F.Import tree)) (views.rolls-Import tree)
kind_step (ItemKind-F.FileModule name) = leaf_step (kind.FileModule name) (views.roll-ItemKind (ItemKind-F.FileModule name)) (views.rolls-FileModule name)
kind_step (ItemKind-F.Alias x) = leaf_step (kind.Alias x) (views.roll-ItemKind (ItemKind-F.Alias x)) (views.rolls-Alias x)
kind_step (ItemKind-F.ItemKind::Struct x) = leaf_step (kind.Struct x) (views.roll-ItemKind (ItemKind-F.ItemKind::Struct x)) (views.rolls-ItemKind::Struct x)
kind_step (ItemKind-F.Union x) = leaf_step (kind.Union x) (views.roll-ItemKind (ItemKind-F.Union x)) (views.rolls-Union x)
kind_step (ItemKind-F.Enum x) = leaf_step (kind.Enum x) (views.roll-ItemKind (ItemKind-F.Enum x)) (views.rolls-Enum x)
kind_step (ItemKind-F.MacroRules name rules) = leaf_step (kind.MacroRules name rules) (views.roll-ItemKind (ItemKind-F.MacroRules name rules)) (views.rolls-MacroRules name rules)
kind_step (ItemKind-F.ItemKind::Call call) = leaf_step (kind.Call call) (views.roll-ItemKind (ItemKind-F.ItemKind::Call call)) (views.rolls-ItemKind::Call call)
kind_step (ItemKind-F.Module name attrs all) =
    let before = of.listed_is _ (items all) (inl (name, attrs, (views.rolls-Module name attrs (items all)))) in
    let now = of.listed_is _ (map (enclose_item true) (items all)) (inl (name, attrs, refl)) in
    let m = items_deep all in
    omega (arith, before, now, m)
kind_step (ItemKind-F.Function head wheres None) =
    let before = of.function_is _ head wheres None (views.rolls-Function head wheres None) in
    let now = of.function_is _ head wheres None refl in
    omega (arith, before, now)
kind_step (ItemKind-F.Function head wheres (Some b)) =
    let before = of.function_is _ head wheres (Some b.0) (views.rolls-Function head wheres (Some b.0)) in
    let now = of.function_is _ head wheres (Some (enclose_block true b.0)) refl in
    let m = b.1 in
    omega (arith, before, now, m)
kind_step (ItemKind-F.Value head None) =
    let before = of.valued_is _ head None (views.rolls-Value head None) in
    let now = of.valued_is _ head None refl in
    omega (arith, before, now)
kind_step (ItemKind-F.Value head (Some x)) =
    let before = of.valued_is _ head (Some x.0) (views.rolls-Value head (Some x.0)) in
    let now = of.valued_is _ head (Some (part true x.0)) refl in
    let m = part_deep x in
    omega (arith, before, now, m)
kind_step (ItemKind-F.Trait head wheres attrs all) =
    let before = of.trait_is _ head wheres attrs (items all) (views.rolls-Trait head wheres attrs (items all)) in
    let now = of.trait_is _ head wheres attrs (map (enclose_item true) (items all)) refl in
    let m = items_deep all in
    omega (arith, before, now, m)
kind_step (ItemKind-F.Impl head wheres attrs all) =
    let before = of.impl_is _ head wheres attrs (items all) (views.rolls-Impl head wheres attrs (items all)) in
    let now = of.impl_is _ head wheres attrs (map (enclose_item true) (items all)) refl in
    let m = items_deep all in
    omega (arith, before, now, m)
kind_step (ItemKind-F.Foreign is_unsafe abi attrs all) =
    let before = of.listed_is _ (items all) (inr (is_unsafe, abi, attrs, (views.rolls-Foreign is_unsafe abi attrs (items all)))) in
    let now = of.listed_is _ (map (enclose_item true) (items all)) (inr (is_unsafe, abi, attrs, refl)) in
    let m = items_deep all in
    omega (arith, before, now, m)

pub item_step : (y : AllDeep Item-F) → item_depth (item_shell true (item_layer y)) ≤ 2 * item_depth (views.roll-Item (item_layer y)) + 1
item_step y =
    let before = of.item_is (views.roll-Item (item_layer y)) in
    let now = of.item_is (item_shell true (item_layer y)) in
    let m = y.kind.1 in
    omega (arith, before, now, m)
