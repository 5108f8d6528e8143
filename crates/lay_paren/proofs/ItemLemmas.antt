-- Items.
use Rattle.std.proofs.Common.{◌≡◌, Bool, true, false, ◌&&◌, ◌||◌, is_some, List, [], ◌∷◌, map, Option, Some, None, option_map, refl, sym, ap, ap₂, subst, ◌∙◌}
use Rattle.std.proofs.lemmas.Bool.{and_parts, and_from}
use Rattle.lay_node.specs.Words.{is_name}
use Rattle.lay_node.specs.nodes.Attr.{are_attrs}
use Rattle.lay_node.specs.nodes.Functions.{is_fn_head}
use Rattle.lay_node.specs.nodes.Heads.{is_impl_head, is_trait_head, is_value_head}
use Rattle.lay_node.specs.nodes.Types.{is_abi_name}
use Rattle.lay_node.specs.nodes.Vis.{is_vis}
use Rattle.lay_node.specs.nodes.Where.{are_predicates}
use Rattle.lay_node.specs.declared.attr.Attr.{Attr}
use Rattle.lay_node.specs.declared.heads.Site.{Site}
use Rattle.lay_node.specs.declared.heads.Site.TheVariants as site
use Rattle.lay_node.specs.declared.vis.Vis.{Vis}
use Rattle.lay_code.specs.nodes.Code.{about_block, about_expr, told_of_item, told_of_kind}
use Rattle.lay_code.specs.nodes.CodeFacts.{ItemFacts, KindFacts}
use Rattle.lay_code.specs.nodes.Exprs.{placed}
use Rattle.lay_code.specs.nodes.Item.{in_module, is_inherited, item_facts, items_good, kind_facts, may_be_bodied, may_be_valued}
use Rattle.lay_code.specs.nodes.Layers.{ItemNode}
use Rattle.lay_code.specs.nodes.Places.{FREE}
use Rattle.lay_code.specs.declared.blocks.Block.{Block}
use Rattle.lay_code.specs.declared.blocks.Stmt.TheOpen.{Item-F, ItemKind-F}
use Rattle.lay_code.specs.declared.blocks.Stmt.TheViews as views
use Rattle.lay_code.specs.declared.exprs.Expr.{Expr}
use Rattle.lay_code.specs.declared.item.Item.{Item}
use Rattle.lay_code.specs.declared.item.ItemKind.{ItemKind}
use Rattle.lay_code.specs.declared.item.ItemKind.TheVariants as kind
use Rattle.lay_code.proofs.nodes.ItemLaws as laws
use Rattle.lay_paren_defs.specs.loose.Slots.{Any}
use Rattle.lay_paren.specs.Least.{made_of}
use Rattle.lay_paren.specs.Made.{Made, all, kept, one}
use Rattle.lay_paren.specs.Parts.{item_made, kind_made}
use Rattle.lay_paren.proofs.Choice.{Sure, any, kept_sure, list_sure, one_sure}
use Rattle.lay_paren.proofs.ErasedFolds.{item_erased, item_without, item_without_is, kind_erased, kind_without, kind_without_is}
use Rattle.lay_paren.proofs.ExprNeeded.{else_block, some_sure}
use Rattle.lay_paren.proofs.ExprStands.{lowest, nodes_stand, part_stands}
use Rattle.lay_paren.proofs.Kept.{ItemGood, ItemIs, Kept, KeptItem, KindGood, item_layer, kind_layer}
use Rattle.lay_paren.proofs.LooseFolds.{item_shielded, kind_shielded, loose_item}
use Rattle.lay_paren.specs.Nodes.{item_parts, kind_parts, made_block, made_item, made_kind}
use Rattle.lay_paren.proofs.Within.{maybe_written}

-- ---- items in a list

abbrev item_trees : List KeptItem → List Item
item_trees ys = map (λ (y : KeptItem). y.0) ys

abbrev made_items : List KeptItem → Made (List Item)
made_items ys = all (map made_item (item_trees ys))

abbrev all_items : Site → List Item → Bool
all_items s xs = items_good s (map told_of_item xs)

items_stand : (s : Site) (ys : List KeptItem) → items_good s (map loose_item (item_trees ys)) ≡ true → all_items s (made_items ys).result ≡ true
items_stand s ys =
    nodes_stand ItemIs loose_item made_item told_of_item (λ (F : ItemFacts). F.good s) (λ (F : ItemFacts). F.good s) (λ x is. is.good s) ys

items_needed : (s : Site) (ys : List KeptItem) → Sure (all_items s) (made_items ys) (item_trees ys)
items_needed s ys =
    list_sure {Is = ItemIs} (λ (x : Item). (told_of_item x).good s) (all_items s) (λ x xs h. and_parts _ _ h) made_item (λ x is. is.needed s) ys

items_erased : (ys : List KeptItem) → map item_erased (made_items ys).result ≡ map item_erased (item_trees ys)
items_erased [] = refl
items_erased (y ∷ ys) = ap₂ (λ x xs. x ∷ xs) y.1.erases (items_erased ys)

-- ---- what an item is

kind_is : (x : ItemKind) (F : KindFacts) (s : Site) → told_of_kind x ≡ F → F.good s ≡ true → (told_of_kind x).good s ≡ true
kind_is x F s e h = subst (λ (G : KindFacts). G.good s ≡ true) (sym e) h

is_kind : (x : ItemKind) (F : KindFacts) (s : Site) → told_of_kind x ≡ F → (told_of_kind x).good s ≡ true → F.good s ≡ true
is_kind x F s e h = subst (λ (G : KindFacts). G.good s ≡ true) e h

abbrev good_kind : Site → ItemKind → Bool
good_kind s x = (told_of_kind x).good s

-- one without expressions
leaf : (x : ItemKind) (F : KindFacts) (node : ItemKind) → told_of_kind x ≡ F → node ≡ x → kind_erased x ≡ node → KindGood F (kept x) node node
leaf x F node e rolls k = record {
  head = ap (λ (G : KindFacts). is_some G.head) e;
  call = ap (λ (G : KindFacts). G.call) e;
  good = λ s. kind_is x F s e;
  needed = λ s. subst (λ (z : ItemKind). Sure (good_kind s) (kept x) z) (sym rolls) (kept_sure (good_kind s) x);
  erases = k;
}

-- one with a part
with_part : {A : Type 0} (f : A → ItemKind) (F : A → KindFacts) (m : Made A) (x : A) (loose : KindFacts) (erased node : ItemKind) (part : Site → A → Bool)
    → ((x : A) → told_of_kind (f x) ≡ F x) → is_some (F m.result).head ≡ is_some loose.head → (F m.result).call ≡ loose.call
    → ((s : Site) → loose.good s ≡ true → (F m.result).good s ≡ true) → ((s : Site) (x : A) → (F x).good s ≡ true → part s x ≡ true)
    → ((s : Site) → Sure (part s) m x) → node ≡ f x → kind_erased (f m.result) ≡ erased → KindGood loose (one f m) erased node
with_part f F m x loose erased node part is head call stand down sure rolls erases = record {
  head = ap (λ (G : KindFacts). is_some G.head) (is m.result) ∙ head;
  call = ap (λ (G : KindFacts). G.call) (is m.result) ∙ call;
  good = λ s h. kind_is (f m.result) (F m.result) s (is m.result) (stand s h);
  needed = λ s.
      subst (λ (z : ItemKind). Sure (good_kind s) (one f m) z) (sym rolls)
      (one_sure (part s) (good_kind s) f (λ z h. down s z (is_kind (f z) (F z) s (is z) h)) m x (sure s));
  erases = erases;
}

abbrev KindStep : Kept ItemKind-F → Type 0
KindStep y = KindGood (kind_facts (kind_shielded (kind_layer y))) (kind_made (kind_parts (kind_layer y)))
    (views.roll-ItemKind (kind_without (kind_layer y))) (views.roll-ItemKind (kind_layer y))

pub kind_step : (y : Kept ItemKind-F) → KindStep y
kind_step (ItemKind-F.ExternCrate x) =
    leaf (kind.ExternCrate x) (kind_facts (ItemKind-F.ExternCrate x)) (views.roll-ItemKind (ItemKind-F.ExternCrate x)) (laws.extern_crate_is x)
    (views.rolls-ExternCrate x)
    (ap kind_erased (sym (views.rolls-ExternCrate x)) ∙ kind_without_is (ItemKind-F.ExternCrate x))
kind_step (ItemKind-F.Import tree) =
    leaf (kind.Import tree) (kind_facts (ItemKind-F.Import tree)) (views.roll-ItemKind (ItemKind-F.Import tree)) (laws.import_is tree)
    (views.rolls-Import tree)
    (ap kind_erased (sym (views.rolls-Import tree)) ∙ kind_without_is (ItemKind-F.Import tree))
kind_step (ItemKind-F.FileModule name) =
    leaf (kind.FileModule name) (kind_facts (ItemKind-F.FileModule name)) (views.roll-ItemKind (ItemKind-F.FileModule name)) (laws.file_module_is name)
    (views.rolls-FileModule name)
    (ap kind_erased (sym (views.rolls-FileModule name)) ∙ kind_without_is (ItemKind-F.FileModule name))
kind_step (ItemKind-F.Module name attrs items) =
    let made = (made_items items).result in
    with_part (λ ys. kind.Module name attrs ys) (λ (ys : List Item). kind_facts (ItemKind-F.Module name attrs (map told_of_item ys))) (made_items items) (item_trees items)
    (kind_facts (ItemKind-F.Module name attrs (map loose_item (item_trees items))))
    (views.roll-ItemKind (ItemKind-F.Module name attrs (map item_erased (item_trees items)))) (views.roll-ItemKind (ItemKind-F.Module name attrs (item_trees items))) (λ s. all_items site.Module) (laws.module_is name attrs) refl refl
    (λ s h.
    let a = and_parts _ _ h in
    let b = and_parts _ _ a.0 in
    let given = is_name name.raw name.text && are_attrs true attrs in
    and_from (given && all_items site.Module made) (in_module s)
    (and_from given (all_items site.Module made) b.0 (items_stand site.Module items b.1)) a.1)
    (λ s ys h. (and_parts _ _ (and_parts _ _ h).0).1) (λ s. items_needed site.Module items)
    (views.rolls-Module name attrs (item_trees items))
    (ap kind_erased (sym (views.rolls-Module name attrs made)) ∙ kind_without_is (ItemKind-F.Module name attrs made)
    ∙ ap (λ (ys : List Item). views.roll-ItemKind (ItemKind-F.Module name attrs ys)) (items_erased items))
kind_step (ItemKind-F.Function head wheres None) =
    leaf (kind.Function head wheres None) (kind_facts (ItemKind-F.Function head wheres None)) (views.roll-ItemKind (ItemKind-F.Function head wheres None))
    (laws.function_is head wheres None)
    (views.rolls-Function head wheres None)
    (ap kind_erased (sym (views.rolls-Function head wheres None)) ∙ kind_without_is (ItemKind-F.Function head wheres None))
kind_step (ItemKind-F.Function head wheres (Some b)) =
    let made = (made_block b.0).result in
    with_part (λ o. kind.Function head wheres o) (λ (o : Option Block). kind_facts (ItemKind-F.Function head wheres (option_map about_block o)))
    (one Some (made_block b.0)) (Some b.0) (kind_facts (kind_shielded (kind_layer (ItemKind-F.Function head wheres (Some b)))))
    (views.roll-ItemKind (kind_without (kind_layer (ItemKind-F.Function head wheres (Some b)))))
    (views.roll-ItemKind (ItemKind-F.Function head wheres (Some b.0)))
    (λ s. else_block) (laws.function_is head wheres) refl refl
    (λ s h.
    let a = and_parts _ _ h in
    and_from (is_fn_head s head && are_predicates wheres && may_be_bodied s true) (about_block made).good a.0 (b.1.good a.1))
    (λ s o h. (and_parts _ _ h).1)
    (λ s. one_sure (λ (c : Block). (about_block c).good) else_block Some (λ c h. h) (made_block b.0) b.0 b.1.needed)
    (views.rolls-Function head wheres (Some b.0))
    (ap kind_erased (sym (views.rolls-Function head wheres (Some made))) ∙ kind_without_is (ItemKind-F.Function head wheres (Some made))
    ∙ ap (λ (c : Block). views.roll-ItemKind (ItemKind-F.Function head wheres (Some c))) b.1.erases)
kind_step (ItemKind-F.Alias x) =
    leaf (kind.Alias x) (kind_facts (ItemKind-F.Alias x)) (views.roll-ItemKind (ItemKind-F.Alias x)) (laws.alias_is x)
    (views.rolls-Alias x)
    (ap kind_erased (sym (views.rolls-Alias x)) ∙ kind_without_is (ItemKind-F.Alias x))
kind_step (ItemKind-F.ItemKind::Struct x) =
    leaf (kind.Struct x) (kind_facts (ItemKind-F.ItemKind::Struct x)) (views.roll-ItemKind (ItemKind-F.ItemKind::Struct x)) (laws.struct_is x)
    (views.rolls-ItemKind::Struct x)
    (ap kind_erased (sym (views.rolls-ItemKind::Struct x)) ∙ kind_without_is (ItemKind-F.ItemKind::Struct x))
kind_step (ItemKind-F.Union x) =
    leaf (kind.Union x) (kind_facts (ItemKind-F.Union x)) (views.roll-ItemKind (ItemKind-F.Union x)) (laws.union_is x)
    (views.rolls-Union x)
    (ap kind_erased (sym (views.rolls-Union x)) ∙ kind_without_is (ItemKind-F.Union x))
kind_step (ItemKind-F.Enum x) =
    leaf (kind.Enum x) (kind_facts (ItemKind-F.Enum x)) (views.roll-ItemKind (ItemKind-F.Enum x)) (laws.enum_is x)
    (views.rolls-Enum x)
    (ap kind_erased (sym (views.rolls-Enum x)) ∙ kind_without_is (ItemKind-F.Enum x))
kind_step (ItemKind-F.Value head None) =
    leaf (kind.Value head None) (kind_facts (ItemKind-F.Value head None)) (views.roll-ItemKind (ItemKind-F.Value head None)) (laws.value_is head None)
    (views.rolls-Value head None)
    (ap kind_erased (sym (views.rolls-Value head None)) ∙ kind_without_is (ItemKind-F.Value head None))
kind_step (ItemKind-F.Value head (Some x)) =
    let made = (made_of x.0 FREE Any).result in
    with_part (λ o. kind.Value head o) (λ (o : Option Expr). kind_facts (ItemKind-F.Value head (option_map about_expr o)))
    (one Some (made_of x.0 FREE Any)) (Some x.0) (kind_facts (kind_shielded (kind_layer (ItemKind-F.Value head (Some x)))))
    (views.roll-ItemKind (kind_without (kind_layer (ItemKind-F.Value head (Some x)))))
    (views.roll-ItemKind (ItemKind-F.Value head (Some x.0)))
    (λ s. maybe_written FREE Any) (laws.value_is head) refl refl
    (λ s h.
    let a = and_parts _ _ h in
    and_from (is_value_head head && may_be_valued s head true) (placed (about_expr made) FREE) a.0 (part_stands x FREE a.1 FREE Any lowest))
    value (λ s. some_sure FREE Any x tt) (views.rolls-Value head (Some x.0))
    (ap kind_erased (sym (views.rolls-Value head (Some made))) ∙ kind_without_is (ItemKind-F.Value head (Some made))
    ∙ ap (λ (z : Expr). views.roll-ItemKind (ItemKind-F.Value head (Some z))) (x.1.erases FREE Any))
  where
    value : (s : Site) (o : Option Expr) → (kind_facts (ItemKind-F.Value head (option_map about_expr o))).good s ≡ true → maybe_written FREE Any o ≡ true
    value s None h = refl
    value s (Some z) h = any (about_expr z) FREE (and_parts _ _ h).1
kind_step (ItemKind-F.Trait head wheres attrs items) =
    let made = (made_items items).result in
    with_part (λ ys. kind.Trait head wheres attrs ys) (λ (ys : List Item). kind_facts (ItemKind-F.Trait head wheres attrs (map told_of_item ys)))
    (made_items items) (item_trees items) (kind_facts (ItemKind-F.Trait head wheres attrs (map loose_item (item_trees items))))
    (views.roll-ItemKind (ItemKind-F.Trait head wheres attrs (map item_erased (item_trees items)))) (views.roll-ItemKind (ItemKind-F.Trait head wheres attrs (item_trees items))) (λ s. all_items site.TraitMember)
    (laws.trait_is head wheres attrs) refl refl
    (λ s h.
    let a = and_parts _ _ h in
    let b = and_parts _ _ a.0 in
    let given = is_trait_head head && are_predicates wheres && are_attrs true attrs in
    and_from (given && all_items site.TraitMember made) (in_module s)
    (and_from given (all_items site.TraitMember made) b.0 (items_stand site.TraitMember items b.1)) a.1)
    (λ s ys h. (and_parts _ _ (and_parts _ _ h).0).1) (λ s. items_needed site.TraitMember items)
    (views.rolls-Trait head wheres attrs (item_trees items))
    (ap kind_erased (sym (views.rolls-Trait head wheres attrs made)) ∙ kind_without_is (ItemKind-F.Trait head wheres attrs made)
    ∙ ap (λ (ys : List Item). views.roll-ItemKind (ItemKind-F.Trait head wheres attrs ys)) (items_erased items))
kind_step (ItemKind-F.Impl head wheres attrs items) =
    let made = (made_items items).result in
    with_part (λ ys. kind.Impl head wheres attrs ys) (λ (ys : List Item). kind_facts (ItemKind-F.Impl head wheres attrs (map told_of_item ys)))
    (made_items items) (item_trees items) (kind_facts (ItemKind-F.Impl head wheres attrs (map loose_item (item_trees items))))
    (views.roll-ItemKind (ItemKind-F.Impl head wheres attrs (map item_erased (item_trees items)))) (views.roll-ItemKind (ItemKind-F.Impl head wheres attrs (item_trees items))) (λ s. all_items site.Member)
    (laws.impl_is head wheres attrs) refl refl
    (λ s h.
    let a = and_parts _ _ h in
    let b = and_parts _ _ a.0 in
    let given = is_impl_head head && are_predicates wheres && are_attrs true attrs in
    and_from (given && all_items site.Member made) (in_module s)
    (and_from given (all_items site.Member made) b.0 (items_stand site.Member items b.1)) a.1)
    (λ s ys h. (and_parts _ _ (and_parts _ _ h).0).1) (λ s. items_needed site.Member items)
    (views.rolls-Impl head wheres attrs (item_trees items))
    (ap kind_erased (sym (views.rolls-Impl head wheres attrs made)) ∙ kind_without_is (ItemKind-F.Impl head wheres attrs made)
    ∙ ap (λ (ys : List Item). views.roll-ItemKind (ItemKind-F.Impl head wheres attrs ys)) (items_erased items))
kind_step (ItemKind-F.Foreign is_unsafe abi attrs items) =
    let made = (made_items items).result in
    with_part (λ ys. kind.Foreign is_unsafe abi attrs ys) (λ (ys : List Item). kind_facts (ItemKind-F.Foreign is_unsafe abi attrs (map told_of_item ys)))
    (made_items items) (item_trees items) (kind_facts (ItemKind-F.Foreign is_unsafe abi attrs (map loose_item (item_trees items))))
    (views.roll-ItemKind (ItemKind-F.Foreign is_unsafe abi attrs (map item_erased (item_trees items)))) (views.roll-ItemKind (ItemKind-F.Foreign is_unsafe abi attrs (item_trees items))) (λ s. all_items site.Foreign)
    (laws.foreign_is is_unsafe abi attrs) refl refl
    (λ s h.
    let a = and_parts _ _ h in
    let b = and_parts _ _ a.0 in
    let given = is_abi_name abi && are_attrs true attrs in
    and_from (given && all_items site.Foreign made) (in_module s)
    (and_from given (all_items site.Foreign made) b.0 (items_stand site.Foreign items b.1)) a.1)
    (λ s ys h. (and_parts _ _ (and_parts _ _ h).0).1) (λ s. items_needed site.Foreign items)
    (views.rolls-Foreign is_unsafe abi attrs (item_trees items))
    (ap kind_erased (sym (views.rolls-Foreign is_unsafe abi attrs made)) ∙ kind_without_is (ItemKind-F.Foreign is_unsafe abi attrs made)
    ∙ ap (λ (ys : List Item). views.roll-ItemKind (ItemKind-F.Foreign is_unsafe abi attrs ys)) (items_erased items))
kind_step (ItemKind-F.MacroRules name rules) =
    leaf (kind.MacroRules name rules) (kind_facts (ItemKind-F.MacroRules name rules)) (views.roll-ItemKind (ItemKind-F.MacroRules name rules))
    (laws.rules_is name rules) (views.rolls-MacroRules name rules)
    (ap kind_erased (sym (views.rolls-MacroRules name rules)) ∙ kind_without_is (ItemKind-F.MacroRules name rules))
kind_step (ItemKind-F.ItemKind::Call call) =
    leaf (kind.Call call) (kind_facts (ItemKind-F.ItemKind::Call call)) (views.roll-ItemKind (ItemKind-F.ItemKind::Call call)) (laws.call_is call)
    (views.rolls-ItemKind::Call call)
    (ap kind_erased (sym (views.rolls-ItemKind::Call call)) ∙ kind_without_is (ItemKind-F.ItemKind::Call call))

-- ---- an item

abbrev of_kind : List Attr → Vis → ItemKind → Item
of_kind attrs vis k = record { attrs = attrs; vis = vis; kind = k }

abbrev item_node : List Attr → Vis → ItemKind → ItemNode
item_node attrs vis k = record { attrs = attrs; vis = vis; kind = k }

module _ (attrs : List Attr) (vis : Vis) (s : Site) where
  abbrev item_test : KindFacts → Bool
  item_test F = are_attrs false attrs && is_vis vis && (is_some F.head || is_inherited vis) && F.good s

  item_good : (k : ItemKind) → (told_of_item (of_kind attrs vis k)).good s ≡ item_test (told_of_kind k)
  item_good k = ap (λ (F : ItemFacts). F.good s) (laws.item_is (of_kind attrs vis k))

abbrev ItemStep : Kept Item-F → Type 0
ItemStep y = ItemGood (item_facts (item_shielded (item_layer y))) (item_made (item_parts (item_layer y))) (views.roll-Item (item_without (item_layer y))) (views.roll-Item (item_layer y))

pub item_step : (y : Kept Item-F) → ItemStep y
item_step y =
    let made = (made_kind y.kind.0).result in
    let F = told_of_kind made in
    record {
      call = ap (λ (G : ItemFacts). G.call) (laws.item_is (of_kind y.attrs y.vis made)) ∙ y.kind.1.call;
      good = λ s h.
          let a = and_parts _ _ h in
          let b = and_parts _ _ a.0 in
          let given = are_attrs false y.attrs && is_vis y.vis in
          item_good y.attrs y.vis s made
          ∙ and_from (given && (is_some F.head || is_inherited y.vis)) (F.good s)
          (and_from given (is_some F.head || is_inherited y.vis) b.0 (ap (λ (c : Bool). c || is_inherited y.vis) y.kind.1.head ∙ b.1)) (y.kind.1.good s a.1);
      needed = λ s.
          one_sure (good_kind s) (λ (x : Item). (told_of_item x).good s) (of_kind y.attrs y.vis)
          (λ k h. (and_parts (are_attrs false y.attrs && is_vis y.vis && (is_some (told_of_kind k).head || is_inherited y.vis)) ((told_of_kind k).good s)
          (sym (item_good y.attrs y.vis s k) ∙ h)).1) (made_kind y.kind.0) y.kind.0 (y.kind.1.needed s);
      erases =
          item_without_is (item_node y.attrs y.vis made) ∙ ap (λ (k : ItemKind). views.roll-Item (item_node y.attrs y.vis k)) y.kind.1.erases;
    }
