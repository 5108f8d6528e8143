-- Layers of items and of their kinds tell their units, where the nodes within them do.
use Rattle.std.proofs.Common.{◌≡◌, List, true, ◌&&◌, sym, subst, map, Some, None}
use Rattle.std.proofs.lemmas.Bool.{and_parts}
use Rattle.lay_node.specs.Words.{is_name}
use Rattle.lay_node.specs.nodes.Call.{is_group}
use Rattle.lay_node.specs.nodes.Heads.{HeadFacts, about_alias, about_enum, about_extern_crate, about_struct, about_union}
use Rattle.lay_node.specs.declared.heads.Site.{Site}
use Rattle.lay_node.specs.declared.heads.Site.TheVariants as site
use Rattle.lay_code.specs.nodes.Code.{about_block, about_expr, told_of_item, told_of_kind}
use Rattle.lay_code.specs.nodes.CodeFacts.{ItemFacts}
use Rattle.lay_code.specs.nodes.Item.{about_file_module, about_foreign, about_function, about_impl, about_import, about_module, about_trait, about_value, by_site, in_module, in_modules, kind_facts}
use Rattle.lay_code.specs.declared.item.Item.{Item}
use Rattle.lay_code.specs.declared.blocks.Stmt.TheOpen.{Item-F, ItemKind-F}
use Rattle.lay_code.specs.declared.blocks.Stmt.TheViews.{roll-Item, roll-ItemKind}
use Rattle.lay_code.proofs.nodes.ItemLaws.{item_is}
use Rattle.lay_code.proofs.nodes.Layers.{kind_is, kind_told}
use Rattle.lay_map.proofs.nodes.BlockKinds.{ItemTells}
use Rattle.lay_map.proofs.nodes.CodeKept.{ItemIs, Kept, KeptItem, KindIs, item_layer, kind_layer}
use Rattle.lay_map.proofs.nodes.Heads.{HeadTells, alias_tells, enum_tells, extern_crate_tells, struct_tells, union_tells}
use Rattle.lay_map.proofs.nodes.ItemKinds.{KindTells, call_sound, file_module_tells, foreign_kind, function_kind, headed, impl_kind, import_tells, item_tells, module_kind, rules_sound, trait_kind, value_kind}
use Rattle.lay_map.proofs.nodes.Types.{kept}

-- of each item of a list
abbrev told_of : List KeptItem → List ItemFacts
told_of ys = map told_of_item (map (λ (y : KeptItem). y.0) ys)

-- a head in a module, and one of which the site decides
moduled : (x : HeadFacts) → (x.good ≡ true → HeadTells x) → KindTells (in_modules x)
moduled x k = record { go = λ place v g h. headed x (k (and_parts x.good (in_module place) g).0) v h }

-- At each site it is the same but for where it may stand.
abbrev at_site : (Site → HeadFacts) → Site → HeadFacts
at_site x place = record { head = (x site.Module).head; tail = (x site.Module).tail; good = (x place).good }

sited : (x : Site → HeadFacts) → ((place : Site) → (x place).good ≡ true → HeadTells (at_site x place)) → KindTells (by_site x)
sited x k = record { go = λ place v g h. headed (at_site x place) (k place g) v h }

layer_tells : (y : Kept ItemKind-F) → KindTells (kind_facts (kind_told (kind_layer y)))
layer_tells (ItemKind-F.ExternCrate x) = moduled (about_extern_crate x) (λ g. extern_crate_tells x)
layer_tells (ItemKind-F.Import tree) = moduled (about_import tree) (λ g. import_tells tree)
layer_tells (ItemKind-F.FileModule name) = moduled (about_file_module name) (λ g. file_module_tells name)
layer_tells (ItemKind-F.Module name attrs ys) = moduled (about_module name attrs (told_of ys)) (module_kind name attrs (told_of ys) (kept ItemTells told_of_item ys))
layer_tells (ItemKind-F.Function head wheres None) =
    sited (λ place. about_function place head wheres None) (λ place g. function_kind place head wheres None tt g)
layer_tells (ItemKind-F.Function head wheres (Some b)) =
    sited (λ place. about_function place head wheres (Some (about_block b.0))) (λ place g. function_kind place head wheres (Some (about_block b.0)) b.1 g)
layer_tells (ItemKind-F.Alias x) = sited (λ place. about_alias place x) (λ place g. alias_tells place x g)
layer_tells (ItemKind-F.ItemKind::Struct x) = moduled (about_struct x) (struct_tells x)
layer_tells (ItemKind-F.Union x) = moduled (about_union x) (union_tells x)
layer_tells (ItemKind-F.Enum x) = moduled (about_enum x) (enum_tells x)
layer_tells (ItemKind-F.Value head None) = sited (λ place. about_value place head None) (λ place g. value_kind place head None tt g)
layer_tells (ItemKind-F.Value head (Some x)) =
    sited (λ place. about_value place head (Some (about_expr x.0))) (λ place g. value_kind place head (Some (about_expr x.0)) x.1 g)
layer_tells (ItemKind-F.Trait head wheres attrs ys) =
    moduled (about_trait head wheres attrs (told_of ys)) (trait_kind head wheres attrs (told_of ys) (kept ItemTells told_of_item ys))
layer_tells (ItemKind-F.Impl head wheres attrs ys) =
    moduled (about_impl head wheres attrs (told_of ys)) (impl_kind head wheres attrs (told_of ys) (kept ItemTells told_of_item ys))
layer_tells (ItemKind-F.Foreign is_unsafe abi attrs ys) =
    moduled (about_foreign is_unsafe abi attrs (told_of ys)) (foreign_kind is_unsafe abi attrs (told_of ys) (kept ItemTells told_of_item ys))
layer_tells (ItemKind-F.MacroRules name rules) = record {
  go = λ place v g h.
      let n = (and_parts (is_name name.raw name.text && is_group rules) (in_module place) g).0 in
      rules_sound name rules (and_parts (is_name name.raw name.text) (is_group rules) n).1;
}
layer_tells (ItemKind-F.ItemKind::Call call) = record { go = λ place v g h. call_sound call g }

pub kind_step : (y : Kept ItemKind-F) → KindIs (roll-ItemKind (kind_layer y))
kind_step y = subst KindTells (sym (kind_is (kind_layer y))) (layer_tells y)

item_from : (i : Item) → KindTells (told_of_kind i.kind) → ItemTells (told_of_item i)
item_from i k = subst ItemTells (sym (item_is i)) (item_tells i.attrs i.vis (told_of_kind i.kind) k)

pub item_step : (y : Kept Item-F) → ItemIs (roll-Item (item_layer y))
item_step y = item_from _ y.kind.1
