-- Kinds of items pass at each site where they are good, and so do items.
use Rattle.std.proofs.Common.{◌≡◌, List, [], ◌∷◌, true, false, ◌&&◌, ◌||◌, sym, refl, subst, map, Some, None, is_some}
use Rattle.std.specs.List.{list_all}
use Rattle.std.proofs.lemmas.Bool.{and_parts}
use Rattle.lay_form.specs.Form as form
use Rattle.lay_piece.specs.declared.kind.Delim.{Delim}
use Rattle.lay_piece.specs.declared.kind.Delim.TheVariants.{Paren, Bracket, Brace}
use Rattle.lay_form.specs.Form.{Blank, Done}
use Rattle.lay_form.specs.Notation.{behind_attrs}
use Rattle.lay_form.specs.Pieces.{are_pieces}
use Rattle.lay_node.specs.Words.{is_name}
use Rattle.lay_node.specs.nodes.Attr.{are_attrs, attr_form}
use Rattle.lay_node.specs.nodes.Call.{is_group, before_rules, call_form, end_form}
use Rattle.lay_node.specs.nodes.Heads.{HeadFacts, about_alias, about_enum, about_extern_crate, about_struct, about_union}
use Rattle.lay_node.specs.nodes.Vis.{is_vis}
use Rattle.lay_node.specs.tokens.Lists.{group_form}
use Rattle.lay_node.specs.declared.heads.Site.{Site}
use Rattle.lay_node.specs.declared.heads.Site.TheVariants as site
use Rattle.lay_node.specs.declared.tokens.Group.{Group}
use Rattle.lay_code.specs.nodes.Code.{about_block, about_expr, told_of_item, told_of_kind}
use Rattle.lay_code.specs.nodes.CodeFacts.{ItemFacts}
use Rattle.lay_code.specs.nodes.Item.{about_file_module, about_foreign, about_function, about_impl, about_import, about_module, about_trait, about_value, by_site, in_module, in_modules, is_inherited, item_forms, items_good, kind_facts, kind_form}
use Rattle.lay_code.specs.declared.item.Item.{Item}
use Rattle.lay_code.specs.declared.blocks.Stmt.TheOpen.{Item-F, ItemKind-F}
use Rattle.lay_code.specs.declared.blocks.Stmt.TheViews.{roll-Item, roll-ItemKind}
use Rattle.lay_code.proofs.nodes.ItemLaws.{item_is}
use Rattle.lay_code.proofs.nodes.Layers.{kind_is, kind_told}
use Rattle.lay_reparse.proofs.borders.Border.{Border}
use Rattle.lay_reparse.proofs.forms.Heads.{HeadPasses, seen_passes, extern_crate_passes, alias_passes, struct_passes, union_passes, enum_passes}
use Rattle.lay_reparse.proofs.forms.Passes.{plain}
use Rattle.lay_reparse.proofs.forms.Rules.{tables, From, ends, simple, fixed, part, level, with_outer}
use Rattle.lay_reparse.proofs.tokens.Rows.{opens_at}
use Rattle.lay_reparse.proofs.tokens.Within.{grouped}
use Rattle.lay_reparse.proofs.file.BlockKinds.{ItemPasses}
use Rattle.lay_reparse.proofs.file.CodeKept.{ItemIs, Kept, KeptItem, KindIs, item_layer, kind_layer}
use Rattle.lay_reparse.proofs.file.ItemHeads.{ItemsPass, KindPasses, import_passes, file_module_passes, module_passes, function_passes, value_passes, trait_passes, impl_passes, foreign_passes}
use Rattle.lay_reparse.proofs.file.Nodes.{behind_word, behind_raw, ends_line, word, outer_pieces, attrs_pass, call_passes}

-- ---- an item, by what it is

item_from : (i : Item) → KindPasses (told_of_kind i.kind) → ItemPasses (told_of_item i)
unfolding tables
item_from i k = subst ItemPasses (sym (item_is i)) (record {
  go = λ place g w.
      let x = told_of_kind i.kind in
      let kind = form.Part (kind_form i.vis x.head x.tail) Done in
      let attrs = map attr_form i.attrs in
      let q = outer_pieces attrs kind (and_parts (are_pieces (behind_attrs attrs kind)) true w).0 in
      let n1 = and_parts (are_attrs false i.attrs && is_vis i.vis && (is_some x.head || is_inherited i.vis))
      (x.good place) g in
      let n2 = and_parts (are_attrs false i.attrs && is_vis i.vis) (is_some x.head || is_inherited i.vis) n1.0 in
      let n3 = and_parts (are_attrs false i.attrs) (is_vis i.vis) n2.0 in
      let p = (and_parts (are_pieces (kind_form i.vis x.head x.tail)) true q.1).0 in
      level plain plain refl (with_outer attrs ends_line refl (attrs_pass false i.attrs n3.0 q.0)
      (part plain plain refl (k.go place i.vis n1.1 p) (ends refl)))
      (ends refl);
})

-- of each item of a list
abbrev told_of : List KeptItem → List ItemFacts
told_of ys = map told_of_item (map (λ (y : KeptItem). y.0) ys)

items_of : (place : Site) (ys : List KeptItem) → ItemsPass place (told_of ys)
items_of place [] = record { go = λ g w. tt }
items_of place (y ∷ ys) = record {
  go = λ g w.
      let n = and_parts ((told_of_item y.0).good place) (items_good place (told_of ys)) g in
      let p = and_parts (are_pieces (told_of_item y.0).form) (list_all are_pieces (item_forms (told_of ys))) w in
      (y.1.go place n.0 p.0, (items_of place ys).go n.1 p.1);
}

-- ---- macros, which have no head

-- what ends an item that is one, or that declares a macro
end_passes : (d : Delim) → From plain (end_form d) plain
unfolding tables
end_passes Paren = fixed refl (ends refl)
end_passes Bracket = fixed refl (ends refl)
end_passes Brace = ends refl

-- the rules of a macro, after its name
rules_pass : (b : Border) (rules : Group) → is_group rules ≡ true → simple b (Blank ∷ []) ≡ true → opens_at b Paren
    → opens_at b Bracket
    → From b (before_rules rules.delim (group_form rules (end_form rules.delim))) plain
rules_pass b rules g h p q = by rules.delim
  where
    by : (d : Delim)
        → From b (before_rules d (group_form (record { delim = d; tokens = rules.tokens }) (end_form d))) plain
    by Paren = grouped (record { delim = Paren; tokens = rules.tokens }) g p (end_passes Paren)
    by Bracket = grouped (record { delim = Bracket; tokens = rules.tokens }) g q (end_passes Bracket)
    by Brace = fixed h (grouped (record { delim = Brace; tokens = rules.tokens }) g (refl, refl) (end_passes Brace))

-- ---- kinds

-- a head in a module, and one of which the site decides
in_modules_pass : (x : HeadFacts) → HeadPasses x → KindPasses (in_modules x)
in_modules_pass x k = record { go = λ place v g w. seen_passes v x k (and_parts x.good (in_module place) g).0 w }

abbrev at_site : (Site → HeadFacts) → Site → HeadFacts
at_site x place = record { head = (x site.Module).head; tail = (x site.Module).tail; good = (x place).good }

by_site_passes : (x : Site → HeadFacts) → ((place : Site) → HeadPasses (at_site x place)) → KindPasses (by_site x)
by_site_passes x k = record { go = λ place v g w. seen_passes v (at_site x place) (k place) g w }

layer_passes : (y : Kept ItemKind-F) → KindPasses (kind_facts (kind_told (kind_layer y)))
unfolding tables
layer_passes (ItemKind-F.ExternCrate x) = in_modules_pass (about_extern_crate x) (extern_crate_passes x)
layer_passes (ItemKind-F.Import tree) = in_modules_pass (about_import tree) (import_passes tree)
layer_passes (ItemKind-F.FileModule name) = in_modules_pass (about_file_module name) (file_module_passes name)
layer_passes (ItemKind-F.Module name attrs ys) =
    in_modules_pass (about_module name attrs (told_of ys))
    (module_passes name attrs (told_of ys) (items_of site.Module ys))
layer_passes (ItemKind-F.Function head wheres None) =
    by_site_passes (λ place. about_function place head wheres None)
    (λ place. function_passes place head wheres None tt)
layer_passes (ItemKind-F.Function head wheres (Some b)) =
    by_site_passes (λ place. about_function place head wheres (Some (about_block b.0)))
    (λ place. function_passes place head wheres (Some (about_block b.0)) b.1)
layer_passes (ItemKind-F.Alias x) = by_site_passes (λ place. about_alias place x) (λ place. alias_passes place x)
layer_passes (ItemKind-F.ItemKind::Struct x) = in_modules_pass (about_struct x) (struct_passes x)
layer_passes (ItemKind-F.Union x) = in_modules_pass (about_union x) (union_passes x)
layer_passes (ItemKind-F.Enum x) = in_modules_pass (about_enum x) (enum_passes x)
layer_passes (ItemKind-F.Value head None) =
    by_site_passes (λ place. about_value place head None) (λ place. value_passes place head None tt)
layer_passes (ItemKind-F.Value head (Some x)) =
    by_site_passes (λ place. about_value place head (Some (about_expr x.0)))
    (λ place. value_passes place head (Some (about_expr x.0)) x.1)
layer_passes (ItemKind-F.Trait head wheres attrs ys) =
    in_modules_pass (about_trait head wheres attrs (told_of ys))
    (trait_passes head wheres attrs (told_of ys) (items_of site.TraitMember ys))
layer_passes (ItemKind-F.Impl head wheres attrs ys) =
    in_modules_pass (about_impl head wheres attrs (told_of ys))
    (impl_passes head wheres attrs (told_of ys) (items_of site.Member ys))
layer_passes (ItemKind-F.Foreign is_unsafe abi attrs ys) =
    in_modules_pass (about_foreign is_unsafe abi attrs (told_of ys))
    (foreign_passes is_unsafe abi attrs (told_of ys) (items_of site.Foreign ys))
layer_passes (ItemKind-F.MacroRules name rules) = record {
  go = λ place v g w.
      let n = (and_parts (is_name name.raw name.text && is_group rules) (in_module place) g).0 in
      let l = (and_parts (is_name name.raw name.text) (is_group rules) n).1 in
      fixed refl (word name.raw name.text refl w (rules_pass behind_word rules l refl (refl, refl) (refl, refl))
      (rules_pass behind_raw rules l refl (refl, refl) (refl, refl)));
}
layer_passes (ItemKind-F.ItemKind::Call call) = record {
  go = λ place v g w.
      part plain plain refl
      (call_passes call g (and_parts (are_pieces (call_form call)) (are_pieces (end_form call.tokens.delim)) w).0)
      (end_passes call.tokens.delim);
}

pub kind_step : (y : Kept ItemKind-F) → KindIs (roll-ItemKind (kind_layer y))
kind_step y = subst KindPasses (sym (kind_is (kind_layer y))) (layer_passes y)

pub item_step : (y : Kept Item-F) → ItemIs (roll-Item (item_layer y))
item_step y = item_from _ y.kind.1
