-- What an item begins with, and so what a file does: no byte order mark, and no shebang.
use Rattle.std.proofs.Common.{◌≡◌, inr, inl, ◌⊎◌, List, [], ◌∷◌, ◌++◌, true, false, ◌&&◌, map, sym, refl, subst, codes}
use Rattle.std.proofs.lemmas.Bool.{and_parts}
use Rattle.lay_layout.specs.Document.{Empty}
use Rattle.lay_form.specs.Form.{Form, Done, Part, Deeper}
use Rattle.lay_form.specs.Layout.{laid_out}
use Rattle.lay_form.specs.Notation.{behind_attrs, lines}
use Rattle.lay_form.specs.Pieces.{are_pieces}
use Rattle.lay_node.specs.nodes.Attr.{attr_form}
use Rattle.lay_node.specs.nodes.Call.{call_form, end_form}
use Rattle.lay_node.specs.nodes.Facts.{forms}
use Rattle.lay_node.specs.nodes.Heads.{HeadFacts, about_alias, about_enum, about_extern_crate, about_struct, about_union}
use Rattle.lay_node.specs.declared.attr.Attr.{Attr}
use Rattle.lay_node.specs.declared.heads.Site.TheVariants as site
use Rattle.lay_node.specs.declared.vis.Vis.{Vis}
use Rattle.lay_code.specs.nodes.File.{form_of_file}
use Rattle.lay_code.specs.nodes.Code.{about_item, told_of_item, told_of_kind}
use Rattle.lay_code.specs.nodes.CodeFacts.{ItemFacts, KindFacts}
use Rattle.lay_code.specs.nodes.Exprs.{KindLayer, value_form}
use Rattle.lay_code.specs.nodes.Item.{about_file_module, about_foreign, about_function, about_impl, about_import, about_module, about_trait, about_value, in_modules, kind_facts, kind_form}
use Rattle.lay_code.specs.declared.file.File.{File}
use Rattle.lay_code.specs.declared.item.Item.{Item}
use Rattle.lay_code.specs.declared.item.ItemKind.{ItemKind}
use Rattle.lay_code.specs.declared.blocks.Stmt.TheOpen.{ItemKind-F}
use Rattle.lay_code.specs.declared.blocks.Stmt.TheViews.{out-ItemKind, roll-out-ItemKind}
use Rattle.lay_code.proofs.nodes.ItemLaws.{item_is}
use Rattle.lay_code.proofs.nodes.Layers.{kind_is}
use Rattle.lay_reparse.proofs.file.FirstText.{Fair, first_text, low_fair, attr_fair, call_fair}
use Rattle.lay_reparse.proofs.forms.HeadsFirst.{BeginsFair, seen_fair, extern_crate_fair, alias_fair, struct_fair, union_fair, enum_fair, value_head_fair, unsafe_fair, trait_head_fair, impl_head_fair, fn_head_fair}

-- the facts about a kind of item, after each visibility, where it is made of pieces
record KindFair (x : KindFacts) : Type 0 where
  go : (v : Vis) → are_pieces (kind_form v x.head x.tail) ≡ true → BeginsFair (kind_form v x.head x.tail)

in_modules_fair : (x : HeadFacts) → BeginsFair x.head → KindFair (in_modules x)
in_modules_fair x k = record { go = λ v w. seen_fair v x k }

layer_fair : (y : KindLayer) → KindFair (kind_facts y)
layer_fair (ItemKind-F.ExternCrate x) = in_modules_fair (about_extern_crate x) (extern_crate_fair x)
layer_fair (ItemKind-F.Import tree) =
    in_modules_fair (about_import tree) (λ d. low_fair (codes "use ") refl (λ r. refl) (λ r. refl))
layer_fair (ItemKind-F.FileModule name) =
    in_modules_fair (about_file_module name) (λ d. low_fair (codes "mod ") refl (λ r. refl) (λ r. refl))
layer_fair (ItemKind-F.Module name attrs items) =
    in_modules_fair (about_module name attrs items) (λ d. low_fair (codes "mod ") refl (λ r. refl) (λ r. refl))
layer_fair (ItemKind-F.Function head wheres body) =
    record { go = λ v w. seen_fair v (about_function site.Module head wheres body) (fn_head_fair head) }
layer_fair (ItemKind-F.Alias x) =
    record { go = λ v w. seen_fair v (about_alias site.Module x) (alias_fair site.Module x) }
layer_fair (ItemKind-F.ItemKind::Struct x) = in_modules_fair (about_struct x) (struct_fair x)
layer_fair (ItemKind-F.Union x) = in_modules_fair (about_union x) (union_fair x)
layer_fair (ItemKind-F.Enum x) = in_modules_fair (about_enum x) (enum_fair x)
layer_fair (ItemKind-F.Value head value) =
    record { go = λ v w. seen_fair v (about_value site.Module head value) (value_head_fair head (value_form value)) }
layer_fair (ItemKind-F.Trait head wheres attrs items) =
    in_modules_fair (about_trait head wheres attrs items) (trait_head_fair head)
layer_fair (ItemKind-F.Impl head wheres attrs items) =
    in_modules_fair (about_impl head wheres attrs items) (impl_head_fair head)
layer_fair (ItemKind-F.Foreign is_unsafe abi attrs items) =
    in_modules_fair (about_foreign is_unsafe abi attrs items)
    (unsafe_fair is_unsafe _ (λ d. low_fair (codes "extern") refl (λ r. refl) (λ r. refl)))
layer_fair (ItemKind-F.MacroRules name rules) =
    record { go = λ v w d. low_fair (codes "macro_rules! ") refl (λ r. refl) (λ r. refl) }
layer_fair (ItemKind-F.ItemKind::Call call) = record {
  go = λ v w d.
      call_fair call _ (and_parts (are_pieces (call_form call)) (are_pieces (end_form call.tokens.delim)) w).0;
}

kind_fair : (k : ItemKind) → KindFair (told_of_kind k)
kind_fair k = subst (λ z. KindFair (told_of_kind z)) (roll-out-ItemKind k)
    (subst KindFair (sym (kind_is (out-ItemKind k))) (layer_fair _))

-- the facts about an item, where it is made of pieces
record ItemFair (x : ItemFacts) : Type 0 where
  go : are_pieces x.form ≡ true → BeginsFair x.form

item_fair : (i : Item) → ItemFair (told_of_item i)
item_fair i = subst ItemFair (sym (item_is i)) (record { go = at i.attrs })
  where
    kind : Form
    kind = kind_form i.vis (told_of_kind i.kind).head (told_of_kind i.kind).tail

    at : (attrs : List Attr) → are_pieces (Deeper (behind_attrs (map attr_form attrs) (Part kind Done)) Done) ≡ true
        → BeginsFair (Deeper (behind_attrs (map attr_form attrs) (Part kind Done)) Done)
    at [] w d = (kind_fair i.kind).go i.vis
        (and_parts (are_pieces kind) true (and_parts (are_pieces kind && true) true w).0).0 _
    at (a ∷ attrs) w d = attr_fair a _

-- the layout of a file is empty, or begins fairly
pub file_fair : (file : File) → are_pieces (form_of_file file) ≡ true
    → (laid_out false (form_of_file file) Empty ≡ Empty)
    ⊎ Fair (first_text (laid_out false (form_of_file file) Empty))
file_fair file = at file.attrs file.items
  where
    at : (attrs : List Attr) (items : List Item)
        → are_pieces (lines (map attr_form attrs ++ forms (map (about_item site.Module) items))) ≡ true
        → (laid_out false (lines (map attr_form attrs ++ forms (map (about_item site.Module) items))) Empty ≡ Empty)
        ⊎ Fair (first_text
        (laid_out false (lines (map attr_form attrs ++ forms (map (about_item site.Module) items))) Empty))
    at (a ∷ attrs) items w = inr (attr_fair a _)
    at [] (i ∷ items) w = inr ((item_fair i).go (and_parts (are_pieces (told_of_item i).form) _ w).0 _)
    at [] [] w = inl refl
