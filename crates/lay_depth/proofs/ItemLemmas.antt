-- What items and files need.
use Rattle.std.proofs.Common.{◌≡◌, ◌∙◌, ◌⊎◌, inl, inr, ◌+◌, max, Bool, true, false, List, [], ◌∷◌, ◌++◌, map, option_map, Option, Some, None, refl, ap, arith, codes}
use Rattle.lay_piece.specs.declared.kind.Delim.{Delim}
use Rattle.lay_piece.specs.declared.kind.Delim.TheVariants.{Brace}
use Rattle.lay_form.specs.Depth.{least_depth}
use Rattle.lay_form.specs.Form.{Blank, Form, Done, LastComma, Optional, Part, Piece, comma, keyword}
use Rattle.lay_node.specs.nodes.Attr.{attr_form}
use Rattle.lay_node.specs.nodes.Call.{before_rules, end_form}
use Rattle.lay_node.specs.nodes.Facts.{forms}
use Rattle.lay_node.specs.nodes.Fields.{blank_if}
use Rattle.lay_node.specs.nodes.Functions.{fn_head_form}
use Rattle.lay_node.specs.nodes.Heads.{about_alias, about_enum, about_struct, about_union, impl_head_form, leads, trait_head_form, value_head_form}
use Rattle.lay_node.specs.nodes.Use.{about_use, rename_form}
use Rattle.lay_node.specs.nodes.Vis.{vis_form}
use Rattle.lay_node.specs.nodes.Where.{predicate_form, wheres_before_body, wheres_before_semicolon}
use Rattle.lay_node.specs.tokens.Lists.{group_form}
use Rattle.lay_node.specs.declared.attr.Attr.{Attr}
use Rattle.lay_node.specs.declared.functions.FnHead.{FnHead}
use Rattle.lay_node.specs.declared.generics.Wheres.{Wheres}
use Rattle.lay_node.specs.declared.heads.Alias.{Alias}
use Rattle.lay_node.specs.declared.heads.Enum.{Enum}
use Rattle.lay_node.specs.declared.heads.ExternCrate.{ExternCrate}
use Rattle.lay_node.specs.declared.heads.ImplHead.{ImplHead}
use Rattle.lay_node.specs.declared.heads.Site.TheVariants.{Module}
use Rattle.lay_node.specs.declared.heads.Struct.{Struct}
use Rattle.lay_node.specs.declared.heads.TraitHead.{TraitHead}
use Rattle.lay_node.specs.declared.heads.Union.{Union}
use Rattle.lay_node.specs.declared.heads.ValueHead.{ValueHead}
use Rattle.lay_node.specs.declared.token.Literal.{Literal}
use Rattle.lay_node.specs.declared.token.Name.{Name}
use Rattle.lay_node.specs.declared.tokens.Group.{Group}
use Rattle.lay_node.specs.declared.tokens.MacroCall.{MacroCall}
use Rattle.lay_node.specs.declared.use_tree.UseTree.{UseTree}
use Rattle.lay_node.specs.declared.vis.Vis.{Vis}
use Rattle.lay_node.specs.declared.vis.Vis.TheVariants as vis
use Rattle.lay_code.specs.nodes.Code.{about_block, about_item, form_of_item, told_of_item, told_of_kind}
use Rattle.lay_code.specs.nodes.CodeFacts.{ItemFacts, KindFacts}
use Rattle.lay_code.specs.nodes.File.{form_of_file}
use Rattle.lay_code.specs.nodes.Item.{foreign_abi, function_tail, item_body, item_forms, kind_form}
use Rattle.lay_code.specs.declared.blocks.Block.{Block}
use Rattle.lay_code.specs.declared.exprs.Expr.{Expr}
use Rattle.lay_code.specs.declared.file.File.{File}
use Rattle.lay_code.specs.declared.item.Item.{Item}
use Rattle.lay_code.specs.declared.item.ItemKind.{ItemKind}
use Rattle.lay_code.specs.declared.item.ItemKind.TheVariants as item
use Rattle.lay_code.proofs.nodes.ItemLaws as laws
use Rattle.lay_depth.specs.nodes.Depths.{counted, greatest, head_depth}
use Rattle.lay_depth.proofs.nodes_lemmas.UseLemmas.{rename_is}
use Rattle.lay_depth.proofs.nodes_lemmas.Forms.{attrs_are, behind_attrs_is, body_is, both_are, call_is, group_is, leaf_is, lines_are, predicates_are, simple_path_is, when_is}
use Rattle.lay_depth.specs.Parts.{block_if, expr_if, head_if, kind_need}
use Rattle.lay_depth.proofs.BlockLemmas.{block_form_is, value_is}

-- ---- items

vis_is : (v : Vis) → least_depth (vis_form v) ≡ 0
vis_is vis.Inherited = refl
vis_is vis.Public = refl
vis_is vis.Crate = refl
vis_is vis.Own = refl
vis_is vis.Super = refl
vis_is (vis.In path) = let m = simple_path_is path in omega (arith, m)

kind_form_is : (v : Vis) (head : Option Form) (tail : Form) → least_depth (kind_form v head tail) ≡ max (head_if head) (least_depth tail)
kind_form_is v None tail = omega arith
kind_form_is v (Some head) tail = let m = vis_is v in omega (arith, m)

-- An item needs one level more than what it is.
pub item_is : (one : Item) → least_depth (form_of_item one) ≡ kind_need one.kind + 1
item_is one =
    ap (λ (x : ItemFacts). least_depth x.form) (laws.item_is one)
    ∙ (let m = behind_attrs_is one.attrs (Part (kind_form one.vis (told_of_kind one.kind).head (told_of_kind one.kind).tail) Done) in
    let n = kind_form_is one.vis (told_of_kind one.kind).head (told_of_kind one.kind).tail in omega (arith, m, n))

-- ---- parts

before_body_is : (wheres : Wheres) → least_depth (wheres_before_body wheres) ≡ greatest (map predicate_form wheres.predicates)
before_body_is wheres = predicates_are (LastComma 1 Done) refl (map predicate_form wheres.predicates)

before_semicolon_is : (wheres : Wheres) → least_depth (wheres_before_semicolon wheres) ≡ greatest (map predicate_form wheres.predicates)
before_semicolon_is wheres = predicates_are (Optional false comma Done) refl (map predicate_form wheres.predicates)

items_are : (items : List Item) → greatest (item_forms (map told_of_item items)) ≡ greatest (map form_of_item items)
items_are [] = refl
items_are (one ∷ more) = let m = items_are more in omega (arith, m)

item_body_is : (lead : Bool) (attrs : List Attr) (items : List Item)
    → least_depth (item_body lead attrs (map told_of_item items)) ≡ greatest (map form_of_item items)
item_body_is lead attrs items =
    body_is (blank_if lead) [] (map attr_form attrs ++ item_forms (map told_of_item items))
    ∙ both_are (map attr_form attrs) (item_forms (map told_of_item items))
    ∙ (let m = attrs_are attrs in
    let n = items_are items in omega (arith, m, n))

function_tail_is : (wheres : Wheres) (body : Option Block)
    → least_depth (function_tail wheres (option_map about_block body)) ≡ max (greatest (map predicate_form wheres.predicates)) (block_if body)
function_tail_is wheres None = let m = before_semicolon_is wheres in omega (arith, m)
function_tail_is wheres (Some b) =
    let m = before_body_is wheres in
    let n = block_form_is b (leads wheres) in omega (arith, m, n)

abi_is : (abi : Option Literal) → least_depth (foreign_abi abi) ≡ 0
abi_is None = refl
abi_is (Some l) = refl

before_rules_is : (d : Delim) (f : Form) → least_depth (before_rules d f) ≡ least_depth f
before_rules_is Brace f = refl
before_rules_is _ f = refl

end_is : (d : Delim) → least_depth (end_form d) ≡ 0
end_is Brace = refl
end_is _ = refl

-- ---- kinds

-- It needs what its head does and what follows that.
of_kind : (kind y : ItemKind) (facts : KindFacts) → kind ≡ y → told_of_kind y ≡ facts
    → kind_need kind ≡ max (head_if facts.head) (least_depth facts.tail)
of_kind kind y facts is told =
    ap kind_need is ∙ ap (λ (x : KindFacts). max (head_if x.head) (least_depth x.tail)) told

extern_crate_is : (kind : ItemKind) (x : ExternCrate) → kind ≡ item.ExternCrate x → kind_need kind ≡ 0
extern_crate_is kind x is =
    of_kind kind (item.ExternCrate x) _ is (laws.extern_crate_is x)
    ∙ (let m = leaf_is x.word.raw x.word.text (rename_form x.renamed) in
    let n = rename_is x.renamed in omega (arith, m, n))

pub import_is : (kind : ItemKind) (tree : UseTree) → kind ≡ item.Import tree → kind_need kind ≡ least_depth (about_use tree).form
import_is kind tree is = of_kind kind (item.Import tree) _ is (laws.import_is tree) ∙ omega arith

file_module_is : (kind : ItemKind) (name : Name) → kind ≡ item.FileModule name → kind_need kind ≡ 0
file_module_is kind name is =
    of_kind kind (item.FileModule name) _ is (laws.file_module_is name)
    ∙ (let m = leaf_is name.raw name.text Done in omega (arith, m))

module_is : (kind : ItemKind) (name : Name) (attrs : List Attr) (items : List Item) → kind ≡ item.Module name attrs items
    → kind_need kind ≡ greatest (map form_of_item items)
module_is kind name attrs items is =
    of_kind kind (item.Module name attrs items) _ is (laws.module_is name attrs items)
    ∙ (let m = leaf_is name.raw name.text Done in
    let n = item_body_is true attrs items in omega (arith, m, n))

pub function_is : (kind : ItemKind) (head : FnHead) (wheres : Wheres) (body : Option Block) → kind ≡ item.Function head wheres body
    → kind_need kind ≡ max (max (least_depth (fn_head_form head)) (greatest (map predicate_form wheres.predicates))) (block_if body)
function_is kind head wheres body is =
    of_kind kind (item.Function head wheres body) _ is (laws.function_is head wheres body)
    ∙ (let m = function_tail_is wheres body in omega (arith, m))

pub alias_is : (kind : ItemKind) (x : Alias) → kind ≡ item.Alias x → kind_need kind ≡ head_depth (about_alias Module x)
alias_is kind x is = of_kind kind (item.Alias x) _ is (laws.alias_is x)

pub struct_is : (kind : ItemKind) (x : Struct) → kind ≡ item.Struct x → kind_need kind ≡ head_depth (about_struct x)
struct_is kind x is = of_kind kind (item.Struct x) _ is (laws.struct_is x)

pub union_is : (kind : ItemKind) (x : Union) → kind ≡ item.Union x → kind_need kind ≡ head_depth (about_union x)
union_is kind x is = of_kind kind (item.Union x) _ is (laws.union_is x)

pub enum_is : (kind : ItemKind) (x : Enum) → kind ≡ item.Enum x → kind_need kind ≡ head_depth (about_enum x)
enum_is kind x is = of_kind kind (item.Enum x) _ is (laws.enum_is x)

pub valued_is : (kind : ItemKind) (head : ValueHead) (value : Option Expr) → kind ≡ item.Value head value
    → kind_need kind ≡ max (least_depth (value_head_form head)) (expr_if value)
valued_is kind head value is =
    of_kind kind (item.Value head value) _ is (laws.value_is head value)
    ∙ (let m = value_is value in omega (arith, m))

pub trait_is : (kind : ItemKind) (head : TraitHead) (wheres : Wheres) (attrs : List Attr) (items : List Item)
    → kind ≡ item.Trait head wheres attrs items
    → kind_need kind
    ≡ max (max (least_depth (trait_head_form head)) (greatest (map predicate_form wheres.predicates))) (greatest (map form_of_item items))
trait_is kind head wheres attrs items is =
    of_kind kind (item.Trait head wheres attrs items) _ is (laws.trait_is head wheres attrs items)
    ∙ (let m = before_body_is wheres in
    let n = item_body_is (leads wheres) attrs items in omega (arith, m, n))

pub impl_is : (kind : ItemKind) (head : ImplHead) (wheres : Wheres) (attrs : List Attr) (items : List Item) → kind ≡ item.Impl head wheres attrs items
    → kind_need kind
    ≡ max (max (least_depth (impl_head_form head)) (greatest (map predicate_form wheres.predicates))) (greatest (map form_of_item items))
impl_is kind head wheres attrs items is =
    of_kind kind (item.Impl head wheres attrs items) _ is (laws.impl_is head wheres attrs items)
    ∙ (let m = before_body_is wheres in
    let n = item_body_is (leads wheres) attrs items in omega (arith, m, n))

foreign_is : (kind : ItemKind) (is_unsafe : Bool) (abi : Option Literal) (attrs : List Attr) (items : List Item)
    → kind ≡ item.Foreign is_unsafe abi attrs items → kind_need kind ≡ greatest (map form_of_item items)
foreign_is kind is_unsafe abi attrs items is =
    of_kind kind (item.Foreign is_unsafe abi attrs items) _ is (laws.foreign_is is_unsafe abi attrs items)
    ∙ (let m = when_is is_unsafe (keyword (codes "unsafe") ∷ Blank ∷ []) (Piece (keyword (codes "extern") ∷ []) (foreign_abi abi)) in
    let n = abi_is abi in
    let o = item_body_is true attrs items in omega (arith, m, n, o))

rules_is : (kind : ItemKind) (name : Name) (rules : Group) → kind ≡ item.MacroRules name rules → kind_need kind ≡ 0
rules_is kind name rules is =
    of_kind kind (item.MacroRules name rules) _ is (laws.rules_is name rules)
    ∙ (let m = leaf_is name.raw name.text (before_rules rules.delim (group_form rules (end_form rules.delim))) in
    let n = before_rules_is rules.delim (group_form rules (end_form rules.delim)) in
    let o = group_is rules (end_form rules.delim) in
    let p = end_is rules.delim in omega (arith, m, n, o, p))

macro_is : (kind : ItemKind) (call : MacroCall) → kind ≡ item.Call call → kind_need kind ≡ 0
macro_is kind call is =
    of_kind kind (item.Call call) _ is (laws.call_is call)
    ∙ (let m = call_is call in
    let n = end_is call.tokens.delim in omega (arith, m, n))

-- those with no part that is counted
pub leaf_kind_is : (kind : ItemKind) → ((x : ExternCrate) × (kind ≡ item.ExternCrate x)) ⊎ (((name : Name) × (kind ≡ item.FileModule name))
    ⊎ (((name : Name) × (rules : Group) × (kind ≡ item.MacroRules name rules)) ⊎ ((call : MacroCall) × (kind ≡ item.Call call))))
    → 0 ≡ counted (kind_need kind)
leaf_kind_is kind (inl x) = let m = extern_crate_is kind x.0 x.1 in omega (arith, m)
leaf_kind_is kind (inr (inl name)) = let m = file_module_is kind name.0 name.1 in omega (arith, m)
leaf_kind_is kind (inr (inr (inl rules))) = let m = rules_is kind rules.0 rules.1 rules.2 in omega (arith, m)
leaf_kind_is kind (inr (inr (inr call))) = let m = macro_is kind call.0 call.1 in omega (arith, m)

pub listed_is : (kind : ItemKind) (items : List Item)
    → ((name : Name) × (attrs : List Attr) × (kind ≡ item.Module name attrs items))
    ⊎ ((is_unsafe : Bool) × (abi : Option Literal) × (attrs : List Attr) × (kind ≡ item.Foreign is_unsafe abi attrs items))
    → kind_need kind ≡ greatest (map form_of_item items)
listed_is kind items (inl m) = module_is kind m.0 m.1 items m.2
listed_is kind items (inr f) = foreign_is kind f.0 f.1 f.2 items f.3

-- ---- files

told_items_are : (items : List Item) → greatest (forms (map (about_item Module) items)) ≡ greatest (map form_of_item items)
told_items_are [] = refl
told_items_are (one ∷ more) = let m = told_items_are more in omega (arith, m)

pub file_is : (file : File) → least_depth (form_of_file file) ≡ greatest (map form_of_item file.items)
file_is file =
    lines_are (map attr_form file.attrs ++ forms (map (about_item Module) file.items))
    ∙ both_are (map attr_form file.attrs) (forms (map (about_item Module) file.items))
    ∙ (let m = attrs_are file.attrs in
    let n = told_items_are file.items in omega (arith, m, n))
