-- The facts about an item and about what it is, kind by kind.
use Rattle.std.proofs.Common.{◌≡◌, Bool, List, Option, map, sym, ap, ◌∙◌, subst, option_map, Some, None}
use Rattle.lay_node.specs.declared.attr.Attr.{Attr}
use Rattle.lay_node.specs.declared.functions.FnHead.{FnHead}
use Rattle.lay_node.specs.declared.generics.Wheres.{Wheres}
use Rattle.lay_node.specs.declared.heads.Alias.{Alias}
use Rattle.lay_node.specs.declared.heads.Enum.{Enum}
use Rattle.lay_node.specs.declared.heads.ExternCrate.{ExternCrate}
use Rattle.lay_node.specs.declared.heads.ImplHead.{ImplHead}
use Rattle.lay_node.specs.declared.heads.Struct.{Struct}
use Rattle.lay_node.specs.declared.heads.TraitHead.{TraitHead}
use Rattle.lay_node.specs.declared.heads.Union.{Union}
use Rattle.lay_node.specs.declared.heads.ValueHead.{ValueHead}
use Rattle.lay_node.specs.declared.token.Literal.{Literal}
use Rattle.lay_node.specs.declared.token.Name.{Name}
use Rattle.lay_node.specs.declared.tokens.Group.{Group}
use Rattle.lay_node.specs.declared.tokens.MacroCall.{MacroCall}
use Rattle.lay_node.specs.declared.use_tree.UseTree.{UseTree}
use Rattle.lay_node.specs.nodes.Facts.{Facts}
use Rattle.lay_code.specs.nodes.Blocks.{arm_facts, block_facts, branch_facts, stmt_facts}
use Rattle.lay_code.specs.nodes.Code.{about_arm, about_block, about_branch, about_condition, about_expr, about_field_expr, about_link, about_step, about_stmt, told_of_item, told_of_kind}
use Rattle.lay_code.specs.nodes.CodeFacts.{ArmFacts, BlockFacts, BranchFacts, ConditionFacts, ItemFacts, KindFacts, LinkFacts, StmtFacts}
use Rattle.lay_code.specs.nodes.Conditions.{condition_facts, link_facts}
use Rattle.lay_code.specs.nodes.Exprs.{ExprFacts, StepFacts, expr_facts, field_facts, step_facts}
use Rattle.lay_code.specs.nodes.Item.{kind_facts, item_facts}
use Rattle.lay_code.specs.nodes.Layers.{KindNode}
use Rattle.lay_code.specs.declared.blocks.Block.{Block}
use Rattle.lay_code.specs.declared.exprs.Expr.{Expr}
use Rattle.lay_code.specs.declared.item.Item.{Item}
use Rattle.lay_code.specs.declared.item.ItemKind.{ItemKind}
use Rattle.lay_code.specs.declared.item.ItemKind.TheVariants as item
use Rattle.lay_code.specs.declared.blocks.Stmt.TheOpen.{ItemKind-F}
use Rattle.lay_code.specs.declared.blocks.Stmt.TheViews.{out-ItemKind, roll-ItemKind, roll-out-ItemKind, rolls-ExternCrate, rolls-Import, rolls-FileModule, rolls-Module, rolls-Function, rolls-Alias, rolls-ItemKind::Struct, rolls-Union, rolls-Enum, rolls-Value, rolls-Trait, rolls-Impl, rolls-Foreign, rolls-MacroRules, rolls-ItemKind::Call}
use Rattle.lay_code.specs.declared.blocks.Stmt.TheFolds.{fold_out-Item}
use Rattle.lay_code.proofs.nodes.Layers.{kind_is}

-- which kind it is
pub data KindView : ItemKind → Type 0 where
  IsExternCrate : (x : ExternCrate) → KindView (item.ExternCrate x)
  IsImport : (tree : UseTree) → KindView (item.Import tree)
  IsFileModule : (name : Name) → KindView (item.FileModule name)
  IsModule : (name : Name) (attrs : List Attr) (items : List Item) → KindView (item.Module name attrs items)
  IsFunction : (head : FnHead) (wheres : Wheres) (body : Option Block) → KindView (item.Function head wheres body)
  IsAlias : (x : Alias) → KindView (item.Alias x)
  IsStruct : (x : Struct) → KindView (item.Struct x)
  IsUnion : (x : Union) → KindView (item.Union x)
  IsEnum : (x : Enum) → KindView (item.Enum x)
  IsValue : (head : ValueHead) (value : Option Expr) → KindView (item.Value head value)
  IsTrait : (head : TraitHead) (wheres : Wheres) (attrs : List Attr) (items : List Item) → KindView (item.Trait head wheres attrs items)
  IsImpl : (head : ImplHead) (wheres : Wheres) (attrs : List Attr) (items : List Item) → KindView (item.Impl head wheres attrs items)
  IsForeign : (is_unsafe : Bool) (abi : Option Literal) (attrs : List Attr) (items : List Item) → KindView (item.Foreign is_unsafe abi attrs items)
  IsRules : (name : Name) (rules : Group) → KindView (item.MacroRules name rules)
  IsCall : (call : MacroCall) → KindView (item.Call call)

kind_layer : (layer : KindNode) → KindView (roll-ItemKind layer)
kind_layer (ItemKind-F.ExternCrate x) = subst KindView (sym (rolls-ExternCrate x)) (IsExternCrate x)
kind_layer (ItemKind-F.Import tree) = subst KindView (sym (rolls-Import tree)) (IsImport tree)
kind_layer (ItemKind-F.FileModule name) = subst KindView (sym (rolls-FileModule name)) (IsFileModule name)
kind_layer (ItemKind-F.Module name attrs items) = subst KindView (sym (rolls-Module name attrs items)) (IsModule name attrs items)
kind_layer (ItemKind-F.Function head wheres body) = subst KindView (sym (rolls-Function head wheres body)) (IsFunction head wheres body)
kind_layer (ItemKind-F.Alias x) = subst KindView (sym (rolls-Alias x)) (IsAlias x)
kind_layer (ItemKind-F.ItemKind::Struct x) = subst KindView (sym (rolls-ItemKind::Struct x)) (IsStruct x)
kind_layer (ItemKind-F.Union x) = subst KindView (sym (rolls-Union x)) (IsUnion x)
kind_layer (ItemKind-F.Enum x) = subst KindView (sym (rolls-Enum x)) (IsEnum x)
kind_layer (ItemKind-F.Value head value) = subst KindView (sym (rolls-Value head value)) (IsValue head value)
kind_layer (ItemKind-F.Trait head wheres attrs items) = subst KindView (sym (rolls-Trait head wheres attrs items)) (IsTrait head wheres attrs items)
kind_layer (ItemKind-F.Impl head wheres attrs items) = subst KindView (sym (rolls-Impl head wheres attrs items)) (IsImpl head wheres attrs items)
kind_layer (ItemKind-F.Foreign is_unsafe abi attrs items) = subst KindView (sym (rolls-Foreign is_unsafe abi attrs items)) (IsForeign is_unsafe abi attrs items)
kind_layer (ItemKind-F.MacroRules name rules) = subst KindView (sym (rolls-MacroRules name rules)) (IsRules name rules)
kind_layer (ItemKind-F.ItemKind::Call call) = subst KindView (sym (rolls-ItemKind::Call call)) (IsCall call)

pub kind_view : (kind : ItemKind) → KindView kind
kind_view kind = subst KindView (roll-out-ItemKind kind) (kind_layer (out-ItemKind kind))

pub item_is : (one : Item) → told_of_item one ≡ item_facts (record { attrs = one.attrs; vis = one.vis; kind = told_of_kind one.kind })
unfolding about_expr about_field_expr about_step about_stmt about_block about_branch about_condition about_link about_arm told_of_item told_of_kind
item_is one = fold_out-Item StmtFacts LinkFacts ExprFacts Facts StepFacts KindFacts ArmFacts BlockFacts BranchFacts ConditionFacts ItemFacts stmt_facts link_facts expr_facts field_facts step_facts kind_facts arm_facts block_facts branch_facts condition_facts item_facts one

pub extern_crate_is : (x : ExternCrate) → told_of_kind (item.ExternCrate x) ≡ kind_facts (ItemKind-F.ExternCrate x)
extern_crate_is x =
    ap told_of_kind (sym (rolls-ExternCrate x)) ∙ kind_is (ItemKind-F.ExternCrate x)

pub import_is : (tree : UseTree) → told_of_kind (item.Import tree) ≡ kind_facts (ItemKind-F.Import tree)
import_is tree =
    ap told_of_kind (sym (rolls-Import tree)) ∙ kind_is (ItemKind-F.Import tree)

pub file_module_is : (name : Name) → told_of_kind (item.FileModule name) ≡ kind_facts (ItemKind-F.FileModule name)
file_module_is name =
    ap told_of_kind (sym (rolls-FileModule name)) ∙ kind_is (ItemKind-F.FileModule name)

pub module_is : (name : Name) (attrs : List Attr) (items : List Item) → told_of_kind (item.Module name attrs items) ≡ kind_facts (ItemKind-F.Module name attrs (map told_of_item items))
module_is name attrs items =
    ap told_of_kind (sym (rolls-Module name attrs items)) ∙ kind_is (ItemKind-F.Module name attrs items)

pub function_is : (head : FnHead) (wheres : Wheres) (body : Option Block) → told_of_kind (item.Function head wheres body) ≡ kind_facts (ItemKind-F.Function head wheres (option_map about_block body))
function_is head wheres None =
    ap told_of_kind (sym (rolls-Function head wheres None)) ∙ kind_is (ItemKind-F.Function head wheres None)
function_is head wheres (Some x0) =
    ap told_of_kind (sym (rolls-Function head wheres (Some x0))) ∙ kind_is (ItemKind-F.Function head wheres (Some x0))

pub alias_is : (x : Alias) → told_of_kind (item.Alias x) ≡ kind_facts (ItemKind-F.Alias x)
alias_is x =
    ap told_of_kind (sym (rolls-Alias x)) ∙ kind_is (ItemKind-F.Alias x)

pub struct_is : (x : Struct) → told_of_kind (item.Struct x) ≡ kind_facts (ItemKind-F.ItemKind::Struct x)
struct_is x =
    ap told_of_kind (sym (rolls-ItemKind::Struct x)) ∙ kind_is (ItemKind-F.ItemKind::Struct x)

pub union_is : (x : Union) → told_of_kind (item.Union x) ≡ kind_facts (ItemKind-F.Union x)
union_is x =
    ap told_of_kind (sym (rolls-Union x)) ∙ kind_is (ItemKind-F.Union x)

pub enum_is : (x : Enum) → told_of_kind (item.Enum x) ≡ kind_facts (ItemKind-F.Enum x)
enum_is x =
    ap told_of_kind (sym (rolls-Enum x)) ∙ kind_is (ItemKind-F.Enum x)

pub value_is : (head : ValueHead) (value : Option Expr) → told_of_kind (item.Value head value) ≡ kind_facts (ItemKind-F.Value head (option_map about_expr value))
value_is head None =
    ap told_of_kind (sym (rolls-Value head None)) ∙ kind_is (ItemKind-F.Value head None)
value_is head (Some x0) =
    ap told_of_kind (sym (rolls-Value head (Some x0))) ∙ kind_is (ItemKind-F.Value head (Some x0))

pub trait_is : (head : TraitHead) (wheres : Wheres) (attrs : List Attr) (items : List Item) → told_of_kind (item.Trait head wheres attrs items) ≡ kind_facts (ItemKind-F.Trait head wheres attrs (map told_of_item items))
trait_is head wheres attrs items =
    ap told_of_kind (sym (rolls-Trait head wheres attrs items)) ∙ kind_is (ItemKind-F.Trait head wheres attrs items)

pub impl_is : (head : ImplHead) (wheres : Wheres) (attrs : List Attr) (items : List Item) → told_of_kind (item.Impl head wheres attrs items) ≡ kind_facts (ItemKind-F.Impl head wheres attrs (map told_of_item items))
impl_is head wheres attrs items =
    ap told_of_kind (sym (rolls-Impl head wheres attrs items)) ∙ kind_is (ItemKind-F.Impl head wheres attrs items)

pub foreign_is : (is_unsafe : Bool) (abi : Option Literal) (attrs : List Attr) (items : List Item) → told_of_kind (item.Foreign is_unsafe abi attrs items) ≡ kind_facts (ItemKind-F.Foreign is_unsafe abi attrs (map told_of_item items))
foreign_is is_unsafe abi attrs items =
    ap told_of_kind (sym (rolls-Foreign is_unsafe abi attrs items)) ∙ kind_is (ItemKind-F.Foreign is_unsafe abi attrs items)

pub rules_is : (name : Name) (rules : Group) → told_of_kind (item.MacroRules name rules) ≡ kind_facts (ItemKind-F.MacroRules name rules)
rules_is name rules =
    ap told_of_kind (sym (rolls-MacroRules name rules)) ∙ kind_is (ItemKind-F.MacroRules name rules)

pub call_is : (call : MacroCall) → told_of_kind (item.Call call) ≡ kind_facts (ItemKind-F.ItemKind::Call call)
call_is call =
    ap told_of_kind (sym (rolls-ItemKind::Call call)) ∙ kind_is (ItemKind-F.ItemKind::Call call)
