-- The forms of items, and when each is well formed (Rust Reference, "Items"). An item ends in a `;`
-- or a `}`, so any token may follow it.
use Rattle.std.specs.Prelude.{Bool, true, false, ◌&&◌, ◌||◌, List, [], ◌∷◌, ◌++◌, map, codes, Option, Some, None, is_some, not}
use Rattle.std.specs.List.{list_all}
use Rattle.lay_form.specs.Form.{Blank, Operator, Form, Done, Piece, Part, Deeper, keyword, semicolon}
use Rattle.lay_form.specs.Notation.{I0, piece, body, behind_attrs}
use Rattle.lay_node.specs.Words.{is_name, leaf_of}
use Rattle.lay_node.specs.nodes.Attr.{are_attrs, attr_form}
use Rattle.lay_node.specs.nodes.Call.{is_group, before_rules, end_form, about_call}
use Rattle.lay_node.specs.nodes.Fields.{blank_if}
use Rattle.lay_node.specs.nodes.Functions.{fn_head_form, is_fn_head}
use Rattle.lay_node.specs.nodes.Heads.{HeadFacts, about_alias, about_enum, about_extern_crate, about_struct, about_union, impl_head_form, is_impl_head, is_trait_head, is_value_head, leads, trait_head_form, unsafe_form, value_head_form}
use Rattle.lay_node.specs.nodes.Types.{is_abi_name, literal_form}
use Rattle.lay_node.specs.nodes.Use.{about_use}
use Rattle.lay_node.specs.nodes.Vis.{is_vis, vis_form}
use Rattle.lay_node.specs.nodes.Where.{are_predicates, wheres_before_body, wheres_before_semicolon}
use Rattle.lay_node.specs.tokens.Lists.{group_form}
use Rattle.lay_node.specs.declared.attr.Attr.{Attr}
use Rattle.lay_node.specs.declared.functions.FnHead.{FnHead}
use Rattle.lay_node.specs.declared.generics.Wheres.{Wheres}
use Rattle.lay_node.specs.declared.heads.ImplHead.{ImplHead}
use Rattle.lay_node.specs.declared.heads.Site.{Site}
use Rattle.lay_node.specs.declared.heads.Site.TheVariants as site
use Rattle.lay_node.specs.declared.heads.TraitHead.{TraitHead}
use Rattle.lay_node.specs.declared.heads.ValueHead.{ValueHead}
use Rattle.lay_node.specs.declared.heads.ValueHead.TheVariants as value
use Rattle.lay_node.specs.declared.token.Literal.{Literal}
use Rattle.lay_node.specs.declared.token.Name.{Name}
use Rattle.lay_node.specs.declared.tokens.Group.{Group}
use Rattle.lay_node.specs.declared.tokens.MacroCall.{MacroCall}
use Rattle.lay_node.specs.declared.use_tree.UseTree.{UseTree}
use Rattle.lay_node.specs.declared.vis.Vis.{Vis}
use Rattle.lay_node.specs.declared.vis.Vis.TheVariants as vis
use Rattle.lay_code.specs.nodes.CodeFacts.{BlockFacts, ItemFacts, KindFacts}
use Rattle.lay_code.specs.nodes.Exprs.{value_form, value_placed, may_be_good, ExprFacts, ItemLayer, KindLayer}
use Rattle.lay_code.specs.declared.blocks.Stmt.TheOpen.{ItemKind-F}

-- ---- where an item may stand

abbrev pub in_module : Site → Bool
in_module site.Module = true
in_module _ = false

-- Whether a function may stand at a site with a body or without one; the flag says that it has one.
-- In a trait both may stand, in a foreign block only one without, and elsewhere only one with a
-- body.
abbrev pub may_be_bodied : Site → Bool → Bool
may_be_bodied site.Foreign bodied = not bodied
may_be_bodied site.TraitMember bodied = true
may_be_bodied _ bodied = bodied

-- What may have no value: a constant in a trait, and a static in a foreign block.
abbrev pub may_lack_value : Site → ValueHead → Bool
may_lack_value site.TraitMember (value.Const name x) = true
may_lack_value site.Foreign (value.Static mutable name x) = true
may_lack_value _ _ = false

-- What may have a value: a constant everywhere but in a foreign block, and a static in a module
-- only.
abbrev pub may_have_value : Site → ValueHead → Bool
may_have_value site.Module head = true
may_have_value site.Foreign head = false
may_have_value _ (value.Const name x) = true
may_have_value _ (value.Static mutable name x) = false

-- The same, where the flag says whether it has a value.
abbrev pub may_be_valued : Site → ValueHead → Bool → Bool
may_be_valued site head true = may_have_value site head
may_be_valued site head false = may_lack_value site head

-- ---- the facts about an item and about what it is

abbrev pub kind_form : Vis → Option Form → Form → Form
kind_form v None tail = tail
kind_form v (Some head) tail = I0 (Part (vis_form v) head) tail

abbrev pub item_forms : List ItemFacts → List Form
item_forms items = map (λ (x : ItemFacts). x.form) items

abbrev pub items_good : Site → List ItemFacts → Bool
items_good site items = list_all (λ (x : ItemFacts). x.good site) items

-- inner attributes and items in braces
abbrev pub item_body : Bool → List Attr → List ItemFacts → Form
item_body lead attrs items = body (blank_if lead) [] (map attr_form attrs ++ item_forms items)

-- ---- heads and what follows them

abbrev pub about_import : UseTree → HeadFacts
about_import tree = record {
  head = Piece (keyword (codes "use") ∷ Blank ∷ []) (Part (about_use tree).form Done);
  tail = piece semicolon;
  good = (about_use tree).good;
}

abbrev pub module_head : Name → Form
module_head name = Piece (keyword (codes "mod") ∷ Blank ∷ []) (leaf_of name.raw name.text Done)

abbrev pub about_file_module : Name → HeadFacts
about_file_module name = record { head = module_head name; tail = piece semicolon; good = is_name name.raw name.text }

abbrev pub about_module : Name → List Attr → List ItemFacts → HeadFacts
about_module name attrs items = record {
  head = module_head name;
  tail = item_body true attrs items;
  good = is_name name.raw name.text && are_attrs true attrs && items_good site.Module items;
}

-- what follows the head of a function
abbrev pub function_tail : Wheres → Option BlockFacts → Form
function_tail wheres None = Part (wheres_before_semicolon wheres) (piece semicolon)
function_tail wheres (Some b) = Part (wheres_before_body wheres) (Part (b.form (leads wheres)) Done)

abbrev pub about_function : Site → FnHead → Wheres → Option BlockFacts → HeadFacts
about_function site head wheres b = record {
  head = fn_head_form head;
  tail = function_tail wheres b;
  good = is_fn_head site head && are_predicates wheres && may_be_bodied site (is_some b) && may_be_good b;
}

abbrev pub about_value : Site → ValueHead → Option ExprFacts → HeadFacts
about_value site head value = record {
  head = Part (value_head_form head) (value_form value);
  tail = piece semicolon;
  good = is_value_head head && may_be_valued site head (is_some value) && value_placed value;
}

abbrev pub about_trait : TraitHead → Wheres → List Attr → List ItemFacts → HeadFacts
about_trait head wheres attrs items = record {
  head = trait_head_form head;
  tail = Part (wheres_before_body wheres) (item_body (leads wheres) attrs items);
  good = is_trait_head head && are_predicates wheres && are_attrs true attrs && items_good site.TraitMember items;
}

abbrev pub about_impl : ImplHead → Wheres → List Attr → List ItemFacts → HeadFacts
about_impl head wheres attrs items = record {
  head = impl_head_form head;
  tail = Part (wheres_before_body wheres) (item_body (leads wheres) attrs items);
  good = is_impl_head head && are_predicates wheres && are_attrs true attrs && items_good site.Member items;
}

abbrev pub foreign_abi : Option Literal → Form
foreign_abi None = Done
foreign_abi (Some l) = Piece (Blank ∷ []) (literal_form l Done)

abbrev pub about_foreign : Bool → Option Literal → List Attr → List ItemFacts → HeadFacts
about_foreign is_unsafe abi attrs items = record {
  head = unsafe_form is_unsafe (Piece (keyword (codes "extern") ∷ []) (foreign_abi abi));
  tail = item_body true attrs items;
  good = is_abi_name abi && are_attrs true attrs && items_good site.Foreign items;
}

-- ---- macros, which have no head

abbrev pub rules_form : Name → Group → Form
rules_form name rules = Piece (keyword (codes "macro_rules") ∷ Operator (codes "!") ∷ Blank ∷ [])
    (leaf_of name.raw name.text (before_rules rules.delim (group_form rules (end_form rules.delim))))

abbrev pub call_item_form : MacroCall → Form
call_item_form call = Part (about_call call).form (end_form call.tokens.delim)

-- ---- kinds, given all facts about the items within them

-- an item with a head that may stand in a module only
abbrev pub in_modules : HeadFacts → KindFacts
in_modules x = record { head = Some x.head; tail = x.tail; good = λ site. x.good && in_module site; call = false }

-- an item with a head that depends on the site, as do the sites where it may stand
abbrev pub by_site : (Site → HeadFacts) → KindFacts
by_site x = record { head = Some (x site.Module).head; tail = (x site.Module).tail; good = λ site. (x site).good; call = false }

abbrev pub kind_facts : KindLayer → KindFacts
kind_facts (ItemKind-F.ExternCrate x) = in_modules (about_extern_crate x)
kind_facts (ItemKind-F.Import tree) = in_modules (about_import tree)
kind_facts (ItemKind-F.FileModule name) = in_modules (about_file_module name)
kind_facts (ItemKind-F.Module name attrs items) = in_modules (about_module name attrs items)
kind_facts (ItemKind-F.Function head wheres b) = by_site (λ site. about_function site head wheres b)
kind_facts (ItemKind-F.Alias x) = by_site (λ site. about_alias site x)
kind_facts (ItemKind-F.ItemKind::Struct x) = in_modules (about_struct x)
kind_facts (ItemKind-F.Union x) = in_modules (about_union x)
kind_facts (ItemKind-F.Enum x) = in_modules (about_enum x)
kind_facts (ItemKind-F.Value head value) = by_site (λ site. about_value site head value)
kind_facts (ItemKind-F.Trait head wheres attrs items) = in_modules (about_trait head wheres attrs items)
kind_facts (ItemKind-F.Impl head wheres attrs items) = in_modules (about_impl head wheres attrs items)
kind_facts (ItemKind-F.Foreign is_unsafe abi attrs items) = in_modules (about_foreign is_unsafe abi attrs items)
kind_facts (ItemKind-F.MacroRules name rules) = record {
  head = None;
  tail = rules_form name rules;
  good = λ site. is_name name.raw name.text && is_group rules && in_module site;
  call = false;
}
kind_facts (ItemKind-F.ItemKind::Call call) = record {
  head = None;
  tail = call_item_form call;
  good = λ site. (about_call call).good;
  call = true;
}

-- ---- an item

abbrev pub is_inherited : Vis → Bool
is_inherited vis.Inherited = true
is_inherited _ = false

abbrev pub item_facts : ItemLayer → ItemFacts
item_facts item = record {
  form = Deeper (behind_attrs (map attr_form item.attrs) (Part (kind_form item.vis item.kind.head item.kind.tail) Done)) Done;
  good = λ site. are_attrs false item.attrs && is_vis item.vis && (is_some item.kind.head || is_inherited item.vis) && item.kind.good site;
  call = item.kind.call;
}
