-- What items consist of passes: each head, and what follows it, given that the items within pass.
use Rattle.std.proofs.Common.{◌≡◌, List, [], ◌∷◌, ◌++◌, Bool, true, false, ◌&&◌, refl, codes, map, Option, Some, None, is_some}
use Rattle.std.specs.List.{list_all}
use Rattle.std.proofs.lemmas.Bool.{and_parts}
use Rattle.lay_form.specs.Form as form
use Rattle.lay_form.specs.Form.{Blank, Form, Done, Piece, keyword, semicolon, Part}
use Rattle.lay_form.specs.Pieces.{is_text_of, are_pieces}
use Rattle.lay_node.specs.Words.{is_name}
use Rattle.lay_node.specs.nodes.Attr.{are_attrs, attr_form}
use Rattle.lay_node.specs.nodes.Fields.{blank_if}
use Rattle.lay_node.specs.nodes.Functions.{is_fn_head}
use Rattle.lay_node.specs.nodes.Heads.{leads, is_value_head, is_trait_head, is_impl_head, value_head_form}
use Rattle.lay_node.specs.nodes.Types.{is_abi_name}
use Rattle.lay_node.specs.nodes.Use.{about_use}
use Rattle.lay_node.specs.nodes.Where.{are_predicates, wheres_before_body}
use Rattle.lay_node.specs.declared.attr.Attr.{Attr}
use Rattle.lay_node.specs.declared.functions.FnHead.{FnHead}
use Rattle.lay_node.specs.declared.generics.Wheres.{Wheres}
use Rattle.lay_node.specs.declared.heads.ImplHead.{ImplHead}
use Rattle.lay_node.specs.declared.heads.Site.{Site}
use Rattle.lay_node.specs.declared.heads.Site.TheVariants as site
use Rattle.lay_node.specs.declared.heads.TraitHead.{TraitHead}
use Rattle.lay_node.specs.declared.heads.ValueHead.{ValueHead}
use Rattle.lay_node.specs.declared.token.Literal.{Literal}
use Rattle.lay_node.specs.declared.token.Name.{Name}
use Rattle.lay_node.specs.declared.use_tree.UseTree.{UseTree}
use Rattle.lay_node.specs.declared.vis.Vis.{Vis}
use Rattle.lay_code.specs.nodes.CodeFacts.{BlockFacts, ItemFacts, KindFacts}
use Rattle.lay_code.specs.nodes.Exprs.{ExprFacts, may_be_good, value_form, value_placed}
use Rattle.lay_code.specs.nodes.Item.{about_file_module, about_foreign, about_function, about_impl, about_import, about_module, about_trait, about_value, foreign_abi, item_body, item_forms, items_good, function_tail, kind_form, may_be_bodied, module_head, may_be_valued}
use Rattle.lay_reparse.proofs.borders.Border.{Border}
use Rattle.lay_reparse.proofs.file.TypeArgs.{Any}
use Rattle.lay_reparse.proofs.file.ExprParts.{ends_expr, opens_block}
use Rattle.lay_reparse.proofs.file.ExprPlaces.{ExprPasses}
use Rattle.lay_reparse.proofs.file.BlockKinds.{BlockPasses, value_from}
use Rattle.lay_reparse.proofs.forms.Passes.{plain}
use Rattle.lay_reparse.proofs.forms.Rules.{same_whenever, tables, From, All, under-refl, ends, fixed, part, body_fits, braced}
use Rattle.lay_reparse.proofs.file.Nodes.{ends_name, ends_line, ends_use, start_path, behind_word, word, both_pieces, both_all, attrs_pass, use_passes, when_pieces, body_pieces}
use Rattle.lay_reparse.proofs.file.TypeParts.{ends_type, ends_arg, string_literal_passes}
use Rattle.lay_reparse.proofs.file.Generics.{behind_type, ends_predicate}
use Rattle.lay_reparse.proofs.forms.Functions.{fn_head_passes}
use Rattle.lay_reparse.proofs.forms.Heads.{HeadPasses, four_parts, body_tail, semicolon_tail, items_fit, value_head_passes, trait_head_passes, impl_head_passes}

-- the facts about a kind of item, after each visibility
pub record KindPasses (x : KindFacts) : Type 0 where
  pub go : (place : Site) (v : Vis) → x.good place ≡ true → are_pieces (kind_form v x.head x.tail) ≡ true
      → From plain (kind_form v x.head x.tail) plain

-- each item passes where it is good at the site
pub record ItemsPass (place : Site) (items : List ItemFacts) : Type 0 where
  pub go : items_good place items ≡ true → list_all are_pieces (item_forms items) ≡ true
      → All plain (item_forms items) ends_line

-- inner attributes and items in braces
item_body_passes : {b z : Border} (place : Site) (lead : Bool) (attrs : List Attr) (items : List ItemFacts)
    → body_fits (blank_if lead) [] b plain ends_line z ≡ true → ItemsPass place items → are_attrs true attrs ≡ true
    → items_good place items ≡ true → are_pieces (item_body lead attrs items) ≡ true
    → From b (item_body lead attrs items) z
item_body_passes place lead attrs items fit k g h w =
    let before = map attr_form attrs in
    let within_it = item_forms items in
    let q = both_pieces before within_it (body_pieces (blank_if lead) [] (before ++ within_it) w) in
    braced (blank_if lead) [] (before ++ within_it) plain ends_line fit
    (both_all plain ends_line before within_it (attrs_pass true attrs g q.0) (k.go h q.1))

-- ---- imports and modules

pub import_passes : (tree : UseTree) → HeadPasses (about_import tree)
unfolding tables
import_passes tree = record {
  between = ends_use;
  head = λ g w.
      let p = (and_parts (are_pieces (about_use tree).form) true w).0 in
      fixed refl (part start_path ends_use refl ((use_passes tree).go p) (ends refl));
  tail = λ g w. fixed refl (ends refl);
}

module_head_passes : (name : Name) → are_pieces (module_head name) ≡ true → From plain (module_head name) ends_name
unfolding tables
module_head_passes name w = fixed refl (word name.raw name.text refl w (ends refl) (ends refl))

pub file_module_passes : (name : Name) → HeadPasses (about_file_module name)
unfolding tables
file_module_passes name =
    record { between = ends_name; head = λ g w. module_head_passes name w; tail = λ g w. fixed refl (ends refl) }

module_fits : body_fits (Blank ∷ []) [] ends_name plain ends_line plain ≡ true
unfolding tables
module_fits = refl

pub module_passes : (name : Name) (attrs : List Attr) (items : List ItemFacts) → ItemsPass site.Module items
    → HeadPasses (about_module name attrs items)
module_passes name attrs items k = record {
  between = ends_name;
  head = λ g w. module_head_passes name w;
  tail = λ g w.
      let n = and_parts (is_name name.raw name.text && are_attrs true attrs) (items_good site.Module items) g in
      let a = (and_parts (is_name name.raw name.text) (are_attrs true attrs) n.0).1 in
      item_body_passes site.Module true attrs items module_fits k a n.1 w;
}

-- ---- functions, constants and statics

body_opens : (lead : Bool) → opens_block lead ends_predicate ≡ true
unfolding tables
body_opens true = refl
body_opens false = refl

-- what follows the head of a function: its body, or a `;`
function_tail_passes : (wheres : Wheres) (b : Option BlockFacts) → Any BlockPasses b → are_predicates wheres ≡ true
    → may_be_good b ≡ true → are_pieces (function_tail wheres b) ≡ true → From ends_type (function_tail wheres b) plain
function_tail_passes wheres None k g h w = semicolon_tail wheres behind_type g w
function_tail_passes wheres (Some b) k g h w =
    let lead = leads wheres in
    body_tail wheres behind_type g w (λ p.
    part ends_predicate plain (under-refl ends_predicate)
    (k.go lead ends_predicate (body_opens lead) h (and_parts (are_pieces (b.form lead)) true p).0)
    (ends (under-refl plain)))

pub function_passes : (place : Site) (head : FnHead) (wheres : Wheres) (b : Option BlockFacts) → Any BlockPasses b
    → HeadPasses (about_function place head wheres b)
function_passes place head wheres b k = record {
  between = ends_type;
  head = λ g w. fn_head_passes place head (parts g).0 w;
  tail = λ g w. let n = parts g in function_tail_passes wheres b k n.1 n.3 w;
}
  where
    parts : (about_function place head wheres b).good ≡ true
        → (is_fn_head place head ≡ true) × (are_predicates wheres ≡ true) × (may_be_bodied place (is_some b) ≡ true)
        × (may_be_good b ≡ true)
    parts g = four_parts (is_fn_head place head) (are_predicates wheres) (may_be_bodied place (is_some b))
        (may_be_good b) g

pub value_passes : (place : Site) (head : ValueHead) (value : Option ExprFacts) → Any ExprPasses value
    → HeadPasses (about_value place head value)
unfolding tables
value_passes place head value k = record {
  between = ends_expr;
  head = λ g w.
      let n = parts g in
      let p = and_parts (are_pieces (value_head_form head)) (are_pieces (value_form value)) w in
      part plain ends_type refl (value_head_passes head n.0 p.0) (value_from value k n.1 p.1).1;
  tail = λ g w. fixed refl (ends refl);
}
  where
    parts : (about_value place head value).good ≡ true → (is_value_head head ≡ true) × (value_placed value ≡ true)
    parts g =
        let n = and_parts (is_value_head head && may_be_valued place head (is_some value)) (value_placed value) g in
        ((and_parts (is_value_head head) (may_be_valued place head (is_some value)) n.0).0, n.1)

-- ---- traits and implementations

-- a where clause and items in braces, after a head that may end in a type
where_items_pass : (place : Site) (wheres : Wheres) (attrs : List Attr) (items : List ItemFacts)
    → ItemsPass place items → are_predicates wheres ≡ true → are_attrs true attrs ≡ true
    → items_good place items ≡ true
    → are_pieces (form.Part (wheres_before_body wheres) (item_body (leads wheres) attrs items)) ≡ true
    → From ends_type (form.Part (wheres_before_body wheres) (item_body (leads wheres) attrs items)) plain
where_items_pass place wheres attrs items k g h i w =
    body_tail wheres behind_type g w
    (item_body_passes place (leads wheres) attrs items (items_fit (leads wheres)) k h i)

pub trait_passes : (head : TraitHead) (wheres : Wheres) (attrs : List Attr) (items : List ItemFacts)
    → ItemsPass site.TraitMember items → HeadPasses (about_trait head wheres attrs items)
trait_passes head wheres attrs items k = record {
  between = ends_type;
  head = λ g w. trait_head_passes head (parts g).0 w;
  tail = λ g w. let n = parts g in where_items_pass site.TraitMember wheres attrs items k n.1 n.2 n.3 w;
}
  where
    parts : (about_trait head wheres attrs items).good ≡ true
        → (is_trait_head head ≡ true) × (are_predicates wheres ≡ true) × (are_attrs true attrs ≡ true)
        × (items_good site.TraitMember items ≡ true)
    parts g = four_parts (is_trait_head head) (are_predicates wheres) (are_attrs true attrs)
        (items_good site.TraitMember items) g

pub impl_passes : (head : ImplHead) (wheres : Wheres) (attrs : List Attr) (items : List ItemFacts)
    → ItemsPass site.Member items → HeadPasses (about_impl head wheres attrs items)
impl_passes head wheres attrs items k = record {
  between = ends_type;
  head = λ g w. impl_head_passes head (parts g).0 w;
  tail = λ g w. let n = parts g in where_items_pass site.Member wheres attrs items k n.1 n.2 n.3 w;
}
  where
    parts : (about_impl head wheres attrs items).good ≡ true
        → (is_impl_head head ≡ true) × (are_predicates wheres ≡ true) × (are_attrs true attrs ≡ true)
        × (items_good site.Member items ≡ true)
    parts g = four_parts (is_impl_head head) (are_predicates wheres) (are_attrs true attrs)
        (items_good site.Member items) g

-- ---- foreign blocks

foreign_abi_passes : (abi : Option Literal) → is_abi_name abi ≡ true → are_pieces (foreign_abi abi) ≡ true
    → From behind_word (foreign_abi abi) ends_arg
unfolding tables
foreign_abi_passes None g w = ends refl
foreign_abi_passes (Some l) g w =
    fixed refl (string_literal_passes l.kind l.text g (and_parts (is_text_of l.kind l.text) true w).0)

foreign_fits : body_fits (Blank ∷ []) [] ends_arg plain ends_line plain ≡ true
unfolding tables
foreign_fits = refl

pub foreign_passes : (is_unsafe : Bool) (abi : Option Literal) (attrs : List Attr) (items : List ItemFacts)
    → ItemsPass site.Foreign items → HeadPasses (about_foreign is_unsafe abi attrs items)
unfolding tables
foreign_passes is_unsafe abi attrs items k = record {
  between = ends_arg;
  head = λ g w.
      let p = when_pieces is_unsafe (keyword (codes "unsafe") ∷ Blank ∷ []) _ w in
      same_whenever is_unsafe (keyword (codes "unsafe") ∷ Blank ∷ []) refl refl refl (fixed refl (foreign_abi_passes abi (parts g).0 p));
  tail = λ g w. let n = parts g in item_body_passes site.Foreign true attrs items foreign_fits k n.1 n.2 w;
}
  where
    parts : (about_foreign is_unsafe abi attrs items).good ≡ true
        → (is_abi_name abi ≡ true) × (are_attrs true attrs ≡ true) × (items_good site.Foreign items ≡ true)
    parts g =
        let n = and_parts (is_abi_name abi && are_attrs true attrs) (items_good site.Foreign items) g in
        let m = and_parts (is_abi_name abi) (are_attrs true attrs) n.0 in (m.0, m.1, n.1)
