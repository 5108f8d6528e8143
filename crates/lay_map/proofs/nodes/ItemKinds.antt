-- Items tell their units, kind by kind, given that what is within them does.
use Rattle.std.proofs.Common.{◌≡◌, Bool, true, false, ◌&&◌, ◌||◌, List, [], ◌∷◌, ◌++◌, codes, refl, sym, subst, append_assoc, map, Option, Some, None, is_some}
use Rattle.std.proofs.lemmas.Bool.{and_parts}
use Rattle.lay_piece.specs.declared.kind.Delim.{Delim}
use Rattle.lay_piece.specs.declared.kind.Delim.TheVariants.{Paren, Bracket, Brace}
use Rattle.lay_form.specs.Form.{Bit, Blank, Operator, Form, Done, Part, keyword, semicolon}
use Rattle.lay_form.specs.Notation.{body, piece}
use Rattle.lay_node.specs.Words.{is_name}
use Rattle.lay_node.specs.nodes.Attr.{are_attrs, attr_form}
use Rattle.lay_node.specs.nodes.Call.{about_call, before_rules, end_form, is_group}
use Rattle.lay_node.specs.nodes.Functions.{is_fn_head}
use Rattle.lay_node.specs.nodes.Heads.{HeadFacts, is_impl_head, is_trait_head, is_value_head, leads}
use Rattle.lay_node.specs.nodes.Types.{is_abi_name}
use Rattle.lay_node.specs.nodes.Vis.{is_vis}
use Rattle.lay_node.specs.nodes.Where.{are_predicates, wheres_before_body, wheres_before_semicolon}
use Rattle.lay_node.specs.declared.attr.Attr.{Attr}
use Rattle.lay_node.specs.declared.functions.FnHead.{FnHead}
use Rattle.lay_node.specs.declared.generics.Wheres.{Wheres}
use Rattle.lay_node.specs.declared.heads.ImplHead.{ImplHead}
use Rattle.lay_node.specs.declared.heads.Site.{Site}
use Rattle.lay_node.specs.declared.heads.Site.TheVariants as site
use Rattle.lay_node.specs.declared.heads.TraitHead.{TraitHead}
use Rattle.lay_node.specs.declared.heads.ValueHead.{ValueHead}
use Rattle.lay_node.specs.declared.token.Literal.{Literal}
use Rattle.lay_node.specs.declared.token.Name.{Name}
use Rattle.lay_node.specs.declared.tokens.Group.{Group}
use Rattle.lay_node.specs.declared.tokens.MacroCall.{MacroCall}
use Rattle.lay_node.specs.declared.use_tree.UseTree.{UseTree}
use Rattle.lay_node.specs.declared.vis.Vis.{Vis}
use Rattle.lay_code.specs.nodes.CodeFacts.{BlockFacts, ItemFacts, KindFacts}
use Rattle.lay_code.specs.nodes.Exprs.{ExprFacts, may_be_good, value_placed}
use Rattle.lay_code.specs.nodes.Item.{about_file_module, about_foreign, about_function, about_impl, about_import, about_module, about_trait, about_value, call_item_form, foreign_abi, function_tail, is_inherited, item_body, item_facts, item_forms, items_good, kind_form, may_be_bodied, may_be_valued, module_head, rules_form}
use Rattle.lay_map.specs.spelling.Units.{Word, words}
use Rattle.lay_map.proofs.BodyRules.{Calms, Lined, calm_all, first_of, lead_bits, lined}
use Rattle.lay_map.proofs.RowRules.{any_lead, calm_rows, lined_rows}
use Rattle.lay_map.proofs.Rules.{All, Any, Firm, Plain, Tells, ends, firm_fixed, firm_part, fixed, part, part_to}
use Rattle.lay_map.proofs.nodes.Attrs.{attrs_firm, attrs_firm_then, attrs_lined, attrs_then, call_firm, call_tells, firm_when, whenever, word}
use Rattle.lay_map.proofs.nodes.BlockKinds.{BlockTells, Braced, ItemTells, body_braced, value_tells}
use Rattle.lay_map.proofs.nodes.ExprParts.{ExprTells, Sound, both_all, deeper_sound}
use Rattle.lay_map.proofs.nodes.Functions.{fn_head_firm, fn_head_tells}
use Rattle.lay_map.proofs.nodes.Heads.{HeadTells, impl_head_firm, impl_head_tells, seen_firm, seen_tells, trait_head_firm, trait_head_tells, value_head_firm, value_head_tells}
use Rattle.lay_map.proofs.nodes.Tokens.{group_tells}
use Rattle.lay_map.proofs.nodes.TypeArgs.{Each, Given}
use Rattle.lay_map.proofs.nodes.TypeParts.{string_tells}
use Rattle.lay_map.proofs.nodes.Use.{use_tells}
use Rattle.lay_map.proofs.nodes.Where.{AfterHead, BehindWheres, after_head_body, after_head_semicolon, wheres_body_tell, wheres_semicolon_tell}

-- ---- what is told

pub record KindTells (x : KindFacts) : Type 0 where
  pub go : (place : Site) (v : Vis) → x.good place ≡ true → is_vis v ≡ true → Sound (kind_form v x.head x.tail)

-- a kind that has a head
pub headed : (x : HeadFacts) → HeadTells x → (v : Vis) → is_vis v ≡ true → Sound (kind_form v (Some x.head) x.tail)
headed x t v g = record { tells = seen_tells v x g t; firm_is = seen_firm v x t }

-- each of the items within another one
record Within (items : List ItemFacts) : Type 0 where
  lined_are : All Lined (item_forms items)
  firm_are : All Firm (item_forms items)

within : (place : Site) (items : List ItemFacts) → Each ItemTells items → items_good place items ≡ true → Within items
within place [] k g = record { lined_are = tt; firm_are = tt }
within place (x ∷ xs) k g =
    let p = and_parts (x.good place) (items_good place xs) g in
    let s = k.0.go place p.0 in
    let r = within place xs k.1 p.1 in
    record { lined_are = (lined s.tells, r.lined_are); firm_are = (s.firm_is, r.firm_are) }

-- ---- bodies, and what begins with their brace

items_tell : {Next : List Word → Type 0} (place : Site) (lead : Bool) (attrs : List Attr) (items : List ItemFacts) → Each ItemTells items
    → are_attrs true attrs ≡ true → items_good place items ≡ true → Tells Next (item_body lead attrs items)
items_tell {Next} place lead attrs items k g h = by lead
  where
    es : List Form
    es = map attr_form attrs ++ item_forms items

    parts : Within items
    parts = within place items k h

    told : (lead : Bool) → Tells Next (body (lead_bits lead) [] es)
    told lead =
        calm_rows Any lead es (λ ws. tt)
        (lined_rows Any es (both_all Lined (map attr_form attrs) (item_forms items) (attrs_lined true attrs g) parts.lined_are)) (any_lead es)
        (first_of Calms es (calm_all es (both_all Firm (map attr_form attrs) (item_forms items) (attrs_firm attrs) parts.firm_are)))

    by : (lead : Bool) → Tells Next (item_body lead attrs items)
    by true = told true
    by false = told false

items_braced : (lead : Bool) (attrs : List Attr) (items : List ItemFacts) (ws : List Word) → Braced (words (item_body lead attrs items) ++ ws)
items_braced lead attrs items ws = body_braced lead false (map attr_form attrs ++ item_forms items) ws

-- What begins with a brace may follow a head, and a where clause.
braced_head : (ws : List Word) → Braced ws → AfterHead ws
braced_head ws b = subst AfterHead (sym b.1) refl

braced_wheres : (ws : List Word) → Braced ws → BehindWheres ws
braced_wheres ws b = subst BehindWheres (sym b.1) refl

behind_braced : (f : Form) (ws : List Word) → ((vs : List Word) → Braced (words f ++ vs)) → Braced (words (Part f Done) ++ ws)
behind_braced f ws k = subst Braced (sym (append_assoc (words f) [] ws)) (k ws)

-- a where clause, and a body
where_body : {Next : List Word → Type 0} {f : Form} (wheres : Wheres) → are_predicates wheres ≡ true → ((ws : List Word) → Braced (words f ++ ws)) → Tells Next f
    → Tells Next (Part (wheres_before_body wheres) f)
where_body {Next} {f} wheres g k t = part_to (λ ws n. braced_wheres (words f ++ ws) (k ws)) (wheres_body_tell wheres g) t

where_body_head : (f : Form) (wheres : Wheres) → ((ws : List Word) → Braced (words f ++ ws)) → (ws : List Word)
    → AfterHead (words (Part (wheres_before_body wheres) f) ++ ws)
where_body_head f wheres k ws =
    subst AfterHead (sym (append_assoc (words (wheres_before_body wheres)) (words f) ws))
    (after_head_body wheres (words f ++ ws) (braced_head (words f ++ ws) (k ws)))

-- ---- imports and modules

pub import_tells : (tree : UseTree) → HeadTells (about_import tree)
import_tells tree = record {
  head = fixed (keyword (codes "use") ∷ Blank ∷ []) refl (part (use_tells tree) ends);
  tail = fixed semicolon refl ends;
  follows = λ ws. refl;
  firm_is = firm_fixed (keyword (codes "use") ∷ Blank ∷ []) refl;
}

module_tells : {Next : List Word → Type 0} (name : Name) → Tells Next (module_head name)
module_tells name = fixed (keyword (codes "mod") ∷ Blank ∷ []) refl (word name.raw name.text ends)

pub file_module_tells : (name : Name) → HeadTells (about_file_module name)
file_module_tells name = record {
  head = module_tells name;
  tail = fixed semicolon refl ends;
  follows = λ ws. refl;
  firm_is = firm_fixed (keyword (codes "mod") ∷ Blank ∷ []) refl;
}

pub module_kind : (name : Name) (attrs : List Attr) (items : List ItemFacts) → Each ItemTells items → (about_module name attrs items).good ≡ true
    → HeadTells (about_module name attrs items)
module_kind name attrs items k g =
    let p = and_parts (is_name name.raw name.text && are_attrs true attrs) (items_good site.Module items) g in
    record {
      head = module_tells name;
      tail = items_tell site.Module true attrs items k (and_parts (is_name name.raw name.text) (are_attrs true attrs) p.0).1 p.1;
      follows = λ ws. braced_head (words (item_body true attrs items) ++ ws) (items_braced true attrs items ws);
      firm_is = firm_fixed (keyword (codes "mod") ∷ Blank ∷ []) refl;
    }

-- ---- functions, constants and statics

function_tail_tells : (wheres : Wheres) (b : Option BlockFacts) → Given BlockTells b → are_predicates wheres ≡ true → may_be_good b ≡ true
    → Plain (function_tail wheres b)
function_tail_tells wheres None k g h = part_to (λ ws n. refl) (wheres_semicolon_tell wheres g) (fixed semicolon refl ends)
function_tail_tells wheres (Some b) k g h =
    where_body wheres g (λ ws. behind_braced (b.form (leads wheres)) ws (k.braced (leads wheres))) (part (k.go (leads wheres) h) ends)

function_tail_head : (wheres : Wheres) (b : Option BlockFacts) → Given BlockTells b → (ws : List Word) → AfterHead (words (function_tail wheres b) ++ ws)
function_tail_head wheres None k ws =
    subst AfterHead (sym (append_assoc (words (wheres_before_semicolon wheres)) (words (piece semicolon)) ws))
    (after_head_semicolon wheres (words (piece semicolon) ++ ws) refl)
function_tail_head wheres (Some b) k ws =
    where_body_head (Part (b.form (leads wheres)) Done) wheres (λ vs. behind_braced (b.form (leads wheres)) vs (k.braced (leads wheres))) ws

pub function_kind : (place : Site) (head : FnHead) (wheres : Wheres) (b : Option BlockFacts) → Given BlockTells b
    → (about_function place head wheres b).good ≡ true → HeadTells (about_function place head wheres b)
function_kind place head wheres b k g =
    let p = and_parts (is_fn_head place head && are_predicates wheres && may_be_bodied place (is_some b)) (may_be_good b) g in
    let q = and_parts (is_fn_head place head && are_predicates wheres) (may_be_bodied place (is_some b)) p.0 in
    let r = and_parts (is_fn_head place head) (are_predicates wheres) q.0 in
    record {
      head = fn_head_tells place head r.0;
      tail = function_tail_tells wheres b k r.1 p.1;
      follows = λ ws. function_tail_head wheres b k ws;
      firm_is = fn_head_firm head;
    }

pub value_kind : (place : Site) (head : ValueHead) (value : Option ExprFacts) → Given ExprTells value → (about_value place head value).good ≡ true
    → HeadTells (about_value place head value)
value_kind place head value k g =
    let p = and_parts (is_value_head head && may_be_valued place head (is_some value)) (value_placed value) g in
    record {
      head = part (value_head_tells head (and_parts (is_value_head head) (may_be_valued place head (is_some value)) p.0).0) (value_tells value k p.1);
      tail = fixed semicolon refl ends;
      follows = λ ws. refl;
      firm_is = firm_part (value_head_firm head);
    }

-- ---- traits, implementations and foreign blocks

pub trait_kind : (head : TraitHead) (wheres : Wheres) (attrs : List Attr) (items : List ItemFacts) → Each ItemTells items
    → (about_trait head wheres attrs items).good ≡ true → HeadTells (about_trait head wheres attrs items)
trait_kind head wheres attrs items k g =
    let p = and_parts (is_trait_head head && are_predicates wheres && are_attrs true attrs) (items_good site.TraitMember items) g in
    let q = and_parts (is_trait_head head && are_predicates wheres) (are_attrs true attrs) p.0 in
    let r = and_parts (is_trait_head head) (are_predicates wheres) q.0 in
    let b = λ (ws : List Word). items_braced (leads wheres) attrs items ws in
    record {
      head = trait_head_tells head r.0;
      tail = where_body wheres r.1 b (items_tell site.TraitMember (leads wheres) attrs items k q.1 p.1);
      follows = where_body_head (item_body (leads wheres) attrs items) wheres b;
      firm_is = trait_head_firm head;
    }

pub impl_kind : (head : ImplHead) (wheres : Wheres) (attrs : List Attr) (items : List ItemFacts) → Each ItemTells items
    → (about_impl head wheres attrs items).good ≡ true → HeadTells (about_impl head wheres attrs items)
impl_kind head wheres attrs items k g =
    let p = and_parts (is_impl_head head && are_predicates wheres && are_attrs true attrs) (items_good site.Member items) g in
    let q = and_parts (is_impl_head head && are_predicates wheres) (are_attrs true attrs) p.0 in
    let r = and_parts (is_impl_head head) (are_predicates wheres) q.0 in
    let b = λ (ws : List Word). items_braced (leads wheres) attrs items ws in
    record {
      head = impl_head_tells head r.0;
      tail = where_body wheres r.1 b (items_tell site.Member (leads wheres) attrs items k q.1 p.1);
      follows = where_body_head (item_body (leads wheres) attrs items) wheres b;
      firm_is = impl_head_firm head;
    }

abi_tells : {Next : List Word → Type 0} (abi : Option Literal) → is_abi_name abi ≡ true → Tells Next (foreign_abi abi)
abi_tells None g = ends
abi_tells (Some l) g = fixed (Blank ∷ []) refl (string_tells l g ends)

pub foreign_kind : (is_unsafe : Bool) (abi : Option Literal) (attrs : List Attr) (items : List ItemFacts) → Each ItemTells items
    → (about_foreign is_unsafe abi attrs items).good ≡ true → HeadTells (about_foreign is_unsafe abi attrs items)
foreign_kind is_unsafe abi attrs items k g =
    let p = and_parts (is_abi_name abi && are_attrs true attrs) (items_good site.Foreign items) g in
    let q = and_parts (is_abi_name abi) (are_attrs true attrs) p.0 in
    record {
      head = whenever is_unsafe (keyword (codes "unsafe") ∷ Blank ∷ []) refl (fixed (keyword (codes "extern") ∷ []) refl (abi_tells abi q.0));
      tail = items_tell site.Foreign true attrs items k q.1 p.1;
      follows = λ ws. braced_head (words (item_body true attrs items) ++ ws) (items_braced true attrs items ws);
      firm_is = firm_when is_unsafe (keyword (codes "unsafe") ∷ Blank ∷ []) refl (firm_fixed (keyword (codes "extern") ∷ []) refl);
    }

-- ---- macros, which have no head

end_tells : (d : Delim) → Plain (end_form d)
end_tells Paren = fixed semicolon refl ends
end_tells Bracket = fixed semicolon refl ends
end_tells Brace = ends

rules_tell : (d : Delim) {f : Form} → Plain f → Plain (before_rules d f)
rules_tell Paren t = t
rules_tell Bracket t = t
rules_tell Brace t = fixed (Blank ∷ []) refl t

abbrev rules_word : List Bit
rules_word = keyword (codes "macro_rules") ∷ Operator (codes "!") ∷ Blank ∷ []

pub rules_sound : (name : Name) (rules : Group) → is_group rules ≡ true → Sound (rules_form name rules)
rules_sound name rules g = record {
  tells = fixed rules_word refl (word name.raw name.text (rules_tell rules.delim (group_tells rules g (end_tells rules.delim))));
  firm_is = firm_fixed rules_word refl;
}

pub call_sound : (call : MacroCall) → (about_call call).good ≡ true → Sound (call_item_form call)
call_sound call g = record { tells = part (call_tells call g) (end_tells call.tokens.delim); firm_is = firm_part (call_firm call g) }

-- ---- an item

-- an item whose kind tells its units
pub item_tells : (attrs : List Attr) (v : Vis) (kind : KindFacts) → KindTells kind
    → ItemTells (item_facts (record { attrs = attrs; vis = v; kind = kind }))
item_tells attrs v kind k = record {
  go = λ place g.
      let p = and_parts (are_attrs false attrs && is_vis v && (is_some kind.head || is_inherited v)) (kind.good place) g in
      let q = and_parts (are_attrs false attrs && is_vis v) (is_some kind.head || is_inherited v) p.0 in
      let r = and_parts (are_attrs false attrs) (is_vis v) q.0 in
      let s = k.go place v p.1 r.1 in
      deeper_sound (record {
        tells = attrs_then (map attr_form attrs) (attrs_lined false attrs r.0) (part s.tells ends);
        firm_is = attrs_firm_then (map attr_form attrs) (attrs_firm attrs) (firm_part s.firm_is);
      });
}
