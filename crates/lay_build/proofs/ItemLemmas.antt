-- Items that are built.
use Rattle.std.proofs.Common.{IfSome, ◌≡◌, ◌∙◌, inl, ◌+◌, max, Bool, true, false, ◌&&◌, not, List, [], ◌∷◌, map, Option, Some, None, refl, ap, arith}
use Rattle.std.specs.List.{AllByRecursion, list_all}
use Rattle.std.proofs.lemmas.Bool.{and_from}
use Rattle.lay_piece.specs.declared.kind.Delim.TheVariants.{Paren}
use Rattle.lay_form.specs.Depth.{least_depth}
use Rattle.lay_form.specs.Form.{Blank, Form, Done, Part, Piece, closer, opener}
use Rattle.lay_form.specs.Pieces.{are_pieces}
use Rattle.lay_node.specs.Words.{is_name, leaf_of}
use Rattle.lay_node.specs.nodes.Fields.{are_fields, field_form, is_field}
use Rattle.lay_node.specs.nodes.Functions.{are_fn_params, ends_variadic, fn_param_form, fn_params_form, head_output, is_fn_head, is_fn_param, is_receiver, may_be_type, receives_first, varies_last}
use Rattle.lay_node.specs.nodes.Generics.{generics_form}
use Rattle.lay_node.specs.nodes.Heads.{HeadFacts, about_struct, is_value_head, value_head_form}
use Rattle.lay_node.specs.nodes.Patterns.{about_pat, pat_good}
use Rattle.lay_node.specs.nodes.Types.{about_type, colon, good_at}
use Rattle.lay_node.specs.nodes.Vis.{is_vis, vis_form}
use Rattle.lay_node.specs.declared.fields.Fields.TheVariants as fields
use Rattle.lay_node.specs.declared.functions.FnHead.{FnHead}
use Rattle.lay_node.specs.declared.functions.Param.{Param}
use Rattle.lay_node.specs.declared.heads.Site.TheVariants.{Module}
use Rattle.lay_node.specs.declared.heads.Struct.{Struct}
use Rattle.lay_node.specs.declared.heads.ValueHead.{ValueHead}
use Rattle.lay_node.specs.declared.heads.ValueHead.TheVariants as head
use Rattle.lay_node.specs.declared.patterns.PatPlace.TheVariants.{Single}
use Rattle.lay_node.specs.declared.token.GivenName.TheVariants as given_name
use Rattle.lay_node.specs.declared.token.Name.{Name}
use Rattle.lay_node.specs.declared.types.Ty.{Ty}
use Rattle.lay_node.specs.declared.types.TypePlace.TheVariants.{Bounds}
use Rattle.lay_code.specs.nodes.Code.{about_expr, about_block, told_of_item, told_of_kind}
use Rattle.lay_code.specs.nodes.CodeFacts.{ItemFacts, KindFacts}
use Rattle.lay_code.specs.nodes.Exprs.{placed, value_form}
use Rattle.lay_code.specs.nodes.Item.{about_function, about_module, about_value, in_modules, item_facts, item_forms, items_good}
use Rattle.lay_code.specs.nodes.Places.{FREE}
use Rattle.lay_code.specs.declared.blocks.Block.{Block}
use Rattle.lay_code.specs.declared.exprs.Expr.{Expr}
use Rattle.lay_code.specs.declared.item.Item.{Item}
use Rattle.lay_code.specs.declared.item.ItemKind.{ItemKind}
use Rattle.lay_code.specs.declared.item.ItemKind.TheVariants as item
use Rattle.lay_code.proofs.nodes.ItemLaws as laws
use Rattle.lay_depth.specs.nodes.Depths.{greatest, type_if}
use Rattle.lay_depth.proofs.nodes_lemmas.Forms.{fields_are, leaf_is, list_is}
use Rattle.lay_depth.proofs.ItemLemmas as depths
use Rattle.lay_build_types.specs.Answers.{IsKept, IsMade, need_if}
use Rattle.lay_build_types.specs.Kinds as kinds
use Rattle.lay_build_types.specs.Kinds.{IsItem, IsName, form_of_block, form_of_expr, form_of_name, form_of_type}
use Rattle.lay_build.specs.Kinds.{IsParam, form_of_param}
use Rattle.lay_build.specs.Nodes as node
use Rattle.lay_build.specs.declared.kinds.NamedType.{NamedType}
use Rattle.lay_build.proofs.BlockLemmas.{bind_good, bind_need, bind_pieces}
use Rattle.lay_build_exprs.proofs.BranchLemmas as blocks
use Rattle.lay_build_exprs.proofs.BranchLemmas.{KeptBlock, body_pieces_at}
use Rattle.lay_build_exprs.proofs.ExprLemmas.{KeptExpr, stands_free}
use Rattle.lay_build_types.proofs.PathLemmas.{KeptName}
use Rattle.lay_build_types.proofs.PieceLemmas.{AllPieces, Pieces, body_pieces, ended, fields_pieces, front, leaf_parts, leaf_pieces, list_pieces}
use Rattle.lay_build_types.proofs.TypeLemmas.{KeptType, bounded, type_some}

abbrev pub KeptItem : Item → Type 0
KeptItem i = IsKept kinds.form_of_item IsItem i

abbrev pub KeptItems : List Item → Type 0
KeptItems is = AllByRecursion KeptItem is

-- ---- an item of a kind with a head

-- what is asked of what an item is, in a module
record GoodKind (facts : HeadFacts) : Type 0 where
  head : Pieces facts.head
  tail : Pieces facts.tail
  good : facts.good ≡ true

vis_pieces : (public : Bool) → Pieces (vis_form (node.visibility public))
vis_pieces true = refl
vis_pieces false = refl

vis_good : (public : Bool) → is_vis (node.visibility public) ≡ true
vis_good true = refl
vis_good false = refl

module _ (public : Bool) (kind : ItemKind) (facts : HeadFacts) (told : KindFacts) (is : told_of_kind kind ≡ told) (headed : told.head ≡ Some facts.head)
    (tailed : told.tail ≡ facts.tail) (welled : told.good Module ≡ true) (h : GoodKind facts) where
  item_made : IsMade kinds.form_of_item IsItem (node.item_of public kind)
  item_made =
      let v = node.visibility public in
      let x : ItemFacts = item_facts (record { attrs = []; vis = v; kind = told }) in
      let same : told_of_item (node.item_of public kind) ≡ x =
      laws.item_is (node.item_of public kind) ∙ ap (λ (k : KindFacts). item_facts (record { attrs = []; vis = v; kind = k })) is in
      let form : are_pieces x.form ≡ (are_pieces (vis_form v) && are_pieces facts.head && are_pieces facts.tail && true) && true =
      rw (headed, tailed) refl in
      let pieces = ended (are_pieces (vis_form v) && are_pieces facts.head && are_pieces facts.tail && true)
      (ended (are_pieces (vis_form v) && are_pieces facts.head && are_pieces facts.tail)
      (and_from (are_pieces (vis_form v) && are_pieces facts.head) (are_pieces facts.tail)
      (and_from (are_pieces (vis_form v)) (are_pieces facts.head) (vis_pieces public) h.head) h.tail)) in
      let good : x.good Module ≡ true = rw (headed, welled, vis_good public) refl in
      record {
        pieces = ap (λ (f : ItemFacts). are_pieces f.form) same ∙ form ∙ pieces;
        holding = ap (λ (f : ItemFacts). f.good Module) same ∙ good;
      }

-- ---- names with types

abbrev pub KeptParam : NamedType → Type 0
KeptParam x = IsKept form_of_param IsParam x

abbrev pub KeptParams : List NamedType → Type 0
KeptParams xs = AllByRecursion KeptParam xs

module _ (x : NamedType) where
  abbrev typed : Form
  typed = Piece colon (Part (form_of_type x.ty) Done)

  pub param_made : KeptName x.name → KeptType x.ty → IsMade form_of_param IsParam x
  param_made name ty = record {
    pieces = ended _ (leaf_pieces x.name.raw x.name.text typed name.made.pieces (ended (are_pieces (form_of_type x.ty)) ty.made.pieces));
    holding = (name.made.holding, ty.made.holding);
  }

  pub param_need : least_depth (form_of_param x) ≡ least_depth (form_of_type x.ty) + 1
  param_need = let h = leaf_is x.name.raw x.name.text typed in omega (arith, h)

  -- a field of a struct
  field_pieces : KeptParam x → Pieces (field_form (node.field_of x))
  field_pieces kept = front _ kept.made.pieces

  field_good : KeptParam x → is_field (node.field_of x) ≡ true
  field_good kept =
      and_from (is_name x.name.raw x.name.text) (good_at Bounds (about_type x.ty)) kept.made.holding.0 (bounded (about_type x.ty) kept.made.holding.1)

  field_depth : least_depth (form_of_param x) ≡ least_depth (field_form (node.field_of x)) + 1
  field_depth = let h = leaf_is x.name.raw x.name.text typed in omega (arith, h)

-- ---- structs

fields_pieces_of : (xs : List NamedType) → KeptParams xs → AllPieces (map field_form (map node.field_of xs))
fields_pieces_of [] all = tt
fields_pieces_of (x ∷ xs) all = (field_pieces x all.0, fields_pieces_of xs all.1)

fields_good : (xs : List NamedType) → KeptParams xs → are_fields (fields.Named (map node.field_of xs)) ≡ true
fields_good [] all = refl
fields_good (x ∷ xs) all =
    and_from (is_field (node.field_of x)) (are_fields (fields.Named (map node.field_of xs))) (field_good x all.0) (fields_good xs all.1)

fields_depth : (xs : List NamedType) → max (greatest (map form_of_param xs)) 1 ≡ greatest (map field_form (map node.field_of xs)) + 1
fields_depth [] = refl
fields_depth (x ∷ xs) =
    let one = field_depth x in
    let more = fields_depth xs in omega (arith, one, more)

module _ (public : Bool) (n : Name) (xs : List NamedType) where
  abbrev the_struct : Struct
  the_struct = record { name = n; generics = node.no_generics; fields = fields.Named (map node.field_of xs); wheres = node.no_wheres }

  pub struct_made : KeptName n → KeptParams xs → IsMade kinds.form_of_item IsItem (node.item_struct public n xs)
  struct_made name all =
      let facts = about_struct the_struct in
      let named = fields_pieces (Blank ∷ []) (map field_form (map node.field_of xs)) (fields_pieces_of xs all) in
      let h : GoodKind facts = record {
        head = leaf_pieces n.raw n.text _ name.made.pieces refl;
        tail = named;
        good = ended _ (and_from (is_name n.raw n.text && true) (are_fields (fields.Named (map node.field_of xs))) (ended (is_name n.raw n.text) name.made.holding) (fields_good xs all));
      } in
      item_made public (item.Struct the_struct) facts (in_modules facts) (laws.struct_is the_struct) refl refl (ended facts.good h.good) h

  pub struct_need : least_depth (kinds.form_of_item (node.item_struct public n xs)) ≡ max (greatest (map form_of_param xs)) 1
  struct_need =
      let one = depths.item_is (node.item_struct public n xs) in
      let kind = depths.struct_is (item.Struct the_struct) the_struct refl in
      let h = leaf_is n.raw n.text (Part (generics_form node.no_generics) (Part Done Done)) in
      let named = fields_are (Blank ∷ []) (map field_form (map node.field_of xs)) in
      let deepest = fields_depth xs in omega (arith, one, kind, h, named, deepest)

-- ---- constants

module _ (public : Bool) (n : Name) (ty : Ty) (x : Expr) where
  abbrev the_head : ValueHead
  the_head = head.Const (given_name.Name n) ty

  pub const_made : KeptName n → KeptType ty → KeptExpr x → IsMade kinds.form_of_item IsItem (node.item_const public n ty x)
  const_made name asked value =
      let facts = about_value Module the_head (Some (about_expr x)) in
      let t = are_pieces (form_of_type ty) in
      let v = are_pieces (form_of_expr x) in
      let h : GoodKind facts = record {
        head = and_from (are_pieces (value_head_form the_head)) (are_pieces (value_form (Some (about_expr x))))
            (leaf_pieces n.raw n.text (Piece colon (Part (form_of_type ty) Done)) name.made.pieces (ended t asked.made.pieces)) (ended v value.made.pieces);
        tail = refl;
        good = and_from (is_value_head the_head && true) (placed (about_expr x) FREE)
            (ended (is_value_head the_head) (and_from (is_name n.raw n.text) (good_at Bounds (about_type ty)) name.made.holding (bounded (about_type ty) asked.made.holding)))
            (stands_free (about_expr x) value.made.holding);
      } in
      item_made public (item.Value the_head (Some x)) facts _ (laws.value_is the_head (Some x)) refl refl h.good h

  pub const_need : least_depth (kinds.form_of_item (node.item_const public n ty x)) ≡ max (least_depth (form_of_expr x)) (least_depth (form_of_type ty)) + 1
  const_need =
      let one = depths.item_is (node.item_const public n ty x) in
      let kind = depths.valued_is (item.Value the_head (Some x)) the_head (Some x) refl in
      let h = leaf_is n.raw n.text (Piece colon (Part (form_of_type ty) Done)) in omega (arith, one, kind, h)

-- ---- functions

module _ (x : NamedType) (kept : KeptParam x) where
  abbrev parts_of_param : Pieces (leaf_of x.name.raw x.name.text Done) × Pieces (typed x)
  parts_of_param = leaf_parts x.name.raw x.name.text (typed x) (front (are_pieces (leaf_of x.name.raw x.name.text (typed x))) kept.made.pieces)

  name_of_param : IsMade form_of_name IsName x.name
  name_of_param = record { pieces = parts_of_param.0; holding = kept.made.holding.0 }

  param_pieces : Pieces (fn_param_form (node.param_of x))
  param_pieces =
      let p = are_pieces (about_pat (node.bind x.name)).told.form in
      let t = are_pieces (typed x) in
      ended (p && t) (and_from p t (bind_pieces x.name name_of_param) parts_of_param.1)

  param_good : is_fn_param (node.param_of x) ≡ true
  param_good =
      and_from (pat_good Single (about_pat (node.bind x.name))) (good_at Bounds (about_type x.ty)) (bind_good x.name name_of_param)
      (bounded (about_type x.ty) kept.made.holding.1)

-- The pattern needs 1, and the type what it does.
param_depth : (x : NamedType) → least_depth (form_of_param x) ≡ least_depth (fn_param_form (node.param_of x)) + 1
param_depth x =
    let p = bind_need x.name in
    let t = param_need x in
    let some = type_some x.ty in omega (arith, p, t, some)

params_pieces : (xs : List NamedType) → KeptParams xs → AllPieces (map fn_param_form (map node.param_of xs))
params_pieces [] all = tt
params_pieces (x ∷ xs) all = (param_pieces x all.0, params_pieces xs all.1)

params_good : (xs : List NamedType) → KeptParams xs → list_all is_fn_param (map node.param_of xs) ≡ true
params_good [] all = refl
params_good (x ∷ xs) all =
    and_from (is_fn_param (node.param_of x)) (list_all is_fn_param (map node.param_of xs)) (param_good x all.0) (params_good xs all.1)

-- None of them is a receiver, or takes further arguments.
abbrev no_receiver : Param → Bool
no_receiver p = not (is_receiver p.kind)

none_receives : (xs : List NamedType) → list_all no_receiver (map node.param_of xs) ≡ true
none_receives [] = refl
none_receives (x ∷ xs) = none_receives xs

first_receives : (xs : List NamedType) → receives_first (map node.param_of xs) ≡ true
first_receives [] = refl
first_receives (x ∷ xs) = none_receives xs

last_varies : (xs : List NamedType) → varies_last (map node.param_of xs) ≡ true
last_varies [] = refl
last_varies (x ∷ []) = refl
last_varies (x ∷ y ∷ xs) = last_varies (y ∷ xs)

params_depth : (xs : List NamedType) → max (greatest (map form_of_param xs)) 1 ≡ greatest (map fn_param_form (map node.param_of xs)) + 1
params_depth [] = refl
params_depth (x ∷ xs) =
    let one = param_depth x in
    let more = params_depth xs in omega (arith, one, more)

output_pieces : (t : Option Ty) → IfSome t KeptType → Pieces (head_output t)
output_pieces None h = refl
output_pieces (Some t) h = ended (are_pieces (form_of_type t)) h.made.pieces

output_good : (t : Option Ty) → IfSome t KeptType → may_be_type t ≡ true
output_good None h = refl
output_good (Some t) h = bounded (about_type t) h.made.holding

output_depth : (t : Option Ty) → least_depth (head_output t) ≡ type_if t
output_depth None = refl
output_depth (Some t) = omega arith

output_need : (t : Option Ty) → type_if t ≡ need_if form_of_type t
output_need None = refl
output_need (Some t) = refl

module _ (public : Bool) (n : Name) (xs : List NamedType) (output : Option Ty) (body : Block) where
  abbrev the_fn : FnHead
  the_fn = record {
    is_const = false;
    is_async = false;
    safety = None;
    abi = None;
    name = n;
    generics = node.no_generics;
    params = map node.param_of xs;
    output = output;
  }

  pub fn_made : KeptName n → KeptParams xs → IfSome output KeptType → KeptBlock body
      → IsMade kinds.form_of_item IsItem (node.item_fn public n xs output body)
  fn_made name all asked kept =
      let facts = about_function Module the_fn node.no_wheres (Some (about_block body)) in
      let ps = map node.param_of xs in
      let listed = list_pieces (not (ends_variadic ps)) (opener Paren) (closer Paren) (map fn_param_form ps) (params_pieces xs all) in
      let l = are_pieces (fn_params_form ps) in
      let o = are_pieces (head_output output) in
      let b = are_pieces ((about_block body).form true) in
      let named = is_name n.raw n.text in
      let h : GoodKind facts = record {
        head = leaf_pieces n.raw n.text _ name.made.pieces (and_from l (o && true) listed (ended o (output_pieces output asked)));
        tail = ended b (body_pieces_at body kept true);
        good = and_from (is_fn_head Module the_fn && true && true) (about_block body).good
            (ended (is_fn_head Module the_fn && true) (ended (is_fn_head Module the_fn)
            (and_from (named && true && are_fn_params ps) (may_be_type output)
            (and_from (named && true) (are_fn_params ps) (ended named name.made.holding)
            (and_from (list_all is_fn_param ps && receives_first ps) (varies_last ps)
            (and_from (list_all is_fn_param ps) (receives_first ps) (params_good xs all) (first_receives xs)) (last_varies xs)))
            (output_good output asked)))) kept.made.holding;
      } in
      item_made public (item.Function the_fn node.no_wheres (Some body)) facts _ (laws.function_is the_fn node.no_wheres (Some body)) refl refl h.good h

  pub fn_need : least_depth (kinds.form_of_item (node.item_fn public n xs output body))
      ≡ max (max (greatest (map form_of_param xs)) (need_if form_of_type output + 1)) (least_depth (form_of_block body))
  fn_need =
      let one = depths.item_is (node.item_fn public n xs output body) in
      let kind = depths.function_is (item.Function the_fn node.no_wheres (Some body)) the_fn node.no_wheres (Some body) refl in
      let ps = map node.param_of xs in
      let h = leaf_is n.raw n.text (Part (generics_form node.no_generics) (Part (fn_params_form ps) (Part (head_output output) Done))) in
      let listed = list_is (not (ends_variadic ps)) (opener Paren) (closer Paren) (map fn_param_form ps) in
      let answered = output_depth output in
      let deepest = params_depth xs in
      let behind = output_need output in
      let within = blocks.block_need body true in omega (arith, one, kind, h, listed, answered, deepest, behind, within)

-- ---- modules

items_pieces : (is : List Item) → KeptItems is → AllPieces (item_forms (map told_of_item is))
items_pieces [] all = tt
items_pieces (i ∷ is) all = (all.0.made.pieces, items_pieces is all.1)

items_good_of : (is : List Item) → KeptItems is → items_good Module (map told_of_item is) ≡ true
items_good_of [] all = refl
items_good_of (i ∷ is) all =
    and_from ((told_of_item i).good Module) (items_good Module (map told_of_item is)) all.0.made.holding (items_good_of is all.1)

module _ (public : Bool) (n : Name) (is : List Item) where
  pub mod_made : KeptName n → KeptItems is → IsMade kinds.form_of_item IsItem (node.item_mod public n is)
  mod_made name all =
      let facts = about_module n [] (map told_of_item is) in
      let named = is_name n.raw n.text in
      let h : GoodKind facts = record {
        head = leaf_pieces n.raw n.text Done name.made.pieces refl;
        tail = body_pieces (Blank ∷ []) [] (item_forms (map told_of_item is)) (items_pieces is all);
        good = and_from (named && true) (items_good Module (map told_of_item is)) (ended named name.made.holding) (items_good_of is all);
      } in
      item_made public (item.Module n [] is) facts (in_modules facts) (laws.module_is n [] is) refl refl (ended facts.good h.good) h

  pub mod_need : least_depth (kinds.form_of_item (node.item_mod public n is)) ≡ greatest (map kinds.form_of_item is) + 1
  mod_need =
      let one = depths.item_is (node.item_mod public n is) in
      let kind = depths.listed_is (item.Module n [] is) is (inl (n, [], refl)) in omega (arith, one, kind)
