-- Statements, blocks, conditions, arms and items: their tokens are pieces exactly where they are without parentheses.
use Rattle.std.proofs.Common.{◌≡◌, codes, Bool, true, false, ◌&&◌, if◌then◌else◌, List, [], ◌∷◌, map, Option, Some, None, option_map, refl, sym, ap, ap₂, ◌∙◌}
use Rattle.lay_form.specs.Form.{Blank, Form, Done, Part, Piece, keyword, semicolon}
use Rattle.lay_form.specs.Notation.{behind_attrs, piece, soft}
use Rattle.lay_form.specs.Pieces.{are_pieces}
use Rattle.lay_node.specs.declared.attr.Attr.{Attr}
use Rattle.lay_node.specs.declared.patterns.Pat.{Pat}
use Rattle.lay_node.specs.declared.patterns.PatPlace.TheVariants.{Alternatives, Single}
use Rattle.lay_node.specs.declared.token.Literal.{Literal}
use Rattle.lay_node.specs.declared.types.Ty.{Ty}
use Rattle.lay_node.specs.declared.vis.Vis.{Vis}
use Rattle.lay_node.specs.nodes.Attr.{attr_form}
use Rattle.lay_node.specs.nodes.Fields.{blank_if}
use Rattle.lay_node.specs.nodes.Functions.{fn_head_form}
use Rattle.lay_node.specs.nodes.Heads.{impl_head_form, leads, trait_head_form, unsafe_form, value_head_form}
use Rattle.lay_node.specs.nodes.Patterns.{about_pat, pat_form}
use Rattle.lay_node.specs.nodes.Types.{about_type}
use Rattle.lay_node.specs.nodes.Vis.{vis_form}
use Rattle.lay_node.specs.nodes.Where.{wheres_before_body}
use Rattle.lay_code.specs.nodes.Blocks.{arm_form, attrs_before, block_form, dropped, dropped_if, else_form, ended_form, guard_form, is_plain, let_form, let_type, soft_form, stmt_facts, stmt_form}
use Rattle.lay_code.specs.nodes.Code.{about_arm, about_block, about_branch, about_condition, about_expr, about_link, about_stmt, told_of_item, told_of_kind}
use Rattle.lay_code.specs.nodes.CodeFacts.{ArmFacts, BlockFacts, BranchFacts, ConditionFacts, ItemFacts, KindFacts, LinkFacts, StmtFacts}
use Rattle.lay_code.specs.nodes.Conditions.{condition_form, link_facts, links_form}
use Rattle.lay_code.specs.nodes.Exprs.{ExprFacts, value_form}
use Rattle.lay_code.specs.nodes.Item.{foreign_abi, item_body, item_forms, kind_facts, kind_form, module_head}
use Rattle.lay_code.specs.nodes.Layers.{ArmNode, BlockNode, BranchNode, ConditionNode, ItemNode}
use Rattle.lay_code.specs.declared.blocks.Arm.{Arm}
use Rattle.lay_code.specs.declared.blocks.Block.{Block}
use Rattle.lay_code.specs.declared.blocks.Branch.{Branch}
use Rattle.lay_code.specs.declared.blocks.Stmt.{Stmt}
use Rattle.lay_code.specs.declared.blocks.Stmt.TheOpen.{ItemKind-F, Link-F, Stmt-F}
use Rattle.lay_code.specs.declared.blocks.Stmt.TheViews as views
use Rattle.lay_code.specs.declared.conditions.Condition.{Condition}
use Rattle.lay_code.specs.declared.conditions.Link.{Link}
use Rattle.lay_code.specs.declared.exprs.Expr.{Expr}
use Rattle.lay_code.specs.declared.item.Item.{Item}
use Rattle.lay_code.specs.declared.item.ItemKind.{ItemKind}
use Rattle.lay_code.proofs.nodes.BlocksLaws.{arm_is, block_is, branch_is, condition_is}
use Rattle.lay_code.proofs.nodes.ItemLaws.{item_is}
use Rattle.lay_code.proofs.nodes.Layers.{kind_is, kind_told, link_is, link_told, stmt_is, stmt_told}
use Rattle.lay_paren.specs.Erased.{erase}
use Rattle.lay_paren.proofs.ErasedFolds.{arm_without_is, block_erased, block_without_is, branch_without_is, condition_erased, condition_without_is, item_erased, item_without_is, kind_erased, kind_without, kind_without_is, link_erased, link_without, link_without_is, stmt_erased, stmt_without, stmt_without_is}
use Rattle.lay_paren.proofs.PiecesForms.{Alike, Like, alike_joined, alike_same, attrs_like, body_like, deeper, nodes_alike}
use Rattle.lay_paren.proofs.PiecesSame.{ArmSame, BlockSame, BranchSame, ConditionSame, ItemSame, KindSame, LinkSame, Same, SameBlock, SameCondition, SameExpr, SameItem, SameLink, SameStmt, StmtSame, kind_layer, link_layer, stmt_layer}

-- ---- statements

type_like : (ty : Option Ty) (f g : Form) → Like f g → Like (let_type ty f) (let_type ty g)
type_like None f g h = h
type_like (Some x) f g h = ap (λ (b : Bool). are_pieces (about_type x).told.form && b) h

let_like : (attrs : List Attr) (pat : Pat) (ty : Option Ty) (x z : Option ExprFacts) (b c : Option BlockFacts)
    → Like (value_form x) (value_form z) → Like (else_form b) (else_form c) → Like (let_form attrs pat ty x b) (let_form attrs pat ty z c)
let_like attrs pat ty x z b c h k =
    let rest = λ (y : Option ExprFacts) (d : Option BlockFacts). Part (value_form y) (Part (else_form d) (piece semicolon)) in
    let after = λ (y : Option ExprFacts) (d : Option BlockFacts). Part (pat_form Single (about_pat pat)) (let_type ty (rest y d)) in
    attrs_like (map attr_form attrs) (Piece (keyword (codes "let") ∷ Blank ∷ []) (after x b)) (Piece (keyword (codes "let") ∷ Blank ∷ []) (after z c))
    (ap (λ (a : Bool). are_pieces (pat_form Single (about_pat pat)) && a)
    (type_like ty (rest x b) (rest z c) (ap₂ (λ (a d : Bool). a && (d && true)) h k)))

stmt_same : (y : Same Stmt-F) → Like (stmt_facts (stmt_told (stmt_without (stmt_layer y)))).form (stmt_facts (stmt_told (stmt_layer y))).form
stmt_same (Stmt-F.Stmt::Let attrs pat ty None None) = refl
stmt_same (Stmt-F.Stmt::Let attrs pat ty (Some x) None) =
    let_like attrs pat ty (Some (about_expr (erase x.0))) (Some (about_expr x.0)) None None (deeper _ _ x.1) refl
stmt_same (Stmt-F.Stmt::Let attrs pat ty None (Some b)) =
    let_like attrs pat ty None None (Some (about_block (block_erased b.0))) (Some (about_block b.0)) refl (deeper _ _ (b.1.form true))
stmt_same (Stmt-F.Stmt::Let attrs pat ty (Some x) (Some b)) =
    let_like attrs pat ty (Some (about_expr (erase x.0))) (Some (about_expr x.0)) (Some (about_block (block_erased b.0))) (Some (about_block b.0))
    (deeper _ _ x.1) (deeper _ _ (b.1.form true))
stmt_same (Stmt-F.Item i) = i.1
stmt_same (Stmt-F.Stmt::Expr attrs x ended) =
    attrs_like (map attr_form attrs) (Part (about_expr (erase x.0)).form (ended_form ended)) (Part (about_expr x.0).form (ended_form ended))
    (ap (λ (b : Bool). b && are_pieces (ended_form ended)) x.1)

pub stmt_pieces : (y : Same Stmt-F) → StmtSame (views.roll-Stmt (stmt_layer y))
stmt_pieces y =
    ap (λ (x : Stmt). are_pieces (about_stmt x).form) (stmt_without_is (stmt_layer y))
    ∙ ap (λ (F : StmtFacts). are_pieces F.form) (stmt_is (stmt_without (stmt_layer y))) ∙ stmt_same y
    ∙ sym (ap (λ (F : StmtFacts). are_pieces F.form) (stmt_is (stmt_layer y)))

-- ---- blocks

-- what may follow a statement is no token of the tree
stmt_form_pieces : (s : StmtFacts) → are_pieces (stmt_form s) ≡ (are_pieces s.form && true)
stmt_form_pieces s = by s.unended
  where
    by : (b : Bool) → are_pieces (if b then Part s.form Done else Part s.form (piece dropped)) ≡ (are_pieces s.form && true)
    by true = refl
    by false = refl

abbrev told_stmts : List Stmt → List StmtFacts
told_stmts xs = map about_stmt xs

abbrev stmt_trees : List SameStmt → List Stmt
stmt_trees ys = map (λ (y : SameStmt). y.0) ys

stmts_alike : (ys : List SameStmt) → Alike (map stmt_form (told_stmts (map stmt_erased (stmt_trees ys)))) (map stmt_form (told_stmts (stmt_trees ys)))
stmts_alike ys =
    nodes_alike StmtSame stmt_form about_stmt stmt_erased
    (λ x is. stmt_form_pieces (about_stmt (stmt_erased x)) ∙ deeper _ _ is ∙ sym (stmt_form_pieces (about_stmt x))) ys

block_form_same : (attrs : List Attr) (ys : List SameStmt) (lead : Bool)
    → Like (block_form attrs (told_stmts (map stmt_erased (stmt_trees ys))) lead) (block_form attrs (told_stmts (stmt_trees ys)) lead)
block_form_same attrs ys lead =
    body_like (blank_if lead) (dropped_if (is_plain attrs)) _ _
    (alike_joined _ _ _ _ (alike_same (attrs_before (map attr_form attrs))) (stmts_alike ys))

-- A block of one expression is its statement, however it is laid out.
single_pieces : (s : StmtFacts) → are_pieces (soft_form [] (s ∷ [])) ≡ are_pieces s.form
single_pieces s = by s.bare
  where
    padded : (a : Bool) → ((((a && true) && true) && true) && true) ≡ a
    padded true = refl
    padded false = refl

    soft_pieces : (a : Bool) → ((a && true) && true) ≡ a
    soft_pieces true = refl
    soft_pieces false = refl

    by : (b : Bool) → are_pieces (if b then soft s.form else block_form [] (s ∷ []) true) ≡ are_pieces s.form
    by true = soft_pieces (are_pieces s.form)
    by false = ap (λ (a : Bool). ((a && true) && true) && true) (stmt_form_pieces s) ∙ padded (are_pieces s.form)

soft_same : (attrs : List Attr) (ys : List SameStmt)
    → Like (soft_form attrs (told_stmts (map stmt_erased (stmt_trees ys)))) (soft_form attrs (told_stmts (stmt_trees ys)))
soft_same [] [] = refl
soft_same [] (y ∷ []) = single_pieces (about_stmt (stmt_erased y.0)) ∙ y.1 ∙ sym (single_pieces (about_stmt y.0))
soft_same [] (y ∷ z ∷ more) = block_form_same [] (y ∷ z ∷ more) true
soft_same (a ∷ others) ys = block_form_same (a ∷ others) ys true

abbrev block_node : List Attr → List Stmt → BlockNode
block_node attrs stmts = record { attrs = attrs; stmts = stmts }

pub block_pieces : (attrs : List Attr) (ys : List SameStmt) → BlockSame (views.roll-Block (block_node attrs (stmt_trees ys)))
block_pieces attrs ys =
    let all = map stmt_erased (stmt_trees ys) in
    let e = block_without_is (block_node attrs (stmt_trees ys)) in
    record {
      form = λ lead.
          ap (λ (b : Block). are_pieces ((about_block b).form lead)) e
          ∙ ap (λ (F : BlockFacts). are_pieces (F.form lead)) (block_is (views.roll-Block (block_node attrs all))) ∙ block_form_same attrs ys lead
          ∙ sym (ap (λ (F : BlockFacts). are_pieces (F.form lead)) (block_is (views.roll-Block (block_node attrs (stmt_trees ys)))));
      soft =
          ap (λ (b : Block). are_pieces (about_block b).soft) e
          ∙ ap (λ (F : BlockFacts). are_pieces F.soft) (block_is (views.roll-Block (block_node attrs all))) ∙ soft_same attrs ys
          ∙ sym (ap (λ (F : BlockFacts). are_pieces F.soft) (block_is (views.roll-Block (block_node attrs (stmt_trees ys)))));
    }

-- ---- links and conditions

link_same : (y : Same Link-F) → Like (link_facts (link_told (link_without (link_layer y)))).form (link_facts (link_told (link_layer y))).form
link_same (Link-F.Link::Expr x) = x.1
link_same (Link-F.Link::Let pat x) = ap (λ (b : Bool). are_pieces (pat_form Alternatives (about_pat pat)) && (b && true)) x.1

pub link_pieces : (y : Same Link-F) → LinkSame (views.roll-Link (link_layer y))
link_pieces y =
    ap (λ (x : Link). are_pieces (about_link x).form) (link_without_is (link_layer y))
    ∙ ap (λ (F : LinkFacts). are_pieces F.form) (link_is (link_without (link_layer y))) ∙ link_same y
    ∙ sym (ap (λ (F : LinkFacts). are_pieces F.form) (link_is (link_layer y)))

abbrev link_trees : List SameLink → List Link
link_trees ys = map (λ (y : SameLink). y.0) ys

links_like : (ys : List SameLink) → Like (links_form (map about_link (map link_erased (link_trees ys)))) (links_form (map about_link (link_trees ys)))
links_like [] = refl
links_like (y ∷ ys) = ap₂ (λ (a b : Bool). a && b) y.1 (links_like ys)

condition_like : (ys : List SameLink)
    → Like (condition_form (map about_link (map link_erased (link_trees ys)))) (condition_form (map about_link (link_trees ys)))
condition_like [] = refl
condition_like (y ∷ []) = y.1
condition_like (y ∷ z ∷ more) = ap₂ (λ (a b : Bool). (a && b) && true) y.1 (links_like (z ∷ more))

abbrev condition_node : List Link → ConditionNode
condition_node links = record { links = links }

pub condition_pieces : (ys : List SameLink) → ConditionSame (views.roll-Condition (condition_node (link_trees ys)))
condition_pieces ys =
    let all = map link_erased (link_trees ys) in
    ap (λ (c : Condition). are_pieces (about_condition c).form) (condition_without_is (condition_node (link_trees ys)))
    ∙ ap (λ (F : ConditionFacts). are_pieces F.form) (condition_is (views.roll-Condition (condition_node all))) ∙ condition_like ys
    ∙ sym (ap (λ (F : ConditionFacts). are_pieces F.form) (condition_is (views.roll-Condition (condition_node (link_trees ys)))))

-- ---- branches and arms

abbrev branch_node : Condition → Block → BranchNode
branch_node c b = record { condition = c; body = b }

pub branch_pieces : (c : SameCondition) (b : SameBlock) → BranchSame (views.roll-Branch (branch_node c.0 b.0))
branch_pieces c b =
    let e = branch_without_is (branch_node c.0 b.0) in
    let all = views.roll-Branch (branch_node (condition_erased c.0) (block_erased b.0)) in
    let node = views.roll-Branch (branch_node c.0 b.0) in
    record {
      condition =
          ap (λ (x : Branch). are_pieces (about_branch x).condition) e ∙ ap (λ (F : BranchFacts). are_pieces F.condition) (branch_is all) ∙ c.1
          ∙ sym (ap (λ (F : BranchFacts). are_pieces F.condition) (branch_is node));
      soft =
          ap (λ (x : Branch). are_pieces (about_branch x).soft) e ∙ ap (λ (F : BranchFacts). are_pieces F.soft) (branch_is all) ∙ b.1.soft
          ∙ sym (ap (λ (F : BranchFacts). are_pieces F.soft) (branch_is node));
    }

abbrev arm_node : List Attr → Pat → Option Expr → Expr → ArmNode
arm_node attrs pat guard x = record { attrs = attrs; pat = pat; guard = guard; body = x }

arm_like : (attrs : List Attr) (pat : Pat) (g h : Option ExprFacts) (x y : ExprFacts) (last : Bool) → Like (guard_form g) (guard_form h)
    → Like x.form y.form → Like (arm_form attrs pat g x last) (arm_form attrs pat h y last)
arm_like attrs pat g h x y last e f =
    attrs_like (map attr_form attrs) _ _ (ap₂ (λ (a b : Bool). (are_pieces (pat_form Alternatives (about_pat pat)) && a) && (b && true)) e f)

pub arm_pieces : (attrs : List Attr) (pat : Pat) (guard : Option SameExpr) (x : SameExpr)
    → ArmSame (views.roll-Arm (arm_node attrs pat (option_map (λ (y : SameExpr). y.0) guard) x.0))
arm_pieces attrs pat None x last =
    let all = views.roll-Arm (arm_node attrs pat None (erase x.0)) in
    let node = views.roll-Arm (arm_node attrs pat None x.0) in
    ap (λ (a : Arm). are_pieces ((about_arm a).form last)) (arm_without_is (arm_node attrs pat None x.0))
    ∙ ap (λ (F : ArmFacts). are_pieces (F.form last)) (arm_is all)
    ∙ arm_like attrs pat None None (about_expr (erase x.0)) (about_expr x.0) last refl x.1
    ∙ sym (ap (λ (F : ArmFacts). are_pieces (F.form last)) (arm_is node))
arm_pieces attrs pat (Some g) x last =
    let all = views.roll-Arm (arm_node attrs pat (Some (erase g.0)) (erase x.0)) in
    let node = views.roll-Arm (arm_node attrs pat (Some g.0) x.0) in
    ap (λ (a : Arm). are_pieces ((about_arm a).form last)) (arm_without_is (arm_node attrs pat (Some g.0) x.0))
    ∙ ap (λ (F : ArmFacts). are_pieces (F.form last)) (arm_is all)
    ∙ arm_like attrs pat (Some (about_expr (erase g.0))) (Some (about_expr g.0)) (about_expr (erase x.0)) (about_expr x.0) last (deeper _ _ g.1) x.1
    ∙ sym (ap (λ (F : ArmFacts). are_pieces (F.form last)) (arm_is node))

-- ---- items

abbrev item_trees : List SameItem → List Item
item_trees ys = map (λ (y : SameItem). y.0) ys

items_alike : (ys : List SameItem) → Alike (item_forms (map told_of_item (map item_erased (item_trees ys)))) (item_forms (map told_of_item (item_trees ys)))
items_alike ys = nodes_alike ItemSame (λ (F : ItemFacts). F.form) told_of_item item_erased (λ x is. is) ys

item_body_like : (lead : Bool) (attrs : List Attr) (ys : List SameItem)
    → Like (item_body lead attrs (map told_of_item (map item_erased (item_trees ys)))) (item_body lead attrs (map told_of_item (item_trees ys)))
item_body_like lead attrs ys = body_like (blank_if lead) [] _ _ (alike_joined _ _ _ _ (alike_same (map attr_form attrs)) (items_alike ys))

abbrev whole : Vis → KindFacts → Form
whole v F = kind_form v F.head F.tail

abbrev foreign_head : Bool → Option Literal → Form
foreign_head is_unsafe abi = unsafe_form is_unsafe (Piece (keyword (codes "extern") ∷ []) (foreign_abi abi))

-- what follows a head
abbrev behind : Vis → Form → Bool → Bool
behind v head tail = (are_pieces (vis_form v) && are_pieces head) && tail

kind_same : (y : Same ItemKind-F) (v : Vis) → Like (whole v (kind_facts (kind_told (kind_without (kind_layer y))))) (whole v (kind_facts (kind_told (kind_layer y))))
kind_same (ItemKind-F.Module name attrs items) v = ap (behind v (module_head name)) (item_body_like true attrs items)
kind_same (ItemKind-F.Function head wheres None) v = refl
kind_same (ItemKind-F.Function head wheres (Some b)) v =
    ap (λ (a : Bool). behind v (fn_head_form head) (are_pieces (wheres_before_body wheres) && (a && true))) (b.1.form (leads wheres))
kind_same (ItemKind-F.Value head None) v = refl
kind_same (ItemKind-F.Value head (Some x)) v =
    ap (λ (a : Bool). (are_pieces (vis_form v) && (are_pieces (value_head_form head) && (a && true))) && true) x.1
kind_same (ItemKind-F.Trait head wheres attrs items) v =
    ap (λ (a : Bool). behind v (trait_head_form head) (are_pieces (wheres_before_body wheres) && a)) (item_body_like (leads wheres) attrs items)
kind_same (ItemKind-F.Impl head wheres attrs items) v =
    ap (λ (a : Bool). behind v (impl_head_form head) (are_pieces (wheres_before_body wheres) && a)) (item_body_like (leads wheres) attrs items)
kind_same (ItemKind-F.Foreign is_unsafe abi attrs items) v = ap (behind v (foreign_head is_unsafe abi)) (item_body_like true attrs items)
kind_same _ v = refl

pub kind_pieces : (y : Same ItemKind-F) → KindSame (views.roll-ItemKind (kind_layer y))
kind_pieces y v =
    ap (λ (k : ItemKind). are_pieces (whole v (told_of_kind k))) (kind_without_is (kind_layer y))
    ∙ ap (λ (F : KindFacts). are_pieces (whole v F)) (kind_is (kind_without (kind_layer y))) ∙ kind_same y v
    ∙ sym (ap (λ (F : KindFacts). are_pieces (whole v F)) (kind_is (kind_layer y)))

abbrev item_node : List Attr → Vis → ItemKind → ItemNode
item_node attrs vis k = record { attrs = attrs; vis = vis; kind = k }

item_form_pieces : (attrs : List Attr) (vis : Vis) (k : ItemKind) → are_pieces (told_of_item (views.roll-Item (item_node attrs vis k))).form
    ≡ (are_pieces (behind_attrs (map attr_form attrs) (Part (whole vis (told_of_kind k)) Done)) && true)
item_form_pieces attrs vis k = ap (λ (F : ItemFacts). are_pieces F.form) (item_is (views.roll-Item (item_node attrs vis k)))

pub item_pieces : (attrs : List Attr) (vis : Vis) (k : ItemKind) → KindSame k → ItemSame (views.roll-Item (item_node attrs vis k))
item_pieces attrs vis k same =
    ap (λ (x : Item). are_pieces (told_of_item x).form) (item_without_is (item_node attrs vis k)) ∙ item_form_pieces attrs vis (kind_erased k)
    ∙ deeper _ _
    (attrs_like (map attr_form attrs) (Part (whole vis (told_of_kind (kind_erased k))) Done) (Part (whole vis (told_of_kind k)) Done) (deeper _ _ (same vis)))
    ∙ sym (item_form_pieces attrs vis k)
