-- Each pair that a node got can be left out, where it has none of its own: fields, steps, statements, blocks, conditions, arms and items.
use Rattle.std.proofs.Common.{◌≡◌, Bool, true, false, if◌then◌else◌, List, [], ◌∷◌, map, Option, Some, None, refl, sym, ap, ap₂, subst, ◌∙◌}
use Rattle.lay_node.specs.declared.attr.Attr.{Attr}
use Rattle.lay_node.specs.declared.patterns.Pat.{Pat}
use Rattle.lay_node.specs.declared.vis.Vis.{Vis}
use Rattle.lay_code.specs.nodes.Layers.{ArmNode, BlockNode, BranchNode, ConditionNode, FieldNode, ItemNode, KindNode, LinkNode, StepNode, StmtNode}
use Rattle.lay_code.specs.nodes.Places.{FREE, link_place, plain, statement}
use Rattle.lay_code.specs.declared.blocks.Arm.{Arm}
use Rattle.lay_code.specs.declared.blocks.Block.{Block}
use Rattle.lay_code.specs.declared.blocks.Branch.{Branch}
use Rattle.lay_code.specs.declared.blocks.Stmt.{Stmt}
use Rattle.lay_code.specs.declared.blocks.Stmt.TheOpen.{FieldExpr-F, ItemKind-F, Link-F, Step-F, Stmt-F}
use Rattle.lay_code.specs.declared.blocks.Stmt.TheVariants as stmt
use Rattle.lay_code.specs.declared.blocks.Stmt.TheViews as views
use Rattle.lay_code.specs.declared.conditions.Condition.{Condition}
use Rattle.lay_code.specs.declared.conditions.Link.{Link}
use Rattle.lay_code.specs.declared.conditions.Link.TheVariants as link
use Rattle.lay_code.specs.declared.exprs.Expr.{Expr}
use Rattle.lay_code.specs.declared.exprs.FieldExpr.{FieldExpr}
use Rattle.lay_code.specs.declared.exprs.FieldExpr.TheVariants as field
use Rattle.lay_code.specs.declared.exprs.Step.{Step}
use Rattle.lay_code.specs.declared.exprs.Step.TheVariants as step
use Rattle.lay_code.specs.declared.item.Item.{Item}
use Rattle.lay_code.specs.declared.item.ItemKind.{ItemKind}
use Rattle.lay_code.specs.declared.item.ItemKind.TheVariants as kind
use Rattle.lay_paren_defs.specs.loose.Slots.{Any, BeforeElse}
use Rattle.lay_paren.specs.LeftOut.{own}
use Rattle.lay_paren.specs.Least.{made_of}
use Rattle.lay_paren.specs.Made.{Made, all, both, kept, one}
use Rattle.lay_paren.specs.Parts.{Linked, condition_links, field_made, free_made, kind_made, link_made, links_made, step_made, stmt_made}
use Rattle.lay_paren.proofs.Counted.{AllCounted, ArmCounted, BlockCounted, BranchCounted, ConditionCounted, Counted, CountedBlock, CountedCondition, CountedExpr, CountedItem, CountedKind, CountedLink, CountedStmt, FieldCounted, ItemCounted, KindCounted, LinkCounted, StepCounted, StmtCounted, field_layer, kind_layer, link_layer, step_layer, stmt_layer}
use Rattle.lay_paren.proofs.CountedExprs.{some_counted}
use Rattle.lay_paren.proofs.CountedParts.{both_bare, free_counted, list_counted, one_bare, trees}
use Rattle.lay_paren.specs.Nodes as nodes
use Rattle.lay_paren.proofs.MadeFolds as made
use Rattle.lay_paren.proofs.OwnFolds as owns

-- what is made of a node, by its layer
folded : {A : Type 0} (of : A → Made A) (a b m n : Made A) → a ≡ b → m ≡ n → Counted of b n → Counted of a m
folded of a b m n e f counted h = ap (λ k. of k.result) f ∙ counted (subst (λ k. k.cuts ≡ []) e h) ∙ sym f

-- ---- fields and steps

abbrev FieldLayer : AllCounted FieldExpr-F → Type 0
FieldLayer y = Counted owns.own_field (field_made (owns.field_own (field_layer y))) (field_made (nodes.field_parts (field_layer y)))

field_at : (layer : FieldNode) (x : FieldExpr) → views.roll-FieldExpr layer ≡ x → owns.own_field x ≡ field_made (owns.field_own layer)
field_at layer x rolls = ap owns.own_field (sym rolls) ∙ owns.field_own_is layer

field_same : (y : AllCounted FieldExpr-F) → FieldLayer y
field_same (FieldExpr-F.Named attrs name x) h =
    let z = (made_of x.0 FREE Any).result in
    field_at (FieldExpr-F.Named attrs name z) (field.Named attrs name z) (views.rolls-Named attrs name z)
    ∙ ap (one (λ w. field.Named attrs name w)) (x.1 FREE Any (one_bare (λ w. field.Named attrs name w) (own x.0 FREE Any) h) FREE FREE Any Any)
field_same (FieldExpr-F.Numbered attrs index x) h =
    let z = (made_of x.0 FREE Any).result in
    field_at (FieldExpr-F.Numbered attrs index z) (field.Numbered attrs index z) (views.rolls-Numbered attrs index z)
    ∙ ap (one (λ w. field.Numbered attrs index w)) (x.1 FREE Any (one_bare (λ w. field.Numbered attrs index w) (own x.0 FREE Any) h) FREE FREE Any Any)
field_same (FieldExpr-F.Short attrs name) h = field_at (FieldExpr-F.Short attrs name) (field.Short attrs name) (views.rolls-Short attrs name)

pub field_counted : (y : AllCounted FieldExpr-F) → FieldCounted (views.roll-FieldExpr (field_layer y))
field_counted y = folded owns.own_field _ _ _ _ (owns.field_own_is (field_layer y)) (made.field_parts_is (field_layer y)) (field_same y)

abbrev StepLayer : AllCounted Step-F → Type 0
StepLayer y = Counted owns.own_step (step_made (owns.step_own (step_layer y))) (step_made (nodes.step_parts (step_layer y)))

step_at : (layer : StepNode) (x : Step) → views.roll-Step layer ≡ x → owns.own_step x ≡ step_made (owns.step_own layer)
step_at layer x rolls = ap owns.own_step (sym rolls) ∙ owns.step_own_is layer

step_same : (y : AllCounted Step-F) → StepLayer y
step_same (Step-F.Field name) h = step_at (Step-F.Field name) (step.Field name) (views.rolls-Field name)
step_same (Step-F.TupleIndex index) h = step_at (Step-F.TupleIndex index) (step.TupleIndex index) (views.rolls-TupleIndex index)
step_same (Step-F.Method name generics args) h =
    let xs = (free_made (map made_of (trees args))).result in
    step_at (Step-F.Method name generics xs) (step.Method name generics xs) (views.rolls-Method name generics xs)
    ∙ ap (one (λ zs. step.Method name generics zs)) (free_counted args (one_bare (λ zs. step.Method name generics zs) (free_made (map own (trees args))) h))
step_same (Step-F.Apply args) h =
    let xs = (free_made (map made_of (trees args))).result in
    step_at (Step-F.Apply xs) (step.Apply xs) (views.rolls-Apply xs)
    ∙ ap (one step.Apply) (free_counted args (one_bare step.Apply (free_made (map own (trees args))) h))
step_same (Step-F.Index x) h =
    let z = (made_of x.0 FREE Any).result in
    step_at (Step-F.Index z) (step.Index z) (views.rolls-Index z)
    ∙ ap (one step.Index) (x.1 FREE Any (one_bare step.Index (own x.0 FREE Any) h) FREE FREE Any Any)
step_same Step-F.Try h = step_at Step-F.Try step.Try views.rolls-Try
step_same Step-F.Await h = step_at Step-F.Await step.Await views.rolls-Await

pub step_counted : (y : AllCounted Step-F) → StepCounted (views.roll-Step (step_layer y))
step_counted y = folded owns.own_step _ _ _ _ (owns.step_own_is (step_layer y)) (made.step_parts_is (step_layer y)) (step_same y)

-- ---- statements and blocks

abbrev StmtLayer : AllCounted Stmt-F → Type 0
StmtLayer y = Counted owns.own_stmt (stmt_made (owns.stmt_own (stmt_layer y))) (stmt_made (nodes.stmt_parts (stmt_layer y)))

stmt_at : (layer : StmtNode) (x : Stmt) → views.roll-Stmt layer ≡ x → owns.own_stmt x ≡ stmt_made (owns.stmt_own layer)
stmt_at layer x rolls = ap owns.own_stmt (sym rolls) ∙ owns.stmt_own_is layer

block_some : (b : CountedBlock) → (one Some (owns.own_block b.0)).cuts ≡ []
    → one Some (owns.own_block (nodes.made_block b.0).result) ≡ one Some (nodes.made_block b.0)
block_some b h = ap (one Some) (b.1 (one_bare Some (owns.own_block b.0) h))

stmt_same : (y : AllCounted Stmt-F) → StmtLayer y
stmt_same (Stmt-F.Stmt::Let attrs pat ty None None) h =
    stmt_at (Stmt-F.Stmt::Let attrs pat ty None None) (stmt.Let attrs pat ty None None) (views.rolls-Stmt::Let attrs pat ty None None)
stmt_same (Stmt-F.Stmt::Let attrs pat ty None (Some b)) h =
    let block = (nodes.made_block b.0).result in
    let f = λ (x : Option Expr) (c : Option Block). stmt.Let attrs pat ty x c in
    let c = both_bare f (kept None) (one Some (owns.own_block b.0)) h in
    stmt_at (Stmt-F.Stmt::Let attrs pat ty None (Some block)) (stmt.Let attrs pat ty None (Some block)) (views.rolls-Stmt::Let attrs pat ty None (Some block))
    ∙ ap (both f (kept None)) (block_some b c.1)
stmt_same (Stmt-F.Stmt::Let attrs pat ty (Some x) None) h =
    let z = (made_of x.0 FREE Any).result in
    let f = λ (x : Option Expr) (c : Option Block). stmt.Let attrs pat ty x c in
    let c = both_bare f (one Some (own x.0 FREE Any)) (kept None) h in
    stmt_at (Stmt-F.Stmt::Let attrs pat ty (Some z) None) (stmt.Let attrs pat ty (Some z) None) (views.rolls-Stmt::Let attrs pat ty (Some z) None)
    ∙ ap (λ (m : Made (Option Expr)). both f m (kept None)) (some_counted x FREE Any c.0 FREE Any)
stmt_same (Stmt-F.Stmt::Let attrs pat ty (Some x) (Some b)) h =
    let z = (made_of x.0 FREE BeforeElse).result in
    let block = (nodes.made_block b.0).result in
    let f = λ (x : Option Expr) (c : Option Block). stmt.Let attrs pat ty x c in
    let c = both_bare f (one Some (own x.0 FREE BeforeElse)) (one Some (owns.own_block b.0)) h in
    stmt_at (Stmt-F.Stmt::Let attrs pat ty (Some z) (Some block)) (stmt.Let attrs pat ty (Some z) (Some block))
    (views.rolls-Stmt::Let attrs pat ty (Some z) (Some block))
    ∙ ap₂ (both f) (some_counted x FREE BeforeElse c.0 FREE BeforeElse) (block_some b c.1)
stmt_same (Stmt-F.Item i) h =
    let z = (nodes.made_item i.0).result in
    stmt_at (Stmt-F.Item z) (stmt.Item z) (views.rolls-Item z) ∙ ap (one stmt.Item) (i.1 (one_bare stmt.Item (owns.own_item i.0) h))
stmt_same (Stmt-F.Stmt::Expr attrs x ended) h =
    let z = (made_of x.0 statement Any).result in
    stmt_at (Stmt-F.Stmt::Expr attrs z ended) (stmt.Expr attrs z ended) (views.rolls-Stmt::Expr attrs z ended)
    ∙ ap (one (λ w. stmt.Expr attrs w ended))
    (x.1 statement Any (one_bare (λ w. stmt.Expr attrs w ended) (own x.0 statement Any) h) statement statement Any Any)

pub stmt_counted : (y : AllCounted Stmt-F) → StmtCounted (views.roll-Stmt (stmt_layer y))
stmt_counted y = folded owns.own_stmt _ _ _ _ (owns.stmt_own_is (stmt_layer y)) (made.stmt_parts_is (stmt_layer y)) (stmt_same y)

abbrev block_node : List Attr → List Stmt → BlockNode
block_node attrs stmts = record { attrs = attrs; stmts = stmts }

abbrev of_stmts : List Attr → List Stmt → Block
of_stmts attrs stmts = record { attrs = attrs; stmts = stmts }

pub block_counted : (attrs : List Attr) (ys : List CountedStmt) → BlockCounted (views.roll-Block (block_node attrs (map (λ (y : CountedStmt). y.0) ys)))
block_counted attrs ys =
    let xs = map (λ (y : CountedStmt). y.0) ys in
    let stmts = all (map nodes.made_stmt xs) in
    folded owns.own_block _ (one (of_stmts attrs) (all (map owns.own_stmt xs))) _ (one (of_stmts attrs) stmts)
    (owns.block_own_is (block_node attrs xs)) (made.block_parts_is (block_node attrs xs))
    (λ h. owns.block_own_is (block_node attrs stmts.result)
    ∙ ap (one (of_stmts attrs))
    (list_counted StmtCounted owns.own_stmt nodes.made_stmt (λ x is. is) ys (one_bare (of_stmts attrs) (all (map owns.own_stmt xs)) h)))

-- ---- links and conditions

link_at : (layer : LinkNode) (x : Link) (alone more : Bool) → views.roll-Link layer ≡ x → owns.own_link x alone more ≡ link_made (owns.link_own layer) alone more
link_at layer x alone more rolls =
    ap (λ (z : Link). owns.own_link z alone more) (sym rolls) ∙ ap (λ (f : Linked). f alone more) (owns.link_own_is layer)

link_same : (y : AllCounted Link-F) (alone more : Bool)
    → Counted (λ (z : Link). owns.own_link z alone more) (link_made (owns.link_own (link_layer y)) alone more) (link_made (nodes.link_parts (link_layer y)) alone more)
link_same (Link-F.Link::Expr x) alone more h =
    let place = if alone then plain 0 true else link_place more in
    let z = (made_of x.0 place Any).result in
    link_at (Link-F.Link::Expr z) (link.Expr z) alone more (views.rolls-Link::Expr z)
    ∙ ap (one link.Expr) (x.1 place Any (one_bare link.Expr (own x.0 place Any) h) place place Any Any)
link_same (Link-F.Link::Let pat x) alone more h =
    let z = (made_of x.0 (link_place more) Any).result in
    link_at (Link-F.Link::Let pat z) (link.Let pat z) alone more (views.rolls-Link::Let pat z)
    ∙ ap (one (λ w. link.Let pat w))
    (x.1 (link_place more) Any (one_bare (λ w. link.Let pat w) (own x.0 (link_place more) Any) h) (link_place more) (link_place more) Any Any)

pub link_counted : (y : AllCounted Link-F) → LinkCounted (views.roll-Link (link_layer y))
link_counted y alone more =
    folded (λ (z : Link). owns.own_link z alone more) _ _ _ _ (ap (λ (f : Linked). f alone more) (owns.link_own_is (link_layer y)))
    (ap (λ (f : Linked). f alone more) (made.link_parts_is (link_layer y))) (link_same y alone more)

abbrev link_trees : List CountedLink → List Link
link_trees ys = map (λ (y : CountedLink). y.0) ys

abbrev own_links : List Link → Made (List Link)
own_links xs = all (links_made (map owns.own_link xs))

abbrev made_links : List Link → Made (List Link)
made_links xs = all (links_made (map nodes.made_link xs))

links_counted : (ys : List CountedLink) → (own_links (link_trees ys)).cuts ≡ [] → own_links (made_links (link_trees ys)).result ≡ made_links (link_trees ys)
links_counted [] h = refl
links_counted (y ∷ []) h =
    let c = both_bare (λ z zs. z ∷ zs) (owns.own_link y.0 false false) (kept []) h in
    ap (λ (m : Made Link). both (λ z zs. z ∷ zs) m (kept [])) (y.1 false false c.0)
links_counted (y ∷ z ∷ more) h =
    let c = both_bare (λ w ws. w ∷ ws) (owns.own_link y.0 false true) (own_links (link_trees (z ∷ more))) h in
    ap₂ (both (λ w ws. w ∷ ws)) (y.1 false true c.0) (links_counted (z ∷ more) c.1)

conditions_counted : (ys : List CountedLink) → (all (condition_links (map owns.own_link (link_trees ys)))).cuts ≡ []
    → all (condition_links (map owns.own_link (all (condition_links (map nodes.made_link (link_trees ys)))).result))
    ≡ all (condition_links (map nodes.made_link (link_trees ys)))
conditions_counted [] h = refl
conditions_counted (y ∷ []) h =
    let c = both_bare (λ z zs. z ∷ zs) (owns.own_link y.0 true false) (kept []) h in
    ap (λ (m : Made Link). both (λ z zs. z ∷ zs) m (kept [])) (y.1 true false c.0)
conditions_counted (y ∷ z ∷ more) h = links_counted (y ∷ z ∷ more) h

abbrev condition_node : List Link → ConditionNode
condition_node links = record { links = links }

abbrev of_links : List Link → Condition
of_links links = record { links = links }

pub condition_counted : (ys : List CountedLink) → ConditionCounted (views.roll-Condition (condition_node (link_trees ys)))
condition_counted ys =
    let mine = all (condition_links (map owns.own_link (link_trees ys))) in
    let links = all (condition_links (map nodes.made_link (link_trees ys))) in
    folded owns.own_condition _ (one of_links mine) _ (one of_links links)
    (owns.condition_own_is (condition_node (link_trees ys))) (made.condition_parts_is (condition_node (link_trees ys)))
    (λ h. owns.condition_own_is (condition_node links.result) ∙ ap (one of_links) (conditions_counted ys (one_bare of_links mine h)))

-- ---- branches and arms

abbrev branch_node : Condition → Block → BranchNode
branch_node c b = record { condition = c; body = b }

abbrev of_branch : Condition → Block → Branch
of_branch c b = record { condition = c; body = b }

pub branch_counted : (c : CountedCondition) (b : CountedBlock) → BranchCounted (views.roll-Branch (branch_node c.0 b.0))
branch_counted c b =
    let m = nodes.made_condition c.0 in
    let n = nodes.made_block b.0 in
    folded owns.own_branch _ (both of_branch (owns.own_condition c.0) (owns.own_block b.0)) _ (both of_branch m n)
    (owns.branch_own_is (branch_node c.0 b.0)) (made.branch_parts_is (branch_node c.0 b.0))
    (λ h.
    let d = both_bare of_branch (owns.own_condition c.0) (owns.own_block b.0) h in
    owns.branch_own_is (branch_node m.result n.result) ∙ ap₂ (both of_branch) (c.1 d.0) (b.1 d.1))

abbrev arm_node : List Attr → Pat → Option Expr → Expr → ArmNode
arm_node attrs pat guard x = record { attrs = attrs; pat = pat; guard = guard; body = x }

abbrev of_arm : List Attr → Pat → Option Expr → Expr → Arm
of_arm attrs pat guard x = record { attrs = attrs; pat = pat; guard = guard; body = x }

pub bare_arm_counted : (attrs : List Attr) (pat : Pat) (x : CountedExpr) → ArmCounted (views.roll-Arm (arm_node attrs pat None x.0))
bare_arm_counted attrs pat x =
    let n = made_of x.0 statement Any in
    folded owns.own_arm _ (both (of_arm attrs pat) (kept None) (own x.0 statement Any)) _ (both (of_arm attrs pat) (kept None) n)
    (owns.arm_own_is (arm_node attrs pat None x.0)) (made.arm_parts_is (arm_node attrs pat None x.0))
    (λ h.
    let c = both_bare (of_arm attrs pat) (kept None) (own x.0 statement Any) h in
    owns.arm_own_is (arm_node attrs pat None n.result)
    ∙ ap (both (of_arm attrs pat) (kept None)) (x.1 statement Any c.1 statement statement Any Any))

pub guarded_arm_counted : (attrs : List Attr) (pat : Pat) (g x : CountedExpr) → ArmCounted (views.roll-Arm (arm_node attrs pat (Some g.0) x.0))
guarded_arm_counted attrs pat g x =
    let m = made_of g.0 FREE Any in
    let n = made_of x.0 statement Any in
    folded owns.own_arm _ (both (of_arm attrs pat) (one Some (own g.0 FREE Any)) (own x.0 statement Any)) _ (both (of_arm attrs pat) (one Some m) n)
    (owns.arm_own_is (arm_node attrs pat (Some g.0) x.0)) (made.arm_parts_is (arm_node attrs pat (Some g.0) x.0))
    (λ h.
    let c = both_bare (of_arm attrs pat) (one Some (own g.0 FREE Any)) (own x.0 statement Any) h in
    owns.arm_own_is (arm_node attrs pat (Some m.result) n.result)
    ∙ ap₂ (both (of_arm attrs pat)) (some_counted g FREE Any c.0 FREE Any) (x.1 statement Any c.1 statement statement Any Any))

-- ---- items

abbrev item_trees : List CountedItem → List Item
item_trees ys = map (λ (y : CountedItem). y.0) ys

abbrev own_items : List CountedItem → Made (List Item)
own_items ys = all (map owns.own_item (item_trees ys))

abbrev made_items : List CountedItem → Made (List Item)
made_items ys = all (map nodes.made_item (item_trees ys))

items_counted : (f : List Item → ItemKind) (ys : List CountedItem) → (one f (own_items ys)).cuts ≡ []
    → one f (all (map owns.own_item (made_items ys).result)) ≡ one f (made_items ys)
items_counted f ys h =
    ap (one f) (list_counted ItemCounted owns.own_item nodes.made_item (λ x is. is) ys (one_bare f (own_items ys) h))

kind_at : (layer : KindNode) (x : ItemKind) → views.roll-ItemKind layer ≡ x → owns.own_kind x ≡ kind_made (owns.kind_own layer)
kind_at layer x rolls = ap owns.own_kind (sym rolls) ∙ owns.kind_own_is layer

kind_same : (y : AllCounted ItemKind-F) → Counted owns.own_kind (kind_made (owns.kind_own (kind_layer y))) (kind_made (nodes.kind_parts (kind_layer y)))
kind_same (ItemKind-F.ExternCrate x) h = kind_at (ItemKind-F.ExternCrate x) (kind.ExternCrate x) (views.rolls-ExternCrate x)
kind_same (ItemKind-F.Import tree) h = kind_at (ItemKind-F.Import tree) (kind.Import tree) (views.rolls-Import tree)
kind_same (ItemKind-F.FileModule name) h = kind_at (ItemKind-F.FileModule name) (kind.FileModule name) (views.rolls-FileModule name)
kind_same (ItemKind-F.Alias x) h = kind_at (ItemKind-F.Alias x) (kind.Alias x) (views.rolls-Alias x)
kind_same (ItemKind-F.ItemKind::Struct x) h = kind_at (ItemKind-F.ItemKind::Struct x) (kind.Struct x) (views.rolls-ItemKind::Struct x)
kind_same (ItemKind-F.Union x) h = kind_at (ItemKind-F.Union x) (kind.Union x) (views.rolls-Union x)
kind_same (ItemKind-F.Enum x) h = kind_at (ItemKind-F.Enum x) (kind.Enum x) (views.rolls-Enum x)
kind_same (ItemKind-F.MacroRules name rules) h = kind_at (ItemKind-F.MacroRules name rules) (kind.MacroRules name rules) (views.rolls-MacroRules name rules)
kind_same (ItemKind-F.ItemKind::Call call) h = kind_at (ItemKind-F.ItemKind::Call call) (kind.Call call) (views.rolls-ItemKind::Call call)
kind_same (ItemKind-F.Module name attrs items) h =
    let ys = (made_items items).result in
    kind_at (ItemKind-F.Module name attrs ys) (kind.Module name attrs ys) (views.rolls-Module name attrs ys)
    ∙ items_counted (λ zs. kind.Module name attrs zs) items h
kind_same (ItemKind-F.Trait head wheres attrs items) h =
    let ys = (made_items items).result in
    kind_at (ItemKind-F.Trait head wheres attrs ys) (kind.Trait head wheres attrs ys) (views.rolls-Trait head wheres attrs ys)
    ∙ items_counted (λ zs. kind.Trait head wheres attrs zs) items h
kind_same (ItemKind-F.Impl head wheres attrs items) h =
    let ys = (made_items items).result in
    kind_at (ItemKind-F.Impl head wheres attrs ys) (kind.Impl head wheres attrs ys) (views.rolls-Impl head wheres attrs ys)
    ∙ items_counted (λ zs. kind.Impl head wheres attrs zs) items h
kind_same (ItemKind-F.Foreign is_unsafe abi attrs items) h =
    let ys = (made_items items).result in
    kind_at (ItemKind-F.Foreign is_unsafe abi attrs ys) (kind.Foreign is_unsafe abi attrs ys) (views.rolls-Foreign is_unsafe abi attrs ys)
    ∙ items_counted (λ zs. kind.Foreign is_unsafe abi attrs zs) items h
kind_same (ItemKind-F.Function head wheres None) h =
    kind_at (ItemKind-F.Function head wheres None) (kind.Function head wheres None) (views.rolls-Function head wheres None)
kind_same (ItemKind-F.Function head wheres (Some b)) h =
    let z = (nodes.made_block b.0).result in
    kind_at (ItemKind-F.Function head wheres (Some z)) (kind.Function head wheres (Some z)) (views.rolls-Function head wheres (Some z))
    ∙ ap (one (λ c. kind.Function head wheres c)) (block_some b (one_bare (λ c. kind.Function head wheres c) (one Some (owns.own_block b.0)) h))
kind_same (ItemKind-F.Value head None) h = kind_at (ItemKind-F.Value head None) (kind.Value head None) (views.rolls-Value head None)
kind_same (ItemKind-F.Value head (Some x)) h =
    let z = (made_of x.0 FREE Any).result in
    kind_at (ItemKind-F.Value head (Some z)) (kind.Value head (Some z)) (views.rolls-Value head (Some z))
    ∙ ap (one (λ c. kind.Value head c)) (some_counted x FREE Any (one_bare (λ c. kind.Value head c) (one Some (own x.0 FREE Any)) h) FREE Any)

pub kind_counted : (y : AllCounted ItemKind-F) → KindCounted (views.roll-ItemKind (kind_layer y))
kind_counted y = folded owns.own_kind _ _ _ _ (owns.kind_own_is (kind_layer y)) (made.kind_parts_is (kind_layer y)) (kind_same y)

abbrev item_node : List Attr → Vis → ItemKind → ItemNode
item_node attrs vis k = record { attrs = attrs; vis = vis; kind = k }

abbrev of_kind : List Attr → Vis → ItemKind → Item
of_kind attrs vis k = record { attrs = attrs; vis = vis; kind = k }

pub item_counted : (attrs : List Attr) (vis : Vis) (k : CountedKind) → ItemCounted (views.roll-Item (item_node attrs vis k.0))
item_counted attrs vis k =
    let m = nodes.made_kind k.0 in
    folded owns.own_item _ (one (of_kind attrs vis) (owns.own_kind k.0)) _ (one (of_kind attrs vis) m)
    (owns.item_own_is (item_node attrs vis k.0)) (made.item_parts_is (item_node attrs vis k.0))
    (λ h. owns.item_own_is (item_node attrs vis m.result) ∙ ap (one (of_kind attrs vis)) (k.1 (one_bare (of_kind attrs vis) (owns.own_kind k.0) h)))
