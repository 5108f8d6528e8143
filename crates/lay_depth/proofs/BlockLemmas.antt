-- What statements, blocks, conditions, branches and arms need.
use Rattle.std.proofs.Common.{◌≡◌, ◌∙◌, ℕ, ◌+◌, max, Bool, true, false, if◌then◌else◌, List, [], ◌∷◌, ◌++◌, map, option_map, Option, Some, None, refl, ap, arith}
use Rattle.lay_form.specs.Depth.{least_depth}
use Rattle.lay_form.specs.Form.{Form, Done, Part, semicolon}
use Rattle.lay_form.specs.Notation.{piece, soft}
use Rattle.lay_node.specs.nodes.Attr.{attr_form}
use Rattle.lay_node.specs.nodes.Fields.{blank_if}
use Rattle.lay_node.specs.nodes.Patterns.{about_pat}
use Rattle.lay_node.specs.declared.attr.Attr.{Attr}
use Rattle.lay_node.specs.declared.patterns.Pat.{Pat}
use Rattle.lay_node.specs.declared.types.Ty.{Ty}
use Rattle.lay_code.specs.nodes.Blocks.{attrs_before, block_form, dropped, dropped_if, else_form, ended_form, guard_form, is_plain, let_type, soft_form, stmt_form}
use Rattle.lay_code.specs.nodes.Code.{about_arm, about_block, about_branch, about_condition, about_expr, about_link, about_stmt, form_of_item}
use Rattle.lay_code.specs.nodes.CodeFacts.{ArmFacts, BlockFacts, BranchFacts, ConditionFacts, LinkFacts, StmtFacts}
use Rattle.lay_code.specs.nodes.Conditions.{condition_form, links_form}
use Rattle.lay_code.specs.nodes.Exprs.{arm_forms, branches_form, else_branch_form, more_branches, value_form}
use Rattle.lay_code.specs.declared.blocks.Arm.{Arm}
use Rattle.lay_code.specs.declared.blocks.Block.{Block}
use Rattle.lay_code.specs.declared.blocks.Branch.{Branch}
use Rattle.lay_code.specs.declared.blocks.Stmt.{Stmt}
use Rattle.lay_code.specs.declared.blocks.Stmt.TheVariants as stmt
use Rattle.lay_code.specs.declared.conditions.Condition.{Condition}
use Rattle.lay_code.specs.declared.conditions.Link.{Link}
use Rattle.lay_code.specs.declared.conditions.Link.TheVariants as link
use Rattle.lay_code.specs.declared.exprs.Expr.{Expr}
use Rattle.lay_code.specs.declared.item.Item.{Item}
use Rattle.lay_code.proofs.nodes.BlocksLaws as laws
use Rattle.lay_depth.specs.nodes.Depths.{greatest, type_if}
use Rattle.lay_depth.proofs.nodes_lemmas.Forms.{attrs_are, behind_attrs_is, body_is, both_are}
use Rattle.lay_depth.specs.Parts.{arm_form, block_if, branch_form, expr_if, link_form}

-- ---- blocks

-- the form of a statement, without what may follow it in a block
abbrev pub stmt_told : Stmt → Form
stmt_told s = (about_stmt s).form

stmt_form_is : (s : StmtFacts) → least_depth (stmt_form s) ≡ least_depth s.form
stmt_form_is s = by s.unended
  where
    by : (unended : Bool) → least_depth (if unended then Part s.form Done else Part s.form (piece dropped)) ≡ least_depth s.form
    by true = omega arith
    by false = omega arith

stmts_are : (ss : List Stmt) → greatest (map stmt_form (map about_stmt ss)) ≡ greatest (map stmt_told ss)
stmts_are [] = refl
stmts_are (s ∷ ss) = let m = stmt_form_is (about_stmt s) in let n = stmts_are ss in omega (arith, m, n)

attrs_before_are : (es : List Form) → greatest (attrs_before es) ≡ greatest es
attrs_before_are [] = refl
attrs_before_are (a ∷ []) = omega arith
attrs_before_are (a ∷ b ∷ more) = let m = attrs_before_are (b ∷ more) in omega (arith, m)

-- A block needs what its deepest statement does, with a blank before it or without.
pub block_is : (b : Block) (lead : Bool) → least_depth ((about_block b).form lead) ≡ greatest (map stmt_told b.stmts)
block_is b lead =
    ap (λ (x : BlockFacts). least_depth (x.form lead)) (laws.block_is b)
    ∙ body_is (blank_if lead) (dropped_if (is_plain b.attrs)) (attrs_before (map attr_form b.attrs) ++ map stmt_form (map about_stmt b.stmts))
    ∙ both_are (attrs_before (map attr_form b.attrs)) (map stmt_form (map about_stmt b.stmts))
    ∙ (let m = attrs_before_are (map attr_form b.attrs) in
    let n = attrs_are b.attrs in
    let o = stmts_are b.stmts in omega (arith, m, n, o))

pub block_form_is : (b : Block) (lead : Bool) → least_depth ((about_block b).form lead) ≡ least_depth ((about_block b).form true)
block_form_is b lead = let m = block_is b lead in let n = block_is b true in omega (arith, m, n)

soft_form_is : (attrs : List Attr) (ss : List StmtFacts) → least_depth (soft_form attrs ss) ≡ least_depth (block_form attrs ss true)
soft_form_is [] [] = refl
soft_form_is [] (s ∷ []) = by s.bare
  where
    by : (bare : Bool) → least_depth (if bare then soft s.form else block_form [] (s ∷ []) true) ≡ least_depth (block_form [] (s ∷ []) true)
    by true = let m = stmt_form_is s in omega (arith, m)
    by false = refl
soft_form_is [] (s ∷ t ∷ more) = refl
soft_form_is (a ∷ attrs) ss = refl

-- The same of a block that may stand on one line.
pub soft_is : (b : Block) → least_depth (about_block b).soft ≡ least_depth ((about_block b).form true)
soft_is b =
    let m = ap (λ (x : BlockFacts). least_depth x.soft) (laws.block_is b) in
    let n = ap (λ (x : BlockFacts). least_depth (x.form true)) (laws.block_is b) in
    let o = soft_form_is b.attrs (map about_stmt b.stmts) in omega (arith, m, n, o)

-- ---- statements

pub value_is : (value : Option Expr) → least_depth (value_form (option_map about_expr value)) ≡ expr_if value
value_is None = refl
value_is (Some x) = omega arith

let_type_is : (ty : Option Ty) (f : Form) → least_depth (let_type ty f) ≡ max (type_if ty) (least_depth f)
let_type_is None f = omega arith
let_type_is (Some x) f = refl

-- what is needed by a block that stands one level deeper, and may be left out
abbrev else_if : Option Block → ℕ
else_if None = 0
else_if (Some b) = least_depth ((about_block b).form true) + 1

else_is : (otherwise : Option Block) → least_depth (else_form (option_map about_block otherwise)) ≡ else_if otherwise
else_is None = refl
else_is (Some b) = omega arith

let_is : (s : Stmt) (attrs : List Attr) (pat : Pat) (ty : Option Ty) (value : Option Expr) (otherwise : Option Block)
    → s ≡ stmt.Let attrs pat ty value otherwise
    → least_depth (about_stmt s).form ≡ max (max (max (least_depth (about_pat pat).told.form) (type_if ty)) (expr_if value)) (else_if otherwise)
let_is s attrs pat ty value otherwise is =
    ap (λ (x : Stmt). least_depth (about_stmt x).form) is
    ∙ ap (λ (x : StmtFacts). least_depth x.form) (laws.stmt_let_is attrs pat ty value otherwise)
    ∙ behind_attrs_is attrs _
    ∙ (let behind = Part (else_form (option_map about_block otherwise)) (piece semicolon) in
    let m = let_type_is ty (Part (value_form (option_map about_expr value)) behind) in
    let n = value_is value in
    let o = else_is otherwise in omega (arith, m, n, o))

-- without an `else`, and with one
pub let_alone_is : (s : Stmt) (attrs : List Attr) (pat : Pat) (ty : Option Ty) (value : Option Expr) (otherwise : Option Block)
    → s ≡ stmt.Let attrs pat ty value otherwise → otherwise ≡ None
    → least_depth (about_stmt s).form ≡ max (max (least_depth (about_pat pat).told.form) (type_if ty)) (expr_if value)
let_alone_is s attrs pat ty value otherwise is none =
    let m = let_is s attrs pat ty value otherwise is in
    let n = ap else_if none in omega (arith, m, n)

pub let_else_is : (s : Stmt) (attrs : List Attr) (pat : Pat) (ty : Option Ty) (value : Option Expr) (otherwise : Option Block) (body : Block)
    → s ≡ stmt.Let attrs pat ty value otherwise → otherwise ≡ Some body
    → least_depth (about_stmt s).form
    ≡ max (max (max (least_depth (about_pat pat).told.form) (type_if ty)) (expr_if value)) (least_depth ((about_block body).form true) + 1)
let_else_is s attrs pat ty value otherwise body is some =
    let_is s attrs pat ty value otherwise is
    ∙ ap (λ (b : Option Block). max (max (max (least_depth (about_pat pat).told.form) (type_if ty)) (expr_if value)) (else_if b)) some

pub item_is : (s : Stmt) (item : Item) → s ≡ stmt.Item item → least_depth (about_stmt s).form ≡ least_depth (form_of_item item)
item_is s item is =
    ap (λ (x : Stmt). least_depth (about_stmt x).form) is ∙ ap (λ (x : StmtFacts). least_depth x.form) (laws.stmt_item_is item)

ended_is : (ended : Bool) → least_depth (ended_form ended) ≡ 0
ended_is true = refl
ended_is false = refl

pub expr_is : (s : Stmt) (attrs : List Attr) (x : Expr) (ended : Bool) → s ≡ stmt.Expr attrs x ended
    → least_depth (about_stmt s).form ≡ least_depth (about_expr x).form
expr_is s attrs x ended is =
    ap (λ (y : Stmt). least_depth (about_stmt y).form) is
    ∙ ap (λ (y : StmtFacts). least_depth y.form) (laws.stmt_expr_is attrs x ended)
    ∙ behind_attrs_is attrs (Part (about_expr x).form (ended_form ended))
    ∙ (let m = ended_is ended in omega (arith, m))

-- ---- conditions and branches

pub expr_link_is : (l : Link) (x : Expr) → l ≡ link.Expr x → least_depth (about_link l).form ≡ least_depth (about_expr x).form
expr_link_is l x is =
    ap (λ (k : Link). least_depth (about_link k).form) is ∙ ap (λ (k : LinkFacts). least_depth k.form) (laws.link_expr_is x)

pub let_link_is : (l : Link) (pat : Pat) (value : Expr) → l ≡ link.Let pat value
    → least_depth (about_link l).form ≡ max (least_depth (about_pat pat).told.form) (least_depth (about_expr value).form)
let_link_is l pat value is =
    ap (λ (k : Link). least_depth (about_link k).form) is
    ∙ ap (λ (k : LinkFacts). least_depth k.form) (laws.link_let_is pat value)
    ∙ omega arith

further_links_are : (ls : List Link) → least_depth (links_form (map about_link ls)) ≡ greatest (map link_form ls)
further_links_are [] = refl
further_links_are (l ∷ more) = let m = further_links_are more in omega (arith, m)

links_are : (ls : List Link) → least_depth (condition_form (map about_link ls)) ≡ greatest (map link_form ls)
links_are [] = refl
links_are (l ∷ []) = omega arith
links_are (l ∷ k ∷ more) = let m = further_links_are (k ∷ more) in omega (arith, m)

-- A condition needs what its deepest link does.
pub condition_is : (c : Condition) → least_depth (about_condition c).form ≡ greatest (map link_form c.links)
condition_is c = ap (λ (x : ConditionFacts). least_depth x.form) (laws.condition_is c) ∙ links_are c.links

pub branch_is : (b : Branch)
    → least_depth (branch_form b)
    ≡ max (least_depth (about_condition b.condition).form) (least_depth ((about_block b.body).form true))
branch_is b =
    ap (λ (x : BranchFacts). least_depth (Part x.condition x.soft)) (laws.branch_is b)
    ∙ (let m = soft_is b.body in omega (arith, m))

more_are : (bs : List Branch) (f : Form)
    → least_depth (more_branches (map about_branch bs) f) ≡ max (greatest (map branch_form bs)) (least_depth f)
more_are [] f = omega arith
more_are (b ∷ more) f = let m = more_are more f in omega (arith, m)

pub branches_are : (bs : List Branch) (f : Form)
    → least_depth (branches_form (map about_branch bs) f) ≡ max (greatest (map branch_form bs)) (least_depth f)
branches_are [] f = omega arith
branches_are (b ∷ more) f = let m = more_are more f in omega (arith, m)

pub else_branch_is : (otherwise : Option Block) → least_depth (else_branch_form (option_map about_block otherwise)) ≡ block_if otherwise
else_branch_is None = refl
else_branch_is (Some b) = let m = soft_is b in omega (arith, m)

-- ---- arms

guard_is : (guard : Option Expr) → least_depth (guard_form (option_map about_expr guard)) ≡ expr_if guard
guard_is None = refl
guard_is (Some x) = omega arith

-- An arm needs the same as the last one and before others.
pub arm_is : (a : Arm) (last : Bool)
    → least_depth ((about_arm a).form last)
    ≡ max (max (least_depth (about_pat a.pat).told.form) (expr_if a.guard)) (least_depth (about_expr a.body).form + 1)
arm_is a last =
    ap (λ (x : ArmFacts). least_depth (x.form last)) (laws.arm_is a)
    ∙ behind_attrs_is a.attrs _
    ∙ (let m = guard_is a.guard in omega (arith, m))

pub arms_are : (arms : List Arm) → greatest (arm_forms (map about_arm arms)) ≡ greatest (map arm_form arms)
arms_are [] = refl
arms_are (a ∷ []) = refl
arms_are (a ∷ b ∷ more) =
    let m = arm_is a false in
    let n = arm_is a true in
    let o = arms_are (b ∷ more) in omega (arith, m, n, o)
