-- A node by itself, by what its parts become, is the tree that it becomes: with parentheses, and as it is.
use Rattle.std.proofs.Common.{◌≡◌, Bool, true, false, List, [], ◌∷◌, map, Option, Some, None, option_map, refl, sym, ap, ap₂, ◌∙◌}
use Rattle.lay_code.specs.nodes.Layers.{ArmNode, BlockNode, BranchNode, ConditionNode, ExprNode, FieldNode, ItemNode, KindNode, LinkNode, StepNode, StmtNode}
use Rattle.lay_code.specs.declared.blocks.Arm.{Arm}
use Rattle.lay_code.specs.declared.blocks.Block.{Block}
use Rattle.lay_code.specs.declared.blocks.Branch.{Branch}
use Rattle.lay_code.specs.declared.blocks.Stmt.{Stmt}
use Rattle.lay_code.specs.declared.blocks.Stmt.TheFolds as fold
use Rattle.lay_code.specs.declared.blocks.Stmt.TheOpen.{Expr-F, FieldExpr-F, ItemKind-F, Link-F, Step-F, Stmt-F}
use Rattle.lay_code.specs.declared.blocks.Stmt.TheVariants as stmt
use Rattle.lay_code.specs.declared.blocks.Stmt.TheViews as views
use Rattle.lay_code.specs.declared.conditions.Condition.{Condition}
use Rattle.lay_code.specs.declared.conditions.Link.{Link}
use Rattle.lay_code.specs.declared.exprs.Expr.{Expr}
use Rattle.lay_code.specs.declared.exprs.Expr.TheVariants as expr
use Rattle.lay_code.specs.declared.exprs.FieldExpr.{FieldExpr}
use Rattle.lay_code.specs.declared.exprs.Step.{Step}
use Rattle.lay_code.specs.declared.exprs.Step.TheVariants as step
use Rattle.lay_code.specs.declared.item.Item.{Item}
use Rattle.lay_code.specs.declared.item.ItemKind.{ItemKind}
use Rattle.lay_code.specs.declared.item.ItemKind.TheVariants as kind
use Rattle.lay_code.specs.declared.operators.Op.{Op}
use Rattle.lay_paren_defs.specs.Enclosed.{arm_shell, arm_with, block_shell, block_with, branch_with, condition_shell, condition_with, enclose, enclose_arm, enclose_block, enclose_branch, enclose_condition, enclose_field, enclose_item, enclose_kind, enclose_link, enclose_step, enclose_stmt, enclosed, enclosed_arm, enclosed_block, enclosed_branch, enclosed_condition, enclosed_field, enclosed_item, enclosed_kind, enclosed_link, enclosed_step, enclosed_stmt, expr_shell, expr_with, field_shell, field_with, item_with, kind_shell, kind_with, link_shell, link_with, operand_part, part, shell, shell_arm, shell_block, shell_branch, shell_condition, shell_field, shell_item, shell_kind, shell_link, shell_step, shell_stmt, step_shell, step_with, stmt_shell, stmt_with, target_part}

-- ---- lists and what may lack, with parentheses and as they are

parts_on : (xs : List Expr) → map expr.Paren (map enclosed xs) ≡ map (part true) xs
parts_on [] = refl
parts_on (x ∷ xs) = ap (λ (ys : List Expr). part true x ∷ ys) (parts_on xs)

operands_on : (xs : List (Op × Expr)) → map (λ (y : Op × Expr). (y.0, expr.Paren y.1)) (map (λ (y : Op × Expr). (y.0, enclosed y.1)) xs) ≡ map (operand_part true) xs
operands_on [] = refl
operands_on (x ∷ xs) = ap (λ (ys : List (Op × Expr)). operand_part true x ∷ ys) (operands_on xs)

targets_on : (xs : List (Expr × Op)) → map (λ (y : Expr × Op). (expr.Paren y.0, y.1)) (map (λ (y : Expr × Op). (enclosed y.0, y.1)) xs) ≡ map (target_part true) xs
targets_on [] = refl
targets_on (x ∷ xs) = ap (λ (ys : List (Expr × Op)). target_part true x ∷ ys) (targets_on xs)

-- each is as it is
all_off : {A : Type 0} (f : A → A) → ((x : A) → f x ≡ x) → (xs : List A) → map f xs ≡ xs
all_off f same [] = refl
all_off f same (x ∷ xs) = ap₂ (λ y ys. y ∷ ys) (same x) (all_off f same xs)

maybe_off : {A : Type 0} (f : A → A) → ((x : A) → f x ≡ x) → (x : Option A) → option_map f x ≡ x
maybe_off f same None = refl
maybe_off f same (Some x) = ap Some (same x)

parts_off : (xs : List Expr) → map (part false) xs ≡ xs
parts_off = all_off (part false) (λ x. refl)

part_off : (x : Option Expr) → option_map (part false) x ≡ x
part_off = maybe_off (part false) (λ x. refl)

base_off : (x : Option (Option Expr)) → option_map (option_map (part false)) x ≡ x
base_off = maybe_off (option_map (part false)) part_off

block_off : (x : Option Block) → option_map (enclose_block false) x ≡ x
block_off = maybe_off (enclose_block false) (λ x. refl)

pub items_off : (xs : List Item) → map (enclose_item false) xs ≡ xs
items_off = all_off (enclose_item false) (λ x. refl)

operands_off : (xs : List (Op × Expr)) → map (operand_part false) xs ≡ xs
operands_off = all_off (operand_part false) (λ x. refl)

targets_off : (xs : List (Expr × Op)) → map (target_part false) xs ≡ xs
targets_off = all_off (target_part false) (λ x. refl)

-- ---- what becomes of a node with parentheses, by its layer

abbrev stmt_parts : StmtNode → StmtNode
stmt_parts y = fold.map-Stmt Stmt Link Expr FieldExpr Step ItemKind Arm Block Branch Condition Item Stmt Link Expr FieldExpr Step ItemKind Arm Block Branch Condition Item enclosed_stmt enclosed_link enclosed enclosed_field enclosed_step enclosed_kind enclosed_arm enclosed_block enclosed_branch enclosed_condition enclosed_item y

stmt_by : (y : StmtNode) → enclosed_stmt (views.roll-Stmt y) ≡ stmt_with (stmt_parts y)
unfolding enclosed_stmt enclosed_link enclosed enclosed_field enclosed_step enclosed_kind enclosed_arm enclosed_block enclosed_branch enclosed_condition enclosed_item
stmt_by y = fold.fold-roll-Stmt Stmt Link Expr FieldExpr Step ItemKind Arm Block Branch Condition Item stmt_with link_with expr_with field_with step_with kind_with arm_with block_with branch_with condition_with item_with y

abbrev link_parts : LinkNode → LinkNode
link_parts y = fold.map-Link Stmt Link Expr FieldExpr Step ItemKind Arm Block Branch Condition Item Stmt Link Expr FieldExpr Step ItemKind Arm Block Branch Condition Item enclosed_stmt enclosed_link enclosed enclosed_field enclosed_step enclosed_kind enclosed_arm enclosed_block enclosed_branch enclosed_condition enclosed_item y

link_by : (y : LinkNode) → enclosed_link (views.roll-Link y) ≡ link_with (link_parts y)
unfolding enclosed_stmt enclosed_link enclosed enclosed_field enclosed_step enclosed_kind enclosed_arm enclosed_block enclosed_branch enclosed_condition enclosed_item
link_by y = fold.fold-roll-Link Stmt Link Expr FieldExpr Step ItemKind Arm Block Branch Condition Item stmt_with link_with expr_with field_with step_with kind_with arm_with block_with branch_with condition_with item_with y

abbrev expr_parts : ExprNode → ExprNode
expr_parts y = fold.map-Expr Stmt Link Expr FieldExpr Step ItemKind Arm Block Branch Condition Item Stmt Link Expr FieldExpr Step ItemKind Arm Block Branch Condition Item enclosed_stmt enclosed_link enclosed enclosed_field enclosed_step enclosed_kind enclosed_arm enclosed_block enclosed_branch enclosed_condition enclosed_item y

expr_by : (y : ExprNode) → enclosed (views.roll-Expr y) ≡ expr_with (expr_parts y)
unfolding enclosed_stmt enclosed_link enclosed enclosed_field enclosed_step enclosed_kind enclosed_arm enclosed_block enclosed_branch enclosed_condition enclosed_item
expr_by y = fold.fold-roll-Expr Stmt Link Expr FieldExpr Step ItemKind Arm Block Branch Condition Item stmt_with link_with expr_with field_with step_with kind_with arm_with block_with branch_with condition_with item_with y

abbrev field_parts : FieldNode → FieldNode
field_parts y = fold.map-FieldExpr Stmt Link Expr FieldExpr Step ItemKind Arm Block Branch Condition Item Stmt Link Expr FieldExpr Step ItemKind Arm Block Branch Condition Item enclosed_stmt enclosed_link enclosed enclosed_field enclosed_step enclosed_kind enclosed_arm enclosed_block enclosed_branch enclosed_condition enclosed_item y

field_by : (y : FieldNode) → enclosed_field (views.roll-FieldExpr y) ≡ field_with (field_parts y)
unfolding enclosed_stmt enclosed_link enclosed enclosed_field enclosed_step enclosed_kind enclosed_arm enclosed_block enclosed_branch enclosed_condition enclosed_item
field_by y = fold.fold-roll-FieldExpr Stmt Link Expr FieldExpr Step ItemKind Arm Block Branch Condition Item stmt_with link_with expr_with field_with step_with kind_with arm_with block_with branch_with condition_with item_with y

abbrev step_parts : StepNode → StepNode
step_parts y = fold.map-Step Stmt Link Expr FieldExpr Step ItemKind Arm Block Branch Condition Item Stmt Link Expr FieldExpr Step ItemKind Arm Block Branch Condition Item enclosed_stmt enclosed_link enclosed enclosed_field enclosed_step enclosed_kind enclosed_arm enclosed_block enclosed_branch enclosed_condition enclosed_item y

step_by : (y : StepNode) → enclosed_step (views.roll-Step y) ≡ step_with (step_parts y)
unfolding enclosed_stmt enclosed_link enclosed enclosed_field enclosed_step enclosed_kind enclosed_arm enclosed_block enclosed_branch enclosed_condition enclosed_item
step_by y = fold.fold-roll-Step Stmt Link Expr FieldExpr Step ItemKind Arm Block Branch Condition Item stmt_with link_with expr_with field_with step_with kind_with arm_with block_with branch_with condition_with item_with y

abbrev kind_parts : KindNode → KindNode
kind_parts y = fold.map-ItemKind Stmt Link Expr FieldExpr Step ItemKind Arm Block Branch Condition Item Stmt Link Expr FieldExpr Step ItemKind Arm Block Branch Condition Item enclosed_stmt enclosed_link enclosed enclosed_field enclosed_step enclosed_kind enclosed_arm enclosed_block enclosed_branch enclosed_condition enclosed_item y

kind_by : (y : KindNode) → enclosed_kind (views.roll-ItemKind y) ≡ kind_with (kind_parts y)
unfolding enclosed_stmt enclosed_link enclosed enclosed_field enclosed_step enclosed_kind enclosed_arm enclosed_block enclosed_branch enclosed_condition enclosed_item
kind_by y = fold.fold-roll-ItemKind Stmt Link Expr FieldExpr Step ItemKind Arm Block Branch Condition Item stmt_with link_with expr_with field_with step_with kind_with arm_with block_with branch_with condition_with item_with y

abbrev arm_parts : ArmNode → ArmNode
arm_parts y = fold.map-Arm Stmt Link Expr FieldExpr Step ItemKind Arm Block Branch Condition Item Stmt Link Expr FieldExpr Step ItemKind Arm Block Branch Condition Item enclosed_stmt enclosed_link enclosed enclosed_field enclosed_step enclosed_kind enclosed_arm enclosed_block enclosed_branch enclosed_condition enclosed_item y

arm_by : (y : ArmNode) → enclosed_arm (views.roll-Arm y) ≡ arm_with (arm_parts y)
unfolding enclosed_stmt enclosed_link enclosed enclosed_field enclosed_step enclosed_kind enclosed_arm enclosed_block enclosed_branch enclosed_condition enclosed_item
arm_by y = fold.fold-roll-Arm Stmt Link Expr FieldExpr Step ItemKind Arm Block Branch Condition Item stmt_with link_with expr_with field_with step_with kind_with arm_with block_with branch_with condition_with item_with y

abbrev block_parts : BlockNode → BlockNode
block_parts y = fold.map-Block Stmt Link Expr FieldExpr Step ItemKind Arm Block Branch Condition Item Stmt Link Expr FieldExpr Step ItemKind Arm Block Branch Condition Item enclosed_stmt enclosed_link enclosed enclosed_field enclosed_step enclosed_kind enclosed_arm enclosed_block enclosed_branch enclosed_condition enclosed_item y

block_by : (y : BlockNode) → enclosed_block (views.roll-Block y) ≡ block_with (block_parts y)
unfolding enclosed_stmt enclosed_link enclosed enclosed_field enclosed_step enclosed_kind enclosed_arm enclosed_block enclosed_branch enclosed_condition enclosed_item
block_by y = fold.fold-roll-Block Stmt Link Expr FieldExpr Step ItemKind Arm Block Branch Condition Item stmt_with link_with expr_with field_with step_with kind_with arm_with block_with branch_with condition_with item_with y

abbrev branch_parts : BranchNode → BranchNode
branch_parts y = fold.map-Branch Stmt Link Expr FieldExpr Step ItemKind Arm Block Branch Condition Item Stmt Link Expr FieldExpr Step ItemKind Arm Block Branch Condition Item enclosed_stmt enclosed_link enclosed enclosed_field enclosed_step enclosed_kind enclosed_arm enclosed_block enclosed_branch enclosed_condition enclosed_item y

branch_by : (y : BranchNode) → enclosed_branch (views.roll-Branch y) ≡ branch_with (branch_parts y)
unfolding enclosed_stmt enclosed_link enclosed enclosed_field enclosed_step enclosed_kind enclosed_arm enclosed_block enclosed_branch enclosed_condition enclosed_item
branch_by y = fold.fold-roll-Branch Stmt Link Expr FieldExpr Step ItemKind Arm Block Branch Condition Item stmt_with link_with expr_with field_with step_with kind_with arm_with block_with branch_with condition_with item_with y

abbrev condition_parts : ConditionNode → ConditionNode
condition_parts y = fold.map-Condition Stmt Link Expr FieldExpr Step ItemKind Arm Block Branch Condition Item Stmt Link Expr FieldExpr Step ItemKind Arm Block Branch Condition Item enclosed_stmt enclosed_link enclosed enclosed_field enclosed_step enclosed_kind enclosed_arm enclosed_block enclosed_branch enclosed_condition enclosed_item y

condition_by : (y : ConditionNode) → enclosed_condition (views.roll-Condition y) ≡ condition_with (condition_parts y)
unfolding enclosed_stmt enclosed_link enclosed enclosed_field enclosed_step enclosed_kind enclosed_arm enclosed_block enclosed_branch enclosed_condition enclosed_item
condition_by y = fold.fold-roll-Condition Stmt Link Expr FieldExpr Step ItemKind Arm Block Branch Condition Item stmt_with link_with expr_with field_with step_with kind_with arm_with block_with branch_with condition_with item_with y

abbrev item_parts : ItemNode → ItemNode
item_parts y = fold.map-Item Stmt Link Expr FieldExpr Step ItemKind Arm Block Branch Condition Item Stmt Link Expr FieldExpr Step ItemKind Arm Block Branch Condition Item enclosed_stmt enclosed_link enclosed enclosed_field enclosed_step enclosed_kind enclosed_arm enclosed_block enclosed_branch enclosed_condition enclosed_item y

item_by : (y : ItemNode) → enclosed_item (views.roll-Item y) ≡ item_with (item_parts y)
unfolding enclosed_stmt enclosed_link enclosed enclosed_field enclosed_step enclosed_kind enclosed_arm enclosed_block enclosed_branch enclosed_condition enclosed_item
item_by y = fold.fold-roll-Item Stmt Link Expr FieldExpr Step ItemKind Arm Block Branch Condition Item stmt_with link_with expr_with field_with step_with kind_with arm_with block_with branch_with condition_with item_with y

-- with parentheses
stmt_on : (y : StmtNode) → stmt_with (stmt_parts y) ≡ stmt_shell true y
stmt_on (Stmt-F.Stmt::Let attrs pat ty None None) = refl
stmt_on (Stmt-F.Stmt::Let attrs pat ty None (Some otherwise)) = refl
stmt_on (Stmt-F.Stmt::Let attrs pat ty (Some x) None) = refl
stmt_on (Stmt-F.Stmt::Let attrs pat ty (Some x) (Some otherwise)) = refl
stmt_on _ = refl

-- as it is
stmt_off : (y : StmtNode) → stmt_shell false y ≡ views.roll-Stmt y
stmt_off (Stmt-F.Stmt::Let attrs pat ty x otherwise) = ap₂ (λ (z0 : Option Expr) (z1 : Option Block). stmt.Let attrs pat ty z0 z1) (part_off x) (block_off otherwise) ∙ sym (views.rolls-Stmt::Let attrs pat ty x otherwise)
stmt_off (Stmt-F.Item item) = sym (views.rolls-Item item)
stmt_off (Stmt-F.Stmt::Expr attrs x ended) = sym (views.rolls-Stmt::Expr attrs x ended)

-- with parentheses
link_on : (y : LinkNode) → link_with (link_parts y) ≡ link_shell true y
link_on (Link-F.Link::Expr x) = refl
link_on (Link-F.Link::Let pat x) = refl

-- as it is
link_off : (y : LinkNode) → link_shell false y ≡ views.roll-Link y
link_off (Link-F.Link::Expr x) = sym (views.rolls-Link::Expr x)
link_off (Link-F.Link::Let pat x) = sym (views.rolls-Link::Let pat x)

-- with parentheses
expr_on : (y : ExprNode) → expr_with (expr_parts y) ≡ expr_shell true y
expr_on (Expr-F.Tuple xs) = ap (λ (zs : List Expr). expr.Tuple zs) (parts_on xs)
expr_on (Expr-F.Array xs) = ap (λ (zs : List Expr). expr.Array zs) (parts_on xs)
expr_on (Expr-F.Expr::Struct path fields None) = refl
expr_on (Expr-F.Expr::Struct path fields (Some None)) = refl
expr_on (Expr-F.Expr::Struct path fields (Some (Some base))) = refl
expr_on (Expr-F.Chain x rest) = ap (λ (zs : List (Op × Expr)). expr.Chain (part true x) zs) (operands_on rest)
expr_on (Expr-F.Range None inclusive None) = refl
expr_on (Expr-F.Range None inclusive (Some end)) = refl
expr_on (Expr-F.Range (Some start) inclusive None) = refl
expr_on (Expr-F.Range (Some start) inclusive (Some end)) = refl
expr_on (Expr-F.Assign targets x) = ap (λ (zs : List (Expr × Op)). expr.Assign zs (part true x)) (targets_on targets)
expr_on (Expr-F.If branches None) = refl
expr_on (Expr-F.If branches (Some otherwise)) = refl
expr_on (Expr-F.Return None) = refl
expr_on (Expr-F.Return (Some x)) = refl
expr_on (Expr-F.Break label None) = refl
expr_on (Expr-F.Break label (Some x)) = refl
expr_on _ = refl

-- as it is
expr_off : (y : ExprNode) → expr_shell false y ≡ views.roll-Expr y
expr_off (Expr-F.Lit l) = sym (views.rolls-Lit l)
expr_off (Expr-F.Path path) = sym (views.rolls-Path path)
expr_off Expr-F.Underscore = sym views.rolls-Underscore
expr_off (Expr-F.Expr::Call call) = sym (views.rolls-Expr::Call call)
expr_off (Expr-F.Paren x) = sym (views.rolls-Paren x)
expr_off (Expr-F.Continue label) = sym (views.rolls-Continue label)
expr_off (Expr-F.Tuple xs) = ap (λ (z0 : List Expr). expr.Tuple z0) (parts_off xs) ∙ sym (views.rolls-Tuple xs)
expr_off (Expr-F.Array xs) = ap (λ (z0 : List Expr). expr.Array z0) (parts_off xs) ∙ sym (views.rolls-Array xs)
expr_off (Expr-F.Repeat x length) = sym (views.rolls-Repeat x length)
expr_off (Expr-F.Expr::Struct path fields base) = ap₂ (λ (z0 : List FieldExpr) (z1 : Option (Option Expr)). expr.Struct path z0 z1) ((all_off (enclose_field false) (λ x. refl)) fields) (base_off base) ∙ sym (views.rolls-Expr::Struct path fields base)
expr_off (Expr-F.Chain x rest) = ap (λ (z0 : List (Op × Expr)). expr.Chain x z0) (operands_off rest) ∙ sym (views.rolls-Chain x rest)
expr_off (Expr-F.Cast x types) = sym (views.rolls-Cast x types)
expr_off (Expr-F.Unary ps x) = sym (views.rolls-Unary ps x)
expr_off (Expr-F.Range start inclusive end) = ap₂ (λ (z0 : Option Expr) (z1 : Option Expr). expr.Range z0 inclusive z1) (part_off start) (part_off end) ∙ sym (views.rolls-Range start inclusive end)
expr_off (Expr-F.Assign targets x) = ap (λ (z0 : List (Expr × Op)). expr.Assign z0 x) (targets_off targets) ∙ sym (views.rolls-Assign targets x)
expr_off (Expr-F.Postfix x steps) = ap (λ (z0 : List Step). expr.Postfix x z0) ((all_off (enclose_step false) (λ x. refl)) steps) ∙ sym (views.rolls-Postfix x steps)
expr_off (Expr-F.Block label b) = sym (views.rolls-Block label b)
expr_off (Expr-F.Unsafe b) = sym (views.rolls-Unsafe b)
expr_off (Expr-F.ConstBlock b) = sym (views.rolls-ConstBlock b)
expr_off (Expr-F.Async moves b) = sym (views.rolls-Async moves b)
expr_off (Expr-F.If branches otherwise) = ap₂ (λ (z0 : List Branch) (z1 : Option Block). expr.If z0 z1) ((all_off (enclose_branch false) (λ x. refl)) branches) (block_off otherwise) ∙ sym (views.rolls-If branches otherwise)
expr_off (Expr-F.Match x attrs arms) = ap (λ (z0 : List Arm). expr.Match x attrs z0) ((all_off (enclose_arm false) (λ x. refl)) arms) ∙ sym (views.rolls-Match x attrs arms)
expr_off (Expr-F.Loop label b) = sym (views.rolls-Loop label b)
expr_off (Expr-F.While label c b) = sym (views.rolls-While label c b)
expr_off (Expr-F.For label pat x b) = sym (views.rolls-For label pat x b)
expr_off (Expr-F.Closure is_async moves params x) = sym (views.rolls-Closure is_async moves params x)
expr_off (Expr-F.TypedClosure is_async moves params output b) = sym (views.rolls-TypedClosure is_async moves params output b)
expr_off (Expr-F.Return x) = ap (λ (z0 : Option Expr). expr.Return z0) (part_off x) ∙ sym (views.rolls-Return x)
expr_off (Expr-F.Break label x) = ap (λ (z0 : Option Expr). expr.Break label z0) (part_off x) ∙ sym (views.rolls-Break label x)

-- with parentheses
field_on : (y : FieldNode) → field_with (field_parts y) ≡ field_shell true y
field_on (FieldExpr-F.Short attrs name) = refl
field_on _ = refl

-- as it is
field_off : (y : FieldNode) → field_shell false y ≡ views.roll-FieldExpr y
field_off (FieldExpr-F.Named attrs name x) = sym (views.rolls-Named attrs name x)
field_off (FieldExpr-F.Numbered attrs index x) = sym (views.rolls-Numbered attrs index x)
field_off (FieldExpr-F.Short attrs name) = sym (views.rolls-Short attrs name)

-- with parentheses
step_on : (y : StepNode) → step_with (step_parts y) ≡ step_shell true y
step_on (Step-F.Method name generics args) = ap (λ (zs : List Expr). step.Method name generics zs) (parts_on args)
step_on (Step-F.Apply args) = ap (λ (zs : List Expr). step.Apply zs) (parts_on args)
step_on _ = refl

-- as it is
step_off : (y : StepNode) → step_shell false y ≡ views.roll-Step y
step_off (Step-F.Field name) = sym (views.rolls-Field name)
step_off (Step-F.TupleIndex index) = sym (views.rolls-TupleIndex index)
step_off (Step-F.Method name generics args) = ap (λ (z0 : List Expr). step.Method name generics z0) (parts_off args) ∙ sym (views.rolls-Method name generics args)
step_off (Step-F.Apply args) = ap (λ (z0 : List Expr). step.Apply z0) (parts_off args) ∙ sym (views.rolls-Apply args)
step_off (Step-F.Index x) = sym (views.rolls-Index x)
step_off Step-F.Try = sym views.rolls-Try
step_off Step-F.Await = sym views.rolls-Await

-- with parentheses
kind_on : (y : KindNode) → kind_with (kind_parts y) ≡ kind_shell true y
kind_on (ItemKind-F.Function head wheres None) = refl
kind_on (ItemKind-F.Function head wheres (Some b)) = refl
kind_on (ItemKind-F.Value head None) = refl
kind_on (ItemKind-F.Value head (Some x)) = refl
kind_on _ = refl

-- as it is
kind_off : (y : KindNode) → kind_shell false y ≡ views.roll-ItemKind y
kind_off (ItemKind-F.ExternCrate x) = sym (views.rolls-ExternCrate x)
kind_off (ItemKind-F.Import tree) = sym (views.rolls-Import tree)
kind_off (ItemKind-F.FileModule name) = sym (views.rolls-FileModule name)
kind_off (ItemKind-F.Module name attrs items) = ap (λ (z0 : List Item). kind.Module name attrs z0) (items_off items) ∙ sym (views.rolls-Module name attrs items)
kind_off (ItemKind-F.Function head wheres b) = ap (λ (z0 : Option Block). kind.Function head wheres z0) (block_off b) ∙ sym (views.rolls-Function head wheres b)
kind_off (ItemKind-F.Alias x) = sym (views.rolls-Alias x)
kind_off (ItemKind-F.ItemKind::Struct x) = sym (views.rolls-ItemKind::Struct x)
kind_off (ItemKind-F.Union x) = sym (views.rolls-Union x)
kind_off (ItemKind-F.Enum x) = sym (views.rolls-Enum x)
kind_off (ItemKind-F.Value head x) = ap (λ (z0 : Option Expr). kind.Value head z0) (part_off x) ∙ sym (views.rolls-Value head x)
kind_off (ItemKind-F.Trait head wheres attrs items) = ap (λ (z0 : List Item). kind.Trait head wheres attrs z0) (items_off items) ∙ sym (views.rolls-Trait head wheres attrs items)
kind_off (ItemKind-F.Impl head wheres attrs items) = ap (λ (z0 : List Item). kind.Impl head wheres attrs z0) (items_off items) ∙ sym (views.rolls-Impl head wheres attrs items)
kind_off (ItemKind-F.Foreign is_unsafe abi attrs items) = ap (λ (z0 : List Item). kind.Foreign is_unsafe abi attrs z0) (items_off items) ∙ sym (views.rolls-Foreign is_unsafe abi attrs items)
kind_off (ItemKind-F.MacroRules name rules) = sym (views.rolls-MacroRules name rules)
kind_off (ItemKind-F.ItemKind::Call call) = sym (views.rolls-ItemKind::Call call)

-- with parentheses
arm_on : (y : ArmNode) → arm_with (arm_parts y) ≡ arm_shell true y
arm_on y = by y.guard
  where
    by : (guard : Option Expr) → arm_with (arm_parts (record { attrs = y.attrs; pat = y.pat; guard = guard; body = y.body })) ≡ arm_shell true (record { attrs = y.attrs; pat = y.pat; guard = guard; body = y.body })
    by None = refl
    by (Some g) = refl

-- as it is
arm_off : (y : ArmNode) → arm_shell false y ≡ views.roll-Arm y
arm_off y = ap (λ (guard : Option Expr). views.roll-Arm (record { attrs = y.attrs; pat = y.pat; guard = guard; body = y.body })) (part_off y.guard)

block_off_is : (y : BlockNode) → block_shell false y ≡ views.roll-Block y
block_off_is y = ap (λ (stmts : List Stmt). views.roll-Block (record { attrs = y.attrs; stmts = stmts })) (all_off (enclose_stmt false) (λ x. refl) y.stmts)

condition_off : (y : ConditionNode) → condition_shell false y ≡ views.roll-Condition y
condition_off y = ap (λ (links : List Link). views.roll-Condition (record { links = links })) (all_off (enclose_link false) (λ x. refl) y.links)

-- ---- each node by itself

pub shell_stmt_is : (d : Bool) (x : Stmt) → shell_stmt d x ≡ enclose_stmt d x
shell_stmt_is true x = sym (ap enclosed_stmt (sym (views.roll-out-Stmt x)) ∙ stmt_by (views.out-Stmt x) ∙ stmt_on (views.out-Stmt x))
shell_stmt_is false x = stmt_off (views.out-Stmt x) ∙ views.roll-out-Stmt x

pub shell_link_is : (d : Bool) (x : Link) → shell_link d x ≡ enclose_link d x
shell_link_is true x = sym (ap enclosed_link (sym (views.roll-out-Link x)) ∙ link_by (views.out-Link x) ∙ link_on (views.out-Link x))
shell_link_is false x = link_off (views.out-Link x) ∙ views.roll-out-Link x

pub shell_is : (d : Bool) (x : Expr) → shell d x ≡ enclose d x
shell_is true x = sym (ap enclosed (sym (views.roll-out-Expr x)) ∙ expr_by (views.out-Expr x) ∙ expr_on (views.out-Expr x))
shell_is false x = expr_off (views.out-Expr x) ∙ views.roll-out-Expr x

pub shell_field_is : (d : Bool) (x : FieldExpr) → shell_field d x ≡ enclose_field d x
shell_field_is true x = sym (ap enclosed_field (sym (views.roll-out-FieldExpr x)) ∙ field_by (views.out-FieldExpr x) ∙ field_on (views.out-FieldExpr x))
shell_field_is false x = field_off (views.out-FieldExpr x) ∙ views.roll-out-FieldExpr x

pub shell_step_is : (d : Bool) (x : Step) → shell_step d x ≡ enclose_step d x
shell_step_is true x = sym (ap enclosed_step (sym (views.roll-out-Step x)) ∙ step_by (views.out-Step x) ∙ step_on (views.out-Step x))
shell_step_is false x = step_off (views.out-Step x) ∙ views.roll-out-Step x

pub shell_kind_is : (d : Bool) (x : ItemKind) → shell_kind d x ≡ enclose_kind d x
shell_kind_is true x = sym (ap enclosed_kind (sym (views.roll-out-ItemKind x)) ∙ kind_by (views.out-ItemKind x) ∙ kind_on (views.out-ItemKind x))
shell_kind_is false x = kind_off (views.out-ItemKind x) ∙ views.roll-out-ItemKind x

pub shell_arm_is : (d : Bool) (x : Arm) → shell_arm d x ≡ enclose_arm d x
shell_arm_is true x = sym (ap enclosed_arm (sym (views.roll-out-Arm x)) ∙ arm_by (views.out-Arm x) ∙ arm_on (views.out-Arm x))
shell_arm_is false x = arm_off (views.out-Arm x) ∙ views.roll-out-Arm x

pub shell_block_is : (d : Bool) (x : Block) → shell_block d x ≡ enclose_block d x
shell_block_is true x = sym (ap enclosed_block (sym (views.roll-out-Block x)) ∙ block_by (views.out-Block x))
shell_block_is false x = block_off_is (views.out-Block x) ∙ views.roll-out-Block x

pub shell_branch_is : (d : Bool) (x : Branch) → shell_branch d x ≡ enclose_branch d x
shell_branch_is true x = sym (ap enclosed_branch (sym (views.roll-out-Branch x)) ∙ branch_by (views.out-Branch x))
shell_branch_is false x = views.roll-out-Branch x

pub shell_condition_is : (d : Bool) (x : Condition) → shell_condition d x ≡ enclose_condition d x
shell_condition_is true x = sym (ap enclosed_condition (sym (views.roll-out-Condition x)) ∙ condition_by (views.out-Condition x))
shell_condition_is false x = condition_off (views.out-Condition x) ∙ views.roll-out-Condition x

pub shell_item_is : (d : Bool) (x : Item) → shell_item d x ≡ enclose_item d x
shell_item_is true x = sym (ap enclosed_item (sym (views.roll-out-Item x)) ∙ item_by (views.out-Item x))
shell_item_is false x = views.roll-out-Item x
