-- Syntax trees in which each part is in parentheses. Not in parentheses are the whole of a
-- statement, and a block without a label that is the body of an arm or of a closure.
use Rattle.std.specs.Prelude.{Bool, if◌then◌else◌, true, false, [], map, None, option_map}
use Rattle.lay_code.specs.nodes.Places.{FREE}
use Rattle.lay_code.specs.nodes.Layers.{ArmNode, BlockNode, BranchNode, ConditionNode, ExprNode, FieldNode, ItemNode, KindNode, LinkNode, StepNode, StmtNode}
use Rattle.lay_code.specs.declared.blocks.Arm.{Arm}
use Rattle.lay_code.specs.declared.blocks.Block.{Block}
use Rattle.lay_code.specs.declared.blocks.Branch.{Branch}
use Rattle.lay_code.specs.declared.blocks.Stmt.{Stmt}
use Rattle.lay_code.specs.declared.blocks.Stmt.TheFolds as fold
use Rattle.lay_code.specs.declared.blocks.Stmt.TheOpen.{Expr-F}
use Rattle.lay_code.specs.declared.blocks.Stmt.TheViews as views
use Rattle.lay_code.specs.declared.conditions.Condition.{Condition}
use Rattle.lay_code.specs.declared.conditions.Link.{Link}
use Rattle.lay_code.specs.declared.exprs.Expr.{Expr}
use Rattle.lay_code.specs.declared.exprs.Expr.TheVariants as expr
use Rattle.lay_code.specs.declared.exprs.FieldExpr.{FieldExpr}
use Rattle.lay_code.specs.declared.exprs.Step.{Step}
use Rattle.lay_code.specs.declared.item.Item.{Item}
use Rattle.lay_code.specs.declared.item.ItemKind.{ItemKind}
use Rattle.lay_code.specs.declared.operators.Op.{Op}
use Rattle.lay_paren_defs.specs.Traversal.{PartsBy, Same, arm_of, as_is, block_of, branch_of, condition_of, expr_of, field_of, item_of, kind_of, link_of, made_within, step_of, stmt_of}

-- ---- a body of an arm or of a closure: a block without a label stands as it is

abbrev pub is_bare_node : ExprNode → Bool
is_bare_node (Expr-F.Block None b) = true
is_bare_node _ = false

abbrev pub is_bare : Expr → Bool
is_bare x = is_bare_node (views.out-Expr x)

abbrev pub bodied : Expr → Expr
bodied x = if is_bare x then x else expr.Paren x

-- ---- what stands in a node whose parts get their parentheses

abbrev pub TreesBy : Type 0
TreesBy = PartsBy Same Stmt Link Expr FieldExpr Step ItemKind Arm Block Branch Condition Item

-- Each part gets a pair of parentheses around what its own parts became. A body that is a block
-- without a label gets none, nor does the whole of a statement.
abbrev pub in_parens : TreesBy
in_parens =
    made_within {M = Same} {L = Link} {E = Expr} (λ x place slot. expr.Paren x)
    (λ x place. bodied x) (λ x. x) (λ steps. []) (λ xs. xs)

abbrev pub step_with : StepNode → Step
step_with x = step_of as_is in_parens x

abbrev pub field_with : FieldNode → FieldExpr
field_with x = field_of as_is in_parens x

abbrev pub expr_with : ExprNode → Expr
expr_with x = expr_of as_is in_parens FREE x

abbrev pub link_with : LinkNode → Link
link_with x = link_of as_is in_parens false false x

abbrev pub condition_with : ConditionNode → Condition
condition_with x = condition_of as_is in_parens x

abbrev pub stmt_with : StmtNode → Stmt
stmt_with x = stmt_of as_is in_parens x

abbrev pub block_with : BlockNode → Block
block_with x = block_of as_is in_parens x

abbrev pub branch_with : BranchNode → Branch
branch_with x = branch_of as_is in_parens x

abbrev pub arm_with : ArmNode → Arm
arm_with x = arm_of as_is in_parens x

abbrev pub kind_with : KindNode → ItemKind
kind_with x = kind_of as_is in_parens x

abbrev pub item_with : ItemNode → Item
item_with x = item_of as_is in_parens x

-- ---- trees

unfoldable pub enclosed_stmt : Stmt → Stmt
enclosed_stmt = fold.fold-Stmt Stmt Link Expr FieldExpr Step ItemKind Arm Block Branch Condition Item stmt_with link_with expr_with field_with step_with kind_with arm_with block_with branch_with condition_with item_with

unfoldable pub enclosed_link : Link → Link
enclosed_link = fold.fold-Link Stmt Link Expr FieldExpr Step ItemKind Arm Block Branch Condition Item stmt_with link_with expr_with field_with step_with kind_with arm_with block_with branch_with condition_with item_with

unfoldable pub enclosed : Expr → Expr
enclosed = fold.fold-Expr Stmt Link Expr FieldExpr Step ItemKind Arm Block Branch Condition Item stmt_with link_with expr_with field_with step_with kind_with arm_with block_with branch_with condition_with item_with

unfoldable pub enclosed_field : FieldExpr → FieldExpr
enclosed_field = fold.fold-FieldExpr Stmt Link Expr FieldExpr Step ItemKind Arm Block Branch Condition Item stmt_with link_with expr_with field_with step_with kind_with arm_with block_with branch_with condition_with item_with

unfoldable pub enclosed_step : Step → Step
enclosed_step = fold.fold-Step Stmt Link Expr FieldExpr Step ItemKind Arm Block Branch Condition Item stmt_with link_with expr_with field_with step_with kind_with arm_with block_with branch_with condition_with item_with

unfoldable pub enclosed_kind : ItemKind → ItemKind
enclosed_kind = fold.fold-ItemKind Stmt Link Expr FieldExpr Step ItemKind Arm Block Branch Condition Item stmt_with link_with expr_with field_with step_with kind_with arm_with block_with branch_with condition_with item_with

unfoldable pub enclosed_arm : Arm → Arm
enclosed_arm = fold.fold-Arm Stmt Link Expr FieldExpr Step ItemKind Arm Block Branch Condition Item stmt_with link_with expr_with field_with step_with kind_with arm_with block_with branch_with condition_with item_with

unfoldable pub enclosed_block : Block → Block
enclosed_block = fold.fold-Block Stmt Link Expr FieldExpr Step ItemKind Arm Block Branch Condition Item stmt_with link_with expr_with field_with step_with kind_with arm_with block_with branch_with condition_with item_with

unfoldable pub enclosed_branch : Branch → Branch
enclosed_branch = fold.fold-Branch Stmt Link Expr FieldExpr Step ItemKind Arm Block Branch Condition Item stmt_with link_with expr_with field_with step_with kind_with arm_with block_with branch_with condition_with item_with

unfoldable pub enclosed_condition : Condition → Condition
enclosed_condition = fold.fold-Condition Stmt Link Expr FieldExpr Step ItemKind Arm Block Branch Condition Item stmt_with link_with expr_with field_with step_with kind_with arm_with block_with branch_with condition_with item_with

unfoldable pub enclosed_item : Item → Item
enclosed_item = fold.fold-Item Stmt Link Expr FieldExpr Step ItemKind Arm Block Branch Condition Item stmt_with link_with expr_with field_with step_with kind_with arm_with block_with branch_with condition_with item_with

-- ---- the same where a flag says so

abbrev pub when : {A : Type 0} → Bool → (A → A) → A → A
when true f x = f x
when false f x = x

-- a whole
abbrev pub enclose : Bool → Expr → Expr
enclose d x = when d enclosed x

-- a part
abbrev pub part : Bool → Expr → Expr
part true x = expr.Paren (enclosed x)
part false x = x

-- a body
abbrev pub body_part : Bool → Expr → Expr
body_part true x = bodied (enclosed x)
body_part false x = x

abbrev pub operand_part : Bool → Op × Expr → Op × Expr
operand_part d x = (x.0, part d x.1)

abbrev pub target_part : Bool → Expr × Op → Expr × Op
target_part d x = (part d x.0, x.1)

abbrev pub enclose_stmt : Bool → Stmt → Stmt
enclose_stmt d x = when d enclosed_stmt x

abbrev pub enclose_link : Bool → Link → Link
enclose_link d x = when d enclosed_link x

abbrev pub enclose_field : Bool → FieldExpr → FieldExpr
enclose_field d x = when d enclosed_field x

abbrev pub enclose_step : Bool → Step → Step
enclose_step d x = when d enclosed_step x

abbrev pub enclose_kind : Bool → ItemKind → ItemKind
enclose_kind d x = when d enclosed_kind x

abbrev pub enclose_arm : Bool → Arm → Arm
enclose_arm d x = when d enclosed_arm x

abbrev pub enclose_block : Bool → Block → Block
enclose_block d x = when d enclosed_block x

abbrev pub enclose_branch : Bool → Branch → Branch
enclose_branch d x = when d enclosed_branch x

abbrev pub enclose_condition : Bool → Condition → Condition
enclose_condition d x = when d enclosed_condition x

abbrev pub enclose_item : Bool → Item → Item
enclose_item d x = when d enclosed_item x

-- ---- a node by itself, by what its parts become

abbrev pub enclosed_parts : Bool → TreesBy
enclosed_parts d = record {
  part = λ x place slot. part d x;
  body = λ x place. body_part d x;
  whole = λ x. enclose d x;
  told = λ steps. [];
  stmts = λ xs. map (enclose_stmt d) xs;
  links = λ xs. map (enclose_link d) xs;
  fields = λ xs. map (enclose_field d) xs;
  steps = λ xs. map (enclose_step d) xs;
  branches = λ xs. map (enclose_branch d) xs;
  arms = λ xs. map (enclose_arm d) xs;
  items = λ xs. map (enclose_item d) xs;
  block = λ x. enclose_block d x;
  some_block = λ x. option_map (enclose_block d) x;
  condition = λ x. enclose_condition d x;
  kind = λ x. enclose_kind d x;
  item = λ x. enclose_item d x;
}

abbrev pub step_shell : Bool → StepNode → Step
step_shell d x = step_of as_is (enclosed_parts d) x

abbrev pub field_shell : Bool → FieldNode → FieldExpr
field_shell d x = field_of as_is (enclosed_parts d) x

abbrev pub expr_shell : Bool → ExprNode → Expr
expr_shell d x = expr_of as_is (enclosed_parts d) FREE x

abbrev pub link_shell : Bool → LinkNode → Link
link_shell d x = link_of as_is (enclosed_parts d) false false x

abbrev pub condition_shell : Bool → ConditionNode → Condition
condition_shell d x = condition_of as_is (enclosed_parts d) x

abbrev pub stmt_shell : Bool → StmtNode → Stmt
stmt_shell d x = stmt_of as_is (enclosed_parts d) x

abbrev pub block_shell : Bool → BlockNode → Block
block_shell d x = block_of as_is (enclosed_parts d) x

abbrev pub branch_shell : Bool → BranchNode → Branch
branch_shell d x = branch_of as_is (enclosed_parts d) x

abbrev pub arm_shell : Bool → ArmNode → Arm
arm_shell d x = arm_of as_is (enclosed_parts d) x

abbrev pub kind_shell : Bool → KindNode → ItemKind
kind_shell d x = kind_of as_is (enclosed_parts d) x

abbrev pub item_shell : Bool → ItemNode → Item
item_shell d x = item_of as_is (enclosed_parts d) x

abbrev pub shell_stmt : Bool → Stmt → Stmt
shell_stmt d x = stmt_shell d (views.out-Stmt x)

abbrev pub shell_link : Bool → Link → Link
shell_link d x = link_shell d (views.out-Link x)

abbrev pub shell : Bool → Expr → Expr
shell d x = expr_shell d (views.out-Expr x)

abbrev pub shell_field : Bool → FieldExpr → FieldExpr
shell_field d x = field_shell d (views.out-FieldExpr x)

abbrev pub shell_step : Bool → Step → Step
shell_step d x = step_shell d (views.out-Step x)

abbrev pub shell_kind : Bool → ItemKind → ItemKind
shell_kind d x = kind_shell d (views.out-ItemKind x)

abbrev pub shell_arm : Bool → Arm → Arm
shell_arm d x = arm_shell d (views.out-Arm x)

abbrev pub shell_block : Bool → Block → Block
shell_block d x = block_shell d (views.out-Block x)

abbrev pub shell_branch : Bool → Branch → Branch
shell_branch d x = branch_shell d (views.out-Branch x)

abbrev pub shell_condition : Bool → Condition → Condition
shell_condition d x = condition_shell d (views.out-Condition x)

abbrev pub shell_item : Bool → Item → Item
shell_item d x = item_shell d (views.out-Item x)
