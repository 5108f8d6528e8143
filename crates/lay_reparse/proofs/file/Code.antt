-- Expressions, blocks and items pass, by the induction of their family: each layer whose nodes pass does.
use Rattle.std.proofs.Common.{◌≡◌, List, [], ◌∷◌, true, refl, subst, codes}
use Rattle.std.specs.List.{list_all}
use Rattle.lay_piece.specs.declared.kind.Delim.TheVariants.{Paren, Bracket, Brace}
use Rattle.lay_piece.specs.declared.kind.Kind.TheVariants as kind
use Rattle.lay_form.specs.Form.{Bit, Blank, Fixed, Operator, keyword, opener, closer, comma, semicolon}
use Rattle.lay_form.specs.Pieces.{are_pieces}
use Rattle.lay_node.specs.nodes.Types.{colon, equals}
use Rattle.lay_code.specs.nodes.Code.{about_arm, about_block, about_branch, about_condition, about_expr, about_field_expr, about_link, about_step, about_stmt, told_of_item}
use Rattle.lay_code.specs.nodes.Exprs.{placed}
use Rattle.lay_code.specs.nodes.Layers.{ArmNode, BlockNode, BranchNode, ConditionNode, ExprNode, FieldNode, ItemNode, KindNode, LinkNode, StepNode, StmtNode}
use Rattle.lay_code.specs.declared.exprs.Place.{Place}
use Rattle.lay_code.specs.declared.blocks.Arm.{Arm}
use Rattle.lay_code.specs.declared.blocks.Block.{Block}
use Rattle.lay_code.specs.declared.blocks.Branch.{Branch}
use Rattle.lay_code.specs.declared.blocks.Stmt.{Stmt}
use Rattle.lay_code.specs.declared.blocks.Stmt.TheFolds as fold
use Rattle.lay_code.specs.declared.blocks.Stmt.TheOpen.{Arm-F, Block-F, Branch-F, Condition-F, Expr-F, FieldExpr-F, Item-F, ItemKind-F, Link-F, Step-F, Stmt-F}
use Rattle.lay_code.specs.declared.blocks.Stmt.TheViews as views
use Rattle.lay_code.specs.declared.conditions.Condition.{Condition}
use Rattle.lay_code.specs.declared.conditions.Link.{Link}
use Rattle.lay_code.specs.declared.exprs.Expr.{Expr}
use Rattle.lay_code.specs.declared.exprs.FieldExpr.{FieldExpr}
use Rattle.lay_code.specs.declared.exprs.Step.{Step}
use Rattle.lay_code.specs.declared.item.Item.{Item}
use Rattle.lay_reparse.proofs.borders.Border.{Border, beyond}
use Rattle.lay_reparse.proofs.forms.Passes.{plain}
use Rattle.lay_reparse.proofs.forms.Rules.{tables, From, wider}
use Rattle.lay_reparse.proofs.file.TypeArgs.{Passing}
use Rattle.lay_reparse.proofs.file.Types.{frees}
use Rattle.lay_reparse.proofs.file.ExprParts.{ends_expr, ends_any, begins_expr, any_begins, in_both}
use Rattle.lay_reparse.proofs.file.ExprPlaces.{ExprPasses, stands_at}
use Rattle.lay_reparse.proofs.file.ExprSteps.{StepPasses}
use Rattle.lay_reparse.proofs.file.BlockKinds.{BlockPasses, ItemPasses, StmtPasses}
use Rattle.lay_reparse.proofs.file.ArmKinds.{ArmPasses, BranchPasses}
use Rattle.lay_reparse.proofs.file.Conditions.{ConditionPasses, LinkPasses}
use Rattle.lay_reparse.proofs.file.CodeKept.{ArmIs, BlockIs, BranchIs, ConditionIs, ExprIs, FieldIs, ItemIs, Kept, KindIs, LinkIs, StepIs, StmtIs, arm_layer, block_layer, branch_layer, condition_layer, expr_layer, field_layer, item_layer, kind_layer, link_layer, step_layer, stmt_layer}
use Rattle.lay_reparse.proofs.file.Exprs.{expr_step, field_step, step_step}
use Rattle.lay_reparse.proofs.file.Blocks.{arm_step, block_step, branch_step, condition_step, link_step, stmt_step}
use Rattle.lay_reparse.proofs.file.Kinds.{item_step, kind_step}

-- ---- each layer that is one whose nodes pass

stmt_rolled : (x : StmtNode) (y : Kept Stmt-F) → stmt_layer y ≡ x → StmtIs (views.roll-Stmt x)
stmt_rolled x y is = subst (λ z. StmtIs (views.roll-Stmt z)) is (stmt_step y)

expr_rolled : (x : ExprNode) (y : Kept Expr-F) → expr_layer y ≡ x → ExprIs (views.roll-Expr x)
expr_rolled x y is = subst (λ z. ExprIs (views.roll-Expr z)) is (expr_step y)

field_rolled : (x : FieldNode) (y : Kept FieldExpr-F) → field_layer y ≡ x → FieldIs (views.roll-FieldExpr x)
field_rolled x y is = subst (λ z. FieldIs (views.roll-FieldExpr z)) is (field_step y)

step_rolled : (x : StepNode) (y : Kept Step-F) → step_layer y ≡ x → StepIs (views.roll-Step x)
step_rolled x y is = subst (λ z. StepIs (views.roll-Step z)) is (step_step y)

kind_rolled : (x : KindNode) (y : Kept ItemKind-F) → kind_layer y ≡ x → KindIs (views.roll-ItemKind x)
kind_rolled x y is = subst (λ z. KindIs (views.roll-ItemKind z)) is (kind_step y)

arm_rolled : (x : ArmNode) (y : Kept Arm-F) → arm_layer y ≡ x → ArmIs (views.roll-Arm x)
arm_rolled x y is = subst (λ z. ArmIs (views.roll-Arm z)) is (arm_step y)

block_rolled : (x : BlockNode) (y : Kept Block-F) → block_layer y ≡ x → BlockIs (views.roll-Block x)
block_rolled x y is = subst (λ z. BlockIs (views.roll-Block z)) is (block_step y)

branch_rolled : (x : BranchNode) (y : Kept Branch-F) → branch_layer y ≡ x → BranchIs (views.roll-Branch x)
branch_rolled x y is = subst (λ z. BranchIs (views.roll-Branch z)) is (branch_step y)

link_rolled : (x : LinkNode) (y : Kept Link-F) → link_layer y ≡ x → LinkIs (views.roll-Link x)
link_rolled x y is = subst (λ z. LinkIs (views.roll-Link z)) is (link_step y)

condition_rolled : (x : ConditionNode) (y : Kept Condition-F) → condition_layer y ≡ x → ConditionIs (views.roll-Condition x)
condition_rolled x y is = subst (λ z. ConditionIs (views.roll-Condition z)) is (condition_step y)

item_rolled : (x : ItemNode) (y : Kept Item-F) → item_layer y ≡ x → ItemIs (views.roll-Item x)
item_rolled x y is = subst (λ z. ItemIs (views.roll-Item z)) is (item_step y)

-- ---- and so each node does

pub stmt_passes : (x : Stmt) → StmtPasses (about_stmt x)
stmt_passes = fold.ind-Stmt StmtIs LinkIs ExprIs FieldIs StepIs KindIs ArmIs BlockIs BranchIs ConditionIs ItemIs
    stmt_rolled link_rolled expr_rolled field_rolled step_rolled kind_rolled arm_rolled block_rolled branch_rolled condition_rolled item_rolled

pub expr_passes : (x : Expr) → ExprPasses (about_expr x)
expr_passes = fold.ind-Expr StmtIs LinkIs ExprIs FieldIs StepIs KindIs ArmIs BlockIs BranchIs ConditionIs ItemIs
    stmt_rolled link_rolled expr_rolled field_rolled step_rolled kind_rolled arm_rolled block_rolled branch_rolled condition_rolled item_rolled

pub field_expr_passes : (x : FieldExpr) → Passing plain ends_expr (about_field_expr x)
field_expr_passes = fold.ind-FieldExpr StmtIs LinkIs ExprIs FieldIs StepIs KindIs ArmIs BlockIs BranchIs ConditionIs ItemIs
    stmt_rolled link_rolled expr_rolled field_rolled step_rolled kind_rolled arm_rolled block_rolled branch_rolled condition_rolled item_rolled

pub step_passes : (x : Step) → StepPasses (about_step x)
step_passes = fold.ind-Step StmtIs LinkIs ExprIs FieldIs StepIs KindIs ArmIs BlockIs BranchIs ConditionIs ItemIs
    stmt_rolled link_rolled expr_rolled field_rolled step_rolled kind_rolled arm_rolled block_rolled branch_rolled condition_rolled item_rolled

pub arm_passes : (x : Arm) → ArmPasses (about_arm x)
arm_passes = fold.ind-Arm StmtIs LinkIs ExprIs FieldIs StepIs KindIs ArmIs BlockIs BranchIs ConditionIs ItemIs
    stmt_rolled link_rolled expr_rolled field_rolled step_rolled kind_rolled arm_rolled block_rolled branch_rolled condition_rolled item_rolled

pub block_passes : (x : Block) → BlockPasses (about_block x)
block_passes = fold.ind-Block StmtIs LinkIs ExprIs FieldIs StepIs KindIs ArmIs BlockIs BranchIs ConditionIs ItemIs
    stmt_rolled link_rolled expr_rolled field_rolled step_rolled kind_rolled arm_rolled block_rolled branch_rolled condition_rolled item_rolled

pub branch_passes : (x : Branch) → BranchPasses (about_branch x)
branch_passes = fold.ind-Branch StmtIs LinkIs ExprIs FieldIs StepIs KindIs ArmIs BlockIs BranchIs ConditionIs ItemIs
    stmt_rolled link_rolled expr_rolled field_rolled step_rolled kind_rolled arm_rolled block_rolled branch_rolled condition_rolled item_rolled

pub condition_passes : (x : Condition) → ConditionPasses (about_condition x)
condition_passes = fold.ind-Condition StmtIs LinkIs ExprIs FieldIs StepIs KindIs ArmIs BlockIs BranchIs ConditionIs ItemIs
    stmt_rolled link_rolled expr_rolled field_rolled step_rolled kind_rolled arm_rolled block_rolled branch_rolled condition_rolled item_rolled

pub link_passes : (x : Link) → LinkPasses (about_link x)
link_passes = fold.ind-Link StmtIs LinkIs ExprIs FieldIs StepIs KindIs ArmIs BlockIs BranchIs ConditionIs ItemIs
    stmt_rolled link_rolled expr_rolled field_rolled step_rolled kind_rolled arm_rolled block_rolled branch_rolled condition_rolled item_rolled

pub item_passes : (x : Item) → ItemPasses (told_of_item x)
item_passes = fold.ind-Item StmtIs LinkIs ExprIs FieldIs StepIs KindIs ArmIs BlockIs BranchIs ConditionIs ItemIs
    stmt_rolled link_rolled expr_rolled field_rolled step_rolled kind_rolled arm_rolled block_rolled branch_rolled condition_rolled item_rolled

-- at each place, from each border where an expression may begin
pub expr_passes_at : (b : Border) → begins_expr b ≡ true → (p : Place) (x : Expr) → placed (about_expr x) p ≡ true
    → are_pieces (about_expr x).form ≡ true → From b (about_expr x).form ends_expr
expr_passes_at b h p x g w =
    wider (ends_any (about_expr x).tail.bare _)
    (in_both (λ v. stands_at (about_expr x) (expr_passes x) p g w v b (any_begins v b p.level h)))

-- After these an expression may begin, as it may where nothing is asked.
abbrev pub before_expr : List (List Bit)
before_expr =
    [] ∷ (Blank ∷ []) ∷ (opener Paren ∷ []) ∷ (opener Bracket ∷ []) ∷ (Blank ∷ opener Brace ∷ Blank ∷ []) ∷ comma
    ∷ semicolon ∷ colon ∷ equals ∷ (Fixed kind.Punct (codes "|") ∷ Blank ∷ []) ∷ (Blank ∷ Operator (codes "=>") ∷ Blank ∷ [])
    ∷ (keyword (codes "if") ∷ Blank ∷ []) ∷ []

pub expr_begins : list_all (λ p. begins_expr (beyond plain p)) before_expr ≡ true
unfolding tables
expr_begins = refl

-- These stand after an expression, and lead to where nothing is asked.
abbrev pub behind_expr : List (List Bit)
behind_expr =
    comma ∷ semicolon ∷ (closer Paren ∷ []) ∷ (closer Bracket ∷ []) ∷ (Blank ∷ []) ∷ (Blank ∷ opener Brace ∷ [])
    ∷ (Blank ∷ closer Brace ∷ []) ∷ (Blank ∷ Operator (codes "=>") ∷ Blank ∷ [])
    ∷ (Blank ∷ keyword (codes "else") ∷ Blank ∷ []) ∷ []

pub expr_followed : list_all (frees ends_expr) behind_expr ≡ true
unfolding tables
expr_followed = refl
