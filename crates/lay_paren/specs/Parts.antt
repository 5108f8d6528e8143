-- The parts of each kind of node, given what each expression becomes in its place and its slot.
use Rattle.std.specs.Prelude.{ℕ, Bool, true, false, List, [], ◌∷◌, map}
use Rattle.lay_node.specs.nodes.Types.{is_there}
use Rattle.lay_code.specs.nodes.Code.{about_step}
use Rattle.lay_code.specs.nodes.Places.{statement}
use Rattle.lay_code.specs.declared.blocks.Arm.{Arm}
use Rattle.lay_code.specs.declared.blocks.Block.{Block}
use Rattle.lay_code.specs.declared.blocks.Branch.{Branch}
use Rattle.lay_code.specs.declared.blocks.Stmt.{Stmt}
use Rattle.lay_code.specs.declared.blocks.Stmt.TheOpen.{Arm-F, Block-F, Branch-F, Condition-F, Expr-F, FieldExpr-F, Item-F, ItemKind-F, Link-F, Step-F, Stmt-F}
use Rattle.lay_code.specs.declared.conditions.Condition.{Condition}
use Rattle.lay_code.specs.declared.conditions.Link.{Link}
use Rattle.lay_code.specs.declared.exprs.Expr.{Expr}
use Rattle.lay_code.specs.declared.exprs.FieldExpr.{FieldExpr}
use Rattle.lay_code.specs.declared.exprs.Place.{Place}
use Rattle.lay_code.specs.declared.exprs.Step.{Step}
use Rattle.lay_code.specs.declared.item.Item.{Item}
use Rattle.lay_code.specs.declared.item.ItemKind.{ItemKind}
use Rattle.lay_code.specs.declared.operators.Op.{Op}
use Rattle.lay_paren_defs.specs.Traversal.{PartsBy, arm_of, block_of, branch_of, condition_of, expr_of, field_of, free_of, item_of, kind_of, link_of, made_within, operands_of, step_of, stmt_of, targets_of}
use Rattle.lay_paren_defs.specs.loose.Slots.{Any, Slot}
use Rattle.lay_paren.specs.Made.{Made, making}

-- what an expression becomes, by its place and its slot
abbrev pub Placed : Type 0
Placed = Place → Slot → Made Expr

-- What a link becomes. The flags say that it is a condition by itself, and that a further link
-- follows.
abbrev pub Linked : Type 0
Linked = Bool → Bool → Made Link

-- a node of this kind, with results in place of the nodes within it
abbrev pub Parts : (Type 0 → Type 0 → Type 0 → Type 0 → Type 0 → Type 0 → Type 0 → Type 0 → Type 0 → Type 0 → Type 0 → Type 0) → Type 0
Parts F = F (Made Stmt) Linked Placed (Made FieldExpr) (Made Step) (Made ItemKind) (Made Arm) (Made Block) (Made Branch) (Made Condition) (Made Item)

abbrev pub links_made : List Linked → List (Made Link)
links_made [] = []
links_made (l ∷ more) = l false (is_there more) ∷ links_made more

abbrev pub condition_links : List Linked → List (Made Link)
condition_links (l ∷ []) = l true false ∷ []
condition_links links = links_made links

abbrev pub made_parts : PartsBy Made (Made Stmt) Linked Placed (Made FieldExpr) (Made Step)
    (Made ItemKind) (Made Arm) (Made Block) (Made Branch) (Made Condition) (Made Item)
made_parts =
    made_within {M = Made} {L = Linked} {E = Placed} (λ x place slot. x place slot)
    (λ x place. x place Any) (λ x. x statement Any) (λ steps. map about_step steps.result)
    condition_links

abbrev pub free_made : List Placed → Made (List Expr)
free_made xs = free_of making made_parts xs

abbrev pub operands_made : Place → ℕ → List (Op × Placed) → Made (List (Op × Expr))
operands_made place level xs = operands_of making made_parts place level xs

-- The flag says that the first target begins a part of what begins a statement.
abbrev pub targets_made : Place → Bool → List (Placed × Op) → Made (List (Expr × Op))
targets_made place first xs = targets_of making made_parts place first xs

abbrev pub step_made : Parts Step-F → Made Step
step_made x = step_of making made_parts x

abbrev pub field_made : Parts FieldExpr-F → Made FieldExpr
field_made x = field_of making made_parts x

-- what a node in this place becomes, by what its parts become
abbrev pub expr_made : Place → Parts Expr-F → Made Expr
expr_made place x = expr_of making made_parts place x

abbrev pub link_made : Parts Link-F → Linked
link_made x = λ alone more. link_of making made_parts alone more x

abbrev pub condition_made : Parts Condition-F → Made Condition
condition_made x = condition_of making made_parts x

abbrev pub stmt_made : Parts Stmt-F → Made Stmt
stmt_made x = stmt_of making made_parts x

abbrev pub block_made : Parts Block-F → Made Block
block_made x = block_of making made_parts x

abbrev pub branch_made : Parts Branch-F → Made Branch
branch_made x = branch_of making made_parts x

abbrev pub arm_made : Parts Arm-F → Made Arm
arm_made x = arm_of making made_parts x

abbrev pub kind_made : Parts ItemKind-F → Made ItemKind
kind_made x = kind_of making made_parts x

abbrev pub item_made : Parts Item-F → Made Item
item_made x = item_of making made_parts x
