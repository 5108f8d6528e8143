-- The parts of a node, where each one gets the parentheses that it needs, as the code computes them
-- part by part.
use Rattle.std.specs.Prelude.{ℕ, suc, Bool, true, false, List, [], ◌∷◌, map, Option, Some, None, option_map}
use Rattle.lay_node.specs.nodes.Types.{is_there}
use Rattle.lay_code.specs.Operators.{is_angle_op}
use Rattle.lay_code.specs.nodes.Code.{about_step}
use Rattle.lay_code.specs.nodes.Places.{FREE, before_op, begins, statement}
use Rattle.lay_code.specs.nodes.PlacesTable.{as_node}
use Rattle.lay_code.specs.declared.blocks.Arm.{Arm}
use Rattle.lay_code.specs.declared.blocks.Block.{Block}
use Rattle.lay_code.specs.declared.blocks.Branch.{Branch}
use Rattle.lay_code.specs.declared.blocks.Stmt.{Stmt}
use Rattle.lay_code.specs.declared.blocks.Stmt.TheViews as views
use Rattle.lay_code.specs.declared.conditions.Condition.{Condition}
use Rattle.lay_code.specs.declared.conditions.Link.{Link}
use Rattle.lay_code.specs.declared.exprs.Expr.{Expr}
use Rattle.lay_code.specs.declared.exprs.FieldExpr.{FieldExpr}
use Rattle.lay_code.specs.declared.exprs.Place.{Place}
use Rattle.lay_code.specs.declared.exprs.Step.{Step}
use Rattle.lay_code.specs.declared.item.Item.{Item}
use Rattle.lay_code.specs.declared.item.ItemKind.{ItemKind}
use Rattle.lay_code.specs.declared.operators.Op.{Op}
use Rattle.lay_paren_defs.specs.loose.Slots as of
use Rattle.lay_paren_defs.specs.loose.Slots.{Any}
use Rattle.lay_paren.specs.Least.{made_of}
use Rattle.lay_paren.specs.Nodes.{expr_parts, made_arm, made_block, made_branch, made_condition, made_field, made_item, made_kind, made_link, made_step, made_stmt}
use Rattle.lay_paren_defs.specs.Enclosed.{TreesBy}
use Rattle.lay_paren_defs.specs.Traversal.{Same, Ways, angle_next, as_is, level_by, operands_of, targets_of}
use Rattle.lay_paren.specs.Parts.{expr_made}
use Rattle.lay_paren.specs.declared.slots.Slot.{Slot}
use Rattle.lay_paren.specs.declared.slots.Slot.TheVariants as slot

-- the slots that the code asks for before it looks at a part: all but the one before an `else`
abbrev pub slot_of : Slot → of.Slot
slot_of slot.Any = Any
slot_of slot.Prefixed = of.Prefixed
slot_of slot.Optional = of.Optional
slot_of slot.Unlabelled = of.Unlabelled
slot_of slot.BeforeIndex = of.BeforeIndex

-- ---- expressions

-- the expression with the parentheses that it needs in this place and this slot
unfoldable pub least_in : Expr → Place → of.Slot → Expr
least_in x place slot = (made_of x place slot).result

-- an expression that stands in this place, with parentheses added within its parts only
unfoldable pub parts_least : Place → Expr → Expr
parts_least place x = (expr_made place (expr_parts (views.out-Expr x))).result

-- the expression with the parentheses that it needs within delimiters
abbrev pub free_least : Expr → Expr
free_least x = least_in x FREE Any

abbrev pub exprs_least : List Expr → List Expr
exprs_least xs = map free_least xs

abbrev pub operand_least : Place → of.Slot → Option Expr → Option Expr
operand_least place slot x = option_map (λ y. least_in y place slot) x

abbrev pub base_least : Option (Option Expr) → Option (Option Expr)
base_least x = option_map (operand_least FREE Any) x

-- the place of the first operand, by the operands that follow
abbrev pub first_place : Place → List (Op × Expr) → Place
first_place p rest = before_op (suc (level_by rest)) p.no_struct (begins p.start) (angle_next rest)

-- the place of an operand after an operator of this level, by the operator that follows, if one
-- does
abbrev pub operand_before : Place → ℕ → Option Op → Place
operand_before p level None = as_node p (suc level)
operand_before p level (Some o) = before_op (suc level) p.no_struct false (is_angle_op o)

-- ---- other nodes

unfoldable pub field_least : FieldExpr → FieldExpr
field_least x = (made_field x).result

unfoldable pub step_least : Step → Step
step_least x = (made_step x).result

unfoldable pub stmt_least : Stmt → Stmt
stmt_least x = (made_stmt x).result

unfoldable pub block_least : Block → Block
block_least x = (made_block x).result

unfoldable pub branch_least : Branch → Branch
branch_least x = (made_branch x).result

unfoldable pub arm_least : Arm → Arm
arm_least x = (made_arm x).result

unfoldable pub condition_least : Condition → Condition
condition_least x = (made_condition x).result

-- The flags say that the link is a condition by itself, and that a further link follows it.
unfoldable pub link_least : Bool → Bool → Link → Link
link_least alone more x = (made_link x alone more).result

unfoldable pub item_least : Item → Item
item_least x = (made_item x).result

unfoldable pub kind_least : ItemKind → ItemKind
kind_least x = (made_kind x).result

abbrev pub block_or_none_least : Option Block → Option Block
block_or_none_least x = option_map block_least x

-- A link is a condition by itself if it is the only one.
abbrev pub is_single : List Link → Bool
is_single (x ∷ []) = true
is_single _ = false

abbrev pub links_from : Bool → List Link → List Link
links_from alone [] = []
links_from alone (x ∷ more) = link_least alone (is_there more) x ∷ links_from alone more

abbrev pub links_least : List Link → List Link
links_least links = links_from (is_single links) links

-- ---- each node

abbrev pub row : {A B C : Type 0} → (A → B → C) → (Bool → A → List A → B) → Bool → List A → List C
row put part first [] = []
row put part first (x ∷ more) = put x (part first x more) ∷ row put part false more

-- The same as `as_is`, but an element of a row depends on the elements after it.
abbrev pub placing : Ways Same
placing = record as_is { row = λ put part first xs. row put part first xs }

abbrev pub least_parts : TreesBy
least_parts = record {
  part = λ x place slot. least_in x place slot;
  body = λ x place. least_in x place Any;
  whole = λ x. least_in x statement Any;
  told = λ steps. map about_step steps;
  stmts = λ xs. map stmt_least xs;
  links = λ xs. links_least xs;
  fields = λ xs. map field_least xs;
  steps = λ xs. map step_least xs;
  branches = λ xs. map branch_least xs;
  arms = λ xs. map arm_least xs;
  items = λ xs. map item_least xs;
  block = λ x. block_least x;
  some_block = λ x. block_or_none_least x;
  condition = λ x. condition_least x;
  kind = λ x. kind_least x;
  item = λ x. item_least x;
}

-- the operands after operators of this level, with the parentheses that they need
abbrev pub operands_least : Place → ℕ → List (Op × Expr) → List (Op × Expr)
operands_least place level xs = operands_of placing least_parts place level xs

-- The flag says that the first target begins a part of what begins a statement.
abbrev pub targets_least : Place → Bool → List (Expr × Op) → List (Expr × Op)
targets_least place first xs = targets_of placing least_parts place first xs
