-- The least parentheses: an expression gets them where its place or its slot asks for them, and
-- nowhere else.
use Rattle.std.specs.Prelude.{List, ◌∷◌, map, if◌then◌else◌}
use Rattle.lay_code.specs.nodes.Code.{about_expr}
use Rattle.lay_code.specs.nodes.Places.{FREE}
use Rattle.lay_code.specs.declared.blocks.Arm.{Arm}
use Rattle.lay_code.specs.declared.blocks.Block.{Block}
use Rattle.lay_code.specs.declared.blocks.Branch.{Branch}
use Rattle.lay_code.specs.declared.blocks.Stmt.{Stmt}
use Rattle.lay_code.specs.declared.blocks.Stmt.TheFolds as fold
use Rattle.lay_code.specs.declared.blocks.Stmt.TheOpen.{Expr-F}
use Rattle.lay_code.specs.declared.conditions.Condition.{Condition}
use Rattle.lay_code.specs.declared.exprs.Expr.{Expr}
use Rattle.lay_code.specs.declared.exprs.Expr.TheVariants as expr
use Rattle.lay_code.specs.declared.exprs.FieldExpr.{FieldExpr}
use Rattle.lay_code.specs.declared.exprs.Place.{Place}
use Rattle.lay_code.specs.declared.exprs.Step.{Step}
use Rattle.lay_code.specs.declared.item.Item.{Item}
use Rattle.lay_code.specs.declared.item.ItemKind.{ItemKind}
use Rattle.lay_paren_defs.specs.loose.Slots.{Any, Slot, fits}
use Rattle.lay_paren.specs.Made.{Made}
use Rattle.lay_paren.specs.Parts.{Linked, Parts, Placed, arm_made, block_made, branch_made, condition_made, expr_made, field_made, item_made, kind_made, link_made, step_made, stmt_made}

-- An expression in a pair of parentheses. One cut leaves out this pair, and each other cut a pair
-- within it.
abbrev pub wrapped : Made Expr → Made Expr
wrapped x = record { result = expr.Paren x.result; cuts = x.result ∷ map expr.Paren x.cuts }

-- The first node, whose parts have their places from the node's own, if it fits there. Otherwise
-- the second one in parentheses, whose parts have their places from FREE.
abbrev pub chosen : Made Expr → Made Expr → Place → Slot → Made Expr
chosen here free place slot = if fits (about_expr here.result) place slot then here else wrapped free

abbrev pub least_made : Parts Expr-F → Placed
least_made x = λ place slot. chosen (expr_made place x) (expr_made FREE x) place slot

unfoldable pub made_of : Expr → Placed
made_of = fold.fold-Expr (Made Stmt) Linked Placed (Made FieldExpr) (Made Step) (Made ItemKind) (Made Arm) (Made Block) (Made Branch) (Made Condition) (Made Item) stmt_made link_made least_made field_made step_made kind_made arm_made block_made branch_made condition_made item_made

-- the expression with the parentheses that it needs in this place
abbrev pub least : Expr → Place → Expr
least x place = (made_of x place Any).result

-- the same expression without one of the pairs that were added: a list with one cut for each pair
abbrev pub cuts : Expr → Place → List Expr
cuts x place = (made_of x place Any).cuts
