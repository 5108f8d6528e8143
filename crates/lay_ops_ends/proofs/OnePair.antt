-- A pair of braces around a body that isn't in the tree.
use Rattle.std.proofs.Common.{◌≡◌, ℕ, zero, suc, true, false, List, [], ◌∷◌, ◌++◌, length, map, Some, None, refl, sym, ap, ◌∙◌}
use Rattle.lay_code.specs.nodes.Bodies.{is_lone_body}
use Rattle.lay_code.specs.nodes.Code.{about_expr}
use Rattle.lay_code.specs.nodes.Parts.{block_of, expr_of}
use Rattle.lay_code.specs.declared.blocks.Block.{Block}
use Rattle.lay_code.specs.declared.blocks.Stmt.{Stmt}
use Rattle.lay_code.specs.declared.blocks.Stmt.TheFolds.{fold_out-Block, fold-roll-Expr, fold-roll-Stmt}
use Rattle.lay_code.specs.declared.blocks.Stmt.TheFolds as fold
use Rattle.lay_code.specs.declared.blocks.Stmt.TheOpen.{Arm-F, Block-F, Branch-F, Condition-F, Expr-F, FieldExpr-F, Item-F, ItemKind-F, Link-F, Step-F, Stmt-F}
use Rattle.lay_code.specs.declared.blocks.Stmt.TheVariants as stmt
use Rattle.lay_code.specs.declared.blocks.Stmt.TheViews as views
use Rattle.lay_code.specs.declared.exprs.Expr.{Expr}
use Rattle.lay_code.specs.declared.exprs.Expr.TheVariants as expr
use Rattle.lay_code.proofs.reader.Dressed.{IsAlone, Lone, alone, alone_block, is_alone}

-- ---- how many blocks stand in one another, the first statement of each being the next

abbrev first_layers : List ℕ → ℕ
first_layers [] = zero
first_layers (n ∷ more) = n

abbrev stmt_layers : Stmt-F ℕ ℕ ℕ ℕ ℕ ℕ ℕ ℕ ℕ ℕ ℕ → ℕ
stmt_layers (Stmt-F.Stmt::Expr attrs x ended) = x
stmt_layers _ = zero

abbrev block_layers : Block-F ℕ ℕ ℕ ℕ ℕ ℕ ℕ ℕ ℕ ℕ ℕ → ℕ
block_layers b = first_layers b.stmts

abbrev expr_layers : Expr-F ℕ ℕ ℕ ℕ ℕ ℕ ℕ ℕ ℕ ℕ ℕ → ℕ
expr_layers (Expr-F.Block label b) = suc b
expr_layers _ = zero

abbrev field_layers : FieldExpr-F ℕ ℕ ℕ ℕ ℕ ℕ ℕ ℕ ℕ ℕ ℕ → ℕ
field_layers x = zero

abbrev step_layers : Step-F ℕ ℕ ℕ ℕ ℕ ℕ ℕ ℕ ℕ ℕ ℕ → ℕ
step_layers x = zero

abbrev kind_layers : ItemKind-F ℕ ℕ ℕ ℕ ℕ ℕ ℕ ℕ ℕ ℕ ℕ → ℕ
kind_layers x = zero

abbrev arm_layers : Arm-F ℕ ℕ ℕ ℕ ℕ ℕ ℕ ℕ ℕ ℕ ℕ → ℕ
arm_layers x = zero

abbrev branch_layers : Branch-F ℕ ℕ ℕ ℕ ℕ ℕ ℕ ℕ ℕ ℕ ℕ → ℕ
branch_layers x = zero

abbrev condition_layers : Condition-F ℕ ℕ ℕ ℕ ℕ ℕ ℕ ℕ ℕ ℕ ℕ → ℕ
condition_layers x = zero

abbrev link_layers : Link-F ℕ ℕ ℕ ℕ ℕ ℕ ℕ ℕ ℕ ℕ ℕ → ℕ
link_layers x = zero

abbrev item_layers : Item-F ℕ ℕ ℕ ℕ ℕ ℕ ℕ ℕ ℕ ℕ ℕ → ℕ
item_layers x = zero

unfoldable pub layers : Expr → ℕ
layers = fold.fold-Expr ℕ ℕ ℕ ℕ ℕ ℕ ℕ ℕ ℕ ℕ ℕ stmt_layers link_layers expr_layers field_layers step_layers kind_layers arm_layers block_layers branch_layers condition_layers item_layers

unfoldable layers_of_block : Block → ℕ
layers_of_block = fold.fold-Block ℕ ℕ ℕ ℕ ℕ ℕ ℕ ℕ ℕ ℕ ℕ stmt_layers link_layers expr_layers field_layers step_layers kind_layers arm_layers block_layers branch_layers condition_layers item_layers

unfoldable layers_of_stmt : Stmt → ℕ
layers_of_stmt = fold.fold-Stmt ℕ ℕ ℕ ℕ ℕ ℕ ℕ ℕ ℕ ℕ ℕ stmt_layers link_layers expr_layers field_layers step_layers kind_layers arm_layers block_layers branch_layers condition_layers item_layers

in_block : (b : Block) → layers (expr.Block None b) ≡ suc (layers_of_block b)
unfolding layers layers_of_block layers_of_stmt
in_block b =
    ap layers (sym (views.rolls-Block None b))
    ∙ fold-roll-Expr ℕ ℕ ℕ ℕ ℕ ℕ ℕ ℕ ℕ ℕ ℕ stmt_layers link_layers expr_layers field_layers step_layers kind_layers arm_layers block_layers branch_layers condition_layers item_layers (Expr-F.Block None b)

in_stmts : (b : Block) → layers_of_block b ≡ first_layers (map layers_of_stmt b.stmts)
unfolding layers layers_of_block layers_of_stmt
in_stmts b =
    fold_out-Block ℕ ℕ ℕ ℕ ℕ ℕ ℕ ℕ ℕ ℕ ℕ stmt_layers link_layers expr_layers field_layers step_layers kind_layers arm_layers block_layers branch_layers condition_layers item_layers b

in_stmt : (x : Expr) → layers_of_stmt (stmt.Expr [] x false) ≡ layers x
unfolding layers layers_of_block layers_of_stmt
in_stmt x =
    ap layers_of_stmt (sym (views.rolls-Stmt::Expr [] x false))
    ∙ fold-roll-Stmt ℕ ℕ ℕ ℕ ℕ ℕ ℕ ℕ ℕ ℕ ℕ stmt_layers link_layers expr_layers field_layers step_layers kind_layers arm_layers block_layers branch_layers condition_layers item_layers (Stmt-F.Stmt::Expr [] x false)

-- A block of one expression is a layer more.
pub one_layer : (x : Expr) → layers (alone x) ≡ suc (layers x)
one_layer x = in_block (alone_block x) ∙ ap suc (in_stmts (alone_block x) ∙ in_stmt x)

-- ---- what is within them

pub block_alone : (x : Expr) → block_of (alone x) ≡ Some (alone_block x)
block_alone x = rw (views.outs-Block None (alone_block x)) refl

pub expr_alone : (x : Expr) → expr_of (stmt.Expr [] x false) ≡ Some x
expr_alone x = rw (views.outs-Stmt::Expr [] x false) refl

pub around : (x : Expr) → is_lone_body (about_expr x).kind ≡ true → (y : Expr) × (x ≡ alone y)
around x h = by x (is_alone x h)
  where
    by : (x : Expr) → Lone x → (y : Expr) × (x ≡ alone y)
    by _ (IsAlone y macro) = (y, refl)

last_of : (one : Stmt) (rest : List Stmt) (s : Stmt) → one ∷ [] ≡ rest ++ s ∷ [] → one ≡ s
last_of one [] s e = cc
last_of one (r ∷ []) s e = absurd (cc e)
last_of one (r ∷ q ∷ rest) s e = absurd (cc e)

held_by : (x y : Expr) (b : Block) → x ≡ alone y → block_of x ≡ Some b → alone_block y ≡ b
held_by x y b around held = let e : Some (alone_block y) ≡ Some b = sym (ap block_of around ∙ block_alone y) ∙ held in cc

-- It holds one statement, which is the expression.
pub one_held : (x y : Expr) (b : Block) → x ≡ alone y → block_of x ≡ Some b → length b.stmts ≡ 1
one_held x y b around held = ap (λ (c : Block). length c.stmts) (sym (held_by x y b around held))

pub last_held : (x y : Expr) (b : Block) (rest : List Stmt) (s : Stmt) → x ≡ alone y → block_of x ≡ Some b
    → b.stmts ≡ rest ++ s ∷ [] → expr_of s ≡ Some y
last_held x y b rest s around held last =
    let e : stmt.Expr [] y false ∷ [] ≡ rest ++ s ∷ [] = ap (λ (c : Block). c.stmts) (held_by x y b around held) ∙ last in
    ap expr_of (sym (last_of (stmt.Expr [] y false) rest s e)) ∙ expr_alone y
