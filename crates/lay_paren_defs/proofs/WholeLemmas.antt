-- What is told of a node of a kind where it is enclosed or not: it is that kind, of what its parts become.
use Rattle.std.proofs.Common.{◌≡◌, Bool, sym, ap, ◌∙◌}
use Rattle.lay_code.specs.nodes.Layers.{ExprNode, FieldNode, KindNode, LinkNode, StepNode, StmtNode}
use Rattle.lay_code.specs.declared.blocks.Stmt.{Stmt}
use Rattle.lay_code.specs.declared.blocks.Stmt.TheViews as views
use Rattle.lay_code.specs.declared.conditions.Link.{Link}
use Rattle.lay_code.specs.declared.exprs.Expr.{Expr}
use Rattle.lay_code.specs.declared.exprs.FieldExpr.{FieldExpr}
use Rattle.lay_code.specs.declared.exprs.Step.{Step}
use Rattle.lay_code.specs.declared.item.ItemKind.{ItemKind}
use Rattle.lay_paren_defs.specs.Enclosed.{enclose, enclose_field, enclose_kind, enclose_link, enclose_step, enclose_stmt, expr_shell, field_shell, kind_shell, link_shell, step_shell, stmt_shell}
use Rattle.lay_paren_defs.proofs.ShellLemmas.{shell_field_is, shell_is, shell_kind_is, shell_link_is, shell_step_is, shell_stmt_is}

pub whole : (d : Bool) {x y : Expr} {layer : ExprNode} → x ≡ y → views.out-Expr y ≡ layer → enclose d x ≡ expr_shell d layer
whole d {y} is out = ap (λ (z : Expr). enclose d z) is ∙ sym (shell_is d y) ∙ ap (λ (z : ExprNode). expr_shell d z) out

pub whole_stmt : (d : Bool) {x y : Stmt} {layer : StmtNode} → x ≡ y → views.out-Stmt y ≡ layer
    → enclose_stmt d x ≡ stmt_shell d layer
whole_stmt d {y} is out =
    ap (λ (z : Stmt). enclose_stmt d z) is ∙ sym (shell_stmt_is d y) ∙ ap (λ (z : StmtNode). stmt_shell d z) out

pub whole_link : (d : Bool) {x y : Link} {layer : LinkNode} → x ≡ y → views.out-Link y ≡ layer
    → enclose_link d x ≡ link_shell d layer
whole_link d {y} is out =
    ap (λ (z : Link). enclose_link d z) is ∙ sym (shell_link_is d y) ∙ ap (λ (z : LinkNode). link_shell d z) out

pub whole_field : (d : Bool) {x y : FieldExpr} {layer : FieldNode} → x ≡ y → views.out-FieldExpr y ≡ layer
    → enclose_field d x ≡ field_shell d layer
whole_field d {y} is out =
    ap (λ (z : FieldExpr). enclose_field d z) is ∙ sym (shell_field_is d y) ∙ ap (λ (z : FieldNode). field_shell d z) out

pub whole_step : (d : Bool) {x y : Step} {layer : StepNode} → x ≡ y → views.out-Step y ≡ layer
    → enclose_step d x ≡ step_shell d layer
whole_step d {y} is out =
    ap (λ (z : Step). enclose_step d z) is ∙ sym (shell_step_is d y) ∙ ap (λ (z : StepNode). step_shell d z) out

pub whole_kind : (d : Bool) {x y : ItemKind} {layer : KindNode} → x ≡ y → views.out-ItemKind y ≡ layer
    → enclose_kind d x ≡ kind_shell d layer
whole_kind d {y} is out =
    ap (λ (z : ItemKind). enclose_kind d z) is ∙ sym (shell_kind_is d y) ∙ ap (λ (z : KindNode). kind_shell d z) out
