-- A statement that is an expression becomes another exactly where its parts do.
use Rattle.std.proofs.Common.{◌≡◌, ◌↔◌, IsTrue, Bool, List, sym, ap, ap₂, ◌∙◌}
use Rattle.lay_node.specs.declared.attr.Attr.{Attr}
use Rattle.lay_code.specs.nodes.Layers.{StmtNode}
use Rattle.lay_code.specs.declared.blocks.Stmt.{Stmt}
use Rattle.lay_code.specs.declared.blocks.Stmt.TheOpen.{Stmt-F}
use Rattle.lay_code.specs.declared.blocks.Stmt.TheVariants as stmt
use Rattle.lay_code.specs.declared.blocks.Stmt.TheViews as views
use Rattle.lay_code.specs.declared.exprs.Expr.{Expr}
use Rattle.lay_code.specs.declared.exprs.Expr.TheVariants as expr
use Rattle.lay_paren_defs.specs.Enclosed.{enclose, shell_stmt, stmt_shell}

abbrev whole_of : StmtNode → Expr
whole_of (Stmt-F.Stmt::Expr attrs x ended) = x
whole_of _ = expr.Underscore

shell_whole : (on : Bool) (attrs : List Attr) (x : Expr) (ended : Bool)
    → shell_stmt on (stmt.Expr attrs x ended) ≡ stmt.Expr attrs (enclose on x) ended
shell_whole on attrs x ended = ap (λ (layer : StmtNode). stmt_shell on layer) (views.outs-Stmt::Expr attrs x ended)

one_whole : (attrs others : List Attr) (x y : Expr) (ended closed : Bool) → stmt.Expr attrs x ended ≡ stmt.Expr others y closed → x ≡ y
one_whole attrs others x y ended closed is =
    ap whole_of (sym (views.outs-Stmt::Expr attrs x ended)) ∙ ap (λ (s : Stmt). whole_of (views.out-Stmt s)) is
    ∙ ap whole_of (views.outs-Stmt::Expr others y closed)

pub stmt_whole : (on : Bool) (this other : Stmt) (attrs others : List Attr) (x y : Expr) (ended closed : Bool) (result : Bool)
    → this ≡ stmt.Expr attrs x ended → other ≡ stmt.Expr others y closed → (attrs ≡ others) × (ended ≡ closed)
    → (IsTrue result ↔ enclose on x ≡ y) → IsTrue result ↔ shell_stmt on this ≡ other
stmt_whole on this other attrs others x y ended closed result this_is other_is same by = (
  (λ t. becomes ∙ ap (λ (z : Expr). stmt.Expr attrs z ended) (by.0 t) ∙ alike ∙ sym other_is),
  (λ e. by.1 (one_whole attrs others (enclose on x) y ended closed (sym becomes ∙ e ∙ other_is))),
)
  where
    becomes : shell_stmt on this ≡ stmt.Expr attrs (enclose on x) ended
    becomes = ap (λ (z : Stmt). shell_stmt on z) this_is ∙ shell_whole on attrs x ended

    alike : stmt.Expr attrs y ended ≡ stmt.Expr others y closed
    alike = ap₂ (λ (a : List Attr) (b : Bool). stmt.Expr a y b) same.0 same.1
