use Rattle.std.proofs.Common.{◌∙◌, ℕ, List, max, ap, subst}
use Rattle.lay_node.specs.declared.token.Name.{Name}
use Rattle.lay_code.specs.declared.exprs.Expr.{Expr}
use Rattle.lay_build_types.proofs.AnswerLemmas.{Is}
use Rattle.lay_build_exprs.specs.Nodes as node
use Rattle.lay_build_exprs.specs.declared.kinds.NamedExpr.{NamedExpr}
use Rattle.lay_build_exprs.proofs.PartLemmas.{struct_part}
use Rattle.lay_build_exprs.proofs.structs.expr_struct.Goals as goal

pub kept-requires : goal.kept-requires
kept-requires c =
    let first = c.args.first in
    let rest = c.args.rest in
    let fields = c.args.fields in
    let others = c.in_ok-rest.ensures in
    let parts = c.in_ok-fields.ensures in
    let given = c.in_ok-rest.rest in
    let own = c.in_ok-fields.fields in
    let need = max c.in_ok-fields.need 1 in
    let same =
    ap (λ (p : Name × ℕ). node.expr_struct p.0 given own) c.into_parts-first.ensures.parts
    ∙ ap (λ (ns : List Name). node.expr_struct first ns own) others.same
    ∙ ap (λ (xs : List NamedExpr). node.expr_struct first rest xs) parts.same in
    struct_part first rest fields need c.struct_of.result c.into_parts-first.ensures.kept others.kept parts.kept
    (ap (λ (n : ℕ). max n 1) parts.need) (subst (λ (x : Expr). Is x need c.struct_of.result) same c.struct_of.ensures)
