use Rattle.std.proofs.Common.{◌∙◌, ℕ, ◌+◌, max, Option, ap, subst, arith}
use Rattle.lay_node.specs.declared.token.Name.{Name}
use Rattle.lay_node.specs.declared.types.Ty.{Ty}
use Rattle.lay_code.specs.declared.blocks.Stmt.{Stmt}
use Rattle.lay_code.specs.declared.exprs.Expr.{Expr}
use Rattle.lay_build_types.specs.Kinds.{IsStmt, IsType, form_of_stmt, form_of_type}
use Rattle.lay_build_types.proofs.AnswerLemmas.{Is, part_of}
use Rattle.lay_build.specs.Nodes as node
use Rattle.lay_build.proofs.BlockLemmas.{let_made, let_need}
use Rattle.lay_build.proofs.PartLemmas.{need_within}
use Rattle.lay_build.proofs.blocks.stmt_let.Goals as goal

pub let_stmt-requires : goal.let_stmt-requires
let_stmt-requires c =
    let asked = ap (λ (p : Option Ty × ℕ). p.1) c.part_or_none-ty.ensures.part in
    let value = ap (λ (p : Expr × ℕ). p.1) c.into_parts-value.ensures.parts in
    let low = need_within form_of_type IsType c.args.ty c.part_or_none-ty.ensures.kept in
    omega (arith, c.max.ensures, asked, value, low, c.into_parts-value.ensures.kept.within)

pub kept-requires : goal.kept-requires
kept-requires c =
    let n = c.args.name in
    let ty = c.args.ty in
    let x = c.args.value in
    let names = c.into_parts-name.ensures in
    let types = c.part_or_none-ty.ensures in
    let values = c.into_parts-value.ensures in
    let need = max c.max.result 1 + 1 in
    let same =
    ap (λ (p : Name × ℕ). node.stmt_let p.0 c.part_or_none-ty.result.0 c.into_parts-value.result.0) names.parts
    ∙ ap (λ (p : Option Ty × ℕ). node.stmt_let n p.0 c.into_parts-value.result.0) types.part
    ∙ ap (λ (p : Expr × ℕ). node.stmt_let n ty p.0) values.parts in
    let asked = ap (λ (p : Option Ty × ℕ). p.1) types.part in
    let value = ap (λ (p : Expr × ℕ). p.1) values.parts in
    let whole = let_need n ty x in
    part_of form_of_stmt IsStmt (node.stmt_let n ty x) need c.let_stmt.result
    (subst (λ (s : Stmt). Is s need c.let_stmt.result) same c.let_stmt.ensures)
    (omega (arith, c.max.ensures, asked, value, whole))
    (let_made n ty x names.kept types.kept values.kept)
