use Rattle.std.proofs.Common.{◌∙◌, ℕ, ◌+◌, ap, subst, arith}
use Rattle.lay_node.specs.declared.token.Name.{Name}
use Rattle.lay_node.specs.declared.types.Ty.{Ty}
use Rattle.lay_code.specs.declared.exprs.Expr.{Expr}
use Rattle.lay_code.specs.declared.item.Item.{Item}
use Rattle.lay_build_types.specs.Kinds.{IsItem, form_of_item}
use Rattle.lay_build_types.proofs.AnswerLemmas.{Is, part_of}
use Rattle.lay_build.specs.Nodes as node
use Rattle.lay_build.proofs.ItemLemmas.{const_made, const_need}
use Rattle.lay_build.proofs.items.item_const.Goals as goal

pub constant-requires : goal.constant-requires
constant-requires c =
    let types = c.into_parts-ty.ensures in
    let values = c.into_parts-value.ensures in
    let of = ap (λ (p : Ty × ℕ). p.1) types.parts in
    let value = ap (λ (p : Expr × ℕ). p.1) values.parts in
    omega (arith, c.max.ensures, of, value, types.kept.within, values.kept.within)

pub kept-requires : goal.kept-requires
kept-requires c =
    let public = c.args.public in
    let n = c.args.name in
    let ty = c.args.ty in
    let x = c.args.value in
    let names = c.into_parts-name.ensures in
    let types = c.into_parts-ty.ensures in
    let values = c.into_parts-value.ensures in
    let need = c.max.result + 1 in
    let same =
    ap (λ (p : Name × ℕ). node.item_const public p.0 c.into_parts-ty.result.0 c.into_parts-value.result.0) names.parts
    ∙ ap (λ (p : Ty × ℕ). node.item_const public n p.0 c.into_parts-value.result.0) types.parts
    ∙ ap (λ (p : Expr × ℕ). node.item_const public n ty p.0) values.parts in
    let of = ap (λ (p : Ty × ℕ). p.1) types.parts in
    let value = ap (λ (p : Expr × ℕ). p.1) values.parts in
    let whole = const_need public n ty x in
    part_of form_of_item IsItem (node.item_const public n ty x) need c.constant.result
    (subst (λ (i : Item). Is i need c.constant.result) same c.constant.ensures)
    (omega (arith, c.max.ensures, of, value, whole))
    (const_made public n ty x names.kept types.kept values.kept)
