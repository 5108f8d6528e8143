use Rattle.std.proofs.Common.{◌≡◌, ◌∙◌, ℕ, List, Ok, Option, refl, ap, subst, arith}
use Rattle.lay_node.specs.declared.token.Name.{Name}
use Rattle.lay_node.specs.declared.types.Ty.{Ty}
use Rattle.lay_code.specs.declared.blocks.Block.{Block}
use Rattle.lay_code.specs.declared.item.Item.{Item}
use Rattle.lay_build_types.specs.Answers.{AreParts}
use Rattle.lay_build_types.specs.Kinds.{IsItem, form_of_item}
use Rattle.lay_build_types.proofs.AnswerLemmas.{Is, part_of}
use Rattle.lay_build.specs.Kinds.{IsParam, form_of_param}
use Rattle.lay_build.specs.Nodes as node
use Rattle.lay_build.specs.declared.kinds.NamedType.{NamedType}
use Rattle.lay_build.proofs.ItemLemmas.{fn_made, fn_need}
use Rattle.lay_build.proofs.items.item_fn.Goals as goal
use Rattle.lay_build_exprs.proofs.JoinLemmas.{both_parts}

pub kept-requires : goal.kept-requires
kept-requires c =
    let public = c.args.public in
    let n = c.args.name in
    let xs = c.args.params in
    let output = c.args.ret in
    let b = c.args.body in
    let names = c.into_parts-name.ensures in
    let outputs = c.part_or_none-output.ensures in
    let whole_body = c.into_parts.result in
    let params = c.in_ok-params.params in
    let body = c.in_ok-params.body in
    let need = c.max-need.result in
    let got =
    both_parts (AreParts form_of_param IsParam xs) (λ (p : Block × ℕ). p ≡ whole_body)
    c.nodes.result (Ok whole_body) params body c.nodes.ensures refl c.in_ok-params.ensures in
    let bodies = got.1 ∙ c.into_parts.ensures.parts in
    let same =
    ap (λ (p : Name × ℕ). node.item_fn public p.0 params.0 c.part_or_none-output.result.0 body.0) names.parts
    ∙ ap (λ (ys : List NamedType). node.item_fn public n ys c.part_or_none-output.result.0 body.0) got.0.same
    ∙ ap (λ (p : Option Ty × ℕ). node.item_fn public n xs p.0 body.0) outputs.part
    ∙ ap (λ (p : Block × ℕ). node.item_fn public n xs output p.0) bodies in
    let of = ap (λ (p : Option Ty × ℕ). p.1) outputs.part in
    let within = ap (λ (p : Block × ℕ). p.1) bodies in
    let whole = fn_need public n xs output b in
    part_of form_of_item IsItem (node.item_fn public n xs output b) need c.function.result
    (subst (λ (i : Item). Is i need c.function.result) same c.function.ensures)
    (omega (arith, c.max-need.ensures, got.0.need, of, within, whole))
    (fn_made public n xs output b names.kept got.0.kept outputs.kept c.into_parts.ensures.kept)
