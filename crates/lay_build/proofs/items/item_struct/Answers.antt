use Rattle.std.proofs.Common.{◌∙◌, ℕ, List, ap, subst, arith}
use Rattle.lay_node.specs.declared.token.Name.{Name}
use Rattle.lay_code.specs.declared.item.Item.{Item}
use Rattle.lay_build_types.specs.Kinds.{IsItem, form_of_item}
use Rattle.lay_build_types.proofs.AnswerLemmas.{Is, part_of}
use Rattle.lay_build.specs.Nodes as node
use Rattle.lay_build.specs.declared.kinds.NamedType.{NamedType}
use Rattle.lay_build.proofs.ItemLemmas.{struct_made, struct_need}
use Rattle.lay_build.proofs.items.item_struct.Goals as goal

pub kept-requires : goal.kept-requires
kept-requires c =
    let public = c.args.public in
    let n = c.args.name in
    let xs = c.args.fields in
    let names = c.into_parts-name.ensures in
    let parts = c.in_ok-fields.ensures in
    let need = c.max.result in
    let same =
    ap (λ (p : Name × ℕ). node.item_struct public p.0 c.in_ok-fields.fields) names.parts
    ∙ ap (λ (ys : List NamedType). node.item_struct public n ys) parts.same in
    let whole = struct_need public n xs in
    part_of form_of_item IsItem (node.item_struct public n xs) need c.structure.result
    (subst (λ (i : Item). Is i need c.structure.result) same c.structure.ensures)
    (omega (arith, c.max.ensures, parts.need, whole))
    (struct_made public n xs names.kept parts.kept)
