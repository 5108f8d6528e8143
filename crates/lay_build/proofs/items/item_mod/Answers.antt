use Rattle.std.proofs.Common.{◌∙◌, ℕ, ◌+◌, List, ap, subst, arith}
use Rattle.lay_node.specs.declared.attr.Attr.{Attr}
use Rattle.lay_node.specs.declared.token.Name.{Name}
use Rattle.lay_code.specs.declared.item.Item.{Item}
use Rattle.lay_code.specs.declared.item.ItemKind.TheVariants as item
use Rattle.lay_build_types.specs.Kinds.{IsItem, form_of_item}
use Rattle.lay_build_types.proofs.AnswerLemmas.{Is, part_of}
use Rattle.lay_build.specs.Nodes as node
use Rattle.lay_build.proofs.ItemLemmas.{mod_made, mod_need}
use Rattle.lay_build.proofs.items.item_mod.Goals as goal

pub kept-requires : goal.kept-requires
kept-requires c =
    let public = c.args.public in
    let n = c.args.name in
    let is = c.args.items in
    let names = c.into_parts-name.ensures in
    let parts = c.in_ok-items.ensures in
    let need = c.in_ok-items.need + 1 in
    let same =
    ap (λ (inner : List Attr). node.item_of public (item.Module c.into_parts-name.result.0 inner c.in_ok-items.items)) c.new.ensures
    ∙ ap (λ (p : Name × ℕ). node.item_mod public p.0 c.in_ok-items.items) names.parts
    ∙ ap (λ (ys : List Item). node.item_mod public n ys) parts.same in
    let whole = mod_need public n is in
    part_of form_of_item IsItem (node.item_mod public n is) need c.item_of.result
    (subst (λ (i : Item). Is i need c.item_of.result) same c.item_of.ensures)
    (omega (arith, parts.need, whole))
    (mod_made public n is names.kept parts.kept)
