use Rattle.std.proofs.Common.{◌≡◌, false, sym, ap, ◌∙◌}
use Rattle.lay_nest.specs.Groups.{begins_group}
use Rattle.lay_nest.proofs.TokenTrees.{group_tree, token_tree, front_plain}
use Rattle.lay_nest.proofs.cursor.Cursor.pass_tree.Goals as goal

pub returns-then-is_opener : goal.returns-then-is_opener
returns-then-is_opener c = group_tree c.args.self.now c.group.result c.group.new.self c.group.ensures

pub returns-else-is_opener : goal.returns-else-is_opener
returns-else-is_opener c =
    let plain : begins_group c.args.self.now ≡ false = ap begins_group (sym c.self.view_is)
    ∙ front_plain c.self.inside.tokens.now c.index-self-0.result (sym c.is_opener.ensures ∙ c.if-is_opener.false) in
    rw c.step.ensures (token_tree c.args.self.now c.requires plain)
