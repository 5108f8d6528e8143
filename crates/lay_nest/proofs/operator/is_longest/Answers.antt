use Rattle.std.proofs.Common.{ap, sym, ◌∙◌}
use Rattle.std.specs.Str.{bytes_eq}
use Rattle.lay_nest.proofs.OperatorLemmas.{three_joint, two_joint, one_joint}
use Rattle.lay_nest.proofs.operator.is_longest.Goals as goal

pub returns-then-is_three : goal.returns-then-is_three
returns-then-is_three c =
    c.eq.ensures ∙ ap (bytes_eq c.args.op.now) c.as_slice.ensures
    ∙ three_joint c.args.op.now c.args.front.now c.args.behind.now c.mark-first.result c.first_mark-second.result
    c.second_mark-third.result c.requires c.mark-first.ensures c.first_mark-second.ensures c.second_mark-third.ensures
    (sym c.is_three.ensures ∙ c.if-is_three.true)

pub returns-then-is_two : goal.returns-then-is_two
returns-then-is_two c =
    c.eq-then-is_two.ensures ∙ ap (bytes_eq c.args.op.now) c.as_slice-then-is_two.ensures
    ∙ two_joint c.args.op.now c.args.front.now c.args.behind.now c.mark-first.result c.first_mark-second.result
    c.second_mark-third.result c.requires c.mark-first.ensures c.first_mark-second.ensures c.second_mark-third.ensures
    (sym c.is_three.ensures ∙ c.if-is_three.false) (sym c.is_two.ensures ∙ c.if-is_two.true)

pub returns-else-is_two : goal.returns-else-is_two
returns-else-is_two c =
    c.is_alone.ensures
    ∙ one_joint c.args.op.now c.args.front.now c.args.behind.now c.mark-first.result c.first_mark-second.result
    c.second_mark-third.result c.requires c.mark-first.ensures c.first_mark-second.ensures c.second_mark-third.ensures
    (sym c.is_three.ensures ∙ c.if-is_three.false) (sym c.is_two.ensures ∙ c.if-is_two.false)
