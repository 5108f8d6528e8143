use Rattle.std.proofs.Common.{◌≡◌, length, map, take}
use Rattle.lay_paren_defs.specs.Enclosed.{enclose_arm, enclose_branch, enclose_field, enclose_item, enclose_link, enclose_step, enclose_stmt, operand_part, part, target_part}
use Rattle.lay_tree.proofs.exprs.+code.Given as goal

abbrev pub invariant-same_parts-loop-expr : goal.invariant-same_parts-loop-expr
invariant-same_parts-loop-expr g l = map (part g.X.Enclose.on) (take (length l.yielded) l.exprs) ≡ take (length l.yielded) l.others

abbrev pub invariant-same_fields-loop-field : goal.invariant-same_fields-loop-field
invariant-same_fields-loop-field g l =
    map (enclose_field g.X.Enclose.on) (take (length l.yielded) l.fields) ≡ take (length l.yielded) l.others

abbrev pub invariant-same_steps-loop-step : goal.invariant-same_steps-loop-step
invariant-same_steps-loop-step g l =
    map (enclose_step g.X.Enclose.on) (take (length l.yielded) l.steps) ≡ take (length l.yielded) l.others

abbrev pub invariant-same_branches-loop-branch : goal.invariant-same_branches-loop-branch
invariant-same_branches-loop-branch g l =
    map (enclose_branch g.X.Enclose.on) (take (length l.yielded) l.branches) ≡ take (length l.yielded) l.others

abbrev pub invariant-same_links-loop-link : goal.invariant-same_links-loop-link
invariant-same_links-loop-link g l =
    map (enclose_link g.X.Enclose.on) (take (length l.yielded) l.links) ≡ take (length l.yielded) l.others

abbrev pub invariant-same_arms-loop-arm : goal.invariant-same_arms-loop-arm
invariant-same_arms-loop-arm g l = map (enclose_arm g.X.Enclose.on) (take (length l.yielded) l.arms) ≡ take (length l.yielded) l.others

abbrev pub invariant-same_stmts-loop-stmt : goal.invariant-same_stmts-loop-stmt
invariant-same_stmts-loop-stmt g l =
    map (enclose_stmt g.X.Enclose.on) (take (length l.yielded) l.stmts) ≡ take (length l.yielded) l.others

abbrev pub invariant-same_items-loop-item : goal.invariant-same_items-loop-item
invariant-same_items-loop-item g l =
    map (enclose_item g.X.Enclose.on) (take (length l.yielded) l.items) ≡ take (length l.yielded) l.others

abbrev pub invariant-same_operands-loop-op : goal.invariant-same_operands-loop-op
invariant-same_operands-loop-op g l =
    map (operand_part g.X.Enclose.on) (take (length l.yielded) l.operands) ≡ take (length l.yielded) l.others

abbrev pub invariant-same_targets-loop-target : goal.invariant-same_targets-loop-target
invariant-same_targets-loop-target g l =
    map (target_part g.X.Enclose.on) (take (length l.yielded) l.targets) ≡ take (length l.yielded) l.others
