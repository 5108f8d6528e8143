use Rattle.std.proofs.Common.{◌∙◌, map, ap}
use Rattle.lay_code.specs.nodes.Code.{about_step}
use Rattle.lay_code.specs.nodes.Exprs.{first_step, is_tuple_index}
use Rattle.lay_paren.specs.InPlace.{first_place}
use Rattle.lay_paren_defs.specs.Traversal.{base_place}
use Rattle.lay_paren.proofs.Beginning.{of_block, of_cast, of_chain, of_loop, of_postfix, of_target, of_value}
use Rattle.lay_paren.proofs.leads.left_edge.Goals as goal

pub returns-in-Chain-clause-told : goal.returns-in-Chain-clause-told
returns-in-Chain-clause-told c =
    let x = c.in-Chain in
    of_chain c.args.expr.now c.get.result.now x.first x.rest c.args.place c.first_place.result x.is c.get.ensures
    (c.first_place.ensures ∙ ap (first_place c.args.place) c.as_slice.ensures)

pub returns-in-Cast-clause-told : goal.returns-in-Cast-clause-told
returns-in-Cast-clause-told c =
    let x = c.in-Cast in
    of_cast c.args.expr.now c.get-in-Cast.result.now x.operand x.types c.args.place c.before_op-at.result c.begins.result x.is
    c.get-in-Cast.ensures c.before_op-at.ensures c.begins.ensures

pub returns-in-empty-clause-told : goal.returns-in-empty-clause-told
returns-in-empty-clause-told c =
    let x = c.in-Assign in
    of_value x.targets c.as_slice-in-Assign.result.now c.args.expr.now c.get-in-empty.result.now x.value c.args.place c.as_node.result x.is
    c.as_slice-in-Assign.ensures c.in-empty.len_below c.get-in-empty.ensures c.as_node.ensures

pub returns-in-len1-up-clause-told : goal.returns-in-len1-up-clause-told
returns-in-len1-up-clause-told c =
    let x = c.in-Assign in
    of_target x.targets c.as_slice-in-Assign.result.now c.index-target-0.result c.args.expr.now c.get-in-len1-up.result.now x.value c.args.place
    c.before_op-at-in-len1-up.result c.begins-in-len1-up.result x.is c.as_slice-in-Assign.ensures c.in-len1-up.len_at_least
    c.get-in-len1-up.ensures c.before_op-at-in-len1-up.ensures c.begins-in-len1-up.ensures

pub returns-in-Postfix-clause-told : goal.returns-in-Postfix-clause-told
returns-in-Postfix-clause-told c =
    let x = c.in-Postfix in
    of_postfix c.args.expr.now c.get-in-Postfix.result.now x.base x.steps c.args.place c.base_place.result c.is_index_first.result x.is
    c.get-in-Postfix.ensures (c.base_place.ensures ∙ ap (λ steps. base_place c.args.place (map about_step steps)) c.as_slice-in-Postfix.ensures)
    (c.is_index_first.ensures ∙ ap (λ steps. first_step is_tuple_index (map about_step steps)) c.as_slice-in-Postfix-2.ensures)

pub returns-in-Block-clause-told : goal.returns-in-Block-clause-told
returns-in-Block-clause-told c =
    let x = c.in-Block in c.label_or.ensures ∙ of_block c.args.expr.now x.label x.body c.args.place x.is

pub returns-in-Loop-clause-told : goal.returns-in-Loop-clause-told
returns-in-Loop-clause-told c =
    let x = c.in-Loop in c.label_or-in-Loop.ensures ∙ of_loop c.args.expr.now x.label c.args.place x.is
