use Rattle.lay_read_tokens.proofs.Steps.{got_by}
use Rattle.lay_read_head_rules.specs.Answers.{qualifiers, with_abi}
use Rattle.lay_read_head_rules.proofs.Steps.{qualifiers_are}
use Rattle.lay_read_head_rules.proofs.functions.read_qualifiers.Goals as goal

pub returns : goal.returns
returns c =
    let ts = c.args.at.now in
    let is_const = c.takes_flag-is_const.result in
    let is_async = c.takes_flag-is_async.result in
    let safety = c.take_safety-safety.result in
    let rest = c.take_safety-safety.new.at in
    got_by (qualifiers ts) (with_abi is_const is_async safety rest) c.with_abi.result c.with_abi.new.at
    (qualifiers_are ts c.takes_flag-is_const.new.at c.takes_flag-is_async.new.at rest is_const is_async safety
    c.takes_flag-is_const.ensures.found c.takes_flag-is_const.ensures.passed c.takes_flag-is_async.ensures.found
    c.takes_flag-is_async.ensures.passed c.take_safety-safety.ensures) c.with_abi.ensures
