use Rattle.std.proofs.Common.{is_some, sym, ap, ◌∙◌}
use Rattle.lay_node.specs.reader.Loops.{repeat}
use Rattle.lay_code.specs.Operators.{prefix}
use Rattle.lay_code.specs.reader.Exprs.{one_prefix}
use Rattle.lay_read_tokens.proofs.Left.{shorter}
use Rattle.lay_read_tokens.proofs.Turns.{repeat-start, repeat-end, repeat-step}
use Rattle.lay_read_shared.proofs.ExprsLeft.{prefix_left}
use Rattle.lay_read_exprs.proofs.Steps.{prefix_read}
use Rattle.lay_read_exprs.proofs.prefixes.read_prefixes.Goals as goal

pub loop-one-init : goal.loop-one-init
loop-one-init c = rw c.new-prefixes.ensures (repeat-start (λ us. is_some (prefix us)) one_prefix c.args.at.now)

pub loop-one-smaller : goal.loop-one-smaller
loop-one-smaller c =
    let ts = c.loop-one.at in
    let one = c.in-Some.one in
    let read = prefix_read ts one c.prefix_length.result c.pass_tokens.new.at (sym c.prefix.ensures ∙ c.in-Some.is)
    c.prefix_length.ensures c.pass_tokens.ensures in
    shorter ts (one_prefix ts) one c.pass_tokens.new.at (prefix_left ts) read

pub loop-one-preserved : goal.loop-one-preserved
loop-one-preserved c =
    let ts = c.loop-one.at in
    let one = c.in-Some.one in
    let found = sym c.prefix.ensures ∙ c.in-Some.is in
    let read = prefix_read ts one c.prefix_length.result c.pass_tokens.new.at found c.prefix_length.ensures
    c.pass_tokens.ensures in
    let less = shorter ts (one_prefix ts) one c.pass_tokens.new.at (prefix_left ts) read in
    rw c.in_ok-keep.ensures.ok (repeat-step (λ us. is_some (prefix us)) one_prefix
    (repeat (λ us. is_some (prefix us)) one_prefix c.args.at.now) c.loop-one.prefixes ts c.loop-one.invariant one
    c.pass_tokens.new.at (ap is_some found) read less)

pub returns : goal.returns
returns c =
    repeat-end (λ us. is_some (prefix us)) one_prefix (repeat (λ us. is_some (prefix us)) one_prefix c.args.at.now)
    c.loop-one.prefixes c.loop-one.at c.loop-one.invariant (ap is_some (sym c.prefix.ensures ∙ c.in_default.is))
