use Rattle.std.proofs.Common.{true, sym, ap, ◌∙◌, if◌then◌else◌}
use Rattle.lay_node.specs.Ahead.{more_items, tail}
use Rattle.lay_node.specs.reader.Attr.{attributes}
use Rattle.lay_node.specs.reader.Loops.{repeat}
use Rattle.lay_code.specs.reader.Blocks.{stmt_in_block}
use Rattle.lay_read_tokens.specs.Answers.{AreFound}
use Rattle.lay_read_shared.specs.Code.{code_within}
use Rattle.lay_read_blocks.proofs.Chains.{block_refused}
use Rattle.lay_read_blocks.proofs.Second.{second_held}
use Rattle.lay_read_blocks.proofs.rules.BlockRules.block_by.Goals as goal

pub returns-then-not-takes_closer-clause-read : goal.returns-then-not-takes_closer-clause-read
returns-then-not-takes_closer-clause-read g c =
    let deeper = code_within c.args.self.now.depth in
    let ts = c.args.at.now in
    let behind = c.attrs_ahead.new.at in
    let opened = sym c.takes_opener.ensures.found ∙ c.if-not-takes_opener.false in
    let inside = c.takes_opener.ensures.passed ∙ ap (λ b. if b then tail ts else ts) c.if-not-takes_opener.false in
    let attrs = ap (attributes true) (sym inside) ∙ c.in_ok-attrs.ensures in
    let stmts = second_held AreFound (repeat more_items (stmt_in_block deeper) c.pass_semicolons.new.at) c.in_ok-attrs.attrs c.stmts.new.at
    c.stmts.result c.in_ok-attrs-2.attrs c.in_ok-attrs-2.stmts c.in_ok-attrs-2.ensures c.stmts.ensures.read in
    let read = ap (repeat more_items (stmt_in_block deeper)) (sym c.pass_semicolons.ensures) ∙ stmts.1 in
    rw c.refused.ensures (block_refused deeper ts c.in_ok-attrs.attrs behind stmts.0 c.stmts.new.at opened attrs read
    (sym c.takes_closer.ensures.found ∙ c.if-not-takes_closer.true))
