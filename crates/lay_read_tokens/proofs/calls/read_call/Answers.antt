use Rattle.std.proofs.Common.{◌∙◌}
use Rattle.std.proofs.lemmas.Result.{err_from_is_err_and}
use Rattle.lay_node.specs.nodes.Call.{about_call}
use Rattle.lay_node.specs.nodes.Facts.{Front}
use Rattle.lay_node.specs.reader.Call.{call}
use Rattle.lay_node.specs.declared.tokens.MacroCall.{MacroCall}
use Rattle.lay_node.proofs.reader.Call.{calls}
use Rattle.lay_read_tokens.proofs.Steps.{node_read, none_read}
use Rattle.lay_read_tokens.proofs.calls.read_call.Goals as goal

pub returns-in_err-call : goal.returns-in_err-call
returns-in_err-call c =
    let p = err_from_is_err_and c.from_residual.result c.from_residual.ensures.1 in
    rw (p.1, p.2) (none_read call (λ (x : MacroCall). Front (about_call x)) calls c.args.at.now c.requires
    c.new-ahead.result (c.new-ahead.ensures ∙ c.fork.ensures)
    c.in_err-call.field-0.0 c.in_err-call.ensures)

pub returns : goal.returns
returns c =
    rw c.into_cursor.ensures (node_read call (λ (x : MacroCall). Front (about_call x)) calls c.args.at.now c.requires c.new-ahead.result
    (c.new-ahead.ensures ∙ c.fork.ensures)
    c.in_ok-call.call c.call_ahead.new.at c.in_ok-call.ensures)
