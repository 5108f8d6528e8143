use Rattle.std.proofs.Common.{codes}
use Rattle.std.proofs.lemmas.Result.{err_from_is_err_and}
use Rattle.lay_node.specs.Ahead.{is_mark}
use Rattle.lay_node.specs.reader.Exact.{needless}
use Rattle.lay_node.specs.reader.Loops.{elements}
use Rattle.lay_node.specs.reader.Types.{one_capture}
use Rattle.lay_read_tokens.proofs.Steps.{lost}
use Rattle.lay_read_parts.proofs.Free.{captured_behind, none_captured, some_captured}
use Rattle.lay_read_parts.proofs.parts.read_captured.Goals as goal

pub returns-in_err-found : goal.returns-in_err-found
returns-in_err-found c =
    let ts = c.args.at.now in
    let p = err_from_is_err_and c.from_residual.result c.from_residual.ensures.1 in
    rw (p.1, p.2) (lost (elements (is_mark (codes ">")) (needless one_capture 0) ts) (captured_behind ts)
    c.in_err-found.field-0.0 c.in_err-found.ensures.read (none_captured ts))

pub returns : goal.returns
returns c =
    let read = c.in_ok-found.ensures.read in
    some_captured c.args.at.now read.0 c.read_elements.new.at c.in_ok-found.found.node read.1 read.2.0
