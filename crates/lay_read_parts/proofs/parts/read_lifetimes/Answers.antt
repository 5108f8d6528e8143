use Rattle.std.proofs.Common.{codes, sym}
use Rattle.std.proofs.lemmas.Result.{err_from_is_err_and}
use Rattle.lay_node.specs.reader.Exact.{needless}
use Rattle.lay_node.specs.reader.Types.{chain, lifetime, lifetimes}
use Rattle.lay_read_tokens.proofs.Steps.{lost}
use Rattle.lay_read_parts.proofs.Free.{no_lifetimes, some_lifetimes}
use Rattle.lay_read_parts.proofs.parts.read_lifetimes.Goals as goal

pub returns-in_err-found : goal.returns-in_err-found
returns-in_err-found c =
    let ts = c.args.at.now in
    let p = err_from_is_err_and c.from_residual.result c.from_residual.ensures.1 in
    rw (p.1, p.2) (lost (chain (codes "+") (needless lifetime 0) ts) (lifetimes ts) c.in_err-found.field-0.0
    c.in_err-found.ensures.read (no_lifetimes ts (sym c.if-not-is_at_lifetime.ensures)))

pub returns : goal.returns
returns c =
    let read = c.in_ok-found.ensures.read in
    some_lifetimes c.args.at.now read.0 c.read_chain.new.at c.in_ok-found.found.node
    (sym c.if-not-is_at_lifetime.ensures) read.1 read.2.0
