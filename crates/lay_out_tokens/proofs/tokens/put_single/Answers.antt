use Rattle.std.proofs.Common.{◌++◌, ap, ◌∙◌}
use Rattle.lay_stream.proofs.Calls.{last, stream_on, stream_leave}
use Rattle.lay_form.specs.Form.{Done}
use Rattle.lay_form.specs.Stream.{stream_of}
use Rattle.lay_node.specs.tokens.Listing.{listed_form}
use Rattle.lay_node.specs.tokens.Pairs.{Separation, between}
use Rattle.lay_out_tokens.specs.Fed.{fed_gap}
use Rattle.lay_out_tokens.specs.Separations.{seen_of}
use Rattle.lay_out_tokens.proofs.tokens.put_single.Goals as goal

pub returns-in_err-put_gap : goal.returns-in_err-put_gap
returns-in_err-put_gap g c =
    last (stream_leave _ c.in_err-put_gap.ensures c.from_residual.ensures.1)
    (ap (λ (z : Separation). fed_gap z ++ stream_of (listed_form c.args.token.now Done))
    (c.between.ensures ∙ ap (between (seen_of c.args.seen.now)) c.requires))

pub returns : goal.returns
returns g c =
    last (stream_on c.in_ok-put_gap.ensures c.put_listed.ensures)
    (ap (λ (z : Separation). fed_gap z ++ stream_of (listed_form c.args.token.now Done))
    (c.between.ensures ∙ ap (between (seen_of c.args.seen.now)) c.requires))
