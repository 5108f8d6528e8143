use Rattle.std.proofs.Common.{Bool, ◌++◌, ap, ◌∙◌}
use Rattle.lay_stream.proofs.Calls.{last, stream_on, stream_leave, level_of}
use Rattle.lay_form.specs.Stream.{stream_of}
use Rattle.lay_node.specs.tokens.Lists.{form_of_grouping}
use Rattle.lay_node.specs.tokens.Listing.{in_groups}
use Rattle.lay_node.specs.tokens.Pairs.{at_start}
use Rattle.lay_out_tokens.specs.Fed.{closed, opened}
use Rattle.lay_out_tokens.proofs.StreamParts.{level_stays}
use Rattle.lay_out_tokens.proofs.TokenFeeds.{closed_nested}
use Rattle.lay_out_tokens.proofs.tokens.put_full_group.Goals as goal

pub returns-in_err-open_group : goal.returns-in_err-open_group
returns-in_err-open_group g c = stream_leave _ c.in_err-open_group.ensures c.from_residual.ensures.1

pub returns-in_err-line : goal.returns-in_err-line
returns-in_err-line g c =
    stream_on c.in_ok-open_group.ensures
    (stream_leave _ c.in_err-line.ensures.did c.from_residual-in_err-line.ensures.1)

pub close_group-requires : goal.close_group-requires
close_group-requires g c =
    closed_nested c.in_ok-line.line c.args.delim _ _
    (level_stays (form_of_grouping (at_start 0) (in_groups c.args.tokens.now)) c.in_ok-line.ensures.did
    ∙ level_of c.in_ok-open_group.ensures)

pub returns : goal.returns
returns g c =
    last (stream_on c.in_ok-open_group.ensures (stream_on c.in_ok-line.ensures.did c.close_group.ensures))
    (ap (λ (line : Bool). opened c.args.delim
    ++ (stream_of (form_of_grouping (at_start 0) (in_groups c.args.tokens.now)) ++ closed line c.args.delim))
    c.in_ok-line.ensures.line)
