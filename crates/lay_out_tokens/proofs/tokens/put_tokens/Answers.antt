use Rattle.std.proofs.Common.{refl, arith}
use Rattle.lay_stream.proofs.Calls.{last, call_on, stream_on, leave_on, stream_leave, level_of}
use Rattle.lay_node.specs.tokens.Lists.{form_of_grouping}
use Rattle.lay_node.specs.tokens.Listing.{in_groups}
use Rattle.lay_node.specs.tokens.Pairs.{at_start}
use Rattle.lay_out_tokens.proofs.StreamParts.{level_stays, list_parts}
use Rattle.lay_out_tokens.proofs.tokens.put_tokens.Goals as goal

pub returns-in_err-begin : goal.returns-in_err-begin
returns-in_err-begin g c =
    last (leave_on c.in_err-begin.ensures c.from_residual.ensures.1) (list_parts c.args.tokens.now _ _ refl refl)

pub returns-in_err-line : goal.returns-in_err-line
returns-in_err-line g c =
    last (call_on c.in_ok-begin.ensures
    (stream_leave _ c.in_err-line.ensures.did c.from_residual-in_err-line.ensures.1))
    (list_parts c.args.tokens.now _ _ c.as_slice.ensures.tokens refl)

pub end-requires : goal.end-requires
end-requires g c =
    omega (
      arith,
      level_of c.in_ok-begin.ensures,
      level_stays
          (form_of_grouping (at_start 0) (in_groups c.as_slice.result.now)) c.in_ok-line.ensures.did,
    )

pub returns-in_err-end : goal.returns-in_err-end
returns-in_err-end g c =
    last
    (call_on c.in_ok-begin.ensures
    (stream_on c.in_ok-line.ensures.did (leave_on c.in_err-end.ensures c.from_residual-in_err-end.ensures.1)))
    (list_parts c.args.tokens.now _ _ c.as_slice.ensures.tokens c.in_ok-line.ensures.line)

pub returns : goal.returns
returns g c =
    last
    (call_on c.in_ok-begin.ensures
    (stream_on c.in_ok-line.ensures.did (call_on c.in_ok-end.ensures c.put_list_end.ensures)))
    (list_parts c.args.tokens.now _ _ c.as_slice.ensures.tokens c.in_ok-line.ensures.line)
