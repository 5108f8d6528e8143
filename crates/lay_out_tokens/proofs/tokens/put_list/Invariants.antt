use Rattle.std.proofs.Common.{◌≡◌, ◌+◌, ◌≤◌, Bool, Result, length}
use Rattle.lay_layout.specs.Machine.{IsNested}
use Rattle.lay_stream.specs.Fed.{Did}
use Rattle.lay_node.specs.tokens.Pairs.{at_start}
use Rattle.lay_out_tokens.specs.Fed.{fed_tokens, seen_over}
use Rattle.lay_out_tokens.specs.Separations.{seen_of}
use Rattle.lay_out_tokens.proofs.tokens.put_list.Given as goal

-- calls that put the rest, put all; the rest closes no group that it doesn't open
abbrev pub invariant-loop-token : goal.invariant-loop-token
invariant-loop-token g l = record {
  put : (r : Result Bool _) (end : _) → Did g.E.Emit.meanings l.out (fed_tokens (seen_of l.seen) l.rest) r end
      → Did g.E.Emit.meanings l.fn.out (fed_tokens (at_start 0) l.tokens) r end;
  nested : IsNested (g.E.Emit.meanings.groups l.out) (fed_tokens (seen_of l.seen) l.rest);
  seen : seen_over (seen_of l.seen) l.rest ≡ seen_over (at_start 0) l.tokens;
  few : l.seen.count + length l.rest ≤ length l.tokens;
}

abbrev pub decreases-loop-token : goal.decreases-loop-token
decreases-loop-token g l = length l.rest
