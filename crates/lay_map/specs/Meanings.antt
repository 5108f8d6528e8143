-- What it means for the finder of units that it is fed the stream of a layout.
use Rattle.std.specs.Prelude.{◌≡◌, Bool, true, false, List, [], length}
use Rattle.lay_text.specs.declared.refusal.NoMemory.{NoMemory}
use Rattle.lay_token.specs.declared.token.Token.{Token}
use Rattle.lay_stream.specs.Fed.{Meanings}
use Rattle.lay_map.specs.Marking.{State, begun, fed_all}

-- all the tokens, whether the first line is skipped as a shebang, the state so far, and whether a
-- call has failed
pub record Seen : Type 0 where
  pub tokens : List Token
  pub shebang : Bool
  pub state : State
  pub failed : Bool

-- Its state is what the stream makes of the first state, unless a call has failed. The tokens and
-- the flag never change.
abbrev pub mark_meanings : Meanings Seen NoMemory
mark_meanings = record {
  fed = λ x start s. x.failed ≡ false → x.state ≡ fed_all s (begun x.tokens x.shebang);
  groups = λ x. length x.state.outer;
  faults = λ x. 0;
  failed = λ x. x.failed ≡ true;
  cause = λ old fault new. (old.tokens ≡ new.tokens) × (old.shebang ≡ new.shebang);
  loans = λ x. [];
}
