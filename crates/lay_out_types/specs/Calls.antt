-- The effect of a call that continues a chain of calls.
use Rattle.std.specs.Prelude.{◌≡◌, List, Result, Ok, Err}
use Rattle.lay_layout.specs.declared.layout.Tok.{Tok}
use Rattle.lay_stream.specs.Fed.{Meanings, Did}

-- The call gets the result of the calls before it, and returns the result of all. If those went
-- well, it appends the tokens ts, or fails. If one failed, it returns that fault and changes
-- nothing.
pub record Adds {S F T : Type 0} (m : Meanings S F) (before : Result T F) (old : S) (ts : List Tok) (all : Result T F)
    (new : S) : Type 0 where
  pub goes_on : (x : T) → before ≡ Ok x → Did m old ts all new
  pub hands_on : (fault : F) → before ≡ Err fault → all ≡ Err fault
  pub stays : (fault : F) → before ≡ Err fault → new ≡ old
