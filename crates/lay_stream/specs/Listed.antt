-- A list of tokens as an Emit: it collects what it is fed.
use Rattle.std.specs.Prelude.{◌≡◌, List, []}
use Rattle.lay_layout.specs.declared.layout.Tok.{Tok}
use Rattle.lay_layout.specs.Machine.{opened}
use Rattle.lay_stream.specs.Fed.{Meanings}

-- The list is what was fed. Nothing is said of failures.
abbrev pub list_meanings : (F : Type 0) → Meanings (List Tok) F
list_meanings F = record {
  fed = λ list start s. list ≡ s;
  groups = λ list. opened list 0;
  faults = λ list. 0;
  failed = λ list. Unit {0};
  cause = λ old fault new. Unit {0};
  loans = λ list. [];
}
