-- Loops that put the parts of a list, one at each turn.
use Rattle.std.proofs.Common.{◌≡◌, List, [], ◌++◌, sym, ap, ◌∙◌, append_assoc, append-nil, Result}
use Rattle.lay_layout.specs.declared.layout.Tok.{Tok}
use Rattle.lay_stream.specs.Fed.{Meanings}
use Rattle.lay_out_types.specs.Calls.{Adds}
use Rattle.lay_out_types.proofs.Adding.{adds, adds_nothing, adds_on}

-- what is put so far, and what is left, are all
pub record SoFar {S F T : Type 0} (m : Meanings S F) (before : Result T F) (old : S) (left all : List Tok) (done : Result T F)
    (now : S) : Type 0 where
  pub put : List Tok
  pub is_put : Adds m before old put done now
  pub whole : put ++ left ≡ all

-- nothing is put yet
pub nothing_yet : {S F T : Type 0} {m : Meanings S F} {a : S} {p : Result T F} {left all : List Tok} → left ≡ all
    → SoFar m p a left all p a
nothing_yet e = record { put = []; is_put = adds_nothing; whole = e }

-- what one turn puts
pub one_turn : {S F T : Type 0} {m : Meanings S F} {a b c : S} {p q r : Result T F} {put rest left all : List Tok}
    → SoFar m p a left all q b → Adds m q b put r c → put ++ rest ≡ left → SoFar m p a rest all r c
one_turn {put} {rest} h k e = record {
  put = h.put ++ put;
  is_put = adds_on h.is_put k;
  whole = append_assoc h.put put rest ∙ ap (λ (s : List Tok). h.put ++ s) e ∙ h.whole;
}

-- nothing is left
pub all_put : {S F T : Type 0} {m : Meanings S F} {a b : S} {p q : Result T F} {left all : List Tok}
    → SoFar m p a left all q b → [] ≡ left → Adds m p a all q b
all_put h e = adds h.is_put (sym (append-nil h.put) ∙ ap (λ (s : List Tok). h.put ++ s) e ∙ h.whole)
