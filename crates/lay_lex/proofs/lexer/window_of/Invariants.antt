use Rattle.std.proofs.Common.{length}
use denote.Text.{Utf8}
use denote.Shadow.{shadow}
use Rattle.lay_lex.specs.Added.{before}
use Rattle.lay_lex.specs.Tokens.{so_far}
use Rattle.lay_lex.proofs.Parts.{SoFar}
use Rattle.lay_lex.proofs.lexer.window_of.Given as goal

abbrev pub invariant-loop-rest : goal.invariant-loop-rest
invariant-loop-rest l = record {
  text : shadow (Utf8 l.ahead);
  read : SoFar l.start l.text l.ahead (so_far l.tokens) (before l.tokens.before);
}

abbrev pub decreases-loop-rest : goal.decreases-loop-rest
decreases-loop-rest l = length l.ahead
