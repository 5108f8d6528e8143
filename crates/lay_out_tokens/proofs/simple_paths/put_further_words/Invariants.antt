use Rattle.std.proofs.Common.{drop, Result}
use Rattle.lay_stream.specs.Fed.{Did}
use Rattle.lay_form.specs.Stream.{stream_of}
use Rattle.lay_out_tokens.specs.Parts.{further_words}
use Rattle.lay_out_tokens.proofs.simple_paths.put_further_words.Given as goal

-- calls that put the rest, put all
abbrev pub invariant-loop-word : goal.invariant-loop-word
invariant-loop-word g l = (r : Result (Unit {0}) _) (end : _) →
    Did g.E.Emit.meanings l.out (stream_of (further_words (drop l.word-index l.words))) r end →
    Did g.E.Emit.meanings l.fn.out (stream_of (further_words l.words)) r end
