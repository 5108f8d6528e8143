use Rattle.std.proofs.Common.{List}
use Rattle.lay_stream.proofs.Calls.{last, call_on, stream_on, leave_on, stream_leave, no_call}
use Rattle.lay_form.specs.Stream.{stream_of}
use Rattle.lay_node.specs.declared.token.Word.{Word}
use Rattle.lay_out_tokens.specs.Parts.{further_words}
use Rattle.lay_out_tokens.proofs.StreamParts.{loop_step, loop_done, further_word}
use Rattle.lay_out_tokens.proofs.simple_paths.put_further_words.Goals as goal

pub returns-in_err-text : goal.returns-in_err-text
returns-in_err-text g c =
    let step = loop_step (λ (xs : List Word). stream_of
    (further_words xs)) c.args.words.now _ _ _ c.loop-word-test.true c.word-item.is
    (further_word _ _) in
    c.loop-word.invariant _ _ (last (leave_on c.in_err-text.ensures c.from_residual.ensures.1) step)

pub returns-in_err-put_word : goal.returns-in_err-put_word
returns-in_err-put_word g c =
    let step = loop_step (λ (xs : List Word). stream_of
    (further_words xs)) c.args.words.now _ _ _ c.loop-word-test.true c.word-item.is
    (further_word _ _) in
    c.loop-word.invariant _ _ (last
    (call_on c.in_ok-text.ensures
    (stream_leave _ c.in_err-put_word.ensures c.from_residual-in_err-put_word.ensures.1)) step)

pub loop-word-preserved : goal.loop-word-preserved
loop-word-preserved g c = λ r end h.
    let step = loop_step (λ (xs : List Word). stream_of
    (further_words xs)) c.args.words.now _ _ _ c.loop-word-test.true c.word-item.is
    (further_word _ _) in
    c.loop-word.invariant r end (last (call_on c.in_ok-text.ensures (stream_on c.in_ok-put_word.ensures h)) step)

pub returns : goal.returns
returns g c =
    c.loop-word.invariant _ _ (last no_call
    (loop_done (λ (xs : List Word). stream_of
    (further_words xs)) c.args.words.now _ c.loop-word-test.false))
