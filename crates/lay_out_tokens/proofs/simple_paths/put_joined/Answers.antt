use Rattle.lay_stream.proofs.Calls.{last, stream_on, stream_leave}
use Rattle.lay_out_tokens.specs.Parts.{further_words}
use Rattle.lay_out_tokens.proofs.StreamParts.{leaf_more}
use Rattle.lay_out_tokens.proofs.simple_paths.put_joined.Goals as goal

pub returns-in_err-put_word : goal.returns-in_err-put_word
returns-in_err-put_word g c =
    last (stream_leave _ c.in_err-put_word.ensures c.from_residual.ensures.1)
    (leaf_more c.args.first.now.raw c.args.first.now.text (further_words c.args.rest.now))

pub returns : goal.returns
returns g c =
    last (stream_on c.in_ok-put_word.ensures c.put_further_words.ensures)
    (leaf_more c.args.first.now.raw c.args.first.now.text (further_words c.args.rest.now))
