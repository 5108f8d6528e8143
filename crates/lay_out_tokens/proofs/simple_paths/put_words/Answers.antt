use Rattle.lay_stream.proofs.Calls.{last, no_call}
use Rattle.lay_out_tokens.proofs.StreamParts.{no_words, some_words}
use Rattle.lay_out_tokens.proofs.simple_paths.put_words.Goals as goal

pub returns-in-empty : goal.returns-in-empty
returns-in-empty g c = last no_call (no_words c.args.words.now c.in-empty.len_below)

pub returns-in-len1-up : goal.returns-in-len1-up
returns-in-len1-up g c =
    last c.put_joined.ensures (some_words c.args.words.now _ c.in-len1-up.len_at_least c.first-item.is)
