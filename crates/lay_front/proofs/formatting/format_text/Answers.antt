use Rattle.lay_front.proofs.FormatLemmas.{text_whole_of}
use Rattle.lay_front.proofs.formatting.format_text.Goals as goal

pub returns-in-Ok-text_of : goal.returns-in-Ok-text_of
returns-in-Ok-text_of c = text_whole_of c.args.bytes.now c.in-Ok-text_of.text c.in-Ok.file c.in-Ok.ensures c.in-Ok-text_of.ensures
