use Rattle.lay_items.proofs.alone_lemmas.OutputLemmas.{file_text, alone_text}
use Rattle.lay_items.proofs.alone.outputs_law.Goals as goal

pub returns : goal.returns
returns c = record { whole = file_text; one = alone_text }
