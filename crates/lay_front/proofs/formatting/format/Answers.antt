use Rattle.lay_front.proofs.FormatLemmas.{text_again, text_refused, text_whole}
use Rattle.lay_front.proofs.formatting.format.Goals as goal

pub returns-clause-complete : goal.returns-clause-complete
returns-clause-complete c = λ file r. text_whole c.args.bytes.now file _ c.format_text.ensures r

pub returns-clause-complete_refused : goal.returns-clause-complete_refused
returns-clause-complete_refused c = λ refusal r. text_refused c.args.bytes.now refusal _ c.format_text.ensures r

pub returns-clause-again : goal.returns-clause-again
returns-clause-again c = λ given file r e. text_again c.args.bytes.now given file _ c.format_text.ensures r e
