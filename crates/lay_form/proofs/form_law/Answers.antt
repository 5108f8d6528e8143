use Rattle.lay_form.proofs.BracedEnds.{spelled as braced, deeper as braced_deeper}
use Rattle.lay_form.proofs.FormLaws.{least, deeper}
use Rattle.lay_form.proofs.StreamLaws.{stream_is}
use Rattle.lay_form.proofs.form_law.Goals as goal

pub returns : goal.returns
returns c = record { least = least; deeper = deeper; braced = braced; braced_deeper = braced_deeper; stream = stream_is }
