use Rattle.lay_layout.proofs.AnywayLaws.{text_anyway}
use Rattle.lay_layout.proofs.Render.{measured_break, measured_group, shown_front, space_front, text_stream}
use Rattle.lay_layout.proofs.Whole.{closed_stream, whole_of, unique}
use Rattle.lay_layout.proofs.layout.layout_law.Goals as goal

pub returns : goal.returns
returns c = record { same_text = text_stream; closed = closed_stream; some_document = whole_of; one_document = unique; measured_group = measured_group; measured_break = measured_break; shown_front = shown_front; space_front = space_front; anyway = text_anyway }
