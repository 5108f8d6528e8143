use Rattle.std.proofs.lemmas.Result.{on_err_weaker, on_ok_weaker}
use Rattle.lay_map_lines.proofs.MapLemmas.{part_written, unwritten, written}
use Rattle.lay_reparse.proofs.file.Reparse.{again}
use Rattle.lay_map_lines.proofs.mapping.write_map.Goals as goal

pub returns-in-Err-clause-part : goal.returns-in-Err-clause-part
returns-in-Err-clause-part g c = unwritten c.args.bytes.now c.args.file.now c.requires (g.K.Sink.written c.args.out.now)

pub units_of_output-requires : goal.units_of_output-requires
units_of_output-requires g c = again c.args.bytes.now c.args.file.now c.requires

pub returns-in-Err-units_of_output-clause-part : goal.returns-in-Err-units_of_output-clause-part
returns-in-Err-units_of_output-clause-part g c = unwritten c.args.bytes.now c.args.file.now c.requires (g.K.Sink.written c.args.out.now)

pub returns-clause-whole : goal.returns-clause-whole
returns-clause-whole g c =
    on_ok_weaker c.write_lines.result
    (written c.args.bytes.now c.args.file.now c.requires c.in-Ok.units c.in-Ok-units_of_output.units _ _ c.in-Ok.ensures c.in-Ok-units_of_output.ensures)
    (rw c.as_slice.ensures at rw c.as_slice-2.ensures at c.write_lines.ensures.whole)

pub returns-clause-part : goal.returns-clause-part
returns-clause-part g c =
    on_err_weaker c.write_lines.result
    (part_written c.args.bytes.now c.args.file.now c.requires c.in-Ok.units c.in-Ok-units_of_output.units _ _ c.in-Ok.ensures c.in-Ok-units_of_output.ensures)
    (rw c.as_slice.ensures at rw c.as_slice-2.ensures at c.write_lines.ensures.part)
