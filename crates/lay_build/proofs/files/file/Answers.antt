use Rattle.std.proofs.Common.{◌≤◌, sym, subst}
use Rattle.lay_form.specs.Depth.{least_depth}
use Rattle.lay_code.specs.Reading.{top}
use Rattle.lay_code.specs.Written.{Written}
use Rattle.lay_code.specs.nodes.File.{form_of_file}
use Rattle.lay_code.specs.declared.file.File.{File}
use Rattle.lay_build.proofs.FileLemmas.{file_within, file_written, same_file}
use Rattle.lay_build.proofs.files.file.Goals as goal

pub returns-in-Ok : goal.returns-in-Ok
returns-in-Ok c =
    let parts = c.in-Ok.ensures in
    let whole = same_file c.new.result c.in-Ok.parts.0 c.args.items c.new.ensures parts.same in
    record {
      node = whole;
      written = subst Written (sym whole) (file_written c.args.items parts.kept);
      within = subst (λ (f : File). least_depth (form_of_file f) ≤ top) (sym whole) (file_within c.args.items parts.kept);
    }
