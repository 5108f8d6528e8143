use Rattle.lay_files.proofs.windows_lemmas.Reading.{head_read, lexed_behind}
use Rattle.lay_files.proofs.windows.heads.read_head.Goals as goal

pub read_module_name-requires : goal.read_module_name-requires
read_module_name-requires c =
    lexed_behind c.in_ok-vis.ensures.0.0 c.add_attrs.new.at c.read_vis.new.at c.in_ok-vis.ensures.0.1 c.in_ok-add_attrs.ensures.lexed

pub returns : goal.returns
returns c =
    head_read (record { attrs = c.add_attrs.new.attrs; vis = c.in_ok-vis.vis; name = c.in_ok-name.name }) c.args.at.now c.add_attrs.new.at c.read_vis.new.at
    (rw c.new-attrs.ensures at c.in_ok-add_attrs.ensures) c.in_ok-vis.ensures.0 c.in_ok-name.ensures
