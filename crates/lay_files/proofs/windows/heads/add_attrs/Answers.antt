use Rattle.lay_files.proofs.windows_lemmas.Reading.{attr_more, no_attrs}
use Rattle.lay_files.proofs.windows.heads.add_attrs.Goals as goal

pub loop-init : goal.loop-init
loop-init c = no_attrs c.args.inner c.args.attrs.now c.args.at.now c.requires

pub loop-preserved : goal.loop-preserved
loop-preserved c =
    attr_more c.args.inner c.args.attrs.now c.loop.attrs c.keep.new.list c.args.at.now c.loop.at c.read_attr.new.at c.in-Ok.attr
    c.loop.invariant c.in_ok-keep-in-Ok.ensures.ok c.in-Ok.ensures.0
