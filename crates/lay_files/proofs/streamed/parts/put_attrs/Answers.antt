use Rattle.lay_files.proofs.streamed_lemmas.ReadParts.{attr_put, no_attrs_put}
use Rattle.lay_files.proofs.streamed_lemmas.Rows.{all_put}
use Rattle.lay_files.proofs.streamed.parts.put_attrs.Goals as goal

pub loop-init : goal.loop-init
loop-init g c = no_attrs_put g.E.Emit.meanings c.args.within c.args.at.now c.args.out.now c.requires

pub read_attr-requires : goal.read_attr-requires
read_attr-requires g c = c.loop.invariant.stand.lexed

pub loop-preserved : goal.loop-preserved
loop-preserved g c =
    attr_put g.E.Emit.meanings c.args.within c.args.at.now c.loop.at c.read_attr.new.at c.args.out.now c.loop.out c.put_attr_line.new.out c.in-Ok.attr
    c.loop.invariant c.in-Ok.ensures.0 (all_put g.E.Emit.meanings c.loop.out c.put_attr_line.new.out _ _ c.put_attr_line.ensures c.in_ok-told-in-Ok.ensures)
