use Rattle.lay_front.proofs.RunLemmas.{read_wrote}
use Rattle.lay_front.proofs.command.format_input.Goals as goal

pub returns-in-Ok-written-clause-run : goal.returns-in-Ok-written-clause-run
returns-in-Ok-written-clause-run g c =
    read_wrote (g.I.Inputs.left c.args.inputs.now c.args.which) (g.I.Inputs.left c.read_input.new.inputs c.args.which)
    (g.I.Inputs.faults c.args.inputs.now) (g.I.Inputs.faults c.read_input.new.inputs) c.in-Ok.given c.in-Ok.ensures.input
    (g.K.Sink.written c.args.out.now) (g.K.Sink.written c.write_file-written.new.out) c.in-Ok-written.ensures.whole
