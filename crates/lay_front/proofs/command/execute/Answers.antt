use Rattle.lay_args.specs.Line.{line_of}
use Rattle.lay_front.proofs.RunLemmas.{no_words}
use Rattle.lay_front.proofs.command.execute.Goals as goal

pub returns-in-Err-clause-run : goal.returns-in-Err-clause-run
returns-in-Err-clause-run g c =
    no_words g.K.Sink.written g.K.Sink.faults g.I.Inputs.left g.I.Inputs.faults (line_of c.args.words.now) c.args.inputs.now
    c.args.out.now
