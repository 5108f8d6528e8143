use Rattle.lay_args.specs.Line.{line_of}
use Rattle.lay_code.specs.Out.{out}
use Rattle.lay_reparse.proofs.file.Reparse.{again}
use Rattle.lay_sample.specs.Sample.{sample_text}
use Rattle.lay_front.specs.Inputs.{given_to}
use Rattle.lay_front.proofs.SampleLemmas.{sample_done, sample_refused}
use Rattle.lay_front.proofs.OutcomeLemmas.{complete}
use Rattle.lay_front.proofs.RunLemmas.{check_differs, check_done, chosen_or, done_says, map_done, line_check, line_format, line_map, line_refused, line_sample, line_too_long, line_unread, line_usage, says}
use Rattle.lay_front.proofs.command.run.Goals as goal

pub returns-clause-usage : goal.returns-clause-usage
returns-clause-usage g c = rw c.status_after.ensures
    (line_usage g.K.Sink.written g.K.Sink.faults g.I.Inputs.left g.I.Inputs.faults c.args.inputs.now c.execute-ended.new.inputs c.args.out.now c.execute-ended.new.out
    (line_of c.args.words.now) _ c.execute-ended.ensures.run)

pub returns-clause-complete_usage : goal.returns-clause-complete_usage
returns-clause-complete_usage g c = rw c.status_after.ensures (λ e.
    (line_unread g.K.Sink.written g.K.Sink.faults g.I.Inputs.left g.I.Inputs.faults c.args.inputs.now c.execute-ended.new.inputs c.args.out.now c.execute-ended.new.out
    (line_of c.args.words.now) _ c.execute-ended.ensures.run e).2)

pub returns-clause-untouched : goal.returns-clause-untouched
returns-clause-untouched g c = λ e.
    let unread = line_unread g.K.Sink.written g.K.Sink.faults g.I.Inputs.left g.I.Inputs.faults c.args.inputs.now c.execute-ended.new.inputs c.args.out.now c.execute-ended.new.out
    (line_of c.args.words.now) _ c.execute-ended.ensures.run e in
    (unread.0, unread.1)

pub returns-clause-chosen : goal.returns-clause-chosen
returns-clause-chosen g c = rw c.status_after.ensures
    (chosen_or c.execute-ended.result _ _ c.args.inputs.now c.execute-ended.new.inputs c.execute-ended.ensures.chosen)

pub returns-clause-others : goal.returns-clause-others
returns-clause-others g c = c.execute-ended.ensures.took.others

pub returns-clause-rest : goal.returns-clause-rest
returns-clause-rest g c = c.execute-ended.ensures.took.rest

pub returns-clause-format : goal.returns-clause-format
returns-clause-format g c = rw c.status_after.ensures
    (line_format g.K.Sink.written g.K.Sink.faults g.I.Inputs.left g.I.Inputs.faults c.args.inputs.now c.execute-ended.new.inputs c.args.out.now c.execute-ended.new.out
    (line_of c.args.words.now) _ c.execute-ended.ensures.run)

pub returns-clause-check : goal.returns-clause-check
returns-clause-check g c = rw c.status_after.ensures (λ which e.
    (line_check g.K.Sink.written g.K.Sink.faults g.I.Inputs.left g.I.Inputs.faults c.args.inputs.now c.execute-ended.new.inputs c.args.out.now c.execute-ended.new.out
    (line_of c.args.words.now) _ c.execute-ended.ensures.run which e).0)

pub returns-clause-unwritten : goal.returns-clause-unwritten
returns-clause-unwritten g c = λ which e.
    (line_check g.K.Sink.written g.K.Sink.faults g.I.Inputs.left g.I.Inputs.faults c.args.inputs.now c.execute-ended.new.inputs c.args.out.now c.execute-ended.new.out
    (line_of c.args.words.now) _ c.execute-ended.ensures.run which e).1

pub returns-clause-complete : goal.returns-clause-complete
returns-clause-complete g c = rw c.status_after.ensures (λ which bytes file e no_read no_write given within r.
    let run = line_format g.K.Sink.written g.K.Sink.faults g.I.Inputs.left g.I.Inputs.faults c.args.inputs.now c.execute-ended.new.inputs c.args.out.now c.execute-ended.new.out
    (line_of c.args.words.now) _ c.execute-ended.ensures.run which e in
    complete g.K.Sink.written g.K.Sink.faults g.I.Inputs.left g.I.Inputs.faults which c.args.inputs.now c.execute-ended.new.inputs c.args.out.now c.execute-ended.new.out
    bytes _ file run no_read no_write given within r)

pub returns-clause-again : goal.returns-clause-again
returns-clause-again g c = rw c.status_after.ensures (λ which first file e no_read no_write r given within.
    let run = line_format g.K.Sink.written g.K.Sink.faults g.I.Inputs.left g.I.Inputs.faults c.args.inputs.now c.execute-ended.new.inputs c.args.out.now c.execute-ended.new.out
    (line_of c.args.words.now) _ c.execute-ended.ensures.run which e in
    complete g.K.Sink.written g.K.Sink.faults g.I.Inputs.left g.I.Inputs.faults which c.args.inputs.now c.execute-ended.new.inputs c.args.out.now c.execute-ended.new.out
    (out file) _ file run no_read no_write given within (again first file r))

pub returns-clause-complete_done : goal.returns-clause-complete_done
returns-clause-complete_done g c = rw c.status_after.ensures (λ which bytes file e no_read given within r same.
    let run = line_check g.K.Sink.written g.K.Sink.faults g.I.Inputs.left g.I.Inputs.faults c.args.inputs.now c.execute-ended.new.inputs c.args.out.now c.execute-ended.new.out
    (line_of c.args.words.now) _ c.execute-ended.ensures.run which e in
    check_done g.I.Inputs.left g.I.Inputs.faults which c.args.inputs.now c.execute-ended.new.inputs bytes no_read given _ file run.0 within r same)

pub returns-clause-complete_differs : goal.returns-clause-complete_differs
returns-clause-complete_differs g c = rw c.status_after.ensures (λ which bytes file e no_read given within r other.
    let run = line_check g.K.Sink.written g.K.Sink.faults g.I.Inputs.left g.I.Inputs.faults c.args.inputs.now c.execute-ended.new.inputs c.args.out.now c.execute-ended.new.out
    (line_of c.args.words.now) _ c.execute-ended.ensures.run which e in
    check_differs g.I.Inputs.left g.I.Inputs.faults which c.args.inputs.now c.execute-ended.new.inputs bytes no_read given _ file run.0 within r other)

pub returns-clause-complete_map : goal.returns-clause-complete_map
returns-clause-complete_map g c = rw c.status_after.ensures (λ which bytes lines file e no_read no_write given within m.
    let run = line_map g.K.Sink.written g.K.Sink.faults g.I.Inputs.left g.I.Inputs.faults c.args.inputs.now c.execute-ended.new.inputs c.args.out.now c.execute-ended.new.out
    (line_of c.args.words.now) _ c.execute-ended.ensures.run which e in
    map_done g.I.Inputs.left g.I.Inputs.faults which c.args.inputs.now c.execute-ended.new.inputs bytes no_read given
    g.K.Sink.written g.K.Sink.faults c.args.out.now c.execute-ended.new.out _ file lines run no_write within m)

pub returns-clause-complete_refused : goal.returns-clause-complete_refused
returns-clause-complete_refused g c = rw c.status_after.ensures (λ which bytes refusal e no_read given within r.
    line_refused g.I.Inputs.left g.I.Inputs.faults which c.args.inputs.now c.execute-ended.new.inputs bytes no_read given
    g.K.Sink.written g.K.Sink.faults c.args.out.now c.execute-ended.new.out (line_of c.args.words.now) _ refusal c.execute-ended.ensures.run e within r)

pub returns-clause-complete_too_long : goal.returns-clause-complete_too_long
returns-clause-complete_too_long g c = rw c.status_after.ensures (λ which bytes e no_read given above.
    line_too_long g.I.Inputs.left g.I.Inputs.faults which c.args.inputs.now c.execute-ended.new.inputs bytes no_read given
    g.K.Sink.written g.K.Sink.faults c.args.out.now c.execute-ended.new.out (line_of c.args.words.now) _ c.execute-ended.ensures.run e above)

pub returns-clause-map : goal.returns-clause-map
returns-clause-map g c = rw c.status_after.ensures
    (line_map g.K.Sink.written g.K.Sink.faults g.I.Inputs.left g.I.Inputs.faults c.args.inputs.now c.execute-ended.new.inputs c.args.out.now c.execute-ended.new.out
    (line_of c.args.words.now) _ c.execute-ended.ensures.run)

pub returns-clause-sample : goal.returns-clause-sample
returns-clause-sample g c = rw c.status_after.ensures (λ seed items e.
    line_sample g.K.Sink.written g.K.Sink.faults g.I.Inputs.left g.I.Inputs.faults c.args.inputs.now c.execute-ended.new.inputs c.args.out.now c.execute-ended.new.out
    (line_of c.args.words.now) _ c.execute-ended.ensures.run seed items e)

pub returns-clause-complete_sample : goal.returns-clause-complete_sample
returns-clause-complete_sample g c = rw c.status_after.ensures (λ seed items file e no_write r.
    let run = line_sample g.K.Sink.written g.K.Sink.faults g.I.Inputs.left g.I.Inputs.faults c.args.inputs.now c.execute-ended.new.inputs c.args.out.now c.execute-ended.new.out
    (line_of c.args.words.now) _ c.execute-ended.ensures.run seed items e in
    sample_done g.K.Sink.written g.K.Sink.faults items (sample_text seed items) c.args.out.now c.execute-ended.new.out
    _ file run.1 no_write r)

pub returns-clause-complete_sample_refused : goal.returns-clause-complete_sample_refused
returns-clause-complete_sample_refused g c = rw c.status_after.ensures (λ seed items refusal e r.
    let run = line_sample g.K.Sink.written g.K.Sink.faults g.I.Inputs.left g.I.Inputs.faults c.args.inputs.now c.execute-ended.new.inputs c.args.out.now c.execute-ended.new.out
    (line_of c.args.words.now) _ c.execute-ended.ensures.run seed items e in
    sample_refused g.K.Sink.written g.K.Sink.faults items (sample_text seed items) c.args.out.now c.execute-ended.new.out
    _ refusal run.1 r)

pub returns-clause-said : goal.returns-clause-said
returns-clause-said g c = rw c.status_after.ensures
    (says (given_to (line_of c.args.words.now) (g.I.Inputs.left c.args.inputs.now)) _ _ _ _ c.execute-ended.result
    c.execute-ended.ensures.placed c.tell.ensures.part c.tell.ensures.whole)

pub returns-clause-silent : goal.returns-clause-silent
returns-clause-silent g c = rw c.status_after.ensures (done_says c.execute-ended.result c.args.err.now c.tell.new.err c.tell.ensures.silent)
