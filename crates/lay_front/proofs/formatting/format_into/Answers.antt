use Rattle.lay_front.proofs.OutcomeLemmas.{into_whole, into_refused, into_again}
use Rattle.lay_front.proofs.formatting.format_into.Goals as goal

pub returns-clause-complete : goal.returns-clause-complete
returns-clause-complete g c = λ file no_write r.
    into_whole g.K.Sink.written g.K.Sink.faults c.args.bytes.now c.args.out.now c.format_bytes.new.out _ file c.format_bytes.ensures.formats no_write r

pub returns-clause-complete_refused : goal.returns-clause-complete_refused
returns-clause-complete_refused g c = λ refusal r.
    into_refused g.K.Sink.written g.K.Sink.faults c.args.bytes.now c.args.out.now c.format_bytes.new.out _ refusal c.format_bytes.ensures.formats r

pub returns-clause-again : goal.returns-clause-again
returns-clause-again g c = λ given file r e no_write.
    into_again g.K.Sink.written g.K.Sink.faults c.args.bytes.now c.args.out.now c.format_bytes.new.out _ given file c.format_bytes.ensures.formats r e no_write
