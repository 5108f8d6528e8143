use Rattle.std.proofs.Common.{ap, Err}
use Rattle.lay_front.specs.Comparing.{expected_by, written_to}
use Rattle.lay_front.proofs.ComparingLemmas.{met_all, met_wrong}
use Rattle.lay_front.proofs.compare.is_text.Goals as goal

pub returns-in-Ok : goal.returns-in-Ok
returns-in-Ok c =
    met_all _ _ _ (expected_by c.write_file.new.out) (written_to c.write_file.new.out) _ c.has_met_all.result
    c.new-comparer.ensures.expected c.new-comparer.ensures.nothing c.in-Ok.ensures.loan c.in-Ok.ensures.whole c.has_met_all.ensures

pub returns-in-Err-WriteFailed : goal.returns-in-Err-WriteFailed
returns-in-Err-WriteFailed c =
    let after = c.write_file.new.out in
    met_wrong _ _ _ after.expected _ after.met after.wrong _ after.faults
    c.new-comparer.ensures.expected c.new-comparer.ensures.nothing c.in-Err-WriteFailed.ensures.loan c.new-comparer.ensures.faults
    after.counted after.differs (c.in-Err-WriteFailed.ensures.cause (ap Err c.in-Err-WriteFailed.field-0-is)) c.in-Err-WriteFailed.ensures.part
