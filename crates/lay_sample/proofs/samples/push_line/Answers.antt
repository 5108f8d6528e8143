-- What the pieces add is the line.
use Rattle.lay_sample.proofs.Lines.{one_number, two_numbers}
use Rattle.lay_sample.proofs.samples.push_line.Goals as goal

pub returns-in_ok-push_number-in-Struct : goal.returns-in_ok-push_number-in-Struct
returns-in_ok-push_number-in-Struct c =
    rw c.in-Struct.is
    (one_number c.push_bytes.result _ _ _ _ _ _ c.in_ok-push_number-in-Struct.ensures c.push_bytes.ensures.ok)

pub returns-in_ok-push_number-in-Use : goal.returns-in_ok-push_number-in-Use
returns-in_ok-push_number-in-Use c =
    let last = c.push_bytes-in-Use in
    rw c.in-Use.is (one_number last.result _ _ _ _ _ _ c.in_ok-push_number-in-Use.ensures last.ensures.ok)

pub returns-in_ok-push_number-in-Function-2 : goal.returns-in_ok-push_number-in-Function-2
returns-in_ok-push_number-in-Function-2 c =
    let last = c.push_bytes-in-Function in
    rw c.in-Function.is
    (two_numbers last.result _ _ _ _ _ _ _ _ _ c.in_ok-push_number-in-Function.ensures
    c.in_ok-push_number-in-Function-2.ensures last.ensures.ok)

pub returns-in_ok-push_number-in-Constant-2 : goal.returns-in_ok-push_number-in-Constant-2
returns-in_ok-push_number-in-Constant-2 c =
    let last = c.push_bytes-in-Constant in
    rw c.in-Constant.is
    (two_numbers last.result _ _ _ _ _ _ _ _ _ c.in_ok-push_number-in-Constant.ensures
    c.in_ok-push_number-in-Constant-2.ensures last.ensures.ok)
