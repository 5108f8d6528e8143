-- What a turn takes stands after what was read before it.
use Rattle.std.proofs.Common.{rules, arith, ◌≡◌, ◌≢◌, ℕ, ◌<◌, ◌≤◌, ◌-◌, Option, None, Some, IfSome, ap, sym, ◌∙◌}
use Rattle.std.proofs.Common.{List, [], ◌++◌, take, length, append_assoc, append-nil, length-append}
use Rattle.lay_io.specs.Faults.{Rose}
use Rattle.lay_io.specs.Told.{put_before, TellsAs}
use Rattle.lay_io.specs.declared.outside.Which.{Which}
use Rattle.lay_io.proofs.read.read_all.Goals as goal

taken-more : (before middle now : Option (List ℕ)) (x y : List ℕ) → before ≡ put_before x middle
    → middle ≡ put_before y now → before ≡ put_before (x ++ y) now
taken-more before middle None x y first second = cc
taken-more before middle (Some rest) x y first second = first ∙ rw (second, append_assoc)

-- where nothing was taken at the end, what was read before is all there was
all-read : (before middle now : Option (List ℕ)) (read buf bytes : List ℕ) (count : ℕ) → before ≡ put_before read middle
    → middle ≡ put_before (take count buf) now → count ≡ 0 → TellsAs now [] → bytes ≡ read → TellsAs before bytes
all-read before middle None read buf bytes count first second zero ended same =
    rw (first ∙ ap (put_before read) second) tt
all-read before middle (Some rest) read buf bytes count first second zero ended same =
    let nothing : take count buf ++ rest ≡ [] = ap (λ n. take n buf ++ rest) zero ∙ ended in
    rw (first ∙ ap (put_before read) second) (ap (λ more. read ++ more) nothing ∙ append-nil read ∙ sym same)

-- a text is longer than a limit that a prefix of it passes
overran : (before middle now : Option (List ℕ)) (x y : List ℕ) (limit count len : ℕ) → before ≡ put_before x middle
    → middle ≡ put_before y now → count ≡ length y → len ≡ length x → limit - len < count
    → IfSome before (λ all. limit < length all)
overran before middle None x y limit count len first second counted known over =
    rw (first ∙ ap (put_before x) second) tt
overran before middle (Some rest) x y limit count len first second counted known over =
    rw (first ∙ ap (put_before x) second) (omega (arith, length-append x (y ++ rest), length-append y rest))

-- what is left of the inputs that aren't chosen stays over a further turn
others-stay : (chosen chosen_now : Option Which) (first before now : Which → Option (List ℕ)) → chosen_now ≡ chosen
    → ((w : Which) → chosen ≢ Some w → before w ≡ first w) → ((w : Which) → chosen_now ≢ Some w → now w ≡ before w)
    → (w : Which) → chosen ≢ Some w → now w ≡ first w
others-stay chosen chosen_now first before now same held call w not_chosen =
    call w (λ e. not_chosen (sym same ∙ e)) ∙ held w not_chosen

-- a fault of this turn is one of all turns
rose-later : (first before now : ℕ) → first ≤ before → Rose before now → Rose first now
rose-later first before now later rose = omega arith

pub returns-then-count-limit-clause-rest : goal.returns-then-count-limit-clause-rest
returns-then-count-limit-clause-rest g c =
    let same = c.loop-turn.invariant.same in
    let more = rw same at c.in-Ok.ensures.bytes.0 in
    let taken = c.loop-turn.bytes.items ++ take c.in-Ok.count c.read.new.buf in
    (taken, taken-more _ _ _ _ _ c.loop-turn.invariant.bytes_taken more)

pub returns-then-is_err-clause-rest : goal.returns-then-is_err-clause-rest
returns-then-is_err-clause-rest g c =
    let same = c.loop-turn.invariant.same in
    let more = rw same at c.in-Ok.ensures.bytes.0 in
    let taken = c.loop-turn.bytes.items ++ take c.in-Ok.count c.read.new.buf in
    (taken, taken-more _ _ _ _ _ c.loop-turn.invariant.bytes_taken more)

pub loop-turn-preserved : goal.loop-turn-preserved
loop-turn-preserved g c =
    let same = c.loop-turn.invariant.same in
    let more = rw same at c.in-Ok.ensures.bytes.0 in
    let grown : c.extend_from_slice.new.self.items ≡ c.loop-turn.bytes.items ++ take c.in-Ok.count c.read.new.buf =
    search rules in
    record {
      same = c.read.ensures.chosen ∙ same;
      bytes_taken = rw grown (taken-more _ _ _ _ _ c.loop-turn.invariant.bytes_taken more);
      others = others-stay _ _ _ _ _ same c.loop-turn.invariant.others c.read.ensures.others;
      later = search rules;
      turns = search rules;
      within = search rules;
    }

pub returns-in-Err-clause-others : goal.returns-in-Err-clause-others
returns-in-Err-clause-others g c =
    others-stay _ _ _ _ _ c.loop-turn.invariant.same c.loop-turn.invariant.others c.read.ensures.others

pub returns-then-count-eq0-clause-others : goal.returns-then-count-eq0-clause-others
returns-then-count-eq0-clause-others g c =
    others-stay _ _ _ _ _ c.loop-turn.invariant.same c.loop-turn.invariant.others c.read.ensures.others

pub returns-then-count-limit-clause-others : goal.returns-then-count-limit-clause-others
returns-then-count-limit-clause-others g c =
    others-stay _ _ _ _ _ c.loop-turn.invariant.same c.loop-turn.invariant.others c.read.ensures.others

pub returns-then-is_err-clause-others : goal.returns-then-is_err-clause-others
returns-then-is_err-clause-others g c =
    others-stay _ _ _ _ _ c.loop-turn.invariant.same c.loop-turn.invariant.others c.read.ensures.others

pub returns-in-Err-clause-read_failed : goal.returns-in-Err-clause-read_failed
returns-in-Err-clause-read_failed g c = λ e. rose-later _ _ _ c.loop-turn.invariant.later c.in-Err.ensures.cause.failed

pub returns-then-count-limit-clause-too_long : goal.returns-then-count-limit-clause-too_long
returns-then-count-limit-clause-too_long g c = λ e.
    let same = c.loop-turn.invariant.same in
    let more = rw same at c.in-Ok.ensures.bytes.0 in
    overran _ _ _ c.loop-turn.bytes.items _ _ _ _ c.loop-turn.invariant.bytes_taken more c.in-Ok.ensures.bound.1
    (c.len.ensures ∙ c.loop-turn.bytes.ok.0) c.if-count-limit.true

pub returns-in-Err-clause-too_long : goal.returns-in-Err-clause-too_long
returns-in-Err-clause-too_long g c = λ e. cc

pub returns-then-count-limit-clause-read_failed : goal.returns-then-count-limit-clause-read_failed
returns-then-count-limit-clause-read_failed g c = λ e. cc

pub returns-then-is_err-clause-read_failed : goal.returns-then-is_err-clause-read_failed
returns-then-is_err-clause-read_failed g c = λ e. cc

pub returns-then-is_err-clause-too_long : goal.returns-then-is_err-clause-too_long
returns-then-is_err-clause-too_long g c = λ e. cc

pub returns-then-count-eq0-clause-read_failed : goal.returns-then-count-eq0-clause-read_failed
returns-then-count-eq0-clause-read_failed g c = λ e. cc

pub returns-then-count-eq0-clause-too_long : goal.returns-then-count-eq0-clause-too_long
returns-then-count-eq0-clause-too_long g c = λ e. cc

pub returns-then-count-eq0-clause-same : goal.returns-then-count-eq0-clause-same
returns-then-count-eq0-clause-same g c = c.read.ensures.chosen ∙ c.loop-turn.invariant.same

pub returns-then-count-eq0-clause-rest : goal.returns-then-count-eq0-clause-rest
returns-then-count-eq0-clause-rest g c =
    let same = c.loop-turn.invariant.same in
    let more = rw same at c.in-Ok.ensures.bytes.0 in
    let taken = c.loop-turn.bytes.items ++ take c.in-Ok.count c.read.new.buf in
    (taken, taken-more _ _ _ _ _ c.loop-turn.invariant.bytes_taken more)

pub returns-then-count-eq0-clause-at_end : goal.returns-then-count-eq0-clause-at_end
returns-then-count-eq0-clause-at_end g c =
    let same = c.loop-turn.invariant.same in
    let ended = c.in-Ok.ensures.bytes.1 c.if-count-eq0.true (search rules) in
    rw same at ended

pub returns-then-count-eq0-clause-ok : goal.returns-then-count-eq0-clause-ok
returns-then-count-eq0-clause-ok g c =
    let same = c.loop-turn.invariant.same in
    let more = rw same at c.in-Ok.ensures.bytes.0 in
    all-read _ _ _ _ c.read.new.buf _ c.in-Ok.count c.loop-turn.invariant.bytes_taken more c.if-count-eq0.true
    (returns-then-count-eq0-clause-at_end g c) c.from_vec.ensures

pub returns-then-count-eq0-clause-within : goal.returns-then-count-eq0-clause-within
returns-then-count-eq0-clause-within g c = rw c.from_vec.ensures c.loop-turn.invariant.within
