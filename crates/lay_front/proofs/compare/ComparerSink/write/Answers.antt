use Rattle.std.proofs.Common.{◌≡◌, ◌+◌, ap, get_or, Some, arith, rules}
use Rattle.std.proofs.lemmas.List.{take_rest}
use Rattle.lay_front.proofs.ComparingLemmas.{met_more, met_then_wrong, not_next}
use Rattle.lay_front.proofs.compare.ComparerSink.write.Goals as goal

pub returns-then-same-piece-clause-bytes : goal.returns-then-same-piece-clause-bytes
returns-then-same-piece-clause-bytes c =
    let self = c.args.self.now in
    ap Some (met_more self.expected c.args.piece.now self.met c.same_front-same.result self.wrong (search rules)
    (rw (c.as_slice.ensures, take_rest self.expected self.met) at c.same_front-same.ensures.same) c.if-same-piece.true)

pub invariant_of-self-2-clause-differs : goal.invariant_of-self-2-clause-differs
invariant_of-self-2-clause-differs c = λ byte e there.
    let self = c.args.self.now in
    let is : get_or c.args.piece.now c.same_front-same.result 0 ≡ byte = cc in
    not_next self.expected c.args.piece.now self.met c.same_front-same.result byte
    (omega (arith, c.if-same-piece.false, c.same_front-same.ensures.in_piece)) is
    (rw (c.as_slice.ensures, take_rest self.expected self.met) at c.same_front-same.ensures.ends)
    (rw (c.as_slice.ensures, take_rest self.expected self.met) at c.same_front-same.ensures.in_expected) there

pub returns-clause-bytes : goal.returns-clause-bytes
returns-clause-bytes c =
    let self = c.args.self.now in (
      c.same_front-same.result + 1,
      ap Some (met_then_wrong self.expected c.args.piece.now self.met c.same_front-same.result self.wrong (search rules)
          (rw (c.as_slice.ensures, take_rest self.expected self.met) at c.same_front-same.ensures.same)
          (omega (arith, c.if-same-piece.false, c.same_front-same.ensures.in_piece))),
    )
