use Rattle.std.proofs.Common.{◌≡◌, ◌++◌, ◌∷◌, [], true, false, refl, sym, arith}
use Rattle.std.proofs.lemmas.Result.{err_from_is_err_and}
use Rattle.std.proofs.Common.{codes}
use Rattle.lay_node.specs.Ahead.{first, is_mark}
use Rattle.lay_node.specs.reader.Loops.{open_elements}
use Rattle.lay_read_tokens.proofs.Holding.{holding_more}
use Rattle.lay_read_tokens.proofs.Steps.{lost}
use Rattle.lay_read_parts.specs.Answers.{begins_part}
use Rattle.lay_read_parts.proofs.Left.{behind_shorter}
use Rattle.lay_read_parts.proofs.Turning.{open-start, open-end, open-none, open-last, open-step}
use Rattle.lay_read_parts.proofs.loops.read_open_elements.Goals as goal

pub loop-opening-init : goal.loop-opening-init
loop-opening-init g c = record {
  held = record {
    found = [];
    turn = open-start (begins_part c.args.opening) (g.P.Part.reads c.args.depth c.args.place) c.args.at.now;
    holds = (sym c.new-nodes.ensures, refl);
  };
  within = omega arith;
}

pub returns-in_err-found-clause-read : goal.returns-in_err-found-clause-read
returns-in_err-found-clause-read g c =
    let begins = begins_part c.args.opening in
    let one = g.P.Part.reads c.args.depth c.args.place in
    let whole = open_elements begins one c.args.at.now in
    let held = c.loop-opening.invariant.held in
    let p = err_from_is_err_and c.from_residual.result c.from_residual.ensures.1 in
    rw (p.1, p.2) (lost (one c.loop-opening.at) whole c.in_err-found.field-0.0
    (c.requires.read _ _ _ _ c.in_err-found.ensures refl)
    (open-none begins one whole held.found c.loop-opening.at held.turn (sym c.loop-opening-test.ensures)))

pub returns-then-not-takes_mark-clause-read : goal.returns-then-not-takes_mark-clause-read
returns-then-not-takes_mark-clause-read g c =
    let begins = begins_part c.args.opening in
    let one = g.P.Part.reads c.args.depth c.args.place in
    let held = c.loop-opening.invariant.held in
    let found = c.in_ok-found.found in
    let holds = holding_more c.loop-opening.nodes c.loop-opening.need held.found found.node found.need held.holds in (
      (held.found ++ (found.node, found.need) ∷ [], false),
      rw c.if-not-takes_mark.ensures.passed (open-last begins one (open_elements begins one c.args.at.now) held.found
          c.loop-opening.at held.turn (found.node, found.need) c.part.new.arg3 (sym c.loop-opening-test.ensures)
          (c.requires.read _ _ _ _ c.in_ok-found.ensures refl) (sym c.if-not-takes_mark.ensures.found)),
      (rw c.in_ok-keep.ensures.ok holds.0, refl, rw c.greater-need.ensures holds.1),
    )

pub loop-opening-smaller : goal.loop-opening-smaller
loop-opening-smaller g c =
    let one = g.P.Part.reads c.args.depth c.args.place in
    let ts = c.loop-opening.at in
    let found = c.in_ok-found.found in
    behind_shorter ts (one ts) (found.node, found.need) c.part.new.arg3 c.takes_mark.new.at
    (c.requires.leaves ts) (c.requires.read _ _ _ _ c.in_ok-found.ensures refl)
    (sym c.if-not-takes_mark.ensures.found) c.if-not-takes_mark.ensures.passed

pub loop-opening-preserved : goal.loop-opening-preserved
loop-opening-preserved g c =
    let begins = begins_part c.args.opening in
    let one = g.P.Part.reads c.args.depth c.args.place in
    let ts = c.loop-opening.at in
    let held = c.loop-opening.invariant.held in
    let found = c.in_ok-found.found in
    let read = c.requires.read _ _ _ _ c.in_ok-found.ensures refl in
    let comma : first (is_mark (codes ",")) c.part.new.arg3 ≡ true = sym c.if-not-takes_mark.ensures.found in
    let less = behind_shorter ts (one ts) (found.node, found.need) c.part.new.arg3 c.takes_mark.new.at
    (c.requires.leaves ts) read comma c.if-not-takes_mark.ensures.passed in
    record {
      held = record {
        found = held.found ++ (found.node, found.need) ∷ [];
        turn = open-step begins one (open_elements begins one c.args.at.now) held.found ts held.turn
            (found.node, found.need) c.part.new.arg3 c.takes_mark.new.at (sym c.loop-opening-test.ensures) read comma
            c.if-not-takes_mark.ensures.passed less;
        holds = rw (c.in_ok-keep.ensures.ok, c.greater-need.ensures)
            (holding_more c.loop-opening.nodes c.loop-opening.need held.found found.node found.need held.holds);
      };
      within = omega (
        arith,
        c.greater-need.ensures,
        c.requires.within_read _ _ _ _ c.in_ok-found.ensures refl,
        c.loop-opening.invariant.within,
      );
    }

pub returns-clause-read : goal.returns-clause-read
returns-clause-read g c =
    let begins = begins_part c.args.opening in
    let one = g.P.Part.reads c.args.depth c.args.place in
    let held = c.loop-opening.invariant.held in (
      (held.found, true),
      open-end begins one (open_elements begins one c.args.at.now) held.found c.loop-opening.at held.turn
          (sym c.loop-opening-test.ensures),
      (held.holds.0, refl, held.holds.1),
    )
