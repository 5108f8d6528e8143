use Rattle.std.proofs.Common.{◌≡◌, ◌++◌, ◌∷◌, [], Some, refl, sym, ap, ◌∙◌, arith}
use Rattle.std.proofs.lemmas.Result.{err_from_is_err_and}
use Rattle.lay_node.specs.reader.Loops.{element_end, elements}
use Rattle.lay_read_tokens.proofs.Holding.{holding_more}
use Rattle.lay_read_tokens.proofs.Left.{element_shorter}
use Rattle.lay_read_tokens.proofs.Steps.{lost}
use Rattle.lay_read_tokens.proofs.Turns.{elements-start, elements-end, elements-none, elements-open, elements-step}
use Rattle.lay_read_parts.specs.Answers.{closed_by}
use Rattle.lay_read_parts.proofs.loops.read_elements.Goals as goal

pub loop-closer-init : goal.loop-closer-init
loop-closer-init g c = record {
  held = record {
    found = [];
    turn = elements-start (closed_by c.args.closer) (g.P.Part.reads c.args.depth c.args.place) c.args.at.now;
    holds = (sym c.new-nodes.ensures, refl);
  };
  within = omega arith;
}

pub returns-in_err-found-clause-read : goal.returns-in_err-found-clause-read
returns-in_err-found-clause-read g c =
    let closing = closed_by c.args.closer in
    let one = g.P.Part.reads c.args.depth c.args.place in
    let whole = elements closing one c.args.at.now in
    let held = c.loop-closer.invariant.held in
    let here = ap one (sym c.loop-closer-test.ensures.passed) in
    let p = err_from_is_err_and c.from_residual.result c.from_residual.ensures.1 in
    rw (p.1, p.2) (lost (one c.takes_end.new.at) whole c.in_err-found.field-0.0
    (c.requires.read _ _ _ _ c.in_err-found.ensures refl)
    (λ none. elements-none closing one whole held.found c.loop-closer.at held.turn
    (sym c.loop-closer-test.ensures.found) (here ∙ none)))

pub returns-then-not-takes_element_end-clause-read : goal.returns-then-not-takes_element_end-clause-read
returns-then-not-takes_element_end-clause-read g c =
    let closing = closed_by c.args.closer in
    let one = g.P.Part.reads c.args.depth c.args.place in
    let held = c.loop-closer.invariant.held in
    let found = c.in_ok-found.found in
    let here = ap one (sym c.loop-closer-test.ensures.passed) in
    elements-open closing one (elements closing one c.args.at.now) held.found c.loop-closer.at held.turn
    (found.node, found.need) c.part.new.arg3 (sym c.loop-closer-test.ensures.found)
    (here ∙ c.requires.read _ _ _ _ c.in_ok-found.ensures refl)
    (sym c.if-not-takes_element_end.ensures)

pub loop-closer-smaller : goal.loop-closer-smaller
loop-closer-smaller g c =
    let one = g.P.Part.reads c.args.depth c.args.place in
    let ts = c.loop-closer.at in
    let found = c.in_ok-found.found in
    let here = ap one (sym c.loop-closer-test.ensures.passed) in
    element_shorter (closed_by c.args.closer) ts (one ts) (found.node, found.need) c.part.new.arg3
    c.takes_element_end.new.at (c.requires.leaves ts)
    (here ∙ c.requires.read _ _ _ _ c.in_ok-found.ensures refl) (sym c.if-not-takes_element_end.ensures)

pub loop-closer-preserved : goal.loop-closer-preserved
loop-closer-preserved g c =
    let closing = closed_by c.args.closer in
    let one = g.P.Part.reads c.args.depth c.args.place in
    let ts = c.loop-closer.at in
    let held = c.loop-closer.invariant.held in
    let found = c.in_ok-found.found in
    let read = ap one (sym c.loop-closer-test.ensures.passed) ∙ c.requires.read _ _ _ _ c.in_ok-found.ensures refl in
    let ended : element_end closing c.part.new.arg3 ≡ Some c.takes_element_end.new.at =
    sym c.if-not-takes_element_end.ensures in
    let less = element_shorter closing ts (one ts) (found.node, found.need) c.part.new.arg3
    c.takes_element_end.new.at (c.requires.leaves ts) read ended in
    record {
      held = record {
        found = held.found ++ (found.node, found.need) ∷ [];
        turn = elements-step closing one (elements closing one c.args.at.now) held.found ts held.turn
            (found.node, found.need) c.part.new.arg3 c.takes_element_end.new.at
            (sym c.loop-closer-test.ensures.found) read ended less;
        holds = rw (c.in_ok-keep.ensures.ok, c.greater-need.ensures)
            (holding_more c.loop-closer.nodes c.loop-closer.need held.found found.node found.need held.holds);
      };
      within = omega (
        arith,
        c.greater-need.ensures,
        c.requires.within_read _ _ _ _ c.in_ok-found.ensures refl,
        c.loop-closer.invariant.within,
      );
    }

pub returns-clause-read : goal.returns-clause-read
returns-clause-read g c =
    let closing = closed_by c.args.closer in
    let one = g.P.Part.reads c.args.depth c.args.place in
    let held = c.loop-closer.invariant.held in (
      held.found,
      elements-end closing one (elements closing one c.args.at.now) held.found c.loop-closer.at held.turn
          (sym c.loop-closer-test.ensures.found)
          ∙ ap (λ ts. Some (held.found, ts)) (sym c.loop-closer-test.ensures.passed),
      held.holds,
    )
