use Rattle.std.proofs.Common.{◌++◌, ◌∷◌, [], length, refl, sym, ap, ◌∙◌, arith}
use Rattle.std.proofs.lemmas.Result.{err_from_is_err_and}
use Rattle.lay_node.specs.reader.Types.{chain}
use Rattle.lay_read_tokens.proofs.Left.{shorter}
use Rattle.lay_read_tokens.proofs.Steps.{lost}
use Rattle.lay_read_parts.specs.Answers.{joined_by}
use Rattle.lay_read_parts.proofs.Left.{joint_left}
use Rattle.lay_read_parts.proofs.Turning.{chain-start, chain-first, chain-none, chain-step, chain-end}
use Rattle.lay_read_parts.proofs.loops.read_chain.Goals as goal

pub returns-in_err-node-clause-read : goal.returns-in_err-node-clause-read
returns-in_err-node-clause-read g c =
    let op = joined_by c.args.joint in
    let one = g.P.Part.reads c.args.depth c.args.place in
    let p = err_from_is_err_and c.from_residual.result c.from_residual.ensures.1 in
    rw (p.1, p.2) (lost (one c.args.at.now) (chain op one c.args.at.now) c.in_err-node.field-0.0
    (c.requires.read _ _ _ _ c.in_err-node.ensures refl) (chain-first op one c.args.at.now))

pub loop-joint-init : goal.loop-joint-init
loop-joint-init g c =
    let first = c.in_ok-node.field-0 in
    record {
      held = chain-start (joined_by c.args.joint) (g.P.Part.reads c.args.depth c.args.place) c.args.at.now
          c.keep.new.list first.node first.need c.part.new.arg3
          (c.in_ok-keep.ensures.ok ∙ ap (λ xs. xs ++ first.node ∷ []) c.new-nodes.ensures)
          (c.requires.read _ _ _ _ c.in_ok-node.ensures refl);
      within = c.requires.within_read _ _ _ _ c.in_ok-node.ensures refl;
    }

pub returns-in_err-found-clause-read : goal.returns-in_err-found-clause-read
returns-in_err-found-clause-read g c =
    let op = joined_by c.args.joint in
    let one = g.P.Part.reads c.args.depth c.args.place in
    let loop = c.loop-joint in
    let here = ap one (sym c.loop-joint-test.ensures.passed) in
    let p = err_from_is_err_and c.from_residual-in_err-found.result c.from_residual-in_err-found.ensures.1 in
    rw (p.1, p.2) (lost (one c.takes_joint.new.at) (chain op one c.args.at.now) c.in_err-found.field-0.0
    (c.requires.read _ _ _ _ c.in_err-found.ensures refl)
    (λ none. chain-none op one c.args.at.now loop.nodes loop.need loop.at loop.invariant.held
    (sym c.loop-joint-test.ensures.found) (here ∙ none)))

pub loop-joint-smaller : goal.loop-joint-smaller
loop-joint-smaller g c =
    let one = g.P.Part.reads c.args.depth c.args.place in
    let found = c.in_ok-found.found in
    let n = length (joined_by c.args.joint) in
    let here = ap one (sym c.loop-joint-test.ensures.passed) in
    shorter c.loop-joint.at _ (found.node, found.need) c.part-in-loop-joint.new.arg3
    (joint_left one (c.requires.leaves) n c.loop-joint.at)
    (here ∙ c.requires.read _ _ _ _ c.in_ok-found.ensures refl)

pub loop-joint-preserved : goal.loop-joint-preserved
loop-joint-preserved g c =
    let op = joined_by c.args.joint in
    let one = g.P.Part.reads c.args.depth c.args.place in
    let loop = c.loop-joint in
    let found = c.in_ok-found.found in
    let read = ap one (sym c.loop-joint-test.ensures.passed) ∙ c.requires.read _ _ _ _ c.in_ok-found.ensures refl in
    let less = shorter loop.at _ (found.node, found.need) c.part-in-loop-joint.new.arg3
    (joint_left one (c.requires.leaves) (length op) loop.at) read in
    record {
      held = rw c.greater-need.ensures (chain-step op one c.args.at.now loop.nodes loop.need loop.at
          loop.invariant.held c.keep-in-loop-joint.new.list found.node found.need c.part-in-loop-joint.new.arg3
          (sym c.loop-joint-test.ensures.found) read less c.in_ok-keep-2.ensures.ok);
      within = omega (
        arith,
        c.greater-need.ensures,
        c.requires.within_read _ _ _ _ c.in_ok-found.ensures refl,
        loop.invariant.within,
      );
    }

pub returns-clause-read : goal.returns-clause-read
returns-clause-read g c =
    let op = joined_by c.args.joint in
    let one = g.P.Part.reads c.args.depth c.args.place in
    let loop = c.loop-joint in
    rw c.loop-joint-test.ensures.passed (chain-end op one c.args.at.now loop.nodes loop.need loop.at
    loop.invariant.held (sym c.loop-joint-test.ensures.found))
