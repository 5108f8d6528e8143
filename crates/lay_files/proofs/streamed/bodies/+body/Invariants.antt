use Rattle.std.proofs.Common.{◌+◌, ◌*◌}
use Rattle.lay_files.proofs.streamed_lemmas.Growing.{FedSoFar}
use Rattle.lay_files.proofs.streamed.bodies.+body.Given as goal

abbrev pub decreases-put_body : goal.decreases-put_body
decreases-put_body g l = 2 * l.depth

abbrev pub decreases-put_module : goal.decreases-put_module
decreases-put_module g l = 2 * l.depth + 1

-- what is read and fed so far
abbrev pub invariant-put_body-loop : goal.invariant-put_body-loop
invariant-put_body-loop g l =
    FedSoFar g.E.Emit.meanings l.within l.text l.fn.place l.place l.depth l.are_items l.fn.first.nested l.fn.first.stop
    l.window.nested l.window.end l.window.stop l.fn.out l.out
