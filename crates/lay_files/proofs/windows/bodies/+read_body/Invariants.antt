use Rattle.lay_files.proofs.windows_lemmas.Standing.{SoFar}
use Rattle.lay_files.proofs.windows.bodies.+read_body.Given as goal

abbrev pub decreases-read_body : goal.decreases-read_body
decreases-read_body l = l.depth

abbrev pub invariant-loop : goal.invariant-loop
invariant-loop l = SoFar l.text l.fn.place l.place l.depth l.file
