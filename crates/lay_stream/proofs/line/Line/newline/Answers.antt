use Rattle.std.proofs.Common.{rules, ◌≡◌, ℕ, ap}
use Rattle.lay_layout.specs.Document.{State, shift, line, put_mark, newline}
use Rattle.lay_stream.proofs.Paging.{moves_then, moves_as}
use Rattle.lay_stream.proofs.line.Line.newline.Goals as goal

pub returns-clause-moves : goal.returns-clause-moves
returns-clause-moves g c =
    let e : c.shifted.result ≡ shift c.args.indent c.args.brk.offset = search rules in
    moves_as _ _ _ _ _ (λ (s : State). put_mark c.args.brk.after (line c.shifted.result (put_mark c.args.brk.before s))) (newline c.args.brk c.args.indent)
    (λ s. ap (λ (k : ℕ). put_mark c.args.brk.after (line k (put_mark c.args.brk.before s))) e)
    (moves_then _ _ _ _ _ _ _ _ (λ (s : State). line c.shifted.result (put_mark c.args.brk.before s)) (put_mark c.args.brk.after)
    (moves_then _ _ _ _ _ _ _ _ (put_mark c.args.brk.before) (line c.shifted.result) c.in_ok-put_mark.ensures.moves c.in_ok-start_line.ensures.moves) c.put_mark-2.ensures.moves)
