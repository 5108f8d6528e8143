use Rattle.std.proofs.Common.{IsUtf8, rules, ◌≡◌, true, false, ◌-◌, Bool, subst, arith}
use Rattle.std.specs.Str.{IsCharBoundary}
use Rattle.lay_files.specs.windows.Windows.{IsWindow}
use Rattle.lay_files.specs.streamed.Through.{PutsBody, is_empty_body}
use Rattle.lay_files.proofs.streamed_lemmas.Growing.{begins, closes, empty_module_put, ends, full_module_put, goes_on, goes_on_behind, may_end}
use Rattle.lay_files.proofs.streamed_lemmas.Rows.{all_put, told_ok}
use Rattle.lay_files.proofs.streamed.bodies.+body.Goals as goal
use Rattle.lay_files.proofs.streamed.bodies.+body.Goals.{put_body-in-More-None+in_ok-window-in-More-None, put_body-in-Opened-Some+in_ok-put_module-in-Opened-Some+in_ok-window-in-Opened-Some}

-- ---- bodies

pub put_body-loop-init : goal.put_body-loop-init
put_body-loop-init g t c =
    let u : IsUtf8 c.args.text.now = search rules in
    let border : IsCharBoundary c.args.text.now c.args.place.now = search rules in
    let first : IsWindow c.args.text.now c.args.place.now c.args.first.nested c.args.first.end c.args.first.stop = search rules in
    begins g.E.Emit.meanings c.args.within c.args.text.now c.args.place.now c.args.depth u border c.args.first.nested c.args.first.end c.args.first.stop
    c.args.out.now first

pub put_body-put_parts-requires : goal.put_body-put_parts-requires
put_body-put_parts-requires g t c = c.loop.invariant.window.lexed

pub put_body-returns-in-End-None : goal.put_body-returns-in-End-None
put_body-returns-in-End-None g t c =
    let u : IsUtf8 c.args.text.now = search rules in
    let border : IsCharBoundary c.args.text.now c.args.place.now = search rules in
    ends g.E.Emit.meanings c.args.within c.args.text.now c.args.place.now c.args.depth u border c.loop.place c.loop.are_items c.put_parts.new.are_items
    c.args.first.nested c.args.first.stop c.loop.window.nested c.loop.window.end c.loop.window.stop c.args.out.now c.loop.out c.put_parts.new.out
    c.in_ok-head.head c.loop.invariant c.in_ok-head.ensures c.loop.window.end c.in-End-None.is-0 c.in-End-None.is-1

pub put_body-returns-in-Closed-None : goal.put_body-returns-in-Closed-None
put_body-returns-in-Closed-None g t c =
    let u : IsUtf8 c.args.text.now = search rules in
    let border : IsCharBoundary c.args.text.now c.args.place.now = search rules in
    closes g.E.Emit.meanings c.args.within c.args.text.now c.args.place.now c.args.depth u border c.loop.place c.loop.are_items c.put_parts.new.are_items
    c.args.first.nested c.args.first.stop c.loop.window.nested c.loop.window.end c.loop.window.stop c.args.out.now c.loop.out c.put_parts.new.out
    c.in_ok-head.head c.loop.invariant c.in_ok-head.ensures c.in-Closed-None.is-0 c.in-Closed-None.is-1

pub put_body-loop-preserved : goal.put_body-loop-preserved
put_body-loop-preserved g t c =
    let u : IsUtf8 c.args.text.now = search rules in
    let border : IsCharBoundary c.args.text.now c.args.place.now = search rules in
    elim c.match-window.branch [
      | put_body-in-More-None+in_ok-window-in-More-None w ↦
          let next = w.in_ok-window-in-More-None.window in
          rw (w.place-is, w.out-is, w.window-is, w.are_items-is) (
          goes_on g.E.Emit.meanings c.args.within c.args.text.now c.args.place.now c.args.depth u border c.loop.place c.loop.are_items
          c.put_parts.new.are_items c.args.first.nested c.args.first.stop c.loop.window.nested c.loop.window.end c.loop.window.stop c.args.out.now c.loop.out
          c.put_parts.new.out c.in_ok-head.head c.loop.invariant c.in_ok-head.ensures w.in-More-None.is-0 w.in-More-None.is-1
          next.nested next.end next.stop w.in_ok-window-in-More-None.ensures)
      | put_body-in-Opened-Some+in_ok-put_module-in-Opened-Some+in_ok-window-in-Opened-Some w ↦
          let next = w.in_ok-window-in-Opened-Some.window in
          rw (w.place-is, w.out-is, w.window-is, w.are_items-is) (
          goes_on_behind g.E.Emit.meanings c.args.within c.args.text.now c.args.place.now c.args.depth u border c.loop.place c.loop.are_items
          c.put_parts.new.are_items c.args.first.nested c.args.first.stop c.loop.window.nested c.loop.window.end c.loop.window.stop c.args.out.now c.loop.out
          c.put_parts.new.out c.in_ok-head.head c.loop.invariant c.in_ok-head.ensures (c.args.depth - 1) w.in-Opened-Some.head w.put_module.new.place
          w.put_module.new.out w.in-Opened-Some.is-0 w.in-Opened-Some.is-1 (omega (arith, w.if-depth-gt0.true)) w.in_ok-put_module-in-Opened-Some.ensures
          next.nested next.end next.stop w.in_ok-window-in-Opened-Some.ensures)
    ]

-- ---- modules

pub put_module-returns-then-is_empty_body : goal.put_module-returns-then-is_empty_body
put_module-returns-then-is_empty_body g t c =
    let m = g.E.Emit.meanings in
    let first = c.in_ok-first.first in
    let u : IsUtf8 c.args.text.now = search rules in
    let border : IsCharBoundary c.args.text.now c.args.place.now = search rules in
    let empty : is_empty_body first.nested first.stop ≡ true = search rules in
    told_ok c.put_empty.result c.told.result _ c.told.ensures (λ e.
    empty_module_put m c.args.within c.args.text.now c.args.place.now c.args.depth u border c.args.head.now first.nested first.end first.stop
    c.in_ok-first.ensures c.args.out.now c.put_empty.new.out empty (all_put m c.args.out.now c.put_empty.new.out _ c.put_empty.result c.put_empty.ensures e))

pub put_module-close-requires : goal.put_module-close-requires
put_module-close-requires g t c =
    let m = g.E.Emit.meanings in
    let first = c.in_ok-first.first in
    let u : IsUtf8 c.args.text.now = search rules in
    let border : IsCharBoundary c.args.text.now c.args.place.now = search rules in
    let opened = all_put m c.args.out.now c.open.new.out _ c.open.result c.open.ensures c.in_ok-told.ensures in
    let body = subst (λ (closed : Bool). PutsBody m true c.args.depth c.args.text.now c.args.place.now c.put_body.new.place first.nested first.stop closed
    c.open.new.out c.put_body.new.out) c.in-Ok-true.field-0-test c.in-Ok-true.ensures in
    may_end m c.args.within c.args.text.now c.args.place.now c.args.depth u border c.args.head.now first.nested first.end first.stop
    c.in_ok-first.ensures c.args.out.now c.open.new.out c.put_body.new.out c.put_body.new.place true opened body

pub put_module-returns-in-Ok-true : goal.put_module-returns-in-Ok-true
put_module-returns-in-Ok-true g t c =
    let m = g.E.Emit.meanings in
    let first = c.in_ok-first.first in
    let u : IsUtf8 c.args.text.now = search rules in
    let border : IsCharBoundary c.args.text.now c.args.place.now = search rules in
    let full : is_empty_body first.nested first.stop ≡ false = search rules in
    let opened = all_put m c.args.out.now c.open.new.out _ c.open.result c.open.ensures c.in_ok-told.ensures in
    let body = subst (λ (closed : Bool). PutsBody m true c.args.depth c.args.text.now c.args.place.now c.put_body.new.place first.nested first.stop closed
    c.open.new.out c.put_body.new.out) c.in-Ok-true.field-0-test c.in-Ok-true.ensures in
    told_ok c.close.result c.told-in-Ok-true.result _ c.told-in-Ok-true.ensures (λ e.
    full_module_put m c.args.within c.args.text.now c.args.place.now c.args.depth u border c.args.head.now first.nested first.end first.stop
    c.in_ok-first.ensures c.args.out.now c.open.new.out c.put_body.new.out c.close.new.out c.put_body.new.place full opened body
    (all_put m c.put_body.new.out c.close.new.out _ c.close.result c.close.ensures e))
