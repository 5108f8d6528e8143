use Rattle.std.proofs.Common.{IsUtf8, rules, ◌≡◌, true, ◌-◌, [], ◌∷◌, ◌++◌, refl, ap, ◌∙◌, subst, arith}
use Rattle.std.specs.Str.{IsCharBoundary}
use Rattle.lay_code.specs.declared.file.File.{File}
use Rattle.lay_code.specs.declared.item.Item.{Item}
use Rattle.lay_files.specs.windows.Bodies.{Ends}
use Rattle.lay_files.specs.windows.Parts.{module_of}
use Rattle.lay_files.proofs.windows_lemmas.Standing.{at_closed, at_end, at_module, at_more}
use Rattle.lay_files.proofs.windows.bodies.+read_body.Goals as goal
use Rattle.lay_files.proofs.windows.bodies.+read_body.Goals.{in-More-None, in-Opened-Some+in_ok-read_body-in-Opened-Some+else-not-branch+in_ok-item-in-Opened-Some+in_ok-keep-in-Opened-Some}

pub returns-in-End-None : goal.returns-in-End-None
returns-in-End-None t c =
    let u : IsUtf8 c.args.text.now = search rules in
    let border : IsCharBoundary c.args.text.now c.args.place.now = search rules in
    at_end c.args.text.now c.args.place.now u border c.args.depth c.loop.place c.in_ok-window.window.end
    c.loop.file c.read_parts.new.file c.in_ok-window.window.nested c.in_ok-window.window.stop c.in_ok-head.head c.loop.invariant c.in_ok-window.ensures
    c.in_ok-head.ensures c.in_ok-window.window.end c.in-End-None.is-0 c.in-End-None.is-1

pub returns-in-Closed-None : goal.returns-in-Closed-None
returns-in-Closed-None t c =
    let u : IsUtf8 c.args.text.now = search rules in
    let border : IsCharBoundary c.args.text.now c.args.place.now = search rules in
    at_closed c.args.text.now c.args.place.now u border c.args.depth c.loop.place c.in_ok-window.window.end
    c.loop.file c.read_parts.new.file c.in_ok-window.window.nested c.in_ok-window.window.stop c.in_ok-head.head c.loop.invariant c.in_ok-window.ensures
    c.in_ok-head.ensures c.in-Closed-None.is-0 c.in-Closed-None.is-1

pub loop-preserved : goal.loop-preserved
loop-preserved t c =
    let u : IsUtf8 c.args.text.now = search rules in
    let border : IsCharBoundary c.args.text.now c.args.place.now = search rules in
    elim c.match-window.branch [
      | in-More-None w ↦ rw (w.place-is, w.file-is) (
          at_more c.args.text.now c.args.place.now u border c.args.depth c.loop.place c.in_ok-window.window.end
          c.loop.file c.read_parts.new.file c.in_ok-window.window.nested c.in_ok-window.window.stop c.in_ok-head.head c.loop.invariant c.in_ok-window.ensures
          c.in_ok-head.ensures w.in-More-None.is-0 w.in-More-None.is-1)
      | in-Opened-Some+in_ok-read_body-in-Opened-Some+else-not-branch+in_ok-item-in-Opened-Some+in_ok-keep-in-Opened-Some w ↦
          let d = c.args.depth - 1 in
          let end = c.in_ok-window.window.end in
          let body = w.read_body.new.file in
          let behind = w.read_body.new.place in
          let read = w.in_ok-read_body-in-Opened-Some.ensures in
          let closed : w.in_ok-read_body-in-Opened-Some.field-0 ≡ true = search rules in
          let ends = subst (λ b. Ends c.args.text.now end behind read.0 b) closed read.2 in
          let last : File = record { shebang = c.read_parts.new.file.shebang; attrs = c.read_parts.new.file.attrs; items = w.keep.new.list } in
          let items : w.keep.new.list ≡ c.read_parts.new.file.items ++ module_of w.in-Opened-Some.head body ∷ [] =
          w.in_ok-keep-in-Opened-Some.ensures.ok
          ∙ ap (λ (x : Item). c.read_parts.new.file.items ++ x ∷ []) w.in_ok-item-in-Opened-Some.ensures in
          rw (w.place-is, w.file-is) (
          at_module c.args.text.now c.args.place.now u border c.args.depth c.loop.place end
          c.loop.file c.read_parts.new.file c.in_ok-window.window.nested c.in_ok-window.window.stop c.in_ok-head.head c.loop.invariant c.in_ok-window.ensures
          c.in_ok-head.ensures d w.in-Opened-Some.head body last behind w.in-Opened-Some.is-0 w.in-Opened-Some.is-1
          (omega (arith, w.if-depth-gt0.true)) (read.0, read.1, ends) refl items refl)
    ]
