-- The press is over the core and the sink that came in, and what comes back is the sink that was written.
use Rattle.std.proofs.Common.{rules, ◌≡◌, ℕ, List, get_or, ap, ◌∙◌}
use Rattle.lay_layout.proofs.Whole.{closed_stream}
use Rattle.lay_stream.proofs.Calls.{then_puts}
use Rattle.lay_printer.specs.Printers.{lent_core, press_loans, press_meanings}
use Rattle.lay_printer.proofs.Through.{Begins, printed_finish, level_zero}
use Rattle.lay_code.specs.Out.{layout_of_file}
use Rattle.lay_files.proofs.streamed_lemmas.Rows.{all_put, went_well}
use Rattle.lay_files.specs.Readings.{behind_line}
use Rattle.lay_files.proofs.WritingLemmas.{behind_first, file_written, told_all}
use Rattle.lay_files.proofs.through.write_source.Goals as goal

pub returns : goal.returns
returns g c =
    let k = g.K.Sink in
    let m = press_meanings k.written k.faults k.loan in
    let x = c.new-press.result in
    let y = c.finish.new.self in
    let z = c.put_source.new.out in
    let source = c.args.source.now in
    let fed = c.in_ok-put_source.ensures in
    let whole = behind_line source.shebang fed.file in
    let first : x.sink.now ≡ c.args.out.now = search rules in
    let fresh : x.core.now ≡ c.in-Ok.core = search rules in
    let b : Begins x.core.now (k.written x.sink.now) =
    record { fresh = search rules; runs = rw fresh (c.in-Ok.ensures.runs _) } in
    let line = all_put m x c.put_shebang.new.out _ _ c.put_shebang.ensures c.in_ok-told.ensures in
    let puts = then_puts line fed.puts (behind_first source.shebang fed.file fed.reads.0) in
    let did = went_well m x z _ puts in
    let same = c.finish.ensures.loans ∙ puts.same_loans in
    let name : y.sink.ghost_name ≡ x.sink.ghost_name = ap (λ (loans : List ℕ). get_or loans 0 0) same in
    let last : y.sink.now ≡ c.out-2-1.given.0 = search (rules, name) in
    let h = printed_finish lent_core (λ p. k.written p.sink.now) (λ p. k.faults p.sink.now) (press_loans k.loan)
    x z y _ _ _ b did c.finish.ensures.finishes in
    let w = file_written k.written k.faults k.loan x y _ _ whole _ first last same h in
    told_all c.finish.result _ _ _ c.told-2.ensures w.whole (λ grew. record { file = fed.file; reads = fed.reads; grew = grew })

pub finish-requires : goal.finish-requires
finish-requires g c =
    let k = g.K.Sink in
    let m = press_meanings k.written k.faults k.loan in
    let x = c.new-press.result in
    let z = c.put_source.new.out in
    let fed = c.in_ok-put_source.ensures in
    let source = c.args.source.now in
    let line = all_put m x c.put_shebang.new.out _ _ c.put_shebang.ensures c.in_ok-told.ensures in
    let puts = then_puts line fed.puts (behind_first source.shebang fed.file fed.reads.0) in
    let e : x.core.now.groups ≡ 0 = search rules in
    λ _. level_zero lent_core (λ p. k.written p.sink.now) (λ p. k.faults p.sink.now) (press_loans k.loan)
    x z _ _ e (went_well m x z _ puts) (closed_stream (layout_of_file (behind_line source.shebang fed.file))).1
