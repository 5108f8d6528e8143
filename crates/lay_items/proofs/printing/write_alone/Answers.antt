-- The press is over the core and the sink that came in, and what comes back is the sink that was written.
use Rattle.std.proofs.Common.{rules, ◌≡◌, ℕ, List, get_or, ap, ◌∙◌, refl}
use Rattle.lay_layout.proofs.Whole.{closed_stream}
use Rattle.lay_printer.specs.Printers.{lent_core, press_loans}
use Rattle.lay_printer.proofs.Through.{Begins, printed_finish, level_zero}
use Rattle.lay_code.specs.Out.{layout_of_file}
use Rattle.lay_files.proofs.WritingLemmas.{file_written}
use Rattle.lay_items.specs.alone.Outputs.{alone}
use Rattle.lay_items.proofs.printing.write_alone.Goals as goal

pub returns : goal.returns
returns g c =
    let k = g.K.Sink in
    let x = c.new-press.result in
    let y = c.finish.new.self in
    let first : x.sink.now ≡ c.args.out.now = search rules in
    let fresh : x.core.now ≡ c.in-Ok.core = search rules in
    let b : Begins x.core.now (k.written x.sink.now) =
    record { fresh = search rules; runs = rw fresh (c.in-Ok.ensures.runs _) } in
    let same = c.finish.ensures.loans ∙ (c.in_ok-put_alone.ensures.puts _ refl).same_loans in
    let name : y.sink.ghost_name ≡ x.sink.ghost_name = ap (λ (loans : List ℕ). get_or loans 0 0) same in
    let last : y.sink.now ≡ c.out-2-1.given.0 = search (rules, name) in
    let h = printed_finish lent_core (λ p. k.written p.sink.now) (λ p. k.faults p.sink.now) (press_loans k.loan)
    x c.put_alone.new.out y _ _ _ b c.in_ok-put_alone.ensures c.finish.ensures.finishes in
    (file_written k.written k.faults k.loan x y _ _ (alone c.args.item.now) _ first last same h).whole

pub finish-requires : goal.finish-requires
finish-requires g c =
    let k = g.K.Sink in
    let x = c.new-press.result in
    let e : x.core.now.groups ≡ 0 = search rules in
    λ _. level_zero lent_core (λ p. k.written p.sink.now) (λ p. k.faults p.sink.now) (press_loans k.loan)
    x c.put_alone.new.out _ _ e c.in_ok-put_alone.ensures (closed_stream (layout_of_file (alone c.args.item.now))).1
