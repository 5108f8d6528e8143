use Rattle.std.proofs.Common.{List, ℕ, Bool, false, IsUtf8, sym, subst}
use Rattle.std.specs.Str.{IsCharBoundary}
use Rattle.lay_files.specs.streamed.Through.{PutsBody, PutsFile}
use Rattle.lay_files.proofs.streamed_lemmas.Growing.{file_put}
use Rattle.lay_files.proofs.streamed.bodies.put_source.Goals as goal

pub returns-in-Ok-false : goal.returns-in-Ok-false
returns-in-Ok-false g c =
    let m = g.E.Emit.meanings in
    let text = c.as_str-text.result.now in
    let start = c.args.source.now.start in
    let first = c.in_ok-first.first in
    let utf8 = subst IsUtf8 (sym c.as_str-text.ensures) c.requires.text in
    let border = subst (λ t. IsCharBoundary t start) (sym c.as_str-text.ensures) c.requires.border in
    let body = subst (λ (closed : Bool). PutsBody m false c.args.depth text start c.put_body.new.place first.nested first.stop closed c.args.out.now c.put_body.new.out)
    c.in-Ok-false.field-0-test c.in-Ok-false.ensures in
    subst (λ (t : List ℕ). PutsFile m c.args.depth t start c.args.out.now c.put_body.new.out) c.as_str-text.ensures
    (file_put m c.args.depth text start c.put_body.new.place first.nested first.stop c.args.out.now c.put_body.new.out utf8 border body)
