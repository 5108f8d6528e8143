use Rattle.std.proofs.Common.{◌≡◌, List, None, IsUtf8, sym, subst}
use Rattle.std.specs.Str.{IsCharBoundary}
use Rattle.lay_token.specs.Lexes.{Lexes}
use Rattle.lay_token.specs.declared.token.Token.{Token}
use Rattle.lay_code.specs.Reading.{SpellsFile}
use Rattle.lay_files.specs.windows.Bodies.{Ends}
use Rattle.lay_files.proofs.windows_lemmas.Standing.{file_read}
use Rattle.lay_files.proofs.windows.bodies.read_source.Goals as goal

pub returns-in-Ok-false : goal.returns-in-Ok-false
returns-in-Ok-false c =
    let text = c.as_str.result.now in
    let start = c.args.source.now.start in
    let file = c.read_body.new.file in
    let utf8 = subst IsUtf8 (sym c.as_str.ensures) c.requires.text in
    let border = subst (λ t. IsCharBoundary t start) (sym c.as_str.ensures) c.requires.border in
    let ends = subst (λ closed. Ends text start c.read_body.new.place c.in-Ok-false.ensures.0 closed) c.in-Ok-false.field-0-test c.in-Ok-false.ensures.2 in
    subst (λ t. (file.shebang ≡ None) × ((ts : List Token) × Lexes t start ts × SpellsFile c.args.depth file ts)) c.as_str.ensures
    (file_read c.args.depth text start file utf8 border (c.in-Ok-false.ensures.0, c.in-Ok-false.ensures.1, ends))
