use Rattle.std.proofs.Common.{refl, sym, ap, ◌∙◌}
use Rattle.lay_code.specs.reader.File.{front}
use Rattle.lay_read_tokens.specs.Answers.{AreLexed}
use Rattle.lay_read_code.proofs.Files.{file_spelled, no_item, none_ahead, one_ahead}
use Rattle.lay_read_code.proofs.file.read_file.Goals as goal

pub returns-in-Some : goal.returns-in-Some
returns-in-Some c =
    let read = ap (front c.args.depth) (sym c.cursor-at.ensures.tokens) ∙ c.in-Ok.ensures in
    let next = one_ahead c.read_front.new.at c.peek.result c.in-Some.token c.peek.ensures.token c.in-Some.is in
    no_item c.args.depth c.args.nested.now c.in-Ok.attrs c.in-Ok.items c.in-Some.token.now next.0 c.requires.lexed
    (read ∙ ap (λ left. ((c.in-Ok.attrs, c.in-Ok.items), left)) next.1)

pub returns-in-None : goal.returns-in-None
returns-in-None c =
    let read = ap (front c.args.depth) (sym c.cursor-at.ensures.tokens) ∙ c.in-Ok.ensures in
    let none = none_ahead c.read_front.new.at c.peek.result c.peek.ensures.token c.in-None.is in (
      refl,
      file_spelled c.args.depth c.args.nested.now c.args.shebang c.in-Ok.attrs c.in-Ok.items c.requires.lexed c.requires.good
          (read ∙ ap (λ left. ((c.in-Ok.attrs, c.in-Ok.items), left)) none),
    )
