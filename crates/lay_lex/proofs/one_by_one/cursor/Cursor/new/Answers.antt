use Rattle.std.proofs.Common.{ℕ, List, ◌-◌, length, drop, ap, ◌∙◌, arith, length-drop}
use Rattle.std.specs.Str.{chars}
use Rattle.lay_token.specs.Lexes.{Other, tokens_from}
use Rattle.lay_lex.specs.one_by_one.Ahead.{parts_of}
use Rattle.lay_lex.proofs.one_by_one_lemmas.TokenLemmas.{lexed}
use Rattle.lay_lex.proofs.one_by_one.cursor.Cursor.new.Goals as goal

pub returns : goal.returns
returns c tokens l =
    let text = c.args.text.now in
    let start = c.args.start in
    ap (λ (x : List ℕ). tokens_from (length text - length x) (parts_of Other (chars x))) c.range_from.ensures.value
    ∙ ap (λ (n : ℕ). tokens_from n (parts_of Other (chars (drop start text)))) (omega (arith, length-drop start text, c.requires.0))
    ∙ lexed text start tokens l
