use Rattle.std.proofs.Common.{List, ℕ, ap, ◌∙◌}
use Rattle.std.specs.Prelude.{codes}
use Rattle.std.specs.Str.{bytes_eq}
use Rattle.lay_lex.specs.Added.{before as seen}
use Rattle.lay_lex.proofs.one_by_one_lemmas.TokenLemmas.{stepped, stepped_other}
use Rattle.lay_lex.proofs.one_by_one.cursor.behind_piece.Goals as goal

pub returns-in-Punct : goal.returns-in-Punct
returns-in-Punct c part k w t =
    stepped (seen c.args.before) (seen c.behind.result) c.args.kind c.args.piece.now c.args.touches c.is_point.result part c.in-Punct.is c.utf8.piece k w t
    (c.is_point.ensures ∙ ap (λ (x : List ℕ). bytes_eq x (codes ".")) c.as_bytes.ensures.value) c.behind.ensures

pub returns-in_default : goal.returns-in_default
returns-in_default c part k w t = stepped_other (seen c.args.before) c.args.kind part c.in_default.not-Punct k
