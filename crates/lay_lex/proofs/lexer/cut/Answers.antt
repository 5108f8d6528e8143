use Rattle.lay_lex.proofs.Cuts.{cut_border, cut_parts}
use Rattle.lay_lex.proofs.lexer.cut.Goals as goal

pub split_at-requires : goal.split_at-requires
split_at-requires c = cut_border c.args.s.now c.requires.0 c.requires.1 c.args.len c.utf8.s c.requires.2 c.requires.3

pub returns : goal.returns
returns c piece more e h =
    cut_parts c.args.s.now piece more c.split_at.result.0.now c.split_at.result.1.now c.args.len c.utf8.s e h
    c.split_at.ensures.front c.split_at.ensures.back
