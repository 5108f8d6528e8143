use Rattle.std.proofs.Common.{refl}
use Rattle.lay_lex.proofs.Windows.{refused, window_lexed}
use Rattle.lay_lex.proofs.lexer.tokens_of.Goals as goal

pub returns-in-Ok : goal.returns-in-Ok
returns-in-Ok c = window_lexed c.args.text.now c.args.start c.in-Ok.window (c.in-Ok.ensures.all refl) c.in-Ok.ensures.window

pub returns-in-Err : goal.returns-in-Err
returns-in-Err c = refused c.args.text.now c.args.start c.in-Err.error c.in-Err.ensures.window
