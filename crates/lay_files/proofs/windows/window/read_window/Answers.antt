use Rattle.std.proofs.Common.{refl, sym, subst}
use Rattle.lay_files.specs.windows.Windows.{IsWindow}
use Rattle.lay_files.proofs.windows_lemmas.Tokens.{window_read}
use Rattle.lay_files.proofs.windows.window.read_window.Goals as goal

pub returns-in-Ok-nest : goal.returns-in-Ok-nest
returns-in-Ok-nest c =
    let w = window_read c.args.text.now c.args.place c.requires.text c.requires.border c.in-Ok.window.stop c.in-Ok.window.tokens
    c.in_ok-tokens.tokens c.in-Ok.window refl c.in-Ok.ensures c.in_ok-tokens.ensures in
    subst (λ ts. IsWindow c.args.text.now c.args.place ts c.in-Ok.window.end c.in-Ok.window.stop) (sym c.in-Ok-nest.ensures.answer.0) w
