use Rattle.std.proofs.Common.{◌-◌, length, take}
use Rattle.std.proofs.lemmas.Str.Pattern.{ends_char}
use Rattle.lay_cook.proofs.EndLemmas.{ends_is}
use Rattle.lay_cook.proofs.cooking.ends_in.Goals as goal

pub returns : goal.returns
returns c =
    let bs = c.args.s.now in
    let e = ends_char c.args.mark bs c.ends_with.result c.ends_with.ensures.cases c.requires in
    ends_is bs c.args.mark c.ends_with.result c.requires c.utf8.s (λ h. (take (length bs - 1) bs, e.0 h)) e.1
