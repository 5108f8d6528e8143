use Rattle.std.proofs.Common.{rules, ◌≡◌, OnOk, ◌∷◌, ◌++◌, []}
use Rattle.lay_layout.specs.declared.layout.Tok.TheVariants as tok
use Rattle.lay_stream.proofs.ListedLemmas.{list_did}
use Rattle.lay_stream.proofs.stream.StreamEmit.begin.Goals as goal

pub returns-clause-did : goal.returns-clause-did
returns-clause-did c =
    let h : OnOk c.push.result (c.push.new.self ≡ c.args.self.now ++ tok.Begin c.args.consistent c.args.offset ∷ []) = search rules in
    list_did _ _ _ _ _ _ h c.push.ensures.err
