use Rattle.std.proofs.Common.{refl, ap, ◌∙◌}
use Rattle.lay_map.specs.Ahead.{tokens_of}
use Rattle.lay_map.proofs.FileLemmas.{answered, at_start, fed_places}
use Rattle.lay_map.proofs.files.found.Goals as goal

pub returns : goal.returns
returns c =
    let file = c.args.file.now in
    let tokens = tokens_of c.args.tokens in
    answered file tokens c.into_units.result _ c.into_units.ensures
    (fed_places file tokens _ _ c.requires.lexed c.requires.spells
    (c.new-marker.ensures ∙ ap (at_start tokens) c.is_some.ensures) (c.in_ok-put_file.ensures.puts _ refl))
