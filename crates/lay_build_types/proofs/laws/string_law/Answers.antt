use Rattle.std.proofs.lemmas.Str.{IsUtf8-from_is_utf8}
use Rattle.lay_build_types.proofs.StringLemmas.{literal_value}
use Rattle.lay_build_types.proofs.laws.string_law.Goals as goal

pub returns : goal.returns
returns c text utf8 = literal_value text (IsUtf8-from_is_utf8 text utf8)
