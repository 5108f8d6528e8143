use Rattle.std.proofs.Common.{refl}
use Rattle.lay_piece.specs.declared.kind.Kind.TheVariants as kind
use Rattle.lay_cook.proofs.CookLemmas.{literal}
use Rattle.lay_cook.proofs.cooking.cook.Goals as goal

pub cook_string-requires : goal.cook_string-requires
cook_string-requires c =
    literal kind.Str c.args.token.now.text c.piece_of.result.now refl (c.requires.text.string c.in-Str.is) c.piece_of.ensures

pub cook_raw-requires : goal.cook_raw-requires
cook_raw-requires c =
    literal kind.RawStr c.args.token.now.text c.piece_of-in-RawStr.result.now refl (c.requires.text.raw c.in-RawStr.is)
    c.piece_of-in-RawStr.ensures
