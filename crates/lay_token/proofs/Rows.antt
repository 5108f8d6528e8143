-- Sources of texts that are written out, each worked out by hand.
use Rattle.std.proofs.Common.{refl}
use Rattle.std.specs.Prelude.{◌≡◌, [], ◌∷◌, codes, Some, None, Ok, Err}
use lib.Utf8.{encode}
use Rattle.std.specs.Str.{chars, is_utf8}
use Rattle.std.specs.Str.Lossy.{utf8_valid_len}
use Rattle.lay_token.specs.Source.{source, source_of, folded}
use Rattle.lay_text.specs.declared.refusal.Refusal.TheVariants.{NotUtf8}

-- sources, of characters
marked : folded (codes "a\r\n\r\r\n\r") ≡ codes "a\n\r\n\r"
unfolding encode
marked = refl

shebang : source_of (codes "#!/bin/sh\r\nx") ≡ record {
  text = codes "#!/bin/sh\r\nx";
  shebang =
      Some (codes "#!/bin/sh");
  start = 11;
}
unfolding encode
shebang = refl

no_shebang : ((source_of (codes "#! [a]\nx")).start ≡ 0) × ((source_of (codes "#!\t\nx")).start ≡ 0) × ((source_of (codes "#!//x")).start ≡ 0)
unfolding encode
no_shebang = (refl, refl, refl)

last_shebang : (source_of (codes "#!x")).start ≡ 3
unfolding encode
last_shebang = refl

invalid : source (97 ∷ 0xff ∷ []) ≡ Err (NotUtf8 1)
unfolding encode chars is_utf8 utf8_valid_len
invalid = refl

byte_order_mark : source (0xef ∷ 0xbb ∷ 0xbf ∷ 97 ∷ []) ≡ Ok (record { text = 97 ∷ []; shebang = None; start = 0 })
unfolding encode chars is_utf8
byte_order_mark = refl
