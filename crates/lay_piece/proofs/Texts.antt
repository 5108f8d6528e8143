-- Bytes of a text, where its characters are known.
use Rattle.std.proofs.Common.{◌≡◌, ℕ, ◌+◌, ◌-◌, List, ◌++◌, length, take, sym, ap, ◌∙◌, arith, length-append, IsUtf8}
use Rattle.std.proofs.Math.Seq.{take-append_seam}
use Rattle.std.specs.Str.{chars, encode_utf8_all}
use Rattle.std.proofs.lemmas.Str.{encodes-append, encodes-chars}

-- the text is the bytes of these characters and the rest
pub text_parts : (s r : List ℕ) (ds : List ℕ) → IsUtf8 s → IsUtf8 r → chars s ≡ ds ++ chars r
    → s ≡ encode_utf8_all ds ++ r
text_parts s r ds us ur e =
    sym (encodes-chars s us) ∙ ap encode_utf8_all e ∙ encodes-append ds (chars r)
    ∙ ap (λ b. encode_utf8_all ds ++ b) (encodes-chars r ur)

pub length_parts : (s r : List ℕ) (ds : List ℕ) → IsUtf8 s → IsUtf8 r → chars s ≡ ds ++ chars r
    → length s ≡ length (encode_utf8_all ds) + length r
length_parts s r ds us ur e = ap length (text_parts s r ds us ur e) ∙ length-append (encode_utf8_all ds) r

pub bytes_before : (s r : List ℕ) (ds : List ℕ) → IsUtf8 s → IsUtf8 r → chars s ≡ ds ++ chars r
    → take (length s - length r) s ≡ encode_utf8_all ds
bytes_before s r ds us ur e =
    let n : length s - length r ≡ length (encode_utf8_all ds) = omega (arith, length_parts s r ds us ur e) in
    ap (λ k. take k s) n ∙ ap (take (length (encode_utf8_all ds))) (text_parts s r ds us ur e)
    ∙ take-append_seam (encode_utf8_all ds) r
