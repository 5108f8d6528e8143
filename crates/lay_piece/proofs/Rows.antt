-- The definitions at texts that are written out, each worked out by hand.
use Rattle.std.proofs.Common.{refl}
use Rattle.std.specs.Prelude.{◌≡◌, true, false, [], ◌∷◌, codes, Some, None}
use lib.Utf8.{encode}
use Rattle.unicode_ident.proofs.Computing.{unicode_ident}
use Rattle.lay_piece.specs.Chars.{starts_word, in_word}
use Rattle.lay_piece.specs.Scan.{run}
use Rattle.lay_piece.specs.Quoted.{string_step, char_step, raw_step, block_step, doc_step, escape_step}
use Rattle.lay_piece.specs.Gap.{gap_step, is_gap, is_last_gap}
use Rattle.lay_piece.specs.Forms.{had, has_form, may_precede, after_literal}
use Rattle.lay_piece.specs.Value.{adds, string_value, value_of}
use Rattle.lay_piece.specs.declared.kind.Kind.TheVariants.{Ident, RawIdent, Lifetime, Char, Str, RawStr, CStr, Int, Float, Doc}

unfoldable opened : Unit {0}
unfolding encode unicode_ident starts_word in_word run string_step char_step raw_step block_step doc_step escape_step gap_step had has_form may_precede after_literal adds string_value
opened = tt

-- words
name_before_field : had Ident (codes "x") (codes ".0.1") false ≡ true
unfolding opened
name_before_field = refl

name_in_other_letters : had Ident (0xe9 ∷ 0x4e2d ∷ []) [] false ≡ true
unfolding opened
name_in_other_letters = refl

name_before_quote : had Ident (codes "k") (codes "\"s\"") false ≡ false
unfolding opened
name_before_quote = refl

raw_name : had RawIdent (codes "r#type") [] false ≡ true
unfolding opened
raw_name = refl

raw_self : had RawIdent (codes "r#self") [] false ≡ false
unfolding opened
raw_self = refl

-- numbers
index : had Int (codes "0") (codes ".1") true ≡ true
unfolding opened
index = refl

no_float_at_index : had Float (codes "0.1") [] true ≡ false
unfolding opened
no_float_at_index = refl

suffix_at_index : had Int (codes "0u8") [] true ≡ true
unfolding opened
suffix_at_index = refl

before_range : had Int (codes "0") (codes "..1") false ≡ true
unfolding opened
before_range = refl

before_method : had Int (codes "1") (codes ".a") false ≡ true
unfolding opened
before_method = refl

lone_point : had Float (codes "1.") [] false ≡ true
unfolding opened
lone_point = refl

no_int_before_point : had Int (codes "1") (codes ".") false ≡ false
unfolding opened
no_int_before_point = refl

exponents : (had Float (codes "1e5f") [] false ≡ true) × (had Float (codes "1e5e3") [] false ≡ true)
    × (had Float (codes "1_e5") [] false ≡ true)
unfolding opened
exponents = (refl, refl, refl)

no_exponent : (had Int (codes "1e") [] false ≡ false) × (had Float (codes "1e") [] false ≡ false)
unfolding opened
no_exponent = (refl, refl)

outside_base : (had Int (codes "0b12") [] false ≡ false) × (had Int (codes "0b1_2") [] false ≡ false)
unfolding opened
outside_base = (refl, refl)

no_based_float : had Int (codes "0x1") (codes ".0") false ≡ false
unfolding opened
no_based_float = refl

-- quotes
character : (had Char (codes "'a'") [] false ≡ true) × (had Char (codes "'\\u{1_F6_00}'") [] false ≡ true)
unfolding opened
character = (refl, refl)

lifetime : (had Lifetime (codes "'a") [] false ≡ true) × (had Lifetime (codes "'ab") (codes "'") false ≡ false)
unfolding opened
lifetime = (refl, refl)

raw_string : had RawStr (codes "r##\"x\"#\"##") [] false ≡ true
unfolding opened
raw_string = refl

no_nul : had CStr (codes "c\"\\0\"") [] false ≡ false
unfolding opened
no_nul = refl

-- comments
unclosed : is_last_gap (codes "/*/**/") ≡ false
unfolding opened
unclosed = refl

plain_comments : is_last_gap (codes "////x\n/***/ /**/ /* /* */ */ //y") ≡ true
unfolding opened
plain_comments = refl

documentation : (had (Doc false true) (codes "/** one */") [] false ≡ true) × (is_gap (codes "/** one */") ≡ false)
unfolding opened
documentation = (refl, refl)

-- values
value : value_of Str (codes "\"a\\n\\x41\\u{1f6_00}\\\n  \\\\\"") ≡ Some (97 ∷ 10 ∷ 65 ∷ 0x1f600 ∷ 92 ∷ [])
unfolding opened
value = refl

raw_value : value_of RawStr (codes "r#\"a\\n\"\"#") ≡ Some (codes "a\\n\"")
unfolding opened
raw_value = refl

no_value : value_of Str (codes "\"a\"u") ≡ None
unfolding opened
no_value = refl
