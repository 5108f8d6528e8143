-- Names, words of paths, and literals (Rust Reference, "Identifiers", "Keywords").
use Rattle.std.specs.Prelude.{ℕ, Bool, true, false, cond, ◌||◌, ◌==◌, List, [], ◌∷◌, codes, is_some}
use Rattle.std.specs.List.{list_all}
use Rattle.std.specs.Str.{chars, bytes_eq}
use Rattle.lay_piece.specs.Characters as char
use Rattle.lay_piece.specs.Chars.{after, is_nil, in_digits}
use Rattle.lay_piece.specs.Number.{is_bare_int, is_exponent_letter, is_sign}
use Rattle.lay_piece.specs.Value.{value_of}
use Rattle.lay_piece.specs.Word.{class_of}
use Rattle.lay_piece.specs.declared.kind.Kind.{Kind}
use Rattle.lay_piece.specs.declared.kind.Kind.TheVariants as kind
use Rattle.lay_piece.specs.declared.kind.Kind.TheVariants.{Ident, RawIdent}
use Rattle.lay_piece.specs.declared.word.Class.{Class}
use Rattle.lay_piece.specs.declared.word.Class.TheVariants.{Plain, PathWord}
use Rattle.lay_form.specs.Form.{Bit, Operator, Form, Leaf}
use Rattle.lay_node.specs.declared.token.Word.{Word}

abbrev pub is_plain : Class → Bool
is_plain Plain = true
is_plain _ = false

abbrev pub is_path_class : Class → Bool
is_path_class Plain = true
is_path_class PathWord = true
is_path_class _ = false

-- A name is an identifier that isn't a keyword, or a raw identifier.
abbrev pub is_name : Bool → List ℕ → Bool
is_name raw text = raw || is_plain (class_of text)

-- A word of a path is a name, or crate, self, super or Self.
abbrev pub is_path_word : Bool → List ℕ → Bool
is_path_word raw text = raw || is_path_class (class_of text)

abbrev pub are_path_words : List Word → Bool
are_path_words words = list_all (λ (w : Word). is_path_word w.raw w.text) words

abbrev pub leaf_of : Bool → List ℕ → Form → Form
leaf_of true text f = Leaf RawIdent text f
leaf_of false text f = Leaf Ident text f

abbrev pub colons : List Bit
colons = Operator (codes "::") ∷ []

-- A literal is a token of its own kind, or `true` or `false` (Rust Reference, "Literal expressions").
abbrev pub is_literal : Kind → List ℕ → Bool
is_literal kind.Ident text = bytes_eq text (codes "true") || bytes_eq text (codes "false")
is_literal kind.Char text = true
is_literal kind.Str text = true
is_literal kind.RawStr text = true
is_literal kind.Byte text = true
is_literal kind.ByteStr text = true
is_literal kind.RawByteStr text = true
is_literal kind.CStr text = true
is_literal kind.RawCStr text = true
is_literal kind.Int text = true
is_literal kind.Float text = true
is_literal _ text = false

abbrev pub is_number : Kind → Bool
is_number kind.Int = true
is_number kind.Float = true
is_number _ = false

-- ---- numbers without suffix

abbrev pub behind_sign : List ℕ → List ℕ
behind_sign [] = []
behind_sign (c ∷ cs) = cond (is_sign c) cs (c ∷ cs)

-- what follows an exponent, if there is one
abbrev pub behind_exponent : List ℕ → List ℕ
behind_exponent [] = []
behind_exponent (c ∷ cs) = cond (is_exponent_letter c) (after in_digits (behind_sign cs)) (c ∷ cs)

-- what follows a fraction and an exponent, if there are any
abbrev pub behind_fraction : List ℕ → List ℕ
behind_fraction [] = []
behind_fraction (c ∷ cs) = cond (c == char.point) (behind_exponent (after in_digits cs)) (behind_exponent (c ∷ cs))

-- A number has no suffix (Rust Reference, "Number literals"). Such a number is ASCII, so its bytes are its characters.
abbrev pub is_bare_number : Kind → List ℕ → Bool
is_bare_number kind.Int text = is_bare_int text
is_bare_number kind.Float text = is_nil (behind_fraction (after in_digits text))
is_bare_number _ text = false

-- a string without suffix
abbrev pub is_string : Kind → List ℕ → Bool
is_string k text = is_some (value_of k (chars text))
